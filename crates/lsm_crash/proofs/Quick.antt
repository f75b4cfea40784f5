-- A quick answer is that of all that came in.
use Rattle.std.proofs.Common.{◌≡◌, ℕ, zero, suc, ◌+◌, ◌<◌, ◌≤◌, ◌^◌, Bool, true, false, not, List}
use Rattle.std.proofs.Common.{[], ◌∷◌, ◌++◌, length, get_or, refl, sym, ◌∙◌, ap, subst, inl, inr}
use Rattle.std.proofs.Common.{arith, None, Some}
use Rattle.std.specs.Prelude.{◌⊎◌, Option}
use Rattle.std.specs.List.{filter}
use Rattle.lsm_codec.specs.Entries.{Entry, answer}
use Rattle.lsm_codec.specs.Lists.{Has}
use Rattle.lsm_codec.proofs.CallerLemmas.{has_filter, has_left, has_right}
use Rattle.lsm_storage.specs.FileNames.{table_name}
use Rattle.lsm_shelf.specs.Told.{Told}
use Rattle.lsm_manifest.specs.FileOrder.{TableFile}
use Rattle.lsm_table.specs.Registry.{Table}
use Rattle.lsm_model.specs.Files.{File, all_entries}
use Rattle.lsm_version.specs.Changes.{placed_all, placed_in}
use Rattle.lsm_version.specs.Versions.{IsSound, Levels, file_of, files, level_in, numbers_in}
use Rattle.lsm_version.specs.Versions.{stands_before}
use Rattle.lsm_version.proofs.CallerLemmas.{file_in, in_files, inside}
use Rattle.lsm_verify.specs.Loading.{placed_levels}
use Rattle.lsm_journal.specs.Recorded.{meta_of}
use Rattle.lsm_admission.specs.Answered.{IsAnswered}
use Rattle.lsm_admission.specs.FoundTables.{AreFoundFor, AreLevelsFound, IsFoundFor, IsFoundFrom}
use Rattle.lsm_admission.specs.Keeping.{KeepsTables}
use Rattle.lsm_crash.specs.Disk.{Disk, Shows}
use Rattle.lsm_crash.specs.Versions.{ComesTo, Version}
use Rattle.lsm_crash.specs.Known.{IsVacant, current_name}
use Rattle.lsm_crash.specs.States.{Describes, Shown}
use Rattle.lsm_crash.specs.Lives.{Answers}
use Rattle.lsm_crash.specs.Kept.{FindsShown}
use Rattle.lsm_crash.proofs.Found.{same_file}
use Rattle.lsm_crash.proofs.Opening.{shows_one}
use Rattle.lsm_crash.proofs.Answering.{same_answers}
use Rattle.lsm_crash.proofs.Keeping.{found_fewer, found_file, shape_of}
use Rattle.lsm_crash.proofs.Lasting.{recovered_comes, shelf_kept}
use Rattle.lsm_crash.proofs.Shown.{shown_shape, sound_shown}

-- ---- tables that were found stand in their levels

either : (p : Table → Bool) (us : List Table) (x : Table) → Has us x
    → Has (filter (λ u. not (p u)) us) x ⊎ Has (filter p us) x
either p us x h = go (p x) refl
  where
    go : (b : Bool) → p x ≡ b → Has (filter (λ u. not (p u)) us) x ⊎ Has (filter p us) x
    go true e = inr (has_filter p us x h e)
    go false e = inl (has_filter (λ u. not (p u)) us x h (ap not e))

has_placed : (t : Table) (us : List Table) (x : Table) → (t ≡ x) ⊎ Has us x → Has (placed_in t us) x
unfolding placed_in
has_placed t us x h =
    let p : Table → Bool = λ u. stands_before t u in
    let q : Table → Bool = λ u. not (stands_before t u) in
    elim h [
      | inl same ↦ has_right (filter q us) (t ∷ filter p us) x (inl same)
      | inr k ↦ elim (either p us x k) [
        | inl a ↦ has_left (filter q us) (t ∷ filter p us) x a
        | inr b ↦ has_right (filter q us) (t ∷ filter p us) x (inr b)
      ]
    ]

has_all : (ts us : List Table) (x : Table) → Has ts x ⊎ Has us x → Has (placed_all ts us) x
has_all [] us x h = elim h [ inl a ↦ absurd a | inr b ↦ b ]
has_all (t ∷ ts) us x h = has_all ts (placed_in t us) x
    (elim h as (λ _. Has ts x ⊎ Has (placed_in t us) x) [
      | inl a ↦ elim a [ inl same ↦ inr (has_placed t us x (inl same)) | inr b ↦ inl b ]
      | inr c ↦ inr (has_placed t us x (inr c))
    ])

placed_at : (found : List (List Table)) (level : ℕ) (t : Table) → Has (level_in found level) t
    → Has (level_in (placed_levels found) level) t
placed_at [] level t h = absurd h
placed_at (ts ∷ found) zero t h = has_all ts [] t (inl h)
placed_at (ts ∷ found) (suc level) t h = placed_at found level t h

-- one for each file
found_of : (K : ℕ → List ℕ → Type 0) (files : List TableFile) (ts : List Table)
    → AreFoundFor K files ts → (f : TableFile) → Has files f
    → (t : Table) × Has ts t × IsFoundFor K f t
found_of K [] ts all f h = absurd h
found_of K (g ∷ files) [] all f h = absurd all
found_of K (g ∷ files) (t ∷ ts) all f (inl e) = (
  t,
  inl refl,
  subst
      (λ (x : TableFile). IsFoundFor K x t) e all.0,
)
found_of K (g ∷ files) (t ∷ ts) all f (inr h) = (let r = found_of K files ts all.1 f h in
    (r.0, inr r.1, r.2))

found_in : (K : ℕ → List ℕ → Type 0) (shape : List (List TableFile)) (found : List (List Table))
    → AreLevelsFound K shape found → (level : ℕ) (f : TableFile) → Has (get_or shape level []) f
    → (t : Table) × Has (level_in found level) t × IsFoundFor K f t
found_in K [] found all level f h = absurd h
found_in K (fs ∷ shape) [] all level f h = absurd all
found_in K (fs ∷ shape) (ts ∷ found) all zero f h = found_of K fs ts all.0 f h
found_in K (fs ∷ shape) (ts ∷ found) all (suc level) f h = found_in K shape found all.1 level f h

-- so each file of the version that is shown was found
module _ (x : Levels) (d : Disk) (s : Shown x d) (shape : Version) (seven : length x.tables ≡ 7)
    (a : Describes shape x) (u : Levels) (f : IsFoundFrom (λ n image. Shows d (table_name n) image)
    shape u) where
  file_found : (F : File) → Has (files x) F → Has (files u) F
  file_found F h =
      let at = file_in 0 x.tables F h in
      let level = at.0 in
      let t = at.1 in
      let le : level ≤ 6 = (let lt = inside x.tables level t at.2 in omega arith) in
      let named : Has (get_or shape.levels level []) (meta_of t) = (a.files level (meta_of t) le).1
      (t, at.2, refl) in
      let g =
      found_in (λ n image. Shows d (table_name n) image) shape.levels f.tables.found.found
      f.tables.found.are level (meta_of t) named in
      let b = g.0 in
      let there : Has (level_in u.tables level) b = subst
      (λ (ls : List (List Table)). Has (level_in ls level) b) (sym f.tables.found.placed)
      (placed_at f.tables.found.found level b g.1) in
      let image : b.image ≡ t.image =
      shows_one d (table_name t.number) b.image t.image
      (subst (λ (n : ℕ). Shows d (table_name n) b.image) g.2.number g.2.kept)
      (s.tables level t at.2) in
      let same : file_of (0 + level) b ≡ file_of (0 + level) t = same_file (0 + level) b t
      g.2.number g.2.smallest g.2.largest image in
      subst (Has (files u)) (same ∙ at.3) (in_files 0 u.tables level b there)

-- ---- the answer

module _ (Keeps : ℕ → List ℕ → Type 0) (honest : Type 0) (shape : Version) (user : List ℕ)
    (a : Option (List ℕ)) (was is : Told)
    (q : IsAnswered Keeps (honest × KeepsTables Keeps shape) shape user a was is) (fair : honest)
    (d : Disk) (r : FindsShown Keeps q.held shape d) where
  small : q.held.number < 2 ^ 64
  small =
      let lt =
      q.admitted.least.0.1 q.held.number (has_right (q.admitted.listed ++ numbers_in q.version)
      (q.held.number ∷ []) q.held.number (inl refl)) in
      let fits = q.admitted.fits in
      omega arith

  comes : ComesTo q.held.bytes shape
  comes = recovered_comes q.held shape q.rest q.admitted.recovered

  -- of a sound version that the folder shows, and of all that it answers with
  pub shown_answer : (x : Levels) (fs : List Entry) → IsSound x → Shown x d → length x.tables ≡ 7
      → Answers x fs → a ≡ answer fs user x.last
  shown_answer x fs sound s seven all =
      let tables : KeepsTables Keeps shape =
      shelf_kept Keeps d shape (sound_shown x d sound s q.held.number q.held.bytes shape small
      r.current r.manifest comes) r.images in
      let its : Describes shape x =
      subst (λ y. Describes y x) (shown_shape x d s q.held.number q.held.bytes shape small
      r.current r.manifest comes) s.describes in
      let found =
      found_fewer Keeps (λ n image. Shows d (table_name n) image) shape q.version r.images
      q.admitted.found in
      let last : x.last ≡ q.version.last = sym its.last ∙ sym found.last in
      let same : Answers q.version fs =
      same_answers x q.version fs (q.sound (fair, tables)).lawful
      (file_found x d s shape seven its q.version found)
      (found_file x shape sound (shape_of q.held.bytes shape comes) its
      (λ n image. Shows d (table_name n) image)
      (λ level t image h k. shows_one d (table_name t.number) image t.image k
      (s.tables level t h)) s.tables q.version found) last all in
      q.answer (fair, tables) ∙ (ap (answer (all_entries (files q.version)) user) (sym found.last) ∙
      (same.reads user ∙ ap (answer fs user) (sym last)))

  -- without `CURRENT` nothing was read
  pub vacant_none : IsVacant d → ⊥
  vacant_none vacant =
      none_is r.current.0 (sym
      (vacant.none (d.names current_name) (d.names, vacant.sound.now, refl)) ∙ r.current.1)
    where
      none_is : (i : ℕ) → None ≡ Some i → ⊥
      none_is i e = cc
