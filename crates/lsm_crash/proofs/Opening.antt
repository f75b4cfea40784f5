-- A database is opened over what was found, or made in a folder without one.
use Rattle.std.proofs.Common.{◌≡◌, ℕ, ◌+◌, ◌<◌, ◌^◌, Bool, true, false, List, [], ◌∷◌, ◌++◌, map, refl, sym, ◌∙◌, ap, subst, inl, inr, arith, Some, None}
use Rattle.std.specs.Prelude.{◌==◌, if◌then◌else◌}
use Rattle.std.proofs.lemmas.Bool.{eq-eqb, eqb-true}
use Rattle.atomic_table.specs.Seated.{TableId}
use Rattle.lsm_codec.specs.Lists.{Has}
use Rattle.lsm_codec.proofs.CallerLemmas.{any_at, any_says, has_left, has_right}
use Rattle.lsm_storage.specs.FileNames.{table_name, manifest_name, current_text}
use Rattle.lsm_storage.specs.Plans.{start_plan}
use Rattle.lsm_shelf.specs.Asked.{Asked}
use Rattle.lsm_table.specs.Registry.{Table}
use Rattle.lsm_model.specs.Files.{File}
use Rattle.lsm_version.specs.Versions.{Levels, file_of, files, level_in, numbers_in}
use Rattle.lsm_version.proofs.CallerLemmas.{in_files}
use Rattle.lsm_journal.specs.HeldManifest.{HeldManifest}
use Rattle.lsm_journal.specs.Finding.{taken_numbers}
use Rattle.lsm_state.specs.Collecting.{is_in}
use Rattle.lsm_state.specs.Held.{Held, IsLawfulState}
use Rattle.lsm_crash.specs.Disk.{Disk, Shows}
use Rattle.lsm_crash.specs.Crash.{Found, IsLeft}
use Rattle.lsm_crash.specs.Versions.{AreThere, ComesTo, Tables, Version}
use Rattle.lsm_crash.specs.Known.{IsSettled, World, current_name}
use Rattle.lsm_crash.specs.Operations.{Allows, Start, after, either}
use Rattle.lsm_crash.specs.Among.{CutDropping, DoneDropping}
use Rattle.lsm_crash.specs.States.{Describes, Finds, HasTables, IsWorldOf}
use Rattle.lsm_crash.specs.Database.{HasMade, Opens, only_of, opened_world, plans_of}
use Rattle.lsm_crash.proofs.Names.{texts_apart}
use Rattle.lsm_crash.proofs.Standing.{stands_shows}
use Rattle.lsm_crash.proofs.Held.{surely_recovers}
use Rattle.lsm_crash.proofs.Runs.{cut_held, done_settled}
use Rattle.lsm_crash.proofs.Forms.{recorded_describes, table_named}
use Rattle.lsm_crash.proofs.Deeds.{are_there}
use Rattle.lsm_crash.proofs.Asking.{open_asks}
use Rattle.lsm_crash.proofs.Turning.{finds}
use Rattle.lsm_journal.specs.declared.manifest_limit.ManifestLimit.{ManifestLimit}

-- ---- a name shows one text

file_is : (a b : ℕ) → Some a ≡ Some b → a ≡ b
file_is a b e = cc

pub shows_one : (d : Disk) (q a b : List ℕ) → Shows d q a → Shows d q b → a ≡ b
shows_one d q a b s t = sym s.2 ∙ (ap d.bytes (file_is s.0 t.0 (sym s.1 ∙ t.1)) ∙ t.2)

-- ---- fewer tables are counted on

pub settled_fewer : (d : Disk) (w : World) (tables : Tables) → IsSettled d w → ((n : ℕ) (image : List ℕ) → tables n ≡ Some image → w.tables n ≡ Some image) → AreThere w.version tables → IsSettled d (record w { tables = tables })
settled_fewer d w tables i less there = record {
  sound = i.sound;
  small = i.small;
  current = i.current;
  its = i.its;
  comes = i.comes;
  tables = λ n image k. i.tables n image (less n image k);
  there = there;
}

pub only_less : (numbers : List ℕ) (tables : Tables) (n : ℕ) (image : List ℕ) → only_of numbers tables n ≡ Some image → Has numbers n × (tables n ≡ Some image)
only_less numbers tables n image k = by (is_in numbers n) refl k
  where
    by : (b : Bool) → is_in numbers n ≡ b → (if b then tables n else None) ≡ Some image → Has numbers n × (tables n ≡ Some image)
    by true e k = (let at = any_says (λ m. m == n) numbers e in (subst (Has numbers) (eqb-true at.0 n at.2) at.1, k))
    by false e k = absurd cc

pub only_has : (numbers : List ℕ) (tables : Tables) (n : ℕ) → Has numbers n → only_of numbers tables n ≡ tables n
only_has numbers tables n h = ap (λ (b : Bool). if b then tables n else None) (any_at (λ m. m == n) numbers n h (eq-eqb n n refl))

has_number : (fs : List File) (f : File) → Has fs f → Has (map (λ F. F.number) fs) f.number
has_number [] f h = absurd h
has_number (g ∷ fs) f (inl e) = inl (ap (λ (F : File). F.number) e)
has_number (g ∷ fs) f (inr h) = inr (has_number fs f h)

pub number_in : (v : Levels) (level : ℕ) (t : Table) → Has (level_in v.tables level) t → Has (numbers_in v) t.number
number_in v level t h = has_number (files v) (file_of (0 + level) t) (in_files 0 v.tables level t h)

-- ---- the calls that an opening makes

module _ (honest : Type 0) (limit : ManifestLimit) (h : Held) (d : Disk) (p : Opens honest limit h d) (asks : List Asked) (made : HasMade asks p.was p.is) where
  pub opening_done : (tables : Tables) (e : Disk)
      → DoneDropping tables h.journal.number (plans_of p.begun.before.number asks) d e
      → DoneDropping tables h.journal.number (start_plan h.journal.number h.journal.bytes) d e
  opening_done tables e done =
      subst (λ xs. DoneDropping tables h.journal.number (plans_of p.begun.before.number xs) d e)
      (open_asks honest limit h d p asks made) done

  pub opening_cut : (tables : Tables) (e : Disk)
      → CutDropping tables h.journal.number (plans_of p.begun.before.number asks) d e
      → CutDropping tables h.journal.number (start_plan h.journal.number h.journal.bytes) d e
  opening_cut tables e cut =
      subst (λ xs. CutDropping tables h.journal.number (plans_of p.begun.before.number xs) d e)
      (open_asks honest limit h d p asks made) cut

-- ---- an opening

module _ (honest : Type 0) (board : TableId) (limit : ManifestLimit) (h : Held) (d : Disk) (w : World) (v : Version) (l : IsLawfulState honest board h) (i : IsSettled d w) (p : Opens honest limit h d) (to : ComesTo h.journal.bytes v) where
  above : (m : ℕ) → Has (taken_numbers p.begun.found.listed h.slots.version p.begun.before.number) m → m < p.begun.number
  above m k = p.begun.found.least.0.1 m k

  above_own : p.begun.before.number < p.begun.number
  above_own = above p.begun.before.number (has_right (p.begun.found.listed ++ numbers_in h.slots.version) (p.begun.before.number ∷ []) p.begun.before.number (inl refl))

  above_version : (n : ℕ) → Has (numbers_in h.slots.version) n → n < p.begun.number
  above_version n k = above n (has_left (p.begun.found.listed ++ numbers_in h.slots.version) (p.begun.before.number ∷ []) n (has_right p.begun.found.listed (numbers_in h.slots.version) n k))

  small : p.begun.number < 2 ^ 64
  small = (let a = p.begun.after in let b = p.begun.fits in omega arith)

  number_is : w.manifest ≡ p.begun.before.number
  number_is = texts_apart w.manifest p.begun.before.number i.small (let a = above_own in let b = small in omega arith) (shows_one d current_name (current_text w.manifest) (current_text p.begun.before.number) (stands_shows d current_name (current_text w.manifest) i.sound i.current) p.current)

  bytes_are : w.bytes ≡ p.begun.before.bytes
  bytes_are = shows_one d (manifest_name w.manifest) w.bytes p.begun.before.bytes (stands_shows d (manifest_name w.manifest) w.bytes i.sound i.its) (subst (λ n. Shows d (manifest_name n) p.begun.before.bytes) (sym number_is) p.manifest)

  -- the manifest that was found describes the version
  pub found_describes : Describes w.version h.slots.version
  found_describes = recorded_describes p.begun.rest p.begun.before h.slots.version p.begun.found.shape.next w.version p.begun.found.loaded.recorded (subst (λ b. ComesTo b w.version) bytes_are i.comes)

  pub new_describes : Describes v h.slots.version
  new_describes = recorded_describes l.journaled.0 h.journal h.slots.version h.next v l.journaled.1 to

  image_at : (t : Table) → (k : (image : List ℕ) × (w.tables t.number ≡ Some image)) → Shows d (table_name t.number) t.image → w.tables t.number ≡ Some t.image
  image_at t k s = (let at = i.tables t.number k.0 k.1 in k.1 ∙ ap Some (shows_one d (table_name t.number) k.0 t.image (stands_shows d (table_name t.number) k.0 i.sound at.1) s))

  pub opened_has : HasTables w.tables h.slots.version
  opened_has level t k = image_at t (i.there t.number (table_named w.version h.slots.version level t found_describes p.begun.found.loaded.recorded.own.seven k)) (p.images level t k)

  only_tables : HasTables (only_of (numbers_in h.slots.version) w.tables) h.slots.version
  only_tables level t k = only_has (numbers_in h.slots.version) w.tables t.number (number_in h.slots.version level t k) ∙ opened_has level t k

  pub opening_allowed : Allows w (Start h.journal.number h.journal.bytes v)
  opening_allowed = subst (λ n. Allows w (Start n h.journal.bytes v)) (sym (ap (λ (j : HeldManifest). j.number) p.begun.rolls.held)) record {
    small = small;
    other = λ k. elim k [ inl e ↦ (let a = above_own in let b : p.begun.before.number ≡ p.begun.number = sym number_is ∙ e in omega arith) | inr none ↦ none ];
    comes = to;
    there = are_there v h.slots.version w.tables new_describes opened_has;
  }

  pub opening_settled : (e : Disk)
      → DoneDropping w.tables h.journal.number (start_plan h.journal.number h.journal.bytes) d e
      → IsSettled e (opened_world h v w)
  opening_settled e done = settled_fewer e (after w (Start h.journal.number h.journal.bytes v)) (only_of (numbers_in h.slots.version) w.tables) (done_settled d e w (Start h.journal.number h.journal.bytes v) i opening_allowed done)
      (λ n image k. (only_less (numbers_in h.slots.version) w.tables n image k).1) (are_there v h.slots.version (only_of (numbers_in h.slots.version) w.tables) new_describes only_tables)

  pub opening_world : IsWorldOf h (opened_world h v w)
  opening_world = record {
    manifest = refl;
    bytes = refl;
    tables = only_tables;
    below = λ n image k. (let lt = above_version n (only_less (numbers_in h.slots.version) w.tables n image k).0 in let a = p.begun.after in omega arith);
    own = (let e : h.journal.number ≡ p.begun.number = ap (λ (j : HeldManifest). j.number) p.begun.rolls.held in let a = p.begun.after in omega arith);
    fits = p.begun.fits;
  }

  -- a crash in any call of it leaves the version
  pub opening_finds : (e : Disk) (found : Found)
      → CutDropping w.tables h.journal.number (start_plan h.journal.number h.journal.bytes) d e
      → IsLeft e found → Finds h.slots.version found
  opening_finds e found cut left =
      let o = Start h.journal.number h.journal.bytes v in
      let r = surely_recovers e (either w o) found refl (cut_held d e w o i opening_allowed cut) left in
      finds (either w o) found r h.slots.version (elim r.good [
        | inl e ↦ subst (λ s. Describes s h.slots.version) e new_describes
        | inr k ↦ elim k [ inl e ↦ subst (λ s. Describes s h.slots.version) e found_describes | inr none ↦ absurd none ]
      ]) opened_has
