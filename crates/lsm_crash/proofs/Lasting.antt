-- What is kept stays so through every history.
use Rattle.std.proofs.Common.{◌≡◌, ℕ, List, [], ◌∷◌, length, refl, sym, ◌∙◌, ap, subst, inl, inr}
use Rattle.std.proofs.Common.{Some, None}
use Rattle.std.specs.Prelude.{Option, replicate}
use Rattle.std.proofs.lemmas.List.{take_at}
use Rattle.lsm_codec.specs.Lists.{Has}
use Rattle.lsm_storage.specs.FileNames.{table_name, manifest_name, current_text}
use Rattle.lsm_folder.specs.Finding.{fitted}
use Rattle.lsm_manifest.specs.FileOrder.{TableFile}
use Rattle.lsm_manifest.specs.Shape.{IsShape}
use Rattle.lsm_manifest.proofs.CallerLemmas.{replayed_shape}
use Rattle.lsm_verify.specs.Loading.{all_files}
use Rattle.lsm_journal.specs.HeldManifest.{HeldManifest}
use Rattle.lsm_journal.specs.Recovering.{IsRecovered}
use Rattle.lsm_admission.specs.Keeping.{KeepsTables}
use Rattle.lsm_crash.specs.Disk.{Disk, Shows, set}
use Rattle.lsm_crash.specs.Crash.{Found, IsLeft}
use Rattle.lsm_crash.specs.Versions.{AreThere, ComesTo, IsNamed, LeadsTo, Tables, Version}
use Rattle.lsm_crash.specs.Known.{AllStand, IsHeld, IsSettled, IsSound, Known, Recovers, Stands}
use Rattle.lsm_crash.specs.Known.{World, known_of}
use Rattle.lsm_crash.specs.Operations.{Allows, Append, Operation, Put, Remove, Start, after, either}
use Rattle.lsm_crash.specs.Among.{Counts, Does, Event, Goes, counting, failed}
use Rattle.lsm_crash.specs.History.{Breaks, Crashes, Empties, History, IsPhase, Move, Others}
use Rattle.lsm_crash.specs.History.{Passes, Phase, Rests, Runs, Starts, Stops, StopsUnseen, Sure}
use Rattle.lsm_crash.specs.History.{Unsure, before, behind}
use Rattle.lsm_crash.specs.Kept.{AreKept, IsCounted, IsKept, IsKeptPhase, KeepsAll, KeepsEach}
use Rattle.lsm_crash.specs.Kept.{KeepsFound, KeepsMoved, KeepsShown, KeepsWritten}
use Rattle.lsm_crash.proofs.Names.{texts_apart}
use Rattle.lsm_crash.proofs.Standing.{stands_shows}
use Rattle.lsm_crash.proofs.Held.{held_recovers, only, settled_gap, settled_held}
use Rattle.lsm_crash.proofs.Tables.{count_settled, set_cases}
use Rattle.lsm_crash.proofs.Calls.{read_manifest}
use Rattle.lsm_crash.proofs.Runs.{done_settled, fails_settled}
use Rattle.lsm_crash.proofs.Histories.{move_keeps, not_both, one_version, read_is}
use Rattle.lsm_crash.proofs.Opening.{shows_one}
use Rattle.lsm_crash.proofs.Keeping.{file_named, kept_fewer, shape_of, tables_fewer}

text_is : (a b : List ℕ) → Some a ≡ Some b → a ≡ b
text_is a b e = cc

-- ---- what is shown, and what is found

-- what is counted on is what the disk shows
disk_kept : (d : Disk) (tables : Tables) (v : Version) → IsSound d → AllStand d tables → IsShape v
    → AreThere v tables → IsKept (IsCounted tables) v
    → IsKept (λ n image. Shows d (table_name n) image) v
disk_kept d tables v sound stand whole there k =
    kept_fewer (λ n image. Shows d (table_name n) image) (IsCounted tables) v
    (λ file image h s. (let t = there file.number (file_named v whole file h) in t.1 ∙ ap Some
    (shows_one d (table_name file.number) t.0 image (shown file.number t.0 t.1) s)))
    (λ file h. (let t = there file.number (file_named v whole file h) in
    (t.0, shown file.number t.0 t.1))) k
  where
    shown : (n : ℕ) (image : List ℕ) → tables n ≡ Some image → Shows d (table_name n) image
    shown n image is = stands_shows d (table_name n) image sound (stand n image is).1

pub held_shown : (d : Disk) (known : Known) → IsHeld d known → AreKept known → KeepsShown d
held_shown d known i k number bytes v small current its comes =
    let told = read_manifest d d d known number bytes i small (refl, current) (refl, its) in
    let same : told.0 ≡ v = one_version bytes told.0 v told.2 comes in
    disk_kept d known.tables v i.sound i.tables (shape_of bytes v comes)
    (subst (λ x. AreThere x known.tables) same (i.there told.0 told.1))
    (subst (λ x. IsKept (IsCounted known.tables) x) same (k told.0 told.1))

-- and what a crash leaves
found_kept : (known : Known) (found : Found) (r : Recovers known found)
    → IsKept (IsCounted known.tables) r.version
    → IsKept (λ n image. found (table_name n) ≡ Some image) r.version
found_kept known found r k =
    kept_fewer (λ n image. found (table_name n) ≡ Some image) (IsCounted known.tables) r.version
    (λ file image h s. (let t = r.there file.number (file_named r.version whole file h) in t.1 ∙
    (sym (r.tables file.number t.0 t.1).1 ∙ s)))
    (λ file h. (let t = r.there file.number (file_named r.version whole file h) in
    (t.0, (r.tables file.number t.0 t.1).1))) k
  where
    whole : IsShape r.version
    whole = shape_of r.bytes r.version r.comes

pub left_found : (d : Disk) (known : Known) (found : Found) → IsHeld d known → AreKept known
    → IsLeft d found → KeepsFound found
left_found d known found i k l number bytes v small current its comes =
    elim (held_recovers d known found i l) [
      | inl none ↦ absurd (not_both (current_text number) (sym none.1 ∙ current))
      | inr r ↦ of r
    ]
  where
    of : Recovers known found → IsKept (λ n image. found (table_name n) ≡ Some image) v
    of r =
        let same_number : r.manifest ≡ number =
        texts_apart r.manifest number r.small small
        (text_is (current_text r.manifest) (current_text number) (sym r.current ∙ current)) in
        let same_bytes : r.bytes ≡ bytes =
        text_is r.bytes bytes (sym r.its ∙
        (ap (λ m. found (manifest_name m)) same_number ∙ its)) in
        let same : r.version ≡ v =
        one_version bytes r.version v (subst (λ b. ComesTo b r.version) same_bytes r.comes)
        comes in
        subst (λ x. IsKept (λ n image. found (table_name n) ≡ Some image) x) same
        (found_kept known found r (k r.version r.good))

pub phase_shown : (p : Phase) (d : Disk) → IsPhase p d → IsKeptPhase p → KeepsShown d
phase_shown (Sure w) d i k = held_shown d (known_of w) (settled_held d w i)
    (only w.version (λ v. IsKept (IsCounted w.tables) v) k)
phase_shown (Unsure known) d i k = held_shown d known i k

pub phase_found : (p : Phase) (d : Disk) (found : Found) → IsPhase p d → IsKeptPhase p
    → IsLeft d found → KeepsFound found
phase_found (Sure w) d found i k = left_found d (known_of w) found (settled_held d w i)
    (only w.version (λ v. IsKept (IsCounted w.tables) v) k)
phase_found (Unsure known) d found i k = left_found d known found i k

-- what was read of a manifest is what it comes to
pub recovered_comes : (h : HeldManifest) (shape : Version) (rest : ℕ) → IsRecovered h shape rest
    → ComesTo h.bytes shape
recovered_comes h shape rest r =
    record { edits = r.edits; rest = rest; manifest = r.manifest; replayed = r.replayed }

-- a shelf that keeps nothing else of the files' numbers and sizes
pub shelf_kept : (Keeps : ℕ → List ℕ → Type 0) (d : Disk) (v : Version)
    → IsKept (λ n image. Shows d (table_name n) image) v
    → ((file : TableFile) (image : List ℕ) → Has (all_files v.levels) file
    → length image ≡ file.size → Keeps file.number image → Shows d (table_name file.number) image)
    → KeepsTables Keeps v
shelf_kept Keeps d v k shows =
    tables_fewer Keeps (λ n image. Shows d (table_name n) image) v shows k.tables

fitted_whole : (image bytes : List ℕ) → image ≡ fitted (length image) bytes
    → length image ≡ length bytes → bytes ≡ image
fitted_whole image bytes is size =
    sym (is ∙ take_at bytes (replicate (length image) 0) (length image) (sym size))

-- contents that name what is shown
pub contents_shown : (contents : List ℕ → List ℕ) (d : Disk) (v : Version)
    → IsKept (λ n image. Shows d (table_name n) image) v
    → ((file : TableFile) (image : List ℕ) → Has (all_files v.levels) file
    → Shows d (table_name file.number) image → contents (table_name file.number) ≡ image)
    → (file : TableFile) (image : List ℕ) → Has (all_files v.levels) file → length image ≡ file.size
    → image ≡ fitted (length image) (contents (table_name file.number))
    → Shows d (table_name file.number) image
contents_shown contents d v k named file image h size is =
    let own = k.there file h in
    let same : contents (table_name file.number) ≡ own.0 = named file own.0 h own.1 in
    let whole : length image ≡ length own.0 = size ∙ sym (k.sizes file own.0 h own.1) in
    subst (Shows d (table_name file.number)) (fitted_whole image own.0
    (is ∙ ap (fitted (length image)) same) whole) own.1

-- images that are those that are shown
pub images_shown : (images : ℕ → List ℕ) (d : Disk) (v : Version)
    → IsKept (λ n image. Shows d (table_name n) image) v
    → ((file : TableFile) (image : List ℕ) → Has (all_files v.levels) file
    → Shows d (table_name file.number) image → images file.number ≡ image)
    → (file : TableFile) (image : List ℕ) → Has (all_files v.levels) file
    → image ≡ images file.number → Shows d (table_name file.number) image
images_shown images d v k named file image h is =
    let own = k.there file h in
    subst (Shows d (table_name file.number)) (sym (is ∙ named file own.0 h own.1)) own.1

-- ---- tables that come and go

-- the first ones are among the second ones
abbrev Among : Tables → Tables → Type 0
Among s t = (n : ℕ) (image : List ℕ) → s n ≡ Some image → t n ≡ Some image

among_set : (s t : Tables) (number : ℕ) (o : Option (List ℕ)) → Among s t
    → Among (set s number o) (set t number o)
among_set s t number o among n image is = elim (set_cases s number o n) [
  | inl h ↦
      elim (set_cases t number o n) [ inl k ↦ k.1 ∙ (sym h.1 ∙ is) | inr k ↦ absurd (k.0 h.0) ]
  | inr h ↦
      elim (set_cases t number o n) [
        | inl k ↦ absurd (h.0 k.0)
        | inr k ↦ k.1 ∙ among n image
            (sym h.1 ∙ is)
      ]
]

among_put : (s t : Tables) (number : ℕ) (image : List ℕ) → s number ≡ None → Among s t
    → Among s (set t number (Some image))
among_put s t number image none among n other is = elim (set_cases t number (Some image) n) [
  | inl h ↦ absurd (not_both other (sym none ∙ (ap s (sym h.0) ∙ is)))
  | inr h ↦ h.1 ∙ among n other is
]

-- where all that the version names is among the first ones, either ones keep it
fewer_kept : (s t : Tables) (v : Version) → IsShape v → AreThere v s → Among s t
    → IsKept (IsCounted t) v → IsKept (IsCounted s) v
fewer_kept s t v whole there among k =
    kept_fewer (IsCounted s) (IsCounted t) v (λ file image h is. among file.number image is)
    (λ file h. there file.number (file_named v whole file h)) k

more_kept : (s t : Tables) (v : Version) → IsShape v → AreThere v s → Among s t
    → IsKept (IsCounted s) v → IsKept (IsCounted t) v
more_kept s t v whole there among k =
    kept_fewer (IsCounted t) (IsCounted s) v
    (λ file image h is. (let r = there file.number (file_named v whole file h) in r.1 ∙
    (sym (among file.number r.0 r.1) ∙ is)))
    (λ file h. (let r = there file.number (file_named v whole file h) in
    (r.0, among file.number r.0 r.1))) k

-- ---- operations

text_shape : (bytes text : List ℕ) (old new : Version) → LeadsTo bytes text old new → IsShape new
text_shape bytes text old new l = replayed_shape _ new l.becomes

written_fewer : (w x : World) (o : Operation) → Allows w o → Among w.tables x.tables
    → KeepsWritten x o → KeepsWritten w o
written_fewer w x (Put number image) ok among k = tt
written_fewer w x (Remove number) ok among k = tt
written_fewer w x (Append text v) ok among k = fewer_kept w.tables x.tables v
    (text_shape w.bytes text w.version v ok.0) ok.1 among k
written_fewer w x (Start number bytes v) ok among k = fewer_kept w.tables x.tables v
    (shape_of bytes v ok.comes) ok.there among k

after_among : (w x : World) (o : Operation) → Among w.tables x.tables
    → Among (after w o).tables (after x o).tables
after_among w x (Put number image) among = among_set w.tables x.tables number (Some image) among
after_among w x (Remove number) among = among_set w.tables x.tables number None among
after_among w x (Append text v) among = among
after_among w x (Start number bytes v) among = among

failed_among : (w x : World) (o : Operation) → Allows w o → Among w.tables x.tables
    → Among (failed w o).tables (after x o).tables
failed_among w x (Put number image) ok among = among_put w.tables x.tables number image ok.1 among
failed_among w x (Remove number) ok among = among_set w.tables x.tables number None among
failed_among w x (Append text v) ok among = among
failed_among w x (Start number bytes v) ok among = among

module _ (d : Disk) (w : World) (i : IsSettled d w) where
  whole : IsShape w.version
  whole = shape_of w.bytes w.version i.comes

  removed_there : (number : ℕ) → Allows w (Remove number)
      → AreThere w.version (after w (Remove number)).tables
  removed_there number ok n named = elim (set_cases w.tables number None n) [
    | inl h ↦ absurd (ok.1 (subst (IsNamed w.version) h.0 named))
    | inr h ↦ (let t = i.there n named in (t.0, h.1 ∙ t.1))
  ]

  removed_among : (number : ℕ) → Among (after w (Remove number)).tables w.tables
  removed_among number n image is = elim (set_cases w.tables number None n) [
    | inl h ↦ absurd (not_both image (sym h.1 ∙ is))
    | inr h ↦ sym h.1 ∙ is
  ]

  removed_kept : (number : ℕ) → Allows w (Remove number) → IsKept (IsCounted w.tables) w.version
      → IsKept (IsCounted (after w (Remove number)).tables) w.version
  removed_kept number ok k =
      fewer_kept (after w (Remove number)).tables w.tables w.version whole (removed_there number ok)
      (removed_among number) k

  put_kept : (number : ℕ) (image : List ℕ) → Allows w (Put number image)
      → IsKept (IsCounted w.tables) w.version
      → IsKept (IsCounted (after w (Put number image)).tables) w.version
  put_kept number image ok k =
      more_kept w.tables (after w (Put number image)).tables w.version whole i.there
      (among_put w.tables w.tables number image ok.1 (λ n other is. is)) k

  -- a table that stands is the one that is counted on, if one is
  counted_among : (number : ℕ) (image : List ℕ) → Stands d (table_name number) image
      → Among w.tables (counting number image w).tables
  counted_among number image s n other is = elim (set_cases w.tables number (Some image) n) [
    | inl h ↦
        h.1 ∙ ap Some (shows_one d (table_name number) image other
        (stands_shows d (table_name number) image i.sound s)
        (subst (λ m. Shows d (table_name m) other) h.0
        (stands_shows d (table_name n) other i.sound (i.tables n other is).1)))
    | inr h ↦ h.1 ∙ is
  ]

  after_kept : (o : Operation) → Allows w o → KeepsWritten w o
      → IsKept (IsCounted w.tables) w.version
      → IsKept (IsCounted (after w o).tables) (after w o).version
  after_kept (Put number image) ok new k = put_kept number image ok k
  after_kept (Remove number) ok new k = removed_kept number ok k
  after_kept (Append text v) ok new k = new
  after_kept (Start number bytes v) ok new k = new

  failed_kept : (o : Operation) → Allows w o → IsKept (IsCounted w.tables) w.version
      → IsKept (IsCounted (failed w o).tables) (failed w o).version
  failed_kept (Put number image) ok k = k
  failed_kept (Remove number) ok k = removed_kept number ok k
  failed_kept (Append text v) ok k = k
  failed_kept (Start number bytes v) ok k = k

  two : (tables : Tables) (a b : Version) → IsKept (IsCounted tables) a
      → IsKept (IsCounted tables) b → (v : Version) → Has (a ∷ b ∷ []) v
      → IsKept (IsCounted tables) v
  two tables a b k l v (inl e) = subst (λ x. IsKept (IsCounted tables) x) e k
  two tables a b k l v (inr h) = only b (λ x. IsKept (IsCounted tables) x) l v h

  -- where it was cut
  pub cut_kept : (o : Operation) → Allows w o → KeepsWritten w o
      → IsKept (IsCounted w.tables) w.version → AreKept (either w o)
  cut_kept (Put number image) ok new k = two w.tables w.version w.version k k
  cut_kept (Remove number) ok new k = (let r = removed_kept number ok k in two
      (after w (Remove number)).tables w.version w.version r r)
  cut_kept (Append text v) ok new k = two w.tables v w.version new k
  cut_kept (Start number bytes v) ok new k = two w.tables v w.version new k

-- ---- histories

goes_kept : (es : List Event) (d e : Disk) (w u x : World) → IsSettled d w → Among w.tables x.tables
    → KeepsEach x es → Goes w es u d e → IsKept (IsCounted w.tables) w.version
    → IsKept (IsCounted u.tables) u.version
goes_kept [] d e w u x i among ks h k =
    subst (λ (y : World). IsKept (IsCounted y.tables) y.version) (sym h.0) k
goes_kept (Counts number image ∷ es) d e w u x i among ks h k =
    let m = h.1.0 in
    let j = settled_gap w d m h.1.1 i in
    goes_kept es m e (counting number image w) u (counting number image x)
    (count_settled m w number image h.0 h.1.2 j)
    (among_set w.tables x.tables number (Some image) among) ks h.1.3
    (more_kept w.tables (counting number image w).tables w.version
    (shape_of w.bytes w.version i.comes) i.there (counted_among m w j number image h.1.2) k)
goes_kept (Does o ∷ es) d e w u x i among ks (ok, (mid, inl r)) k =
    goes_kept es mid e (after w o) u (after x o) (done_settled d mid w o i ok r.0)
    (after_among w x o among) ks.1 r.1
    (after_kept d w i o ok (written_fewer w x o ok among ks.0) k)
goes_kept (Does o ∷ es) d e w u x i among ks (ok, (mid, inr r)) k =
    goes_kept es mid e (failed w o) u (after x o) (fails_settled d mid w o i ok r.0)
    (failed_among w x o ok among) ks.1 r.1 (failed_kept d w i o ok k)

move_kept : (m : Move) (d e : Disk) → IsPhase (before m) d → KeepsMoved m → Passes m d e
    → IsKeptPhase (before m) → IsKeptPhase (behind m)
move_kept (Runs w es u) d e i ks h k = goes_kept es d e w u w i (λ n image is. is) ks h k
move_kept (Breaks w o) d e i ks h k = cut_kept d w i o h.0 ks k
move_kept (Rests w) d e i ks h k = only w.version (λ v. IsKept (IsCounted w.tables) v) k
move_kept (Starts known number bytes v) d e i ks h k = ks
move_kept (Stops known number bytes v) d e i ks h k = λ s at.
    elim at [ inl e ↦ subst (λ x. IsKept (IsCounted known.tables) x) e ks | inr r ↦ k s r ]
move_kept (StopsUnseen known number bytes v) d e i ks h k = k
move_kept (Others known) d e i ks h k = k
move_kept (Crashes known found w) d e i ks h k = elim (held_recovers d known found i h.0) [
  | inl none ↦ absurd (not_both (current_text w.manifest) (sym none.1 ∙ h.2.current))
  | inr r ↦
      subst (λ (y : World). IsKept (IsCounted y.tables) y.version)
      (sym (read_is known found r w h.2)) (k r.version r.good)
]
move_kept (Empties known found) d e i ks h k = λ s at. absurd at

pub history_kept : (ms : List Move) (p q : Phase) (d e : Disk) → IsPhase p d → IsKeptPhase p
    → KeepsAll ms → History p ms q d e → IsPhase q e × IsKeptPhase q
history_kept [] p q d e i k ks h = (
  subst (λ x. IsPhase q x) (sym h.1) (subst (λ x. IsPhase x d) (sym h.0) i),
  subst IsKeptPhase
      (sym h.0) k,
)
history_kept (m ∷ ms) p q d e i k ks h =
    let at = subst (λ x. IsPhase x d) (sym h.0) i in
    history_kept ms (behind m) q h.1.0 e (move_keeps m d h.1.0 at h.1.1)
    (move_kept m d h.1.0 at ks.0 h.1.1 (subst IsKeptPhase (sym h.0) k)) ks.1 h.1.2
