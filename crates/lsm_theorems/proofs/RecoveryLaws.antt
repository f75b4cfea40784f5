-- Logs that come in ask a folder for what it may be asked for.
use Rattle.std.proofs.Common.{◌≡◌, ◌⊎◌, ℕ, suc, ◌+◌, ◌<◌, ◌≤◌}
use Rattle.std.proofs.Common.{◌^◌, false, true, cond, ◌==◌, List, []}
use Rattle.std.proofs.Common.{◌∷◌, ◌++◌, length, get_or, Option, Some, None, refl, sym, ◌∙◌, ap}
use Rattle.std.proofs.Common.{subst, inl, inr, arith}
use Rattle.std.proofs.lemmas.Bool.{cases_Bool, eqb-true, eq-eqb}
use Rattle.lsm_codec.specs.Lists.{Has}
use Rattle.lsm_codec.proofs.CallerLemmas.{has_cases, has_right}
use Rattle.lsm_manifest.specs.FileOrder.{TableFile}
use Rattle.lsm_manifest.specs.Replay.{FileAt}
use Rattle.lsm_manifest.specs.Shape.{IsReplayed}
use Rattle.lsm_manifest.specs.WholeEdit.{files_from}
use Rattle.lsm_manifest.proofs.CallerLemmas.{files_at}
use Rattle.lsm_batch.specs.Batches.{entries_from}
use Rattle.lsm_batch.specs.declared.write.Write.{Write}
use Rattle.lsm_wal.specs.declared.write_batch.WriteBatch.{WriteBatch}
use Rattle.lsm_directory.specs.declared.folder.folder_file.FolderFile.{FolderFile}
use Rattle.lsm_import.specs.Copied.{HasWrites, IsLogFile, begun_edit, manifest_of, with_file}
use Rattle.lsm_import.specs.Standing.{standing_of}
use Rattle.lsm_import.specs.declared.copied.Copied.{Copied}
use Rattle.lsm_crash.specs.Among.{CutOf, DoneOf, Event, Goes, IsGap}
use Rattle.lsm_crash.specs.Crash.{Found, IsLeft}
use Rattle.lsm_crash.specs.Database.{AllCut, AllDone, AllowsAll, after_all}
use Rattle.lsm_crash.specs.Disk.{Disk, set}
use Rattle.lsm_crash.specs.Known.{IsHeld, IsSettled, Known, Recovers, World, current_name, known_of}
use Rattle.lsm_crash.specs.Operations.{Allows, MayStart, Operation, Put, Start, after, either}
use Rattle.lsm_crash.specs.Versions.{AreThere, ComesTo, IsNamed, Tables, Version}
use Rattle.lsm_theorems.specs.Recoveries.{Asks, IsRecovery}

-- ---- tables that are counted on

set_cases : (f : Tables) (i : ℕ) (x : Option (List ℕ)) (j : ℕ)
    → ((j ≡ i) × (set f i x j ≡ x)) ⊎ ((j ≡ i → ⊥) × (set f i x j ≡ f j))
set_cases f i x j = elim (cases_Bool (j == i)) [
  | inl t ↦ inl (eqb-true j i t, ap (λ b. cond b x (f j)) t)
  | inr n ↦ inr ((λ e. absurd (let t = eq-eqb j i e in cc)), ap (λ b. cond b x (f j)) n)
]

none_of : (o : Option (List ℕ)) → ((image : List ℕ) → o ≡ Some image → ⊥) → o ≡ None
none_of None never = refl
none_of (Some image) never = absurd (never image refl)

-- one more, and those that were there still are
there_more : (v w : Version) (tables : Tables) (number : ℕ) (image : List ℕ) → AreThere w tables
    → ((n : ℕ) → IsNamed v n → IsNamed w n ⊎ (n ≡ number))
    → AreThere v (set tables number (Some image))
there_more v w tables number image there among n named =
    elim (set_cases tables number (Some image) n) [
      | inl h ↦ (image, h.1)
      | inr h ↦ elim (among n named) [
        | inl before ↦ let t = there n before in (t.0, h.1 ∙ t.1)
        | inr own ↦ absurd (h.0 own)
      ]
    ]

-- ---- which files the manifest names

-- a file of the shape that one edit comes to is one that the edit adds
added_by : (whole : Copied) (v : Version) (n : ℕ) → IsReplayed (begun_edit whole ∷ []) v
    → IsNamed v n
    → (a : FileAt) × Has whole.edit.added a × (a.level ≤ 6) × (a.file.number ≡ n)
added_by whole v n r (level, file, le, has, own) =
    elim (((r.levels level le).files file).0 has) [
      | inl h ↦ (record { level = level; file = file }, h.0, le, own)
      | inr none ↦ absurd none
    ]

named_from : (shape : Version) (a : FileAt) (n : ℕ) → Has (files_from 0 shape.levels) a
    → a.level ≤ 6 → a.file.number ≡ n → IsNamed shape n
named_from shape a n has le own =
    let at = files_at 0 shape.levels a has in
    let same : at.0 ≡ a.level = omega (arith, at.2) in
    (a.level, a.file, le, subst (λ i. Has (get_or shape.levels i []) a.file) same at.3, own)

-- ---- what is asked for

module _ (w : World) (v : Version) (standing whole : Copied) (next : ℕ)
    (is : standing ≡ standing_of w.version next) (there : AreThere w.version w.tables)
    (above : (n : ℕ) (image : List ℕ) → w.tables n ≡ Some image → n < next)
    (fits : whole.next < 2 ^ 64) (other : w.manifest ≡ whole.next → ⊥)
    (comes : ComesTo (manifest_of whole) v) (replayed : IsReplayed (begun_edit whole ∷ []) v) where
  added_is : standing.edit.added ≡ files_from 0 w.version.levels
  added_is = ap (λ (c : Copied). c.edit.added) is

  next_is : standing.next ≡ next
  next_is = ap (λ (c : Copied). c.next) is

  starts : (x : World) → x.manifest ≡ w.manifest → AreThere v x.tables
      → Allows x (Start whole.next (manifest_of whole) v)
  starts x same all = record {
    small = fits;
    other = λ h. elim h [ inl e ↦ other (sym same ∙ e) | inr none ↦ absurd none ];
    comes = comes;
    there = all;
  }

  -- without writes
  only_start : whole ≡ standing → AllowsAll w (Start whole.next (manifest_of whole) v ∷ [])
  only_start e = (
    starts w refl (λ n named. let a = added_by whole v n replayed named in
        there n (named_from w.version a.0 n
        (subst (λ fs. Has fs a.0) (ap (λ (c : Copied). c.edit.added) e ∙ added_is) a.1) a.2 a.3)),
    tt,
  )

  -- with writes
  put_and_start : (file : FileAt) (first count : ℕ) (image : List ℕ)
      → file.file.number ≡ standing.next → whole ≡ with_file standing file first count
      → AllowsAll w (Put standing.next image ∷ Start whole.next (manifest_of whole) v ∷ [])
  put_and_start file first count image number e =
      let more : whole.next ≡ standing.next + 1 = ap (λ (c : Copied). c.next) e in
      let adds : whole.edit.added ≡ standing.edit.added ++ file ∷ [] =
      ap (λ (c : Copied). c.edit.added) e in
      let none : w.tables standing.next ≡ None = none_of (w.tables standing.next) (λ image h.
      let low = above standing.next image h in omega (arith, low, next_is)) in
      let among : (n : ℕ) → IsNamed v n → IsNamed w.version n ⊎ (n ≡ standing.next) = λ n named.
      let a = added_by whole v n replayed named in
      elim (has_cases standing.edit.added (file ∷ []) a.0
      (subst (λ fs. Has fs a.0) adds a.1)) [
        | inl old ↦ inl (named_from w.version a.0 n
            (subst (λ fs. Has fs a.0) added_is old) a.2 a.3)
        | inr new ↦ elim new [
          | inl own ↦ inr (sym a.3 ∙ (ap (λ (f : FileAt). f.file.number) (sym own) ∙ number))
          | inr none ↦ absurd none
        ]
      ] in (
        (omega (arith, more, fits), none),
        (
          starts (after w (Put standing.next image)) refl
              (there_more v w.version w.tables standing.next image there among),
          tt,
        ),
      )

  allowed : (Into : ℕ → List ℕ → Type 0) (first : ℕ) (batch : List Write) (os : List Operation)
      → HasWrites Into first batch standing whole → Asks Into first batch standing whole v os
      → AllowsAll w os × ((after_all w os).version ≡ v)
  allowed Into first [] os has asks =
      subst (λ xs. AllowsAll w xs × ((after_all w xs).version ≡ v)) (sym asks)
      (only_start has, refl)
  allowed Into first (x ∷ xs) os has (file, put, same, asks) =
      subst (λ xs. AllowsAll w xs × ((after_all w xs).version ≡ v)) (sym asks)
      (put_and_start file first (suc (length xs)) put.image put.number_is same, refl)

  -- the versions that may be known where it is cut
  at_start : (x : World) (known : Known) (d e : Disk) (y : Version) → x.version ≡ w.version
      → AllCut x (Start whole.next (manifest_of whole) v ∷ []) known d e → Has known.versions y
      → (y ≡ w.version) ⊎ (y ≡ v)
  at_start x known d e y same (inl c) has =
      elim (subst (λ (k : Known). Has k.versions y) c.1 has) [
        | inl new ↦ inr (sym new)
        | inr more ↦ elim more [ inl old ↦ inl (sym old ∙ same) | inr none ↦ absurd none ]
      ]
  at_start x known d e y same (inr c) has =
      elim (subst (λ (k : Known). Has k.versions y) c.2.0 has) [
        | inl new ↦ inr (sym new)
        | inr none ↦ absurd none
      ]

  at_put : (n : ℕ) (image : List ℕ) (known : Known) (d e : Disk) (y : Version)
      → AllCut w (Put n image ∷ Start whole.next (manifest_of whole) v ∷ []) known d e
      → Has known.versions y → (y ≡ w.version) ⊎ (y ≡ v)
  at_put n image known d e y (inl c) has =
      elim (subst (λ (k : Known). Has k.versions y) c.1 has) [
        | inl old ↦ inl (sym old)
        | inr more ↦ elim more [ inl old ↦ inl (sym old) | inr none ↦ absurd none ]
      ]
  at_put n image known d e y (inr c) has =
      at_start (after w (Put n image)) known c.0 e y refl c.2 has

  versions : (Into : ℕ → List ℕ → Type 0) (first : ℕ) (batch : List Write) (os : List Operation)
      (known : Known) (d e : Disk) (y : Version) → Asks Into first batch standing whole v os
      → AllCut w os known d e → Has known.versions y → (y ≡ w.version) ⊎ (y ≡ v)
  versions Into first [] os known d e y asks cut has =
      at_start w known d e y refl (subst (λ xs. AllCut w xs known d e) asks cut) has
  versions Into first (x ∷ xs) os known d e y (file, put, same, asks) cut has =
      at_put standing.next put.image known d e y (subst (λ zs. AllCut w zs known d e) asks cut) has

-- ---- what is left

abbrev Run : Type 0
Run = (es : List Event) (d e : Disk) (w u : World) → IsSettled d w → Goes w es u d e
    → IsSettled e u

abbrev Done : Type 0
Done = (o : Operation) (d e : Disk) (w : World) → IsSettled d w → Allows w o → DoneOf w o d e
    → IsSettled e (after w o)

abbrev Refused : Type 0
Refused = (o : Operation) (d e : Disk) (w : World) → IsSettled d w → Allows w o → CutOf w o d e
    → IsHeld e (either w o)

abbrev Settled : Type 0
Settled = (d : Disk) (w : World) → IsSettled d w → IsHeld d (known_of w)

abbrev Found_by : Type 0
Found_by = (known : Known) (d : Disk) (found : Found) → IsHeld d known → IsLeft d found
    → ((known.may_miss ≡ true) × (found current_name ≡ None)) ⊎ Recovers known found

all_done : Run → Done → (os : List Operation) (w u : World) (d e : Disk) → IsSettled d w
    → AllowsAll w os → AllDone w os u d e → IsSettled e u × (u ≡ after_all w os)
all_done run one [] w u d e s all (same, gap) =
    (subst (IsSettled e) (sym same) (run [] d e w w s (refl, gap)), same)
all_done run one (o ∷ os) w u d e s all (mid, first, rest) =
    all_done run one os (after w o) u mid e (one o d mid w s all.0 first) all.1 rest

all_held : Run → Done → Refused → Settled → (os : List Operation) (w : World) (known : Known)
    (d e : Disk) → IsSettled d w → AllowsAll w os → AllCut w os known d e
    → IsHeld e known × (known.may_miss ≡ false)
all_held run one bad good [] w known d e s all (is, gap) = (
  subst (IsHeld e) (sym is) (good e w (run [] d e w w s (refl, gap))),
  ap (λ (k : Known). k.may_miss) is,
)
all_held run one bad good (o ∷ os) w known d e s all (inl (cut, is)) =
    (subst (IsHeld e) (sym is) (bad o d e w s all.0 cut), ap (λ (k : Known). k.may_miss) is)
all_held run one bad good (o ∷ os) w known d e s all (inr (mid, first, rest)) =
    all_held run one bad good os (after w o) known mid e (one o d mid w s all.0 first) all.1 rest

module _ (Into : ℕ → List ℕ → Type 0) (Honest : Type 0) (files : List FolderFile)
    (batches : List WriteBatch) (w : World) (v : Version) (os : List Operation) where
  comes : (r : IsRecovery Into Honest files batches w v os)
      → ComesTo (manifest_of r.came.brought.whole) v
  comes r = record {
    edits = begun_edit r.came.brought.whole ∷ [];
    rest = 0;
    manifest = r.came.brought.begun.manifest;
    replayed = r.replayed;
  }

  below : (r : IsRecovery Into Honest files batches w v os) (n : ℕ) (image : List ℕ)
      → w.tables n ≡ Some image → n < r.came.stands.next
  below r n image is =
      r.came.stands.below n (has_right r.came.logs r.came.tables n (r.listed n image is))

  may : (d : Disk) → IsSettled d w → (r : IsRecovery Into Honest files batches w v os)
      → AllowsAll w os × ((after_all w os).version ≡ v)
  may d s r =
      allowed w v r.came.standing r.came.brought.whole r.came.stands.next r.came.stands.is s.there
      (below r) r.fits r.other (comes r) r.replayed Into r.came.brought.filled.logs.first
      r.came.brought.filled.logs.batch os r.came.brought.filled.logs.has r.asks

  one_of : (d e : Disk) → IsSettled d w → (r : IsRecovery Into Honest files batches w v os)
      → (known : Known) (y : Version) → AllCut w os known d e → Has known.versions y
      → (y ≡ w.version) ⊎ (y ≡ v)
  one_of d e s r known y cut has =
      versions w v r.came.standing r.came.brought.whole r.came.stands.next r.came.stands.is s.there
      (below r) r.fits r.other (comes r) r.replayed Into r.came.brought.filled.logs.first
      r.came.brought.filled.logs.batch os known d e y r.asks cut has

pub done : Run → Done → (Into : ℕ → List ℕ → Type 0) (Honest : Type 0) (files : List FolderFile)
    (batches : List WriteBatch) (w u : World) (v : Version) (os : List Operation) (d e : Disk)
    → IsSettled d w → IsRecovery Into Honest files batches w v os → AllDone w os u d e
    → IsSettled e u × (u.version ≡ v)
done run one Into Honest files batches w u v os d e s r all =
    let m = may Into Honest files batches w v os d s r in
    let a = all_done run one os w u d e s m.0 all in
    (a.0, ap (λ (x : World). x.version) a.1 ∙ m.1)

not_missing : (known : Known) → known.may_miss ≡ false → known.may_miss ≡ true → ⊥
not_missing known is has = let e : false ≡ true = sym is ∙ has in cc

pub cut : Run → Done → Refused → Settled → Found_by → (Into : ℕ → List ℕ → Type 0)
    (Honest : Type 0) (files : List FolderFile) (batches : List WriteBatch) (w : World)
    (v : Version) (os : List Operation) (d e : Disk) (known : Known) (found : Found)
    → IsSettled d w → IsRecovery Into Honest files batches w v os → AllCut w os known d e
    → IsLeft e found → (r : Recovers known found) × ((r.version ≡ w.version) ⊎ (r.version ≡ v))
cut run one bad good by Into Honest files batches w v os d e known found s r all left =
    let m = may Into Honest files batches w v os d s r in
    let h = all_held run one bad good os w known d e s m.0 all in
    elim (by known e found h.0 left) [
      | inl none ↦ absurd (not_missing known h.1 none.0)
      | inr again ↦ (
        again,
        one_of Into Honest files batches w v os d e s r known again.version all
            again.good,
      )
    ]
