-- What stands on a disk, and what the calls of an operation make of it.
use Rattle.std.proofs.Common.{◌≡◌, ℕ, zero, suc, ◌+◌, ◌≤◌, List, [], ◌∷◌, ◌++◌, length, take, refl, sym, ◌∙◌, ap, subst, inl, inr, arith, ◌⊎◌, Some, None, length-append, zero-add}
use Rattle.std.proofs.lemmas.List.{take_all, take-take}
use Rattle.lsm_folder.specs.Calls.{Call, opened, made, wrote, appended, synced, folder_synced, renamed, removed, measured, read, loaded, listed, locked}
use Rattle.std.specs.Prelude.{Bool, true, false, Option, Ok, Err}
use Rattle.lsm_crash.specs.Crash.{May}
use Rattle.lsm_crash.specs.Disk.{Disk, Names, Step, Shows, Makes, Writes, Undoes, Appends, Syncs}
use Rattle.lsm_crash.specs.Disk.{SyncsFolder, Renames, moved, with_names, set, named, with_file}
use Rattle.lsm_crash.specs.Disk.{without, filled}
use Rattle.lsm_crash.specs.Known.{IsSound, Holds, IsFile, Is, Stands}
use Rattle.lsm_crash.specs.Among.{Avoids}
use Rattle.lsm_crash.proofs.Disks.{along, sound_gone, some_is, set_at, set_else, named_at, named_else, moved_cases, step_holds}

-- the name has this file now, with these bytes, so many of which are durable
pub record At (d : Disk) (q : List ℕ) (i : ℕ) (bytes : List ℕ) (kept : ℕ) : Type 0 where
  pub names : d.names q ≡ Some i
  pub bytes_are : d.bytes i ≡ bytes
  pub kept_is : d.kept i ≡ kept

-- where the name is never missing
pub sure : (P : ℕ → List ℕ → ℕ → Type 0) (d : Disk) (q : List ℕ) → Holds false d q P → (o : Option ℕ) → May d q o → IsFile d q P o
sure P d q H o m = elim (H.each o m) [ inl none ↦ absurd (let f : false ≡ true = none.0 in cc) | inr h ↦ h ]

-- what holds of the files that a name may have, as another thing
pub weaken : (miss : Bool) (P Q : ℕ → List ℕ → ℕ → Type 0) (d : Disk) (q : List ℕ) → ((i : ℕ) (b : List ℕ) (k : ℕ) → P i b k → Q i b k) → Holds miss d q P → Holds miss d q Q
weaken miss P Q d q f H = record { each = λ o m. elim (H.each o m) [ inl none ↦ inl none | inr h ↦ inr (h.0, h.1, h.2, h.3, f h.0 (d.bytes h.0) (d.kept h.0) h.4) ] }

pub stands_step : (d e : Disk) (c : Call) (q bytes : List ℕ) → IsSound d → Avoids q c → Step d c e → Stands d q bytes → Stands e q bytes
stands_step d e c q bytes s a h (one, H) = (one, step_holds false (Is one bytes) q d e c s a h H)

-- ---- a file under its name, and a call on another name

at_file : (d : Disk) (name more : List ℕ) (q : List ℕ) (i : ℕ) (bytes : List ℕ) (kept : ℕ) → IsSound d → (name ≡ q → ⊥) → At d q i bytes kept → At (with_file name more d) q i bytes kept
at_file d name more q i bytes kept s other a =
    let lt = s.below q i a.names in
    let fresh : i ≡ d.next → ⊥ = λ e. absurd (omega arith) in record {
      names = named_else d.names name (Some d.next) q other ∙ a.names;
      bytes_are = set_else d.bytes d.next more i fresh ∙ a.bytes_are;
      kept_is = set_else d.kept d.next 0 i fresh ∙ a.kept_is;
    }

at_other : (d : Disk) (name : List ℕ) (j : ℕ) (more : List ℕ) (k : ℕ) (q : List ℕ) (i : ℕ) (bytes : List ℕ) (kept : ℕ) → IsSound d → (name ≡ q → ⊥) → d.names name ≡ Some j → At d q i bytes kept
    → At (filled j more k d) q i bytes kept
at_other d name j more k q i bytes kept s other at a =
    let apart : i ≡ j → ⊥ = λ e. other (s.one name q j at (a.names ∙ ap Some e)) in record {
      names = a.names;
      bytes_are = set_else d.bytes j more i apart ∙ a.bytes_are;
      kept_is = set_else d.kept j k i apart ∙ a.kept_is;
    }

at_names : (d : Disk) (names : Names) (q : List ℕ) (i : ℕ) (bytes : List ℕ) (kept : ℕ) → names q ≡ d.names q → At d q i bytes kept → At (with_names names d) q i bytes kept
at_names d names q i bytes kept same a = record { names = same ∙ a.names; bytes_are = a.bytes_are; kept_is = a.kept_is }

at_gone : (d : Disk) (name q : List ℕ) (i : ℕ) (bytes : List ℕ) (kept : ℕ) → (name ≡ q → ⊥) → At d q i bytes kept → At (without name d) q i bytes kept
at_gone d name q i bytes kept other a = at_names d (named d.names name None) q i bytes kept (named_else d.names name None q other) a

at_written : (d e : Disk) (name more : List ℕ) (q : List ℕ) (i : ℕ) (bytes : List ℕ) (kept : ℕ) → IsSound d → (name ≡ q → ⊥) → Writes d name more e → At d q i bytes kept → At e q i bytes kept
at_written d e name more q i bytes kept s other (inl m) a = along (λ x. At x q i bytes kept) _ e m (at_file d name more q i bytes kept s other a)
at_written d e name more q i bytes kept s other (inr (inl w)) a = along (λ x. At x q i bytes kept) _ e w.2 (at_other d name w.0 more 0 q i bytes kept s other w.1 a)
at_written d e name more q i bytes kept s other (inr (inr m)) a =
    along (λ x. At x q i bytes kept) _ e m (at_file (without name d) name more q i bytes kept (sound_gone d name s) other (at_gone d name q i bytes kept other a))

at_undone : (d e : Disk) (name q : List ℕ) (i : ℕ) (bytes : List ℕ) (kept : ℕ) → (name ≡ q → ⊥)
    → Undoes d name e → At d q i bytes kept → At e q i bytes kept
at_undone d e name q i bytes kept other (inl same) a = along (λ x. At x q i bytes kept) d e same a
at_undone d e name q i bytes kept other (inr gone) a =
    along (λ x. At x q i bytes kept) _ e gone (at_gone d name q i bytes kept other a)

at_settled : (d : Disk) (q : List ℕ) (i : ℕ) (bytes : List ℕ) (kept : ℕ) → At d q i bytes kept → At (record d { past = d.names ∷ [] }) q i bytes kept
at_settled d q i bytes kept a = record { names = a.names; bytes_are = a.bytes_are; kept_is = a.kept_is }

pub at_step : (d e : Disk) (c : Call) (q : List ℕ) (i : ℕ) (bytes : List ℕ) (kept : ℕ) → IsSound d → Avoids q c → Step d c e → At d q i bytes kept → At e q i bytes kept
at_step d e opened q i bytes kept s o h a = along (λ x. At x q i bytes kept) d e h a
at_step d e (made name more (Ok v)) q i bytes kept s o h a = along (λ x. At x q i bytes kept) _ e h.1 (at_file d name more q i bytes kept s o a)
at_step d e (made name more (Err f)) q i bytes kept s o h a = elim h [
  | inl same ↦ along (λ x. At x q i bytes kept) d e same a
  | inr m ↦ (let made = at_file d name (take m.0 more) q i bytes kept s o a in
      at_undone m.1 e name q i bytes kept o m.3 (along (λ x. At x q i bytes kept) _ m.1 m.2.1 made))
]
at_step d e (wrote name more (Ok v)) q i bytes kept s o h a = at_written d e name more q i bytes kept s o h a
at_step d e (wrote name more (Err f)) q i bytes kept s o h a = elim h [
  | inl same ↦ along (λ x. At x q i bytes kept) d e same a
  | inr m ↦ elim m [
    | inl gone ↦ along (λ x. At x q i bytes kept) _ e gone (at_gone d name q i bytes kept o a)
    | inr w ↦ (let written = at_written d w.1 name (take w.0 more) q i bytes kept s o w.2 a in
        at_undone w.1 e name q i bytes kept o w.3 written)
  ]
]
at_step d e (appended name more (Ok v)) q i bytes kept s o h a = along (λ x. At x q i bytes kept) _ e h.2 (at_other d name h.0 (d.bytes h.0 ++ more) (d.kept h.0) q i bytes kept s o h.1 a)
at_step d e (appended name more (Err f)) q i bytes kept s o h a = elim h [
  | inl same ↦ along (λ x. At x q i bytes kept) d e same a
  | inr m ↦ along (λ x. At x q i bytes kept) _ e m.2.2 (at_other d name m.2.0 (d.bytes m.2.0 ++ take m.1 more) (d.kept m.2.0) q i bytes kept s o m.2.1 a)
]
at_step d e (synced name (Ok v)) q i bytes kept s o h a = along (λ x. At x q i bytes kept) _ e h.2 (at_other d name h.0 (d.bytes h.0) (length (d.bytes h.0)) q i bytes kept s o h.1 a)
at_step d e (synced name (Err f)) q i bytes kept s o h a = elim h [
  | inl same ↦ along (λ x. At x q i bytes kept) d e same a
  | inr m ↦ along (λ x. At x q i bytes kept) _ e m.2 (at_other d name m.0 (d.bytes m.0) (length (d.bytes m.0)) q i bytes kept s o m.1 a)
]
at_step d e (folder_synced (Ok v)) q i bytes kept s o h a = along (λ x. At x q i bytes kept) _ e h (at_settled d q i bytes kept a)
at_step d e (folder_synced (Err f)) q i bytes kept s o h a = elim h [ inl same ↦ along (λ x. At x q i bytes kept) d e same a | inr m ↦ along (λ x. At x q i bytes kept) _ e m (at_settled d q i bytes kept a) ]
at_step d e (renamed from to (Ok v)) q i bytes kept s o h a = along (λ x. At x q i bytes kept) _ e h.2
    (at_names d (moved d.names from to h.0) q i bytes kept (named_else (named d.names to (Some h.0)) from None q o.0 ∙ named_else d.names to (Some h.0) q o.1) a)
at_step d e (renamed from to (Err f)) q i bytes kept s o h a = elim h [
  | inl same ↦ along (λ x. At x q i bytes kept) d e same a
  | inr m ↦ along (λ x. At x q i bytes kept) _ e m.2 (at_names d (moved d.names from to m.0) q i bytes kept (named_else (named d.names to (Some m.0)) from None q o.0 ∙ named_else d.names to (Some m.0) q o.1) a)
]
at_step d e (removed name (Ok v)) q i bytes kept s o h a = along (λ x. At x q i bytes kept) _ e h (at_gone d name q i bytes kept o a)
at_step d e (removed name (Err f)) q i bytes kept s o h a = elim h [
  | inl same ↦ along (λ x. At x q i bytes kept) d e same a
  | inr m ↦ along (λ x. At x q i bytes kept) _ e m (at_gone d name q i bytes kept o a)
]
at_step d e (measured name answer) q i bytes kept s o h a = along (λ x. At x q i bytes kept) d e h a
at_step d e (read name image offset len answer) q i bytes kept s o h a = along (λ x. At x q i bytes kept) d e h a
at_step d e (loaded name (Ok more)) q i bytes kept s o h a = along (λ x. At x q i bytes kept) d e h.0 a
at_step d e (loaded name (Err f)) q i bytes kept s o h a = along (λ x. At x q i bytes kept) d e h a
at_step d e (listed answer) q i bytes kept s o h a = along (λ x. At x q i bytes kept) d e h a
at_step d e (locked name kind answer) q i bytes kept s o h a = elim h [
  | inl same ↦ along (λ x. At x q i bytes kept) d e same a
  | inr m ↦ along (λ x. At x q i bytes kept) _ e m.1 (at_file d name [] q i bytes kept s o a)
]

-- ---- a file is written, and made durable

at_made : (d : Disk) (q bytes : List ℕ) → At (with_file q bytes d) q d.next bytes 0
at_made d q bytes = record { names = named_at d.names q (Some d.next); bytes_are = set_at d.bytes d.next bytes; kept_is = set_at d.kept d.next 0 }

at_filled : (d : Disk) (q : List ℕ) (i : ℕ) (bytes : List ℕ) (kept : ℕ) → d.names q ≡ Some i → At (filled i bytes kept d) q i bytes kept
at_filled d q i bytes kept at = record { names = at; bytes_are = set_at d.bytes i bytes; kept_is = set_at d.kept i kept }

pub at_makes : (d e : Disk) (q bytes : List ℕ) → Makes d q bytes e → (i : ℕ) × At e q i bytes 0
at_makes d e q bytes m = (d.next, along (λ x. At x q d.next bytes 0) _ e m.1 (at_made d q bytes))

pub at_writes : (d e : Disk) (q bytes : List ℕ) → Writes d q bytes e → (i : ℕ) × At e q i bytes 0
at_writes d e q bytes (inl m) = (d.next, along (λ x. At x q d.next bytes 0) _ e m (at_made d q bytes))
at_writes d e q bytes (inr (inl w)) = (w.0, along (λ x. At x q w.0 bytes 0) _ e w.2 (at_filled d q w.0 bytes 0 w.1))
at_writes d e q bytes (inr (inr m)) = (d.next, along (λ x. At x q d.next bytes 0) _ e m (at_made (without q d) q bytes))

pub at_syncs : (d e : Disk) (q : List ℕ) (i : ℕ) (bytes : List ℕ) (kept : ℕ) → At d q i bytes kept → Syncs d q e → At e q i bytes (length bytes)
at_syncs d e q i bytes kept a h =
    let same : h.0 ≡ i = some_is h.0 i (sym h.1 ∙ a.names) in
    let was : d.bytes h.0 ≡ bytes = ap d.bytes same ∙ a.bytes_are in
    let new : At e q h.0 (d.bytes h.0) (length (d.bytes h.0)) = along (λ x. At x q h.0 (d.bytes h.0) (length (d.bytes h.0))) _ e h.2 (at_filled d q h.0 (d.bytes h.0) (length (d.bytes h.0)) h.1) in
    subst (λ b. At e q i b (length b)) was (subst (λ j. At e q j (d.bytes h.0) (length (d.bytes h.0))) same new)

-- the folder is synced, and the file stands under its name
pub stands_settled : (d e : Disk) (q : List ℕ) (i : ℕ) (bytes : List ℕ) → IsSound d → At d q i bytes (length bytes) → SyncsFolder d e → Stands e q bytes
stands_settled d e q i bytes s a h = along (λ x. Stands x q bytes) _ e h (
  i,
  record {
    each = λ o m. inr (
      i,
      (elim m.1 [ inl same ↦ sym m.2 ∙ (ap (λ (f : Names). f q) (sym same) ∙ a.names) | inr none ↦ absurd none ]),
      s.below q i a.names,
      λ p at. s.one p q i at a.names,
      (refl, a.bytes_are, a.kept_is),
    );
  },
)

-- ---- a file has its new name

-- the second name has the first one's file, or what it had
pub holds_renamed : (miss : Bool) (P : ℕ → List ℕ → ℕ → Type 0) (d e : Disk) (from to : List ℕ) (i : ℕ) (bytes : List ℕ) (kept : ℕ) → IsSound d → (from ≡ to → ⊥)
    → At d from i bytes kept → P i (d.bytes i) (d.kept i) → Holds miss d to P → Renames d from to e → Holds miss e to P
holds_renamed miss P d e from to i bytes kept s apart a new H h =
    let same : h.0 ≡ i = some_is h.0 i (sym h.1 ∙ a.names) in
    along (λ x. Holds miss x to P) _ e h.2 record {
      each = λ o m. elim m.1 [
        | inl now ↦ inr (
          i,
          sym m.2 ∙ (ap (λ (f : Names). f to) (sym now) ∙ (named_else (named d.names to (Some h.0)) from None to apart ∙ (named_at d.names to (Some h.0) ∙ ap Some same))),
          s.below from i a.names,
          λ p at. elim (moved_cases d.names from to h.0 p i at) [ inl t ↦ t.0 | inr t ↦ absurd (t.1 (s.one p from i t.2 a.names)) ],
          new,
        )
        | inr old ↦ elim (H.each o (m.0, old, m.2)) [
          | inl none ↦ inl none
          | inr k ↦ inr (
            k.0,
            k.1,
            k.2,
            λ p at. elim (moved_cases d.names from to h.0 p k.0 at) [ inl t ↦ t.0 | inr t ↦ k.3 p t.2 ],
            k.4,
          )
        ]
      ];
    }

pub at_renamed : (d e : Disk) (from to : List ℕ) (i : ℕ) (bytes : List ℕ) (kept : ℕ) → (from ≡ to → ⊥) → At d from i bytes kept → Renames d from to e → At e to i bytes kept
at_renamed d e from to i bytes kept apart a h =
    let same : h.0 ≡ i = some_is h.0 i (sym h.1 ∙ a.names) in
    along (λ x. At x to i bytes kept) _ e h.2 record {
      names = named_else (named d.names to (Some h.0)) from None to apart ∙ (named_at d.names to (Some h.0) ∙ ap Some same);
      bytes_are = a.bytes_are;
      kept_is = a.kept_is;
    }

-- ---- bytes are put behind those of a file

-- just this file, with a beginning of these bytes behind its durable ones
abbrev pub IsGrown : ℕ → List ℕ → List ℕ → ℕ → List ℕ → ℕ → Type 0
IsGrown one bytes more i b k = (i ≡ one) × (b ≡ bytes ++ more) × (k ≡ length bytes)

pub holds_grown : (d e : Disk) (q bytes more : List ℕ) (one : ℕ) → IsSound d → Holds false d q (Is one bytes) → Appends d q more e → Holds false e q (IsGrown one bytes more)
holds_grown d e q bytes more one s H h =
    let now = sure (Is one bytes) d q H (d.names q) (d.names, s.now, refl) in
    let same : h.0 ≡ one = some_is h.0 now.0 (sym h.1 ∙ now.1) ∙ now.4.0 in
    along (λ x. Holds false x q (IsGrown one bytes more)) _ e h.2 record {
      each = λ o m. inr (let k = sure (Is one bytes) d q H o m in let here : k.0 ≡ h.0 = k.4.0 ∙ sym same in (
        k.0,
        k.1,
        k.2,
        k.3,
        (
          k.4.0,
          ap (set d.bytes h.0 (d.bytes h.0 ++ more)) here ∙ (set_at d.bytes h.0 (d.bytes h.0 ++ more) ∙ ap (λ b. b ++ more) (ap d.bytes (sym here) ∙ k.4.1)),
          ap (set d.kept h.0 (d.kept h.0)) here ∙ (set_at d.kept h.0 (d.kept h.0) ∙ (ap d.kept (sym here) ∙ k.4.2)),
        ),
      ));
    }

pub holds_durable : (d e : Disk) (q bytes more : List ℕ) (one : ℕ) → IsSound d → Holds false d q (IsGrown one bytes more) → Syncs d q e → Holds false e q (Is one (bytes ++ more))
holds_durable d e q bytes more one s H h =
    let now = sure (IsGrown one bytes more) d q H (d.names q) (d.names, s.now, refl) in
    let same : h.0 ≡ one = some_is h.0 now.0 (sym h.1 ∙ now.1) ∙ now.4.0 in
    along (λ x. Holds false x q (Is one (bytes ++ more))) _ e h.2 record {
      each = λ o m. inr (let k = sure (IsGrown one bytes more) d q H o m in let here : k.0 ≡ h.0 = k.4.0 ∙ sym same in let was : d.bytes h.0 ≡ bytes ++ more = ap d.bytes (sym here) ∙ k.4.1 in (
        k.0,
        k.1,
        k.2,
        k.3,
        (
          k.4.0,
          ap (set d.bytes h.0 (d.bytes h.0)) here ∙ (set_at d.bytes h.0 (d.bytes h.0) ∙ was),
          ap (set d.kept h.0 (length (d.bytes h.0))) here ∙ (set_at d.kept h.0 (length (d.bytes h.0)) ∙ ap length was),
        ),
      ));
    }

-- a beginning of a text with a beginning of more behind it
pub take_past : (b more : List ℕ) (j : ℕ) → take (length b + j) (b ++ more) ≡ b ++ take j more
take_past [] more j = ap (λ n. take n more) (zero-add j)
take_past (x ∷ b) more j =
    let step : length (x ∷ b) + j ≡ suc (length b + j) = omega arith in
    ap (λ n. take n (x ∷ (b ++ more))) step ∙ ap (λ t. x ∷ t) (take_past b more j)

pub cut_text : (b more : List ℕ) (j n : ℕ) → length b ≤ n → (m : ℕ) × (length b ≤ m) × (take n (b ++ take j more) ≡ take m (b ++ more))
cut_text b more j n le = elim (split (length b + j) n) [
  | inl small ↦ (
    length b + j,
    omega arith,
    take_all n (b ++ take j more) (omega (arith, length-append b (take j more), short j more)) ∙ sym (take_past b more j),
  )
  | inr large ↦ (n, le, ap (take n) (sym (take_past b more j)) ∙ take-take n (length b + j) (b ++ more) large)
]
  where
    split : (a c : ℕ) → (a ≤ c) ⊎ (c ≤ a)
    split zero c = inl (omega arith)
    split (suc a) zero = inr (omega arith)
    split (suc a) (suc c) = elim (split a c) [ inl h ↦ inl (omega arith) | inr h ↦ inr (omega arith) ]

    short : (i : ℕ) (l : List ℕ) → length (take i l) ≤ i
    short zero l = omega arith
    short (suc i) [] = omega arith
    short (suc i) (x ∷ l) = (let h = short i l in omega arith)

-- ---- what the name shows now

pub at_shows : (d : Disk) (q : List ℕ) (i : ℕ) (bytes : List ℕ) (kept : ℕ) → At d q i bytes kept → Shows d q bytes
at_shows d q i bytes kept a = (i, a.names, a.bytes_are)

pub stands_shows : (d : Disk) (q bytes : List ℕ) → IsSound d → Stands d q bytes → Shows d q bytes
stands_shows d q bytes s (one, H) = (let h = sure (Is one bytes) d q H (d.names q) (d.names, s.now, refl) in (h.0, h.1, h.4.1))

pub shows_step : (d e : Disk) (c : Call) (q bytes : List ℕ) → IsSound d → Avoids q c → Step d c e → Shows d q bytes → Shows e q bytes
shows_step d e c q bytes s a h shown =
    let at = at_step d e c q shown.0 bytes (d.kept shown.0) s a h record { names = shown.1; bytes_are = shown.2; kept_is = refl } in
    (shown.0, at.names, at.bytes_are)
