-- What a call leaves of a name that it does not touch.
use Rattle.std.proofs.Common.{◌≡◌, ℕ, List, [], ◌∷◌, ◌++◌, length, take, refl, sym, ◌∙◌, ap, subst, inl, inr, arith, ◌⊎◌, Some, None, true, false, cond, ◌==◌}
use Rattle.std.specs.Prelude.{Bool, Option, Ok, Err}
use Rattle.std.specs.Str.{bytes_eq}
use Rattle.std.proofs.lemmas.Bool.{cases_Bool, eqb-true, eq-eqb}
use Rattle.std.proofs.lemmas.Slice.Eq.{bytes_eq-Decides}
use Rattle.lsm_folder.specs.Calls.{Call, opened, made, wrote, appended, synced, folder_synced, renamed, removed, measured, read, loaded, listed, locked}
use Rattle.lsm_crash.specs.Known.{IsSound, Holds, IsFile}
use Rattle.lsm_crash.specs.Among.{Avoids}
use Rattle.lsm_crash.specs.Crash.{May}
use Rattle.lsm_crash.specs.Disk.{Disk, Makes, Names, Step, Undoes, Writes, set, named, moved}
use Rattle.lsm_crash.specs.Disk.{with_file, with_names, without, filled}

pub some_is : (m n : ℕ) → Some m ≡ Some n → m ≡ n
some_is m n p = cc

pub none_is : (n : ℕ) → None ≡ Some n → ⊥
none_is n p = cc

-- ---- functions that differ at one place

pub named_at : (names : Names) (name : List ℕ) (o : Option ℕ) → named names name o name ≡ o
named_at names name o = ap (λ b. cond b o (names name)) ((bytes_eq-Decides name name).1 refl)

pub named_cases : (names : Names) (name : List ℕ) (o : Option ℕ) (q : List ℕ) → ((q ≡ name) × (named names name o q ≡ o)) ⊎ ((q ≡ name → ⊥) × (named names name o q ≡ names q))
named_cases names name o q = elim (cases_Bool (bytes_eq q name)) [
  | inl t ↦ inl ((bytes_eq-Decides q name).0 t, ap (λ b. cond b o (names q)) t)
  | inr f ↦ inr (λ e. absurd (let t : true ≡ false = sym ((bytes_eq-Decides q name).1 e) ∙ f in cc), ap (λ b. cond b o (names q)) f)
]

pub named_else : (names : Names) (name : List ℕ) (o : Option ℕ) (q : List ℕ) → (name ≡ q → ⊥) → named names name o q ≡ names q
named_else names name o q other = elim (named_cases names name o q) [ inl h ↦ absurd (other (sym h.0)) | inr h ↦ h.1 ]

pub set_at : {X : Type 0} (f : ℕ → X) (i : ℕ) (x : X) → set f i x i ≡ x
set_at f i x = ap (λ b. cond b x (f i)) (eq-eqb i i refl)

pub set_else : {X : Type 0} (f : ℕ → X) (i : ℕ) (x : X) (j : ℕ) → (j ≡ i → ⊥) → set f i x j ≡ f j
set_else f i x j other = elim (cases_Bool (j == i)) [ inl t ↦ absurd (other (eqb-true j i t)) | inr n ↦ ap (λ b. cond b x (f j)) n ]

-- a name that has this file after a move
pub moved_cases : (names : Names) (from to : List ℕ) (i : ℕ) (p : List ℕ) (j : ℕ) → moved names from to i p ≡ Some j
    → ((p ≡ to) × (i ≡ j)) ⊎ ((p ≡ to → ⊥) × (p ≡ from → ⊥) × (names p ≡ Some j))
moved_cases names from to i p j at = elim (named_cases (named names to (Some i)) from None p) [
  | inl h ↦ absurd (none_is j (sym h.1 ∙ at))
  | inr h ↦ elim (named_cases names to (Some i) p) [
    | inl t ↦ inl (t.0, some_is i j (sym t.1 ∙ (sym h.1 ∙ at)))
    | inr t ↦ inr (t.0, h.0, sym t.1 ∙ (sym h.1 ∙ at))
  ]
]

-- ---- disks

sound_names : (d : Disk) (names : Names) → IsSound d → ((p : List ℕ) (i : ℕ) → names p ≡ Some i → (r : List ℕ) × (d.names r ≡ Some i))
    → ((p q : List ℕ) (i : ℕ) → names p ≡ Some i → names q ≡ Some i → p ≡ q) → IsSound (with_names names d)
sound_names d names s from one = record { now = inl refl; below = λ p i at. (let r = from p i at in s.below r.0 i r.1); one = one }

sound_file : (d : Disk) (name bytes : List ℕ) → IsSound d → IsSound (with_file name bytes d)
sound_file d name bytes s = record {
  now = inl refl;
  below = λ p i at. elim (named_cases d.names name (Some d.next) p) [
    | inl h ↦ (let e : d.next ≡ i = some_is d.next i (sym h.1 ∙ at) in omega arith)
    | inr h ↦ (let lt = s.below p i (sym h.1 ∙ at) in omega arith)
  ];
  one = λ p q i at_p at_q. elim (named_cases d.names name (Some d.next) p) [
    | inl h ↦ elim (named_cases d.names name (Some d.next) q) [
      | inl k ↦ h.0 ∙ sym k.0
      | inr k ↦ (let e : d.next ≡ i = some_is d.next i (sym h.1 ∙ at_p) in let lt = s.below q i (sym k.1 ∙ at_q) in absurd (omega arith))
    ]
    | inr h ↦ elim (named_cases d.names name (Some d.next) q) [
      | inl k ↦ (let e : d.next ≡ i = some_is d.next i (sym k.1 ∙ at_q) in let lt = s.below p i (sym h.1 ∙ at_p) in absurd (omega arith))
      | inr k ↦ s.one p q i (sym h.1 ∙ at_p) (sym k.1 ∙ at_q)
    ]
  ];
}

sound_moved : (d : Disk) (from to : List ℕ) (i : ℕ) → IsSound d → d.names from ≡ Some i → IsSound (with_names (moved d.names from to i) d)
sound_moved d from to i s at = sound_names d (moved d.names from to i) s
    (λ p j h. elim (moved_cases d.names from to i p j h) [ inl t ↦ (from, at ∙ ap Some t.1) | inr t ↦ (p, t.2) ])
    (λ p q j hp hq. elim (moved_cases d.names from to i p j hp) [
      | inl a ↦ elim (moved_cases d.names from to i q j hq) [ inl b ↦ a.0 ∙ sym b.0 | inr b ↦ absurd (b.1 (s.one q from j b.2 (at ∙ ap Some a.1))) ]
      | inr a ↦ elim (moved_cases d.names from to i q j hq) [ inl b ↦ absurd (a.1 (s.one p from j a.2 (at ∙ ap Some b.1))) | inr b ↦ s.one p q j a.2 b.2 ]
    ])

-- a name that was taken away
gone_at : (names : Names) (name p : List ℕ) (i : ℕ) → named names name None p ≡ Some i → names p ≡ Some i
gone_at names name p i at = elim (named_cases names name None p) [ inl h ↦ absurd (none_is i (sym h.1 ∙ at)) | inr h ↦ sym h.1 ∙ at ]

pub sound_gone : (d : Disk) (name : List ℕ) → IsSound d → IsSound (with_names (named d.names name None) d)
sound_gone d name s = sound_names d (named d.names name None) s (λ p i at. (p, gone_at d.names name p i at))
    (λ p q i hp hq. s.one p q i (gone_at d.names name p i hp) (gone_at d.names name q i hq))

sound_filled : (d : Disk) (i : ℕ) (bytes : List ℕ) (kept : ℕ) → IsSound d → IsSound (filled i bytes kept d)
sound_filled d i bytes kept s = record { now = s.now; below = s.below; one = s.one }

sound_settled : (d : Disk) → IsSound d → IsSound (record d { past = d.names ∷ [] })
sound_settled d s = record { now = inl refl; below = s.below; one = s.one }

pub along : (P : Disk → Type 0) (d e : Disk) → e ≡ d → P d → P e
along P d e same = subst P (sym same)

sound_made : (d e : Disk) (name bytes : List ℕ) → IsSound d → Makes d name bytes e → IsSound e
sound_made d e name bytes s h =
    along IsSound (with_file name bytes d) e h.1 (sound_file d name bytes s)

sound_written : (d e : Disk) (name bytes : List ℕ) → IsSound d → Writes d name bytes e → IsSound e
sound_written d e name bytes s (inl m) = along IsSound (with_file name bytes d) e m (sound_file d name bytes s)
sound_written d e name bytes s (inr (inl w)) = along IsSound (filled w.0 bytes 0 d) e w.2 (sound_filled d w.0 bytes 0 s)
sound_written d e name bytes s (inr (inr m)) = along IsSound (with_file name bytes (without name d)) e m (sound_file (without name d) name bytes (sound_gone d name s))

sound_undone : (d e : Disk) (name : List ℕ) → IsSound d → Undoes d name e → IsSound e
sound_undone d e name s (inl same) = along IsSound d e same s
sound_undone d e name s (inr gone) = along IsSound _ e gone (sound_gone d name s)

pub step_sound : (d e : Disk) (c : Call) → IsSound d → Step d c e → IsSound e
step_sound d e opened s h = along IsSound d e h s
step_sound d e (made name bytes (Ok v)) s h = sound_made d e name bytes s h
step_sound d e (made name bytes (Err f)) s h = elim h [
  | inl same ↦ along IsSound d e same s
  | inr m ↦ sound_undone m.1 e name (sound_made d m.1 name (take m.0 bytes) s m.2) m.3
]
step_sound d e (wrote name bytes (Ok v)) s h = sound_written d e name bytes s h
step_sound d e (wrote name bytes (Err f)) s h = elim h [
  | inl same ↦ along IsSound d e same s
  | inr m ↦ elim m [
    | inl gone ↦ along IsSound _ e gone (sound_gone d name s)
    | inr w ↦ sound_undone w.1 e name (sound_written d w.1 name (take w.0 bytes) s w.2) w.3
  ]
]
step_sound d e (appended name bytes (Ok v)) s h = along IsSound _ e h.2 (sound_filled d h.0 (d.bytes h.0 ++ bytes) (d.kept h.0) s)
step_sound d e (appended name bytes (Err f)) s h = elim h [
  | inl same ↦ along IsSound d e same s
  | inr m ↦ along IsSound _ e m.2.2 (sound_filled d m.2.0 (d.bytes m.2.0 ++ take m.1 bytes) (d.kept m.2.0) s)
]
step_sound d e (synced name (Ok v)) s h = along IsSound _ e h.2 (sound_filled d h.0 (d.bytes h.0) (length (d.bytes h.0)) s)
step_sound d e (synced name (Err f)) s h = elim h [ inl same ↦ along IsSound d e same s | inr m ↦ along IsSound _ e m.2 (sound_filled d m.0 (d.bytes m.0) (length (d.bytes m.0)) s) ]
step_sound d e (folder_synced (Ok v)) s h = along IsSound _ e h (sound_settled d s)
step_sound d e (folder_synced (Err f)) s h = elim h [ inl same ↦ along IsSound d e same s | inr m ↦ along IsSound _ e m (sound_settled d s) ]
step_sound d e (renamed from to (Ok v)) s h = along IsSound _ e h.2 (sound_moved d from to h.0 s h.1)
step_sound d e (renamed from to (Err f)) s h = elim h [ inl same ↦ along IsSound d e same s | inr m ↦ along IsSound _ e m.2 (sound_moved d from to m.0 s m.1) ]
step_sound d e (removed name (Ok v)) s h = along IsSound _ e h (sound_gone d name s)
step_sound d e (removed name (Err f)) s h = elim h [ inl same ↦ along IsSound d e same s | inr m ↦ along IsSound _ e m (sound_gone d name s) ]
step_sound d e (measured name answer) s h = along IsSound d e h s
step_sound d e (read name image offset len answer) s h = along IsSound d e h s
step_sound d e (loaded name (Ok bytes)) s h = along IsSound d e h.0 s
step_sound d e (loaded name (Err f)) s h = along IsSound d e h s
step_sound d e (listed answer) s h = along IsSound d e h s
step_sound d e (locked name kind answer) s h = elim h [ inl same ↦ along IsSound d e same s | inr m ↦ along IsSound (with_file name [] d) e m.1 (sound_file d name [] s) ]

-- ---- what holds of each file that the name may have after a crash

-- other names, that are as before at this one
pub may_before : (d : Disk) (names : Names) (q : List ℕ) (o : Option ℕ) → IsSound d → names q ≡ d.names q → May (with_names names d) q o → May d q o
may_before d names q o s same m = elim m.1 [
  | inl e ↦ (d.names, s.now, sym same ∙ (ap (λ (f : Names). f q) e ∙ m.2))
  | inr h ↦ (m.0, h, m.2)
]

-- what holds of each file that the name may have: no more files than before, and of each the same
holds_by : (miss : Bool) (P : ℕ → List ℕ → ℕ → Type 0) (q : List ℕ) (d e : Disk) → ((o : Option ℕ) → May e q o → May d q o) → ((o : Option ℕ) → IsFile d q P o → IsFile e q P o)
    → Holds miss d q P → Holds miss e q P
holds_by miss P q d e may file H = record { each = λ o m. elim (H.each o (may o m)) [ inl none ↦ inl none | inr h ↦ inr (file o h) ] }

file_kept : (P : ℕ → List ℕ → ℕ → Type 0) (q : List ℕ) (d : Disk) (name bytes : List ℕ) → (o : Option ℕ) → IsFile d q P o → IsFile (with_file name bytes d) q P o
file_kept P q d name bytes o h =
    let lt = h.2 in
    let fresh : h.0 ≡ d.next → ⊥ = λ e. absurd (omega arith) in (
      h.0,
      h.1,
      omega arith,
      λ p at. elim (named_cases d.names name (Some d.next) p) [
        | inl k ↦ absurd (fresh (sym (some_is d.next h.0 (sym k.1 ∙ at))))
        | inr k ↦ h.3 p (sym k.1 ∙ at)
      ],
      subst (λ b. P h.0 b (set d.kept d.next 0 h.0)) (sym (set_else d.bytes d.next bytes h.0 fresh))
          (subst (λ k. P h.0 (d.bytes h.0) k) (sym (set_else d.kept d.next 0 h.0 fresh)) h.4),
    )

holds_file : (miss : Bool) (P : ℕ → List ℕ → ℕ → Type 0) (q : List ℕ) (d : Disk) (name bytes : List ℕ) → IsSound d → (name ≡ q → ⊥) → Holds miss d q P → Holds miss (with_file name bytes d) q P
holds_file miss P q d name bytes s other = holds_by miss P q d (with_file name bytes d)
    (λ o m. may_before d (named d.names name (Some d.next)) q o s (named_else d.names name (Some d.next) q other) m) (file_kept P q d name bytes)

file_filled : (P : ℕ → List ℕ → ℕ → Type 0) (q : List ℕ) (d : Disk) (name : List ℕ) (i : ℕ) (bytes : List ℕ) (kept : ℕ) → (name ≡ q → ⊥) → d.names name ≡ Some i → (o : Option ℕ) → IsFile d q P o → IsFile (filled i bytes kept d) q P o
file_filled P q d name i bytes kept other at o h =
    let apart : h.0 ≡ i → ⊥ = λ e. other (h.3 name (at ∙ ap Some (sym e))) in (
      h.0,
      h.1,
      h.2,
      h.3,
      subst (λ b. P h.0 b (set d.kept i kept h.0)) (sym (set_else d.bytes i bytes h.0 apart))
          (subst (λ k. P h.0 (d.bytes h.0) k) (sym (set_else d.kept i kept h.0 apart)) h.4),
    )

holds_filled : (miss : Bool) (P : ℕ → List ℕ → ℕ → Type 0) (q : List ℕ) (d : Disk) (name : List ℕ) (i : ℕ) (bytes : List ℕ) (kept : ℕ) → (name ≡ q → ⊥) → d.names name ≡ Some i → Holds miss d q P → Holds miss (filled i bytes kept d) q P
holds_filled miss P q d name i bytes kept other at = holds_by miss P q d (filled i bytes kept d) (λ o m. m) (file_filled P q d name i bytes kept other at)

holds_names : (miss : Bool) (P : ℕ → List ℕ → ℕ → Type 0) (q : List ℕ) (d : Disk) (names : Names) → IsSound d → names q ≡ d.names q
    → ((p : List ℕ) (i : ℕ) → names p ≡ Some i → (r : List ℕ) × (d.names r ≡ Some i) × (r ≡ q → p ≡ q)) → Holds miss d q P → Holds miss (with_names names d) q P
holds_names miss P q d names s same from = holds_by miss P q d (with_names names d) (λ o m. may_before d names q o s same m)
    (λ o h. (h.0, h.1, h.2, λ p at. (let r = from p h.0 at in r.2 (h.3 r.0 r.1)), h.4))

holds_moved : (miss : Bool) (P : ℕ → List ℕ → ℕ → Type 0) (q : List ℕ) (d : Disk) (from to : List ℕ) (i : ℕ) → IsSound d → (from ≡ q → ⊥) → (to ≡ q → ⊥) → d.names from ≡ Some i → Holds miss d q P
    → Holds miss (with_names (moved d.names from to i) d) q P
holds_moved miss P q d from to i s a b at H = holds_names miss P q d (moved d.names from to i) s
    (named_else (named d.names to (Some i)) from None q a ∙ named_else d.names to (Some i) q b)
    (λ p j h. elim (moved_cases d.names from to i p j h) [ inl t ↦ (from, at ∙ ap Some t.1, λ e. absurd (a e)) | inr t ↦ (p, t.2, λ e. e) ])
    H

holds_gone : (miss : Bool) (P : ℕ → List ℕ → ℕ → Type 0) (q : List ℕ) (d : Disk) (name : List ℕ) → IsSound d → (name ≡ q → ⊥) → Holds miss d q P → Holds miss (with_names (named d.names name None) d) q P
holds_gone miss P q d name s other H = holds_names miss P q d (named d.names name None) s (named_else d.names name None q other) (λ p i at. (p, gone_at d.names name p i at, λ e. e)) H

holds_written : (miss : Bool) (P : ℕ → List ℕ → ℕ → Type 0) (q : List ℕ) (d e : Disk) (name bytes : List ℕ) → IsSound d → (name ≡ q → ⊥) → Writes d name bytes e → Holds miss d q P → Holds miss e q P
holds_written miss P q d e name bytes s other (inl m) H = along (λ x. Holds miss x q P) _ e m (holds_file miss P q d name bytes s other H)
holds_written miss P q d e name bytes s other (inr (inl w)) H = along (λ x. Holds miss x q P) _ e w.2 (holds_filled miss P q d name w.0 bytes 0 other w.1 H)
holds_written miss P q d e name bytes s other (inr (inr m)) H =
    along (λ x. Holds miss x q P) _ e m (holds_file miss P q (without name d) name bytes (sound_gone d name s) other (holds_gone miss P q d name s other H))

holds_made : (miss : Bool) (P : ℕ → List ℕ → ℕ → Type 0) (q : List ℕ) (d e : Disk)
    → (name bytes : List ℕ) → IsSound d → (name ≡ q → ⊥) → Makes d name bytes e
    → Holds miss d q P → Holds miss e q P
holds_made miss P q d e name bytes s other h H =
    along (λ x. Holds miss x q P) _ e h.1 (holds_file miss P q d name bytes s other H)

holds_undone : (miss : Bool) (P : ℕ → List ℕ → ℕ → Type 0) (q : List ℕ) (d e : Disk) (name : List ℕ)
    → IsSound d → (name ≡ q → ⊥) → Undoes d name e → Holds miss d q P → Holds miss e q P
holds_undone miss P q d e name s other (inl same) H = along (λ x. Holds miss x q P) d e same H
holds_undone miss P q d e name s other (inr gone) H =
    along (λ x. Holds miss x q P) _ e gone (holds_gone miss P q d name s other H)

-- the folder was synced
pub holds_settled : (miss : Bool) (P : ℕ → List ℕ → ℕ → Type 0) (q : List ℕ) (d : Disk) → IsSound d → Holds miss d q P → Holds miss (record d { past = d.names ∷ [] }) q P
holds_settled miss P q d s = holds_by miss P q d (record d { past = d.names ∷ [] })
    (λ o m. elim m.1 [ inl e ↦ (d.names, s.now, ap (λ (f : Names). f q) e ∙ m.2) | inr none ↦ absurd none ]) (λ o h. h)

pub step_holds : (miss : Bool) (P : ℕ → List ℕ → ℕ → Type 0) (q : List ℕ) (d e : Disk) (c : Call) → IsSound d → Avoids q c → Step d c e → Holds miss d q P → Holds miss e q P
step_holds miss P q d e opened s a h H = along (λ x. Holds miss x q P) d e h H
step_holds miss P q d e (made name bytes (Ok v)) s a h H =
    holds_made miss P q d e name bytes s a h H
step_holds miss P q d e (made name bytes (Err f)) s a h H = elim h [
  | inl same ↦ along (λ x. Holds miss x q P) d e same H
  | inr m ↦ (let s1 = sound_made d m.1 name (take m.0 bytes) s m.2 in
      let stays = holds_made miss P q d m.1 name (take m.0 bytes) s a m.2 H in
      holds_undone miss P q m.1 e name s1 a m.3 stays)
]
step_holds miss P q d e (wrote name bytes (Ok v)) s a h H = holds_written miss P q d e name bytes s a h H
step_holds miss P q d e (wrote name bytes (Err f)) s a h H = elim h [
  | inl same ↦ along (λ x. Holds miss x q P) d e same H
  | inr m ↦ elim m [
    | inl gone ↦ along (λ x. Holds miss x q P) _ e gone (holds_gone miss P q d name s a H)
    | inr w ↦ (let s1 = sound_written d w.1 name (take w.0 bytes) s w.2 in
        let stays = holds_written miss P q d w.1 name (take w.0 bytes) s a w.2 H in
        holds_undone miss P q w.1 e name s1 a w.3 stays)
  ]
]
step_holds miss P q d e (appended name bytes (Ok v)) s a h H = along (λ x. Holds miss x q P) _ e h.2 (holds_filled miss P q d name h.0 (d.bytes h.0 ++ bytes) (d.kept h.0) a h.1 H)
step_holds miss P q d e (appended name bytes (Err f)) s a h H = elim h [
  | inl same ↦ along (λ x. Holds miss x q P) d e same H
  | inr m ↦ along (λ x. Holds miss x q P) _ e m.2.2 (holds_filled miss P q d name m.2.0 (d.bytes m.2.0 ++ take m.1 bytes) (d.kept m.2.0) a m.2.1 H)
]
step_holds miss P q d e (synced name (Ok v)) s a h H = along (λ x. Holds miss x q P) _ e h.2 (holds_filled miss P q d name h.0 (d.bytes h.0) (length (d.bytes h.0)) a h.1 H)
step_holds miss P q d e (synced name (Err f)) s a h H = elim h [
  | inl same ↦ along (λ x. Holds miss x q P) d e same H
  | inr m ↦ along (λ x. Holds miss x q P) _ e m.2 (holds_filled miss P q d name m.0 (d.bytes m.0) (length (d.bytes m.0)) a m.1 H)
]
step_holds miss P q d e (folder_synced (Ok v)) s a h H = along (λ x. Holds miss x q P) _ e h (holds_settled miss P q d s H)
step_holds miss P q d e (folder_synced (Err f)) s a h H = elim h [ inl same ↦ along (λ x. Holds miss x q P) d e same H | inr m ↦ along (λ x. Holds miss x q P) _ e m (holds_settled miss P q d s H) ]
step_holds miss P q d e (renamed from to (Ok v)) s a h H = along (λ x. Holds miss x q P) _ e h.2 (holds_moved miss P q d from to h.0 s a.0 a.1 h.1 H)
step_holds miss P q d e (renamed from to (Err f)) s a h H = elim h [
  | inl same ↦ along (λ x. Holds miss x q P) d e same H
  | inr m ↦ along (λ x. Holds miss x q P) _ e m.2 (holds_moved miss P q d from to m.0 s a.0 a.1 m.1 H)
]
step_holds miss P q d e (removed name (Ok v)) s a h H = along (λ x. Holds miss x q P) _ e h (holds_gone miss P q d name s a H)
step_holds miss P q d e (removed name (Err f)) s a h H = elim h [ inl same ↦ along (λ x. Holds miss x q P) d e same H | inr m ↦ along (λ x. Holds miss x q P) _ e m (holds_gone miss P q d name s a H) ]
step_holds miss P q d e (measured name answer) s a h H = along (λ x. Holds miss x q P) d e h H
step_holds miss P q d e (read name image offset len answer) s a h H = along (λ x. Holds miss x q P) d e h H
step_holds miss P q d e (loaded name (Ok bytes)) s a h H = along (λ x. Holds miss x q P) d e h.0 H
step_holds miss P q d e (loaded name (Err f)) s a h H = along (λ x. Holds miss x q P) d e h H
step_holds miss P q d e (listed answer) s a h H = along (λ x. Holds miss x q P) d e h H
step_holds miss P q d e (locked name kind answer) s a h H = elim h [
  | inl same ↦ along (λ x. Holds miss x q P) d e same H
  | inr m ↦ along (λ x. Holds miss x q P) _ e m.1 (holds_file miss P q d name [] s a H)
]
