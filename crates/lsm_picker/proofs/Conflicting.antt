-- A plan conflicts with what is known of a job just where the jobs conflict.
use Rattle.std.proofs.Common.{◌≡◌, ℕ, suc, ◌+◌, ◌<◌, Bool, true, false, List, [], ◌∷◌, ◌++◌, length, get_or, take, map, refl, sym, ◌∙◌, ap, subst, inl, inr, arith}
use Rattle.std.specs.Prelude.{◌⊎◌, ◌&&◌, ◌||◌, ◌==◌, Option, Some, None}
use Rattle.std.proofs.lemmas.Bool.{and_from, and_parts, both_ways, eq-eqb, eqb-true}
use Rattle.std.proofs.lemmas.List.{take_more}
use Rattle.lsm_codec.specs.Keys.{UserKey, user_le}
use Rattle.lsm_codec.specs.Lists.{Has}
use Rattle.lsm_codec.proofs.CallerLemmas.{any_at, any_says, has_cases, has_left, has_right}
use Rattle.lsm_table.specs.Registry.{Table}
use Rattle.lsm_model.specs.Files.{File}
use Rattle.lsm_model.specs.Jobs.{Conflicts, Job, Shares}
use Rattle.lsm_version.specs.Versions.{file_of, files_of}
use Rattle.lsm_picker.specs.Reservations.{IsClear, IsLeastConflict, IsLesserTicket, Reserved, conflicts, has_input, hulls_meet, reserved_of, shares}
use Rattle.lsm_picker.specs.TablePlans.{TablePlan, job_of}
use Rattle.lsm_picker.proofs.LevelFiles.{files_has, has_files}

either : (a b : Bool) → (a || b) ≡ true → (a ≡ true) ⊎ (b ≡ true)
either true b h = inl refl
either false b h = inr h

or_left : (a b : Bool) → a ≡ true → (a || b) ≡ true
or_left true b h = refl
or_left false b h = absurd (cc h)

or_right : (a b : Bool) → b ≡ true → (a || b) ≡ true
or_right true b h = refl
or_right false b h = h

number_has : (Fs : List File) (F : File) → Has Fs F → Has (map (λ (G : File). G.number) Fs) F.number
number_has [] F h = absurd h
number_has (G ∷ Fs) F (inl e) = inl (ap (λ (D : File). D.number) e)
number_has (G ∷ Fs) F (inr h) = inr (number_has Fs F h)

has_number : (Fs : List File) (n : ℕ) → Has (map (λ (G : File). G.number) Fs) n → (F : File) × Has Fs F × (F.number ≡ n)
has_number [] n h = absurd h
has_number (G ∷ Fs) n (inl e) = (G, inl refl, e)
has_number (G ∷ Fs) n (inr h) = (let r = has_number Fs n h in (r.0, inr r.1, r.2))

-- ---- shared inputs

shared_file : (level : ℕ) (ts : List Table) (other : Job) → shares ts (reserved_of other) ≡ true
    → (F : File) × (G : File) × Has (files_of level ts) F × Has other.inputs G × (F.number ≡ G.number)
shared_file level ts other h =
    let r = any_says (λ (t : Table). has_input (reserved_of other) t.number) ts h in
    let n = any_says (λ (m : ℕ). m == r.0.number) (map (λ (G : File). G.number) other.inputs) r.2 in
    let g = has_number other.inputs n.0 n.1 in
    (file_of level r.0, g.0, has_files level ts r.0 r.1, g.1, sym (g.2 ∙ eqb-true n.0 r.0.number n.2))

file_shared : (level : ℕ) (ts : List Table) (other : Job) (F G : File) → Has (files_of level ts) F → Has other.inputs G → F.number ≡ G.number → shares ts (reserved_of other) ≡ true
file_shared level ts other F G h k e =
    let r = files_has level ts F h in
    let number : r.0.number ≡ F.number = ap (λ (D : File). D.number) r.2 in
    any_at (λ (t : Table). has_input (reserved_of other) t.number) ts r.0 r.1
    (any_at (λ (m : ℕ). m == r.0.number) (map (λ (D : File). D.number) other.inputs) G.number (number_has other.inputs G k) (eq-eqb G.number r.0.number (sym e ∙ sym number)))

-- ---- the whole

pub conflict_says : (p : TablePlan) (ticket floor : ℕ) (ranges : List (UserKey × UserKey)) (is_move : Bool) (other : Job)
    → conflicts p (reserved_of other) ≡ true → Conflicts (job_of p ticket floor ranges is_move) other
conflict_says p ticket floor ranges is_move other h = elim (either (hulls_meet p R) (shares p.upper R || shares p.lower R) h) [
  | inl m ↦ (let a = and_parts (p.level == R.level) (user_le p.low R.high && user_le R.low p.high) m in
      let b = and_parts (user_le p.low R.high) (user_le R.low p.high) a.1 in
      inr (eqb-true p.level R.level a.0, b.0, b.1))
  | inr s ↦ inl (elim (either (shares p.upper R) (shares p.lower R) s) as (λ _. Shares (job_of p ticket floor ranges is_move) other) [
    | inl up ↦ (let r = shared_file p.level p.upper other up in (r.0, r.1, has_left (files_of p.level p.upper) (files_of (suc p.level) p.lower) r.0 r.2, r.3, r.4))
    | inr down ↦ (let r = shared_file (suc p.level) p.lower other down in (r.0, r.1, has_right (files_of p.level p.upper) (files_of (suc p.level) p.lower) r.0 r.2, r.3, r.4))
  ])
]
  where
    R : Reserved
    R = reserved_of other

pub says_conflict : (p : TablePlan) (ticket floor : ℕ) (ranges : List (UserKey × UserKey)) (is_move : Bool) (other : Job)
    → Conflicts (job_of p ticket floor ranges is_move) other → conflicts p (reserved_of other) ≡ true
says_conflict p ticket floor ranges is_move other (inr m) =
    or_left (hulls_meet p (reserved_of other)) (shares p.upper (reserved_of other) || shares p.lower (reserved_of other))
    (and_from (p.level == other.level) (user_le p.low other.high && user_le other.low p.high) (eq-eqb p.level other.level m.0)
    (and_from (user_le p.low other.high) (user_le other.low p.high) m.1 m.2))
says_conflict p ticket floor ranges is_move other (inl s) =
    or_right (hulls_meet p (reserved_of other)) (shares p.upper (reserved_of other) || shares p.lower (reserved_of other))
    (elim (has_cases (files_of p.level p.upper) (files_of (suc p.level) p.lower) s.0 s.2) [
      | inl up ↦ or_left (shares p.upper (reserved_of other)) (shares p.lower (reserved_of other)) (file_shared p.level p.upper other s.0 s.1 up s.3 s.4)
      | inr down ↦ or_right (shares p.upper (reserved_of other)) (shares p.lower (reserved_of other)) (file_shared (suc p.level) p.lower other s.0 s.1 down s.3 s.4)
    ])

-- ---- the least ticket

-- what is found among the first jobs
abbrev pub IsFound : TablePlan → List Reserved → Option ℕ → Type 0
IsFound p rs None = IsClear p rs
IsFound p rs (Some ticket) = IsLeastConflict p rs ticket

has_more : (rs : List Reserved) (i : ℕ) (x r : Reserved) → i < length rs → x ≡ get_or rs i x → Has (take (i + 1) rs) r → Has (take i rs) r ⊎ (x ≡ r)
has_more rs i x r lt is h = elim (has_cases (take i rs) (get_or rs i x ∷ []) r (subst (λ (ts : List Reserved). Has ts r) (take_more rs i x lt) h)) [
  | inl old ↦ inl old
  | inr own ↦ elim own [ inl e ↦ inr (is ∙ e) | inr none ↦ absurd none ]
]

more_has : (rs : List Reserved) (i : ℕ) (x r : Reserved) → i < length rs → x ≡ get_or rs i x → Has (take i rs) r ⊎ (x ≡ r) → Has (take (i + 1) rs) r
more_has rs i x r lt is h = subst (λ (ts : List Reserved). Has ts r) (sym (take_more rs i x lt)) (elim h as (λ _. Has (take i rs ++ get_or rs i x ∷ []) r) [
  | inl old ↦ has_left (take i rs) (get_or rs i x ∷ []) r old
  | inr e ↦ has_right (take i rs) (get_or rs i x ∷ []) r (inl (sym is ∙ e))
])

pub found_skip : (p : TablePlan) (rs : List Reserved) (i : ℕ) (x : Reserved) (least : Option ℕ) → i < length rs → x ≡ get_or rs i x → conflicts p x ≡ false → IsFound p (take i rs) least → IsFound p (take (i + 1) rs) least
found_skip p rs i x None lt is off f = λ r h. elim (has_more rs i x r lt is h) [ inl old ↦ f r old | inr e ↦ subst (λ (y : Reserved). conflicts p y ≡ false) e off ]
found_skip p rs i x (Some ticket) lt is off f = record {
  job = f.job;
  live = more_has rs i x f.job lt is (inl f.live);
  in_conflict = f.in_conflict;
  its = f.its;
  least = λ r h c. elim (has_more rs i x r lt is h) [ inl old ↦ f.least r old c | inr e ↦ absurd (both_ways (conflicts p r) (subst (λ (y : Reserved). conflicts p y ≡ false) e off) c) ];
}

pub found_more : (p : TablePlan) (rs : List Reserved) (i : ℕ) (x : Reserved) (least : Option ℕ) (n : ℕ) → i < length rs → x ≡ get_or rs i x → conflicts p x ≡ true → IsLesserTicket least x.ticket n
    → IsFound p (take i rs) least → IsFound p (take (i + 1) rs) (Some n)
found_more p rs i x None n lt is on l f = record {
  job = x;
  live = more_has rs i x x lt is (inr refl);
  in_conflict = on;
  its = sym l;
  least = λ r h c. elim (has_more rs i x r lt is h) [
    | inl old ↦ absurd (both_ways (conflicts p r) (f r old) c)
    | inr e ↦ (let same = ap (λ (y : Reserved). y.ticket) e in omega arith)
  ];
}
found_more p rs i x (Some old) n lt is on (inl l) f = record {
  job = f.job;
  live = more_has rs i x f.job lt is (inl f.live);
  in_conflict = f.in_conflict;
  its = f.its ∙ sym l.0;
  least = λ r h c. elim (has_more rs i x r lt is h) [
    | inl before ↦ (let k = f.least r before c in let e = l.0 in omega arith)
    | inr e ↦ (let same = ap (λ (y : Reserved). y.ticket) e in let k = l.1 in let m = l.0 in omega arith)
  ];
}
found_more p rs i x (Some old) n lt is on (inr l) f = record {
  job = x;
  live = more_has rs i x x lt is (inr refl);
  in_conflict = on;
  its = sym l.0;
  least = λ r h c. elim (has_more rs i x r lt is h) [
    | inl before ↦ (let k = f.least r before c in let e = l.0 in let m = l.1 in omega arith)
    | inr e ↦ (let same = ap (λ (y : Reserved). y.ticket) e in let m = l.0 in omega arith)
  ];
}
