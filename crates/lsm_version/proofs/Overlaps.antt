-- The tables of a level that lie over a range are a run of it.
use Rattle.std.proofs.Common.{◌≡◌, ℕ, zero, suc, ◌+◌, ◌-◌, ◌<◌, ◌≤◌, Bool, true, false, List, [], ◌∷◌, ◌++◌, length, get_or, take, drop, refl, sym, ◌∙◌, ap, subst, inl, inr, arith}
use Rattle.std.specs.Prelude.{◌&&◌}
use Rattle.std.specs.List.{filter}
use Rattle.std.proofs.lemmas.Bool.{and_from, cases_lt}
use Rattle.std.proofs.lemmas.List.{get_or_default, get_or-drop, take_more, length-drop, take-append-drop}
use Rattle.lsm_codec.specs.Keys.{UserKey, UserLe, user_le}
use Rattle.lsm_codec.specs.Lists.{Has}
use Rattle.lsm_codec.proofs.CallerLemmas.{has_left, has_right, user_le_trans}
use Rattle.lsm_table.specs.Registry.{Table}
use Rattle.lsm_version.specs.Versions.{Levels, IsSound, AreInOrder, level_in, user_of}
use Rattle.lsm_version.specs.Reads.{AreSound, IsRising, IsFirstReaching, begins_by, reaches}
use Rattle.lsm_version.specs.Overlap.{lies_over, meets}
use Rattle.lsm_model.proofs.CallerLemmas.{true_or_not}
use Rattle.lsm_version.proofs.Rising.{level_rises}
use Rattle.lsm_version.proofs.Parts.{sound_level, sound_rest}

pub and_false_left : (a b : Bool) → a ≡ false → (a && b) ≡ false
and_false_left a b h = rw h refl

pub and_false_right : (a b : Bool) → b ≡ false → (a && b) ≡ false
and_false_right true b h = h
and_false_right false b h = refl

-- what the test takes is the run from p on of length m, where it holds of just these
filter_run : (q : Table → Bool) (ts : List Table) (p m : ℕ) → ((i : ℕ) (d : Table) → i < p → i < length ts → q (get_or ts i d) ≡ false)
    → ((i : ℕ) (d : Table) → p ≤ i → i < p + m → i < length ts → q (get_or ts i d) ≡ true)
    → ((i : ℕ) (d : Table) → p + m ≤ i → i < length ts → q (get_or ts i d) ≡ false)
    → take m (drop p ts) ≡ filter q ts
filter_run q [] zero zero before within after = refl
filter_run q [] zero (suc m) before within after = refl
filter_run q [] (suc p) zero before within after = refl
filter_run q [] (suc p) (suc m) before within after = refl
filter_run q (t ∷ ts) (suc p) m before within after =
    let here : q t ≡ false = before 0 t (omega arith) (omega arith) in
    rw here (filter_run q ts p m (λ i d lt inside. before (suc i) d (omega arith) (omega arith)) (λ i d low lt inside. within (suc i) d (omega arith) (omega arith) (omega arith))
    (λ i d low inside. after (suc i) d (omega arith) (omega arith)))
filter_run q (t ∷ ts) zero (suc m) before within after =
    let here : q t ≡ true = within 0 t (omega arith) (omega arith) (omega arith) in
    rw here (ap (λ us. t ∷ us) (filter_run q ts zero m (λ i d lt inside. absurd (omega arith)) (λ i d low lt inside. within (suc i) d (omega arith) (omega arith) (omega arith))
    (λ i d low inside. after (suc i) d (omega arith) (omega arith))))
filter_run q (t ∷ ts) zero zero before within after =
    let here : q t ≡ false = after 0 t (omega arith) (omega arith) in
    rw here (filter_run q ts zero zero (λ i d lt inside. absurd (omega arith)) (λ i d low lt inside. absurd (omega arith)) (λ i d low inside. after (suc i) d (omega arith) (omega arith)))

-- each table of the run begins by the range's end, and what follows it does not
pub record IsRun (ts : List Table) (p m : ℕ) (to : UserKey) : Type 0 where
  pub begin : (k : ℕ) (d : Table) → k < m → begins_by (get_or (drop p ts) k d) to ≡ true
  pub late : (i : ℕ) (d : Table) → p + m ≤ i → i < length ts → begins_by (get_or ts i d) to ≡ false

pub run_is : (ts : List Table) (p m : ℕ) (from to : UserKey) → IsFirstReaching from ts p → IsRun ts p m to → take m (drop p ts) ≡ filter (lies_over from to) ts
run_is ts p m from to f r = filter_run (lies_over from to) ts p m
    (λ i d lt inside. and_false_right (begins_by (get_or ts i d) to) (reaches (get_or ts i d) from) (f.before i d lt))
    (λ i d low lt inside. and_from (begins_by (get_or ts i d) to) (reaches (get_or ts i d) from) (begins i d low lt) (f.after i d low inside))
    (λ i d low inside. and_false_left (begins_by (get_or ts i d) to) (reaches (get_or ts i d) from) (r.late i d low inside))
  where
    begins : (i : ℕ) (d : Table) → p ≤ i → i < p + m → begins_by (get_or ts i d) to ≡ true
    begins i d low lt =
        let same : p + (i - p) ≡ i = omega arith in
        ap (λ (j : ℕ). begins_by (get_or ts j d) to) (sym same) ∙ ap (λ (t : Table). begins_by t to) (sym (get_or-drop p ts (i - p) d)) ∙ r.begin (i - p) d (omega arith)

-- the run ends with the level
pub ends_level : (ts rest : List Table) (p m : ℕ) (to : UserKey) → rest ≡ drop p ts → p ≤ length ts → length rest ≤ m → ((k : ℕ) (d : Table) → k < m → begins_by (get_or rest k d) to ≡ true) → IsRun ts p m to
ends_level ts rest p m to is inside past begin = record {
  begin = subst (λ (us : List Table). (k : ℕ) (d : Table) → k < m → begins_by (get_or us k d) to ≡ true) is begin;
  late = λ i d low lt. absurd (omega (arith, ap length is, length-drop p ts));
}

-- the run ends before a table that begins behind the range
pub ends_before : (ts rest : List Table) (p m : ℕ) (x : Table) (to : UserKey) → IsRising ts → rest ≡ drop p ts → p ≤ length ts → m < length rest → x ≡ get_or rest m x → begins_by x to ≡ false
    → ((k : ℕ) (d : Table) → k < m → begins_by (get_or rest k d) to ≡ true) → IsRun ts p m to
ends_before ts rest p m x to rising is within inside at behind begin = record {
  begin = subst (λ (us : List Table). (k : ℕ) (d : Table) → k < m → begins_by (get_or us k d) to ≡ true) is begin;
  late = λ i d low lt. true_or_not (begins_by (get_or ts i d) to) (λ b. (let h = user_le_trans (user_of x.smallest) (user_of (get_or ts i d).smallest) to (lows i d low lt) b in absurd (cc (h, behind))));
}
  where
    there : (d : Table) → get_or ts (p + m) d ≡ x
    there d = sym (get_or-drop p ts m d) ∙ ap (λ (us : List Table). get_or us m d) (sym is) ∙ get_or_default rest m d x inside ∙ sym at

    lows : (i : ℕ) (d : Table) → p + m ≤ i → i < length ts → UserLe (user_of x.smallest) (user_of (get_or ts i d).smallest)
    lows i d low lt = subst (λ (t : Table). UserLe (user_of t.smallest) (user_of (get_or ts i d).smallest)) (there d) (rising.lows (p + m) i d low lt)

-- ---- ranges that end before they begin, and levels of a version

pub meets_over : (from to : UserKey) (ts : List Table) → user_le from to ≡ true → filter (lies_over from to) ts ≡ filter (meets from to) ts
meets_over from to ts h = ap (λ (b : Bool). filter (λ t. b && lies_over from to t) ts) (sym h)

none_over : (from to : UserKey) (ts : List Table) → [] ≡ filter (λ t. false && lies_over from to t) ts
none_over from to [] = refl
none_over from to (t ∷ ts) = none_over from to ts

pub meets_none : (from to : UserKey) (ts : List Table) → user_le from to ≡ false → [] ≡ filter (meets from to) ts
meets_none from to ts h = none_over from to ts ∙ ap (λ (b : Bool). filter (λ t. b && lies_over from to t) ts) (sym h)

rising_in : (m n : ℕ) (levels : List (List Table)) → AreSound m levels → 1 ≤ m + n → n < length levels → IsRising (level_in levels n)
rising_in m n [] a pos lt = absurd (omega arith)
rising_in m zero (ts ∷ rest) a pos lt = level_rises m ts (omega arith) (sound_level m ts rest a)
rising_in m (suc n) (ts ∷ rest) a pos lt = rising_in (suc m) n rest (sound_rest m ts rest a) (omega arith) (omega arith)

pub version_rises : (v : Levels) (n : ℕ) → IsSound v → AreInOrder v.tables → 1 ≤ n → n < length v.tables → IsRising (level_in v.tables n)
version_rises v n s o pos lt = rising_in 0 n v.tables record { lawful = s.lawful; whole = s.tables; order = o } (omega arith) lt

-- ---- a table more of the run

pub begin_more : (rest : List Table) (i : ℕ) (x : Table) (to : UserKey) → i < length rest → x ≡ get_or rest i x → begins_by x to ≡ true → ((k : ℕ) (d : Table) → k < i → begins_by (get_or rest k d) to ≡ true)
    → (k : ℕ) (d : Table) → k < i + 1 → begins_by (get_or rest k d) to ≡ true
begin_more rest i x to inside is here before k d lt = elim (cases_lt k i) [
  | inl less ↦ before k d less
  | inr more ↦ (let same : k ≡ i = omega arith in
      ap (λ (j : ℕ). begins_by (get_or rest j d) to) same ∙ ap (λ (t : Table). begins_by t to) (get_or_default rest i d x inside ∙ sym is) ∙ here)
]

pub run_more : (rest over over' : List Table) (i : ℕ) (x y : Table) → i < length rest → x ≡ get_or rest i x → y ≡ x → over' ≡ over ++ y ∷ [] → over ≡ take i rest → over' ≡ take (i + 1) rest
run_more rest over over' i x y inside is same made before =
    made ∙ ap (λ z. over ++ z ∷ []) (same ∙ is) ∙ ap (λ o. o ++ get_or rest i x ∷ []) before ∙ sym (take_more rest i x inside)

-- ---- the tables of a run are the level's

taken_of : (ts : List Table) (n : ℕ) (t : Table) → Has (take n ts) t → Has ts t
taken_of ts n t h = subst (λ (us : List Table). Has us t) (take-append-drop n ts) (has_left (take n ts) (drop n ts) t h)

dropped_of : (ts : List Table) (n : ℕ) (t : Table) → Has (drop n ts) t → Has ts t
dropped_of ts n t h = subst (λ (us : List Table). Has us t) (take-append-drop n ts) (has_right (take n ts) (drop n ts) t h)

pub run_of : (ts rest over : List Table) (p m : ℕ) → rest ≡ drop p ts → over ≡ take m rest → (t : Table) → Has over t → Has ts t
run_of ts rest over p m is made t h =
    dropped_of ts p t (subst (λ (us : List Table). Has us t) is (taken_of rest m t (subst (λ (us : List Table). Has us t) made h)))
