-- A list is read as it is spelled, and spelled as it is read; the first bad line is told exactly.
use Rattle.std.proofs.Common.{◌≡◌, ℕ, zero, suc, ◌+◌, ◌-◌, ◌<◌, ◌≤◌, true, false, List, [], ◌∷◌, length, take, Option, Some, None, Result, Ok, Err, refl, sym, ap, ◌∙◌, subst, arith, inl, inr}
use Rattle.std.specs.Prelude.{◌⊎◌}
use Rattle.std.proofs.Common.{Ordering, Less, Equal, Greater}
use Rattle.std.specs.Ordering.{is_lt}
use Rattle.std.proofs.lemmas.Bool.{cases_Bool, cases_order}
use Rattle.lsm_block.specs.Block.{Ascends}
use Rattle.lsm_codec.specs.Entries.{Entry, entry_cmp}
use Rattle.lsm_text.specs.EntryList.{lines_of, AreEntryLines, AreEntries, IsEntryList, IsFirstBadLine}
use Rattle.lsm_text.specs.EntryReading.{entry_at, may_follow, in_front, entries_on, entries_at, list_at}
use Rattle.lsm_text.proofs.PartLaws.{lines_of-nil}
use Rattle.lsm_text.proofs.LineLaws.{entry_takes, entry_again}

length-zero : (xs : List ℕ) → length xs ≡ 0 → xs ≡ []
length-zero [] h = refl
length-zero (x ∷ xs) h = absurd (omega arith)

pub entries_at-end : (i : ℕ) (before : Option Entry) (text : List ℕ) → length text ≡ 0 → entries_at i before (lines_of text) ≡ Ok []
unfolding entries_at
entries_at-end i before text h = rw (length-zero text h, lines_of-nil) refl

-- ---- what is read is spelled

-- the entries stand in order behind the one before them
abbrev pub AscendsFrom : Option Entry → List Entry → Type 0
AscendsFrom before [] = Unit {0}
AscendsFrom before (e ∷ es) = (may_follow before e ≡ true) × AscendsFrom (Some e) es

pub is_less : (o : Ordering) → is_lt o ≡ true → o ≡ Less
is_less Less h = refl
is_less Equal h = absurd cc
is_less Greater h = absurd cc

ascends_behind : (e : Entry) (es : List Entry) → AscendsFrom (Some e) es → Ascends (e ∷ es)
ascends_behind e [] h = tt
ascends_behind e (f ∷ es) h = (is_less (entry_cmp e f) h.0, ascends_behind f es h.1)

pub ascends_is : (es : List Entry) → AscendsFrom None es → Ascends es
ascends_is [] h = tt
ascends_is (e ∷ es) h = ascends_behind e es h.1

behind_ascends : (e : Entry) (es : List Entry) → Ascends (e ∷ es) → AscendsFrom (Some e) es
behind_ascends e [] h = tt
behind_ascends e (f ∷ es) h = (ap is_lt h.0, behind_ascends f es h.1)

pub is_ascends : (es : List Entry) → Ascends es → AscendsFrom None es
is_ascends [] h = tt
is_ascends (e ∷ es) h = (refl, behind_ascends e es h)

-- the lines are a list behind an entry
abbrev pub AreEntriesFrom : Option Entry → List (List ℕ) → List Entry → Type 0
AreEntriesFrom before lines es = AreEntryLines lines es × AscendsFrom before es

-- what a step of reading says
record Step (i : ℕ) (before : Option Entry) (l : List ℕ) (ls : List (List ℕ)) (es : List Entry) : Type 0 where
  entry : Entry
  later : List Entry
  reads : entry_at l ≡ Some entry
  follows : may_follow before entry ≡ true
  rest : entries_at (suc i) (Some entry) ls ≡ Ok later
  all : es ≡ entry ∷ later

in_front-ok : (e : Entry) (r : Result (List Entry) ℕ) (es : List Entry) → in_front e r ≡ Ok es → (later : List Entry) × (r ≡ Ok later) × (es ≡ e ∷ later)
in_front-ok e (Ok later) es h = (later, refl, cc)
in_front-ok e (Err i) es h = absurd cc

step_of : (i : ℕ) (before : Option Entry) (l : List ℕ) (ls : List (List ℕ)) (es : List Entry) (o : Option Entry) → entry_at l ≡ o
    → entries_on (suc i) before (λ e. entries_at (suc i) (Some e) ls) o ≡ Ok es → Step i before l ls es
step_of i before l ls es None reads h = absurd cc
step_of i before l ls es (Some e) reads h = elim (cases_Bool (may_follow before e)) [
  | inl follows ↦
      let f = in_front-ok e (entries_at (suc i) (Some e) ls) es (rw follows at h) in
      record { entry = e; later = f.0; reads = reads; follows = follows; rest = f.1; all = f.2 }
  | inr not_so ↦ let bad : Err (suc i) ≡ Ok es = rw not_so at h in absurd cc
]

pub entries_take : (i : ℕ) (before : Option Entry) (lines : List (List ℕ)) (es : List Entry) → entries_at i before lines ≡ Ok es
    → AreEntriesFrom before lines es
unfolding entries_at
entries_take i before [] es h = let e : [] ≡ es = cc in rw (← e) (tt, tt)
entries_take i before (l ∷ ls) es h =
    let s = step_of i before l ls es (entry_at l) refl h in
    let later = entries_take (suc i) (Some s.entry) ls s.later s.rest in
    rw s.all ((entry_takes l s.entry s.reads, later.0), (s.follows, later.1))

pub entries_again : (i : ℕ) (before : Option Entry) (lines : List (List ℕ)) (es : List Entry) → AreEntriesFrom before lines es
    → entries_at i before lines ≡ Ok es
unfolding entries_at
entries_again i before [] [] h = refl
entries_again i before [] (e ∷ es) h = absurd h.0
entries_again i before (l ∷ ls) [] h = absurd h.0
entries_again i before (l ∷ ls) (e ∷ es) h =
    let e1 = entry_again l e h.0.0 in
    let e2 = h.1.0 in
    let e3 = entries_again (suc i) (Some e) ls es (h.0.1, h.1.1) in
    rw (e1, e2, e3) refl

pub list_takes : (text : List ℕ) (es : List Entry) → list_at text ≡ Ok es → IsEntryList text es
list_takes text es h =
    let t = entries_take 0 None (lines_of text) es h in
    record { spelled = t.0; ascending = ascends_is es t.1 }

pub list_again : (text : List ℕ) (es : List Entry) → IsEntryList text es → list_at text ≡ Ok es
list_again text es l = entries_again 0 None (lines_of text) es (l.spelled, is_ascends es l.ascending)

pub one_list_lem : (text : List ℕ) (es fs : List Entry) → IsEntryList text es → IsEntryList text fs → es ≡ fs
one_list_lem text es fs l m = let h : Ok es ≡ Ok fs = sym (list_again text es l) ∙ list_again text fs m in cc

-- ---- the first bad line

-- line i of these, counted from `before_first + 1`, is the first bad one
record Bad (first : ℕ) (before : Option Entry) (lines : List (List ℕ)) (i : ℕ) : Type 0 where
  place : ℕ
  is_place : i ≡ first + suc place
  within : place < length lines
  good : (es : List Entry) × AreEntriesFrom before (take place lines) es
  bad : (es : List Entry) → AreEntriesFrom before (take (suc place) lines) es → ⊥

in_front-err : (e : Entry) (r : Result (List Entry) ℕ) (i : ℕ) → in_front e r ≡ Err i → r ≡ Err i
in_front-err e (Ok later) i h = absurd cc
in_front-err e (Err j) i h = cc

no_front : (first : ℕ) (before : Option Entry) (l : List ℕ) (es : List Entry)
    → ((e : Entry) → entry_at l ≡ Some e → may_follow before e ≡ true → ⊥) → AreEntriesFrom before (l ∷ []) es → ⊥
no_front first before l [] none h = h.0
no_front first before l (e ∷ es) none h = none e (entry_again l e h.0.0) h.1.0

-- a first line that can't be an entry there is bad
bad_here : (first : ℕ) (before : Option Entry) (l : List ℕ) (ls : List (List ℕ)) (i : ℕ) → i ≡ suc first
    → ((e : Entry) → entry_at l ≡ Some e → may_follow before e ≡ true → ⊥) → Bad first before (l ∷ ls) i
bad_here first before l ls i at none = record {
  place = 0;
  is_place = omega arith;
  within = omega arith;
  good = ([], (tt, tt));
  bad = λ es h. no_front first before l es none h;
}

not_behind : (before : Option Entry) (l : List ℕ) (ls : List (List ℕ)) (e : Entry) (es : List Entry) → entry_at l ≡ Some e
    → ((fs : List Entry) → AreEntriesFrom (Some e) ls fs → ⊥) → AreEntriesFrom before (l ∷ ls) es → ⊥
not_behind before l ls e [] reads none h = h.0
not_behind before l ls e (f ∷ fs) reads none h =
    let same : f ≡ e = let s : Some f ≡ Some e = sym (entry_again l f h.0.0) ∙ reads in cc in
    none fs (h.0.1, subst (λ (x : Entry). AscendsFrom (Some x) fs) same h.1.1)

-- a bad line behind a good one
bad_later : (first : ℕ) (before : Option Entry) (l : List ℕ) (ls : List (List ℕ)) (i : ℕ) (e : Entry) → entry_at l ≡ Some e
    → may_follow before e ≡ true → Bad (suc first) (Some e) ls i → Bad first before (l ∷ ls) i
bad_later first before l ls i e reads follows b = record {
  place = suc b.place;
  is_place = omega (arith, b.is_place);
  within = omega (arith, b.within);
  good = (e ∷ b.good.0, ((entry_takes l e reads, b.good.1.0), (follows, b.good.1.1)));
  bad = λ es h. not_behind before l (take (suc b.place) ls) e es reads b.bad h;
}

bad_of : (first : ℕ) (before : Option Entry) (l : List ℕ) (ls : List (List ℕ)) (i : ℕ) (o : Option Entry) → entry_at l ≡ o
    → entries_on (suc first) before (λ e. entries_at (suc first) (Some e) ls) o ≡ Err i
    → ((e : Entry) → entries_at (suc first) (Some e) ls ≡ Err i → Bad (suc first) (Some e) ls i)
    → Bad first before (l ∷ ls) i
bad_of first before l ls i None reads h later =
    bad_here first before l ls i (cc) (λ e found follows. let bad : None ≡ Some e = sym reads ∙ found in cc)
bad_of first before l ls i (Some e) reads h later = elim (cases_Bool (may_follow before e)) [
  | inl follows ↦
      bad_later first before l ls i e reads follows (later e (in_front-err e (entries_at (suc first) (Some e) ls) i (rw follows at h)))
  | inr not_so ↦
      let at : Err (suc first) ≡ Err i = rw not_so at h in
      bad_here first before l ls i (cc) (λ f found follows.
      let same : Some e ≡ Some f = sym reads ∙ found in
      let is : e ≡ f = cc in
      let bad : true ≡ false = sym follows ∙ sym (ap (may_follow before) is) ∙ not_so in cc)
]

entries_bad : (first : ℕ) (before : Option Entry) (lines : List (List ℕ)) (i : ℕ) → entries_at first before lines ≡ Err i → Bad first before lines i
unfolding entries_at
entries_bad first before [] i h = absurd cc
entries_bad first before (l ∷ ls) i h =
    bad_of first before l ls i (entry_at l) refl h (λ e k. entries_bad (suc first) (Some e) ls i k)

pub list_bad : (text : List ℕ) (i : ℕ) → list_at text ≡ Err i → IsFirstBadLine text i
list_bad text i h =
    let b = entries_bad 0 None (lines_of text) i h in
    let place : i ≡ suc b.place = omega (arith, b.is_place) in
    let before : i - 1 ≡ b.place = omega (arith, place) in
    record {
      from_one = omega (arith, place);
      within = omega (arith, place, b.within);
      good = (b.good.0, rw before record { spelled = b.good.1.0; ascending = ascends_is b.good.0 b.good.1.1 });
      bad = λ es a. b.bad es (rw place at (a.spelled), is_ascends es a.ascending);
    }

-- ---- and it is told

-- the front lines of a list are a list
front_lines : (k : ℕ) (lines : List (List ℕ)) (es : List Entry) → AreEntryLines lines es → AreEntryLines (take k lines) (take k es)
front_lines zero lines es h = tt
front_lines (suc k) [] [] h = tt
front_lines (suc k) [] (e ∷ es) h = absurd h
front_lines (suc k) (l ∷ ls) [] h = absurd h
front_lines (suc k) (l ∷ ls) (e ∷ es) h = (h.0, front_lines k ls es h.1)

front_ascends : (k : ℕ) (before : Option Entry) (es : List Entry) → AscendsFrom before es → AscendsFrom before (take k es)
front_ascends zero before es h = tt
front_ascends (suc k) before [] h = tt
front_ascends (suc k) before (e ∷ es) h = (h.0, front_ascends k (Some e) es h.1)

front_is : (k : ℕ) (lines : List (List ℕ)) (es : List Entry) → AreEntries lines es → AreEntries (take k lines) (take k es)
front_is k lines es a = record {
  spelled = front_lines k lines es a.spelled;
  ascending = ascends_is (take k es) (front_ascends k None es (is_ascends es a.ascending));
}

take_take : (k n : ℕ) (lines : List (List ℕ)) → k ≤ n → take k (take n lines) ≡ take k lines
take_take zero n lines h = refl
take_take (suc k) zero lines h = absurd (omega arith)
take_take (suc k) (suc n) [] h = refl
take_take (suc k) (suc n) (l ∷ ls) h = ap (λ (xs : List (List ℕ)). l ∷ xs) (take_take k n ls (omega arith))

-- a bad line is not behind another
no_earlier : (text : List ℕ) (i j : ℕ) → IsFirstBadLine text i → IsFirstBadLine text j → i < j → ⊥
no_earlier text i j a b h =
    let short : i ≤ j - 1 = omega arith in
    let front = front_is i (take (j - 1) (lines_of text)) b.good.0 b.good.1 in
    a.bad (take i b.good.0) (subst (λ (ls : List (List ℕ)). AreEntries ls (take i b.good.0)) (take_take i (j - 1) (lines_of text) short) front)

pub one_bad : (text : List ℕ) (i j : ℕ) → IsFirstBadLine text i → IsFirstBadLine text j → i ≡ j
one_bad text i j a b = elim (cases_order i j) [
  | inl same ↦ same
  | inr other ↦ elim other [
    | inl below ↦ absurd (no_earlier text i j a b below)
    | inr above ↦ absurd (no_earlier text j i b a above)
  ]
]

pub not_both : (text : List ℕ) (es : List Entry) (i : ℕ) → IsEntryList text es → IsFirstBadLine text i → ⊥
not_both text es i l b = b.bad (take i es) (front_is i (lines_of text) es l)

either_of : (text : List ℕ) (r : Result (List Entry) ℕ) → list_at text ≡ r
    → ((es : List Entry) × IsEntryList text es) ⊎ ((i : ℕ) × IsFirstBadLine text i)
either_of text (Ok es) h = inl (es, list_takes text es h)
either_of text (Err i) h = inr (i, list_bad text i h)

pub list_or_bad : (text : List ℕ) → ((es : List Entry) × IsEntryList text es) ⊎ ((i : ℕ) × IsFirstBadLine text i)
list_or_bad text = either_of text (list_at text) refl
