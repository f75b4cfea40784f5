-- Each step keeps the history.
use Rattle.std.proofs.Common.{◌≡◌, ◌≢◌, ℕ, zero, suc, List, [], ◌∷◌, true, false, true≢false, refl, sym, ap, ◌∙◌, subst, ⊎_elim}
use Rattle.std.specs.Prelude.{slice_set}
use mathlib.Core.Option.{some, some-injective, some-ne-none}
use lib.ListN.{get_elem?}
use Rattle.atomic_table.specs.Table.{Me, keeps, step, Allows, Splits, Joins, opening}
use Rattle.atomic_table.proofs.Lists.{at_set, at_snoc, set_again}
use Rattle.lsm_history.specs.declared.history.History.{History}
use Rattle.lsm_history.specs.declared.view.View.{View}
use Rattle.lsm_history.proofs.Laters.{later_more, later_none, later_same}
use Rattle.lsm_history.specs.Rule.{nothing, knowing, remembering, asking, with_entries, with_editions, GoesOn, Fits, IsKept, Grown, Listed, Compared}

off : false ≡ true → ⊥
off e = true≢false (sym e)

goes_same : (h : History) → GoesOn h h
goes_same h = (later_same h.entries, later_same h.editions)

goes_is : (all h : History) → h ≡ all → GoesOn all h
goes_is all h e = subst (λ (x : History). GoesOn all x) (sym e) (goes_same all)

goes_none : (h : History) → GoesOn h nothing
goes_none h = (later_none h.entries, later_none h.editions)

entries_go : (all new old : History) → GoesOn all old → GoesOn (with_entries all new) old
entries_go all new old l = (later_more new.entries all.entries old.entries l.0, l.1)

editions_go : (all new old : History) → GoesOn all old → GoesOn (with_editions all new) old
editions_go all new old l = (l.0, later_more new.editions all.editions old.editions l.1)

fits_set : (seat : ℕ) (now : History) (views : List View) (by : ℕ) (w : View) → ((j : ℕ) (u : View) → j ≢ by → get_elem? views j ≡ some u → Fits seat now j u) → Fits seat now by w
    → (j : ℕ) (u : View) → get_elem? (slice_set views by w) j ≡ some u → Fits seat now j u
fits_set seat now views by w others mine j u e =
    ⊎_elim
    (λ (x : (j ≡ by) × (w ≡ u)). subst (λ (y : ℕ × View). Fits seat now y.0 y.1) (λ i. (sym x.0 i, x.1 i)) mine)
    (λ (x : (j ≢ by) × (get_elem? views j ≡ some u)). others j u x.0 x.1)
    (at_set views by j w u e)

pub begins : (words : List ℕ) → IsKept (opening words [] (knowing nothing))
begins words = (0, nothing, one)
  where
    one : (by : ℕ) (v : View) → get_elem? (knowing nothing ∷ []) by ≡ some v → Fits 0 nothing by v
    one zero v e = subst (Fits 0 nothing 0) (some-injective _ _ e) ((λ _. (refl, refl)), goes_same nothing, goes_same nothing)
    one (suc by) v e = absurd (some-ne-none v (sym e))

grows : (slots id : ℕ) (all : History) (new : History) (f : ℕ → ℕ) (n a b : ℕ) → Allows IsKept slots id (knowing all, []) 0 f (Grown (step n 0 a b (some new)) (knowing all, []))
grows slots id all new f n a b s k len at small =
    let mine = (k.2 id (knowing all) at).0 refl in
    let now = with_entries k.1 new in
    let w = knowing (with_entries all new) in (
      w,
      keeps,
      tt,
      (
        k.0,
        now,
        fits_set k.0 now s.views id w
            (λ j u apart e. (let old = k.2 j u e in (
              (λ t. absurd (apart ((old.0 t).0 ∙ sym mine.0))),
              entries_go k.1 new u.seen old.1,
              entries_go k.1 new u.asked old.2,
            )))
            ((λ _. (mine.0, ap (λ (x : History). with_entries x new) mine.1)), goes_is now (with_entries all new) (ap (λ (x : History). with_entries x new) mine.1), goes_none now),
      ),
      (refl, refl),
    )

lists : (slots id : ℕ) (all : History) (new : History) (f : ℕ → ℕ) (n a b : ℕ) → Allows IsKept slots id (knowing all, []) 0 f (Listed (step n 0 a b (some new)) (knowing all, []))
lists slots id all new f n a b s k len at small =
    let mine = (k.2 id (knowing all) at).0 refl in
    let now = with_editions k.1 new in
    let w = knowing (with_editions all new) in (
      w,
      keeps,
      tt,
      (
        k.0,
        now,
        fits_set k.0 now s.views id w
            (λ j u apart e. (let old = k.2 j u e in (
              (λ t. absurd (apart ((old.0 t).0 ∙ sym mine.0))),
              editions_go k.1 new u.seen old.1,
              editions_go k.1 new u.asked old.2,
            )))
            ((λ _. (mine.0, ap (λ (x : History). with_editions x new) mine.1)), goes_is now (with_editions all new) (ap (λ (x : History). with_editions x new) mine.1), goes_none now),
      ),
      (refl, refl),
    )

pub grows_as : (slots id : ℕ) (me : Me History View) (new : History) (f : ℕ → ℕ) (n a b : ℕ) → me ≡ (knowing me.0.seen, []) → Allows IsKept slots id me 0 f (Grown (step n 0 a b (some new)) me)
grows_as slots id me new f n a b is = subst (λ (m : Me History View). Allows IsKept slots id m 0 f (Grown (step n 0 a b (some new)) m)) (sym is) (grows slots id me.0.seen new f n a b)

pub lists_as : (slots id : ℕ) (me : Me History View) (new : History) (f : ℕ → ℕ) (n a b : ℕ) → me ≡ (knowing me.0.seen, []) → Allows IsKept slots id me 0 f (Listed (step n 0 a b (some new)) me)
lists_as slots id me new f n a b is = subst (λ (m : Me History View). Allows IsKept slots id m 0 f (Listed (step n 0 a b (some new)) m)) (sym is) (lists slots id me.0.seen new f n a b)

remembers : (id : ℕ) (all : History) → Splits IsKept id (knowing all) (knowing all) (remembering all)
remembers id all s k at = (
  k.0,
  k.1,
  λ j u e. ⊎_elim
      (λ was. k.2 j u (subst (λ l. get_elem? l j ≡ some u) (set_again s.views id (knowing all) at) was))
      (λ (same : remembering all ≡ u). subst (Fits k.0 k.1 j) same ((λ t. absurd (off t)), goes_is k.1 all ((k.2 id (knowing all) at).0 refl).1, goes_none k.1))
      (at_snoc (slice_set s.views id (knowing all)) (remembering all) u j e),
)

pub remembers_as : (id : ℕ) (me : Me History View) → me ≡ (knowing me.0.seen, []) → Splits IsKept id me.0 me.0 (remembering me.0.seen)
remembers_as id me is = subst (λ (m : Me History View). Splits IsKept id m.0 m.0 (remembering m.0.seen)) (sym is) (remembers id me.0.seen)

asks : (id : ℕ) (all : History) (other : ℕ) (u : View) → Joins IsKept id (knowing all) other u (asking (knowing all) u) (remembering nothing)
asks id all other u s k at apart there =
    let w = asking (knowing all) u in
    let mine = (k.2 id (knowing all) at).0 refl in
    let theirs = ⊎_elim (λ (t : (other ≡ id) × (w ≡ u)). absurd (apart t.0)) (λ (t : (other ≢ id) × (get_elem? s.views other ≡ some u)). k.2 other u t.1) (at_set s.views id other w u there) in (
      k.0,
      k.1,
      fits_set k.0 k.1 (slice_set s.views id w) other (remembering nothing)
          (λ j v _ e. fits_set k.0 k.1 s.views id w (λ i y _ e'. k.2 i y e') ((λ _. mine), goes_is k.1 all mine.1, theirs.1) j v e)
          ((λ t. absurd (off t)), goes_none k.1, goes_none k.1),
    )

pub asks_as : (id : ℕ) (me : Me History View) (other : ℕ) (u : View) → me ≡ (knowing me.0.seen, []) → Joins IsKept id me.0 other u (asking me.0 u) (remembering nothing)
asks_as id me other u is = subst (λ (m : Me History View). Joins IsKept id m.0 other u (asking m.0 u) (remembering nothing)) (sym is) (asks id me.0.seen other u)

compares : (slots id : ℕ) (all : History) (asked : History) (f : ℕ → ℕ) (n : ℕ) → let me : Me History View = (record { keeps = true; seen = all; asked = asked }, []) in Allows IsKept slots id me 0 f (Compared (step n 0 0 0 mathlib.Core.Option.none) me)
compares slots id all asked f n s k len at small =
    let old = k.2 id (record { keeps = true; seen = all; asked = asked }) at in
    let mine = old.0 refl in (
      knowing all,
      keeps,
      tt,
      (k.0, k.1, fits_set k.0 k.1 s.views id (knowing all) (λ j u apart e. k.2 j u e) ((λ _. mine), goes_is k.1 all mine.1, goes_none k.1)),
      (refl, refl, subst (λ (x : History). GoesOn x asked) (sym mine.1) old.2),
    )

pub compares_as : (slots id : ℕ) (me : Me History View) (all : History) (u : View) (f : ℕ → ℕ) (n : ℕ) → me ≡ (asking (knowing all) u, []) → Allows IsKept slots id me 0 f (Compared (step n 0 0 0 mathlib.Core.Option.none) me)
compares_as slots id me all u f n is = subst (λ (m : Me History View). Allows IsKept slots id m 0 f (Compared (step n 0 0 0 mathlib.Core.Option.none) m)) (sym is) (compares slots id all u.seen f n)
