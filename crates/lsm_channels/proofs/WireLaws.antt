-- Wires, as they are made, and as they come back.
use Rattle.std.proofs.Common.{◌≡◌, ℕ, suc, ◌+◌, ℤ, pos, Bool, true, false, List, [], ◌∷◌, ◌++◌, length, map, All, Option, None, Some, refl, sym, ap, ◌∙◌, subst, arith}
use Rattle.std.specs.Prelude.{IfSome, reverse}
use Rattle.std.specs.Prelude.{◌&&◌}
use Rattle.std.specs.List.{list_all}
use Rattle.std.specs.Option.{is_some, option_map}
use Rattle.std.proofs.lemmas.List.Elements.{All-cons, All-head, All-nil, All-tail}
use Rattle.std.proofs.lemmas.List.{append-nil, append_assoc, length-map, map-append, nil_from_length, reverse-append}
use Rattle.std.proofs.lemmas.List.Folds.{list_all-append}
use Rattle.lsm_wire.specs.Happenings.{Happening}
use Rattle.lsm_shelf.specs.Told.{ForkedTimes, Told}
use Rattle.lsm_channels.specs.Serving.{AreBack, AreServedBy, End, IsBack, end, ends_from, forks_for, opened_from}

abbrev pub Relates : Type 1
Relates = List Happening → List Happening → Type 0

-- ---- wires that are made

pub ends_more : {W : Type 0} (seen : W → End) (first n : ℕ) (ws ws' : List W) (w : W) → map seen ws ≡ ends_from first n → ws' ≡ ws ++ w ∷ [] → seen w ≡ end (pos (first + n)) []
    → map seen ws' ≡ ends_from first (suc n)
ends_more {W} seen first n ws ws' w before push one =
    ap (λ (xs : List W). map seen xs) push ∙ map-append seen ws (w ∷ []) ∙ ap (λ (es : List End). es ++ seen w ∷ []) before ∙ ap (λ (e : End). ends_from first n ++ e ∷ []) one

pub opened_more : (first n : ℕ) (fd : ℤ) (was now new : List ℤ) → now ≡ opened_from first n ++ was → new ≡ fd ∷ now → fd ≡ pos (first + n) → new ≡ opened_from first (suc n) ++ was
opened_more first n fd was now new before step is = step ∙ ap (λ (d : ℤ). d ∷ now) is ∙ ap (λ (ds : List ℤ). pos (first + n) ∷ ds) before

-- ---- channels, the last one first

last_first : {T S : Type 0} (f : T → S) (ts : List T) (t : T) → reverse (map f (ts ++ t ∷ [])) ≡ f t ∷ reverse (map f ts)
last_first f ts t = ap (λ (xs : List _). reverse xs) (map-append f ts (t ∷ [])) ∙ reverse-append (map f ts) (f t ∷ [])

pub paired_none : {T S : Type 0} (f : T → S) (left : List S) → left ++ reverse (map f []) ≡ left
paired_none f left = append-nil left

-- one more was taken off the last, and put behind the others
pub paired_one_more : {T S : Type 0} (f : T → S) (left left' : List S) (ts ts' : List T) (x : S) (t : T) (all : List S) → left ++ reverse (map f ts) ≡ all → left ≡ left' ++ x ∷ []
    → ts' ≡ ts ++ t ∷ [] → f t ≡ x → left' ++ reverse (map f ts') ≡ all
paired_one_more f left left' ts ts' x t all before pop push of =
    ap (λ (us : List _). left' ++ reverse (map f us)) push ∙ ap (λ (xs : List _). left' ++ xs) (last_first f ts t) ∙ ap (λ (y : _). left' ++ y ∷ reverse (map f ts)) of
    ∙ sym (append_assoc left' (x ∷ []) (reverse (map f ts))) ∙ ap (λ (xs : List _). xs ++ reverse (map f ts)) (sym pop) ∙ before

-- one more was made of the first that are left
pub made_one_more : {X Y Z : Type 0} (f : X → Z) (g : Y → Z) (made made' : List Y) (xs ys : List X) (x : X) (y : Y) (all : List Z) → map g made ++ map f xs ≡ all → xs ≡ x ∷ ys
    → made' ≡ made ++ y ∷ [] → g y ≡ f x → map g made' ++ map f ys ≡ all
made_one_more f g made made' xs ys x y all before first push same =
    ap (λ (ms : List _). map g ms ++ map f ys) push ∙ ap (λ (zs : List _). zs ++ map f ys) (map-append g made (y ∷ [])) ∙ append_assoc (map g made) (g y ∷ []) (map f ys)
    ∙ ap (λ (z : _). map g made ++ z ∷ map f ys) same ∙ ap (λ (ws : List _). map g made ++ map f ws) (sym first) ∙ before

-- none was made yet
pub made_none : {X Y Z : Type 0} (f : X → Z) (g : Y → Z) (made : List Y) (left xs : List X) → made ≡ [] → left ≡ xs → map g made ++ map f left ≡ map f xs
made_none f g made left xs none same = ap (λ (ys : List _). map g ys ++ map f left) none ∙ ap (λ (ls : List _). map f ls) same

-- one less is left
pub one_less : {X : Type 0} (xs ys : List X) (x : X) (n m : ℕ) → xs ≡ x ∷ ys → m + 1 ≡ n → n ≡ length xs → m ≡ length ys
one_less {X} xs ys x n m first fewer many =
    let more : length xs ≡ suc (length ys) = ap (λ (zs : List X). length zs) first in
    omega arith

-- one was made of each
pub made_all : {X Y Z : Type 0} (f : X → Z) (g : Y → Z) (made : List Y) (left : List X) (all : List Z) → length left ≡ 0 → map g made ++ map f left ≡ all → map g made ≡ all
made_all f g made left all none parts =
    sym (append-nil (map g made)) ∙ ap (λ (xs : List _). map g made ++ map f xs) (sym (nil_from_length left none)) ∙ parts

-- the last one was joined
pub joined_one_more : {T S : Type 0} (f : T → S) (done : List S) (ts ts' : List T) (t : T) (all : List S) → done ++ reverse (map f ts) ≡ all → ts ≡ ts' ++ t ∷ []
    → (done ++ f t ∷ []) ++ reverse (map f ts') ≡ all
joined_one_more f done ts ts' t all before pop =
    append_assoc done (f t ∷ []) (reverse (map f ts')) ∙ ap (λ (xs : List _). done ++ xs) (sym (last_first f ts' t)) ∙ ap (λ (us : List _). done ++ reverse (map f us)) (sym pop) ∙ before

-- ---- wires that come back

back_more : (Serves : Relates) (ws : List End) (rs : List (Option End)) (w : End) (r : Option End) → AreBack Serves ws rs → IsBack Serves w r → AreBack Serves (ws ++ w ∷ []) (rs ++ r ∷ [])
back_more Serves [] [] w r all one = (one, tt)
back_more Serves [] (q ∷ rs) w r all one = absurd all
back_more Serves (v ∷ ws) [] w r all one = absurd all
back_more Serves (v ∷ ws) (q ∷ rs) w r all one = (all.0, back_more Serves ws rs w r all.1 one)

-- one wire came back, or none
pub back_of : {W : Type 0} (seen : W → End) (Serves : Relates) (w : W) (r : Option W) → IfSome r (λ v. (seen v).descriptor ≡ (seen w).descriptor)
    → IfSome r (λ v. Serves (seen w).happened (seen v).happened) → IsBack Serves (seen w) (option_map seen r)
back_of seen Serves w None same served = tt
back_of seen Serves w (Some v) same served = (same, served)

pub back_one_more : {W : Type 0} (seen : W → End) (Serves : Relates) (done : List W) (rest : List (Option W)) (w : W) (r : Option W)
    → AreBack Serves (map seen done) (map (option_map seen) rest) → IsBack Serves (seen w) (option_map seen r)
    → AreBack Serves (map seen (done ++ w ∷ [])) (map (option_map seen) (rest ++ r ∷ []))
back_one_more {W} seen Serves done rest w r all one =
    subst (λ (ws : List End). AreBack Serves ws (map (option_map seen) (rest ++ r ∷ []))) (sym (map-append seen done (w ∷ [])))
    (subst (λ (rs : List (Option End)). AreBack Serves (map seen done ++ seen w ∷ []) rs) (sym (map-append (option_map seen) rest (r ∷ [])))
    (back_more Serves (map seen done) (map (option_map seen) rest) (seen w) (option_map seen r) all one))

-- all that were to be joined are done
pub back_all : {T W : Type 0} (seen : W → End) (Serves : Relates) (given : T → W) (done all : List W) (ts : List T) (rest : List (Option W)) → ts ≡ []
    → done ++ reverse (map given ts) ≡ all → AreBack Serves (map seen done) (map (option_map seen) rest) → AreBack Serves (map seen all) (map (option_map seen) rest)
back_all {T} {W} seen Serves given done all ts rest none parts back =
    let same : done ≡ all = sym (append-nil done) ∙ ap (λ (us : List T). done ++ reverse (map given us)) (sym none) ∙ parts in
    subst (λ (ws : List W). AreBack Serves (map seen ws) (map (option_map seen) rest)) same back

-- ---- which threads were made

swap : (a b c : Bool) → ((a && (c && true)) && b) ≡ (a && (b && (c && true)))
swap false b c = refl
swap true false false = refl
swap true false true = refl
swap true true false = refl
swap true true true = refl

-- the last one was joined, and its wire came back if it was made
pub joined_made : {T X : Type 0} (p : T → Bool) (q : X → Bool) (done : List X) (ts ts' : List T) (t : T) (x : X) (all : Bool) → (list_all q done && list_all p ts) ≡ all → ts ≡ ts' ++ t ∷ [] → q x ≡ p t
    → (list_all q (done ++ x ∷ []) && list_all p ts') ≡ all
joined_made p q done ts ts' t x all before pop same =
    ap (λ (b : Bool). b && list_all p ts') (list_all-append q done (x ∷ [])) ∙ ap (λ (b : Bool). (list_all q done && (b && true)) && list_all p ts') same ∙ swap (list_all q done) (list_all p ts') (p t)
    ∙ ap (λ (b : Bool). list_all q done && b) (sym (list_all-append p ts' (t ∷ []))) ∙ ap (λ (us : List _). list_all q done && list_all p us) (sym pop) ∙ before

and_true : (b : Bool) → (b && true) ≡ b
and_true false = refl
and_true true = refl

pub joined_all : {T X : Type 0} (p : T → Bool) (q : X → Bool) (done : List X) (ts : List T) (all : Bool) → (list_all q done && list_all p ts) ≡ all → ts ≡ [] → list_all q done ≡ all
joined_all p q done ts all parts none = sym (and_true (list_all q done)) ∙ ap (λ (us : List _). list_all q done && list_all p us) (sym none) ∙ parts

made_seen : {W : Type 0} (seen : W → End) (rs : List (Option W)) → list_all is_some (map (option_map seen) rs) ≡ list_all is_some rs
made_seen seen [] = refl
made_seen seen (None ∷ rs) = refl
made_seen seen (Some r ∷ rs) = made_seen seen rs

-- the first channel's wire, and those behind it
pub served_all : {W : Type 0} (seen : W → End) (First : Bool → Relates) (Serves : Relates) (first back : W) (given others : List W) (none one rest all : List (Option W)) (made : Bool) → none ≡ []
    → one ≡ none ++ Some back ∷ [] → all ≡ one ++ rest → given ≡ others → list_all is_some rest ≡ made → (seen back).descriptor ≡ (seen first).descriptor
    → First made (seen first).happened (seen back).happened → AreBack Serves (map seen (reverse given)) (map (option_map seen) rest)
    → AreServedBy First Serves (map seen (first ∷ reverse others)) (map (option_map seen) all)
served_all {W} seen First Serves first back given others none one rest all made empty push behind same threads descriptor served backs =
    let parts : all ≡ Some back ∷ rest = behind ∙ ap (λ (rs : List (Option W)). rs ++ rest) (push ∙ ap (λ (rs : List (Option W)). rs ++ Some back ∷ []) empty) in
    let is_made : made ≡ list_all is_some (map (option_map seen) rest) = sym threads ∙ sym (made_seen seen rest) in
    subst (λ (rs : List (Option W)). AreServedBy First Serves (map seen (first ∷ reverse others)) (map (option_map seen) rs)) (sym parts) (
      (descriptor, subst (λ (b : Bool). First b (seen first).happened (seen back).happened) is_made served),
      subst (λ (ws : List W). AreBack Serves (map seen (reverse ws)) (map (option_map seen) rest)) same backs,
    )

-- the channels are those that were paired with the wires
pub served_wires : {C W : Type 0} (seen : W → End) (wire : C → W) (First : Bool → Relates) (Serves : Relates) (paired others : List C) (first : C) (wires : List W) (rs : List (Option End))
    → paired ≡ others ++ first ∷ [] → reverse (map wire paired) ≡ wires → AreServedBy First Serves (map seen (wire first ∷ reverse (map wire others))) rs → AreServedBy First Serves (map seen wires) rs
served_wires {C} {W} seen wire First Serves paired others first wires rs pop all served =
    subst (λ (ws : List W). AreServedBy First Serves (map seen ws) rs) (sym (ap (λ (cs : List C). reverse (map wire cs)) pop ∙ last_first wire others first) ∙ all) served

-- ---- what holds of each

pub all_behind : {X : Type 0} (P : X → Type 0) (xs ys : List X) (x : X) → xs ≡ x ∷ ys → All P xs → All P ys
all_behind {X} P xs ys x first all = All-tail P x ys (subst (λ (zs : List X). All P zs) first all)

split_last : {X : Type 0} (P : X → Type 0) (ys : List X) (x : X) → All P (ys ++ x ∷ []) → All P ys × P x
split_last P [] x all = (All-nil P, All-head P x [] all)
split_last P (y ∷ ys) x all = let rest = split_last P ys x (All-tail P y (ys ++ x ∷ []) all) in (All-cons P y ys (All-head P y (ys ++ x ∷ []) all) rest.0, rest.1)

pub all_front : {X : Type 0} (P : X → Type 0) (xs ys : List X) (x : X) → xs ≡ ys ++ x ∷ [] → All P xs → All P ys
all_front {X} P xs ys x last all = (split_last P ys x (subst (λ (zs : List X). All P zs) last all)).0

pub all_last : {X : Type 0} (P : X → Type 0) (xs ys : List X) (x : X) → xs ≡ ys ++ x ∷ [] → All P xs → P x
all_last {X} P xs ys x last all = (split_last P ys x (subst (λ (zs : List X). All P zs) last all)).1

pub all_first : {X : Type 0} (P : X → Type 0) (xs ys : List X) (x : X) → xs ≡ x ∷ ys → All P xs → P x
all_first {X} P xs ys x first all = All-head P x ys (subst (λ (zs : List X). All P zs) first all)

-- ---- forks for them

pub told_for : {W : Type 0} (seen : W → End) (wires : List W) (workers : ℕ) (was is : Told)
    → ForkedTimes (forks_for (length wires) workers) was is
    → ForkedTimes (forks_for (length (map seen wires)) workers) was is
told_for seen wires workers was is p = subst (λ (n : ℕ). ForkedTimes (forks_for n workers) was is)
    (sym (length-map wires seen)) p
