-- The tables of a run, one after another.
use Rattle.std.proofs.lemmas.List.{map-append, take_more}
use Rattle.std.proofs.Common.{◌≡◌, ◌==◌, ◌<◌, ◌+◌, ℕ, zero, suc, get_or, take, drop, Bool, true, false, cond, List, [], ◌∷◌, ◌++◌, map, length, All, Some, None, sym, ◌∙◌, ap, subst, arith, inl, inr, refl}
use Rattle.std.proofs.lemmas.Bool.{eq-eqb}
use Rattle.std.proofs.lemmas.List.Elements.{All-head, All-nil, All-tail}
use Rattle.lsm_codec.specs.Entries.{Entry}
use Rattle.lsm_codec.specs.Lists.{Has}
use Rattle.lsm_block.specs.Standing.{but_first, is_end}
use Rattle.lsm_model.specs.Checking.{level_in}
use Rattle.lsm_model.specs.Merging.{Placed, placed_at}
use Rattle.lsm_iterators.specs.Heads.{after_first, first_of, source_in}
use Rattle.lsm_table.specs.Registry.{Table, image_of}
use Rattle.lsm_table.specs.HeldTable.{entries_in}
use Rattle.lsm_iterators.specs.Runs.{HasEntries, IsFirst, IsFirstOf, IsLastAtEnd, entries_of_all, files_at, numbered_all, once}

-- what is the first of some
pub first_holds : {X : Type 0} (P : X → Type 0) (x : X) (xs : List X) → IsFirst x xs → All P xs → P x
first_holds P x [] first a = absurd first
first_holds P x (y ∷ ys) first a = subst P (sym first) (All-head P y ys a)

pub has_first : {X : Type 0} (x : X) (xs : List X) → IsFirst x xs → Has xs x
has_first x [] first = absurd first
has_first x (y ∷ ys) first = inl (sym first)

pub first_parts : {X : Type 0} (x : X) (xs rest : List X) → IsFirst x xs → rest ≡ drop 1 xs → xs ≡ x ∷ rest
first_parts x [] rest first same = absurd first
first_parts {X} x (y ∷ ys) rest first same = ap (λ (z : X). z ∷ ys) (sym first) ∙ ap (λ (l : List X). x ∷ l) (sym same)

pub first_copied : {X Y : Type 0} (f : X → Y) (copy own : X) (ys : List Y) → copy ≡ own → IsFirst (f own) ys → IsFirst (f copy) ys
first_copied f copy own ys same first = rw same first

pub first_entries : (es : List Entry) (image : List ℕ) (images : List (List ℕ)) → IsFirst image images → es ≡ entries_in image → IsFirstOf es images
first_entries es image [] first same = absurd first
first_entries es image (i ∷ images) first same = same ∙ ap entries_in first

pub first_left : (es : List Entry) (images rest : List (List ℕ)) → IsFirstOf es images → rest ≡ drop 1 images → es ++ entries_of_all rest ≡ entries_of_all images
first_left es [] rest first same = absurd first
first_left es (image ∷ images) rest first same = ap (λ (l : List (List ℕ)). es ++ entries_of_all l) same ∙ ap (λ (l : List Entry). l ++ entries_of_all images) first

pub first_numbered : (n : ℕ) (es : List Entry) (numbers ns : List ℕ) (images rest : List (List ℕ)) → IsFirst n numbers → IsFirstOf es images → ns ≡ drop 1 numbers → rest ≡ drop 1 images
    → placed_at n es ++ numbered_all ns rest ≡ numbered_all numbers images
first_numbered n es numbers ns [] rest own first named same = absurd first
first_numbered n es [] ns (image ∷ images) rest own first named same = absurd own
first_numbered n es (m ∷ numbers) ns (image ∷ images) rest own first named same = rw (own, first, named, same) refl

pub first_files : (depth n : ℕ) (numbers ns : List ℕ) (f : ℕ × ℕ) → IsFirst n numbers → ns ≡ drop 1 numbers → Has (files_at depth (n ∷ ns)) f → Has (files_at depth numbers) f
first_files depth n numbers ns f own named h = subst (λ (l : List ℕ). Has (files_at depth l) f) (sym (first_parts n numbers ns own named)) h

-- behind the last entry that is left stands what comes later
pub last_placed : (depth : ℕ) (here rest : List Entry) → is_end here ≡ false → but_first here ≡ [] → after_first (placed_at depth (here ++ rest)) ≡ placed_at depth rest
last_placed depth [] rest some last = absurd cc
last_placed depth (e ∷ []) rest some last = refl
last_placed depth (e ∷ f ∷ es) rest some last = absurd (cc last)

pub last_numbered : (n : ℕ) (here : List Entry) (rest : List Placed) → is_end here ≡ false → but_first here ≡ [] → after_first (placed_at n here ++ rest) ≡ rest
last_numbered n [] rest some last = absurd cc
last_numbered n (e ∷ []) rest some last = refl
last_numbered n (e ∷ f ∷ es) rest some last = absurd (cc last)

-- what holds of all holds of those behind the first
pub all_rest : {X : Type 0} (P : X → Type 0) (xs rest : List X) → rest ≡ drop 1 xs → All P xs → All P rest
all_rest P [] rest same a = subst (All P) (sym same) (All-nil P)
all_rest P (x ∷ xs) rest same a = subst (All P) (sym same) (All-tail P x xs a)

-- where an entry is left, any tables may come after it
pub last_if_some : (here : List Entry) (images : List (List ℕ)) → is_end here ≡ false → IsLastAtEnd here images
last_if_some [] images h = absurd cc
last_if_some (e ∷ es) images h = tt

-- a number of one of its files, with the depth of the entry at which it stands
pub has_number : (depth number : ℕ) (numbers : List ℕ) → Has numbers number → Has (files_at depth numbers) (depth, number)
has_number depth number [] h = absurd h
has_number depth number (n ∷ ns) (inl e) = inl (ap (λ (m : ℕ). (let f : ℕ × ℕ = (depth, m) in f)) e)
has_number depth number (n ∷ ns) (inr h) = inr (has_number depth number ns h)

pub of_first : (depth number : ℕ) (here rest : List Entry) (numbers : List ℕ) → is_end here ≡ false → Has numbers number
    → Has (files_at depth numbers) (source_in (first_of (placed_at depth (here ++ rest))), number)
of_first depth number [] rest numbers h n = absurd cc
of_first depth number (e ∷ es) rest numbers h n = has_number depth number numbers n

pub none_at_end : (here es : List Entry) → here ≡ es → is_end here ≡ true → es ≡ []
none_at_end [] es same h = sym same
none_at_end (e ∷ here) es same h = absurd cc

-- one more of what stands for tables
pub copied_more : {T X Y : Type 0} (f : X → Y) (h : T → Y) (ts : List T) (i : ℕ) (t : T) (old new : List X) (x : X) → i < length ts → t ≡ get_or ts i t → f x ≡ h t
    → new ≡ old ++ x ∷ [] → map f old ≡ map h (take i ts) → map f new ≡ map h (take (i + 1) ts)
copied_more {T} {X} {Y} f h ts i t old new x lt is same made before =
    ap (map f) made ∙ map-append f old (x ∷ []) ∙ ap (λ (l : List Y). l ++ f x ∷ []) before
    ∙ ap (λ (y : Y). map h (take i ts) ++ y ∷ []) (same ∙ ap h is)
    ∙ sym (map-append h (take i ts) (get_or ts i t ∷ [])) ∙ ap (map h) (sym (take_more ts i t lt))

pub holds_of_copy : {X : Type 0} (P : X → Type 0) (copy own : X) → copy ≡ own → P own → P copy
holds_of_copy P copy own same h = rw same h

-- what holds of the images of tables holds of the images of their copies
pub all_of_tables : (ts rest : List Table) (t : Table) (image : List ℕ) (images : List (List ℕ)) → ts ≡ t ∷ rest → image ≡ t.image → images ≡ map image_of rest
    → All HasEntries (map image_of ts) → All HasEntries (image ∷ images)
all_of_tables ts rest t image images same e f a = rw (e, f) (subst (λ (l : List Table). All HasEntries (map image_of l)) same a)

-- ---- tables that stand once

pub drop_at : {X : Type 0} (xs : List X) (i : ℕ) (x : X) → i < length xs → x ≡ get_or xs i x → drop i xs ≡ x ∷ drop (i + 1) xs
drop_at [] i x lt is = absurd (omega arith)
drop_at (y ∷ xs) zero x lt is = ap (λ z. z ∷ xs) (sym is)
drop_at (y ∷ xs) (suc i) x lt is = let there : suc (i + 1) ≡ suc i + 1 = omega arith in drop_at xs i x (omega arith) is ∙ ap (λ (n : ℕ). x ∷ drop n (y ∷ xs)) there

-- the ones behind the first are those behind all of its number
pub once_passed : (n : ℕ) (ts : List Table) (t : Table) (rest : List Table) → ts ≡ t ∷ rest → n == t.number ≡ false → once None ts ≡ once (Some n) ts
once_passed n ts t rest same e =
    ap (once None) same ∙ ap (λ (b : Bool). cond b (once (Some n) rest) (t ∷ once (Some t.number) rest)) (sym e) ∙ ap (once (Some n)) (sym same)

pub once_more : (n : ℕ) (ts : List Table) (i : ℕ) (t : Table) → i < length ts → t ≡ get_or ts i t → n ≡ t.number → once (Some n) (drop (i + 1) ts) ≡ once (Some n) (drop i ts)
once_more n ts i t lt is same =
    ap (λ (b : Bool). cond b (once (Some n) (drop (i + 1) ts)) (t ∷ once (Some t.number) (drop (i + 1) ts))) (sym (eq-eqb n t.number same))
    ∙ ap (once (Some n)) (sym (drop_at ts i t lt is))

pub once_some : (ts : List Table) → 0 < length ts → map image_of (once None ts) ≡ [] → ⊥
once_some [] some none = absurd (omega arith)
once_some (t ∷ ts) some none = cc none

-- ---- levels

pub level_in-map : {X Y : Type 0} (f : X → List Y) (xs : List X) (n : ℕ) (x : X) → n < length xs → x ≡ get_or xs n x → level_in (map f xs) n ≡ f x
level_in-map f [] n x lt is = absurd (omega arith)
level_in-map f (y ∷ ys) zero x lt is = ap f (sym is)
level_in-map f (y ∷ ys) (suc n) x lt is = level_in-map f ys n x (omega arith) is
