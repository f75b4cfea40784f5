-- Readers and their caches.
use Rattle.std.proofs.Common.{◌≡◌, List, [], ◌∷◌, ◌++◌, All, Option, map, option_to_list, ap, sym, ◌∙◌, refl, inl, inr, subst}
use Rattle.std.specs.List.{AllByRecursion}
use Rattle.std.proofs.lemmas.List.{append_assoc}
use Rattle.std.proofs.lemmas.List.Elements.{All-from_recursion, All-pop, recursion_from_All}
use Rattle.lsm_codec.specs.Lists.{Has}

each_has : {X : Type 0} (P : X → Type 0) (xs : List X) → ((x : X) → Has xs x → P x) → AllByRecursion P xs
each_has P [] f = tt
each_has P (x ∷ xs) f = (f x (inl refl), each_has P xs (λ y h. f y (inr h)))

pub all_of_has : {X : Type 0} (P : X → Type 0) (xs : List X) → ((x : X) → Has xs x → P x) → All P xs
all_of_has P xs f = All-from_recursion P xs (each_has P xs f)

-- what is left after the last one was taken, and that one
pub all_popped : {X : Type 0} (P : X → Type 0) (xs ys : List X) (r : Option X) → xs ≡ ys ++ option_to_list r → All P xs → All P ys
all_popped P xs ys r e h = (All-pop P xs ys r e h).0

-- what is left after the first one was taken, and that one
pub all_rest : {X : Type 0} (P : X → Type 0) (xs ys : List X) (x : X) → xs ≡ x ∷ ys → All P xs → All P ys
all_rest P xs ys x e h = All-from_recursion P ys (recursion_from_All P (x ∷ ys) (subst (All P) e h)).1

-- what was made of the first ones, and what is still to be made, are what is made of all
pub one_more : {X Y : Type 0} (f : X → Y) (made made' : List Y) (xs ys : List X) (x : X) (all : List Y) → made ++ map f xs ≡ all → xs ≡ x ∷ ys → made' ≡ made ++ f x ∷ [] → made' ++ map f ys ≡ all
one_more f made made' xs ys x all before e m =
    ap (λ ms. ms ++ map f ys) m ∙ append_assoc made (f x ∷ []) (map f ys) ∙ ap (λ zs. made ++ map f zs) (sym e) ∙ before

-- what holds of a part of each holds of these parts
pub all_mapped : {X Y : Type 0} (f : X → Y) (P : Y → Type 0) (xs : List X) → All (λ x. P (f x)) xs → All P (map f xs)
all_mapped f P xs h = All-from_recursion P (map f xs) (parts xs (recursion_from_All (λ x. P (f x)) xs h))
  where
    parts : (ys : List _) → AllByRecursion (λ x. P (f x)) ys → AllByRecursion P (map f ys)
    parts [] k = tt
    parts (y ∷ ys) k = (k.0, parts ys k.1)
