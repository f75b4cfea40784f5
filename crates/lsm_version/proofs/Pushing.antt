-- Numbers of tables that are appended level by level.
use Rattle.std.proofs.Common.{◌≡◌, ℕ, suc, ◌+◌, ◌<◌, length, get_or, take, drop, map, List, [], ◌∷◌, ◌++◌, refl, ap, sym, ◌∙◌, append_assoc, add-one}
use Rattle.std.proofs.lemmas.List.{map-append, take_more}
use Rattle.lsm_table.specs.Registry.{Table}
use Rattle.lsm_model.specs.Files.{File}
use Rattle.lsm_version.specs.Versions.{files_of, files_from}
use Rattle.lsm_version.proofs.Changing.{level_at}

-- the numbers of the files of the levels from this one on
abbrev pub numbers_from : ℕ → List (List Table) → List ℕ
numbers_from n levels = map (λ F. F.number) (files_from n levels)

level_numbers : (n : ℕ) (ts : List Table) → map (λ F. F.number) (files_of n ts) ≡ map (λ t. t.number) ts
level_numbers n [] = refl
level_numbers n (t ∷ ts) = ap (λ (ns : List ℕ). t.number ∷ ns) (level_numbers n ts)

from_level : (n : ℕ) (ts : List Table) (rest : List (List Table)) → numbers_from n (ts ∷ rest) ≡ map (λ t. t.number) ts ++ numbers_from (suc n) rest
from_level n ts rest = map-append (λ (F : File). F.number) (files_of n ts) (files_from (suc n) rest) ∙ ap (λ (ns : List ℕ). ns ++ numbers_from (suc n) rest) (level_numbers n ts)

-- a level more was appended
pub numbers_more : {X : Type 0} (f : X → List Table) (xs : List X) (i : ℕ) (x : X) (old new whole : List ℕ) → i < length xs → x ≡ get_or xs i x → new ≡ old ++ map (λ t. t.number) (f x)
    → old ++ numbers_from i (drop i (map f xs)) ≡ whole → new ++ numbers_from (i + 1) (drop (i + 1) (map f xs)) ≡ whole
numbers_more f xs i x old new whole lt is made before =
    let rest = drop (i + 1) (map f xs) in
    ap (λ (ns : List ℕ). ns ++ numbers_from (i + 1) rest) made
    ∙ append_assoc old (map (λ t. t.number) (f x)) (numbers_from (i + 1) rest)
    ∙ ap (λ (n : ℕ). old ++ (map (λ t. t.number) (f x) ++ numbers_from n rest)) (add-one i)
    ∙ ap (λ (ns : List ℕ). old ++ ns) (sym (from_level i (f x) rest))
    ∙ ap (λ (ls : List (List Table)). old ++ numbers_from i ls) (sym (level_at f xs i x lt is))
    ∙ before

-- ---- what was there stays in front

pub front_more : (a old new : List ℕ) → ((more : List ℕ) × (old ≡ a ++ more)) → ((more : List ℕ) × (new ≡ old ++ more)) → (more : List ℕ) × (new ≡ a ++ more)
front_more a old new f g = (f.0 ++ g.0, g.1 ∙ ap (λ (ns : List ℕ). ns ++ g.0) f.1 ∙ append_assoc a f.0 g.0)

-- the number of one table more
pub one_number_more : (ts : List Table) (i n : ℕ) (x : Table) (old before after : List ℕ) → i < length ts → x ≡ get_or ts i x → n ≡ x.number → after ≡ before ++ n ∷ []
    → before ≡ old ++ map (λ t. t.number) (take i ts) → after ≡ old ++ map (λ t. t.number) (take (i + 1) ts)
one_number_more ts i n x old before after lt is same made here =
    made ∙ ap (λ ns. ns ++ n ∷ []) here ∙ append_assoc old (map (λ t. t.number) (take i ts)) (n ∷ [])
    ∙ ap (λ (m : ℕ). old ++ (map (λ t. t.number) (take i ts) ++ m ∷ [])) (same ∙ ap (λ (t : Table). t.number) is)
    ∙ ap (λ ns. old ++ ns) (sym (ap (map (λ t. t.number)) (take_more ts i x lt) ∙ map-append (λ t. t.number) (take i ts) (get_or ts i x ∷ [])))
