-- Numbers of tables among names.
use Rattle.std.proofs.Common.{◌≡◌, ℕ, ◌<◌, ◌+◌, length, take, map, get_or, List, [], ◌∷◌, ◌++◌, sym, ap, ◌∙◌, arith, zero, suc, ⊎_elim}
use Rattle.std.specs.Prelude.{◌↔◌, Some, None}
use Rattle.std.specs.List.{Contains}
use Rattle.std.proofs.lemmas.List.{map_push, take_more}
use Rattle.std.proofs.lemmas.List.Elements.{Contains-append_left, Contains-append_cases, Contains-push}
use Rattle.lsm_storage.specs.FileNames.{table_name, IsNumberOf}
use Rattle.lsm_storage.specs.Plans.{AreTablesOf}

-- an element of a list of one is that one
pub lone : {X : Type 0} (x y : X) → Contains (x ∷ []) y → x ≡ y
lone x y (zero, inside, is) = is
lone x y (suc k, inside, is) = absurd (omega arith)

pub some_is : (m n : ℕ) → Some m ≡ Some n → m ≡ n
some_is m n p = cc

pub none_is : (n : ℕ) → None ≡ Some n → ⊥
none_is n p = cc

-- no name, no table
pub tables_none : AreTablesOf [] []
tables_none = record { each = λ n small. ((λ c. let x = c.1 in absurd (omega arith)), (λ c. let x = c.1 in absurd (omega arith))) }

-- one name more, which is no table's
pub tables_other : (names : List (List ℕ)) (numbers name : List ℕ) → IsNumberOf table_name name None → AreTablesOf names numbers → AreTablesOf (names ++ name ∷ []) numbers
tables_other names numbers name other tables = record {
  each = λ n small. (
    (λ c. Contains-append_left names (name ∷ []) (table_name n) ((tables.each n small).0 c)),
    (λ c. ⊎_elim
        (λ before. (tables.each n small).1 before)
        (λ last. absurd (none_is n ((other n).1 small (lone name (table_name n) last))))
        (Contains-append_cases names (name ∷ []) (table_name n) c)),
  );
}

-- one name more, which is a table's
pub tables_push : (names : List (List ℕ)) (numbers name : List ℕ) (m : ℕ) → IsNumberOf table_name name (Some m) → AreTablesOf names numbers → AreTablesOf (names ++ name ∷ []) (numbers ++ m ∷ [])
tables_push names numbers name m named tables = record {
  each = λ n small. (
    (λ c. ⊎_elim
        (λ before. Contains-append_left names (name ∷ []) (table_name n) ((tables.each n small).0 before))
        (λ last. rw (sym ((named n).0 (ap Some (lone m n last)))) (Contains-push names name))
        (Contains-append_cases numbers (m ∷ []) n c)),
    (λ c. ⊎_elim
        (λ before. Contains-append_left numbers (m ∷ []) n ((tables.each n small).1 before))
        (λ last. rw (sym (some_is m n ((named n).1 small (lone name (table_name n) last)))) (Contains-push numbers m))
        (Contains-append_cases names (name ∷ []) (table_name n) c)),
  );
}

-- the names up to the next index
pub names_more : {X : Type 0} (f : X → List ℕ) (xs : List X) (i : ℕ) (x : X) → i < length xs → x ≡ get_or xs i x → map f (take (i + 1) xs) ≡ map f (take i xs) ++ f x ∷ []
names_more {X} f xs i x inside is = ap (map f) (take_more xs i x inside ∙ ap (λ (y : X). take i xs ++ y ∷ []) (sym is)) ∙ map_push f (take i xs) x

pub tables_next : {X : Type 0} (f : X → List ℕ) (xs : List X) (i : ℕ) (x : X) (numbers : List ℕ) → i < length xs → x ≡ get_or xs i x → AreTablesOf (map f (take i xs) ++ f x ∷ []) numbers → AreTablesOf (map f (take (i + 1) xs)) numbers
tables_next f xs i x numbers inside is tables = rw (names_more f xs i x inside is) tables

-- the same numbers
pub tables_same : (names : List (List ℕ)) (xs ys : List ℕ) → ((n : ℕ) → Contains ys n ↔ Contains xs n) → AreTablesOf names xs → AreTablesOf names ys
tables_same names xs ys same tables = record { each = λ n small. ((λ c. (tables.each n small).0 ((same n).0 c)), (λ c. (same n).1 ((tables.each n small).1 c))) }
