-- The line of a fault, put together.
use Rattle.std.proofs.Common.{
  ◌≡◌,
  ◌≢◌,
  ℕ,
  List,
  Bool,
  Option,
  IfErr,
  OnErr,
  OnOk,
  ◌++◌,
  [],
  ◌∷◌,
  sym,
  subst,
  append_assoc,
}
use Rattle.std.specs.Prelude.{Result, Ok, Err, Some, None, IfSome, codes}
use Rattle.std.specs.Io.KnownBytes.{Appends, Keeps}
use Rattle.std.specs.Option.{option_map}
use Rattle.std.proofs.KnownBytes.{Appends-kept, Appends-trans, Keeps-trans}
use Rattle.lsm_storage.specs.FileNames.{padded, table_name}
use Rattle.lsm_directory.specs.Telling.{file_behind, line_of, named_in, told_text}

-- a text, and what ends its line
pub told_joined : {T E : Type 0} (r : Result T E) (text : Option (List ℕ)) (a b c : Option (List ℕ)) (end : List ℕ) → IfSome text (λ t. Appends a b t) → OnOk r (Appends b c end)
    → OnOk r (IfSome text (λ t. Appends a c (t ++ end)))
told_joined (Ok x) None a b c end h k = tt
told_joined (Ok x) (Some t) a b c end h k = Appends-trans a b c t end h k
told_joined (Err e) text a b c end h k = search

-- a word before the name of a file
pub file_joined : {T E : Type 0} (r : Result T E) (word : List ℕ) (number : ℕ) (a b c : Option (List ℕ)) → Appends a b word
    → OnOk r (Appends b c (table_name number ++ (10 ∷ []))) → OnOk r (Appends a c (word ++ (table_name number ++ (10 ∷ []))))
file_joined (Ok x) word number a b c in_file name = Appends-trans a b c word (table_name number ++ (10 ∷ [])) in_file name
file_joined (Err e) word number a b c in_file name = search

-- the digits of that name, and its end
pub name_joined : {T E : Type 0} (r : Result T E) (number : ℕ) (a b c : Option (List ℕ)) → Appends a b (padded number) → OnOk r (Appends b c (codes ".ldb\n"))
    → OnOk r (Appends a c (table_name number ++ (10 ∷ [])))
name_joined (Ok x) number a b c digits end =
    subst (λ (t : List ℕ). Appends a c t) (sym (append_assoc (padded number) (codes ".ldb") (10 ∷ []))) (Appends-trans a b c (padded number) (codes ".ldb\n") digits end)
name_joined (Err e) number a b c digits end = search

-- the line of a fault that names no file
pub told_plain : (text : Option (List ℕ)) (a b : Option (List ℕ)) → IfSome text (λ t. Appends a b (t ++ (10 ∷ []))) → IfSome (option_map (line_of None) text) (λ l. Appends a b l)
told_plain None a b h = tt
told_plain (Some t) a b h = h

-- and of one that does
pub told_named : (text : Option (List ℕ)) (number : ℕ) (a b : Option (List ℕ)) → IfSome text (λ t. Appends a b (t ++ (codes " in " ++ (table_name number ++ (10 ∷ [])))))
    → IfSome (option_map (line_of (Some number)) text) (λ l. Appends a b l)
told_named None number a b h = tt
told_named (Some t) number a b h = h

-- the line of a fault, and what stands behind it
pub told_all : (named : Bool) (file : Option ℕ) (text meaning : Option (List ℕ)) (a b c d e f : Option (List ℕ)) → IfSome (option_map (line_of (named_in named file)) text) (λ l. Appends a b l)
    → Appends b c (file_behind named file) → IfSome meaning (λ m. Appends c d m) → Keeps d e → Keeps e f → IfSome (told_text named file text meaning) (λ t. Appends a f t)
told_all named file None meaning a b c d e f line behind means kept flushed = tt
told_all named file (Some text) None a b c d e f line behind means kept flushed = tt
told_all named file (Some text) (Some meaning) a b c d e f line behind means kept flushed =
    let back : Appends b d (file_behind named file ++ meaning) = Appends-trans b c d (file_behind named file) meaning behind means in
    let all : Appends a d (line_of (named_in named file) text ++ (file_behind named file ++ meaning)) = Appends-trans a b d (line_of (named_in named file) text) (file_behind named file ++ meaning) line back in
    Appends-kept a d f _ all (Keeps-trans d e f kept flushed)

pub always : {T E : Type 0} (r : Result T E) (P : Type 0) → P → OnOk r P
always (Ok x) P p = p
always (Err e) P p = tt

-- ---- the exit status

-- what a fault says, where the status is not 0
pub stopped_by : {T F : Type 0} (r : Result T F) (status : ℕ) (Says : F → Type 0) → OnOk r (status ≡ 0) → OnErr r (status ≡ 1) → IfErr r Says → status ≢ 0
    → (status ≡ 1) × ((fault : F) × Says fault)
stopped_by (Ok x) status Says ok err says other = absurd (other ok)
stopped_by (Err e) status Says ok err says other = (err, (e, says))
