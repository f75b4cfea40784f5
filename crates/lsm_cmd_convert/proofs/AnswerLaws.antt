-- What a command that failed says of the input, and what it left.
use Rattle.std.proofs.Common.{◌≡◌, ℕ, List, Option, Some, None, Result, Ok, Err, sym, subst}
use Rattle.std.specs.Prelude.{IfErr, IfSome, OnErr}
use Rattle.lsm_cmd_convert.specs.Converted.{Answers, BeginsAnswer, Explains}
use Rattle.lsm_text.specs.Printing.{Begins}
use Rattle.lsm_requests.specs.declared.conversion.Conversion.{Conversion}
use Rattle.lsm_requests.specs.declared.conversion.Conversion.TheVariants.{MakeTable, Dump, Manifest}
use Rattle.lsm_text.specs.declared.fault.Fault.{Fault}
use Rattle.lsm_text.specs.declared.fault.Fault.TheVariants.{Write}

write_explains : (name : Conversion) (text output : List ℕ) → Answers name text output → Explains name text Write
write_explains MakeTable text output h = (output, h)
write_explains Dump text output h = (output, h)
write_explains Manifest text output h = (output, h)

pub write_explained : {X : Type 0} (name : Conversion) (text output : List ℕ) (r : Result X Fault) → Answers name text output → IfErr r (λ e. e ≡ Write)
    → IfErr r (λ e. Explains name text e)
write_explained name text output (Ok x) h fault = tt
write_explained name text output (Err e) h fault = subst (λ (f : Fault). Explains name text f) (sym fault) (write_explains name text output h)

pub begins_answer : {X : Type 0} (name : Conversion) (text output : List ℕ) (r : Result X Fault) (a b : Option (List ℕ)) → Answers name text output
    → OnErr r (Begins a b output) → IfErr r (λ e. e ≡ Write → BeginsAnswer name text a b)
begins_answer name text output (Ok x) a b h begun = tt
begins_answer name text output (Err e) a b h begun = λ fault. (output, h, begun)

-- ---- of an input whose bytes are known

pub explained_known : {X : Type 0} (name : Conversion) (r : Result X Fault) (known : Option (List ℕ)) (bytes : List ℕ) → IfSome known (λ text. bytes ≡ text)
    → IfErr r (λ e. Explains name bytes e) → IfErr r (λ e. IfSome known (λ text. Explains name text e))
explained_known name (Ok x) known bytes is h = tt
explained_known name (Err e) None bytes is h = tt
explained_known name (Err e) (Some text) bytes is h = subst (λ (t : List ℕ). Explains name t e) is h

pub begun_known : {X : Type 0} (name : Conversion) (r : Result X Fault) (known : Option (List ℕ)) (bytes : List ℕ) (a b : Option (List ℕ))
    → IfSome known (λ text. bytes ≡ text) → IfErr r (λ e. e ≡ Write → BeginsAnswer name bytes a b)
    → IfErr r (λ e. e ≡ Write → IfSome known (λ text. BeginsAnswer name text a b))
begun_known name (Ok x) known bytes a b is h = tt
begun_known name (Err e) None bytes a b is h = λ fault. tt
begun_known name (Err e) (Some text) bytes a b is h = λ fault. subst (λ (t : List ℕ). BeginsAnswer name t a b) is (h fault)
