-- What is to be read: this project's rule.
use Rattle.std.specs.Prelude.{ℕ, List, Option}
use Rattle.lsm_requests.specs.declared.input.Input.{Input}
use Rattle.lsm_requests.specs.declared.input.Input.TheVariants.{Standard, File}

-- of standard input, or of the file of a path
abbrev pub text_in : (standard : Option (List ℕ)) → (file : List ℕ → Option (List ℕ)) → Input
    → Option (List ℕ)
text_in standard file Standard = standard
text_in standard file (File path) = file path.now
