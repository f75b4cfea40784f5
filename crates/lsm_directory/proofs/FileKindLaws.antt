-- Kinds of files by their names.
use Rattle.std.proofs.Common.{◌≡◌, ℕ, List, Bool, false}
use Rattle.std.specs.Prelude.{codes}
use Rattle.std.specs.Str.{bytes_eq}
use Rattle.std.proofs.lemmas.Slice.Eq.{bytes_eq-Decides}
use Rattle.lsm_directory.specs.FileNames.{HasNoEnding, IsFileName, IsNumberBehind}
use Rattle.lsm_directory.specs.declared.folder.file_kind.FileKind.{FileKind}
use Rattle.lsm_directory.specs.declared.folder.file_kind.FileKind.TheVariants.{
  Table,
  OldTable,
  Manifest,
  Temporary,
  Log,
  Current,
  Lock,
  Other,
}

-- texts that a comparison tells apart
pub not_same : (answer : Bool) (a b : List ℕ) → answer ≡ bytes_eq a b → answer ≡ false → a ≡ b → ⊥
not_same answer a b is other same = let equal = (bytes_eq-Decides a b).1 same in absurd cc

pub no_name : (name : List ℕ) → (name ≡ codes "CURRENT" → ⊥) → (name ≡ codes "LOCK" → ⊥) → ((n : ℕ) → IsNumberBehind (codes "MANIFEST-") name n → ⊥) → HasNoEnding name
    → (kind : FileKind) → IsFileName name kind → ⊥
no_name name current lock manifest ending (Table n) is = ending.table n is
no_name name current lock manifest ending (OldTable n) is = ending.old_table n is
no_name name current lock manifest ending (Manifest n) is = manifest n is
no_name name current lock manifest ending (Temporary n) is = ending.temporary n is
no_name name current lock manifest ending (Log n) is = ending.log n is
no_name name current lock manifest ending Current is = current is
no_name name current lock manifest ending Lock is = lock is
no_name name current lock manifest ending Other is = is
