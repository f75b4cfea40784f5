-- Which manifest an answer of `CURRENT` names.
use Rattle.std.proofs.Common.{◌≡◌, ℕ, ◌<◌, ◌^◌, List, inr, subst}
use Rattle.std.specs.Prelude.{IfErr, Option, Some, Result, Ok, Err}
use Rattle.lsm_folder.specs.Calls.{Call}
use Rattle.lsm_folder.specs.declared.folder_fault.FolderFault.{FolderFault}
use Rattle.lsm_storage.specs.FileNames.{current_text}
use Rattle.lsm_storage.specs.Plans.{IsNamedBy, NamesOther, StartStopped, WriteStopped, current_read}
use Rattle.lsm_shelf.specs.declared.shelf_fault.ShelfFault.{ShelfFault}

-- where it names another one, or none, it does not name this one
pub other_is_named : (number : ℕ) (answer : Result (List ℕ) FolderFault) (followed : Option ℕ)
    → number < 2 ^ 64 → (followed ≡ Some number → ⊥) → IsNamedBy answer followed
    → NamesOther number answer
other_is_named number (Ok text) followed small other named =
    λ same. other ((named number).1 small same)
other_is_named number (Err fault) followed small other named = named.0

-- where it names this one, that is its text
pub text_is_named : (number : ℕ) (answer : Result (List ℕ) FolderFault) (followed : Option ℕ)
    → followed ≡ Some number → IsNamedBy answer followed → answer ≡ Ok (current_text number)
text_is_named number (Ok text) followed is named = let same = (named number).0 is in cc
text_is_named number (Err fault) followed is named = let none = named.1 in absurd cc

-- its plan was begun
pub begun_stopped : {T : Type 0} (number : ℕ) (bytes : List ℕ)
    (answer : Result (List ℕ) FolderFault) (old mid new : List Call) (r : Result T ShelfFault)
    → mid ≡ current_read answer old → NamesOther number answer
    → IfErr r (λ e. WriteStopped number bytes e mid new)
    → IfErr r (λ e. StartStopped number bytes e old new)
begun_stopped number bytes answer old mid new (Ok v) is other stopped = tt
begun_stopped number bytes answer old mid new (Err e) is other stopped =
    inr (inr (inr (answer, other, subst (λ x. WriteStopped number bytes e x new) is stopped)))
