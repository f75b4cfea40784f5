-- Which files are spare.
use Rattle.std.proofs.Common.{◌≡◌, ◌≢◌, ℕ, Bool, true, false, List, refl, sym, ◌∙◌, subst}
use Rattle.std.specs.Prelude.{MatchBool}
use Rattle.lsm_directory.specs.FileNames.{IsFileName}
use Rattle.lsm_directory.specs.declared.folder.file_kind.FileKind.{FileKind}
use Rattle.lsm_directory.specs.declared.folder.file_kind.FileKind.TheVariants.{Table, OldTable, Manifest, Temporary, Log, Current, Lock, Other}
use Rattle.lsm_journal.specs.HeldManifest.{HeldManifest}
use Rattle.lsm_opening.proofs.CallerLemmas.{kind_is}
use Rattle.lsm_cmd_write.specs.Cleaning.{IsSpare, IsUnneeded}

-- a name that is of any file is of the kind that was found
named : (kind any : FileKind) (name : List ℕ) → (kind ≢ Other → IsFileName name kind) → (kind ≡ Other → (other : FileKind) → IsFileName name other → ⊥) → IsFileName name any
    → IsFileName name kind
named (Table n) any name known none is = known (λ e. cc)
named (OldTable n) any name known none is = known (λ e. cc)
named (Manifest n) any name known none is = known (λ e. cc)
named (Temporary n) any name known none is = known (λ e. cc)
named (Log n) any name known none is = known (λ e. cc)
named Current any name known none is = known (λ e. cc)
named Lock any name known none is = known (λ e. cc)
named Other any name known none is = absurd (none refl any is)

-- a name is spare where the kind that was found is not needed
pub spare_by : (spared : Bool) (manifest : HeldManifest) (tables name : List ℕ) (kind : FileKind) → (kind ≢ Other → IsFileName name kind)
    → (kind ≡ Other → (other : FileKind) → IsFileName name other → ⊥) → MatchBool spared (IsUnneeded manifest tables kind) (IsUnneeded manifest tables kind → ⊥)
    → MatchBool spared (IsSpare manifest tables name) (IsSpare manifest tables name → ⊥)
spare_by true manifest tables name kind known none unneeded = (kind, known (λ e. subst (λ (k : FileKind). IsUnneeded manifest tables k) e unneeded), unneeded)
spare_by false manifest tables name kind known none needed = λ (any, is, unneeded).
    needed (subst (λ (k : FileKind). IsUnneeded manifest tables k) (sym (kind_is name any is) ∙ kind_is name kind (named kind any name known none is)) unneeded)
