use Rattle.std.proofs.Common.{◌++◌, ◌∙◌, ℕ, List, ap}
use Rattle.std.specs.Prelude.{codes}
use Rattle.lsm_storage.specs.FileNames.{manifest_name}
use Rattle.lsm_directory.specs.Beside.{later_note}
use Rattle.lsm_directory.proofs.BesideLaws.{later_joined}
use Rattle.lsm_directory.proofs.folder.notes.push_later.Goals as goal

pub returns : goal.returns
unfolding later_note
returns c =
    let before : List ℕ = codes "note: CURRENT names " in
    let named : List ℕ = manifest_name c.args.number in
    let between : List ℕ = codes ", and " in
    let last : List ℕ = manifest_name c.args.later in
    let behind : List ℕ = codes " is there\n" in
    c.in_ok-extend_from_slice-3.ensures.items
    ∙ ap (λ (t : List ℕ). t ++ behind) (c.in_ok-push_name-2.ensures
    ∙ ap (λ (t : List ℕ). t ++ last) (c.in_ok-extend_from_slice-2.ensures.items
    ∙ ap (λ (t : List ℕ). t ++ between) (c.in_ok-push_name.ensures
    ∙ ap (λ (t : List ℕ). t ++ named) c.in_ok-extend_from_slice.ensures.items)))
    ∙ later_joined c.args.out.now.items before named between last behind
