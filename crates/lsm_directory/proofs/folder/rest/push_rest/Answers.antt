use Rattle.std.proofs.Common.{◌++◌, ◌∙◌, ℕ, List, ap, append_assoc}
use Rattle.std.specs.Prelude.{codes, decimal}
use Rattle.lsm_directory.specs.Rest.{rest_note}
use Rattle.lsm_directory.proofs.folder.rest.push_rest.Goals as goal

pub returns : goal.returns
unfolding rest_note
returns c =
    let before : List ℕ = codes "note: the last " in
    let behind : List ℕ = codes " bytes of the manifest hold no whole record, and are not read\n" in
    let digits : List ℕ = decimal c.args.rest in
    c.in_ok-extend_from_slice-2.ensures.items
    ∙ ap (λ (t : List ℕ). t ++ behind) (c.in_ok-push_decimal.ensures ∙ ap (λ (t : List ℕ). t ++ digits) c.in_ok-extend_from_slice.ensures.items)
    ∙ append_assoc (c.args.out.now.items ++ before) digits behind ∙ append_assoc c.args.out.now.items before (digits ++ behind)
