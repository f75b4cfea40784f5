use Rattle.std.proofs.Common.{◌<◌, ℕ, List, [], length, rules, sym, ◌∙◌, subst}
use Rattle.std.proofs.lemmas.List.{get_or_default}
use Rattle.lsm_manifest.specs.Log.{IsLog}
use Rattle.lsm_text.specs.Fault.{of_log, of_edit}
use Rattle.lsm_requests.specs.declared.conversion.Conversion.TheVariants.{Manifest}
use Rattle.lsm_cmd_convert.proofs.MakingLaws.{explained_err}
use Rattle.lsm_cmd_convert.proofs.ManifestLaws.{printed_none, printed_more, printed_all, log_explained, edit_explained}
use Rattle.lsm_cmd_convert.proofs.converting.list_manifest.Goals as goal

pub returns-in_err-log-clause-explained : goal.returns-in_err-log-clause-explained
returns-in_err-log-clause-explained c =
    explained_err Manifest c.args.manifest.now c.from_residual.result (of_log c.in_err-log.field-0.0) c.from_residual.ensures.1
    (log_explained c.args.manifest.now c.in_err-log.field-0.0 c.in_err-log.ensures.exact)

pub records-init : goal.records-init
records-init c = printed_none c.as_slice-records.result.now c.new-text.result.items (search rules)

pub returns-in_err-edit-clause-explained : goal.returns-in_err-edit-clause-explained
returns-in_err-edit-clause-explained c =
    let records : List (List ℕ) = c.as_slice-records.result.now in
    let within : c.records.i < length records = search rules in
    let element = c.as_slice.ensures ∙ c.index-records-i.is ∙ get_or_default records c.records.i c.index-records-i.result [] within in
    let logged = subst (λ (rs : List (List ℕ)). IsLog c.args.manifest.now rs c.in_ok-log.log.rest) (sym c.as_slice-records.ensures) c.in_ok-log.ensures.found in
    explained_err Manifest c.args.manifest.now c.from_residual-in_err-edit.result (of_edit c.in_err-edit.field-0.0) c.from_residual-in_err-edit.ensures.1
    (edit_explained c.args.manifest.now records c.in_ok-log.log.rest c.records.i c.records.text.items c.as_slice.result.now c.in_err-edit.field-0.0
    logged within element c.records.invariant c.in_err-edit.ensures.exact)

pub records-preserved : goal.records-preserved
records-preserved c =
    let records : List (List ℕ) = c.as_slice-records.result.now in
    let within : c.records.i < length records = search rules in
    let element = c.as_slice.ensures ∙ c.index-records-i.is ∙ get_or_default records c.records.i c.index-records-i.result [] within in
    printed_more records c.records.i c.records.text.items c.push_edit.new.out.items c.as_slice.result.now c.in_ok-edit.edit
    within element c.records.invariant c.in_ok-edit.ensures.found c.in_ok-push_edit.ensures

pub returns-clause-listed : goal.returns-clause-listed
returns-clause-listed c =
    let records : List (List ℕ) = c.as_slice-records.result.now in
    let logged = subst (λ (rs : List (List ℕ)). IsLog c.args.manifest.now rs c.in_ok-log.log.rest) (sym c.as_slice-records.ensures) c.in_ok-log.ensures.found in
    let all = printed_all records c.records.i c.in_ok-log.log.rest c.records.text.items c.push_number.new.out.items (search rules)
    c.records.invariant c.in_ok-push_number.ensures in
    (all.0, c.in_ok-log.log.rest, record { records = records; log = logged; spelled = all.1 }, all.2)
