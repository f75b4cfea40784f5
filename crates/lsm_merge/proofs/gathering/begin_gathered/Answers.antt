use Rattle.std.proofs.Common.{sym, ◌∙◌}
use Rattle.lsm_codec.proofs.CallerLemmas.{has_left}
use Rattle.lsm_merge.specs.Causes.{HasCause, NamesRefused}
use Rattle.lsm_merge.specs.Gathering.{IsOfOneOutput}
use Rattle.lsm_merge.specs.Inputs.{IsOrderFault, input_numbers}
use Rattle.lsm_merge.specs.declared.merge_fault.MergeFault.{MergeFault}
use Rattle.lsm_merge.proofs.GatherLaws.{making_begun, no_entry_honest, one_reading}
use Rattle.lsm_merge.proofs.PlaceLaws.{becomes_rises, cause_after, err_is}
use Rattle.lsm_merge.proofs.UnderWay.{order_reading}
use Rattle.lsm_merge.proofs.gathering.begin_gathered.Goals as goal

pub returns-in_err-stream-clause-refused : goal.returns-in_err-stream-clause-refused
returns-in_err-stream-clause-refused g c =
    err_is (NamesRefused (g.S.Shelf.refuses g.N.Naming.place) c.args.job.now.table) c.from_residual.result c.in_err-stream.field-0.0 c.from_residual.ensures.1 (c.in_err-stream.ensures.refused c.args.job.now.table)

pub returns-in_err-stream-clause-numbers : goal.returns-in_err-stream-clause-numbers
returns-in_err-stream-clause-numbers g c =
    err_is (IsOfOneOutput c.args.number) c.from_residual.result c.in_err-stream.field-0.0 c.from_residual.ensures.1 (one_reading c.args.number c.in_err-stream.field-0.0 c.in_err-stream.ensures.kind)

pub returns-in_err-stream-clause-order : goal.returns-in_err-stream-clause-order
returns-in_err-stream-clause-order g c =
    err_is (λ (e : MergeFault). IsOrderFault e → ⊥) c.from_residual.result c.in_err-stream.field-0.0 c.from_residual.ensures.1 (order_reading c.in_err-stream.field-0.0 c.in_err-stream.ensures.kind)

pub returns-then-is_at_end-clause-refused : goal.returns-then-is_at_end-clause-refused
returns-then-is_at_end-clause-refused g c = c.no_entry.ensures.refused c.args.job.now.table

pub returns-then-is_at_end-clause-sound : goal.returns-then-is_at_end-clause-sound
returns-then-is_at_end-clause-sound g c = λ honest.
    absurd (no_entry_honest c.args.job.now c.in_ok-stream.stream.left.placed (sym c.is_at_end.ensures ∙ c.if-is_at_end.true) c.requires.some
    (λ t h. (c.ticket-ticket.ensures.work).whole honest t (has_left c.args.job.now.upper c.args.job.now.lower t h)) (c.in_ok-stream.ensures.merges honest))

pub returns-in_err-output-clause-cause : goal.returns-in_err-output-clause-cause
returns-in_err-output-clause-cause g c =
    err_is (λ (e : MergeFault). HasCause (input_numbers c.args.job.now) e c.args.shelf.now c.begin_with.new.shelf) c.from_residual-in_err-output.result c.in_err-output.field-0.0 c.from_residual-in_err-output.ensures.1
    (cause_after (input_numbers c.args.job.now) c.in_err-output.field-0.0 c.args.shelf.now c.open_stream.new.shelf c.begin_with.new.shelf
    (becomes_rises c.args.shelf.now c.open_stream.new.shelf c.open_stream.ensures.told)
    (c.in_err-output.ensures.cause (input_numbers c.args.job.now) c.in_ok-stream.ensures.files))

pub returns-clause-begun : goal.returns-clause-begun
returns-clause-begun g c =
    making_begun g.S.Shelf.honest c.args.job.now c.args.number c.table.result c.in_ok-output.output c.begin_with.new.stream.before c.in_ok-stream.stream.left c.begin_with.new.stream.left
    c.args.shelf.now c.open_stream.new.shelf c.begin_with.new.shelf c.table.ensures.table (sym c.is_at_end.ensures ∙ c.if-is_at_end.false) c.open_stream.ensures.told c.in_ok-stream.ensures.files
    c.in_ok-stream.ensures.merges c.in_ok-stream.ensures.order c.in_ok-output.ensures.ok c.in_ok-output.ensures.files c.begin_with.ensures.told

pub returns-then-is_at_end-clause-numbers : goal.returns-then-is_at_end-clause-numbers
returns-then-is_at_end-clause-numbers g c = c.no_entry.ensures.numbers c.args.number
