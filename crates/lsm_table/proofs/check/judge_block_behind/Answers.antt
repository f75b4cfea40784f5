use Rattle.std.proofs.Common.{Result, sym, ap, ◌∙◌, subst, arith}
use Rattle.std.proofs.lemmas.Result.{err_from_is_err_and}
use Rattle.std.specs.Option.{option_map}
use Rattle.lsm_codec.specs.KeyRef.{key_of}
use Rattle.lsm_block.specs.Block.{entry_of}
use Rattle.lsm_table.specs.declared.table_fault.TableFault.{TableFault}
use Rattle.lsm_table.specs.Reading.{Fails, settled}
use Rattle.lsm_table.proofs.BehindLaws.{block_inside, not_read, begins_before, begins_later, end_read}
use Rattle.lsm_table.proofs.check.judge_block_behind.Goals as goal

pub returns-in_err-handle-clause-judged : goal.returns-in_err-handle-clause-judged
returns-in_err-handle-clause-judged c =
    let p = err_from_is_err_and c.from_residual.result c.from_residual.ensures.1 in
    rw (p.1, p.2) (not_read c.args.body.now c.args.from (option_map key_of c.args.bound)
    (entry_of (key_of c.args.key.now) c.args.spelled.now) c.in_err-handle.field-0.0 c.in_err-handle.ensures)

pub returns-then-handle-from-clause-judged : goal.returns-then-handle-from-clause-judged
returns-then-handle-from-clause-judged c =
    begins_before c.args.body.now c.args.from (option_map key_of c.args.bound)
    (entry_of (key_of c.args.key.now) c.args.spelled.now) c.in_ok-handle.handle c.in_ok-handle._rest.now c.in_ok-handle.ensures (omega (arith, c.if-handle-from.true))

pub returns-in_err-judge_block-clause-judged : goal.returns-in_err-judge_block-clause-judged
returns-in_err-judge_block-clause-judged c =
    let p = err_from_is_err_and c.from_residual-in_err-judge_block.result c.from_residual-in_err-judge_block.ensures.1 in
    let i = entry_of (key_of c.args.key.now) c.args.spelled.now in
    let same = begins_later c.args.body.now c.args.from (option_map key_of c.args.bound) i c.in_ok-handle.handle c.in_ok-handle._rest.now c.in_ok-handle.ensures (omega (arith, c.if-handle-from.false)) in
    rw (p.1, p.2) (subst (λ (r : Result (Unit {0}) TableFault). Fails c.in_err-judge_block.field-0.0 r) (sym (ap settled same)) c.in_err-judge_block.ensures)

pub overflow_add-result : goal.overflow_add-result
overflow_add-result c =
    omega (
      arith,
      block_inside c.args.body.now (option_map key_of c.args.bound) (entry_of (key_of c.args.key.now) c.args.spelled.now)
          c.in_ok-handle.handle c.in_ok-handle._rest.now c.in_ok-handle.ensures c.in_ok-judge_block.ensures,
    )

pub overflow_add-result-2 : goal.overflow_add-result-2
overflow_add-result-2 c =
    omega (
      arith,
      block_inside c.args.body.now (option_map key_of c.args.bound) (entry_of (key_of c.args.key.now) c.args.spelled.now)
          c.in_ok-handle.handle c.in_ok-handle._rest.now c.in_ok-handle.ensures c.in_ok-judge_block.ensures,
    )

pub returns-clause-judged : goal.returns-clause-judged
returns-clause-judged c =
    let i = entry_of (key_of c.args.key.now) c.args.spelled.now in
    let same = begins_later c.args.body.now c.args.from (option_map key_of c.args.bound) i c.in_ok-handle.handle c.in_ok-handle._rest.now c.in_ok-handle.ensures (omega (arith, c.if-handle-from.false)) in
    ap settled same ∙ c.in_ok-judge_block.ensures

pub returns-clause-end : goal.returns-clause-end
returns-clause-end c = end_read c.args.spelled.now c.in_ok-handle.handle c.in_ok-handle._rest.now c.in_ok-handle.ensures
