use Rattle.std.proofs.Common.{Err, ◌∙◌, ap}
use Rattle.lsm_table.specs.TableMaking.{Making}
use Rattle.lsm_text.specs.ReaderView.{before_of, rest_of}
use Rattle.lsm_text.specs.EntryView.{entry_of}
use Rattle.lsm_block.specs.declared.build_fault.BuildFault.{BuildFault}
use Rattle.lsm_text.specs.Fault.{of_line, of_build}
use Rattle.lsm_requests.specs.declared.conversion.Conversion.TheVariants.{MakeTable}
use Rattle.lsm_cmd_convert.proofs.MakingLaws.{next_ascends, at_next, at_end, line_explained, add_explained, finish_explained, explained_err}
use Rattle.lsm_cmd_convert.proofs.converting.make_table.Goals as goal

pub returns-in_err-next-clause-explained : goal.returns-in_err-next-clause-explained
returns-in_err-next-clause-explained c =
    let said = line_explained c.args.list.now c.lines.builder.entries c.in_err-next.field-0.0 c.lines.reader c.lines.invariant.reading c.in_err-next.ensures.err in
    explained_err MakeTable c.args.list.now c.from_residual.result (of_line c.in_err-next.field-0.0) c.from_residual.ensures.1 said

pub add-requires-clause-ascends : goal.add-requires-clause-ascends
add-requires-clause-ascends c =
    let next = rw c.if-branch.true at c.in_ok-next.ensures.ok in
    rw (c.deref.ensures.value, c.deref-in-lines.ensures.value)
    (next_ascends c.args.list.now c.lines.builder.entries (entry_of c.next.new.self.entry) (before_of c.lines.reader) (rest_of c.lines.reader)
    c.lines.invariant.reading next.1)

pub lines-preserved : goal.lines-preserved
lines-preserved c =
    let next = rw c.if-branch.true at c.in_ok-next.ensures.ok in
    let added = rw (c.deref.ensures.value, c.deref-in-lines.ensures.value) at c.in_ok-add.ensures.ok in
    let reading = at_next c.args.list.now c.lines.builder.entries (entry_of c.next.new.self.entry) (before_of c.lines.reader) (before_of c.next.new.self)
    (rest_of c.lines.reader) (rest_of c.next.new.self) c.lines.invariant.reading next.0 next.1 next.2 in
    record {
      options = ap (λ (m : Making). m.options) added ∙ c.lines.invariant.options;
      reading = rw added reading;
    }

pub returns-clause-made : goal.returns-clause-made
returns-clause-made c =
    let next = rw c.if-branch.false at c.in_ok-next.ensures.ok in (
      c.lines.builder.entries,
      at_end c.args.list.now c.lines.builder.entries (before_of c.lines.reader) (rest_of c.lines.reader) c.lines.invariant.reading next,
      c.in_ok-finish.ensures.table,
      rw c.lines.invariant.options at c.in_ok-finish.ensures.bytes,
    )

pub returns-in_err-add-clause-explained : goal.returns-in_err-add-clause-explained
returns-in_err-add-clause-explained c =
    let next = rw c.if-branch.true at c.in_ok-next.ensures.ok in
    let large = rw (c.deref.ensures.value, c.deref-in-lines.ensures.value, c.lines.invariant.options) at c.in_err-add.ensures.large in
    let said = add_explained c.args.list.now c.lines.builder.entries (entry_of c.next.new.self.entry) (before_of c.lines.reader) (rest_of c.lines.reader) (rest_of c.next.new.self) c.in_err-add.field-0.0
    c.lines.invariant.reading next.0 (λ e. large (ap (λ (x : BuildFault). Err x) e)) in
    explained_err MakeTable c.args.list.now c.from_residual-in_err-add.result (of_build c.in_err-add.field-0.0) c.from_residual-in_err-add.ensures.1 said

pub returns-in_err-finish-clause-explained : goal.returns-in_err-finish-clause-explained
returns-in_err-finish-clause-explained c =
    let large = rw c.lines.invariant.options at c.in_err-finish.ensures.large in
    let said = finish_explained c.args.list.now c.lines.builder.entries (before_of c.lines.reader) (rest_of c.lines.reader) c.in_err-finish.field-0.0
    c.lines.invariant.reading (λ e. large (ap (λ (x : BuildFault). Err x) e)) in
    explained_err MakeTable c.args.list.now c.from_residual-in_err-finish.result (of_build c.in_err-finish.field-0.0) c.from_residual-in_err-finish.ensures.1 said
