use Rattle.std.proofs.Common.{◌≡◌, ℕ, List, [], Option, None, refl, sym, ◌∙◌, ap, subst}
use Rattle.lsm_codec.specs.Entries.{Entry}
use Rattle.lsm_shelf.specs.Told.{Becomes, Told}
use Rattle.lsm_table.specs.Options.{AreInRange}
use Rattle.lsm_model.specs.Merging.{entries_of}
use Rattle.lsm_iterators.specs.Runs.{Left}
use Rattle.lsm_merge.specs.Compacting.{nothing_of}
use Rattle.lsm_merge.specs.declared.merge_fault.MergeFault.{MergeFault}
use Rattle.std.specs.Prelude.{IfErr}
use Rattle.lsm_table.specs.declared.table_options.TableOptions.{TableOptions}
use Rattle.lsm_shelf.proofs.CallerLemmas.{becomes_same}
use Rattle.lsm_merge.specs.Causes.{AnswersOf, AsksFor, HasCause, NamesRefused, NamesTicket}
use Rattle.lsm_merge.specs.Inputs.{AreInputs, IsOrderFault, input_numbers}
use Rattle.lsm_model.specs.Files.{all_entries}
use Rattle.lsm_merge.specs.InputOrder.{HasTwins}
use Rattle.lsm_merge.specs.Limits.{IsOverLimit, IsSizeFault}
use Rattle.lsm_merge.specs.Outputs.{Made, entries_of_last}
use Rattle.lsm_merge.proofs.PutBefore.{before_none, refused_last, refused_step}
use Rattle.lsm_merge.specs.Work.{Work, job_of}
use Rattle.lsm_merge.proofs.Limited.{no_size_reading}
use Rattle.lsm_merge.proofs.Tickets.{asks_none, asks_then, names_put, names_reading}
use Rattle.lsm_merge.proofs.PlaceLaws.{cause_after, cause_of_put, err_is, if_err, order_put, puts_all, puts_rise, puts_then, tables_all, tables_then}
use Rattle.lsm_merge.proofs.PutLaws.{err_if, on_err, on_ok, puts_none, tables_none}
use Rattle.lsm_merge.proofs.UnderWay.{IsUnderWay, order_reading, under_ascends, under_done, under_last, under_limit, under_order, under_step}
use Rattle.lsm_merge.proofs.compaction.merge.Goals as goal

-- before the first step
begun : (Honest : Type 0) (w : Work) (was is : Told) (drew answers asked : List ℕ) (m : Made) (before : Option Entry) (left : Left) → m ≡ nothing_of w → AreInRange w.table → before ≡ None → Becomes was is
    → AreInputs left.files (input_numbers w) → IsUnderWay Honest w (entries_of left.placed) was is drew drew answers answers asked asked m before left
begun Honest w was is drew answers asked m before left fresh range none told files =
    subst (λ (k : Made). IsUnderWay Honest w (entries_of left.placed) was is drew drew answers answers asked asked k before left) (sym fresh)
    (subst (λ (b : Option Entry). IsUnderWay Honest w (entries_of left.placed) was is drew drew answers answers asked asked (nothing_of w) b left) (sym none) (record {
      sizes = record { ticket = refl; options = refl; target = refl };
      good = record { in_range = range; whole = λ t h. absurd h; built = λ t h. absurd h; numbers = refl; written = tt };
      up = λ key h. absurd (cc h);
      told = puts_none [] [] was is refl told;
      tables = tables_none [] [] was is refl told;
      drawn = refl;
      answered = refl;
      files = files;
      asks = asks_none w.ticket asked asked refl;
      way = λ honest. record { same = refl; ascending = λ a. a.1; back = λ a. (λ e h. tt, a); left = λ e h. h };
    }))

pub entries-init : goal.entries-init
entries-init g c = (
  begun g.S.Shelf.honest c.args.job.now c.args.shelf.now c.open_stream.new.shelf (g.D.NumberSource.drew c.args.numbers.now) (g.D.NumberSource.refused c.args.numbers.now) (g.D.NumberSource.asked c.args.numbers.now)
      c.args.outputs.now c.in_ok-stream.stream.before c.in_ok-stream.stream.left c.requires.fresh (c.ticket-ticket.ensures.work).in_range c.in_ok-stream.ensures.before c.open_stream.ensures.told c.in_ok-stream.ensures.files,
  c.requires.ready,
)

pub returns-then-is_at_end-clause-kept : goal.returns-then-is_at_end-clause-kept
returns-then-is_at_end-clause-kept g c = λ honest.
    on_ok c.put_last.result
    (λ goes. under_done g.S.Shelf.honest c.args.job.now (entries_of c.in_ok-stream.stream.left.placed) c.args.shelf.now c.entries.shelf
    (g.D.NumberSource.drew c.args.numbers.now) (g.D.NumberSource.drew c.entries.numbers) (g.D.NumberSource.refused c.args.numbers.now) (g.D.NumberSource.refused c.entries.numbers)
    (g.D.NumberSource.asked c.args.numbers.now) (g.D.NumberSource.asked c.entries.numbers)
    c.entries.outputs c.put_last.new.self c.entries.stream.before c.entries.stream.left c.entries.invariant.0 c.streaming_keeps_the_kept.ensures.stream
    (sym c.is_at_end.ensures ∙ c.if-is_at_end.true) c.in_ok-stream.ensures.merges goes honest)
    c.put_last.ensures.ok

pub returns-then-is_at_end-clause-sizes : goal.returns-then-is_at_end-clause-sizes
returns-then-is_at_end-clause-sizes g c =
    on_ok c.put_last.result (λ goes. (goes.sizes).options ∙ (c.entries.invariant.0.sizes).options) c.put_last.ensures.ok

pub returns-then-is_at_end-clause-told : goal.returns-then-is_at_end-clause-told
returns-then-is_at_end-clause-told g c =
    puts_all c.put_last.new.self.put c.args.shelf.now c.put_last.new.shelf
    (puts_then [] c.entries.outputs.put c.put_last.new.self.put c.args.shelf.now c.entries.shelf c.put_last.new.shelf
    c.entries.invariant.0.told c.put_last.ensures.told)

pub returns-then-is_at_end-clause-tables : goal.returns-then-is_at_end-clause-tables
returns-then-is_at_end-clause-tables g c =
    on_ok c.put_last.result
    (λ more. tables_all c.put_last.new.self.tables c.args.shelf.now c.put_last.new.shelf
    (tables_then [] c.entries.outputs.tables c.put_last.new.self.tables c.args.shelf.now c.entries.shelf c.put_last.new.shelf
    c.entries.invariant.0.tables more))
    c.put_last.ensures.tables

pub returns-then-is_at_end-clause-cause : goal.returns-then-is_at_end-clause-cause
returns-then-is_at_end-clause-cause g c =
    if_err (λ (e : MergeFault). HasCause [] e c.entries.shelf c.put_last.new.shelf)
    (λ (e : MergeFault). HasCause (input_numbers c.args.job.now) e c.args.shelf.now c.put_last.new.shelf)
    c.put_last.result
    (λ e h. cause_after (input_numbers c.args.job.now) e c.args.shelf.now c.entries.shelf c.put_last.new.shelf
    (puts_rise [] c.entries.outputs.put c.args.shelf.now c.entries.shelf c.entries.invariant.0.told)
    (cause_of_put (input_numbers c.args.job.now) e c.entries.shelf c.put_last.new.shelf h))
    c.put_last.ensures.cause

pub entries-preserved : goal.entries-preserved
entries-preserved g c = (
  under_step g.S.Shelf.honest c.args.job.now (entries_of c.in_ok-stream.stream.left.placed) c.args.shelf.now c.entries.shelf c.step.new.shelf
      (g.D.NumberSource.drew c.args.numbers.now) (g.D.NumberSource.drew c.entries.numbers) (g.D.NumberSource.drew c.step.new.numbers)
      (g.D.NumberSource.refused c.args.numbers.now) (g.D.NumberSource.refused c.entries.numbers) (g.D.NumberSource.refused c.step.new.numbers)
      (g.D.NumberSource.asked c.args.numbers.now) (g.D.NumberSource.asked c.entries.numbers) (g.D.NumberSource.asked c.step.new.numbers)
      c.entries.outputs c.step.new.outputs c.entries.stream.before c.step.new.stream.before c.entries.stream.left c.step.new.stream.left c.entries.invariant.0
      (sym c.is_at_end.ensures ∙ c.if-is_at_end.false) c.in_ok-step.ensures.ok c.in_ok-step.ensures.drawn c.in_ok-step.ensures.answered c.in_ok-step.ensures.files c.step.ensures.told c.in_ok-step.ensures.tables c.step.ensures.asked,
  c.step.ensures.ready,
)

pub returns-in_err-step-clause-told : goal.returns-in_err-step-clause-told
returns-in_err-step-clause-told g c =
    puts_all c.step.new.outputs.put c.args.shelf.now c.step.new.shelf
    (puts_then [] c.entries.outputs.put c.step.new.outputs.put c.args.shelf.now c.entries.shelf c.step.new.shelf
    c.entries.invariant.0.told c.step.ensures.told)

pub returns-in_err-step-clause-cause : goal.returns-in_err-step-clause-cause
returns-in_err-step-clause-cause g c =
    err_is (λ (e : MergeFault). HasCause (input_numbers c.args.job.now) e c.args.shelf.now c.step.new.shelf) c.from_residual-in_err-step.result c.in_err-step.field-0.0 c.from_residual-in_err-step.ensures.1
    (cause_after (input_numbers c.args.job.now) c.in_err-step.field-0.0 c.args.shelf.now c.entries.shelf c.step.new.shelf
    (puts_rise [] c.entries.outputs.put c.args.shelf.now c.entries.shelf c.entries.invariant.0.told)
    (c.in_err-step.ensures.cause (input_numbers c.args.job.now) c.entries.invariant.0.files))

pub returns-in_err-stream-clause-asked : goal.returns-in_err-stream-clause-asked
returns-in_err-stream-clause-asked g c = asks_none c.args.job.now.ticket (g.D.NumberSource.asked c.args.numbers.now) (g.D.NumberSource.asked c.args.numbers.now) refl

pub returns-in_err-stream-clause-ticket : goal.returns-in_err-stream-clause-ticket
returns-in_err-stream-clause-ticket g c =
    err_is (λ (e : MergeFault). NamesTicket e c.args.job.now.ticket) c.from_residual.result c.in_err-stream.field-0.0 c.from_residual.ensures.1
    (names_reading c.in_err-stream.field-0.0 c.args.job.now.ticket c.in_err-stream.ensures.kind)

pub returns-in_err-stream-clause-large : goal.returns-in_err-stream-clause-large
returns-in_err-stream-clause-large g c = λ honest.
    err_is (λ (e : MergeFault). IsSizeFault e → IsOverLimit c.args.job.now.table (all_entries (job_of c.args.job.now).inputs)) c.from_residual.result c.in_err-stream.field-0.0 c.from_residual.ensures.1
    (λ size. absurd (no_size_reading c.in_err-stream.field-0.0 c.in_err-stream.ensures.kind size))

pub returns-in_err-stream-clause-order : goal.returns-in_err-stream-clause-order
returns-in_err-stream-clause-order g c = λ honest stand.
    err_is (λ (e : MergeFault). IsOrderFault e → HasTwins (all_entries (job_of c.args.job.now).inputs)) c.from_residual.result c.in_err-stream.field-0.0 c.from_residual.ensures.1
    (λ late. absurd (order_reading c.in_err-stream.field-0.0 c.in_err-stream.ensures.kind late))

pub returns-then-is_at_end-clause-asked : goal.returns-then-is_at_end-clause-asked
returns-then-is_at_end-clause-asked g c = c.entries.invariant.0.asks

pub returns-then-is_at_end-clause-ticket : goal.returns-then-is_at_end-clause-ticket
returns-then-is_at_end-clause-ticket g c =
    if_err (λ (e : MergeFault). (answers : List ℕ) → AnswersOf e answers answers) (λ (e : MergeFault). NamesTicket e c.args.job.now.ticket)
    c.put_last.result (λ e h. names_put e c.args.job.now.ticket h) c.put_last.ensures.why

pub returns-then-is_at_end-clause-large : goal.returns-then-is_at_end-clause-large
returns-then-is_at_end-clause-large g c = λ honest.
    if_err (λ (e : MergeFault). IsSizeFault e → IsOverLimit c.entries.outputs.options (entries_of_last c.entries.outputs.last))
    (λ (e : MergeFault). IsSizeFault e → IsOverLimit c.args.job.now.table (all_entries (job_of c.args.job.now).inputs))
    c.put_last.result
    (λ e h size. under_last g.S.Shelf.honest c.args.job.now (entries_of c.in_ok-stream.stream.left.placed) (all_entries (job_of c.args.job.now).inputs) c.args.shelf.now c.entries.shelf
    (g.D.NumberSource.drew c.args.numbers.now) (g.D.NumberSource.drew c.entries.numbers) (g.D.NumberSource.refused c.args.numbers.now) (g.D.NumberSource.refused c.entries.numbers)
    (g.D.NumberSource.asked c.args.numbers.now) (g.D.NumberSource.asked c.entries.numbers)
    c.entries.outputs c.entries.stream.before c.entries.stream.left c.entries.invariant.0 honest
    (c.in_ok-stream.ensures.from honest) (h size))
    c.put_last.ensures.large

pub returns-then-is_at_end-clause-order : goal.returns-then-is_at_end-clause-order
returns-then-is_at_end-clause-order g c = λ honest stand.
    if_err (λ (e : MergeFault). HasCause [] e c.entries.shelf c.put_last.new.shelf)
    (λ (e : MergeFault). IsOrderFault e → HasTwins (all_entries (job_of c.args.job.now).inputs))
    c.put_last.result (λ e h late. absurd (order_put e c.entries.shelf c.put_last.new.shelf h late)) c.put_last.ensures.cause

pub returns-in_err-step-clause-asked : goal.returns-in_err-step-clause-asked
returns-in_err-step-clause-asked g c =
    asks_then c.args.job.now.ticket (g.D.NumberSource.asked c.args.numbers.now) (g.D.NumberSource.asked c.entries.numbers) (g.D.NumberSource.asked c.step.new.numbers) c.entries.invariant.0.asks
    (subst (λ (t : ℕ). AsksFor t (g.D.NumberSource.asked c.entries.numbers) (g.D.NumberSource.asked c.step.new.numbers)) (c.entries.invariant.0.sizes).ticket c.step.ensures.asked)

pub returns-in_err-step-clause-ticket : goal.returns-in_err-step-clause-ticket
returns-in_err-step-clause-ticket g c =
    err_is (λ (e : MergeFault). NamesTicket e c.args.job.now.ticket) c.from_residual-in_err-step.result c.in_err-step.field-0.0 c.from_residual-in_err-step.ensures.1
    (subst (NamesTicket c.in_err-step.field-0.0) (c.entries.invariant.0.sizes).ticket c.in_err-step.ensures.ticket)

pub returns-in_err-step-clause-large : goal.returns-in_err-step-clause-large
returns-in_err-step-clause-large g c = λ honest.
    err_is (λ (e : MergeFault). IsSizeFault e → IsOverLimit c.args.job.now.table (all_entries (job_of c.args.job.now).inputs)) c.from_residual-in_err-step.result c.in_err-step.field-0.0 c.from_residual-in_err-step.ensures.1
    (λ size. under_limit g.S.Shelf.honest c.args.job.now (entries_of c.in_ok-stream.stream.left.placed) (all_entries (job_of c.args.job.now).inputs) c.args.shelf.now c.entries.shelf
    (g.D.NumberSource.drew c.args.numbers.now) (g.D.NumberSource.drew c.entries.numbers) (g.D.NumberSource.refused c.args.numbers.now) (g.D.NumberSource.refused c.entries.numbers)
    (g.D.NumberSource.asked c.args.numbers.now) (g.D.NumberSource.asked c.entries.numbers)
    c.entries.outputs c.entries.stream.before c.entries.stream.left c.entries.invariant.0
    (sym c.is_at_end.ensures ∙ c.if-is_at_end.false) (c.in_err-step.ensures.large size) honest (c.in_ok-stream.ensures.from honest))

pub returns-in_err-step-clause-order : goal.returns-in_err-step-clause-order
returns-in_err-step-clause-order g c = λ honest stand.
    err_is (λ (e : MergeFault). IsOrderFault e → HasTwins (all_entries (job_of c.args.job.now).inputs)) c.from_residual-in_err-step.result c.in_err-step.field-0.0 c.from_residual-in_err-step.ensures.1
    (λ late. c.in_ok-stream.ensures.order honest stand
    (under_order g.S.Shelf.honest c.args.job.now (entries_of c.in_ok-stream.stream.left.placed) c.args.shelf.now c.entries.shelf
    (g.D.NumberSource.drew c.args.numbers.now) (g.D.NumberSource.drew c.entries.numbers) (g.D.NumberSource.refused c.args.numbers.now) (g.D.NumberSource.refused c.entries.numbers)
    (g.D.NumberSource.asked c.args.numbers.now) (g.D.NumberSource.asked c.entries.numbers)
    c.entries.outputs c.entries.stream.before c.entries.stream.left c.entries.invariant.0
    (sym c.is_at_end.ensures ∙ c.if-is_at_end.false) (c.in_err-step.ensures.order late) honest))

pub returns-then-is_at_end-clause-apart : goal.returns-then-is_at_end-clause-apart
returns-then-is_at_end-clause-apart g c = λ honest stand.
    on_ok c.put_last.result
    (λ goes. c.in_ok-stream.ensures.apart honest stand
    (under_ascends g.S.Shelf.honest c.args.job.now (entries_of c.in_ok-stream.stream.left.placed) c.args.shelf.now c.entries.shelf
    (g.D.NumberSource.drew c.args.numbers.now) (g.D.NumberSource.drew c.entries.numbers) (g.D.NumberSource.refused c.args.numbers.now) (g.D.NumberSource.refused c.entries.numbers)
    (g.D.NumberSource.asked c.args.numbers.now) (g.D.NumberSource.asked c.entries.numbers)
    c.entries.outputs c.entries.stream.before c.entries.stream.left c.entries.invariant.0 (sym c.is_at_end.ensures ∙ c.if-is_at_end.true) honest))
    c.put_last.ensures.ok

pub returns-then-is_at_end-clause-refused : goal.returns-then-is_at_end-clause-refused
returns-then-is_at_end-clause-refused g c =
    subst (λ (o : TableOptions). IfErr c.put_last.result (NamesRefused (g.S.Shelf.refuses g.N.Naming.place) o)) (c.entries.invariant.0.sizes).options c.put_last.ensures.refused

pub returns-in_err-step-clause-refused : goal.returns-in_err-step-clause-refused
returns-in_err-step-clause-refused g c =
    err_is (NamesRefused (g.S.Shelf.refuses g.N.Naming.place) c.args.job.now.table) c.from_residual-in_err-step.result c.in_err-step.field-0.0 c.from_residual-in_err-step.ensures.1
    (subst (λ (o : TableOptions). NamesRefused (g.S.Shelf.refuses g.N.Naming.place) o c.in_err-step.field-0.0) (c.entries.invariant.0.sizes).options c.in_err-step.ensures.refused)

pub returns-in_err-stream-clause-before : goal.returns-in_err-stream-clause-before
returns-in_err-stream-clause-before g c =
    err_if c.from_residual.result (before_none g.S.Shelf.honest c.args.job.now c.args.outputs.now.put c.args.shelf.now c.open_stream.new.shelf (ap (λ (m : Made). m.put) c.requires.fresh) c.open_stream.ensures.told)

pub returns-then-is_at_end-clause-before : goal.returns-then-is_at_end-clause-before
returns-then-is_at_end-clause-before g c =
    on_err c.put_last.result
    (refused_last g.S.Shelf.honest c.args.job.now (entries_of c.in_ok-stream.stream.left.placed) c.args.shelf.now c.entries.shelf c.put_last.new.shelf
    (g.D.NumberSource.drew c.args.numbers.now) (g.D.NumberSource.drew c.entries.numbers) (g.D.NumberSource.refused c.args.numbers.now) (g.D.NumberSource.refused c.entries.numbers)
    (g.D.NumberSource.asked c.args.numbers.now) (g.D.NumberSource.asked c.entries.numbers) c.put_last.new.self.put
    c.entries.outputs c.entries.stream.before c.entries.stream.left c.streaming_keeps_the_kept.ensures.stream
    (record { merges = c.in_ok-stream.ensures.merges; from = c.in_ok-stream.ensures.from; order = c.in_ok-stream.ensures.order }) c.entries.invariant.0
    (sym c.is_at_end.ensures ∙ c.if-is_at_end.true))
    c.put_last.ensures.stands

pub returns-in_err-step-clause-before : goal.returns-in_err-step-clause-before
returns-in_err-step-clause-before g c =
    err_if c.from_residual-in_err-step.result
    (refused_step g.S.Shelf.honest c.args.job.now (entries_of c.in_ok-stream.stream.left.placed) c.args.shelf.now c.entries.shelf c.step.new.shelf
    (g.D.NumberSource.drew c.args.numbers.now) (g.D.NumberSource.drew c.entries.numbers) (g.D.NumberSource.refused c.args.numbers.now) (g.D.NumberSource.refused c.entries.numbers)
    (g.D.NumberSource.asked c.args.numbers.now) (g.D.NumberSource.asked c.entries.numbers) c.step.new.outputs.put
    c.entries.outputs c.entries.stream.before c.entries.stream.left c.streaming_keeps_the_kept.ensures.stream
    (record { merges = c.in_ok-stream.ensures.merges; from = c.in_ok-stream.ensures.from; order = c.in_ok-stream.ensures.order }) c.entries.invariant.0
    (sym c.is_at_end.ensures ∙ c.if-is_at_end.false) c.in_err-step.ensures.stands)

pub returns-in_err-stream-clause-refused : goal.returns-in_err-stream-clause-refused
returns-in_err-stream-clause-refused g c =
    err_is (NamesRefused (g.S.Shelf.refuses g.N.Naming.place) c.args.job.now.table) c.from_residual.result c.in_err-stream.field-0.0 c.from_residual.ensures.1 (c.in_err-stream.ensures.refused c.args.job.now.table)

-- no memory for the rows

pub returns-in_default-clause-asked : goal.returns-in_default-clause-asked
returns-in_default-clause-asked g c = asks_none c.args.job.now.ticket (g.D.NumberSource.asked c.args.numbers.now) (g.D.NumberSource.asked c.args.numbers.now) refl

pub returns-in_default-clause-before : goal.returns-in_default-clause-before
returns-in_default-clause-before g c =
    before_none g.S.Shelf.honest c.args.job.now c.args.outputs.now.put c.args.shelf.now c.args.shelf.now (ap (λ (m : Made). m.put) c.requires.fresh) (becomes_same c.args.shelf.now)
