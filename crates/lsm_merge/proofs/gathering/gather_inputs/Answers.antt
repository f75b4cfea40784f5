use Rattle.std.proofs.Common.{◌≡◌, ℕ, [], sym, ◌∙◌, subst, inl}
use Rattle.std.specs.Prelude.{IfErr, IfOk}
use Rattle.lsm_shelf.specs.Told.{Becomes, putting}
use Rattle.lsm_shelf.proofs.CallerLemmas.{becomes_then}
use Rattle.lsm_table.specs.HeldTable.{entries_in}
use Rattle.lsm_table.specs.Registry.{Table}
use Rattle.lsm_table.specs.declared.table_options.TableOptions.{TableOptions}
use Rattle.lsm_model.specs.Files.{all_entries}
use Rattle.lsm_version.specs.Versions.{IsWhole}
use Rattle.lsm_merge.specs.Causes.{HasCause, NamesRefused}
use Rattle.lsm_merge.specs.Gathering.{HasEachOf, IsOfOneOutput, PutsAtMost}
use Rattle.lsm_merge.specs.InputOrder.{HasTwins}
use Rattle.lsm_merge.specs.Inputs.{IsOrderFault, input_numbers}
use Rattle.lsm_merge.specs.Work.{IsBuilt, job_of}
use Rattle.lsm_merge.specs.declared.merge_fault.MergeFault.{MergeFault}
use Rattle.lsm_merge.proofs.GatherLaws.{at_most_after, gathered_all, if_ok, if_ok_both, making_step, order_late, put_after}
use Rattle.lsm_merge.proofs.PlaceLaws.{becomes_rises, cause_after, cause_of_put, err_is, if_err}
use Rattle.lsm_merge.proofs.PutLaws.{err_if, on_err}
use Rattle.lsm_merge.proofs.gathering.gather_inputs.Goals as goal

pub entries-preserved : goal.entries-preserved
entries-preserved g c =
    making_step g.S.Shelf.honest c.args.job.now c.args.number c.entries.output c.take_in.new.output c.entries.stream.before c.take_in.new.stream.before c.entries.stream.left c.take_in.new.stream.left
    c.args.shelf.now c.entries.shelf c.take_in.new.shelf c.entries.invariant (sym c.is_at_end.ensures ∙ c.if-is_at_end.false) c.in_ok-take_in.ensures.ok c.in_ok-take_in.ensures.files c.take_in.ensures.told

pub returns-then-is_at_end-clause-number : goal.returns-then-is_at_end-clause-number
returns-then-is_at_end-clause-number g c =
    if_ok (λ (t : Table). t.number ≡ c.entries.output.number) (λ (t : Table). t.number ≡ c.args.number) c.put_gathered.result (λ t h. h ∙ (c.entries.invariant).number_is) c.put_gathered.ensures.number

pub returns-then-is_at_end-clause-built : goal.returns-then-is_at_end-clause-built
returns-then-is_at_end-clause-built g c =
    subst (λ (o : TableOptions). IfOk c.put_gathered.result (IsBuilt o)) (c.entries.invariant).sizes c.put_gathered.ensures.built

pub returns-then-is_at_end-clause-entries : goal.returns-then-is_at_end-clause-entries
returns-then-is_at_end-clause-entries g c = λ honest.
    if_ok_both IsWhole (λ (t : Table). entries_in t.image ≡ c.entries.output.entries) (λ (t : Table). HasEachOf (entries_in t.image) (all_entries (job_of c.args.job.now).inputs)) c.put_gathered.result
    (λ t whole is. gathered_all g.S.Shelf.honest c.args.job.now c.args.number c.entries.output c.entries.stream.before c.entries.stream.left c.args.shelf.now c.entries.shelf t
    c.entries.invariant (sym c.is_at_end.ensures ∙ c.if-is_at_end.true) whole is honest)
    c.put_gathered.ensures.whole c.put_gathered.ensures.entries

pub returns-then-is_at_end-clause-told : goal.returns-then-is_at_end-clause-told
returns-then-is_at_end-clause-told g c =
    if_ok (λ (t : Table). Becomes (putting c.entries.output.number t.image c.entries.shelf) c.put_gathered.new.shelf) (λ (t : Table). Becomes (putting c.args.number t.image c.args.shelf.now) c.put_gathered.new.shelf) c.put_gathered.result
    (λ t h. put_after c.args.number t.image c.args.shelf.now c.entries.shelf c.put_gathered.new.shelf (c.entries.invariant).told
    (subst (λ (n : ℕ). Becomes (putting n t.image c.entries.shelf) c.put_gathered.new.shelf) (c.entries.invariant).number_is h))
    c.put_gathered.ensures.told

pub returns-then-is_at_end-clause-cause : goal.returns-then-is_at_end-clause-cause
returns-then-is_at_end-clause-cause g c =
    if_err (λ (e : MergeFault). HasCause [] e c.entries.shelf c.put_gathered.new.shelf)
    (λ (e : MergeFault). HasCause (input_numbers c.args.job.now) e c.args.shelf.now c.put_gathered.new.shelf)
    c.put_gathered.result
    (λ e h. cause_after (input_numbers c.args.job.now) e c.args.shelf.now c.entries.shelf c.put_gathered.new.shelf
    (becomes_rises c.args.shelf.now c.entries.shelf (c.entries.invariant).told)
    (cause_of_put (input_numbers c.args.job.now) e c.entries.shelf c.put_gathered.new.shelf h))
    c.put_gathered.ensures.cause

pub returns-then-is_at_end-clause-refused : goal.returns-then-is_at_end-clause-refused
returns-then-is_at_end-clause-refused g c =
    subst (λ (o : TableOptions). IfErr c.put_gathered.result (NamesRefused (g.S.Shelf.refuses g.N.Naming.place) o)) (c.entries.invariant).sizes c.put_gathered.ensures.refused

pub returns-then-is_at_end-clause-stands : goal.returns-then-is_at_end-clause-stands
returns-then-is_at_end-clause-stands g c =
    on_err c.put_gathered.result
    (λ h. at_most_after c.args.number c.args.job.now.table c.args.shelf.now c.entries.shelf c.put_gathered.new.shelf (c.entries.invariant).told
    (subst (λ (o : TableOptions). PutsAtMost c.args.number o c.entries.shelf c.put_gathered.new.shelf) (c.entries.invariant).sizes
    (subst (λ (n : ℕ). PutsAtMost n c.entries.output.options c.entries.shelf c.put_gathered.new.shelf) (c.entries.invariant).number_is h)))
    c.put_gathered.ensures.stands

pub returns-in_err-take_in-clause-cause : goal.returns-in_err-take_in-clause-cause
returns-in_err-take_in-clause-cause g c =
    err_is (λ (e : MergeFault). HasCause (input_numbers c.args.job.now) e c.args.shelf.now c.take_in.new.shelf) c.from_residual-in_err-take_in.result c.in_err-take_in.field-0.0 c.from_residual-in_err-take_in.ensures.1
    (cause_after (input_numbers c.args.job.now) c.in_err-take_in.field-0.0 c.args.shelf.now c.entries.shelf c.take_in.new.shelf
    (becomes_rises c.args.shelf.now c.entries.shelf (c.entries.invariant).told)
    (c.in_err-take_in.ensures.cause (input_numbers c.args.job.now) (c.entries.invariant).files))

pub returns-in_err-take_in-clause-refused : goal.returns-in_err-take_in-clause-refused
returns-in_err-take_in-clause-refused g c =
    err_is (NamesRefused (g.S.Shelf.refuses g.N.Naming.place) c.args.job.now.table) c.from_residual-in_err-take_in.result c.in_err-take_in.field-0.0 c.from_residual-in_err-take_in.ensures.1
    (subst (λ (o : TableOptions). NamesRefused (g.S.Shelf.refuses g.N.Naming.place) o c.in_err-take_in.field-0.0) (c.entries.invariant).sizes c.in_err-take_in.ensures.refused)

pub returns-in_err-take_in-clause-order : goal.returns-in_err-take_in-clause-order
returns-in_err-take_in-clause-order g c = λ honest stand.
    err_is (λ (e : MergeFault). IsOrderFault e → HasTwins (all_entries (job_of c.args.job.now).inputs)) c.from_residual-in_err-take_in.result c.in_err-take_in.field-0.0 c.from_residual-in_err-take_in.ensures.1
    (λ late. order_late g.S.Shelf.honest c.args.job.now c.args.number c.entries.output c.entries.stream.before c.entries.stream.left c.args.shelf.now c.entries.shelf
    c.entries.invariant (sym c.is_at_end.ensures ∙ c.if-is_at_end.false) (c.in_err-take_in.ensures.order late) honest stand)

pub returns-in_err-take_in-clause-stands : goal.returns-in_err-take_in-clause-stands
returns-in_err-take_in-clause-stands g c =
    err_if _ (inl (becomes_then c.args.shelf.now c.entries.shelf c.take_in.new.shelf (c.entries.invariant).told c.take_in.ensures.told))

pub returns-then-is_at_end-clause-numbers : goal.returns-then-is_at_end-clause-numbers
returns-then-is_at_end-clause-numbers g c = subst (λ (n : ℕ). IfErr c.put_gathered.result (IsOfOneOutput n)) (c.entries.invariant).number_is c.put_gathered.ensures.numbers

pub returns-in_err-take_in-clause-numbers : goal.returns-in_err-take_in-clause-numbers
returns-in_err-take_in-clause-numbers g c =
    err_is (IsOfOneOutput c.args.number) c.from_residual-in_err-take_in.result c.in_err-take_in.field-0.0 c.from_residual-in_err-take_in.ensures.1
    (subst (λ (n : ℕ). IsOfOneOutput n c.in_err-take_in.field-0.0) (c.entries.invariant).number_is c.in_err-take_in.ensures.numbers)
