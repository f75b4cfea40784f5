use Rattle.std.proofs.Common.{◌≡◌, ℕ, List, [], ◌∷◌, ◌++◌, refl, sym, ◌∙◌, subst}
use Rattle.lsm_codec.specs.Entries.{Entry}
use Rattle.lsm_codec.specs.KeyRef.{key_of}
use Rattle.lsm_block.specs.Block.{entry_of}
use Rattle.lsm_model.specs.Merging.{Placed}
use Rattle.lsm_merge.specs.declared.merge_fault.MergeFault.{MergeFault}
use Rattle.lsm_merge.specs.Causes.{AnswersOf, HasCause, Leaves, NamesTicket}
use Rattle.lsm_merge.specs.Dropping.{Follows, is_kept}
use Rattle.lsm_merge.specs.Inputs.{AreInputs, IsOfReading, IsOrderFault}
use Rattle.lsm_shelf.proofs.CallerLemmas.{becomes_same}
use Rattle.lsm_merge.specs.Outputs.{Made, drawn_of, entries_of_last}
use Rattle.lsm_merge.specs.PutBefore.{IsTime}
use Rattle.lsm_merge.proofs.PutBefore.{one_after, one_none, one_when, taken_one, time_of}
use Rattle.lsm_merge.specs.Limits.{IsOverLimit, IsSizeFault}
use Rattle.lsm_merge.proofs.Limited.{no_size_reading}
use Rattle.lsm_merge.proofs.Tickets.{names_reading}
use Rattle.lsm_merge.proofs.Dropped.{follows_says}
use Rattle.lsm_merge.proofs.PlaceLaws.{ascends_after, cause_after, err_is, if_err, puts_rise}
use Rattle.lsm_merge.proofs.PutLaws.{err_if, ok_if, puts_after, tables_after}
use Rattle.lsm_merge.proofs.Stepping.{first_entry, stepped}
use Rattle.lsm_merge.proofs.UnderWay.{leaves_reading, order_reading, why_reading}
use Rattle.lsm_merge.proofs.compaction.step.Goals as goal

pub take-requires-clause-ascends : goal.take-requires-clause-ascends
take-requires-clause-ascends g c = λ lts lives.
    let e : Entry = entry_of (key_of c.in-Some.key) c.value.result.now in
    let f : Follows c.args.stream.now.before e = follows_says c.args.stream.now.before e (sym (c.is_followed_by.ensures c.in-Some.ensures) ∙ c.if-not-is_followed_by.false) in
    ascends_after _ c.args.stream.now.before e c.tell_order.ensures c.requires.up f

pub returns-clause-leaves : goal.returns-clause-leaves
returns-clause-leaves g c =
    if_err IsOfReading (λ (e : MergeFault). (there : List ℕ) → g.D.NumberSource.drew c.args.numbers.now ≡ drawn_of c.args.outputs.now there → Leaves e c.take.new.self.put (g.D.NumberSource.drew c.take.new.numbers) there)
    c.pass.result (λ e k there d. leaves_reading e c.take.new.self (g.D.NumberSource.drew c.take.new.numbers) there k (c.in_ok-take.ensures.drawn there d)) c.pass.ensures.kind

pub returns-clause-why : goal.returns-clause-why
returns-clause-why g c =
    if_err IsOfReading (λ (e : MergeFault). AnswersOf e (g.D.NumberSource.refused c.args.numbers.now) (g.D.NumberSource.refused c.take.new.numbers))
    c.pass.result (λ e k. why_reading e (g.D.NumberSource.refused c.args.numbers.now) (g.D.NumberSource.refused c.take.new.numbers) k c.in_ok-take.ensures.answered) c.pass.ensures.kind

pub returns-clause-cause : goal.returns-clause-cause
returns-clause-cause g c =
    if_err (λ (e : MergeFault). (inputs : List ℕ) → AreInputs c.args.stream.now.left.files inputs → HasCause inputs e c.take.new.shelf c.pass.new.shelf)
    (λ (e : MergeFault). (inputs : List ℕ) → AreInputs c.args.stream.now.left.files inputs → HasCause inputs e c.args.shelf.now c.pass.new.shelf)
    c.pass.result
    (λ e h inputs i. cause_after inputs e c.args.shelf.now c.take.new.shelf c.pass.new.shelf
    (puts_rise c.args.outputs.now.put c.take.new.self.put c.args.shelf.now c.take.new.shelf c.take.ensures.told) (h inputs i))
    c.pass.ensures.cause

pub returns-clause-order : goal.returns-clause-order
returns-clause-order g c =
    if_err IsOfReading (λ (e : MergeFault). IsOrderFault e → (p : Placed) (rest : List Placed) → c.args.stream.now.left.placed ≡ p ∷ rest → Follows c.args.stream.now.before p.1 → ⊥)
    c.pass.result (λ e k h p rest is f. order_reading e k h) c.pass.ensures.kind

pub returns-clause-ticket : goal.returns-clause-ticket
returns-clause-ticket g c =
    if_err IsOfReading (λ (e : MergeFault). NamesTicket e c.args.outputs.now.ticket) c.pass.result (λ e k. names_reading e c.args.outputs.now.ticket k) c.pass.ensures.kind

pub returns-clause-large : goal.returns-clause-large
returns-clause-large g c =
    if_err IsOfReading (λ (e : MergeFault). IsSizeFault e → (p : Placed) (rest : List Placed) → c.args.stream.now.left.placed ≡ p ∷ rest
    → IsOverLimit c.args.outputs.now.options (entries_of_last c.args.outputs.now.last ++ p.1 ∷ []))
    c.pass.result (λ e k s p rest is. absurd (no_size_reading e k s)) c.pass.ensures.kind

pub returns-in_err-take-clause-large : goal.returns-in_err-take-clause-large
returns-in_err-take-clause-large g c =
    err_is (λ (e : MergeFault). IsSizeFault e → (p : Placed) (rest : List Placed) → c.args.stream.now.left.placed ≡ p ∷ rest
    → IsOverLimit c.args.outputs.now.options (entries_of_last c.args.outputs.now.last ++ p.1 ∷ []))
    c.from_residual.result c.in_err-take.field-0.0 c.from_residual.ensures.1
    (λ size p rest is. subst (λ (e : Entry). IsOverLimit c.args.outputs.now.options (entries_of_last c.args.outputs.now.last ++ e ∷ []))
    (first_entry c.args.stream.now.left.placed p rest (key_of c.in-Some.key) c.value.result.now is c.in-Some.ensures c.value.ensures)
    (c.in_err-take.ensures.large size))

pub returns-clause-ok : goal.returns-clause-ok
returns-clause-ok g c = λ p rest is.
    let e : Entry = entry_of (key_of c.in-Some.key) c.value.result.now in
    let f : Follows c.args.stream.now.before e = follows_says c.args.stream.now.before e (sym (c.is_followed_by.ensures c.in-Some.ensures) ∙ c.if-not-is_followed_by.false) in
    stepped g.S.Shelf.honest c.args.job.now c.args.stream.now.left.placed p rest c.args.stream.now.before c.pass.new.self.before c.args.outputs.now c.take.new.self c.pass.new.self.left c.pass.result
    (key_of c.in-Some.key) c.value.result.now c.is_kept-kept.result c.floor-floor.result c.args.ranges.now is c.in-Some.ensures c.value.ensures f
    (c.is_kept-kept.ensures c.args.stream.now.before (c.shadows-shadowed.ensures c.in-Some.ensures)) c.floor-floor.ensures c.requires.ranges
    c.in_ok-take.ensures.ok (c.pass.ensures.before (key_of c.in-Some.key) c.in-Some.ensures) c.pass.ensures.ok

pub returns-clause-told : goal.returns-clause-told
returns-clause-told g c =
    puts_after c.args.outputs.now.put c.take.new.self.put c.args.shelf.now c.take.new.shelf c.pass.new.shelf c.take.ensures.told c.pass.ensures.told

pub returns-clause-tables : goal.returns-clause-tables
returns-clause-tables g c =
    ok_if c.pass.result
    (tables_after c.args.outputs.now.tables c.take.new.self.tables c.args.shelf.now c.take.new.shelf c.pass.new.shelf c.in_ok-take.ensures.tables c.pass.ensures.told)

pub returns-then-not-is_followed_by-clause-stands : goal.returns-then-not-is_followed_by-clause-stands
returns-then-not-is_followed_by-clause-stands g c = λ p rest is.
    one_none c.args.outputs.now.options (entries_of_last c.args.outputs.now.last) (IsTime c.args.outputs.now (is_kept c.args.job.now.floor c.args.job.now.ranges c.args.stream.now.before p.1) p.1)
    c.args.outputs.now.put c.args.outputs.now.put c.args.shelf.now c.args.shelf.now refl (becomes_same c.args.shelf.now)

pub returns-in_err-take-clause-stands : goal.returns-in_err-take-clause-stands
returns-in_err-take-clause-stands g c =
    err_if c.from_residual.result (λ p rest is.
    let m : Made = c.args.outputs.now in
    let k = key_of c.in-Some.key in
    let v = c.value.result.now in
    let own : entry_of k v ≡ p.1 = first_entry c.args.stream.now.left.placed p rest k v is c.in-Some.ensures c.value.ensures in
    one_when m.options m.options (entries_of_last m.last) (IsTime m c.is_kept-kept.result (entry_of k v)) (IsTime m (is_kept c.args.job.now.floor c.args.job.now.ranges c.args.stream.now.before p.1) p.1)
    m.put c.take.new.self.put c.args.shelf.now c.take.new.shelf refl
    (time_of c.args.job.now m c.args.stream.now.before k v c.is_kept-kept.result c.floor-floor.result c.args.ranges.now p.1 own
    (c.is_kept-kept.ensures c.args.stream.now.before (c.shadows-shadowed.ensures c.in-Some.ensures)) c.floor-floor.ensures c.requires.ranges)
    c.in_err-take.ensures.stands)

pub returns-clause-stands : goal.returns-clause-stands
returns-clause-stands g c =
    err_if c.pass.result (λ p rest is.
    let m : Made = c.args.outputs.now in
    let k = key_of c.in-Some.key in
    let v = c.value.result.now in
    let own : entry_of k v ≡ p.1 = first_entry c.args.stream.now.left.placed p rest k v is c.in-Some.ensures c.value.ensures in
    one_after m.options (entries_of_last m.last) (IsTime m (is_kept c.args.job.now.floor c.args.job.now.ranges c.args.stream.now.before p.1) p.1) m.put c.take.new.self.put c.args.shelf.now c.take.new.shelf c.pass.new.shelf c.pass.ensures.told
    (one_when m.options m.options (entries_of_last m.last) (IsTime m c.is_kept-kept.result (entry_of k v)) (IsTime m (is_kept c.args.job.now.floor c.args.job.now.ranges c.args.stream.now.before p.1) p.1)
    m.put c.take.new.self.put c.args.shelf.now c.take.new.shelf refl
    (time_of c.args.job.now m c.args.stream.now.before k v c.is_kept-kept.result c.floor-floor.result c.args.ranges.now p.1 own
    (c.is_kept-kept.ensures c.args.stream.now.before (c.shadows-shadowed.ensures c.in-Some.ensures)) c.floor-floor.ensures c.requires.ranges)
    (taken_one c.args.shelf.now c.take.new.shelf m c.take.new.self c.is_kept-kept.result (entry_of k v) c.requires.good c.in_ok-take.ensures.ok c.in_ok-take.ensures.tables)))

pub returns-clause-refused : goal.returns-clause-refused
returns-clause-refused g c = c.pass.ensures.refused c.args.outputs.now.options
