use Rattle.std.proofs.Common.{◌≡◌, ◌∙◌, ℕ, List, IfErr, OnOk, ap, subst, sym}
use Rattle.lsm_shelf.specs.Told.{Told}
use Rattle.lsm_state.specs.Options.{limit_of}
use Rattle.lsm_state.specs.declared.options.Options.{Options}
use Rattle.lsm_opening.specs.Parts.{AreOf}
use Rattle.lsm_cmd_write.specs.Ingesting.{IsBroughtInUnder, IsFaultUnder}
use Rattle.lsm_cmd_write.proofs.QuickOutcomes.{under_done, under_fault, under_unopened}
use Rattle.lsm_cmd_write.proofs.ingesting.quick.bring_in_vouched.Goals as goal

pub open_quickly-opened-requires-clause-named : goal.open_quickly-opened-requires-clause-named
open_quickly-opened-requires-clause-named g c κs within =
    subst (λ (o : Options). AreOf o g.N.Naming.registry g.N.Boarded.board g.N.Historied.history
    c.args.parts) (sym c.requires.parts.options) c.requires.parts

pub open_quickly-opened-requires-clause-limit : goal.open_quickly-opened-requires-clause-limit
open_quickly-opened-requires-clause-limit g c κs within =
    c.requires.limit ∙ ap limit_of (sym c.requires.parts.options)

pub returns-in-Ok-clause-done : goal.returns-in-Ok-clause-done
returns-in-Ok-clause-done g c = λ was told.
    let Keeps : ℕ → List ℕ → Type 0 = g.S.Finding.keeps g.N.Naming.place in
    let r = c.args.recovered in
    let opened = rw c.in-Ok.is at (c.open_quickly-opened.ensures.opened was told) in
    subst (λ (is : Told). OnOk c.bring_in_opened-done.result (IsBroughtInUnder Keeps
    g.S.Shelf.honest g.V.Vouching.holds r.shape c.args.logs.now c.args.batch.now was is
    (g.O.Write.contents c.args.out.now) (g.O.Write.contents c.bring_in_opened-done.new.out)))
    (sym (c.into_shelf-in-Ok.ensures ∙ c.into_shelf.ensures.told))
    (under_done c.bring_in_opened-done.result Keeps g.S.Shelf.honest g.V.Vouching.holds _ r.shape
    c.args.logs.now c.args.batch.now c.in-Ok.state was _ _ _ _ c.requires.parts.options opened
    c.bring_in_opened-done.ensures.done)

pub returns-in-Ok-clause-fault : goal.returns-in-Ok-clause-fault
returns-in-Ok-clause-fault g c = λ was told.
    let Keeps : ℕ → List ℕ → Type 0 = g.S.Finding.keeps g.N.Naming.place in
    let Refused = g.S.Shelf.refuses g.N.Naming.place in
    let r = c.args.recovered in
    let opened = rw c.in-Ok.is at (c.open_quickly-opened.ensures.opened was told) in
    subst (λ (is : Told). IfErr c.bring_in_opened-done.result (λ e. IsFaultUnder Keeps Refused
    g.S.Shelf.honest g.V.Vouching.holds r.shape c.args.logs.now c.args.batch.now e was is))
    (sym (c.into_shelf-in-Ok.ensures ∙ c.into_shelf.ensures.told))
    (under_fault c.bring_in_opened-done.result Keeps Refused g.S.Shelf.honest g.V.Vouching.holds _
    r.shape c.args.logs.now c.args.batch.now c.in-Ok.state was _ _ c.requires.parts.options opened
    c.bring_in_opened-done.ensures.fault)

pub returns-in-Err-clause-fault : goal.returns-in-Err-clause-fault
returns-in-Err-clause-fault g c = λ was told.
    let Keeps : ℕ → List ℕ → Type 0 = g.S.Finding.keeps g.N.Naming.place in
    let Refused = g.S.Shelf.refuses g.N.Naming.place in
    let r = c.args.recovered in
    let fault = c.in-Err.fault in
    let refused = rw c.in-Err.is at (c.open_quickly-opened.ensures.refused was told) in
    subst (λ (is : Told). IsFaultUnder Keeps Refused g.S.Shelf.honest g.V.Vouching.holds r.shape
    c.args.logs.now c.args.batch.now fault was is)
    (sym (c.into_shelf-in-Err-2.ensures ∙ c.into_shelf-in-Err.ensures.told))
    (under_unopened Keeps Refused g.S.Shelf.honest g.V.Vouching.holds _ r.shape c.args.logs.now
    c.args.batch.now fault was _ c.requires.parts.options refused)
