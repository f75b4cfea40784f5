use Rattle.std.proofs.Common.{◌≡◌, ℕ, Bool, List, Option, IfErr, subst, sym}
use Rattle.std.specs.Prelude.{Result}
use Rattle.lsm_shelf.specs.Asked.{Asked}
use Rattle.lsm_shelf.specs.Stored.{Stored}
use Rattle.lsm_shelf.specs.Told.{Told}
use Rattle.lsm_shelf.specs.declared.shelf_fault.ShelfFault.{ShelfFault}
use Rattle.lsm_text.specs.declared.form.Form.{Form}
use Rattle.lsm_opening.specs.Reading.{OnlyReads}
use Rattle.lsm_cmd_shell.specs.Reading.{IsReadingFault}
use Rattle.lsm_cmd_shell.specs.declared.shell_fault.ShellFault.{ShellFault}
use Rattle.lsm_cmd_shell.proofs.conversing_to_read.converse_as.Goals as goal

-- the same said of equal things
fault_same : (There : ℕ → List ℕ → Type 0) (Refused : Asked → ShelfFault → Type 0)
    (honest : Type 0) (form : Form) (bails : Bool) (input : Option (List ℕ))
    (was now is end : Told) (old new : Option (List ℕ)) (done : Result (Unit {0}) ShellFault)
    → was ≡ now → is ≡ end
    → IfErr done (λ e. IsReadingFault There Refused honest form bails input e was is old new)
    → IfErr done (λ e. IsReadingFault There Refused honest form bails input e now end old new)
fault_same There Refused honest form bails input was now is end old new done before after h =
    subst (λ (t : Told). IfErr done
    (λ e. IsReadingFault There Refused honest form bails input e now t old new)) after
    (subst (λ (t : Told). IfErr done
    (λ e. IsReadingFault There Refused honest form bails input e t is old new)) before h)

reads_same : (was now is end : Told) → was ≡ now → is ≡ end → OnlyReads was is
    → OnlyReads now end
reads_same was now is end before after h =
    subst (λ (t : Told). OnlyReads now t) after (subst (λ (t : Told). OnlyReads t is) before h)

pub returns-clause-fault : goal.returns-clause-fault
returns-clause-fault g c =
    fault_same
    (Stored g.row.S-Receipt.Denot (g.S.Shelf.is_of g.N.Naming.place)
    g.S.Receipt.TableReceipt.number g.S.Receipt.TableReceipt.image)
    (g.S.Shelf.refuses g.N.Naming.place) g.S.Shelf.honest c.args.form c.args.bails
    c.args.lines.now.left c.of-shelf.result (g.S.Shelf.told c.args.shelf)
    c.converse_named-done.new.shelf (g.S.Shelf.told c.into_shelf.result)
    (g.O.Write.contents c.args.out.now) (g.O.Write.contents c.converse_named-done.new.out)
    c.converse_named-done.result c.of-shelf.ensures (sym c.into_shelf.ensures.told)
    c.converse_named-done.ensures.fault

pub returns-clause-reads : goal.returns-clause-reads
returns-clause-reads g c =
    reads_same c.of-shelf.result (g.S.Shelf.told c.args.shelf) c.converse_named-done.new.shelf
    (g.S.Shelf.told c.into_shelf.result) c.of-shelf.ensures (sym c.into_shelf.ensures.told)
    c.converse_named-done.ensures.reads
