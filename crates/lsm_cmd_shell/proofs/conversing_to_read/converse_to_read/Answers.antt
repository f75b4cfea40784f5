use Rattle.std.proofs.Common.{◌≡◌, ℕ, Bool, List, Option, IfErr, subst}
use Rattle.std.specs.Prelude.{Result}
use Rattle.lsm_shelf.specs.Asked.{Asked}
use Rattle.lsm_shelf.specs.Stored.{Stored}
use Rattle.lsm_shelf.specs.Told.{Told}
use Rattle.lsm_shelf.specs.declared.shelf_fault.ShelfFault.{ShelfFault}
use Rattle.lsm_text.specs.declared.form.Form.{Form}
use Rattle.lsm_cmd_shell.specs.Reading.{IsReadingFault}
use Rattle.lsm_cmd_shell.specs.declared.shell_fault.ShellFault.{ShellFault}
use Rattle.lsm_cmd_shell.proofs.conversing_to_read.converse_to_read.Goals as goal

-- the same of an input that is this one
fault_of : (There : ℕ → List ℕ → Type 0) (Refused : Asked → ShelfFault → Type 0)
    (honest : Type 0) (form : Form) (bails : Bool) (i j : Option (List ℕ)) (was is : Told)
    (old new : Option (List ℕ)) (done : Result (Unit {0}) ShellFault) → i ≡ j
    → IfErr done (λ e. IsReadingFault There Refused honest form bails i e was is old new)
    → IfErr done (λ e. IsReadingFault There Refused honest form bails j e was is old new)
fault_of There Refused honest form bails i j was is old new done same h =
    subst (λ (k : Option (List ℕ)). IfErr done
    (λ e. IsReadingFault There Refused honest form bails k e was is old new)) same h

pub returns-clause-fault : goal.returns-clause-fault
returns-clause-fault g c =
    fault_of
    (Stored g.row.S-Receipt.Denot (g.S.Shelf.is_of (g.S.Shelf.told c.args.shelf).place)
    g.S.Receipt.TableReceipt.number g.S.Receipt.TableReceipt.image)
    (g.S.Shelf.refuses (g.S.Shelf.told c.args.shelf).place) g.S.Shelf.honest c.args.form
    c.args.bails c.in-Ok.lines.left (g.I.Read.remaining c.args.input)
    (g.S.Shelf.told c.args.shelf) (g.S.Shelf.told c.converse_as.result.1)
    (g.O.Write.contents c.args.out.now) (g.O.Write.contents c.converse_as.new.out)
    c.converse_as.result.0 c.in-Ok.ensures.left c.converse_as.ensures.fault
