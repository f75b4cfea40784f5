use Rattle.std.proofs.Common.{◌∙◌, refl, inl}
use Rattle.lsm_cmd_shell.proofs.ScanTalk.{read_stops, said_all, said_none, said_some}
use Rattle.lsm_cmd_shell.proofs.replying.say_scan.Goals as goal

pub returns-in-Ok : goal.returns-in-Ok
returns-in-Ok g c = λ desk.
    let version = c.deref.ensures ∙ c.current-id.ensures.version in
    said_all g.S.Shelf.honest c.args.form c.args.bounds.now c.args.limit c.args.state.now desk _ c.args.shelf.now c.print_version.new.shelf c.say.result _ _ _ version c.in-Ok.ensures.printed c.print_version.ensures.told c.say.ensures

pub returns-in-Err-Write : goal.returns-in-Err-Write
returns-in-Err-Write g c = λ desk.
    let none = said_none g.S.Shelf.honest c.args.form c.args.bounds.now c.args.limit c.args.state.now desk c.args.shelf.now c.print_version.new.shelf c.print_version.ensures.told in
    (none.0, none.1, tt)

pub returns-in-Err-NoMemory : goal.returns-in-Err-NoMemory
returns-in-Err-NoMemory g c = λ desk.
    let version = c.deref.ensures ∙ c.current-id.ensures.version in
    let printed = rw c.in-Err-NoMemory.field-0-is at c.in-Err-NoMemory.ensures.printed in
    said_some g.S.Shelf.honest c.args.form c.args.bounds.now c.args.limit c.args.state.now desk _ c.args.shelf.now c.print_version.new.shelf _ _ c.say_failed.result _ _ _ version printed (λ x. x)
    c.print_version.ensures.told (inl refl) c.say_failed.ensures

pub returns-in-Err-Read : goal.returns-in-Err-Read
returns-in-Err-Read g c = λ desk.
    let version = c.deref.ensures ∙ c.current-id.ensures.version in
    let printed = rw c.in-Err-Read.field-0-is at c.in-Err-Read.ensures.printed in
    let fault = rw c.in-Err-Read.field-0-is at c.in-Err-Read.ensures.fault in
    let said = c.say_stopped.ensures in
    said_some g.S.Shelf.honest c.args.form c.args.bounds.now c.args.limit c.args.state.now desk _ c.args.shelf.now c.print_version.new.shelf _ said.0 c.say_stopped.result _ _ _ version printed (λ x. x)
    c.print_version.ensures.told (read_stops g.S.Shelf.honest c.args.form said.0 c.args.shelf.now c.print_version.new.shelf c.in-Err-Read.fault fault said.1) said.2
