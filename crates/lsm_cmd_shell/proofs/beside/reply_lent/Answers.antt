use Rattle.std.proofs.Common.{List, ℕ, sym, subst}
use Rattle.std.specs.Prelude.{IfOk}
use Rattle.lsm_state.specs.Held.{Held}
use Rattle.lsm_script.specs.Steps.{stage}
use Rattle.lsm_cmd_shell.specs.Batching.{standing}
use Rattle.lsm_cmd_shell.specs.Said.{IsTold, Said}
use Rattle.lsm_cmd_shell.specs.Talk.{IsLineOf, IsReplied}
use Rattle.lsm_cmd_shell.proofs.beside.reply_lent.Goals as goal

pub returns-clause-replied : goal.returns-clause-replied
returns-clause-replied g c =
    let H = g.S.Shelf.honest in
    let said = c.reply_next-said in
    let held = c.args.lines.now.line in
    subst (λ (h : Held). (line : List ℕ) → IsLineOf c.args.next held line → (text : Said)
    × IsReplied H c.args.form line text (standing (stage c.args.state.now c.args.desk.now c.args.shelf.now) c.args.begun.now) (standing (stage h said.new.desk said.new.shelf) said.new.begun)
    × IfOk said.result (IsTold text (g.O.Write.contents c.args.out.now) (g.O.Write.contents said.new.out))) (sym c.remember.ensures.same)
    (subst (λ (h : Held). (line : List ℕ) → IsLineOf c.args.next held line → (text : Said)
    × IsReplied H c.args.form line text (standing (stage h c.args.desk.now c.args.shelf.now) c.args.begun.now) (standing (stage said.new.state said.new.desk said.new.shelf) said.new.begun)
    × IfOk said.result (IsTold text (g.O.Write.contents c.args.out.now) (g.O.Write.contents said.new.out))) c.catch_up.ensures.same said.ensures)
