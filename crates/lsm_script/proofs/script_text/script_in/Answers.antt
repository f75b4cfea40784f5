use Rattle.std.proofs.Common.{◌≡◌, ◌+◌, ◌∷◌, [], ◌++◌, refl, rules}
use Rattle.lsm_script.specs.declared.command.Command.{Command}
use Rattle.lsm_script.specs.CommandLine.{IsCommandLine}
use Rattle.lsm_text.specs.declared.form.Form.TheVariants.{Hex}
use Rattle.lsm_script.proofs.ScriptLaws.{read_bad, read_more, read_start}
use Rattle.lsm_script.proofs.script_text.script_in.Goals as goal

pub lines-init : goal.lines-init
lines-init c = rw c.new-commands.ensures.items (read_start c.args.text.now)

pub returns-in_default-clause-refused : goal.returns-in_default-clause-refused
returns-in_default-clause-refused c =
    let none : (w : Command) → IsCommandLine Hex c.first_line.result.0.now w → ⊥ = search rules in
    read_bad c.args.text.now c.lines.count (c.lines.count + 1) c.lines.commands.items c.lines.rest.now c.first_line.result.0.now c.first_line.result.1.now
    c.lines.invariant refl c.first_line.ensures.lines none

pub lines-preserved : goal.lines-preserved
lines-preserved c =
    let grown : c.push.new.self.items ≡ c.lines.commands.items ++ (c.in-Some.command ∷ []) = search rules in
    let spells : IsCommandLine Hex c.first_line.result.0.now c.in-Some.command = rw c.in-Some.is at c.in_ok-command.ensures.some in
    rw grown (read_more c.args.text.now c.lines.count c.lines.commands.items c.lines.rest.now c.first_line.result.0.now c.first_line.result.1.now c.in-Some.command
    c.lines.invariant c.first_line.ensures.lines c.first_line.ensures.shorter spells)
