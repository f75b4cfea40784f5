use Rattle.std.proofs.Common.{length}
use Rattle.lsm_script.proofs.ScriptLaws.{HasRead}
use Rattle.lsm_script.proofs.script_text.script_in.Given as goal

abbrev pub invariant-lines : goal.invariant-lines
invariant-lines l = HasRead l.text l.count l.commands.items l.rest

abbrev pub decreases-lines : goal.decreases-lines
decreases-lines l = length l.rest
