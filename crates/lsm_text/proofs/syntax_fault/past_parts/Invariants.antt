use Rattle.std.proofs.Common.{length}
use Rattle.lsm_text.proofs.SyntaxFaultLaws.{GoesOn}
use Rattle.lsm_text.specs.declared.form.Form.TheVariants.{Text}
use Rattle.lsm_text.proofs.syntax_fault.past_parts.Given as goal

abbrev pub invariant-parts : goal.invariant-parts
invariant-parts l = GoesOn Text l.fn.word l.rest

abbrev pub decreases-parts : goal.decreases-parts
decreases-parts l = length l.rest
