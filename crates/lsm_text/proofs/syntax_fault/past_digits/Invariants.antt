use Rattle.std.proofs.Common.{length}
use Rattle.lsm_text.proofs.SyntaxFaultLaws.{GoesOn}
use Rattle.lsm_text.specs.declared.form.Form.TheVariants.{Hex}
use Rattle.lsm_text.proofs.syntax_fault.past_digits.Given as goal

abbrev pub invariant-digits : goal.invariant-digits
invariant-digits l = GoesOn Hex l.fn.word l.rest

abbrev pub decreases-digits : goal.decreases-digits
decreases-digits l = length l.rest
