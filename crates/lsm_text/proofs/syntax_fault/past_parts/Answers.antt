use Rattle.lsm_text.proofs.SyntaxFaultLaws.{one_part, stuck_part}
use Rattle.lsm_text.proofs.syntax_fault.past_parts.Goals as goal

pub returns-in_default : goal.returns-in_default
returns-in_default c = stuck_part c.args.word.now c.parts.rest.now c.parts.invariant c.in_default.ensures.none

pub parts-preserved : goal.parts-preserved
parts-preserved c =
    let part = c.in-Some.ensures.some in
    one_part c.args.word.now c.parts.rest.now part.0 c.in-Some.after.now _ c.parts.invariant part.1 part.2
