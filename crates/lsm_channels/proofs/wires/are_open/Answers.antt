use Rattle.std.proofs.Common.{◌+◌, ℤ, pos, true, subst, arith}
use Rattle.std.specs.Int.{w32}
use Rattle.std.proofs.lemmas.Int.{to_z_pos}
use borrow.Author.Count.{below_more, below_none}
use Rattle.lsm_channels.proofs.wires.are_open.Goals as goal

pub loop-number-init : goal.loop-number-init
loop-number-init g c = below_none (λ n. g.D.Descriptors.says (pos (c.args.first + n)) true)

pub loop-number-preserved : goal.loop-number-preserved
loop-number-preserved g c =
    below_more (λ n. g.D.Descriptors.says (pos (c.args.first + n)) true) c.loop-number.number c.loop-number.invariant
    (subst (λ (fd : ℤ). g.D.Descriptors.says fd true) (to_z_pos w32 (c.args.first + c.loop-number.number) (omega arith)) (rw c.if-not-is_open.false at c.is_open.ensures.said))

pub returns-clause-open : goal.returns-clause-open
returns-clause-open g c = λ all n below. c.loop-number.invariant n (omega (arith, below))
