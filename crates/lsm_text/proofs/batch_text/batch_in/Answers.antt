use Rattle.std.proofs.Common.{◌≡◌, ◌+◌, ◌∷◌, [], ◌++◌, refl, rules}
use Rattle.lsm_batch.specs.declared.write.Write.{Write}
use Rattle.lsm_text.specs.BatchText.{IsWriteLine}
use Rattle.lsm_text.proofs.BatchLaws.{read_bad, read_more}
use Rattle.lsm_text.proofs.batch_text.batch_in.Goals as goal

pub returns-in_default-clause-refused : goal.returns-in_default-clause-refused
returns-in_default-clause-refused c =
    let none : (w : Write) → IsWriteLine c.args.form c.first_line.result.0.now w → ⊥ = search rules in
    read_bad c.args.form c.args.text.now c.lines.count (c.lines.count + 1) c.lines.batch c.lines.rest.now c.first_line.result.0.now c.first_line.result.1.now
    c.lines.invariant refl c.first_line.ensures.lines none

pub lines-preserved : goal.lines-preserved
lines-preserved c =
    let grown : c.push_write.new.batch ≡ c.lines.batch ++ (c.in-Some.write ∷ []) = search rules in
    let spells : IsWriteLine c.args.form c.first_line.result.0.now c.in-Some.write = rw c.in-Some.is at c.in_ok-write.ensures.some in
    rw grown (read_more c.args.form c.args.text.now c.lines.count c.lines.batch c.lines.rest.now c.first_line.result.0.now c.first_line.result.1.now c.in-Some.write
    c.lines.invariant c.first_line.ensures.lines c.first_line.ensures.shorter spells)
