use Rattle.std.proofs.Common.{◌≡◌, ◌++◌, ◌∷◌, [], get_or, rules}
use Rattle.lsm_batch.specs.declared.write.Write.{Write}
use Rattle.lsm_text.specs.BatchText.{IsWriteLine}
use Rattle.lsm_script.proofs.CommandLaws.{no_batch, writes_all, writes_more}
use Rattle.lsm_script.proofs.WordLaws.{blank}
use Rattle.lsm_script.proofs.command_line.batch_of.Goals as goal

pub returns-in_default-clause-none : goal.returns-in_default-clause-none
returns-in_default-clause-none c =
    let bad : (w : Write) → IsWriteLine c.args.form (get_or c.args.words.now c.loop-word.word-index blank).now w → ⊥ = search rules in
    λ ws h. no_batch c.args.form c.args.words.now c.loop-word.word-index ws (search rules) bad h

pub loop-word-preserved : goal.loop-word-preserved
loop-word-preserved c =
    let grown : c.push_write.new.batch ≡ c.loop-word.batch ++ (c.in-Some.write ∷ []) = search rules in
    let spells : IsWriteLine c.args.form (get_or c.args.words.now c.loop-word.word-index blank).now c.in-Some.write = rw c.in-Some.is at c.in_ok-write.ensures.some in
    rw grown (writes_more c.args.form c.args.words.now c.loop-word.word-index c.loop-word.batch c.in-Some.write (search rules) c.loop-word.invariant spells)

pub returns-clause-some : goal.returns-clause-some
returns-clause-some c = writes_all c.args.form c.args.words.now c.loop-word.word-index c.loop-word.batch (search rules) c.loop-word.invariant
