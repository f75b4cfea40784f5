use Rattle.std.proofs.Common.{rules}
use Rattle.lsm_script.proofs.WordLaws.{parted_other, parted_start, pushed_end, pushed_space}
use Rattle.lsm_script.proofs.words.words_in.Goals.{then-line-i-eq32+in_ok-push, else-line-i-eq32}
use Rattle.lsm_script.proofs.words.words_in.Goals as goal

pub loop-i-init : goal.loop-i-init
loop-i-init c = rw c.new-words.ensures.items (parted_start c.args.line.now)

pub loop-i-preserved : goal.loop-i-preserved
loop-i-preserved c = elim c.if-line-i-eq32.branch [
  | then-line-i-eq32+in_ok-push w ↦
      rw (w.start-is, w.words-is, w.in_ok-push.ensures.items)
      (pushed_space c.args.line.now c.loop-i.start c.loop-i.i c.loop-i.words.items _ c.loop-i.invariant (search rules) (search rules) (search rules))
  | else-line-i-eq32 w ↦
      rw (w.start-is, w.words-is) (parted_other c.args.line.now c.loop-i.start c.loop-i.i _ c.loop-i.invariant (search rules) (search rules))
]

pub returns : goal.returns
returns c =
    rw c.in_ok-push-2.ensures.items (pushed_end c.args.line.now c.loop-i.start c.loop-i.i c.loop-i.words.items _ c.loop-i.invariant (search rules) (search rules))
