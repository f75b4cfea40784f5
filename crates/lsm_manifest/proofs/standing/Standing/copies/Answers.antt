use Rattle.lsm_manifest.specs.Level.{level_of, all_of}
use Rattle.lsm_manifest.proofs.LevelLaws.{copies_skip, copies_take, copies_end}
use Rattle.lsm_manifest.proofs.standing.Standing.copies.Goals as goal

pub loop-added-preserved-then-added-level : goal.loop-added-preserved-then-added-level
loop-added-preserved-then-added-level c =
    copies_skip c.args.level c.loop-added.files.items (level_of c.args.level (all_of c.args.self.now)) c.loop-added.added-iterator c.next.new.self c.in-Some.added.now c.in-Some.ensures.steps c.if-added-level.true c.loop-added.invariant

pub loop-added-preserved : goal.loop-added-preserved
loop-added-preserved c =
    copies_take c.args.level c.loop-added.files.items c.push.new.self.items (level_of c.args.level (all_of c.args.self.now)) c.loop-added.added-iterator c.next.new.self c.in-Some.added.now c.in_ok-try_copy.field-0
    c.in-Some.ensures.steps c.if-added-level.false c.in_ok-try_copy.ensures c.in_ok-push.ensures.items c.loop-added.invariant

pub returns-clause-files : goal.returns-clause-files
returns-clause-files c =
    copies_end c.args.level c.loop-added.files.items (level_of c.args.level (all_of c.args.self.now)) c.loop-added.added-iterator c.in-None.ensures.steps.0 c.loop-added.invariant
