use Rattle.lsm_journal.proofs.Loops.{metas_are}
use Rattle.lsm_journal.proofs.written.levels_of.Goals as goal

pub returns : goal.returns
returns g c =
    metas_are c.args.version.now.tables _ _ _ _ _ _ _ _ _ _ _ _ _ _ c.requires.seven
    c.in_ok-level_0.ensures c.in_ok-level_1.ensures c.in_ok-level_2.ensures c.in_ok-level_3.ensures c.in_ok-level_4.ensures c.in_ok-level_5.ensures c.in_ok-level_6.ensures
    c.level.ensures c.level-2.ensures c.level-3.ensures c.level-4.ensures c.level-5.ensures c.level-6.ensures c.level-7.ensures
