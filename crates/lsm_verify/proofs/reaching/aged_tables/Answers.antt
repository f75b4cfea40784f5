use Rattle.std.proofs.Common.{List, subst, arith}
use Rattle.std.proofs.lemmas.List.{take_all}
use Rattle.lsm_table.specs.Registry.{Table}
use Rattle.lsm_verify.specs.Settled.{AreAged}
use Rattle.lsm_version.specs.Versions.{files_of}
use Rattle.lsm_verify.proofs.LevelReads.{length_beside}
use Rattle.lsm_verify.proofs.ReachingFiles.{aged_more}
use Rattle.lsm_verify.proofs.UnsettledFiles.{sequences_at}
use Rattle.lsm_verify.proofs.reaching.aged_tables.Goals as goal

pub loop-index-init : goal.loop-index-init
loop-index-init g c = λ level F h. absurd h

pub bounds-sequences-index : goal.bounds-sequences-index
bounds-sequences-index g c = let long = length_beside c.args.tables.now c.args.sequences.now c.requires.beside in let lt = c.loop-index-test.true in omega arith

pub age_of-age-requires-clause-own : goal.age_of-age-requires-clause-own
age_of-age-requires-clause-own g c κs within =
    sequences_at c.args.tables.now c.args.sequences.now c.loop-index.index c.index-tables-index.result _ c.requires.beside c.loop-index-test.true c.index-tables-index.is

pub loop-index-preserved : goal.loop-index-preserved
loop-index-preserved g c = λ level.
    aged_more level c.args.tables.now c.loop-index.index c.index-tables-index.result c.age_of-age.result c.loop-index.aged.items c.push.new.self.items c.loop-index-test.true c.index-tables-index.is
    (c.age_of-age.ensures level) c.in_ok-push.ensures.items (c.loop-index.invariant level)

pub returns : goal.returns
returns g c = λ level. subst (λ (ts : List Table). AreAged (files_of level ts) c.loop-index.aged.items) (take_all c.loop-index.index c.args.tables.now c.loop-index-test.false) (c.loop-index.invariant level)
