use Rattle.std.proofs.Common.{◌≡◌, ◌∙◌, get_or, false, sym, ap, subst, arith}
use Rattle.lsm_codec.specs.Keys.{UserKey}
use Rattle.lsm_version.specs.Reads.{begins_by, reaches}
use Rattle.lsm_version.specs.Versions.{file_of}
use Rattle.lsm_verify.proofs.LevelReads.{length_beside}
use Rattle.lsm_verify.proofs.UnsettledFiles.{against_start, against_more, against_rest, against_whole, sequences_at}
use Rattle.lsm_verify.proofs.unsettled.compare_with_level.Goals as goal

pub loop-index-init : goal.loop-index-init
loop-index-init g c = against_start c.args.level c.args.deeper c.args.table.now c.args.tables.now c.first_of-first.result c.args.numbers.now.items
    (λ j d lt. subst (λ (k : UserKey). reaches (get_or c.args.tables.now j d) k ≡ false) c.low_of.ensures (c.first_of-first.ensures.before j d lt))

pub returns-then-not-begins_by : goal.returns-then-not-begins_by
returns-then-not-begins_by g c =
    against_rest c.args.level c.args.deeper c.args.table.now c.args.tables.now c.loop-index.index c.index-tables-index.result c.args.numbers.now.items c.loop-index.numbers.items
    (c.requires.rising (omega arith)) c.loop-index-test.true c.index-tables-index.is (ap (begins_by c.index-tables-index.result) (sym c.high_of-end.ensures) ∙ sym c.begins_by.ensures ∙ c.if-not-begins_by.true) c.loop-index.invariant

pub bounds-sequences-index : goal.bounds-sequences-index
bounds-sequences-index g c = let long = length_beside c.args.tables.now c.args.sequences.now c.requires.beside in let lt = c.loop-index-test.true in omega arith

pub compare-requires-clause-its : goal.compare-requires-clause-its
compare-requires-clause-its g c κs within =
    sequences_at c.args.tables.now c.args.sequences.now c.loop-index.index c.index-tables-index.result _ c.requires.beside c.loop-index-test.true c.index-tables-index.is

pub loop-index-preserved : goal.loop-index-preserved
loop-index-preserved g c =
    against_more (file_of c.args.level c.args.table.now) c.args.deeper c.args.tables.now c.loop-index.index c.index-tables-index.result c.args.numbers.now.items c.loop-index.numbers.items c.compare.new.numbers.items
    c.loop-index-test.true c.index-tables-index.is c.loop-index.invariant c.in_ok-compare.ensures

pub returns : goal.returns
returns g c = against_whole (file_of c.args.level c.args.table.now) c.args.deeper c.args.tables.now c.loop-index.index c.args.numbers.now.items c.loop-index.numbers.items c.loop-index-test.false c.loop-index.invariant
