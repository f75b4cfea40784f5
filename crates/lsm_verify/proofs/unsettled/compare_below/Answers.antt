use Rattle.std.proofs.Common.{◌≡◌, ◌∙◌, ℕ, List, length, map, sym, subst, arith}
use Rattle.lsm_table.specs.Registry.{Table}
use Rattle.lsm_version.specs.Reads.{IsRising}
use Rattle.lsm_verify.specs.Settled.{Adds, AreSequences, OneBelow}
use Rattle.lsm_version.specs.Versions.{file_of}
use Rattle.lsm_verify.specs.declared.sequences.Sequences.{Sequences}
use Rattle.lsm_version.proofs.CallerLemmas.{level_in-map}
use Rattle.lsm_verify.proofs.UnsettledFiles.{below_more, below_start, level_sequences_at, levels_long}
use Rattle.lsm_verify.proofs.unsettled.compare_below.Goals as goal

pub loop-deeper-init : goal.loop-deeper-init
loop-deeper-init g c = below_start (file_of c.args.level c.args.table.now) c.args.level c.args.first (map (λ l. l.items) c.args.levels.now) c.args.numbers.now.items c.requires.settled

pub bounds-sequences-deeper : goal.bounds-sequences-deeper
bounds-sequences-deeper g c = let long = levels_long (λ l. l.items) (λ l. l.items) c.args.levels.now c.args.sequences.now c.requires.beside in let lt = c.loop-deeper-test.true in omega arith

pub compare_with_level-requires-clause-beside : goal.compare_with_level-requires-clause-beside
compare_with_level-requires-clause-beside g c κs within =
    subst (λ (ts : List Table). AreSequences ts c.as_slice-its.result.now) (sym c.as_slice-tables.ensures.value)
    (subst (λ (ss : List Sequences). AreSequences c.index-levels-deeper.result.items ss) (sym c.as_slice-its.ensures.value)
    (level_sequences_at (λ l. l.items) (λ l. l.items) c.args.levels.now c.args.sequences.now c.loop-deeper.deeper c.index-levels-deeper.result c.index-sequences-deeper.result
    c.requires.beside c.loop-deeper-test.true c.index-levels-deeper.is c.index-sequences-deeper.is))

pub compare_with_level-requires-clause-rising : goal.compare_with_level-requires-clause-rising
compare_with_level-requires-clause-rising g c κs within = λ pos.
    subst IsRising (level_in-map (λ l. l.items) c.args.levels.now c.loop-deeper.deeper c.index-levels-deeper.result c.loop-deeper-test.true c.index-levels-deeper.is ∙ sym c.as_slice-tables.ensures.value)
    (c.requires.rising c.loop-deeper.deeper pos)

pub loop-deeper-preserved : goal.loop-deeper-preserved
loop-deeper-preserved g c =
    below_more (file_of c.args.level c.args.table.now) c.args.level c.loop-deeper.deeper (map (λ l. l.items) c.args.levels.now) c.as_slice-tables.result.now
    c.args.numbers.now.items c.loop-deeper.numbers.items c.compare_with_level.new.numbers.items (let le = c.requires.first.0 in let from = c.loop-deeper.auto.deeper in omega arith)
    (level_in-map (λ l. l.items) c.args.levels.now c.loop-deeper.deeper c.index-levels-deeper.result c.loop-deeper-test.true c.index-levels-deeper.is ∙ sym c.as_slice-tables.ensures.value)
    c.loop-deeper.invariant c.in_ok-compare_with_level.ensures

pub returns : goal.returns
returns g c =
    let end : c.loop-deeper.deeper ≡ length c.args.levels.now = (let ge = c.loop-deeper-test.false in let le = c.loop-deeper.auto.deeper-end c.requires.first.1 in omega arith) in
    subst (λ (n : ℕ). Adds (OneBelow (file_of c.args.level c.args.table.now) c.args.level n (map (λ l. l.items) c.args.levels.now)) c.args.numbers.now.items c.loop-deeper.numbers.items) end c.loop-deeper.invariant
