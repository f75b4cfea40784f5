use Rattle.std.proofs.Common.{◌≡◌, ◌∙◌, ℕ, List, length, map, sym, ap, subst, arith}
use Rattle.std.specs.List.Sorted.{IsNonDecreasing}
use Rattle.std.proofs.lemmas.List.{length-map}
use Rattle.lsm_codec.specs.Lists.{Has}
use Rattle.lsm_table.specs.Registry.{Table}
use Rattle.lsm_verify.specs.Settled.{Adds, AreSequences, NamesUnsettled, OneBelow}
use Rattle.lsm_version.specs.Versions.{file_of, files_of, level_in}
use Rattle.lsm_verify.specs.declared.sequences.Sequences.{Sequences}
use Rattle.lsm_version.proofs.CallerLemmas.{level_in-map}
use Rattle.lsm_verify.proofs.LevelReads.{has_at, length_beside}
use Rattle.lsm_version.proofs.CallerLemmas.{has_files}
use Rattle.lsm_verify.proofs.ReachingFiles.{settled_before}
use Rattle.lsm_verify.proofs.UnsettledFiles.{level_sequences_at, levels_long, sequences_at, some_more, some_whole}
use Rattle.lsm_verify.proofs.unsettled.compare_level.Goals as goal

pub bounds-sequences-level : goal.bounds-sequences-level
bounds-sequences-level g c = let long = levels_long (λ l. l.items) (λ l. l.items) c.args.levels.now c.args.sequences.now c.requires.beside in let lt = c.requires.inside in omega arith

pub bounds-own-index : goal.bounds-own-index
bounds-own-index g c =
    let beside = level_sequences_at (λ l. l.items) (λ l. l.items) c.args.levels.now c.args.sequences.now c.args.level c.index-levels-level.result c.index-sequences-level.result
    c.requires.beside c.requires.inside c.index-levels-level.is c.index-sequences-level.is in
    let long = length_beside c.index-levels-level.result.items c.index-sequences-level.result.items beside in
    let lt = c.loop-index-test.true in
    let a = ap length c.as_slice-tables.ensures.value in
    let b = ap length c.as_slice-own.ensures.value in omega arith

pub compare_below-requires-clause-own : goal.compare_below-requires-clause-own
compare_below-requires-clause-own g c κs within =
    let beside = level_sequences_at (λ l. l.items) (λ l. l.items) c.args.levels.now c.args.sequences.now c.args.level c.index-levels-level.result c.index-sequences-level.result
    c.requires.beside c.requires.inside c.index-levels-level.is c.index-sequences-level.is in
    let here : AreSequences c.as_slice-tables.result.now c.as_slice-own.result.now =
    subst (λ (ts : List Table). AreSequences ts c.as_slice-own.result.now) (sym c.as_slice-tables.ensures.value)
    (subst (λ (ss : List Sequences). AreSequences c.index-levels-level.result.items ss) (sym c.as_slice-own.ensures.value) beside) in
    sequences_at c.as_slice-tables.result.now c.as_slice-own.result.now c.loop-index.index c.index-tables-index.result _ here c.loop-index-test.true c.index-tables-index.is

pub reaching_tables-requires-clause-beside : goal.reaching_tables-requires-clause-beside
reaching_tables-requires-clause-beside g c κs within =
    let beside = level_sequences_at (λ l. l.items) (λ l. l.items) c.args.levels.now c.args.sequences.now c.args.level c.index-levels-level.result c.index-sequences-level.result
    c.requires.beside c.requires.inside c.index-levels-level.is c.index-sequences-level.is in
    subst (λ (ts : List Table). AreSequences ts c.as_slice-own.result.now) (sym c.as_slice-tables.ensures.value)
    (subst (λ (ss : List Sequences). AreSequences c.index-levels-level.result.items ss) (sym c.as_slice-own.ensures.value) beside)

pub first_level-first-requires-clause-ascending : goal.first_level-first-requires-clause-ascending
first_level-first-requires-clause-ascending g c κs within = subst IsNonDecreasing (sym c.as_slice.ensures.value) c.in_ok-reaching.ensures.ascending

pub compare_below-requires-clause-first : goal.compare_below-requires-clause-first
compare_below-requires-clause-first g c κs within = (c.first_level-first.ensures.near.0, (let near = c.first_level-first.ensures.near.1 in let lt = c.requires.inside in omega arith))

pub compare_below-requires-clause-settled : goal.compare_below-requires-clause-settled
compare_below-requires-clause-settled g c κs within =
    let levels = map (λ l. l.items) c.args.levels.now in
    let tables = c.as_slice-tables.result.now in
    let table = c.index-tables-index.result in
    let here : tables ≡ level_in levels c.args.level = c.as_slice-tables.ensures.value ∙ sym (level_in-map (λ l. l.items) c.args.levels.now c.args.level c.index-levels-level.result c.requires.inside c.index-levels-level.is) in
    let names : NamesUnsettled c.args.level (level_in levels c.args.level) c.as_slice.result.now =
    subst (λ (ts : List Table). NamesUnsettled c.args.level ts c.as_slice.result.now) here
    (subst (λ (ns : List ℕ). NamesUnsettled c.args.level tables ns) (sym c.as_slice.ensures.value) c.in_ok-reaching.ensures.named) in
    settled_before c.args.level c.first_level-first.result levels table c.as_slice.result.now c.first_level-first.ensures.near.1 c.first_level-first.ensures.own names
    (subst (λ (ts : List Table). Has (files_of c.args.level ts) (file_of c.args.level table)) here
    (has_files c.args.level tables table (has_at tables c.loop-index.index table c.loop-index-test.true c.index-tables-index.is)))

pub loop-index-preserved : goal.loop-index-preserved
loop-index-preserved g c =
    let levels = map (λ l. l.items) c.args.levels.now in
    let below : Adds (OneBelow (file_of c.args.level c.index-tables-index.result) c.args.level (length levels) levels) c.loop-index.numbers.items c.compare_below.new.numbers.items =
    subst (λ (n : ℕ). Adds (OneBelow (file_of c.args.level c.index-tables-index.result) c.args.level n levels) c.loop-index.numbers.items c.compare_below.new.numbers.items)
    (sym (length-map c.args.levels.now (λ l. l.items))) c.in_ok-compare_below.ensures in
    some_more c.args.level c.as_slice-tables.result.now levels c.loop-index.index c.index-tables-index.result c.args.numbers.now.items c.loop-index.numbers.items c.compare_below.new.numbers.items
    c.loop-index-test.true c.index-tables-index.is c.loop-index.invariant below

pub returns : goal.returns
returns g c =
    some_whole c.args.level c.as_slice-tables.result.now (level_in (map (λ l. l.items) c.args.levels.now) c.args.level) (map (λ l. l.items) c.args.levels.now) c.loop-index.index
    c.args.numbers.now.items c.loop-index.numbers.items c.loop-index-test.false
    (c.as_slice-tables.ensures.value ∙ sym (level_in-map (λ l. l.items) c.args.levels.now c.args.level c.index-levels-level.result c.requires.inside c.index-levels-level.is)) c.loop-index.invariant
