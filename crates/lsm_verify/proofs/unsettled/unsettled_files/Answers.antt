use Rattle.std.proofs.Common.{◌≤◌, ℕ, List, [], length, map, sym, subst}
use Rattle.std.proofs.lemmas.List.{length-map}
use Rattle.std.proofs.lemmas.List.Sorted.{IsNonDecreasingBy-from_sort}
use Rattle.lsm_verify.specs.Settled.{Adds, Both, EachBelow}
use Rattle.lsm_version.specs.Versions.{files_from}
use Rattle.lsm_verify.proofs.UnsettledFiles.{adds_sorted, each_none, each_more, each_whole}
use Rattle.lsm_verify.proofs.unsettled.unsettled_files.Goals as goal

pub loop-level-init : goal.loop-level-init
loop-level-init g c = subst (λ (ns : List ℕ). Adds (EachBelow 0 (map (λ l. l.items) c.args.levels.now)) [] ns) (sym c.new-numbers.ensures.items) (each_none (map (λ l. l.items) c.args.levels.now) [])

pub loop-level-preserved : goal.loop-level-preserved
loop-level-preserved g c =
    each_more c.loop-level.level (map (λ l. l.items) c.args.levels.now) [] c.loop-level.numbers.items c.compare_level.new.numbers.items c.loop-level.invariant c.in_ok-compare_level.ensures

pub returns-clause-unsettled : goal.returns-clause-unsettled
returns-clause-unsettled g c =
    let levels = map (λ l. l.items) c.args.levels.now in
    let past : length levels ≤ c.loop-level.level = subst (λ (n : ℕ). n ≤ c.loop-level.level) (sym (length-map c.args.levels.now (λ l. l.items))) c.loop-level-test.false in
    adds_sorted (Both (files_from 0 levels)) [] c.loop-level.numbers.items c.sort.new.self.items c.in_ok-sort.ensures.permutation
    (each_whole c.loop-level.level levels [] c.loop-level.numbers.items past c.loop-level.invariant)

pub returns-clause-ascending : goal.returns-clause-ascending
returns-clause-ascending g c = IsNonDecreasingBy-from_sort (λ n. n) c.sort.new.self.items c.in_ok-sort.ensures.sorted
