use Rattle.std.proofs.Common.{◌∷◌, inr, refl}
use Rattle.lsm_repair.specs.declared.merging.Merged.{Merged}
use Rattle.lsm_repair.proofs.MergeLaws.{merged_from, none_shuffled, unmerged_from}
use Rattle.lsm_repair.proofs.merging.merge_ordered.Goals as goal

pub returns-in-Some-clause-merged : goal.returns-in-Some-clause-merged
returns-in-Some-clause-merged c =
    merged_from c.build_from.result (λ (m : Merged). m.last) (λ (m : Merged). m.count)
    (λ (m : Merged). m.image) c.args.entries.now (c.in-Some.one.now ∷ c.in-Some.others.now)
    c.in-Some.ensures.cases.0 c.build_from.ensures.merged

pub returns-in-Some-clause-refused : goal.returns-in-Some-clause-refused
returns-in-Some-clause-refused c =
    unmerged_from c.build_from.result c.args.options c.args.entries.now
    (c.in-Some.one.now ∷ c.in-Some.others.now) c.in-Some.ensures.cases.0
    c.build_from.ensures.refused

pub returns-in-None-clause-refused : goal.returns-in-None-clause-refused
returns-in-None-clause-refused c =
    inr (refl, none_shuffled c.args.entries.now c.in-None.ensures.cases)
