use Rattle.std.proofs.Common.{ℕ, List, sym, subst}
use Rattle.lsm_verify.specs.Settled.{NamesReaching, NamesUnsettled}
use Rattle.lsm_verify.specs.declared.aged.Aged.{Aged}
use Rattle.lsm_verify.proofs.ReachingFiles.{none_named, reaching_named}
use Rattle.lsm_verify.proofs.reaching.reaching_tables.Goals as goal

pub returns-then-level-gt0-clause-named : goal.returns-then-level-gt0-clause-named
returns-then-level-gt0-clause-named g c =
    subst (λ (ns : List ℕ). NamesUnsettled c.args.level c.args.tables.now ns) (sym c.new.ensures.items) (none_named c.args.level c.args.tables.now c.if-level-gt0.true)

pub returns-clause-named : goal.returns-clause-named
returns-clause-named g c =
    let names : NamesReaching c.in_ok-aged.aged.items c.in_ok-numbers.numbers.items = subst (λ (ages : List Aged). NamesReaching ages c.in_ok-numbers.numbers.items) c.as_slice.ensures.value c.in_ok-numbers.ensures.named in
    reaching_named c.args.level c.args.tables.now c.in_ok-aged.aged.items c.in_ok-numbers.numbers.items (c.in_ok-aged.ensures.aged c.args.level) names
