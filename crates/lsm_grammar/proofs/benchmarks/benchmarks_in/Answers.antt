use Rattle.std.proofs.Common.{◌∷◌, ◌<◌, length, length-append, ap, sym, arith}
use Rattle.lsm_grammar.proofs.BenchmarkLaws.{bad_first, bad_last, named_more}
use Rattle.lsm_text.proofs.CallerLemmas.{parts_take}
use Rattle.lsm_grammar.proofs.benchmarks.benchmarks_in.Goals as goal

pub returns-in_default-named-clause-none : goal.returns-in_default-named-clause-none
returns-in_default-named-clause-none c =
    bad_first c.args.word.now c.names.found.items c.names.rest.now c.in-Some.name.now c.in-Some.after.now c.names.invariant c.in-Some.ensures
    c.in_default-named.ensures.none

pub names-smaller : goal.names-smaller
names-smaller c =
    let name = c.in-Some.name.now in
    let after = c.in-Some.after.now in
    let parts = parts_take 44 c.names.rest.now (name, after) (sym c.in-Some.ensures) in
    let shorter : length after < length c.names.rest.now = omega (arith, ap length parts.0, length-append name (44 ∷ after)) in
    shorter

pub names-preserved : goal.names-preserved
names-preserved c =
    rw c.in_ok-push.ensures.items
    (named_more c.args.word.now c.names.found.items c.names.rest.now c.in-Some.name.now c.in-Some.after.now c.in-Some-named.benchmark c.names.invariant
    c.in-Some.ensures c.in-Some-named.ensures.some)

pub returns-in_default-named-2-clause-none : goal.returns-in_default-named-2-clause-none
returns-in_default-named-2-clause-none c =
    bad_last c.args.word.now c.names.found.items c.names.rest.now c.names.invariant c.in_default.ensures c.in_default-named-2.ensures.none
