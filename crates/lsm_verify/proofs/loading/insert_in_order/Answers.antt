use Rattle.std.proofs.Common.{◌≡◌, ◌≤◌, ◌∙◌, rules, arith, length, List, ap, sym, subst, take, drop, not}
use Rattle.std.specs.Prelude.{vec_len}
use Rattle.std.specs.List.{filter, insert}
use Rattle.std.specs.List.Sorted.{IsSortedBy}
use Rattle.lsm_table.specs.Registry.{Table}
use Rattle.lsm_verify.specs.Settled.{AreSequences}
use Rattle.lsm_version.specs.Versions.{stands_before}
use Rattle.lsm_verify.specs.declared.sequences.Sequences.{Sequences}
use Rattle.lsm_verify.proofs.LevelReads.{inserted_beside, length_beside}
use Rattle.lsm_version.proofs.CallerLemmas.{placed_at, placed_sorted}
use Rattle.lsm_verify.proofs.loading.insert_in_order.Goals as goal

pub returns-clause-placed : goal.returns-clause-placed
returns-clause-placed g c = c.in_ok-insert.ensures.items ∙ placed_at c.args.table c.args.tables.now.items c.index_in-index.result
    (ap (take c.index_in-index.result) (sym c.as_slice.ensures.value) ∙ c.index_in-index.ensures.before ∙ ap (filter (λ u. not (stands_before c.args.table u))) c.as_slice.ensures.value)
    (ap (drop c.index_in-index.result) (sym c.as_slice.ensures.value) ∙ c.index_in-index.ensures.behind ∙ ap (filter (λ u. stands_before c.args.table u)) c.as_slice.ensures.value)

pub returns-clause-order : goal.returns-clause-order
returns-clause-order g c =
    let is = returns-clause-placed g c in
    subst (λ (us : List Table). IsSortedBy stands_before us) (sym is) (placed_sorted c.args.table c.args.tables.now.items c.requires.order)

pub returns-clause-beside : goal.returns-clause-beside
returns-clause-beside g c =
    subst (λ (ts : List Table). AreSequences ts c.insert-2.new.self.items) (sym c.in_ok-insert.ensures.items)
    (subst (λ (ss : List Sequences). AreSequences (insert c.args.tables.now.items c.index_in-index.result c.args.table) ss) (sym c.in_ok-insert-2.ensures.items)
    (inserted_beside c.index_in-index.result c.args.tables.now.items c.args.sequences.now.items c.args.table c.args.own c.requires.beside c.requires.own))

pub insert-requires-2 : goal.insert-requires-2
insert-requires-2 g c =
    let inside : c.index_in-index.result ≤ length c.args.tables.now.items = subst (λ (ts : List Table). c.index_in-index.result ≤ length ts) c.as_slice.ensures.value c.index_in-index.ensures.inside in
    let same = length_beside c.args.tables.now.items c.args.sequences.now.items c.requires.beside in
    let long : vec_len c.args.sequences.now ≡ length c.args.sequences.now.items = search rules in
    omega (arith, inside, same, long)
