use Rattle.std.proofs.Common.{◌∙◌, List, ap, sym, subst, take, drop, not}
use Rattle.std.specs.List.{filter}
use Rattle.std.specs.List.Sorted.{IsSortedBy}
use Rattle.lsm_table.specs.Registry.{Table}
use Rattle.lsm_version.specs.Versions.{stands_before}
use Rattle.lsm_version.proofs.CallerLemmas.{placed_at, placed_sorted}
use Rattle.lsm_admission.proofs.finding.insert_in_order.Goals as goal

pub returns-clause-placed : goal.returns-clause-placed
returns-clause-placed g c = c.in_ok-insert.ensures.items
    ∙ placed_at c.args.table c.args.tables.now.items c.index_in-index.result
    (ap (take c.index_in-index.result) (sym c.as_slice.ensures.value)
    ∙ c.index_in-index.ensures.before ∙ ap (filter (λ u. not (stands_before c.args.table u)))
    c.as_slice.ensures.value)
    (ap (drop c.index_in-index.result) (sym c.as_slice.ensures.value)
    ∙ c.index_in-index.ensures.behind ∙ ap (filter (λ u. stands_before c.args.table u))
    c.as_slice.ensures.value)

pub returns-clause-order : goal.returns-clause-order
returns-clause-order g c =
    let is = returns-clause-placed g c in
    subst (λ (us : List Table). IsSortedBy stands_before us) (sym is)
    (placed_sorted c.args.table c.args.tables.now.items c.requires.order)
