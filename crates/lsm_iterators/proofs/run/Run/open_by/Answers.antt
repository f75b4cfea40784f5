use Rattle.std.proofs.Common.{All, List, ℕ, map, sym, subst}
use Rattle.std.proofs.lemmas.List.Elements.{All-head, All-tail}
use Rattle.lsm_iterators.specs.Runs.{HasEntries}
use Rattle.lsm_iterators.proofs.RunLaws.{last_if_some}
use Rattle.lsm_iterators.proofs.run.Run.open_by.Goals as goal

pub first_by-requires-clause-named : goal.first_by-requires-clause-named
first_by-requires-clause-named g c κs within = All-head (g.S.Shelf.is_of g.N.Naming.place) c.args.first c.args.later.items c.requires.named

pub first_by-requires-clause-table : goal.first_by-requires-clause-table
first_by-requires-clause-table g c κs within honest =
    let image = g.S.Receipt.TableReceipt.image in
    All-head HasEntries (image c.args.first) (map image c.args.later.items) (c.requires.tables honest)

pub of_receipts-later-requires-clause-named : goal.of_receipts-later-requires-clause-named
of_receipts-later-requires-clause-named g c κs within = All-tail (g.S.Shelf.is_of g.N.Naming.place) c.args.first c.args.later.items c.requires.named

pub invariant_of-result : goal.invariant_of-result
invariant_of-result g c =
    let image = g.S.Receipt.TableReceipt.image in (
      last_if_some c.in-Ok.here.left c.of_receipts-later.result.images c.in-Ok.ensures.some,
      λ honest. subst (λ (l : List (List ℕ)). All HasEntries l) (sym c.of_receipts-later.ensures.images)
          (All-tail HasEntries (image c.args.first) (map image c.args.later.items) (c.requires.tables honest)),
    )
