use Rattle.std.proofs.Common.{All, ◌≡◌, ◌≢◌, ◌++◌, ◌∷◌, [], ℕ, List, None, map, sym, ap, subst, ◌∙◌}
use Rattle.lsm_codec.specs.Entries.{Entry}
use Rattle.lsm_table.specs.HeldTable.{entries_in}
use Rattle.lsm_table.specs.Registry.{image_of}
use Rattle.lsm_model.specs.Merging.{IsSorted, placed_at}
use Rattle.lsm_iterators.specs.Runs.{HasEntries, IsFirst, entries_of_all, numbered_all, once}
use Rattle.lsm_iterators.specs.Seeking.{IsReached, at_or_past, placed_past}
use Rattle.lsm_iterators.proofs.RunLaws.{all_rest, first_copied, first_holds, first_parts, last_if_some, once_some}
use Rattle.lsm_iterators.proofs.SeekLaws.{first_numbered, first_sought}
use Rattle.lsm_iterators.proofs.run.Run.over_from.Goals as goal

pub unreachable-requires : goal.unreachable-requires
unreachable-requires g c = once_some c.args.row c.requires.some (sym c.of_row-later.ensures.images ∙ c.in-None.ensures.image)

pub seek_by-requires-clause-table : goal.seek_by-requires-clause-table
seek_by-requires-clause-table g c κs within = λ honest.
    let image = g.S.Receipt.TableReceipt.image in
    let images = map image_of (once None c.args.row) in
    let same : c.of_row-later.result.images ≡ images = c.of_row-later.ensures.images in
    first_holds HasEntries (image c.copy_receipt-first.result) images
    (subst (IsFirst (image c.copy_receipt-first.result)) same
    (first_copied image c.copy_receipt-first.result c.in-Some.first.now c.of_row-later.result.images c.copy_receipt-first.ensures c.in-Some.ensures.image)) (c.requires.tables honest)

pub invariant_of-result : goal.invariant_of-result
invariant_of-result g c =
    let rest = c.pass.new.self.images in (
      last_if_some c.in-Ok.here.left rest c.in-Ok.ensures.some,
      λ honest. all_rest HasEntries c.of_row-later.result.images rest c.pass.ensures.images (subst (λ (l : List (List ℕ)). All HasEntries l) (sym c.of_row-later.ensures.images) (c.requires.tables honest)),
    )

pub returns-in-Ok-clause-entries : goal.returns-in-Ok-clause-entries
returns-in-Ok-clause-entries g c = λ honest.
    let image = g.S.Receipt.TableReceipt.image in
    let from = c.args.from.now in
    let own = image c.copy_receipt-first.result in
    let first = entries_in own in
    let rest = c.pass.new.self.images in
    let given = map image_of (once None c.args.row) in
    let all : given ≡ own ∷ rest = sym c.of_row-later.ensures.images
    ∙ first_parts own c.of_row-later.result.images rest (first_copied image c.copy_receipt-first.result c.in-Some.first.now c.of_row-later.result.images c.copy_receipt-first.ensures c.in-Some.ensures.image) c.pass.ensures.images in
    let order : IsSorted (first ++ entries_of_all rest) = subst (λ (l : List (List ℕ)). IsSorted (entries_of_all l)) all (c.requires.order honest) in
    let reached : at_or_past from first ≢ [] = subst (IsReached from) all (c.requires.reached honest) in
    ap (λ (es : List Entry). placed_at c.args.depth (es ++ entries_of_all rest)) (c.in-Ok.ensures.entries honest)
    ∙ ap (placed_at c.args.depth) (first_sought from first (entries_of_all rest) order reached)
    ∙ ap (λ (l : List (List ℕ)). placed_at c.args.depth (at_or_past from (entries_of_all l))) (sym all)

pub returns-in-Ok-clause-numbered : goal.returns-in-Ok-clause-numbered
returns-in-Ok-clause-numbered g c = λ honest.
    let image = g.S.Receipt.TableReceipt.image in
    let number = g.S.Receipt.TableReceipt.number c.copy_receipt-first.result in
    let from = c.args.from.now in
    let own = image c.copy_receipt-first.result in
    let first = entries_in own in
    let rest = c.pass.new.self.images in
    let numbers = c.pass.new.self.numbers in
    let given = map image_of (once None c.args.row) in
    let all : given ≡ own ∷ rest = sym c.of_row-later.ensures.images
    ∙ first_parts own c.of_row-later.result.images rest (first_copied image c.copy_receipt-first.result c.in-Some.first.now c.of_row-later.result.images c.copy_receipt-first.ensures c.in-Some.ensures.image) c.pass.ensures.images in
    let named : map (λ t. t.number) (once None c.args.row) ≡ number ∷ numbers = sym c.of_row-later.ensures.numbers
    ∙ first_parts number c.of_row-later.result.numbers numbers
    (first_copied g.S.Receipt.TableReceipt.number c.copy_receipt-first.result c.in-Some.first.now c.of_row-later.result.numbers c.copy_receipt-first.ensures c.in-Some.ensures.number) c.pass.ensures.numbers in
    let order : IsSorted (first ++ entries_of_all rest) = subst (λ (l : List (List ℕ)). IsSorted (entries_of_all l)) all (c.requires.order honest) in
    let reached : at_or_past from first ≢ [] = subst (IsReached from) all (c.requires.reached honest) in
    ap (λ (n : ℕ). placed_at n c.in-Ok.here.left ++ numbered_all numbers rest) c.in-Ok.ensures.number
    ∙ ap (λ (es : List Entry). placed_at number es ++ numbered_all numbers rest) (c.in-Ok.ensures.entries honest)
    ∙ first_numbered from number numbers own rest order reached
    ∙ ap (λ (l : List (List ℕ)). placed_past from (numbered_all (number ∷ numbers) l)) (sym all)
    ∙ ap (λ (ns : List ℕ). placed_past from (numbered_all ns given)) (sym named)
