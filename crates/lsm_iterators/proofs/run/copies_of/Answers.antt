use Rattle.std.proofs.Common.{◌≡◌, ◌∷◌, [], ◌++◌, ap, ◌∙◌}
use Rattle.std.proofs.lemmas.List.Elements.{All-push, All-same}
use Rattle.lsm_table.specs.Registry.{Table, image_of}
use Rattle.lsm_iterators.proofs.RunLaws.{copied_more, holds_of_copy}
use Rattle.lsm_iterators.proofs.run.copies_of.Goals as goal

pub loop-table-preserved : goal.loop-table-preserved
loop-table-preserved g c =
    let before = c.loop-table.copies.items in
    let after = c.push_back.new.self.items in
    let copy = c.copy_receipt-copy.result in
    let table : Table = c.table-item.result in
    let made : after ≡ before ++ copy ∷ [] = c.in_ok-push_back.ensures.items in
    let same = c.copy_receipt-copy.ensures in
    record {
      named = All-same (g.S.Shelf.is_of g.N.Naming.place) after (before ++ copy ∷ []) made
          (All-push (g.S.Shelf.is_of g.N.Naming.place) before copy c.loop-table.invariant.named (holds_of_copy (g.S.Shelf.is_of g.N.Naming.place) copy _ same c.record.ensures.here));
      numbers = copied_more g.S.Receipt.TableReceipt.number (λ (t : Table). t.number) c.args.tables.now c.loop-table.table-index table before after copy c.loop-table-test.true c.table-item.is
          (ap g.S.Receipt.TableReceipt.number same ∙ c.record.ensures.number) made c.loop-table.invariant.numbers;
      images = copied_more g.S.Receipt.TableReceipt.image image_of c.args.tables.now c.loop-table.table-index table before after copy c.loop-table-test.true c.table-item.is
          (ap g.S.Receipt.TableReceipt.image same ∙ c.record.ensures.image) made c.loop-table.invariant.images;
    }
