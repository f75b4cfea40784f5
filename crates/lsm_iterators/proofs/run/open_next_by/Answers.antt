use Rattle.std.proofs.Common.{sym, subst}
use Rattle.lsm_iterators.specs.Runs.{HasEntries, IsFirst}
use Rattle.lsm_iterators.proofs.RunLaws.{first_copied, first_entries, first_holds, has_first}
use Rattle.lsm_iterators.proofs.run.open_next_by.Goals as goal

pub first_by-requires-clause-table : goal.first_by-requires-clause-table
first_by-requires-clause-table g c κs within honest =
    let image = g.S.Receipt.TableReceipt.image in
    first_holds HasEntries (image c.copy_receipt-next.result) c.args.later.now.images
    (first_copied image c.copy_receipt-next.result c.in-Some.next.now c.args.later.now.images c.copy_receipt-next.ensures c.in-Some.ensures.image) (c.requires.tables honest)

pub returns-in-Ok-clause-first : goal.returns-in-Ok-clause-first
returns-in-Ok-clause-first g c =
    let number = g.S.Receipt.TableReceipt.number in
    let numbers = c.args.later.now.numbers in
    subst (λ n. IsFirst n numbers) (sym c.in-Ok.ensures.number) (first_copied number c.copy_receipt-next.result c.in-Some.next.now numbers c.copy_receipt-next.ensures c.in-Some.ensures.number)

pub returns-in-Ok-clause-entries : goal.returns-in-Ok-clause-entries
returns-in-Ok-clause-entries g c honest =
    let image = g.S.Receipt.TableReceipt.image in
    let images = c.args.later.now.images in
    first_entries c.in-Ok.here.left (image c.copy_receipt-next.result) images
    (first_copied image c.copy_receipt-next.result c.in-Some.next.now images c.copy_receipt-next.ensures c.in-Some.ensures.image) (c.in-Ok.ensures.entries honest)

pub returns-in-Err-clause-number : goal.returns-in-Err-clause-number
returns-in-Err-clause-number g c =
    let number = g.S.Receipt.TableReceipt.number in
    let numbers = c.args.later.now.numbers in
    has_first c.number-number.result numbers (subst (λ n. IsFirst n numbers) (sym c.number-number.ensures)
    (first_copied number c.copy_receipt-next.result c.in-Some.next.now numbers c.copy_receipt-next.ensures c.in-Some.ensures.number))
