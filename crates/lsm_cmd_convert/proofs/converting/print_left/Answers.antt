use Rattle.std.proofs.Common.{◌≡◌, [], ◌∷◌, Some, ◌∙◌, ap, subst}
use Rattle.std.proofs.KnownBytes.{Keeps-refl}
use Rattle.lsm_codec.specs.Keys.{InternalKey}
use Rattle.lsm_codec.specs.KeyRef.{key_of}
use Rattle.lsm_block.specs.Block.{entry_of}
use Rattle.lsm_text.specs.EntryPrinting.{entry_list}
use Rattle.lsm_text.specs.Printing.{Passes, Stops}
use Rattle.lsm_text.proofs.CallerLemmas.{list_none, list_one, list_split, on_err, printed_ends, printed_more, printed_none, printed_stops}
use Rattle.lsm_cmd_convert.proofs.converting.print_left.Goals as goal

key_is : (a b : InternalKey) → Some a ≡ Some b → b ≡ a
key_is a b h = cc

pub values-init : goal.values-init
values-init g c = printed_none entry_list c.args.entries.now.left (g.O.Write.contents c.args.out.now) c.args.printer.now.held.items list_none

pub returns-in_err-value-clause-begun : goal.returns-in_err-value-clause-begun
returns-in_err-value-clause-begun g c =
    let now = g.O.Write.contents c.values.out in
    on_err c.from_residual.result
    (printed_ends entry_list c.args.entries.now.left c.values.entries.left (g.O.Write.contents c.args.out.now) now now c.args.printer.now.held.items c.values.printer.held.items
    list_split c.values.invariant (Keeps-refl now))

pub values-preserved-in-Continue-branch-3 : goal.values-preserved-in-Continue-branch-3
values-preserved-in-Continue-branch-3 g c =
    let given = rw c.in-Some.is at c.in_ok-value.ensures.given in
    let key : InternalKey = key_of c.in-Some-key.key in
    let same = key_is key given.0 (c.in-Some-key.ensures ∙ given.1) in
    let entry = entry_of key c.in-Some.value.now in
    let first = given.2 ∙ ap (λ (k : InternalKey). entry_of k c.in-Some.value.now ∷ c.next_again.new.entries.left) same in
    let mid = g.O.Write.contents c.values.out in
    let new = g.O.Write.contents c.print_entry.new.out in
    let held = c.values.printer.held.items in
    let left = c.print_entry.new.printer.held.items in
    printed_more entry_list c.args.entries.now.left c.values.entries.left c.next_again.new.entries.left (entry ∷ []) (g.O.Write.contents c.args.out.now) mid new
    c.args.printer.now.held.items held left list_split c.values.invariant first (subst (Passes mid held new left) (list_one entry) c.in_ok-print_entry.ensures.printed)

pub returns-in_err-print_entry-clause-begun : goal.returns-in_err-print_entry-clause-begun
returns-in_err-print_entry-clause-begun g c =
    let given = rw c.in-Some.is at c.in_ok-value.ensures.given in
    let key : InternalKey = key_of c.in-Some-key.key in
    let same = key_is key given.0 (c.in-Some-key.ensures ∙ given.1) in
    let entry = entry_of key c.in-Some.value.now in
    let first = given.2 ∙ ap (λ (k : InternalKey). entry_of k c.in-Some.value.now ∷ c.next_again.new.entries.left) same in
    let mid = g.O.Write.contents c.values.out in
    let new = g.O.Write.contents c.print_entry.new.out in
    let held = c.values.printer.held.items in
    on_err c.from_residual-in_err-print_entry.result
    (printed_stops entry_list c.args.entries.now.left c.values.entries.left c.next_again.new.entries.left (entry ∷ []) (g.O.Write.contents c.args.out.now) mid new
    c.args.printer.now.held.items held list_split c.values.invariant first (subst (Stops mid held new) (list_one entry) c.in_err-print_entry.ensures.begun))
