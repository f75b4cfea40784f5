use Rattle.std.proofs.Common.{◌≡◌, List, OnOk, Result, sym, ap, ◌∙◌, subst}
use Rattle.lsm_codec.specs.Entries.{Entry}
use Rattle.lsm_table.specs.declared.table_fault.TableFault.{TableFault}
use Rattle.lsm_table.specs.Footer.{body_of}
use Rattle.lsm_table.specs.HeldTable.{AreNamed}
use Rattle.lsm_reader.specs.Blocks.{Reads, left_at}
use Rattle.lsm_reader.specs.Getting.{first_entered}
use Rattle.lsm_reader.proofs.AdvanceLaws.{left_after, later_moved, is_last, left_last, later_last}
use Rattle.lsm_reader.proofs.table_cursor.TableCursor.advance_by.Goals as goal

pub returns-then-is_some-clause-steps : goal.returns-then-is_some-clause-steps
returns-then-is_some-clause-steps g c honest nm =
    let image = g.S.Receipt.TableReceipt.image c.args.receipt.now in
    let moved = c.in_ok-advance_here.ensures in
    (subst (λ (xs : List Entry). AreNamed (body_of image) xs) (sym moved.index) nm, left_after image _ c.args.self.now.here c.args.self.now.index c.advance_here.new.self.here c.advance_here.new.self.index (sym c.is_some.ensures ∙ c.if-is_some.true) moved.moved moved.index)

pub returns-then-is_some-clause-exact : goal.returns-then-is_some-clause-exact
returns-then-is_some-clause-exact g c honest =
    later_moved _ c.args.self.now.here c.advance_here.new.self.here _ (sym c.is_some.ensures ∙ c.if-is_some.true) c.in_ok-advance_here.ensures.moved

pub returns-clause-steps : goal.returns-clause-steps
returns-clause-steps g c honest nm =
    let image = g.S.Receipt.TableReceipt.image c.args.receipt.now in
    let moved = c.in_ok-advance_here.ensures in
    let last = is_last _ c.args.self.now.here c.advance_here.new.self.here (sym c.is_some.ensures ∙ c.if-is_some.false) moved.moved in
    subst (λ (xs : List Entry). OnOk c.next_block_by.result (AreNamed (body_of image) c.next_block_by.new.self.index × (left_at image c.next_block_by.new.self ≡ xs)))
    (left_last image c.args.self.now.here c.args.self.now.index c.advance_here.new.self.index last moved.stands moved.index)
    (c.next_block_by.ensures.entered honest (subst (λ (xs : List Entry). AreNamed (body_of image) xs) (sym moved.index) nm))

pub returns-clause-exact : goal.returns-clause-exact
returns-clause-exact g c honest =
    let body = body_of (g.S.Receipt.TableReceipt.image c.args.receipt.now) in
    let moved = c.in_ok-advance_here.ensures in
    let last = is_last _ c.args.self.now.here c.advance_here.new.self.here (sym c.is_some.ensures ∙ c.if-is_some.false) moved.moved in
    subst (λ (x : Result (List Entry) TableFault). Reads (λ (u : Unit {0}). c.next_block_by.new.self.here) c.next_block_by.result x)
    (ap (first_entered body) moved.index ∙ sym (later_last c.args.self.now.here (first_entered body c.args.self.now.index) last)) (c.next_block_by.ensures.exact honest)
