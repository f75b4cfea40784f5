use Rattle.std.proofs.Common.{◌≡◌, List, sym, ap, ◌∙◌, subst}
use Rattle.lsm_codec.specs.Entries.{Entry}
use Rattle.lsm_block.specs.Standing.{is_end}
use Rattle.lsm_table.specs.Footer.{body_of}
use Rattle.lsm_table.specs.HeldTable.{AreNamed}
use Rattle.lsm_reader.specs.Blocks.{Rest}
use Rattle.lsm_reader.proofs.AdvanceLaws.{left_moved, later_moved, is_last, is_here, left_ended, stays_ended, left_entered, stays_entered}
use Rattle.lsm_reader.proofs.table_cursor.TableCursor.step_by.Goals as goal

pub returns-then-is_some-clause-moved : goal.returns-then-is_some-clause-moved
returns-then-is_some-clause-moved g c honest nm =
    let image = g.S.Receipt.TableReceipt.image c.args.receipt.now in
    let moved = c.in_ok-moved.ensures in
    (subst (λ (xs : List Entry). AreNamed (body_of image) xs) (sym moved.index) nm, left_moved image _ c.args.self.now.here c.args.self.now.index c.advance_here.new.self.here c.advance_here.new.self.index (sym c.is_some.ensures ∙ c.if-is_some.true) moved.moved moved.index)

pub returns-then-is_some-clause-exact : goal.returns-then-is_some-clause-exact
returns-then-is_some-clause-exact g c honest =
    later_moved _ c.args.self.now.here c.advance_here.new.self.here _ (sym c.is_some.ensures ∙ c.if-is_some.true) c.in_ok-moved.ensures.moved

pub returns-then-is_at_end-clause-moved : goal.returns-then-is_at_end-clause-moved
returns-then-is_at_end-clause-moved g c honest nm =
    let image = g.S.Receipt.TableReceipt.image c.args.receipt.now in
    let moved = c.in_ok-moved.ensures in
    let none = sym c.is_some.ensures ∙ c.if-is_some.false in
    let seen : c.self.inside.index ≡ c.advance_here.new.self.index = ap (λ (r : Rest). r.index) c.self.view_is in
    let index : c.self.inside.index ≡ c.args.self.now.index = seen ∙ moved.index in
    (subst (λ (xs : List Entry). AreNamed (body_of image) xs) (sym moved.index) nm, rw (sym seen) (left_ended image c.args.self.now.here c.args.self.now.index c.advance_here.new.self.here c.self.inside.index (is_last _ _ _ none moved.moved) (is_here _ _ _ none moved.moved) (sym c.is_at_end.ensures ∙ c.if-is_at_end.true) index))

pub returns-then-is_at_end-clause-exact : goal.returns-then-is_at_end-clause-exact
returns-then-is_at_end-clause-exact g c honest =
    let moved = c.in_ok-moved.ensures in
    let none = sym c.is_some.ensures ∙ c.if-is_some.false in
    let index : c.self.inside.index ≡ c.args.self.now.index = ap (λ (r : Rest). r.index) c.self.view_is ∙ moved.index in
    stays_ended (body_of (g.S.Receipt.TableReceipt.image c.args.receipt.now)) c.args.self.now.here c.args.self.now.index c.advance_here.new.self.here c.self.inside.index (is_last _ _ _ none moved.moved) (is_here _ _ _ none moved.moved) (sym c.is_at_end.ensures ∙ c.if-is_at_end.true) index

pub returns-clause-moved : goal.returns-clause-moved
returns-clause-moved g c honest nm =
    let image = g.S.Receipt.TableReceipt.image c.args.receipt.now in
    let moved = c.in_ok-moved.ensures in
    let none = sym c.is_some.ensures ∙ c.if-is_some.false in
    let seen : c.self.inside.index ≡ c.advance_here.new.self.index = ap (λ (r : Rest). r.index) c.self.view_is in
    let entered = c.in_ok-next_block_by.ensures.entered honest (subst (λ (xs : List Entry). AreNamed (body_of image) xs) (sym moved.index) nm) in
    let some = c.in_ok-next_block_by.ensures.some (ap is_end (sym seen) ∙ sym c.is_at_end.ensures ∙ c.if-is_at_end.false) in
    (entered.0, left_entered image c.args.self.now.here c.args.self.now.index c.advance_here.new.self.index c.next_block_by.new.self.here c.next_block_by.new.self.index (is_last _ _ _ none moved.moved) moved.stands moved.index some entered.1)

pub returns-clause-exact : goal.returns-clause-exact
returns-clause-exact g c honest =
    let moved = c.in_ok-moved.ensures in
    let none = sym c.is_some.ensures ∙ c.if-is_some.false in
    let seen : c.self.inside.index ≡ c.advance_here.new.self.index = ap (λ (r : Rest). r.index) c.self.view_is in
    stays_entered (body_of (g.S.Receipt.TableReceipt.image c.args.receipt.now)) c.args.self.now.here c.args.self.now.index c.advance_here.new.self.index c.next_block_by.new.self.here (is_last _ _ _ none moved.moved) (ap is_end (sym seen) ∙ sym c.is_at_end.ensures ∙ c.if-is_at_end.false) moved.index (c.in_ok-next_block_by.ensures.exact honest)
