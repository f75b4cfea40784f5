use Rattle.std.proofs.Common.{◌≡◌, Some, refl, sym, ◌∙◌}
use Rattle.std.specs.Option.{option_map}
use Rattle.lsm_codec.specs.KeyRef.{key_of}
use Rattle.lsm_block.specs.Block.{entry_of}
use Rattle.lsm_table.proofs.EndLaws.{no_last, late, placed_is}
use Rattle.lsm_table.proofs.check.is_placed.Goals as goal

pub returns-in_default : goal.returns-in_default
returns-in_default c value =
    no_last c.args.block.now.entries (option_map key_of c.args.bound) (entry_of (key_of c.args.key.now) value) (c.in_default.ensures ∙ c.requires)

pub returns-then-is_gt : goal.returns-then-is_gt
returns-then-is_gt c value =
    late c.args.block.now.entries (option_map key_of c.args.bound) (key_of c.in-Some.last) (key_of c.args.key.now) value (c.in-Some.ensures ∙ c.requires) (rw c.compare.ensures at (sym c.is_gt.ensures ∙ c.if-is_gt.true))

pub returns : goal.returns
returns c value =
    let is : option_map (λ v. v.now) c.in_ok-_value.field-0 ≡ Some c.in-Some-2._value.now = rw c.in-Some-2.is refl in
    placed_is c.args.block.now c.rewind.new.cursor c.next.new.cursor (option_map (λ v. v.now) c.in_ok-_value.field-0) c.in-Some-2._value.now (option_map key_of c.args.bound) (key_of c.in-Some-key.first) (key_of c.in-Some.last) (key_of c.args.key.now) value c.follows.result
    c.in_ok-_value.ensures.given is c.rewind.ensures.rest c.in-Some-key.ensures (c.in-Some.ensures ∙ c.requires) (rw c.compare.ensures at (sym c.is_gt.ensures ∙ c.if-is_gt.false)) c.follows.ensures
