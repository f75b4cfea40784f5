use Rattle.std.proofs.Common.{[], sym, ◌∙◌}
use Rattle.lsm_codec.specs.Entries.{Entry}
use Rattle.lsm_codec.specs.KeyRef.{key_of}
use Rattle.lsm_block.specs.Block.{entry_of}
use Rattle.lsm_merge.specs.Dropping.{Follows}
use Rattle.lsm_merge.specs.Gathering.{IsOfOneOutput}
use Rattle.lsm_merge.specs.Inputs.{IsOfReading}
use Rattle.lsm_merge.proofs.Dropped.{follows_says}
use Rattle.lsm_merge.proofs.GatherLaws.{one_reading, one_why, took}
use Rattle.lsm_merge.proofs.PlaceLaws.{ascends_after, err_is, if_err}
use Rattle.lsm_merge.proofs.gathering.take_in.Goals as goal

pub grow-requires : goal.grow-requires
grow-requires g c =
    let e : Entry = entry_of (key_of c.in-Some.key) c.value.result.now in
    let f : Follows c.args.stream.now.before e = follows_says c.args.stream.now.before e (sym (c.is_followed_by.ensures c.in-Some.ensures) ∙ c.if-not-is_followed_by.false) in
    ascends_after _ c.args.stream.now.before e c.tell_order.ensures c.requires.up f

pub returns-in_err-grow-clause-numbers : goal.returns-in_err-grow-clause-numbers
returns-in_err-grow-clause-numbers g c =
    err_is (IsOfOneOutput c.args.output.now.number) c.from_residual.result c.in_err-grow.field-0.0 c.from_residual.ensures.1
    (one_why c.args.output.now.number [] [] c.in_err-grow.field-0.0 (c.in_err-grow.ensures.leaves [] []) c.in_err-grow.ensures.why)

pub returns-clause-ok : goal.returns-clause-ok
returns-clause-ok g c = λ p rest is.
    took g.S.Shelf.honest c.args.stream.now.left.placed p rest c.args.output.now c.grow.new.output c.pass.new.self.before c.pass.new.self.left c.pass.result
    (key_of c.in-Some.key) c.value.result.now is c.in-Some.ensures c.value.ensures c.in_ok-grow.ensures.ok (c.pass.ensures.before (key_of c.in-Some.key) c.in-Some.ensures) c.pass.ensures.ok

pub returns-clause-refused : goal.returns-clause-refused
returns-clause-refused g c = c.pass.ensures.refused c.args.output.now.options

pub returns-clause-numbers : goal.returns-clause-numbers
returns-clause-numbers g c = if_err IsOfReading (IsOfOneOutput c.args.output.now.number) c.pass.result (λ e k. one_reading c.args.output.now.number e k) c.pass.ensures.kind
