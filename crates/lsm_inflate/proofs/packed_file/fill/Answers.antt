use Rattle.std.proofs.Common.{◌≡◌, List, Some, None, Ok, refl, ap, ◌∙◌, subst}
use Rattle.std.proofs.lemmas.Result.{err_from_is_err_and}
use Rattle.std.specs.Option.{option_map}
use Rattle.lsm_codec.specs.KeyRef.{key_of}
use Rattle.lsm_codec.specs.Entries.{Entry}
use Rattle.lsm_block.specs.Held.{HeldBlock}
use Rattle.lsm_table.specs.declared.table_options.TableOptions.{TableOptions}
use Rattle.lsm_inflate.specs.Reading.{Fails}
use Rattle.lsm_inflate.specs.PackedReading.{filled_at}
use Rattle.lsm_inflate.proofs.LoopLaws.{going_no_block, going_no_room, going_on, going_all}
use Rattle.lsm_inflate.proofs.packed_file.fill.Goals as goal

pub returns-in_err-group-clause-left : goal.returns-in_err-group-clause-left
returns-in_err-group-clause-left c =
    let p = err_from_is_err_and c.from_residual-in_err-group.result c.from_residual-in_err-group.ensures.1 in
    let is : option_map (λ v. v.now) c.in_ok-spelled.field-0 ≡ Some c.in-Some.spelled.now = rw c.in-Some.is refl in
    rw (p.1, p.2) (going_no_block c.in_err-group.field-0.0 c.args.table.now.options c.args.body.now c.args.index.now c.loop-here.end c.loop-here.before c.loop-here.here c.next.new.cursor c.loop-here.table.entries c.args.table.now.entries
    (option_map (λ v. v.now) c.in_ok-spelled.field-0) c.in-Some.spelled.now (key_of c.in-Some-key.last) c.loop-here.invariant.0 c.in_ok-spelled.ensures.given is c.in-Some-key.ensures c.in_err-group.ensures.entries)

pub returns-in_err-add_block-clause-left : goal.returns-in_err-add_block-clause-left
returns-in_err-add_block-clause-left c =
    let p = err_from_is_err_and c.from_residual-in_err-add_block.result c.from_residual-in_err-add_block.ensures.1 in
    let is : option_map (λ v. v.now) c.in_ok-spelled.field-0 ≡ Some c.in-Some.spelled.now = rw c.in-Some.is refl in
    let f = c.in_err-add_block.field-0.0 in
    let made = c.loop-here.table.entries in
    let bound = option_map key_of c.key-in-Some.result in
    let key = key_of c.in-Some-key.last in
    let group = c.in_ok-group.group.entries in
    let same : c.as_ref.result.entries ≡ group = ap (λ (b : HeldBlock). b.entries) c.as_ref.ensures in
    let there = subst (λ (es : List Entry). Fails f (filled_at c.loop-here.table.options bound key made es)) same c.in_err-add_block.ensures.left in
    let bad = subst (λ (o : TableOptions). Fails f (filled_at o bound key made group)) c.loop-here.invariant.1 there in
    rw (p.1, p.2) (going_no_room f c.args.table.now.options c.args.body.now c.args.index.now c.loop-here.end c.loop-here.before c.loop-here.here c.next.new.cursor made c.args.table.now.entries
    (option_map (λ v. v.now) c.in_ok-spelled.field-0) c.in-Some.spelled.now bound key group c.loop-here.invariant.0 c.in_ok-spelled.ensures.given is c.in-Some-key.ensures c.key-in-Some.ensures c.in_ok-group.ensures.entries bad)

pub loop-here-preserved : goal.loop-here-preserved
loop-here-preserved c =
    let is : option_map (λ v. v.now) c.in_ok-spelled.field-0 ≡ Some c.in-Some.spelled.now = rw c.in-Some.is refl in
    let made = c.loop-here.table.entries in
    let bound = option_map key_of c.key-in-Some.result in
    let key = key_of c.in-Some-key.last in
    let group = c.in_ok-group.group.entries in
    let more = c.add_block.new.table.entries in
    let same : c.as_ref.result.entries ≡ group = ap (λ (b : HeldBlock). b.entries) c.as_ref.ensures in
    let there = subst (λ (es : List Entry). filled_at c.loop-here.table.options bound key made es ≡ Ok more) same c.in_ok-add_block.ensures.left in
    let filled = subst (λ (o : TableOptions). filled_at o bound key made group ≡ Ok more) c.loop-here.invariant.1 there in (
      going_on c.args.table.now.options c.args.body.now c.args.index.now c.loop-here.end c.loop-here.before c.loop-here.here c.next-in-Some.new.cursor c.next.new.cursor made c.args.table.now.entries more
          (option_map (λ v. v.now) c.in_ok-spelled.field-0) c.in-Some.spelled.now (option_map (λ v. v.now) c.in_ok-next.field-0) bound key group
          c.loop-here.invariant.0 c.in_ok-spelled.ensures.given is c.in-Some-key.ensures c.key-in-Some.ensures c.in_ok-group.ensures.entries filled c.in_ok-next.ensures.given c.in_ok-group.after c.in_ok-group.ensures.end,
      c.in_ok-add_block.ensures.options ∙ c.loop-here.invariant.1,
    )

pub returns-clause-left : goal.returns-clause-left
returns-clause-left c =
    let is : option_map (λ v. v.now) c.in_ok-spelled.field-0 ≡ None = rw c.in_default.is refl in
    going_all c.args.table.now.options c.args.body.now c.args.index.now c.loop-here.end c.loop-here.before c.loop-here.here c.next.new.cursor c.loop-here.table.entries c.args.table.now.entries
    (option_map (λ v. v.now) c.in_ok-spelled.field-0) c.loop-here.invariant.0 c.in_ok-spelled.ensures.given is
