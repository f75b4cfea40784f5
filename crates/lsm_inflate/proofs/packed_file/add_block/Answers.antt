use Rattle.std.proofs.Common.{◌≡◌, Some, None, Ok, refl, ◌∙◌, subst}
use Rattle.std.proofs.lemmas.Result.{err_from_is_err_and}
use Rattle.std.specs.Option.{option_map}
use Rattle.lsm_codec.specs.KeyRef.{key_of}
use Rattle.lsm_block.specs.Block.{entry_of}
use Rattle.lsm_table.specs.declared.table_options.TableOptions.{TableOptions}
use Rattle.lsm_inflate.specs.Reading.{Fails}
use Rattle.lsm_inflate.specs.PackedReading.{put_at}
use Rattle.lsm_inflate.proofs.LoopLaws.{adding_fails, adding_on, adding_all}
use Rattle.lsm_inflate.proofs.packed_file.add_block.Goals as goal

pub loop-value-preserved : goal.loop-value-preserved
loop-value-preserved c =
    let is : option_map (λ v. v.now) c.in_ok-value.field-0 ≡ Some c.in-Some.value.now = rw c.in-Some.is refl in
    let bound = option_map key_of c.args.bound in
    let last = key_of c.args.last.now in
    let made = c.loop-value.table.entries in
    let key = key_of c.in-Some-key.key in
    let put = subst (λ (o : TableOptions). put_at o bound last made (entry_of key c.in-Some.value.now) ≡ Ok c.put.new.self.entries) c.loop-value.invariant.1 c.in_ok-put.ensures.left in (
      adding_on c.args.table.now.options bound last c.args.block.now c.loop-value.cursor c.next.new.cursor made c.args.table.now.entries c.put.new.self.entries (option_map (λ v. v.now) c.in_ok-value.field-0) c.in-Some.value.now key
          c.loop-value.invariant.0 c.in_ok-value.ensures.given is c.in-Some-key.ensures put,
      c.in_ok-put.ensures.options ∙ c.loop-value.invariant.1,
    )

pub returns-in_err-put-clause-left : goal.returns-in_err-put-clause-left
returns-in_err-put-clause-left c =
    let p = err_from_is_err_and c.from_residual-in_err-put.result c.from_residual-in_err-put.ensures.1 in
    let is : option_map (λ v. v.now) c.in_ok-value.field-0 ≡ Some c.in-Some.value.now = rw c.in-Some.is refl in
    let bound = option_map key_of c.args.bound in
    let last = key_of c.args.last.now in
    let made = c.loop-value.table.entries in
    let key = key_of c.in-Some-key.key in
    let bad = subst (λ (o : TableOptions). Fails c.in_err-put.field-0.0 (put_at o bound last made (entry_of key c.in-Some.value.now))) c.loop-value.invariant.1 c.in_err-put.ensures.left in
    rw (p.1, p.2) (adding_fails c.in_err-put.field-0.0 c.args.table.now.options bound last c.args.block.now c.loop-value.cursor c.next.new.cursor made c.args.table.now.entries (option_map (λ v. v.now) c.in_ok-value.field-0) c.in-Some.value.now key
    c.loop-value.invariant.0 c.in_ok-value.ensures.given is c.in-Some-key.ensures bad)

pub returns-clause-left : goal.returns-clause-left
returns-clause-left c =
    let is : option_map (λ v. v.now) c.in_ok-value.field-0 ≡ None = rw c.in_default.is refl in
    adding_all c.args.table.now.options (option_map key_of c.args.bound) (key_of c.args.last.now) c.args.block.now c.loop-value.cursor c.next.new.cursor c.loop-value.table.entries c.args.table.now.entries (option_map (λ v. v.now) c.in_ok-value.field-0)
    c.loop-value.invariant.0 c.in_ok-value.ensures.given is
