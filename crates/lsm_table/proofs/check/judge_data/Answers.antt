use Rattle.std.proofs.Common.{◌≡◌, Some, None, refl, ap}
use Rattle.std.proofs.lemmas.Result.{err_from_is_err_and}
use Rattle.std.specs.Option.{option_map}
use Rattle.lsm_codec.specs.KeyRef.{key_of}
use Rattle.lsm_block.specs.Held.{Position}
use Rattle.lsm_table.proofs.JudgeLaws.{judged_first, judged_fails, judged_shorter, judged_on, judged_all}
use Rattle.lsm_table.proofs.check.judge_data.Goals as goal

pub loop-here-init : goal.loop-here-init
loop-here-init c =
    judged_first c.args.body.now c.args.index.now c.rewind.new.cursor c.rewind-2.new.cursor (ap (λ (p : Position). p.last) c.rewind.ensures.front) c.rewind.ensures.rest c.rewind-2.ensures.rest

pub returns-in_err-end : goal.returns-in_err-end
returns-in_err-end c =
    let p = err_from_is_err_and c.from_residual-in_err-end.result c.from_residual-in_err-end.ensures.1 in
    rw (p.1, p.2) (let is : option_map (λ v. v.now) c.in_ok-spelled.field-0 ≡ Some c.in-Some.spelled.now = rw c.in-Some.is refl in
    judged_fails c.in_err-end.field-0.0 c.args.body.now c.loop-here.end c.args.index.now c.loop-here.before c.loop-here.here c.next.new.cursor (option_map (λ v. v.now) c.in_ok-spelled.field-0) c.in-Some.spelled.now (option_map key_of c.key-in-Some.result) (key_of c.in-Some-key.key)
    c.loop-here.invariant c.in_ok-spelled.ensures.given is c.in-Some-key.ensures c.key-in-Some.ensures c.in_err-end.ensures.judged)

pub loop-here-smaller : goal.loop-here-smaller
loop-here-smaller c =
    let is : option_map (λ v. v.now) c.in_ok-spelled.field-0 ≡ Some c.in-Some.spelled.now = rw c.in-Some.is refl in
    judged_shorter c.args.index.now c.loop-here.here c.next.new.cursor (option_map (λ v. v.now) c.in_ok-spelled.field-0) c.in-Some.spelled.now (key_of c.in-Some-key.key) c.in_ok-spelled.ensures.given is c.in-Some-key.ensures

pub loop-here-preserved : goal.loop-here-preserved
loop-here-preserved c =
    let is : option_map (λ v. v.now) c.in_ok-spelled.field-0 ≡ Some c.in-Some.spelled.now = rw c.in-Some.is refl in
    judged_on c.args.body.now c.loop-here.end c.args.index.now c.loop-here.before c.loop-here.here c.next-in-Some.new.cursor c.next.new.cursor (option_map (λ v. v.now) c.in_ok-spelled.field-0) c.in-Some.spelled.now
    (option_map (λ v. v.now) c.in_ok-next.field-0) (option_map key_of c.key-in-Some.result) (key_of c.in-Some-key.key)
    c.loop-here.invariant c.in_ok-spelled.ensures.given is c.in-Some-key.ensures c.key-in-Some.ensures c.in_ok-end.ensures.judged c.in_ok-next.ensures.given c.in_ok-end.end c.in_ok-end.ensures.end

pub returns : goal.returns
returns c =
    let is : option_map (λ v. v.now) c.in_ok-spelled.field-0 ≡ None = rw c.in_default.is refl in
    judged_all c.args.body.now c.loop-here.end c.args.index.now c.loop-here.before c.loop-here.here c.next.new.cursor (option_map (λ v. v.now) c.in_ok-spelled.field-0) c.loop-here.invariant c.in_ok-spelled.ensures.given is
