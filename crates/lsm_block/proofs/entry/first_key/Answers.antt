use Rattle.std.proofs.Common.{◌≡◌, ℕ, List, Some, ap, sym, ◌∙◌, arith}
use Rattle.std.proofs.lemmas.Bool.Decides.{nat_tests}
use Rattle.lsm_codec.specs.Keys.{is_internal}
use Rattle.lsm_block.proofs.EntryLaws.{first_unread, first_shares, first_short, first_other, first_read}
use Rattle.lsm_block.proofs.entry.first_key.Goals as goal

pub returns-in_default : goal.returns-in_default
returns-in_default c = sym (first_unread c.args.text.now (sym (rw c.in_default.is at c.numbers.ensures.reads)))

pub returns-then-shared-ne0 : goal.returns-then-shared-ne0
returns-then-shared-ne0 c = sym (first_shares c.args.text.now c.in-Some.shared c.in-Some.unshared c.in-Some.len c.in-Some.rest.now (sym (rw c.in-Some.is at c.numbers.ensures.reads)) (grind (arith, nat_tests)))

pub returns-then-rest-unshared : goal.returns-then-rest-unshared
returns-then-rest-unshared c =
    let none : c.in-Some.shared ≡ 0 = grind (arith, nat_tests) in
    let read = rw (c.in-Some.is, none) at c.numbers.ensures.reads in
    sym (first_short c.args.text.now c.in-Some.unshared c.in-Some.len c.in-Some.rest.now (sym read) (omega (arith, c.if-rest-unshared.true)))

pub returns-then-not-is_internal_key : goal.returns-then-not-is_internal_key
returns-then-not-is_internal_key c =
    let none : c.in-Some.shared ≡ 0 = grind (arith, nat_tests) in
    let read = rw (c.in-Some.is, none) at c.numbers.ensures.reads in
    let other = ap is_internal (sym c.split_at.ensures.front) ∙ sym c.is_internal_key.ensures.value ∙ c.if-not-is_internal_key.true in
    sym (first_other c.args.text.now c.in-Some.unshared c.in-Some.len c.in-Some.rest.now (sym read) (omega (arith, c.if-rest-unshared.false)) other)

pub returns : goal.returns
returns c =
    let none : c.in-Some.shared ≡ 0 = grind (arith, nat_tests) in
    let read = rw (c.in-Some.is, none) at c.numbers.ensures.reads in
    let internal = ap is_internal (sym c.split_at.ensures.front) ∙ sym c.is_internal_key.ensures.value ∙ c.if-not-is_internal_key.false in
    ap (λ (k : List ℕ). Some k) c.split_at.ensures.front ∙ sym (first_read c.args.text.now c.in-Some.unshared c.in-Some.len c.in-Some.rest.now (sym read) (omega (arith, c.if-rest-unshared.false)) internal)
