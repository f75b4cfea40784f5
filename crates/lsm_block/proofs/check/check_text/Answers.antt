use Rattle.std.proofs.Common.{ℕ, List, None, sym, ap, ◌∙◌, subst, arith}
use Rattle.lsm_block.specs.Held.{Kept, last_of, last_after}
use Rattle.lsm_block.proofs.KeyLaws.{none_kept}
use Rattle.lsm_block.proofs.HeldLaws.{no_parts, fails_is, fault_found, checked, checked_entries}
use Rattle.lsm_block.proofs.check.check_text.Goals as goal

pub returns-in_default-clause-fault : goal.returns-in_default-clause-fault
returns-in_default-clause-fault c = no_parts c.args.bytes.now (sym (rw c.in_default.is at c.parts.ensures.reads))

pub returns-in-Some-2-clause-fault : goal.returns-in-Some-2-clause-fault
returns-in-Some-2-clause-fault c =
    let read = rw c.in-Some.is at c.parts.ensures.reads in
    fails_is c.in-Some-2.fault _ (fault_found c.args.bytes.now c.in-Some.text.now _ c.in-Some-2.fault (sym read) (sym c.in-Some-2.is ∙ c.in_ok-fault.ensures.fault))

pub returns-in-None-clause-holds : goal.returns-in-None-clause-holds
returns-in-None-clause-holds c =
    let read = rw c.in-Some.is at c.parts.ensures.reads in
    checked c.args.bytes.now c.in-Some.text.now _ (λ i. omega (arith, c.type_inv.bytes i)) (sym read) (sym c.in-None.is ∙ c.in_ok-fault.ensures.fault)

pub returns-in-None-clause-last : goal.returns-in-None-clause-last
returns-in-None-clause-last c =
    let read = rw c.in-Some.is at c.parts.ensures.reads in
    c.in_ok-fault.ensures.last (c.in-None.is)
    ∙ ap (last_after None) (checked_entries c.args.bytes.now c.in-Some.text.now _ (λ i. omega (arith, c.type_inv.bytes i)) (sym read) (sym c.in-None.is ∙ c.in_ok-fault.ensures.fault))

pub returns-in_default-clause-kept : goal.returns-in_default-clause-kept
returns-in_default-clause-kept c = subst (λ (b : List ℕ). Kept (last_of b) b) (sym c.requires) none_kept
