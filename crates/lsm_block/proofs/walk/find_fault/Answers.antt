use Rattle.std.proofs.Common.{◌≡◌, ◌<◌, ◌/◌, ℕ, List, [], None, true, length, sym, ap, ◌∙◌, subst, arith}
use Rattle.std.proofs.lemmas.Bool.Decides.{nat_tests}
use Rattle.lsm_codec.proofs.CallerLemmas.{internal_of}
use Rattle.lsm_codec.specs.Keys.{is_internal}
use Rattle.lsm_block.specs.Reading.{words, entries_of, scan}
use Rattle.lsm_block.specs.Walking.{fault_from}
use Rattle.lsm_block.specs.Held.{Kept, last_of, last_after}
use Rattle.lsm_block.proofs.EntryLaws.{leaves}
use Rattle.lsm_block.proofs.KeyLaws.{none_kept, no_last, kept_as, kept_internal}
use Rattle.lsm_block.proofs.RestartLaws.{length-words}
use Rattle.lsm_block.proofs.SeenLaws.{seen_some, seen_none}
use Rattle.lsm_block.proofs.WalkLaws.{walk_begins, walk_moves, walk_bad, walk_stop, walk_end, last_moves, last_ends}
use Rattle.lsm_block.proofs.walk.find_fault.Goals as goal

pub loop-rest-init : goal.loop-rest-init
loop-rest-init c =
    let rs = words (length c.args.offsets.now / 4) c.args.offsets.now in
    let all = scan (length c.args.text.now) (length c.args.text.now) [] c.args.text.now in
    let some : 0 < length rs = omega (arith, length-words (length c.args.offsets.now / 4) c.args.offsets.now, c.requires.offsets) in
    rw (c.requires.key) (
      ap (λ (q : ℕ × List ℕ). fault_from None q.0 q.1 [] all) c.begin-last.ensures ∙ walk_begins all rs some,
      λ i. omega (arith, c.type_inv.text i),
      omega arith,
      none_kept,
      ap (λ o. last_after o (entries_of all.placed)) no_last,
    )

pub returns-in_default-clause-fault : goal.returns-in_default-clause-fault
returns-in_default-clause-fault c =
    let none = seen_none _ (rw c.deref.ensures.value at c.in_default.ensures.reads) in
    let some : 0 < length c.loop-rest.rest.now = grind (arith, nat_tests) in
    c.fault_where_stopped.ensures
    ∙ walk_stop c.loop-rest.out c.loop-rest.last (words (length c.loop-rest.left.now / 4) c.loop-rest.left.now) c.loop-rest.key.items c.loop-rest.rest.now (length c.args.text.now) some none
    ∙ c.loop-rest.invariant.0

pub returns-in_default-pass-clause-fault : goal.returns-in_default-pass-clause-fault
returns-in_default-pass-clause-fault c =
    let found = seen_some _ _ _ _ _ (rw c.deref.ensures.value at c.in-Some.ensures.reads) in
    let pass = rw (c.in_default-pass.is, sym found.shared_is) at c.pass.ensures in
    walk_bad c.loop-rest.out c.loop-rest.last (words (length c.loop-rest.left.now / 4) c.loop-rest.left.now) c.loop-rest.key.items c.loop-rest.rest.now (length c.args.text.now) found.piece c.in-Some.entry.after.now
    c.loop-rest.invariant.1 c.loop-rest.invariant.2 found.is (sym pass)
    ∙ c.loop-rest.invariant.0

pub note-out-requires-clause-before : goal.note-out-requires-clause-before
note-out-requires-clause-before c =
    rw (c.of.ensures, c.deref-in-loop-rest.ensures.value) (kept_internal c.loop-rest.key.items c.loop-rest.invariant.3)

pub note-out-requires-clause-key : goal.note-out-requires-clause-key
note-out-requires-clause-key c =
    rw (c.of.ensures, c.deref-in-loop-rest.ensures.value) (internal_of _ _ (rw c.deref.ensures.value at c.in-Some.ensures.kept))

pub loop-rest-smaller : goal.loop-rest-smaller
loop-rest-smaller c =
    let found = seen_some _ _ _ _ _ (rw c.deref.ensures.value at c.in-Some.ensures.reads) in
    (leaves c.loop-rest.key.items c.loop-rest.rest.now found.piece c.in-Some.entry.after.now c.loop-rest.invariant.1 found.is).shorter

pub loop-rest-preserved : goal.loop-rest-preserved
loop-rest-preserved c =
    let key = c.loop-rest.key.items in
    let rest = c.loop-rest.rest.now in
    let after = c.in-Some.entry.after.now in
    let total = length c.args.text.now in
    let found = seen_some _ _ _ _ _ (rw c.deref.ensures.value at c.in-Some.ensures.reads) in
    let l = leaves key rest found.piece after c.loop-rest.invariant.1 found.is in
    let next = c.put_together.new.key.items in
    let is_next = sym c.in_ok-put_together.ensures.ok in
    let kept = rw c.deref.ensures.value at c.in-Some.ensures.kept in
    let internal : is_internal next ≡ true = subst (λ (k : List ℕ). is_internal k ≡ true) is_next (internal_of _ _ kept) in
    let pass = rw c.in-Some-pass.is at c.pass.ensures in
    let out = rw (c.of.ensures, c.deref-in-loop-rest.ensures.value, is_next) at c.note-out.ensures in
    let moved = walk_moves c.loop-rest.out c.loop-rest.last (words (length c.loop-rest.left.now / 4) c.loop-rest.left.now) key rest total found.piece after _ _ _ next _
    c.loop-rest.invariant.1 c.loop-rest.invariant.2 found.is found.shared_is (found.key_is ∙ is_next) pass out in
    let last = last_moves key rest total found.piece after next c.loop-rest.invariant.1 found.is (found.key_is ∙ is_next) internal in
    (moved ∙ c.loop-rest.invariant.0, l.fits, omega (arith, l.shorter, c.loop-rest.invariant.2), subst (λ (k : List ℕ). Kept (last_of k) k) is_next (kept_as _ kept), last ∙ c.loop-rest.invariant.4)

pub returns-clause-fault : goal.returns-clause-fault
returns-clause-fault c =
    let none : length c.loop-rest.rest.now ≡ 0 = grind (arith, nat_tests) in
    c.fault_at_last.ensures
    ∙ walk_end c.loop-rest.out c.loop-rest.last (words (length c.loop-rest.left.now / 4) c.loop-rest.left.now) c.loop-rest.key.items c.loop-rest.rest.now (length c.args.text.now) none
    ∙ c.loop-rest.invariant.0

pub returns-clause-last : goal.returns-clause-last
returns-clause-last c h =
    let none : length c.loop-rest.rest.now ≡ 0 = grind (arith, nat_tests) in
    last_ends c.loop-rest.key.items c.loop-rest.rest.now (length c.args.text.now) none ∙ c.loop-rest.invariant.4
