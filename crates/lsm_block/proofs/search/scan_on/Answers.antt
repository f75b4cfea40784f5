use Rattle.std.proofs.Common.{refl, sym, ap, ◌∙◌, arith}
use Rattle.lsm_codec.specs.KeyRef.{key_of}
use Rattle.lsm_block.specs.Block.{entry_of}
use Rattle.lsm_codec.specs.Keys.{key_at}
use Rattle.lsm_block.specs.Seeking.{not_below}
use Rattle.lsm_block.proofs.KeyLaws.{kept_as}
use Rattle.lsm_block.proofs.OrderLaws.{below-step, below-stop, below-nothing}
use Rattle.lsm_block.proofs.SeekLaws.{read_on_some, read_on_none, scan_ends}
use Rattle.lsm_block.proofs.search.scan_on.Goals as goal

pub loop-offset-init : goal.loop-offset-init
loop-offset-init c = (refl, c.requires)

pub returns-in_default-clause-found : goal.returns-in_default-clause-found
returns-in_default-clause-found c =
    let read = rw (c.rest_from-rest.ensures, c.deref.ensures.value) at c.in_default.ensures.reads in
    let none = read_on_none c.args.text.now c.loop-offset.before.items c.loop-offset.offset read in
    none ∙ sym (below-nothing (key_of c.args.key.now))
    ∙ ap (not_below (key_of c.args.key.now)) (sym none) ∙ c.loop-offset.invariant.0

pub is_below-requires : goal.is_below-requires
is_below-requires c =
    let read = rw (c.rest_from-rest.ensures, c.deref.ensures.value) at c.in-Some.ensures.reads in
    let m = read_on_some c.args.text.now c.loop-offset.before.items c.loop-offset.offset _ _ _ _
    (λ i. omega (arith, c.type_inv.text i)) (omega (arith, c.loop-offset-test.true)) read in
    rw (c.of.ensures, c.deref-in-loop-offset.ensures.value) m.internal

pub returns-then-not-is_below-clause-found : goal.returns-then-not-is_below-clause-found
returns-then-not-is_below-clause-found c =
    let key = key_of c.args.key.now in
    let read = rw (c.rest_from-rest.ensures, c.deref.ensures.value) at c.in-Some.ensures.reads in
    let m = read_on_some c.args.text.now c.loop-offset.before.items c.loop-offset.offset _ _ _ _
    (λ i. omega (arith, c.type_inv.text i)) (omega (arith, c.loop-offset-test.true)) read in
    let above = rw (c.of.ensures, c.deref-in-loop-offset.ensures.value) at (sym c.is_below.ensures
    ∙ c.if-not-is_below.true) in
    m.moves ∙ sym (below-stop key (entry_of (key_at _) _) _ above)
    ∙ ap (not_below key) (sym m.moves) ∙ c.loop-offset.invariant.0

pub overflow_sub-offset : goal.overflow_sub-offset
overflow_sub-offset c =
    let read = rw (c.rest_from-rest.ensures, c.deref.ensures.value) at c.in-Some.ensures.reads in
    let m = read_on_some c.args.text.now c.loop-offset.before.items c.loop-offset.offset _ _ _ _
    (λ i. omega (arith, c.type_inv.text i)) (omega (arith, c.loop-offset-test.true)) read in
    omega (arith, m.shorter)

pub loop-offset-smaller : goal.loop-offset-smaller
loop-offset-smaller c =
    let read = rw (c.rest_from-rest.ensures, c.deref.ensures.value) at c.in-Some.ensures.reads in
    let m = read_on_some c.args.text.now c.loop-offset.before.items c.loop-offset.offset _ _ _ _
    (λ i. omega (arith, c.type_inv.text i)) (omega (arith, c.loop-offset-test.true)) read in
    omega (arith, m.shorter, c.loop-offset-test.true)

pub loop-offset-preserved : goal.loop-offset-preserved
loop-offset-preserved c =
    let key = key_of c.args.key.now in
    let read = rw (c.rest_from-rest.ensures, c.deref.ensures.value) at c.in-Some.ensures.reads in
    let m = read_on_some c.args.text.now c.loop-offset.before.items c.loop-offset.offset _ _ _ _
    (λ i. omega (arith, c.type_inv.text i)) (omega (arith, c.loop-offset-test.true)) read in
    let below = rw (c.of.ensures, c.deref-in-loop-offset.ensures.value) at (sym c.is_below.ensures
    ∙ c.if-not-is_below.false) in
    let kept = kept_as _ (rw c.deref.ensures.value at c.in-Some.ensures.kept) in
    rw c.in_ok-put_together.ensures.ok (
      sym (below-step key (entry_of (key_at _) _) _ below) ∙ ap (not_below key) (sym m.moves)
          ∙ c.loop-offset.invariant.0,
      kept,
    )

pub returns-clause-found : goal.returns-clause-found
returns-clause-found c =
    let none = scan_ends c.args.text.now c.loop-offset.before.items c.loop-offset.offset
    (omega (arith, c.loop-offset-test.false)) in
    none ∙ sym (below-nothing (key_of c.args.key.now))
    ∙ ap (not_below (key_of c.args.key.now)) (sym none) ∙ c.loop-offset.invariant.0
