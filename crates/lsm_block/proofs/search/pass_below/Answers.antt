use Rattle.std.proofs.Common.{List, ℕ, subst, arith}
use Rattle.lsm_codec.specs.KeyRef.{key_of}
use Rattle.lsm_codec.proofs.CallerLemmas.{internal_long}
use Rattle.lsm_block.specs.Walking.{ReadsOwn}
use Rattle.lsm_block.proofs.PassLaws.{passed_none, passed_on, place_within, reads_shorter}
use Rattle.lsm_block.proofs.PassLaws.{stops_here, stops_behind}
use Rattle.lsm_block.proofs.search.pass_below.Goals as goal

pub loop-offset-init : goal.loop-offset-init
loop-offset-init c = passed_none c.args.text.now c.args.start (key_of c.args.key.now)

pub next_place-requires-clause-own : goal.next_place-requires-clause-own
next_place-requires-clause-own c = internal_long c.in-Some.entry.own.now c.in-Some.ensures.internal

pub next_place-requires-clause-within : goal.next_place-requires-clause-within
next_place-requires-clause-within c = place_within _ _ _ _ _ _ c.loop-offset.invariant

pub returns-in_default-next_place : goal.returns-in_default-next_place
returns-in_default-next_place c =
    let key = key_of c.args.key.now in
    let text = c.args.text.now in
    let l = c.loop-offset in
    let e = c.in-Some.entry in
    let read = subst (λ (t : List ℕ). ReadsOwn l.len t e) c.rest_from.ensures c.in-Some.ensures in
    stops_here text c.args.start key l.offset l.len l.place e
    (λ i. omega (arith, c.type_inv.text i))
    (omega arith) l.invariant read c.in_default-next_place.ensures.none

pub overflow_sub-offset : goal.overflow_sub-offset
overflow_sub-offset c =
    let key = key_of c.args.key.now in
    let text = c.args.text.now in
    let l = c.loop-offset in
    let e = c.in-Some.entry in
    let read = subst (λ (t : List ℕ). ReadsOwn l.len t e) c.rest_from.ensures c.in-Some.ensures in
    let shorter = reads_shorter text c.args.start key l.offset l.len l.place e
    (λ i. omega (arith, c.type_inv.text i)) (omega arith) l.invariant read in
    omega (arith, shorter)

pub loop-offset-smaller : goal.loop-offset-smaller
loop-offset-smaller c =
    let key = key_of c.args.key.now in
    let text = c.args.text.now in
    let l = c.loop-offset in
    let e = c.in-Some.entry in
    let read = subst (λ (t : List ℕ). ReadsOwn l.len t e) c.rest_from.ensures c.in-Some.ensures in
    let shorter = reads_shorter text c.args.start key l.offset l.len l.place e
    (λ i. omega (arith, c.type_inv.text i)) (omega arith) l.invariant read in
    omega (arith, shorter)

pub loop-offset-preserved : goal.loop-offset-preserved
loop-offset-preserved c =
    let key = key_of c.args.key.now in
    let text = c.args.text.now in
    let l = c.loop-offset in
    let e = c.in-Some.entry in
    let read = subst (λ (t : List ℕ). ReadsOwn l.len t e) c.rest_from.ensures c.in-Some.ensures in
    passed_on text c.args.start key l.offset l.len l.place _ e
    (λ i. omega (arith, c.type_inv.text i))
    (omega arith) l.invariant read c.in-Some-next_place.ensures.some

pub returns : goal.returns
returns c = stops_behind _ _ _ _ _ _ (omega arith) c.loop-offset.invariant
