use Rattle.std.proofs.Common.{List, refl, sym, ap, ◌∙◌, subst}
use Rattle.std.proofs.lemmas.Result.{err_from_is_err_and}
use Rattle.lsm_codec.specs.Entries.{Entry}
use Rattle.lsm_codec.specs.KeyRef.{key_of}
use Rattle.lsm_block.specs.Standing.{but_first}
use Rattle.lsm_table.specs.Footer.{body_of}
use Rattle.lsm_table.specs.Searching.{Sought}
use Rattle.lsm_table.proofs.CallerLemmas.{becomes_same, becomes_then, sought_first}
use Rattle.lsm_reader.proofs.CursorLaws.{at_end, at_some, sought_end, still_sought, found_sought}
use Rattle.lsm_reader.specs.Blocks.{or_none}
use Rattle.lsm_reader.specs.Getting.{first_named}
use Rattle.lsm_reader.proofs.GettingLaws.{search_fails, search_found, search_goes_on, search_ends}
use Rattle.lsm_reader.proofs.search.sought_by.Goals as goal

pub loop-alloc-init : goal.loop-alloc-init
loop-alloc-init g c =
    let key = key_of c.args.key.now in
    let body = body_of (g.S.Receipt.TableReceipt.image c.args.receipt.now) in (
      becomes_same (g.B.Blocks.told c.args.blocks.now),
      refl,
      λ honest es n. subst (λ (xs : List Entry). Sought key body xs es) (sym c.in_ok-places.ensures)
          (sought_first key body _ es n),
      λ honest. ap (first_named key body) (sym c.in_ok-places.ensures),
    )

pub returns-in_err-entries-clause-sound : goal.returns-in_err-entries-clause-sound
returns-in_err-entries-clause-sound g c honest es n =
    let p = err_from_is_err_and c.from_residual-in_err-entries.result
    c.from_residual-in_err-entries.ensures.1 in
    rw (p.1, p.2) (c.in_err-entries.ensures.sound honest es (c.loop-alloc.invariant.2 honest es n))

pub returns-then-not-is_at_end-clause-found : goal.returns-then-not-is_at_end-clause-found
returns-then-not-is_at_end-clause-found g c honest es n =
    let image = g.S.Receipt.TableReceipt.image c.args.receipt.now in
    let rest = but_first c.loop-alloc.places in
    let some = sym c.is_at_end-in-loop-alloc.ensures ∙ c.if-not-is_at_end.true in
    let sought = c.in_ok-entries.ensures.found honest es (c.loop-alloc.invariant.2 honest es n) in (
      rest,
      at_some c.in_ok-entries.entries rest some,
      (found_sought (key_of c.args.key.now) image c.in_ok-entries.entries rest es some sought).1,
    )

pub loop-alloc-preserved : goal.loop-alloc-preserved
loop-alloc-preserved g c =
    let key = key_of c.args.key.now in
    let image = g.S.Receipt.TableReceipt.image c.args.receipt.now in
    let none = sym c.is_at_end-in-loop-alloc.ensures ∙ c.if-not-is_at_end.false in (
      becomes_then _ _ _ c.loop-alloc.invariant.0 c.in_ok-entries.ensures.told,
      c.in_ok-entries.ensures.loan ∙ c.loop-alloc.invariant.1,
      λ honest es n. subst (λ (xs : List Entry). Sought key (body_of image) xs es)
          (sym c.in_ok-pass.ensures.ok)
          (still_sought key image c.in_ok-entries.entries (but_first c.loop-alloc.places) es none
          (c.in_ok-entries.ensures.found honest es (c.loop-alloc.invariant.2 honest es n))),
      λ honest. search_goes_on key (body_of image) _ c.loop-alloc.places c.pass.new.self
          c.in_ok-entries.entries (c.loop-alloc.invariant.3 honest)
          (sym c.is_at_end.ensures ∙ c.loop-alloc-test.true)
          (c.in_ok-entries.ensures.exact honest) none c.in_ok-pass.ensures.ok,
    )

pub returns-clause-found : goal.returns-clause-found
returns-clause-found g c honest es n =
    let image = g.S.Receipt.TableReceipt.image c.args.receipt.now in
    let end = sym c.is_at_end.ensures ∙ c.loop-alloc-test.false in (
      c.loop-alloc.places,
      at_end c.loop-alloc.places end,
      (sought_end (key_of c.args.key.now) image c.loop-alloc.places es end
          (c.loop-alloc.invariant.2 honest es n)).1,
    )

pub returns-in_err-entries-clause-exact : goal.returns-in_err-entries-clause-exact
returns-in_err-entries-clause-exact g c honest =
    let p = err_from_is_err_and c.from_residual-in_err-entries.result
    c.from_residual-in_err-entries.ensures.1 in
    rw (p.1, p.2) (search_fails (λ (es : List Entry). es) or_none c.in_err-entries.field-0.0
    (key_of c.args.key.now) (body_of (g.S.Receipt.TableReceipt.image c.args.receipt.now)) _
    c.loop-alloc.places (c.loop-alloc.invariant.3 honest)
    (sym c.is_at_end.ensures ∙ c.loop-alloc-test.true) (c.in_err-entries.ensures.exact honest))

pub returns-then-not-is_at_end-clause-exact : goal.returns-then-not-is_at_end-clause-exact
returns-then-not-is_at_end-clause-exact g c honest =
    search_found (key_of c.args.key.now)
    (body_of (g.S.Receipt.TableReceipt.image c.args.receipt.now)) _ c.loop-alloc.places
    c.in_ok-entries.entries (c.loop-alloc.invariant.3 honest)
    (sym c.is_at_end.ensures ∙ c.loop-alloc-test.true) (c.in_ok-entries.ensures.exact honest)
    (sym c.is_at_end-in-loop-alloc.ensures ∙ c.if-not-is_at_end.true)

pub returns-clause-exact : goal.returns-clause-exact
returns-clause-exact g c honest =
    search_ends (key_of c.args.key.now)
    (body_of (g.S.Receipt.TableReceipt.image c.args.receipt.now)) _ c.loop-alloc.places
    (c.loop-alloc.invariant.3 honest) (sym c.is_at_end.ensures ∙ c.loop-alloc-test.false)
