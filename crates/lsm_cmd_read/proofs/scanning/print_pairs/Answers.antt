use Rattle.std.proofs.Common.{◌≡◌, ◌∙◌, false, true, sym, inl, inr, arith, refl}
use Rattle.std.proofs.KnownBytes.{Keeps-refl}
use Rattle.std.proofs.lemmas.Result.{err_from_is_err_and}
use Rattle.lsm_shelf.proofs.CallerLemmas.{becomes_then}
use Rattle.lsm_directory.proofs.CallerLemmas.{keeps_then}
use Rattle.lsm_cmd_read.specs.Scanned.{is_full}
use Rattle.lsm_cmd_read.proofs.ScanLaws.{fits_next, passes_ascend, passes_begun, passes_done}
use Rattle.lsm_cmd_read.proofs.ScanLaws.{passes_then}
use Rattle.lsm_cmd_read.proofs.scanning.print_pairs.Goals as goal

pub returns-then-is_full-clause-done : goal.returns-then-is_full-clause-done
returns-then-is_full-clause-done g c = λ honest.
    let full : is_full c.args.options.now.limit c.loop-passed.printed ≡ true =
    sym c.is_full.ensures ∙ c.if-is_full.true in
    passes_done c.args.form c.args.options.now _ c.loop-passed.scan.left _ _ _
    (c.loop-passed.invariant.printed honest) c.loop-passed.invariant.fits (inl full)

pub returns-in_err-more-clause-left : goal.returns-in_err-more-clause-left
returns-in_err-more-clause-left g c = λ honest.
    let p = err_from_is_err_and c.from_residual.result c.from_residual.ensures.1 in
    rw (p.1, p.2) (λ other. passes_begun c.args.form c.args.options.now _ c.loop-passed.scan.left _
    _ _ _ (c.loop-passed.invariant.printed honest) c.loop-passed.invariant.fits
    (c.in_err-more.ensures.left other))

pub returns-then-not-more-clause-done : goal.returns-then-not-more-clause-done
returns-then-not-more-clause-done g c = λ honest.
    let next = rw c.if-not-more.true at (c.in_ok-more.ensures.next honest) in
    let all = passes_then c.args.form c.args.options.now _ _ c.print_next.new.scan.left _ _ _ _ _ _
    (c.loop-passed.invariant.printed honest) next.0 in
    let free : is_full c.args.options.now.limit c.loop-passed.printed ≡ false =
    sym c.is_full.ensures ∙ c.if-is_full.false in
    let fits = fits_next c.args.options.now.limit c.loop-passed.printed c.print_next.new.printed
    free c.print_next.ensures.one in
    passes_done c.args.form c.args.options.now _ c.print_next.new.scan.left _ _ _ all fits
    (inr (next.1 refl))

pub returns-clause-left : goal.returns-clause-left
returns-clause-left g c = λ honest other.
    passes_begun c.args.form c.args.options.now _ c.loop-passed.scan.left _ _ _ _
    (c.loop-passed.invariant.printed honest) c.loop-passed.invariant.fits (Keeps-refl _)

pub loop-passed-preserved : goal.loop-passed-preserved
loop-passed-preserved g c = record {
  told = becomes_then _ _ _ c.loop-passed.invariant.told c.print_next.ensures.told;
  quiet = λ asked. keeps_then _ _ _ (c.loop-passed.invariant.quiet asked)
      (c.tell_keys.ensures.quiet asked);
  loan = c.print_next.ensures.loan ∙ c.loop-passed.invariant.loan;
  few = omega (arith, c.loop-passed.invariant.few, c.print_next.ensures.one);
  fits =
      let free : is_full c.args.options.now.limit c.loop-passed.printed ≡ false =
      sym c.is_full.ensures ∙ c.if-is_full.false in
      fits_next c.args.options.now.limit c.loop-passed.printed c.print_next.new.printed free
      c.print_next.ensures.one;
  ascending = λ honest.
      let next = rw c.if-not-more.false at (c.in_ok-more.ensures.next honest) in
      passes_ascend c.args.form c.args.options.now _ c.print_next.new.scan.left _ _ _ _ next.0
      (c.loop-passed.invariant.ascending honest);
  printed = λ honest.
      let next = rw c.if-not-more.false at (c.in_ok-more.ensures.next honest) in
      passes_then c.args.form c.args.options.now _ _ c.print_next.new.scan.left _ _ _ _ _ _
      (c.loop-passed.invariant.printed honest) next.0;
}
