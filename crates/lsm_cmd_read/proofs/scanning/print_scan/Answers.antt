use Rattle.std.proofs.Common.{inl, subst}
use Rattle.std.proofs.KnownBytes.{Keeps-refl}
use Rattle.std.proofs.lemmas.Result.{err_from_is_err_and}
use Rattle.lsm_model.specs.Files.{all_entries}
use Rattle.lsm_model.specs.Scanning.{IsScan}
use Rattle.lsm_iterators.specs.Seeking.{at_or_past}
use Rattle.lsm_version.specs.Versions.{files}
use Rattle.lsm_cmd_read.proofs.BeginLaws.{done_scan, left_scan, shows}
use Rattle.lsm_cmd_read.proofs.scanning.print_scan.Goals as goal

pub returns-in_err-scan-clause-left : goal.returns-in_err-scan-clause-left
returns-in_err-scan-clause-left g c =
    let p = err_from_is_err_and c.from_residual.result c.from_residual.ensures.1 in
    rw (p.1, p.2) (λ other. inl (Keeps-refl _))

pub returns-clause-done : goal.returns-clause-done
returns-clause-done g c honest =
    let v = c.args.version.now in
    let from = c.first_within-from.result.now in
    done_scan c.args.form c.print_open.result c.args.options.now v c.in_ok-scan.scan.left _ _
    (shows v c.args.options.now.bounds from c.in_ok-scan.scan.left (c.last.ensures.sound honest)
    (subst (λ last. IsScan last (at_or_past from (all_entries (files v))) c.in_ok-scan.scan.left)
    c.last.ensures.last (c.in_ok-scan.ensures.scanned honest)) c.first_within-from.ensures)
    (c.print_open.ensures.done honest)

pub returns-clause-left : goal.returns-clause-left
returns-clause-left g c =
    let v = c.args.version.now in
    let from = c.first_within-from.result.now in
    left_scan c.args.form c.print_open.result g.S.Shelf.honest c.args.options.now v
    c.in_ok-scan.scan.left _ _
    (λ honest. shows v c.args.options.now.bounds from c.in_ok-scan.scan.left
    (c.last.ensures.sound honest)
    (subst (λ last. IsScan last (at_or_past from (all_entries (files v))) c.in_ok-scan.scan.left)
    c.last.ensures.last (c.in_ok-scan.ensures.scanned honest)) c.first_within-from.ensures)
    c.print_open.ensures.left
