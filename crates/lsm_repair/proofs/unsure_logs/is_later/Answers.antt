use Rattle.std.proofs.Common.{◌≡◌, ◌<◌, ◌≤◌, arith}
use Rattle.lsm_directory.specs.declared.folder.file_kind.FileKind.TheVariants.{Manifest}
use Rattle.lsm_repair.proofs.UnsureLaws.{not_later}
use Rattle.lsm_repair.proofs.unsure_logs.is_later.Goals as goal

pub returns-then-number-other : goal.returns-then-number-other
returns-then-number-other c =
    let above : c.args.number < c.in-Manifest.other = omega (arith, c.if-number-other.true) in
    (c.in-Manifest.other, c.in-Manifest.ensures.known (λ e. cc), above)

pub returns-else-number-other : goal.returns-else-number-other
returns-else-number-other c =
    let low : c.in-Manifest.other ≤ c.args.number = omega (arith, c.if-number-other.false) in
    not_later c.args.number c.in-Manifest.other c.args.name.now low
    (λ n h. (let e = c.in-Manifest.ensures.found (Manifest n) h in cc))

pub returns-in_default : goal.returns-in_default
returns-in_default c = λ h.
    c.in_default.not-Manifest h.0 (c.kind_of.ensures.found (Manifest h.0) h.1)
