use Rattle.lsm_manifest.specs.Standing.{file_at}
use Rattle.lsm_manifest.specs.Replay.{NamesOther}
use Rattle.lsm_manifest.proofs.StandingLaws.{tracks_edit, fault_of, ok_then, err_then}
use Rattle.lsm_manifest.proofs.standing.Standing.apply.Goals as goal

pub returns-clause-ok : goal.returns-clause-ok
returns-clause-ok c =
    let same : NamesOther c.args.edit.now → ⊥ = λ n. absurd (let t = c.names_other.ensures.1 n in let f = c.if-names_other.false in cc) in
    let first = rw c.as_slice.ensures at c.delete_all.ensures in
    let then = rw c.as_slice-2.ensures at c.add_all.ensures.ok in
    ok_then c.add_all.result then (λ p. λ es t.
    let q = p es c.args.edit.now.deleted (first es t) in
    (tracks_edit es c.args.edit.now (file_at c.add_all.new.self) q.0, record { comparator = same; added = q.1 }))

pub returns-clause-err : goal.returns-clause-err
returns-clause-err c =
    let same : NamesOther c.args.edit.now → ⊥ = λ n. absurd (let t = c.names_other.ensures.1 n in let f = c.if-names_other.false in cc) in
    let first = rw c.as_slice.ensures at c.delete_all.ensures in
    let then = rw c.as_slice-2.ensures at c.add_all.ensures.err in
    err_then _ _ c.add_all.result then (λ e p. λ es t. fault_of es c.args.edit.now e same (p es c.args.edit.now.deleted (first es t)))
