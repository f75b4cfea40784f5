use Rattle.lsm_manifest.proofs.EditWriterLaws.{ok_more}
use Rattle.lsm_manifest.proofs.edit_writer.push_edit.Goals as goal

pub returns-clause-ok : goal.returns-clause-ok
returns-clause-ok c =
    let r = c.push_added.result in
    ok_more r _ _ _ _ _ (rw c.comparator.ensures.field at c.in_ok-push_optional.ensures.ok)
    (ok_more r _ _ _ _ _ (rw c.log.ensures.field at c.in_ok-push_optional-2.ensures.ok)
    (ok_more r _ _ _ _ _ (rw c.prev_log.ensures.field at c.in_ok-push_optional-3.ensures.ok)
    (ok_more r _ _ _ _ _ (rw c.next.ensures.field at c.in_ok-push_optional-4.ensures.ok)
    (ok_more r _ _ _ _ _ (rw c.last.ensures.field at c.in_ok-push_optional-5.ensures.ok)
    (ok_more r _ _ _ _ _ (rw c.as_slice.ensures at c.in_ok-push_pointers.ensures.ok)
    (ok_more r _ _ _ _ _ (rw c.as_slice-2.ensures at c.in_ok-push_deleted.ensures.ok)
    (rw c.as_slice-3.ensures at c.push_added.ensures.ok)))))))
