use Rattle.std.proofs.Common.{ℕ, inr, refl, subst, sym}
use Rattle.lsm_shelf.specs.Refusals.{MayRefuse}
use Rattle.lsm_shelf.specs.Told.{Becomes, finding}
use Rattle.lsm_journal.specs.Recovering.{IsRecoverRefusal, IsRecovered}
use Rattle.lsm_directory.specs.Folders.{told_by}
use Rattle.lsm_commands.proofs.noting.see.Goals as goal

pub returns-in-Ok-clause-seen : goal.returns-in-Ok-clause-seen
returns-in-Ok-clause-seen g c =
    let r = c.in-Ok.found in
    let told : Becomes (finding r.journal.number r.journal.bytes
    (told_by g.C.FolderCalls c.in_ok-shelf.shelf))
    (told_by g.C.FolderCalls c.recover_manifest-found.result.1) =
    rw c.in-Ok.is at c.recover_manifest-found.ensures.found in
    let recovered : IsRecovered r.journal r.shape r.rest =
    rw c.in-Ok.is at c.recover_manifest-found.ensures.recovered in
    record {
      seen = c.in_ok-shelf.beside;
      begun = c.in_ok-shelf.shelf;
      on = c.in_ok-shelf.ensures.found;
      ended = c.recover_manifest-found.result.1;
      held = r.journal;
      shape = r.shape;
      recovered = subst (λ (n : ℕ). IsRecovered r.journal r.shape n) (sym c.named.ensures.rest)
          recovered;
      told = told;
      numbered = c.named.ensures.number;
      log = c.named.ensures.log;
      previous = c.named.ensures.previous;
      counts = c.counted.ensures;
    }

pub returns-in-Err-clause-unseen : goal.returns-in-Err-clause-unseen
returns-in-Err-clause-unseen g c =
    let refused : IsRecoverRefusal MayRefuse c.in-Err.fault
    (told_by g.C.FolderCalls c.in_ok-shelf.shelf)
    (told_by g.C.FolderCalls c.recover_manifest-found.result.1) =
    rw c.in-Err.is at c.recover_manifest-found.ensures.refused in
    inr (inr record {
      seen = c.in_ok-shelf.beside;
      begun = c.in_ok-shelf.shelf;
      on = c.in_ok-shelf.ensures.found;
      ended = c.recover_manifest-found.result.1;
      cause = c.in-Err.fault;
      is = refl;
      why = refused;
    })
