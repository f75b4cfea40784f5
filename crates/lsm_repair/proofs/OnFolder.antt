-- A folder that is repaired, by a shelf on a fork of it.
use Rattle.std.proofs.Common.{◌≡◌, ◌∙◌, ℕ, ◌+◌, List, refl, ap, subst, inl, inr}
use Rattle.std.specs.Prelude.{IfErr, IfOk, OnOk, Result, Ok, Err}
use Rattle.lsm_folder.specs.declared.folder_calls.FolderCalls.{Ghosts}
use Rattle.lsm_folder.specs.declared.mark.Mark as mark
use Rattle.lsm_shelf.specs.Refusals.{MayRefuse}
use Rattle.lsm_shelf.specs.Told.{fresh}
use Rattle.lsm_shelf.specs.declared.shelf_fault.ShelfFault.{ShelfFault}
use Rattle.lsm_storage.specs.Plans.{WriteStopped, done, start_plan}
use Rattle.lsm_storage.specs.declared.file.file_shelf.FileShelf.{FileShelf}
use Rattle.lsm_directory.specs.Folders.{stored_at, told_by}
use Rattle.lsm_repair.specs.Mending.{IsMended, IsUnmended, PutsAtMost}
use Rattle.lsm_repair.specs.Repairing.{FailsOn, PicksNumber, RepairsOn}
use Rattle.lsm_repair.specs.UnsureLogs.{AreUnsure}
use Rattle.lsm_repair.specs.declared.mend_fault.MendFault.{MendFault}
use Rattle.lsm_repair.specs.declared.mend_fault.MendFault.TheVariants.{Unwritten}
use Rattle.lsm_repair.specs.declared.mending.Mended.{Mended}
use Rattle.lsm_repair.specs.declared.repairing.Repaired.{Repaired}

module _ {C M : Type 0} (folders : Ghosts C M) (marks : mark.Ghosts M)
    (old looked fork last : C) (begun ended : FileShelf C M) (names : List (List ℕ)) (number : ℕ)
    (told : told_by folders begun ≡ fresh (folders.place fork))
    (same : folders.place fork ≡ folders.place looked)
    (kept : folders.place looked ≡ folders.place old)
    (picked : PicksNumber names number (folders.calls old) (folders.calls looked)) where
  -- what was mended
  abbrev pub Mends : Result Mended MendFault → Type 0
  Mends r = IfOk r (λ (m : Mended).
      IsMended (stored_at folders marks (told_by folders begun).place) MayRefuse number
      m.manifest.items m.logs m.tables m.entries m.left.items (told_by folders begun)
      (told_by folders ended))

  mends_ok : (m : Mended) (r : Result Mended MendFault) → r ≡ Ok m → Mends r
      → IsMended (stored_at folders marks (told_by folders begun).place) MayRefuse number
      m.manifest.items m.logs m.tables m.entries m.left.items (told_by folders begun)
      (told_by folders ended)
  mends_ok m r is mended = subst Mends is mended

  pub done_on : (m : Mended) (r : Result Mended MendFault) → r ≡ Ok m → Mends r
      → (unsure : List ℕ) → AreUnsure m.logs names unsure
      → (b : Result Repaired MendFault) → OnOk b (folders.calls last
      ≡ done (start_plan (number + 1) m.manifest.items) (folders.calls looked))
      → IfOk b (λ (p : Repaired). (p.tables ≡ m.tables) × (p.entries ≡ m.entries)
      × (p.left.items ≡ m.left.items) × (p.unsure.items ≡ unsure))
      → IfOk b (λ (p : Repaired).
      RepairsOn folders marks old last p.tables p.entries p.left.items p.unsure.items)
  done_on m r is mended unsure are (Ok p) named told_of = record {
    names = names;
    number = number;
    looked = folders.calls looked;
    picked = picked;
    begun = begun;
    fresh_shelf = told ∙ ap fresh (same ∙ kept);
    ended = ended;
    manifest = m.manifest.items;
    logs = m.logs;
    mended = rw (told_of.0, told_of.1, told_of.2) (mends_ok m r is mended);
    named = named;
    unsure_are = rw told_of.3 are;
  }
  done_on m r is mended unsure are (Err e) named told_of = tt

  pub unnamed_on : (m : Mended) (r : Result Mended MendFault) → r ≡ Ok m → Mends r
      → PutsAtMost number (told_by folders begun) (told_by folders ended)
      → (b : Result Repaired MendFault) → IfErr b (λ (e : MendFault). (fault : ShelfFault)
      × (e ≡ Unwritten fault) × WriteStopped (number + 1) m.manifest.items fault
      (folders.calls looked) (folders.calls last)) → IfErr b (FailsOn folders marks old last)
  unnamed_on m r is mended puts (Ok p) stopped = tt
  unnamed_on m r is mended puts (Err e) (fault, named, stopped) = inr (inr record {
    names = names;
    number = number;
    looked = folders.calls looked;
    picked = picked;
    begun = begun;
    fresh_shelf = told ∙ ap fresh (same ∙ kept);
    ended = ended;
    at_most = puts;
    why = inr (
      m.manifest.items,
      m.logs,
      m.tables,
      m.entries,
      m.left.items,
      fault,
      named,
      mends_ok m r is mended,
      stopped,
    );
  })

  pub unmended_on : (e : MendFault) (r : Result Mended MendFault) → r ≡ Err e
      → IfErr r (IsUnmended (stored_at folders marks (told_by folders begun).place) MayRefuse number
      (told_by folders begun) (told_by folders ended))
      → PutsAtMost number (told_by folders begun) (told_by folders ended)
      → FailsOn folders marks old looked e
  unmended_on e r is unmended puts = inr (inr record {
    names = names;
    number = number;
    looked = folders.calls looked;
    picked = picked;
    begun = begun;
    fresh_shelf = told ∙ ap fresh (same ∙ kept);
    ended = ended;
    at_most = puts;
    why = inl (
      subst (λ (x : Result Mended MendFault). IfErr x (IsUnmended
          (stored_at folders marks (told_by folders begun).place) MayRefuse number
          (told_by folders begun) (told_by folders ended))) is unmended,
      refl,
    );
  })
