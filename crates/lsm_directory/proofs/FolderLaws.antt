-- A shelf on the folder at a path.
use Rattle.std.proofs.Common.{◌≡◌, ◌∙◌, ℕ, List, [], ◌∷◌, ap, subst, sym}
use Rattle.lsm_folder.specs.Calls.{Call, opened}
use Rattle.lsm_folder.specs.declared.folder_calls.FolderCalls.{Ghosts}
use Rattle.lsm_shelf.specs.Place.{IsAtPath, Place}
use Rattle.lsm_shelf.specs.Told.{Told, fresh}
use Rattle.lsm_storage.specs.FileShelf.{folder_of}
use Rattle.lsm_storage.specs.declared.file.file_shelf.FileShelf.{FileShelf}
use Rattle.lsm_directory.specs.Folders.{IsShelfAt, told_by}

module _ {C M : Type 0} (folders : Ghosts C M) where
  pub shelf_at : (path : List ℕ) (Called : List Call → List Call → Type 0) (first : C) (shelf : FileShelf C M) → IsAtPath path (folders.place first) → folders.calls first ≡ opened ∷ []
      → Called (folders.calls first) (folders.calls (folder_of shelf)) → told_by folders shelf ≡ fresh (folders.place first) → IsShelfAt folders path Called shelf
  shelf_at path Called first shelf at none called new =
      let same : folders.place (folder_of shelf) ≡ folders.place first = ap (λ (t : Told). t.place) new in
      record {
        on = record {
          at = subst (λ (p : Place). IsAtPath path p) (sym same) at;
          called = subst (λ (cs : List Call). Called cs (folders.calls (folder_of shelf))) none called;
        };
        new = new ∙ ap fresh (sym same);
      }

  -- of a folder that was asked for something since it was opened
  pub shelf_over : (path : List ℕ) (Called : List Call → List Call → Type 0) (first now : C) (shelf : FileShelf C M) → IsAtPath path (folders.place first) → folders.calls first ≡ opened ∷ []
      → Called (folders.calls first) (folders.calls now) → folders.place now ≡ folders.place first → folder_of shelf ≡ now → told_by folders shelf ≡ fresh (folders.place now)
      → IsShelfAt folders path Called shelf
  shelf_over path Called first now shelf at none called same on new =
      shelf_at path Called first shelf at none (subst (λ (f : C). Called (folders.calls first) (folders.calls f)) (sym on) called) (new ∙ ap fresh same)
