-- A version that was read of what a mirror shows.
use Rattle.std.proofs.Common.{◌≡◌, ◌∙◌, ℕ, List, [], Option, Some, None, ap, inl, inr, refl, subst}
use Rattle.std.proofs.Common.{sym}
use Rattle.std.specs.Prelude.{Bool}
use Rattle.lsm_folder.specs.Calls.{AreHonest}
use Rattle.lsm_folder.specs.declared.folder_calls.FolderCalls.{Ghosts}
use Rattle.lsm_folder.specs.declared.mark.Mark as mark
use Rattle.lsm_shelf.specs.Stored.{Stored}
use Rattle.lsm_shelf.specs.Told.{Told}
use Rattle.lsm_shelf.specs.declared.table_receipt.TableReceipt as table_receipt
use Rattle.lsm_storage.specs.FileShelf.{mark_of}
use Rattle.lsm_manifest.specs.Manifest.{IsManifest}
use Rattle.lsm_mirror.specs.Mirrored.{MirrorStored}
use Rattle.lsm_mirror.specs.Shown.{CanBeShown, IsBeside, IsShown, Shown, shown_found, shown_image}
use Rattle.lsm_mirror.specs.Shown.{shown_of}
use Rattle.lsm_mirror.specs.declared.mirror_receipt.MirrorReceipt.TheVariants.{Direct, Plain, Made}
use Rattle.lsm_preview.specs.Preview.{IsReadOf}
use Rattle.lsm_requests.specs.declared.directory_line.DirectoryLine.{DirectoryLine}
use Rattle.lsm_directory.specs.Folders.{stored_at, told_by}
use Rattle.lsm_cmd_read.specs.Seen.{SeesAt, file_receipts}

-- ---- the manifest

bytes_of : Option (ℕ × List ℕ) → List ℕ
bytes_of None = []
bytes_of (Some m) = m.1

same_bytes : (manifest : List ℕ) (found : Option (ℕ × List ℕ)) (number : ℕ) (bytes : List ℕ)
    → shown_found manifest found ≡ Some (number, bytes) → bytes ≡ manifest
unfolding bytes_of
same_bytes manifest None number bytes e = absurd cc
same_bytes manifest (Some m) number bytes e = sym (ap bytes_of e)

-- ---- tables

module _ {C : Type 0} (receipts : table_receipt.Ghosts C) (Here : C → Type 0) (shown : Shown) where
  -- what a mirror stores is shown
  stored_shown : (number : ℕ) (image : List ℕ) → MirrorStored receipts Here shown number image
      → IsShown (Stored C Here receipts.number receipts.image) shown number image
  stored_shown number image (Direct r, here, num, img) = inr (
    subst (λ (n : ℕ). IsBeside shown.made n) num here.1,
    receipts.image r,
    (r, here.0, num, refl),
    subst (λ (b : Bool). CanBeShown b (receipts.image r)) (sym here.2) tt,
    sym img ∙ ap (λ (b : Bool). shown_image b (receipts.image r)) (sym here.2),
  )
  stored_shown number image (Plain r, here, num, img) = inr (
    subst (λ (n : ℕ). IsBeside shown.made n) num here.1,
    receipts.image r.receipt,
    (r.receipt, here.0, num, refl),
    subst (λ (b : Bool). CanBeShown b (receipts.image r.receipt)) (sym here.2) here.3,
    sym img ∙ ap (λ (b : Bool). shown_image b (receipts.image r.receipt)) (sym here.2),
  )
  stored_shown number image (Made m, here, num, img) =
      inl (here ∙ ap (λ (n : ℕ). Some (n, m.image.numbers)) num
      ∙ ap (λ (i : List ℕ). Some (number, i)) img)

module _ {C M : Type 0} (folders : Ghosts C M) (marks : mark.Ghosts M)
    (honest : AreHonest folders.calls) where
  -- The version that a command looked into was read of the view.
  pub read_of : (line : DirectoryLine) (old new said told : Option (List ℕ))
      (s : SeesAt folders marks line old new said told)
      → IsReadOf (stored_at folders marks (told_by folders s.begun).place)
      (shown_of s.seen.preview.view) s.seen.done.done.looked.version
  read_of line old new said told s =
      let shown = shown_of s.seen.preview.view in
      let looked = s.seen.done.done.looked in
      let found = looked.holds.found in
      let recovered = found.loaded.recovered in
      let place = (told_by folders s.begun).place in
      let bytes : looked.holds.held.bytes ≡ shown.manifest =
      same_bytes shown.manifest (told_by folders s.ended).found looked.holds.held.number
      looked.holds.held.bytes
      (sym (ap (λ (t : Told). t.found) s.seen.done.mirrors) ∙ found.told.found) in
      record {
        edits = recovered.edits;
        rest = looked.manifest.rest;
        manifest = subst (λ (b : List ℕ). IsManifest b recovered.edits looked.manifest.rest) bytes
            recovered.manifest;
        shape = found.shape;
        replayed = recovered.replayed;
        of_shape = found.loaded.of_shape;
        given = λ k d lt. λ i t more. stored_shown (file_receipts folders marks)
            (λ r. folders.is_of place (mark_of r)) shown _ _
            (s.seen.done.done.given k d lt i t more);
        sound = found.loaded.sound honest;
      }
