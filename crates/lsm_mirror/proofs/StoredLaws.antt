-- What a mirror stores is what it shows.
use Rattle.std.proofs.Common.{◌≡◌, ◌≤◌, ◌^◌, ℕ, List, length, Bool, true, false}
use Rattle.std.proofs.Common.{refl, sym, ap, ◌∙◌, subst, inl, inr}
use Rattle.std.specs.Prelude.{Option, Some}
use Rattle.lsm_shelf.specs.Stored.{Stored}
use Rattle.lsm_shelf.specs.declared.table_receipt.TableReceipt.{Ghosts}
use Rattle.lsm_mirror.specs.Mirrored.{IsMirrored, MirrorStored, image_of, number_of}
use Rattle.lsm_mirror.specs.Shown.{CanBeShown, IsBeside, IsShown, Shown, plain_image, shown_image}
use Rattle.lsm_mirror.specs.declared.mirror_receipt.MirrorReceipt.{MirrorReceipt}
use Rattle.lsm_mirror.specs.declared.mirror_receipt.MirrorReceipt.TheVariants.{Direct, Plain, Made}

module _ {C : Type 0} (receipts : Ghosts C) (Here : C → Type 0) (shown : Shown) where
  -- what a receipt stands for is shown
  of_receipt : (r : MirrorReceipt C receipts) → IsMirrored receipts Here shown r
      → IsShown (Stored C Here receipts.number receipts.image) shown (number_of receipts r)
      (image_of receipts r)
  of_receipt (Direct r) (here, beside, off) =
      inr (
        beside,
        receipts.image r,
        (r, here, refl, refl),
        subst (λ b. CanBeShown b (receipts.image r)) (sym off) tt,
        subst (λ b. receipts.image r ≡ shown_image b (receipts.image r)) (sym off) refl,
      )
  of_receipt (Plain r) (here, beside, on, plain) =
      inr (
        beside,
        receipts.image r.receipt,
        (r.receipt, here, refl, refl),
        subst (λ b. CanBeShown b (receipts.image r.receipt)) (sym on) plain,
        subst (λ b. plain_image (receipts.image r.receipt)
            ≡ shown_image b (receipts.image r.receipt)) (sym on) refl,
      )
  of_receipt (Made m) is = inl is

  pub stored_shown : (number : ℕ) (image : List ℕ) → MirrorStored receipts Here shown number image
      → IsShown (Stored C Here receipts.number receipts.image) shown number image
  stored_shown number image (r, here, named, imaged) =
      subst (λ n. IsShown (Stored C Here receipts.number receipts.image) shown n image) named
      (subst (λ i. IsShown (Stored C Here receipts.number receipts.image) shown
      (number_of receipts r) i) imaged (of_receipt r here))

  -- a table below is stored as it is shown
  below_stored : (b : Bool) (number : ℕ) (image packed : List ℕ) (r : C) → length image ≤ 2 ^ 30
      → shown.inflates ≡ b → IsBeside shown.made (receipts.number r) → Here r
      → receipts.number r ≡ number → receipts.image r ≡ packed → CanBeShown b packed
      → image ≡ shown_image b packed → MirrorStored receipts Here shown number image
  below_stored false number image packed r small off beside here named imaged can is =
      (Direct r, (here, beside, off), named, imaged ∙ sym is)
  below_stored true number image packed r small on beside here named imaged can is = (
    Plain record {
      receipt = r;
      size = length image;
      sized = ap length is ∙ ap (λ x. length (plain_image x)) (sym imaged);
      limit = small;
    },
    (here, beside, on, subst (λ x. CanBeShown true x) (sym imaged) can),
    named,
    ap plain_image imaged ∙ sym is,
  )

  pub shown_stored : (number : ℕ) (image : List ℕ) → length image ≤ 2 ^ 30
      → IsShown (Stored C Here receipts.number receipts.image) shown number image
      → MirrorStored receipts Here shown number image
  shown_stored number image small (inl made) = (
    Made record {
      number = number;
      size = length image;
      image = record { marker = record {}; numbers = image };
      sized = refl;
      limit = small;
    },
    made,
    refl,
    refl,
  )
  shown_stored number image small (inr (beside, packed, (r, here, named, imaged), can, is)) =
      below_stored shown.inflates number image packed r small refl
      (subst (λ n. IsBeside shown.made n) (sym named) beside) here named imaged can is

-- the table that lies nowhere, under another name of its parts
pub made_is : (made : Option (ℕ × List ℕ)) (m n : ℕ) (image bytes : List ℕ)
    → made ≡ Some (m, image) → n ≡ m → bytes ≡ image → made ≡ Some (n, bytes)
made_is made m n image bytes is number same =
    subst (λ x. made ≡ Some (x, bytes)) (sym number) (subst (λ y. made ≡ Some (m, y)) (sym same) is)
