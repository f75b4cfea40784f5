-- What a user key answers where a program knows its tables (this project's rule).
use Rattle.std.specs.Prelude.{◌≡◌, ℕ, List, Option}
use Rattle.lsm_manifest.specs.Shape.{Form}
use Rattle.lsm_shelf.specs.Told.{Told}
use Rattle.lsm_verify.specs.CheckRefusal.{IsOfShape}
use Rattle.lsm_verify.specs.Settled.{KeepsAge}
use Rattle.lsm_version.specs.Versions.{Levels, files}
use Rattle.lsm_admission.specs.Answered.{IsAnswered}
use Rattle.lsm_admission.specs.KnownImages.{AreKnown}

-- Under each number lies the known image.
abbrev pub KnownImage : (ℕ → List ℕ) → ℕ → List ℕ → Type 0
KnownImage images number image = image ≡ images number

-- The known images are the tables of a version of this shape, whose ages are in order.
pub record KnowsTables (images : ℕ → List ℕ) (shape : Form) : Type 0 where
  pub version : Levels
  pub of_shape : IsOfShape shape version
  pub ages : KeepsAge (files version)
  pub known : AreKnown images version

-- The shelf gave a manifest; where the known images are the tables of its shape, the answer is that
-- of all entries. Nothing is asked of the shelf.
abbrev pub KnownAnswers : (ℕ → List ℕ) → List ℕ → Option (List ℕ) → Told → Told → Type 0
KnownAnswers images user a was is =
    (shape : Form) × IsAnswered (KnownImage images) (KnowsTables images shape) shape user a was is
