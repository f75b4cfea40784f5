-- Each version that a judgment can give has images by which a program may know its tables.
use Rattle.std.proofs.Common.{◌≡◌, ◌∙◌, ◌==◌, ℕ, zero, suc, Bool, true, false, cond, List, [], ◌∷◌}
use Rattle.std.proofs.Common.{refl, sym, ap, inl, inr}
use Rattle.std.specs.Prelude.{◌⊎◌}
use Rattle.std.proofs.lemmas.Bool.{eq-eqb, eqb-true}
use Rattle.lsm_codec.specs.Lists.{Has}
use Rattle.lsm_table.specs.Registry.{Table}
use Rattle.lsm_manifest.specs.Shape.{Form}
use Rattle.lsm_verify.specs.CheckRefusal.{IsOfShape}
use Rattle.lsm_verify.specs.Settled.{KeepsAge}
use Rattle.lsm_version.specs.FileNumbers.{AreDistinct, numbers_of}
use Rattle.lsm_version.specs.Versions.{Levels, files, level_in}
use Rattle.lsm_admission.specs.KnownAnswers.{KnowsTables}
use Rattle.lsm_admission.specs.KnownImages.{image_of, images_of}
use Rattle.lsm_admission.proofs.JudgedKept.{one_image}

-- a table of the number is among these
abbrev Stands : ℕ → List Table → Type 0
Stands number ts = (t : Table) × Has ts t × (t.number ≡ number)

-- what holds of each image of the number holds of the one that is picked
picked : (P : List ℕ → Type 0) (ts : List Table) (number : ℕ) (other : List ℕ)
    → ((t : Table) → Has ts t → t.number ≡ number → P t.image)
    → Stands number ts ⊎ P other → P (image_of ts number other)
picked P [] number other each (inl s) = absurd s.1
picked P [] number other each (inr p) = p
picked P (u ∷ ts) number other each s = go (u.number == number) refl
    (λ other_one. picked P ts number other (λ t h at. each t (inr h) at) (rest other_one s))
  where
    rest : (u.number == number) ≡ false → Stands number (u ∷ ts) ⊎ P other
        → Stands number ts ⊎ P other
    rest apart (inl (t, inl e, at)) =
        let yes : (u.number == number) ≡ true = eq-eqb u.number number
        (ap (λ (x : Table). x.number) e ∙ at) in absurd (cc (sym yes ∙ apart))
    rest apart (inl (t, inr h, at)) = inl (t, h, at)
    rest apart (inr p) = inr p

    go : (b : Bool) → (u.number == number) ≡ b
        → ((u.number == number) ≡ false → P (image_of ts number other))
        → P (cond b u.image (image_of ts number other))
    go true e more = each u (inl refl) (eqb-true u.number number e)
    go false e more = more e

picked_in : (P : List ℕ → Type 0) (levels : List (List Table)) (number n : ℕ) (t : Table)
    → ((m : ℕ) (u : Table) → Has (level_in levels m) u → u.number ≡ number → P u.image)
    → Has (level_in levels n) t → t.number ≡ number → P (images_of levels number)
picked_in P [] number n t each h at = absurd h
picked_in P (ts ∷ levels) number zero t each h at = picked P ts number (images_of levels number)
    (λ u k is. each zero u k is) (inl (t, h, at))
picked_in P (ts ∷ levels) number (suc n) t each h at = picked P ts number (images_of levels number)
    (λ u k is. each zero u k is)
    (inr (picked_in P levels number n t (λ m u k is. each (suc m) u k is) h at))

pub version_known : (shape : Form) (v : Levels) → IsOfShape shape v
    → AreDistinct (numbers_of shape.levels) → KeepsAge (files v)
    → KnowsTables (images_of v.tables) shape
version_known shape v of own ages = record {
  version = v;
  of_shape = of;
  ages = ages;
  known = λ n t h. picked_in (λ (image : List ℕ). image ≡ t.image) v.tables t.number n t
      (λ m u k at. one_image shape v of own n t u.image h (m, u, k, at, refl)) h refl;
}
