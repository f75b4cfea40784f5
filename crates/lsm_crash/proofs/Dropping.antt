-- Another manifest is removed behind a plan.
use Rattle.std.proofs.Common.{◌≡◌, ℕ, ◌<◌, ◌^◌, List, [], ◌∷◌, refl, sym, ◌∙◌, ap, subst, inl, inr}
use Rattle.std.proofs.Common.{◌⊎◌, Some, None}
use Rattle.std.specs.Prelude.{Ok}
use Rattle.lsm_codec.specs.Lists.{Has}
use Rattle.lsm_folder.specs.Calls.{removed}
use Rattle.lsm_storage.specs.FileNames.{manifest_name, current_text}
use Rattle.lsm_storage.specs.Plans.{Step as Asked, start_plan}
use Rattle.lsm_crash.specs.Disk.{Disk, Shows, without}
use Rattle.lsm_crash.specs.Versions.{AreThere, Tables, Version}
use Rattle.lsm_crash.specs.Known.{IsHeld, IsSettled, Known, World, current_name, known_of}
use Rattle.lsm_crash.specs.Operations.{Allows, Append, MayStart, Operation, Put, Remove, Start}
use Rattle.lsm_crash.specs.Operations.{after, either, started, starting}
use Rattle.lsm_crash.specs.Among.{CutDropping, DoneAmong, DoneDropping, Drops}
use Rattle.lsm_crash.proofs.Disks.{named_at}
use Rattle.lsm_crash.proofs.Held.{held_wider, only, settled_gap, settled_held, settled_step}
use Rattle.lsm_crash.proofs.Appending.{pair}
use Rattle.lsm_crash.proofs.Tables.{set_cases, settled_either}
use Rattle.lsm_crash.proofs.Cleaning.{settled_less, spare_clear}
use Rattle.lsm_crash.proofs.Calls.{no_gap}
use Rattle.lsm_crash.proofs.Instances.{start_can}
use Rattle.lsm_crash.proofs.Starting.{start_cut, start_done, started_either}

-- none is removed
pub no_drop : (tables : Tables) (manifest : ℕ) (plan : List Asked) (d e : Disk)
    → DoneAmong tables plan d e → DoneDropping tables manifest plan d e
no_drop tables manifest plan d e h = (e, h, inl refl)

-- any other one is
pub drop_can : (tables : Tables) (number m : ℕ) (bytes : List ℕ) (d : Disk) → m < 2 ^ 64
    → (m ≡ number → ⊥) → (e : Disk) × DoneDropping tables number (start_plan number bytes) d e
    × (e.names (manifest_name m) ≡ None)
drop_can tables number m bytes d small other =
    let start = start_can tables number bytes d in
    let M = manifest_name m in
    let e = without M start.0 in (
      e,
      (start.0, start.1, inr (m, small, other, Ok tt, e, refl, no_gap tables e)),
      named_at start.0.names M None,
    )

-- all that is counted on stays
pub drops_settled : (w : World) (d e : Disk) → Drops w.tables w.manifest d e → IsSettled d w
    → IsSettled e w
drops_settled w d e (inl same) i = subst (λ x. IsSettled x w) (sym same) i
drops_settled w d e (inr (m, small, other, a, mid, step, gap)) i =
    settled_gap w mid e gap
    (settled_step d mid w (removed (manifest_name m) a)
    (spare_clear d w (manifest_name m) a i (inl (m, small, other, refl))) step i)

-- ---- behind a start over whatever is known

module _ (k : Known) (number : ℕ) (bytes : List ℕ) (v : Version)
    (ok : MayStart k number bytes v) where
  pub follow_done : (d e : Disk) → IsHeld d k
      → DoneDropping k.tables number (start_plan number bytes) d e
      → IsSettled e (started k number bytes v)
  follow_done d e i (mid, h, drops) =
      drops_settled (started k number bytes v) mid e drops
      (start_done k number bytes v ok d mid i h)

  pub follow_cut : (d e : Disk) → IsHeld d k
      → CutDropping k.tables number (start_plan number bytes) d e → IsHeld e k
      ⊎ (IsHeld e (starting k number v) × Shows e current_name (current_text number))
  follow_cut d e i (inl h) = start_cut k number bytes v ok d e i h
  follow_cut d e i (inr h) =
      started_either k number bytes v ok e i.small i.there (follow_done d e i h)

-- ---- what is known behind an operation, where its answer did not come

none_is : (image : List ℕ) → None ≡ Some image → ⊥
none_is image e = cc

pub done_held : (d e : Disk) (w : World) (o : Operation) → IsSettled d w → Allows w o
    → IsSettled e (after w o) → IsHeld e (either w o)
done_held d e w (Put number image) i ok j =
    settled_either e w w (Put number image) refl refl refl refl refl
    (settled_less e (after w (Put number image)) w.tables j
    (λ n img is. elim (set_cases w.tables number (Some image) n) [
      | inl h ↦ absurd (none_is img (sym ok.1 ∙ (ap w.tables (sym h.0) ∙ is)))
      | inr h ↦ h.1 ∙ is
    ]) i.there)
done_held d e w (Remove number) i ok j =
    settled_either e w (after w (Remove number)) (Remove number) refl refl refl refl refl j
done_held d e w (Append text v) i ok j =
    held_wider e (known_of (after w (Append text v))) (either w (Append text v)) record {
      may_miss = λ x. x;
      manifests = only w.manifest (Has (w.manifest ∷ w.manifest ∷ [])) (inl refl);
      small = pair w.manifest w.manifest (λ m. m < 2 ^ 64) j.small j.small;
      versions = only v (Has (v ∷ w.version ∷ [])) (inl refl);
      tables = λ n image is. is;
      there = pair v w.version (λ u. AreThere u w.tables) ok.1 i.there;
    } (settled_held e (after w (Append text v)) j)
done_held d e w (Start number bytes v) i ok j =
    held_wider e (known_of (after w (Start number bytes v)))
    (either w (Start number bytes v)) record {
      may_miss = λ x. x;
      manifests = only number (Has (number ∷ w.manifest ∷ [])) (inl refl);
      small = pair number w.manifest (λ m. m < 2 ^ 64) j.small i.small;
      versions = only v (Has (v ∷ w.version ∷ [])) (inl refl);
      tables = λ n image is. is;
      there = pair v w.version (λ u. AreThere u w.tables) ok.there i.there;
    } (settled_held e (after w (Start number bytes v)) j)
