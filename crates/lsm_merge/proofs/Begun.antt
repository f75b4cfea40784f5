-- The last entry of an output in the making.
use Rattle.std.proofs.Common.{◌≡◌, ℕ, Bool, List, [], ◌∷◌, Some, ap, ◌∙◌}
use Rattle.std.proofs.Math.Bool.{and_comm}
use Rattle.std.specs.Prelude.{not, ◌&&◌, nat_le}
use Rattle.std.specs.Str.{bytes_eq}
use Rattle.lsm_codec.specs.Keys.{InternalKey, UserKey}
use Rattle.lsm_codec.specs.Entries.{Entry, internal_key}
use Rattle.lsm_block.specs.Building.{last_key}
use Rattle.lsm_merge.specs.Cuts.{closes, ends_with}

pub ends_last : (es : List Entry) (key : InternalKey) (k : UserKey) → last_key es ≡ Some key → ends_with es k ≡ bytes_eq key.user k
ends_last [] key k h = absurd (cc h)
ends_last (e ∷ []) key k h = ap (λ (w : InternalKey). bytes_eq w.user k) (let z : internal_key e ≡ key = (cc h) in z)
ends_last (e ∷ f ∷ es) key k h = ends_last (f ∷ es) key k h

-- the test of an output that has entries
pub closes_some : (size : List Entry → ℕ) (target : ℕ) (es : List Entry) (key : InternalKey) (k : UserKey) → last_key es ≡ Some key
    → closes size target es k ≡ (nat_le target (size es) && not (bytes_eq key.user k))
closes_some size target [] key k h = absurd (cc h)
closes_some size target (e ∷ es) key k h =
    ap (λ (b : Bool). not b && nat_le target (size (e ∷ es))) (ends_last (e ∷ es) key k h) ∙ and_comm (not (bytes_eq key.user k)) (nat_le target (size (e ∷ es)))
