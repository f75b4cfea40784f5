-- A table that is begun, and its image.
use Rattle.std.proofs.Common.{◌≡◌, ℕ, List, [], ◌∷◌, ◌++◌, Some, None, refl, sym, ap, subst}
use Rattle.lsm_codec.specs.Keys.{InternalKey, IsKey}
use Rattle.lsm_codec.specs.Entries.{Entry, internal_key}
use Rattle.lsm_block.specs.Building.{last_key}
use Rattle.lsm_table.specs.Table.{IsTable, IsImage}
use Rattle.lsm_table.specs.TableImage.{IsBegun}

-- the last entry is that of the last key
last_some : (es : List Entry) (key : InternalKey) → last_key es ≡ Some key → (front : List Entry) × (l : Entry) × (es ≡ front ++ l ∷ []) × (internal_key l ≡ key)
last_some [] key h = absurd (cc h)
last_some (e ∷ []) key h = ([], e, refl, (cc h))
last_some (e ∷ f ∷ es) key h = (let r = last_some (f ∷ es) key h in (e ∷ r.0, r.1, ap (λ (l : List Entry). e ∷ l) r.2, r.3))

last_none : (es : List Entry) → last_key es ≡ None → es ≡ []
last_none [] h = refl
last_none (e ∷ []) h = absurd (cc h)
last_none (e ∷ f ∷ es) h = absurd (cc (last_none (f ∷ es) h))

-- a table that is begun has a last key
pub begun_has : (smallest : List ℕ) (es : List Entry) → IsBegun smallest es → last_key es ≡ None → ⊥
begun_has smallest [] b h = b
begun_has smallest (e ∷ es) b h = absurd (cc (last_none (e ∷ es) h))

pub image_of : (es : List Entry) (smallest largest image : List ℕ) (key : InternalKey) → IsBegun smallest es → last_key es ≡ Some key → IsKey largest key → IsTable image es
    → IsImage es smallest largest image
image_of [] smallest largest image key b h l t = absurd b
image_of (e ∷ es) smallest largest image key b h l t =
    let r = last_some (e ∷ es) key h in
    record {
      first = e;
      rest = es;
      front = r.0;
      last = r.1;
      table = t;
      begins = refl;
      ends = r.2;
      smallest_is = b;
      largest_is = subst (IsKey largest) (sym r.3) l;
    }
