-- Two internal keys, the first at most the second.
use Rattle.std.proofs.Common.{◌≡◌, List, ℕ, true, false, sym, ◌∙◌, subst}
use Rattle.std.specs.Ordering.{is_le}
use Rattle.lsm_codec.specs.Keys.{InternalKey, IsKey, key_cmp}
use Rattle.lsm_codec.proofs.CallerLemmas.{IsKey-unique}
use Rattle.lsm_model.specs.Ranges.{key_le}
use Rattle.lsm_admission.specs.FoundTables.{IsBounds}

pub are_bounds : (smallest largest : List ℕ) (a b : InternalKey) → IsKey smallest a
    → IsKey largest b → is_le (key_cmp a b) ≡ true → IsBounds smallest largest
unfolding key_le
are_bounds smallest largest a b first end le = record
    { range = record { smallest = a; largest = b }; first = first; end = end; ascends = le }

pub not_ascending : (smallest largest : List ℕ) (a b : InternalKey) → IsKey smallest a
    → IsKey largest b → is_le (key_cmp a b) ≡ false → IsBounds smallest largest → ⊥
unfolding key_le
not_ascending smallest largest a b first end fails w =
    let bad : true ≡ false = sym (subst (λ (k : InternalKey). is_le (key_cmp k b) ≡ true)
    (IsKey-unique smallest w.range.smallest a w.first first)
    (subst (λ (k : InternalKey). is_le (key_cmp w.range.smallest k) ≡ true)
    (IsKey-unique largest w.range.largest b w.end end) w.ascends)) ∙ fails in
    absurd (cc bad)
