-- The order of internal keys, and the first entry not below one.
use Rattle.std.proofs.Common.{◌≡◌, Bool, true, false, Less, List, [], ◌∷◌, ◌++◌, refl, ap, ◌∙◌}
use Rattle.std.specs.Ordering.{is_lt}
use Rattle.lsm_codec.specs.Keys.{InternalKey, key_cmp}
use Rattle.lsm_codec.specs.Entries.{Entry, internal_key}
use Rattle.lsm_codec.proofs.CallerLemmas.{key_cmp_total}
use Rattle.lsm_block.specs.Block.{Ascends}
use Rattle.lsm_block.specs.Seeking.{not_below, drop_if}
use Rattle.lsm_block.proofs.ScanLaws.{is_less, less_is}

-- ---- the first entry not below a key

pub below-nothing : (key : InternalKey) → not_below key [] ≡ []
unfolding not_below
below-nothing key = refl

pub below-step : (key : InternalKey) (e : Entry) (es : List Entry) → is_lt (key_cmp (internal_key e) key) ≡ true → not_below key (e ∷ es) ≡ not_below key es
unfolding not_below
below-step key e es h = ap (λ (b : Bool). drop_if b (not_below key es) (e ∷ es)) h

pub below-stop : (key : InternalKey) (e : Entry) (es : List Entry) → is_lt (key_cmp (internal_key e) key) ≡ false → not_below key (e ∷ es) ≡ e ∷ es
unfolding not_below
below-stop key e es h = ap (λ (b : Bool). drop_if b (not_below key es) (e ∷ es)) h

-- an entry comes before the entry that follows it, and before each key after that
pub before_far : (front : List Entry) (a e : Entry) (es : List Entry) (key : InternalKey) → Ascends (a ∷ (front ++ e ∷ es)) → key_cmp (internal_key e) key ≡ Less → key_cmp (internal_key a) key ≡ Less
before_far [] a e es key s h = key_cmp_total.trans (internal_key a) (internal_key e) key s.0 h
before_far (b ∷ front) a e es key s h = key_cmp_total.trans (internal_key a) (internal_key b) key s.0 (before_far front b e es key s.1 h)

pub ascends-tail : (a : Entry) (es : List Entry) → Ascends (a ∷ es) → Ascends es
ascends-tail a [] s = tt
ascends-tail a (b ∷ es) s = s.1

-- Where an entry is below the key, so are all before it.
pub below_front : (front : List Entry) (e : Entry) (es : List Entry) (key : InternalKey) → Ascends (front ++ e ∷ es) → is_lt (key_cmp (internal_key e) key) ≡ true
    → not_below key (front ++ e ∷ es) ≡ not_below key (e ∷ es)
below_front [] e es key s h = refl
below_front (a ∷ front) e es key s h =
    below-step key a (front ++ e ∷ es) (less_is (key_cmp (internal_key a) key) (before_far front a e es key s (is_less (key_cmp (internal_key e) key) h)))
    ∙ below_front front e es key (ascends-tail a (front ++ e ∷ es) s) h
