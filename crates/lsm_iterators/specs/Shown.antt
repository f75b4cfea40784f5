-- A scan along a merge: what is left to show, and the pair at which it stands.
use Rattle.std.specs.Prelude.{◌≡◌, ℕ, Bool, true, false, List, [], ◌∷◌, Option, Some, None}
use Rattle.lsm_codec.specs.declared.kind.Kind.{Kind}
use Rattle.lsm_codec.specs.declared.kind.Kind.TheVariants.{Deletion, Value}
use Rattle.lsm_codec.specs.Keys.{UserKey}
use Rattle.lsm_model.specs.Merging.{Placed, entries_of}
use Rattle.lsm_model.specs.Scanning.{Pair, pairs_of}

-- the user key and value at which a scan stands, if it stands at one, and what is left to show
pub record Showing : Type 0 where
  pub here : Option Pair
  pub left : List Pair

-- What a step answers: it stands at the pair that was the first left; or none was left, and it
-- stands at none.
abbrev pub ShowsNext : Bool → Showing → Showing → Type 0
ShowsNext true old new = (p : Pair) × (new.here ≡ Some p) × (old.left ≡ p ∷ new.left)
ShowsNext false old new = (new.here ≡ None) × (old.left ≡ []) × (new.left ≡ [])

-- What is handed out: the pair that was the first left; or none was left.
abbrev pub ShowsPair : Option Pair → List Pair → List Pair → Type 0
ShowsPair None old new = (old ≡ []) × (new ≡ [])
ShowsPair (Some p) old new = old ≡ p ∷ new

abbrev pub user_shown : Option Pair → List ℕ
user_shown None = []
user_shown (Some p) = p.0

abbrev pub value_shown : Option Pair → List ℕ
value_shown None = []
value_shown (Some p) = p.1

-- ---- how the code shows them

abbrev pub kind_in : Option Placed → Option Kind
kind_in None = None
kind_in (Some p) = Some p.1.kind

-- What is shown of the entries that are left, where the first one answered its user key, by a value
-- that was shown or by a deletion, or not yet.
abbrev pub left_to_show : ℕ → Option UserKey → Bool → List Placed → List Pair
left_to_show seq told false ps = pairs_of seq told (entries_of ps)
left_to_show seq told true [] = []
left_to_show seq told true (p ∷ ps) = pairs_of seq (Some p.1.user) (entries_of ps)

-- a value is shown, a deletion is not
abbrev pub pair_if : Kind → Pair → Option Pair
pair_if Deletion p = None
pair_if Value p = Some p

-- the pair of the first entry, where that was shown
abbrev pub pair_at : Bool → List Placed → Option Pair
pair_at false ps = None
pair_at true [] = None
pair_at true (p ∷ ps) = pair_if p.1.kind (p.1.user, p.1.value)

abbrev pub showing_of : ℕ → Option UserKey → Bool → List Placed → Showing
showing_of seq told is_done ps =
    record { here = pair_at is_done ps; left = left_to_show seq told is_done ps }
