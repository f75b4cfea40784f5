-- A tree of merges: what is left of it, and what its forks know of their two trees: which of them
-- leads, and how many bytes the user keys of their first entries share.
use Rattle.std.specs.Prelude.{◌≡◌, ℕ, Bool, false, List, [], ◌∷◌, ◌++◌, Option, Some, None}
use Rattle.lsm_block.specs.Building.{common}
use Rattle.lsm_block.specs.Standing.{SharesFront}
use Rattle.lsm_model.specs.Merging.{merge, leads}
use Rattle.lsm_iterators.specs.Heads.{first_of, user_in}
use Rattle.lsm_iterators.specs.Runs.{AreAlike, Left}
use Rattle.lsm_iterators.specs.declared.tree.Tree.{Tree}
use Rattle.lsm_iterators.specs.declared.tree.Tree.TheVariants.{Leaf, Fork'}

-- what is left of two, the first one's entry first where both may go
abbrev pub both : Left → Left → Left
both a b = record {
  placed = merge a.placed b.placed;
  files = a.files
      ++ b.files;
  numbered = merge a.numbered b.numbered;
}

abbrev pub none_left : Left
none_left = record { placed = []; files = []; numbered = [] }

-- what is left of several sources, an earlier one's entry first where both may go
abbrev pub all_left : List Left → Left
all_left [] = none_left
all_left (l ∷ ls) = both l (all_left ls)

-- what is left of a tree; `Fork'` has each box in two parts, of which one is the tree
abbrev pub left_of : Tree Left → Left
left_of (Leaf source) = source
left_of (Fork' led front p l q r) = both (left_of l) (left_of r)

-- Whether the first of the two leads, whether by depths or by numbers.
pub record IsLed (led : Bool) (a b : Left) : Type 0 where
  pub placed : led ≡ leads a.placed b.placed
  pub numbered : led ≡ leads a.numbered b.numbered

-- The user keys of the first entries of the two share this front.
abbrev pub ShareHeads : ℕ → Left → Left → Type 0
ShareHeads front a b = SharesFront front (user_in (first_of a.placed)) (user_in (first_of b.placed))

-- how many bytes the user keys of the first entries of the two share in all
abbrev pub shared_by_heads : Left → Left → ℕ
shared_by_heads a b = common (user_in (first_of a.placed)) (user_in (first_of b.placed))

-- They share this front, and no more.
pub record IsFront (front : ℕ) (a b : Left) : Type 0 where
  pub shared : ShareHeads front a b
  pub all : front ≡ shared_by_heads a b

-- each fork knows which of its two trees leads, and the front that both share
abbrev pub IsReady : Tree Left → Type 0
IsReady (Leaf source) = AreAlike source
IsReady (Fork' led front p l q r) =
    IsLed led (left_of l) (left_of r) × IsFront front (left_of l) (left_of r) × IsReady l
    × IsReady r

-- the two trees of a fork are ready
abbrev pub AreReady : Tree Left → Type 0
AreReady (Leaf source) = AreAlike source
AreReady (Fork' led front p l q r) = IsReady l × IsReady r

-- Whether the first of the two trees of a fork leads.
abbrev pub IsLedIn : Bool → Tree Left → Type 0
IsLedIn now (Leaf source) = now ≡ false
IsLedIn now (Fork' led front p l q r) = IsLed now (left_of l) (left_of r)

-- The two trees of a fork share this front, and no more.
abbrev pub IsFrontIn : ℕ → Tree Left → Type 0
IsFrontIn front (Leaf source) = Unit {0}
IsFrontIn front (Fork' led known p l q r) = IsFront front (left_of l) (left_of r)

-- The two trees of a fork share this front.
abbrev pub ShareHeadsIn : ℕ → Tree Left → Type 0
ShareHeadsIn front (Leaf source) = Unit {0}
ShareHeadsIn front (Fork' led known p l q r) = ShareHeads front (left_of l) (left_of r)

-- the same where there may be no tree
abbrev pub left_of_any : Option (Tree Left) → Left
left_of_any None = none_left
left_of_any (Some tree) = left_of tree

abbrev pub IsReadyIfAny : Option (Tree Left) → Type 0
IsReadyIfAny None = Unit {0}
IsReadyIfAny (Some tree) = IsReady tree
