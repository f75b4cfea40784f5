-- A key that shares its front with the key before it, before it is put together.
use Rattle.std.specs.Prelude.{◌≡◌, ℕ, ◌<◌, ◌≤◌, List, ◌++◌, length, take, slice_index}

-- the key before it, how much of that it shares, and its own bytes
pub record KeyParts : Type 0 where
  pub before : List ℕ
  pub shared : ℕ
  pub own : List ℕ

-- the key put together
abbrev pub joined : KeyParts → List ℕ
joined key = take key.shared key.before ++ key.own

-- it shares no more than there is, and all are bytes
pub record AreParts (key : KeyParts) : Type 0 where
  pub within : key.shared ≤ length key.before
  pub before_fits : (i : ℕ) → slice_index key.before i < 256
  pub own_fits : (i : ℕ) → slice_index key.own i < 256

-- the first list is below the second at this place, and the same before it
pub record IsBelowAt (place : ℕ) (a b : List ℕ) : Type 0 where
  pub same : take place a ≡ take place b
  pub first : place < length a
  pub second : place < length b
  pub less : slice_index a place < slice_index b place
