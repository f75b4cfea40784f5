-- A plain table that is held (this project's rule).
use Rattle.std.specs.Prelude.{ℕ, List}

pub record Held : Type 0 where
  -- the image of the table below
  pub packed : List ℕ
  -- and of the plain table
  pub plain : List ℕ
