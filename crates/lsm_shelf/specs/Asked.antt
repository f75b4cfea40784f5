-- What a shelf is asked (this project's rule).
use Rattle.std.specs.Prelude.{ℕ, List}

-- One call, with all that it hands over: numbers of tables or of a manifest, and bytes. A fork is
-- none: it asks nothing of what lies there.
pub data Asked : Type 0 where
  Put : ℕ → List ℕ → Asked
  -- a table's number, an offset in its image and a length, in bytes
  ReadAt : ℕ → ℕ → ℕ → Asked
  Load : ℕ → Asked
  Remove : ℕ → Asked
  ListTables : Asked
  ReadManifest : Asked
  StartManifest : ℕ → List ℕ → Asked
  AppendManifest : List ℕ → Asked
