-- Reading a request.
use Rattle.std.specs.Prelude.{ℕ, List, [], ◌∷◌, length, Option, Some, None, ◌==◌, if◌then◌else◌}
use Rattle.std.specs.Int.{w32, w64}
use Rattle.lsm_frames.specs.Requests.{Asked, Between, Stretch, Writes, Reads, Scans, Snapshots}
use Rattle.lsm_frames.specs.Requests.{Releases, Compacts, CompactsRange, Collects, Statistics}
use Rattle.lsm_frames.specs.Reading.{◌>>=◌, Read, number_at, text_at, optional_at, when_at}
use Rattle.lsm_frames.specs.Reading.{written_at, items_in}

-- at least one
unfoldable pub some_in : {A : Type 0} → Read A → List ℕ → Option (List A)
some_in read [] = None
some_in read (b ∷ bytes) = items_in read (b ∷ bytes)

-- nothing follows
abbrev pub whole : {A : Type 0} → A → List ℕ → Option A
whole x bytes = if length bytes == 0 then Some x else None

unfoldable pub writes_at : List ℕ → Option Asked
writes_at bytes = some_in written_at bytes >>= λ ws. Some (Writes ws)

unfoldable pub reads_at : List ℕ → Option Asked
reads_at bytes = when_at bytes >>= λ w. some_in text_at w.1 >>= λ ks. Some (Reads w.0 ks)

unfoldable pub stretch_at : Read Stretch
stretch_at bytes = when_at bytes >>= λ w. text_at w.1 >>= λ f. optional_at f.1 >>= λ t.
    number_at w32 t.1 >>= λ n. Some (record { when = w.0; from = f.0; to = t.0; limit = n.0 }, n.1)

unfoldable pub scan_at : List ℕ → Option Asked
scan_at bytes = stretch_at bytes >>= λ s. whole (Scans s.0) s.1

unfoldable pub release_at : List ℕ → Option Asked
release_at bytes = number_at w64 bytes >>= λ n. whole (Releases n.0) n.1

unfoldable pub between_at : Read Between
between_at bytes = text_at bytes >>= λ f. optional_at f.1 >>= λ t.
    Some (record { from = f.0; to = t.0 }, t.1)

-- with nothing, or with the keys that are compacted
unfoldable pub compact_at : List ℕ → Option Asked
compact_at bytes = if length bytes == 0 then Some Compacts else
    (between_at bytes >>= λ b. whole (CompactsRange b.0) b.1)

-- what follows the first byte
unfoldable pub body_at : ℕ → List ℕ → Option Asked
body_at form bytes =
    if form == 1 then writes_at bytes else
    if form == 2 then reads_at bytes else
    if form == 3 then scan_at bytes else
    if form == 4 then whole Snapshots bytes else
    if form == 5 then release_at bytes else
    if form == 6 then compact_at bytes else
    if form == 7 then whole Collects bytes else
    if form == 8 then whole Statistics bytes else None

unfoldable pub asked_at : List ℕ → Option Asked
asked_at [] = None
asked_at (form ∷ bytes) = body_at form bytes
