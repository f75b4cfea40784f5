-- The opening (docs/PROTOCOL.md, this project's rule).
use Rattle.std.specs.Prelude.{◌≡◌, ℕ, ◌+◌, ◌*◌, ◌^◌, ◌<◌, ◌≤◌, Bool, true, false, List, ◌∷◌, ◌++◌}
use Rattle.std.specs.Prelude.{length, IsUtf8}
use Rattle.lsm_frames.specs.Texts.{number32, text}

pub record Opened : Type 0 where
  -- the number of the first channel's descriptor, and how many there are
  pub first : ℕ
  pub channels : ℕ
  -- how many threads compact
  pub workers : ℕ
  -- make a database where there is none; refuse if there is one
  pub make : Bool
  pub refuse : Bool
  -- the folder
  pub path : List ℕ

abbrev pub bit : Bool → ℕ
bit false = 0
bit true = 1

unfoldable pub opening_text : Opened → List ℕ
opening_text o = number32 o.first
    ++ (number32 o.channels ++ (number32 o.workers
    ++ ((bit o.make + 2 * bit o.refuse) ∷ text o.path)))

pub record FitsOpened (o : Opened) : Type 0 where
  -- The last channel's number fits a descriptor.
  pub descriptors : o.first + o.channels ≤ 2 ^ 31
  pub some_channel : 1 ≤ o.channels
  pub channels : o.channels ≤ 62
  pub workers : o.workers ≤ 16
  pub path : length o.path < 2 ^ 32
  pub utf8 : IsUtf8 o.path

-- These bytes are that opening, all of them.
pub record IsOpening (bytes : List ℕ) (opened : Opened) : Type 0 where
  pub bytes_are : bytes ≡ opening_text opened
  pub fits : FitsOpened opened
