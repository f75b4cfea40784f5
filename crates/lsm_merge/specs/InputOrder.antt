-- Whether the inputs of a job can stand in one order: those of a level from 1 on follow one
-- another, and no internal key is there twice.
use Rattle.std.specs.Prelude.{◌≡◌, suc, ◌≤◌, ◌⊎◌, List, [], ◌∷◌}
use Rattle.lsm_codec.specs.Lists.{Has}
use Rattle.lsm_codec.specs.Entries.{Entry, stamp}
use Rattle.lsm_model.specs.Files.{all_entries}
use Rattle.lsm_model.specs.Merging.{IsSorted}
use Rattle.lsm_version.specs.Versions.{files_of}
use Rattle.lsm_merge.specs.Work.{Work}

-- both have one internal key: a user key, and a sequence with a kind
abbrev pub AreTwins : Entry → Entry → Type 0
AreTwins x y = (x.user ≡ y.user) × (stamp x ≡ stamp y)

-- two entries of the list, at two places, have one internal key
abbrev pub HasTwins : List Entry → Type 0
HasTwins [] = ⊥
HasTwins (x ∷ xs) = ((y : Entry) × Has xs y × AreTwins x y) ⊎ HasTwins xs

-- From level 1 on the inputs of a level stand one after another in order.
pub record StandInOrder (w : Work) : Type 0 where
  pub upper : 1 ≤ w.level → IsSorted (all_entries (files_of w.level w.upper))
  pub lower : IsSorted (all_entries (files_of (suc w.level) w.lower))
