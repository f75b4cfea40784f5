-- What a journal holds of the manifest (LevelDB's `doc/impl.md`).
use Rattle.std.specs.Prelude.{ℕ, ◌-◌, ◌*◌, ◌^◌, List, Bool, false, length, nat_le, max, min}
use Rattle.std.specs.Prelude.{if◌then◌else◌}
use Rattle.lsm_journal.specs.declared.manifest_limit.ManifestLimit.{ManifestLimit}

pub record HeldManifest : Type 0 where
  -- the number of its file, and its bytes
  pub number : ℕ
  pub bytes : List ℕ
  -- the numbers of the write-ahead log and of the one before it, as the manifest had them when it
  -- was read
  pub log : ℕ
  pub prev_log : ℕ
  -- from how many bytes on a new manifest is due
  pub limit : ManifestLimit

-- a new manifest is due
abbrev pub is_at_limit : HeldManifest → Bool
is_at_limit h = nat_le h.limit.bytes (length h.bytes)

-- none is ever due
abbrev pub no_limit : ManifestLimit
no_limit = record { bytes = 2 ^ 64 - 1; grows = false }

-- The limit once a new manifest of this size was begun. One that grows is twice that size then, or
-- what it was, where that is more, and at most as many as options may say. So whole versions come
-- to no more bytes than the changes between them.
abbrev pub grown : ManifestLimit → ℕ → ManifestLimit
grown limit size =
    if limit.grows then record limit { bytes = max limit.bytes (2 * min size 268435456) }
    else limit
