-- The bytes of a table that the builder makes of entries: which data blocks it closes, their index,
-- and the whole file (LevelDB's `table/table_builder.cc`, without compression, filter and shortened
-- separators).
use Rattle.std.specs.Prelude.{◌≡◌, ℕ, ◌+◌, ◌^◌, ◌≤◌, ◌⊎◌, Bool, true, false, nat_le, List, [], ◌∷◌}
use Rattle.std.specs.Prelude.{◌++◌, length}
use Rattle.lsm_codec.specs.Entries.{Entry, internal_key}
use Rattle.lsm_block.specs.Block.{entry_of}
use Rattle.lsm_block.specs.Building.{block_bytes}
use Rattle.lsm_table.specs.declared.table_options.TableOptions.{TableOptions}
use Rattle.lsm_table.specs.declared.handle.Handle.{Handle}
use Rattle.lsm_table.specs.Handle.{handle_text}
use Rattle.lsm_table.specs.StoredBlock.{stored}
use Rattle.lsm_table.specs.Footer.{footer_text}
use Rattle.lsm_table.specs.Table.{last_of}

-- the entries of the data blocks that are closed, and those of the one that is open
pub record Grouped : Type 0 where
  pub closed : List (List Entry)
  pub taken : List Entry

abbrev pub closed_first : List Entry → Grouped → Grouped
closed_first group later = record { closed = group ∷ later.closed; taken = later.taken }

-- A data block is full when its size, after an entry is added, reaches the block size.
abbrev pub is_full : TableOptions → List Entry → Bool
is_full options taken = nat_le options.block_size
    (length (block_bytes options.restart_interval taken))

abbrev pub close_if : Bool → (List Entry → Grouped) → List Entry → Grouped
close_if true later taken = closed_first taken (later [])
close_if false later taken = later taken

-- How the entries fall into data blocks, where these were taken before them: one is closed as soon
-- as it is full.
unfoldable pub grouped : TableOptions → List Entry → List Entry → Grouped
grouped options taken [] = record { closed = []; taken = taken }
grouped options taken (e ∷ es) =
    close_if (is_full options (taken ++ e ∷ [])) (λ rest. grouped options rest es) (taken ++ e ∷ [])

-- the entries that are left make a block, where there are some
abbrev pub last_group : List Entry → List (List Entry)
last_group [] = []
last_group (e ∷ es) = (e ∷ es) ∷ []

abbrev pub groups_of : Grouped → List (List Entry)
groups_of g = g.closed ++ last_group g.taken

-- the data blocks one after another, each with its trailer
unfoldable pub data_text : ℕ → List (List Entry) → List ℕ
data_text interval [] = []
data_text interval (group ∷ groups) =
    stored (block_bytes interval group) ++ data_text interval groups

abbrev pub place : ℕ → List ℕ → Handle
place offset contents = record { offset = offset; size = length contents }

-- the index entry of a data block: its last internal key, and its handle
abbrev pub index_entry : Entry → Handle → Entry
index_entry last handle = entry_of (internal_key last) (handle_text handle)

-- the index entries of data blocks, the first of which stands at this offset
unfoldable pub index_of : ℕ → ℕ → List (List Entry) → List Entry
index_of interval offset [] = []
index_of interval offset ([] ∷ groups) = []
index_of interval offset ((e ∷ es) ∷ groups) =
    index_entry (last_of e es) (place offset (block_bytes interval (e ∷ es)))
    ∷ index_of interval (offset + length (stored (block_bytes interval (e ∷ es)))) groups

-- data blocks, a metaindex block, an index block, and the footer that names the last two
abbrev pub file_of : List ℕ → List ℕ → List ℕ → List ℕ
file_of front metaindex index =
    ((front ++ stored metaindex) ++ stored index)
    ++ footer_text (record {
      metaindex = place (length front) metaindex;
      index = place
          (length (front ++ stored metaindex)) index;
    })

-- the index block has a restart at each entry
abbrev pub index_block : ℕ → List (List Entry) → List ℕ
index_block interval groups = block_bytes 1 (index_of interval 0 groups)

-- the file of data blocks of these entries; the metaindex block is empty
abbrev pub file_of_groups : ℕ → List (List Entry) → List ℕ
file_of_groups interval groups =
    file_of (data_text interval groups) (block_bytes 1 []) (index_block interval groups)

abbrev pub groups_by : TableOptions → List Entry → List (List Entry)
groups_by options es = groups_of (grouped options [] es)

-- the table that the builder makes of the entries
unfoldable pub table_bytes : TableOptions → List Entry → List ℕ
table_bytes options es = file_of_groups options.restart_interval (groups_by options es)

-- the bytes of the data blocks that are closed when the entries were added
abbrev pub written_bytes : TableOptions → List Entry → List ℕ
written_bytes options es = data_text options.restart_interval (grouped options [] es).closed

-- the open data block with one entry more
abbrev pub taken_with : TableOptions → List Entry → Entry → List Entry
taken_with options es e = (grouped options [] es).taken ++ e ∷ []

-- With one entry more the data block with it would pass 2^32 - 1 bytes, or this entry fills it, and
-- the index block would.
abbrev pub PassesLimit : TableOptions → List Entry → Entry → Type 0
PassesLimit options es e =
    (2 ^ 32 ≤ length (block_bytes options.restart_interval (taken_with options es e)))
    ⊎ ((is_full options (taken_with options es e) ≡ true)
    × (2 ^ 32 ≤ length (index_block options.restart_interval (groups_by options (es ++ e
    ∷ [])))))
