-- What a read finds in the bytes of an image, be they a table or not: its blocks are judged as the
-- read comes to them (this project's rule).
use Rattle.std.specs.Prelude.{ℕ, ◌-◌, ◌^◌, min, List, [], ◌∷◌, Option, Result, Ok, Err}
use Rattle.lsm_codec.specs.Keys.{UserKey, InternalKey}
use Rattle.lsm_codec.specs.Entries.{Entry}
use Rattle.lsm_block.specs.Seeking.{not_below}
use Rattle.lsm_block.specs.Standing.{but_first, value_of_first}
use Rattle.lsm_table.specs.declared.table_fault.TableFault.{TableFault}
use Rattle.lsm_table.specs.declared.table_fault.TableFault.TheVariants.{BadIndex}
use Rattle.lsm_table.specs.Reading.{◌>>=◌}
use Rattle.lsm_table.specs.Footer.{body_of}
use Rattle.lsm_table.specs.Found.{found_in}
use Rattle.lsm_table.specs.OpenTable.{opening_at, block_named}
use Rattle.lsm_table.specs.Searching.{read_key, of_user}
use Rattle.lsm_reader.specs.Blocks.{Rest}

abbrev pub or_later : List Entry → Result (List Entry) TableFault → Result (List Entry) TableFault
or_later [] later = later
or_later (e ∷ es) later = Ok (e ∷ es)

-- the entries of the block that an index entry's value names, which has to have some
abbrev pub entered_there : List ℕ → List ℕ → Result (List Entry) TableFault
entered_there body spelled = block_named body spelled >>= λ es. or_later es (Err BadIndex)

-- those of the first block that index entries name; none where they name none
abbrev pub first_entered : List ℕ → List Entry → Result (List Entry) TableFault
first_entered body [] = Ok []
first_entered body (i ∷ index) = entered_there body i.value

-- the same, but where they name none the place stays
abbrev pub entered_or_stays : List ℕ → List Entry → List Entry → Result (List Entry) TableFault
entered_or_stays body here [] = Ok here
entered_or_stays body here (i ∷ index) = entered_there body i.value

-- What is left of a data block after a step: the block's next entry, else the next block's first.
abbrev pub stepped_on : List ℕ → Rest → Result (List Entry) TableFault
stepped_on body rest = or_later (but_first rest.here) (first_entered body rest.index)

-- the same, but where no entry is left the place stays
abbrev pub stepped_or_stays : List ℕ → Rest → Result (List Entry) TableFault
stepped_or_stays body rest = or_later (but_first rest.here)
    (entered_or_stays body rest.here rest.index)

-- of the block that the first of these index entries names, what is not below the key
abbrev pub sought_there : InternalKey → List ℕ → List Entry → Result (List Entry) TableFault
sought_there key body index = block_named body (value_of_first index) >>= λ es.
    Ok (not_below key es)

-- Of the blocks that index entries name, the first that has an entry at or after the key: its
-- entries from there on. None is passed over: the first that is no block is the fault.
unfoldable pub first_named : InternalKey → List ℕ → List Entry → Result (List Entry) TableFault
first_named key body [] = Ok []
first_named key body (i ∷ index) =
    block_named body i.value >>= λ es. or_later (not_below key es) (first_named key body index)

-- what a read finds in a table whose index block has these entries
abbrev pub got_by : List ℕ → UserKey → ℕ → List Entry → Result (Option (Option (List ℕ))) TableFault
got_by body k seq index =
    first_named (read_key k (min seq (2 ^ 56 - 1))) body
    (not_below (read_key k (min seq (2 ^ 56 - 1))) index)
    >>= λ es. Ok (found_in (of_user k es))

-- What a read of a user key at a sequence finds in an image, or the first fault on its way: of the
-- footer, of the index block, and of the data blocks that may have the key.
unfoldable pub got : List ℕ → UserKey → ℕ → Result (Option (Option (List ℕ))) TableFault
got image k seq = opening_at image >>= λ index. got_by (body_of image) k seq index
