-- A folder on a disk, and what each call makes of it (POSIX: `fsync` of a file makes its bytes
-- durable, `fsync` of the folder its names; a rename is atomic).
use Rattle.std.specs.Prelude.{◌≡◌, ◌⊎◌, ℕ, suc, ◌==◌, cond, List, [], ◌∷◌, ◌++◌, length, take}
use Rattle.std.specs.Prelude.{Option, None, Some, Ok, Err}
use Rattle.std.specs.Str.{bytes_eq}
use Rattle.lsm_folder.specs.Calls.{Call, opened, made, wrote, appended, synced, folder_synced}
use Rattle.lsm_folder.specs.Calls.{renamed, removed, measured, read, loaded, listed, locked}
use Rattle.lsm_folder.specs.declared.folder_fault.FolderFault.TheVariants as folder

-- which file a name has, if any; files are told apart by numbers
abbrev pub Names : Type 0
Names = List ℕ → Option ℕ

pub record Disk : Type 0 where
  -- the number of the next file that is made
  pub next : ℕ
  -- what was written to each file, and how many of these bytes are durable
  pub bytes : ℕ → List ℕ
  pub kept : ℕ → ℕ
  -- the names now
  pub names : Names
  -- the names at each moment since the last sync of the folder, this moment included
  pub past : List Names

-- no file was ever made
abbrev pub empty_disk : Disk
empty_disk = record {
  next = 0;
  bytes = λ i. [];
  kept = λ i. 0;
  names = λ name.
      None;
  past = (λ name. None) ∷ [];
}

-- ---- what a call makes of it

abbrev pub set : {X : Type 0} → (ℕ → X) → ℕ → X → ℕ → X
set f i x j = cond (j == i) x (f j)

abbrev pub named : Names → List ℕ → Option ℕ → Names
named names name o q = cond (bytes_eq q name) o (names q)

-- a file more, of this name, of whose bytes none is durable
abbrev pub with_file : List ℕ → List ℕ → Disk → Disk
with_file name bytes d = record {
  next = suc d.next;
  bytes = set d.bytes d.next bytes;
  kept = set d.kept d.next 0;
  names = named d.names name (Some d.next);
  past = named d.names name (Some d.next) ∷ d.past;
}

-- the file has these bytes, and so many of them are durable
abbrev pub filled : ℕ → List ℕ → ℕ → Disk → Disk
filled i bytes kept d = record d { bytes = set d.bytes i bytes; kept = set d.kept i kept }

-- other names
abbrev pub with_names : Names → Disk → Disk
with_names names d = record d { names = names; past = names ∷ d.past }

-- the name has no file
abbrev pub without : List ℕ → Disk → Disk
without name d = with_names (named d.names name None) d

-- the second name has the first one's file, and the first name none
abbrev pub moved : Names → List ℕ → List ℕ → ℕ → Names
moved names from to i = named (named names to (Some i)) from None

abbrev pub Makes : Disk → List ℕ → List ℕ → Disk → Type 0
Makes d name bytes e = (d.names name ≡ None) × (e ≡ with_file name bytes d)

-- A file that is emptied and written may show its old bytes after a crash: that is as if the name
-- had got another file. Or the name is taken away first, and then a file is made: after a crash
-- there may be none.
abbrev pub Writes : Disk → List ℕ → List ℕ → Disk → Type 0
Writes d name bytes e = (e ≡ with_file name bytes d)
    ⊎ (((i : ℕ) × (d.names name ≡ Some i) × (e ≡ filled i bytes 0 d))
    ⊎ (e ≡ with_file name bytes (without name d)))

abbrev pub Appends : Disk → List ℕ → List ℕ → Disk → Type 0
Appends d name bytes e = (i : ℕ) × (d.names name ≡ Some i)
    × (e ≡ filled i (d.bytes i ++ bytes) (d.kept i) d)

abbrev pub Syncs : Disk → List ℕ → Disk → Type 0
Syncs d name e = (i : ℕ) × (d.names name ≡ Some i)
    × (e ≡ filled i (d.bytes i) (length (d.bytes i)) d)

abbrev pub SyncsFolder : Disk → Disk → Type 0
SyncsFolder d e = e ≡ record d { past = d.names ∷ [] }

abbrev pub Renames : Disk → List ℕ → List ℕ → Disk → Type 0
Renames d from to e = (i : ℕ) × (d.names from ≡ Some i)
    × (e ≡ with_names (moved d.names from to i) d)

abbrev pub Removes : Disk → List ℕ → Disk → Type 0
Removes d name e = e ≡ without name d

-- a file that was made and could not be filled is left, or its name is taken away again
abbrev pub Undoes : Disk → List ℕ → Disk → Type 0
Undoes d name e = (e ≡ d) ⊎ Removes d name e

-- the name has a file of these bytes now
abbrev pub Shows : Disk → List ℕ → List ℕ → Type 0
Shows d name bytes = (i : ℕ) × (d.names name ≡ Some i) × (d.bytes i ≡ bytes)

-- What an answered call left. One that was refused, or was cut by a crash, has acted or not; a
-- write, with a beginning of its bytes, and perhaps undone, or it has only taken the name away. An
-- append for which memory was refused has not. What is loaded is what the file has now. A lock may
-- make its file.
abbrev pub Step : Disk → Call → Disk → Type 0
Step d opened e = e ≡ d
Step d (made name bytes (Ok v)) e = Makes d name bytes e
Step d (made name bytes (Err f)) e =
    (e ≡ d) ⊎ ((k : ℕ) × (mid : Disk) × Makes d name (take k bytes) mid × Undoes mid name e)
Step d (wrote name bytes (Ok v)) e = Writes d name bytes e
Step d (wrote name bytes (Err f)) e =
    (e ≡ d) ⊎ (Removes d name e
    ⊎ ((k : ℕ) × (mid : Disk) × Writes d name (take k bytes) mid × Undoes mid name e))
Step d (appended name bytes (Ok v)) e = Appends d name bytes e
Step d (appended name bytes (Err f)) e =
    (e ≡ d) ⊎ ((f ≡ folder.OutOfMemory → ⊥) × (k : ℕ) × Appends d name (take k bytes) e)
Step d (synced name (Ok v)) e = Syncs d name e
Step d (synced name (Err f)) e = (e ≡ d) ⊎ Syncs d name e
Step d (folder_synced (Ok v)) e = SyncsFolder d e
Step d (folder_synced (Err f)) e = (e ≡ d) ⊎ SyncsFolder d e
Step d (renamed from to (Ok v)) e = Renames d from to e
Step d (renamed from to (Err f)) e = (e ≡ d) ⊎ Renames d from to e
Step d (removed name (Ok v)) e = Removes d name e
Step d (removed name (Err f)) e = (e ≡ d) ⊎ Removes d name e
Step d (measured name answer) e = e ≡ d
Step d (read name image offset len answer) e = e ≡ d
Step d (loaded name (Ok bytes)) e = (e ≡ d) × Shows d name bytes
Step d (loaded name (Err f)) e = e ≡ d
Step d (listed answer) e = e ≡ d
Step d (locked name kind answer) e = (e ≡ d) ⊎ Makes d name [] e

-- The disk after a list of calls, the newest of which stands first.
abbrev pub After : Disk → List Call → Disk → Type 0
After d [] e = e ≡ d
After d (c ∷ cs) e = (mid : Disk) × After d cs mid × Step mid c e

-- P holds of each disk that the calls may leave
abbrev pub Leaves : Disk → List Call → (Disk → Type 0) → Type 0
Leaves d calls P = (e : Disk) → After d calls e → P e
