-- Entries of several tables as the entries of one: each once, by internal key (LevelDB's
-- `doc/impl.md`, "Sorted tables").
use Rattle.std.specs.Prelude.{◌≡◌, ◌⊎◌, ℕ, ◌≤◌, ◌^◌, false, length, List, [], ◌∷◌, ◌++◌, Some}
use Rattle.std.specs.Ordering.{is_lt}
use Rattle.lsm_codec.specs.Entries.{Entry, entry_cmp, internal_key}
use Rattle.lsm_codec.specs.Lists.{Has}
use Rattle.lsm_block.specs.Building.{last_key}
use Rattle.lsm_table.specs.Table.{IsImage}
use Rattle.lsm_table.specs.TableBuilding.{PassesLimit, groups_by, index_block}
use Rattle.lsm_table.specs.TableImage.{Imaged}
use Rattle.lsm_table.specs.declared.table_options.TableOptions.{TableOptions}
use Rattle.lsm_repair.specs.Reading.{Held}
use Rattle.lsm_repair.specs.declared.mend_fault.MendFault.{MendFault}
use Rattle.lsm_repair.specs.declared.mend_fault.MendFault.TheVariants.{OutOfMemory, NothingWhole}
use Rattle.lsm_repair.specs.declared.mend_fault.MendFault.TheVariants.{TwoValues, TooLarge}

-- no entry comes before the one in front of it
abbrev pub AreOrdered : List Held → Type 0
AreOrdered [] = Unit {0}
AreOrdered (a ∷ []) = Unit {0}
AreOrdered (a ∷ b ∷ rest) =
    (is_lt (entry_cmp b.entry a.entry) ≡ false) × AreOrdered (b ∷ rest)

-- the entry was added last
pub record IsTop (made : List Entry) (top : Held) : Type 0 where
  pub key : last_key made ≡ Some (internal_key top.entry)
  pub here : Has made top.entry

-- An entry came behind the others; or it is the one that was added last, and was there.
abbrev pub AddsOnce : Held → Held → List Entry → List Entry → Type 0
AddsOnce top e old new =
    (new ≡ old ++ e.entry ∷ []) ⊎ ((e.entry ≡ top.entry) × (new ≡ old))

-- These are the entries of those that are held, each once; the greatest sequence is this one.
pub record IsUnion (held : List Held) (made : List Entry) (greatest : ℕ) : Type 0 where
  pub from : (e : Entry) → Has made e → (h : Held) × Has held h × (h.entry ≡ e)
  pub to : (h : Held) → Has held h → Has made h.entry
  pub reached : (e : Entry) → Has made e → e.seq ≤ greatest
  pub one : (e : Entry) × Has made e × (e.seq ≡ greatest)

-- So they are, and so many.
pub record IsBuilt (held : List Held) (made : List Entry) (greatest count : ℕ) : Type 0 where
  pub union : IsUnion held made greatest
  pub counted : count ≡ length made

-- The table has each entry of those that are held, and nothing else.
pub record IsMerged (held : List Held) (last count : ℕ) (image : Imaged) : Type 0 where
  pub made : List Entry
  pub union : IsUnion held made last
  pub counted : count ≡ length made
  pub table : IsImage made image.smallest image.largest image.bytes

-- ---- refusals

-- two tables have two values of one internal key
abbrev pub IsConflict : List Held → MendFault → Type 0
IsConflict held fault = (a : Held) × (b : Held) × Has held a × Has held b
    × (internal_key a.entry ≡ internal_key b.entry)
    × (a.entry.value ≡ b.entry.value → ⊥) × (fault ≡ TwoValues a.number b.number)

-- a block of the table of such entries would pass 2^32 - 1 bytes
abbrev pub IsLarge : TableOptions → List Held → Type 0
IsLarge options held = (made : List Entry)
    × ((e : Entry) → Has made e → (h : Held) × Has held h × (h.entry ≡ e))
    × (((e : Held) × Has held e × PassesLimit options made e.entry)
    ⊎ (2 ^ 32 ≤ length (index_block options.restart_interval (groups_by options made))))

-- Why an entry is not added behind the last one.
abbrev pub IsUnadded : TableOptions → List Entry → Held → Held → MendFault → Type 0
IsUnadded options made top e fault =
    (fault ≡ OutOfMemory)
    ⊎ (((fault ≡ TooLarge) × PassesLimit options made e.entry)
    ⊎ ((internal_key top.entry ≡ internal_key e.entry)
    × (top.entry.value ≡ e.entry.value → ⊥) × (fault ≡ TwoValues top.number e.number)))

-- Why the table of these entries, of which there is one at least, is not made.
abbrev pub IsUnbuilt : TableOptions → List Held → MendFault → Type 0
IsUnbuilt options held fault =
    (fault ≡ OutOfMemory) ⊎ (((fault ≡ TooLarge) × IsLarge options held) ⊎ IsConflict held fault)

-- So it was; or there is none.
abbrev pub IsUnmerged : TableOptions → List Held → MendFault → Type 0
IsUnmerged options held fault =
    IsUnbuilt options held fault ⊎ ((fault ≡ NothingWhole) × (held ≡ []))
