-- When a merge is refused, and what was drawn and put by then.
use Rattle.std.specs.Prelude.{◌≡◌, ◌⊎◌, ℕ, List, ◌∷◌, ◌++◌}
use Rattle.lsm_codec.specs.Lists.{Has}
use Rattle.lsm_codec.specs.Entries.{Entry}
use Rattle.lsm_shelf.specs.Asked.{Asked, Put}
use Rattle.lsm_shelf.specs.Told.{Told, Counted, TakenIs}
use Rattle.lsm_table.specs.ReadFault.{ReadCounted}
use Rattle.lsm_table.specs.declared.read_fault.ReadFault.{ReadFault}
use Rattle.lsm_table.specs.declared.read_fault.ReadFault.TheVariants as read
use Rattle.lsm_table.specs.declared.table_fault.TableFault.TheVariants as table
use Rattle.lsm_table.specs.TableBuilding.{table_bytes}
use Rattle.lsm_table.specs.declared.table_options.TableOptions.{TableOptions}
use Rattle.lsm_reader.specs.Refusals.{IsReadRefusal}
use Rattle.lsm_shelf.specs.declared.shelf_fault.ShelfFault.{ShelfFault}
use Rattle.lsm_shelf.specs.declared.shelf_fault.ShelfFault.TheVariants as shelf
use Rattle.lsm_merge.specs.declared.merge_fault.InputFault.TheVariants.{Read, OutOfOrder}
use Rattle.lsm_merge.specs.declared.merge_fault.OutputFault.TheVariants.{TooLarge, Shelf}
use Rattle.lsm_merge.specs.declared.merge_fault.MergeFault.{MergeFault}
use Rattle.lsm_merge.specs.declared.merge_fault.MergeFault.TheVariants.{OutOfMemory, ReadFailed}
use Rattle.lsm_merge.specs.declared.merge_fault.MergeFault.TheVariants.{PutFailed, UnknownTicket}
use Rattle.lsm_merge.specs.declared.merge_fault.MergeFault.TheVariants.{NumbersSpent}
use Rattle.lsm_merge.specs.Outputs.{going}

-- The shelf refused, and not for want of memory.
abbrev pub IsRefused : ShelfFault → Type 0
IsRefused shelf.OutOfMemory = ⊥
IsRefused fault = Unit {0}

-- The input could not be read, and not for want of memory.
abbrev pub IsUnread : ReadFault → Type 0
IsUnread (read.Shelf fault) = IsRefused fault
IsUnread (read.Table table.OutOfMemory) = ⊥
IsUnread (read.Table fault) = Unit {0}

-- Want of memory is told as such, and stands behind no other refusal. A refusal of the shelf comes
-- only with a count that rose; an input at fault is one of these.
abbrev pub HasCause : List ℕ → MergeFault → Told → Told → Type 0
HasCause inputs OutOfMemory old new = Unit {0}
HasCause inputs (ReadFailed number (Read fault)) old new =
    Has inputs number × (ReadCounted fault old new × IsUnread fault)
HasCause inputs (ReadFailed number OutOfOrder) old new = Has inputs number
HasCause inputs (PutFailed number TooLarge) old new = Unit {0}
HasCause inputs (PutFailed number (Shelf fault)) old new =
    TakenIs number fault × (Counted fault old new × IsRefused fault)
HasCause inputs (UnknownTicket ticket) old new = Unit {0}
HasCause inputs NumbersSpent old new = Unit {0}

-- Which call the shelf refused: to give bytes of the input that could not be read; or to put, under
-- the number of the output that could not be put, what the builder makes of some entries with these
-- sizes.
abbrev pub NamesRefused : (Asked → ShelfFault → Type 0) → TableOptions → MergeFault → Type 0
NamesRefused Refuses options OutOfMemory = Unit {0}
NamesRefused Refuses options (ReadFailed number (Read fault)) = IsReadRefusal Refuses number fault
NamesRefused Refuses options (ReadFailed number OutOfOrder) = Unit {0}
NamesRefused Refuses options (PutFailed number TooLarge) = Unit {0}
NamesRefused Refuses options (PutFailed number (Shelf fault)) =
    (es : List Entry) × Refuses (Put number (table_bytes options es)) fault
NamesRefused Refuses options (UnknownTicket ticket) = Unit {0}
NamesRefused Refuses options NumbersSpent = Unit {0}

-- No refusal of the shelf is told.
abbrev pub IsUnasked : MergeFault → Type 0
IsUnasked OutOfMemory = Unit {0}
IsUnasked (ReadFailed number fault) = ⊥
IsUnasked (PutFailed number TooLarge) = Unit {0}
IsUnasked (PutFailed number (Shelf fault)) = ⊥
IsUnasked (UnknownTicket ticket) = Unit {0}
IsUnasked NumbersSpent = Unit {0}

-- just these were drawn after those that were there, and perhaps one more
abbrev pub DrewMore : List ℕ → List ℕ → List ℕ → Type 0
DrewMore put drew there = (drew ≡ going put there)
    ⊎ ((number : ℕ) × (drew ≡ number ∷ going put there))

-- What was drawn: the numbers put, and perhaps one more; where an output could not be put, that is
-- its number.
abbrev pub Leaves : MergeFault → List ℕ → List ℕ → List ℕ → Type 0
Leaves OutOfMemory put drew there = DrewMore put drew there
Leaves (ReadFailed number fault) put drew there = DrewMore put drew there
Leaves (PutFailed number fault) put drew there = drew ≡ number ∷ going put there
Leaves (UnknownTicket ticket) put drew there = drew ≡ going put there
Leaves NumbersSpent put drew there = drew ≡ going put there

-- A refusal of the source of numbers is its last one; so may be want of memory.
abbrev pub AnswersOf : MergeFault → List ℕ → List ℕ → Type 0
AnswersOf OutOfMemory old new = (new ≡ old) ⊎ (new ≡ 1 ∷ old)
AnswersOf (ReadFailed number fault) old new = new ≡ old
AnswersOf (PutFailed number fault) old new = new ≡ old
AnswersOf (UnknownTicket ticket) old new = new ≡ 45 ∷ old
AnswersOf NumbersSpent old new = new ≡ 46 ∷ old

-- a ticket that is unknown is the job's
abbrev pub NamesTicket : MergeFault → ℕ → Type 0
NamesTicket OutOfMemory asked = Unit {0}
NamesTicket (ReadFailed number fault) asked = Unit {0}
NamesTicket (PutFailed number fault) asked = Unit {0}
NamesTicket (UnknownTicket ticket) asked = ticket ≡ asked
NamesTicket NumbersSpent asked = Unit {0}

-- the tickets for which numbers were asked, the last first: after the old ones this one alone
pub record AsksFor (ticket : ℕ) (old new : List ℕ) : Type 0 where
  pub more : List ℕ
  pub grown : new ≡ more ++ old
  pub each : (t : ℕ) → Has more t → t ≡ ticket
