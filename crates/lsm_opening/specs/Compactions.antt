-- What is said of a compaction, and what is removed behind one (this project's rule).
use Rattle.std.specs.Prelude.{◌≡◌, ℕ, false, List, [], ◌∷◌, ◌++◌, codes, decimal}
use Rattle.atomic_table.specs.Seated.{TableId}
use Rattle.lsm_shelf.specs.Asked.{Asked}
use Rattle.lsm_shelf.specs.Told.{Told}
use Rattle.lsm_shelf.specs.declared.shelf_fault.ShelfFault.{ShelfFault}
use Rattle.lsm_state.specs.Asked.{CollectRefused, OnShelf}
use Rattle.lsm_state.specs.Collecting.{AreCollected, IsCollectRefusal, IsCountedOnce, SameCounts}
use Rattle.lsm_state.specs.Held.{Held, IsLawfulState}
use Rattle.lsm_state.specs.declared.state_fault.StateFault.{StateFault}

-- `installed M`
abbrev pub installed_text : ℕ → List ℕ
installed_text installed = codes "installed " ++ (decimal installed ++ (10 ∷ []))

-- The tables that are listed and that this state does not keep were removed. It is a lawful one,
-- which has this board, and may write.
pub record IsSwept (Honest : Type 0) (board : TableId) (left : Held) (was is : Told) : Type 0 where
  pub lawful : IsLawfulState Honest board left
  pub on : left.slots.board.board ≡ board
  pub running : left.halted ≡ false
  pub removed : List ℕ
  pub collected : AreCollected left removed was is
  pub counts : SameCounts was is

-- This lawful state with this board refused to collect; its refusal says what was removed until
-- then. Where it was the shelf, other than for want of memory, it refused to list its tables, or to
-- remove one that is not kept.
pub record Refuses (Refused : Asked → ShelfFault
    → Type 0) (Honest : Type 0) (board : TableId) (left : Held) (fault : StateFault) (was is
    : Told) : Type 0 where
  pub before : Held
  pub lawful : IsLawfulState Honest board left
  pub on : left.slots.board.board ≡ board
  pub removed : List ℕ
  pub refused : IsCollectRefusal before left fault removed was is
  pub counts : IsCountedOnce fault was is
  pub asked : OnShelf (CollectRefused Refused left) fault
