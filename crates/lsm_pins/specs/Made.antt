-- What making a board gives.
use Rattle.std.specs.Prelude.{◌≡◌, ℕ}
use Rattle.atomic_table.specs.Seated.{TableId}
use Rattle.lsm_pins.specs.declared.pinner.Pinner.{Pinner}
use Rattle.lsm_pins.specs.View.{reader_view, first_view, start_of}

-- a pinner at this board that holds nothing, has made no pin, and has seen the id in slot 0
pub record IsNewPinner (board : TableId) (slots id : ℕ) (p : Pinner) : Type 0 where
  pub at : p.board ≡ board
  pub knows : p.knows ≡ reader_view (first_view (start_of slots id))
