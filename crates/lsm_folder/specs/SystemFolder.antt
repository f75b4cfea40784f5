-- A folder of the system, as contracts see it (this project's rule).
use Rattle.std.specs.Prelude.{List, ℕ, string_bytes}
use Rattle.std.specs.Arc.{arc_value}
use Rattle.boxcar.specs.Table.{Shows}
use Rattle.lsm_folder.specs.Calls.{AreHonest, Call}
use Rattle.lsm_shelf.specs.Place.{Place, in_memory, at_path}
use Rattle.lsm_folder.specs.declared.system_folder.SystemFolder.{SystemFolder}
use Rattle.lsm_folder.specs.declared.system_mark.SystemMark.{SystemMark}
use Rattle.lsm_folder.specs.declared.witness.Witness as Witness

module _ {R W D K : Type 0} {w : Witness.Ghosts W K} where
  abbrev pub system_calls : SystemFolder R W D K w → List Call
  system_calls f = f.seen.log.calls

  -- the folder is named by its path, and by the marks that it handed out
  abbrev pub system_place : SystemFolder R W D K w → Place
  system_place f = at_path (string_bytes f.path) (arc_value f.marks)

  -- The premise on folders, at the type of this one: whatever a folder of the type was asked, its
  -- last answer is true
  abbrev pub IsOfHonestType : SystemFolder R W D K w → Type 0
  IsOfHonestType f = AreHonest {C = SystemFolder R W D K w} system_calls

module _ {W K : Type 0} where
  -- the folder handed the mark out
  abbrev pub IsOfSystem : Place → SystemMark W K → Type 0
  IsOfSystem (in_memory images) m = ⊥
  IsOfSystem (at_path path marks) m = Shows marks m.token

  abbrev pub system_mark_name : SystemMark W K → List ℕ
  system_mark_name m = m.token.value.name.numbers

  -- the bytes that the witness keeps, as they are read off that
  abbrev pub system_mark_image : (K → List ℕ) → SystemMark W K → List ℕ
  system_mark_image image m = image m.token.value.kept
