-- A conversation with a database that is only read (this project's rule).
use Rattle.std.specs.Prelude.{◌≡◌, ◌⊎◌, ℕ, Bool, List, Option, Result, Err}
use Rattle.std.specs.Io.KnownBytes.{Keeps}
use Rattle.lsm_shelf.specs.Asked.{Asked}
use Rattle.lsm_shelf.specs.Told.{Told, Becomes}
use Rattle.lsm_shelf.specs.declared.shelf_fault.ShelfFault.{ShelfFault}
use Rattle.lsm_state.specs.Held.{Held}
use Rattle.lsm_text.specs.declared.form.Form.{Form}
use Rattle.lsm_directory.specs.declared.folder.named_manifest.NamedManifest.{NamedManifest}
use Rattle.lsm_script.specs.Steps.{Stage, stage_of}
use Rattle.lsm_opening.specs.Reading.{IsReadingRefusal, OpensToRead}
use Rattle.lsm_opening.specs.declared.faults.compact_fault.CompactFault.TheVariants.{Writer}
use Rattle.lsm_opening.specs.declared.faults.writer_fault.WriterFault.{WriterFault}
use Rattle.lsm_cmd_shell.specs.Conversing.{of_talk, spent}
use Rattle.lsm_cmd_shell.specs.Talk.{IsTalk}
use Rattle.lsm_cmd_shell.specs.declared.talk_fault.TalkFault.{TalkFault}
use Rattle.lsm_cmd_shell.specs.declared.shell_fault.ShellFault.{ShellFault}
use Rattle.lsm_cmd_shell.specs.declared.shell_fault.ShellFault.TheVariants.{Run}

-- Nothing came in, and nothing was written: the version, the manifest that records it and the
-- history are as before, no job was reserved, and the shelf was told nothing but counts.
pub record IsUnwritten (s t : Stage) : Type 0 where
  pub version : t.state.slots.version ≡ s.state.slots.version
  pub journal : t.state.journal ≡ s.state.journal
  pub history : t.state.history ≡ s.state.history
  pub halted : t.state.halted ≡ s.state.halted
  pub jobs : t.jobs ≡ s.jobs
  pub told : Becomes s.told t.told

-- The directory was opened to read, and then a conversation went on with its state, which is
-- halted, and ended so. Nothing was written.
pub record ConversesToRead (honest : Type 0) (form : Form) (bails : Bool)
    (input : Option (List ℕ)) (r : Result (Unit {0}) TalkFault) (was is : Told)
    (old new : Option (List ℕ)) : Type 0 where
  pub manifest : NamedManifest
  pub state : Held
  pub mid : Told
  pub opened : OpensToRead honest manifest state was mid
  pub last : Stage
  pub talk : IsTalk honest form bails input r (stage_of state mid) last old new
  pub unwritten : IsUnwritten (stage_of state mid) last
  pub told : last.told ≡ is

-- Why it did not end well. Memory ran out before the first line was read; the directory was not
-- opened; or it ended so.
abbrev pub IsReadingFault : (ℕ → List ℕ → Type 0) → (Asked → ShelfFault → Type 0) → Type 0
    → Form → (bails : Bool) → Option (List ℕ) → ShellFault → Told → Told → Option (List ℕ)
    → Option (List ℕ) → Type 0
IsReadingFault Stored Refused honest form bails input e was is old new =
    ((e ≡ spent) × Keeps old new
    × ((is ≡ was) ⊎ ((m : NamedManifest) × (h : Held) × OpensToRead honest m h was is)))
    ⊎ (((fault : WriterFault) × (e ≡ Run (Writer fault))
    × IsReadingRefusal Stored Refused honest fault was is × Keeps old new)
    ⊎ ((fault : TalkFault) × (e ≡ of_talk fault)
    × ConversesToRead honest form bails input (Err fault) was is old new))
