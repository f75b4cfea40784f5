-- How a command waits for the lock of its folder before it asks for it itself: this project's rule.
use Rattle.std.specs.Prelude.{◌≡◌, ◌≢◌, ◌⊎◌, ℕ, ◌<◌, Bool, true, false, List, [], ◌∷◌, ◌++◌}
use Rattle.std.specs.Prelude.{Option, Some, None, Result, Ok, codes, replicate}
use Rattle.lsm_folder.specs.Calls.{Call, locked, opened}
use Rattle.lsm_folder.specs.declared.folder_calls.FolderCalls.{Ghosts}
use Rattle.lsm_folder.specs.declared.folder_fault.FolderFault.{FolderFault}
use Rattle.lsm_folder.specs.declared.lock_kind.LockKind.{LockKind}
use Rattle.lsm_folder.specs.declared.lock_kind.LockKind.TheVariants.{Shared, Exclusive}
use Rattle.lsm_shelf.specs.Place.{IsAtPath}
use Rattle.lsm_grammar.specs.declared.request.Request.{Request}
use Rattle.lsm_grammar.specs.declared.request.Request.TheVariants.{Convert, Look, Levels}
use Rattle.lsm_grammar.specs.declared.request.Request.TheVariants.{Write as WriteFolder, Load}
use Rattle.lsm_grammar.specs.declared.request.Request.TheVariants.{Import, Recover, Repair, Compact}
use Rattle.lsm_grammar.specs.declared.request.Request.TheVariants.{Script, Shell, Bench}

-- of a shell that only reads the lock is shared
abbrev pub shell_lock : Bool → LockKind
shell_lock true = Shared
shell_lock false = Exclusive

-- the folder that is waited for, and how its lock is asked for: shared by a command that only reads
abbrev pub locked_by : Request → Option (List ℕ × LockKind)
locked_by (Convert conversion input) = None
locked_by (Look line) = Some (line.path.now, Shared)
locked_by (Levels line) = None
locked_by (WriteFolder line) = Some (line.path.now, Exclusive)
locked_by (Load line) = Some (line.path.now, Exclusive)
locked_by (Import line) = None
locked_by (Recover line) = Some (line.path.now, Exclusive)
locked_by (Repair path) = Some (path.now, Exclusive)
locked_by (Compact line) = Some (line.path.now, Exclusive)
locked_by (Script input) = None
locked_by (Shell line) = Some (line.path.now, shell_lock line.reads_only)
locked_by (Bench line) = None

-- the lock of `LOCK` is asked for, and another has it
abbrev pub busy : LockKind → Call
busy kind = locked (codes "LOCK") kind (Ok false)

-- A folder was asked for that lock so many times, and another had it each time; or fewer times, and
-- once more with another answer. It was asked for nothing else.
abbrev pub AwaitsLock : LockKind → ℕ → (old new : List Call) → Type 0
AwaitsLock kind times old new =
    (new ≡ replicate times (busy kind) ++ old)
    ⊎ ((before : ℕ) × (answer : Result Bool FolderFault) × (before < times) × (answer ≢ Ok false)
    × (new ≡ locked (codes "LOCK") kind answer ∷ (replicate before (busy kind) ++ old)))

-- It was opened at the path, and asked so.
abbrev pub IsAwaited : {C M : Type 0} → Ghosts C M → Option (List ℕ × LockKind) → ℕ → C → Type 0
IsAwaited folders None times folder = ⊥
IsAwaited folders (Some (path, kind)) times folder =
    IsAtPath path (folders.place folder)
    × AwaitsLock kind times (opened ∷ []) (folders.calls folder)
