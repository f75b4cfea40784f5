-- What each command is answered, and what it leaves of the state, of the shelf, and of what the
-- script has (this project's rule). Each is what the state's own call says of it.
use Rattle.std.specs.Prelude.{◌≡◌, ℕ, suc, ◌+◌, ◌-◌, ◌^◌, ◌<◌, ◌≤◌, ◌⊎◌, ◌↔◌, IsTrue, true, false}
use Rattle.std.specs.Prelude.{List, [], ◌∷◌, ◌++◌, length, map, Option, None, Some}
use Rattle.lsm_codec.specs.Entries.{answer}
use Rattle.lsm_codec.specs.Keys.{UserKey}
use Rattle.lsm_codec.specs.Lists.{Has}
use Rattle.lsm_model.specs.Files.{all_entries}
use Rattle.lsm_shelf.specs.Told.{Told, Becomes}
use Rattle.lsm_version.specs.Versions.{files}
use Rattle.lsm_picker.specs.Choice.{HasNoChoice}
use Rattle.lsm_picker.specs.Moves.{IsMovable}
use Rattle.lsm_picker.specs.Reservations.{IsClear}
use Rattle.lsm_picker.specs.TablePlans.{tables_over}
use Rattle.lsm_model.specs.Plain as machine
use Rattle.lsm_batch.specs.declared.write.Write.{Write}
use Rattle.lsm_slots.specs.Slots.{Epoch, HasEpoch, IsPinned, PinsMove, current_id, current_slot}
use Rattle.lsm_slots.specs.Snapshots.{HasId}
use Rattle.lsm_merge.specs.Causes.{AnswersOf, AsksFor, HasCause, Leaves, NamesTicket}
use Rattle.lsm_merge.specs.Inputs.{IsReadable, input_numbers}
use Rattle.lsm_merge.specs.Outputs.{PutsEach, going, putting_all}
use Rattle.lsm_merge.specs.Work.{Done, IsFinished, Work, puts_by}
use Rattle.lsm_merge.specs.declared.merge_fault.MergeFault.{MergeFault}
use Rattle.lsm_merge.specs.declared.merge_fault.MergeFault.TheVariants as merging
use Rattle.lsm_live.specs.Booked.{HasTicket, without}
use Rattle.lsm_live.specs.Reserving.{reserved_jobs}
use Rattle.lsm_state.specs.Collecting.{AreCollected, HasLookedAround, IsCollectRefusal}
use Rattle.lsm_state.specs.Collecting.{IsCountedOnce, SameCounts}
use Rattle.lsm_state.specs.Held.{Held, plain}
use Rattle.lsm_state.specs.Ingesting.{Ingests, IsIngestRefusal, IsWelcome, entries_of}
use Rattle.lsm_state.specs.Installing as installing
use Rattle.lsm_state.specs.Listing.{listed_from}
use Rattle.lsm_state.specs.Reading.{IsNoBadTable, IsReadRefusal, IsSequence}
use Rattle.lsm_state.specs.Reserving.{IsChosen, IsOfMoment, IsRangePlan, IsRangeRefusal}
use Rattle.lsm_state.specs.Reserving.{IsReserveRefusal, IsReserving, plan_in, reserved}
use Rattle.lsm_state.specs.declared.ingest.Ingested as it
use Rattle.lsm_state.specs.declared.state_fault.StateFault.{StateFault}
use Rattle.lsm_state.specs.declared.state_fault.StateFault.TheVariants as fault
use Rattle.lsm_script.specs.Drawing.{AreDrawn}
use Rattle.lsm_script.specs.declared.command_fault.CommandFault.TheVariants.{State, Merge}
use Rattle.lsm_script.specs.declared.reply.Reply.{Reply}
use Rattle.lsm_script.specs.declared.reply.Reply.TheVariants.{Ingested, Value, Absent, Snapshot}
use Rattle.lsm_script.specs.declared.reply.Reply.TheVariants.{Released, Job, Move, NoJob, Merged}
use Rattle.lsm_script.specs.declared.reply.Reply.TheVariants.{Installed, Cancelled, Pinned}
use Rattle.lsm_script.specs.declared.reply.Reply.TheVariants.{Unpinned, Removed, Files, Refused}
use Rattle.lsm_script.specs.declared.reply.Reserved.{Reserved}

-- the state refused, with this fault
abbrev pub Refuses : Reply → StateFault → Type 0
Refuses reply e = reply ≡ Refused (State e)

-- ---- batches

-- The batch came in, or was refused.
abbrev pub IsIngestReply : List Write → Reply → Held → Held → Told → Told → Type 0
IsIngestReply ws reply old new was is =
    ((r : it.Ingested) × (reply ≡ Ingested r) × IsWelcome old ws × Ingests old new ws r was is
    × machine.Ingests (plain old) (entries_of old ws) (plain new) × SameCounts was is)
    ⊎ ((e : StateFault) × Refuses reply e × IsIngestRefusal old new ws e was is)

-- ---- reads and listings

-- the reply to a read that gives this
abbrev pub read_reply : Option (List ℕ) → Reply
read_reply None = Absent
read_reply (Some value) = Value value

-- over an honest shelf the newest value that the snapshot, or the last sequence, allows
pub record IsRead (honest : Type 0) (key : UserKey) (at : Option ℕ) (reply : Reply) (h : Held)
    : Type 0 where
  pub value : Option (List ℕ)
  pub is : reply ≡ read_reply value
  pub seq : ℕ
  pub allows : IsSequence h at seq
  pub answers : honest → value ≡ answer (all_entries (files h.slots.version)) key seq

abbrev pub IsGetReply : Type 0 → UserKey → Option ℕ → Reply → Held → Told → Told → Type 0
IsGetReply honest key at reply h was is =
    (IsRead honest key at reply h
    ⊎ ((e : StateFault) × Refuses reply e × IsReadRefusal h at was is e
    × (honest → IsNoBadTable e))) × Becomes was is

-- the files of the current version
abbrev pub IsListReply : Reply → Held → Type 0
IsListReply reply h = (reply ≡ Files (listed_from 0 h.slots.version.tables))
    ⊎ Refuses reply fault.OutOfMemory

-- ---- snapshots

-- the next id, at the last sequence
abbrev pub IsSnapshotReply : Reply → Held → Held → Type 0
IsSnapshotReply reply old new =
    ((reply ≡ Snapshot old.snapshots.next old.slots.version.last)
    × (old.snapshots.next ≡ 2 ^ 64 - 1 → ⊥)
    × (new ≡ record old {
      snapshots = record {
        taken = old.snapshots.taken
            ++ (old.snapshots.next, old.slots.version.last) ∷ [];
        next = suc old.snapshots.next;
      };
    }))
    ⊎ ((new ≡ old) × ((Refuses reply fault.NumbersSpent × (old.snapshots.next ≡ 2 ^ 64 - 1))
    ⊎ (Refuses reply fault.OutOfMemory × (old.snapshots.next ≡ 2 ^ 64 - 1 → ⊥))))

abbrev pub IsReleaseReply : ℕ → Reply → Held → Held → Type 0
IsReleaseReply id reply old new =
    ((reply ≡ Released) × HasId old.snapshots.taken id
    × (new ≡ record old {
      snapshots = record old.snapshots
          { taken = machine.without_snapshot id old.snapshots.taken };
    }))
    ⊎ (Refuses reply (fault.UnknownSnapshot id) × (new ≡ old) × (HasId old.snapshots.taken id → ⊥))

-- ---- pins

abbrev pub IsPinReply : Reply → Held → Held → Type 0
IsPinReply reply old new =
    ((reply ≡ Pinned (current_id old.slots)) × (new ≡ record old { slots = new.slots })
    × ((pins : ℕ) × (pins < 2 ^ 32 - 1)
    × PinsMove old.slots new.slots (current_id old.slots) pins (pins + 1)))
    ⊎ (Refuses reply fault.PinsSpent × (new ≡ old)
    × ((epoch : Epoch) × HasEpoch old.slots (current_slot old.slots) epoch
    × (epoch.pins ≡ 2 ^ 32 - 1)))

abbrev pub IsUnpinReply : ℕ → Reply → Held → Held → Type 0
IsUnpinReply id reply old new =
    ((reply ≡ Unpinned) × (new ≡ record old { slots = new.slots })
    × ((pins : ℕ) × PinsMove old.slots new.slots id (pins + 1) pins))
    ⊎ (Refuses reply (fault.UnknownSnapshot id) × (new ≡ old) × (IsPinned old.slots id → ⊥))

-- just the listed tables that are not kept were removed
pub record IsCollecting (ns : List ℕ) (old new : Held) (was is : Told) : Type 0 where
  pub going : old.halted ≡ false
  pub rest : new ≡ record old { slots = new.slots }
  pub looked : HasLookedAround old new
  pub removed : AreCollected new ns was is
  pub counts : SameCounts was is

abbrev pub IsCollectReply : Reply → Held → Held → Told → Told → Type 0
IsCollectReply reply old new was is =
    ((ns : List ℕ) × (reply ≡ Removed ns) × IsCollecting ns old new was is)
    ⊎ ((e : StateFault) × (removed : List ℕ) × Refuses reply e
    × (new ≡ record old { slots = new.slots }) × IsCollectRefusal old new e removed was is
    × IsCountedOnce e was is)

-- ---- reservations

-- the ticket, the level and the numbers of the inputs are the job's
pub record IsSaid (w : Work) (r : Reserved) : Type 0 where
  pub ticket : r.ticket ≡ w.ticket
  pub level : r.level ≡ w.level
  pub inputs : r.inputs ≡ input_numbers w

-- the reply says the job, and whether it is a move
abbrev pub SaysJob : Work → Reply → Type 0
SaysJob w reply = (r : Reserved) × IsSaid w r
    × (((w.is_move ≡ true) × (reply ≡ Move r)) ⊎ ((w.is_move ≡ false) × (reply ≡ Job r)))

-- the state gained the job of this moment
pub record Gains (honest : Type 0) (old : Held) (w : Work) (new : Held) : Type 0 where
  pub going : old.halted ≡ false
  pub moment : IsOfMoment old w
  pub is : new ≡ reserved w old
  pub event : IsReserving honest old w new
  pub unspent : w.ticket ≡ 2 ^ 64 - 1 → ⊥

-- it is the job of the plan that is chosen, and a move exactly by the rule
pub record IsChosenJob (honest : Type 0) (old : Held) (w : Work) : Type 0 where
  pub chosen : honest → IsChosen old (plan_in w)
  pub moves : IsTrue w.is_move ↔ IsMovable old.slots.version (plan_in w) old.options.target_size

-- it is the job of the files that meet the range, no move, and conflicts with no live job
pub record IsRangeJob (honest : Type 0) (level : ℕ) (from to : UserKey) (old : Held) (w : Work)
    : Type 0 where
  pub planned : honest → IsRangePlan old level from to (plan_in w)
  pub level_is : w.level ≡ level
  pub low : level ≤ 5
  pub stays : w.is_move ≡ false
  pub clear : IsClear (plan_in w) (reserved_jobs old.live)

-- A job that was reserved is said, and the script has it; or there was no memory to say it, and it
-- was cancelled.
abbrev pub IsKeepReply : Work → Reply → Held → Held → List Work → List Work → Type 0
IsKeepReply w reply old new jobs jobs' = (SaysJob w reply × (new ≡ old) × (jobs' ≡ jobs ++ w ∷ []))
    ⊎ (Refuses reply fault.OutOfMemory × (new ≡ record old { live = without w.ticket old.live })
    × (jobs' ≡ jobs))

-- a job was reserved, and then kept or cancelled
pub record IsReserved (honest : Type 0) (Its : Work
    → Type 0) (reply : Reply) (old new : Held) (jobs jobs' : List Work) : Type 0 where
  pub work : Work
  pub mid : Held
  pub its : Its work
  pub gains : Gains honest old work mid
  pub kept : IsKeepReply work reply mid new jobs jobs'

-- nothing was reserved: no room for a job; or none to reserve; or the state refused
abbrev pub IsUnreserved : Type 0 → (StateFault → Type 0) → Reply → Type 0
IsUnreserved none refused reply =
    Refuses reply fault.OutOfMemory
    ⊎ (((reply ≡ NoJob) × none) ⊎ ((e : StateFault) × Refuses reply e × refused e))

abbrev pub IsJobReply : Type 0 → (Work → Type 0) → Type 0 → (StateFault → Type 0) → Reply → Held
    → Held → List Work → List Work → Type 0
IsJobReply honest Its none refused reply old new jobs jobs' =
    IsReserved honest Its reply old new jobs jobs'
    ⊎ (IsUnreserved none refused reply × (new ≡ old) × (jobs' ≡ jobs))

-- over an honest shelf there is no choice
abbrev pub HasNone : Type 0 → Held → Type 0
HasNone honest old = (old.halted ≡ false)
    × (honest → HasNoChoice old.slots.version (reserved_jobs old.live))

-- over an honest shelf no file meets the range
abbrev pub MeetsNone : Type 0 → ℕ → UserKey → UserKey → Held → Type 0
MeetsNone honest level from to old =
    (old.halted ≡ false) × (level ≤ 5) × (honest → tables_over old.slots.version level from to ≡ [])

-- just the chosen job, none exactly where there is no choice
abbrev pub IsReserveReply : Type 0 → Reply → Held → Held → List Work → List Work → Type 0
IsReserveReply honest reply old new jobs jobs' =
    IsJobReply honest (IsChosenJob honest old) (HasNone honest old) (IsReserveRefusal honest old)
    reply old new jobs jobs'

-- just the job of the files that meet the range, none exactly where none does
abbrev pub IsRangeReply : Type 0 → ℕ → UserKey → UserKey → Reply → Held → Held → List Work
    → List Work → Type 0
IsRangeReply honest level from to reply old new jobs jobs' =
    IsJobReply honest (IsRangeJob honest level from to old) (MeetsNone honest level from to old)
    (IsRangeRefusal honest old level from to) reply old new jobs jobs'

abbrev pub IsCancelReply : ℕ → Reply → Held → Held → Type 0
IsCancelReply ticket reply old new =
    ((reply ≡ Cancelled) × HasTicket old.live ticket
    × (new ≡ record old { live = without ticket old.live }))
    ⊎ (Refuses reply (fault.UnknownTicket ticket) × (new ≡ old) × (HasTicket old.live ticket → ⊥))

-- ---- merges

-- just one is taken out of a list
pub record IsTakenOut {T : Type 0} (x : T) (old new : List T) : Type 0 where
  pub front : List T
  pub back : List T
  pub old_is : old ≡ front ++ x ∷ back
  pub new_is : new ≡ front ++ back

-- The job was merged: the numbers that were put were drawn under its ticket, and no others, and
-- just its outputs were put, in order.
pub record IsMerged (honest : Type 0) (w : Work) (done : Done) (old new : Held) (was is : Told)
    : Type 0 where
  pub its : done.work ≡ w
  pub finished : IsFinished honest done
  pub drawn : AreDrawn w.ticket (going done.put []) old new
  pub told : Becomes (putting_all (puts_by done) was) is

-- The same, with what holds of the state after the draws.
pub record IsMergedBy {X : Type 0} (honest : Type 0) (holds : X → List ℕ → List ℕ → List ℕ
    → Type 0) (w : Work) (done : Done) (new : X) (was is : Told) : Type 0 where
  pub its : done.work ≡ w
  pub finished : IsFinished honest done
  pub told : Becomes (putting_all (puts_by done) was) is
  pub refused : List ℕ
  pub asked : List ℕ
  pub asks : AsksFor w.ticket [] asked
  pub fact : holds new (going done.put []) refused asked

-- why the state gave no number: the ticket is not live; or the next number is the last one
abbrev pub IsNumberCause : ℕ → Held → MergeFault → Type 0
IsNumberCause ticket h (merging.UnknownTicket t) = (t ≡ ticket) × (HasTicket h.live ticket → ⊥)
IsNumberCause ticket h merging.NumbersSpent = h.next ≡ 2 ^ 64 - 1
IsNumberCause ticket h e = Unit {0}

-- The merge was refused: the numbers that were put were drawn under the job's ticket, and one more
-- perhaps.
pub record IsRefusedMerge (honest : Type 0) (w : Work) (e : MergeFault) (old new : Held)
    (was is : Told) : Type 0 where
  pub put : List ℕ
  pub drew : List ℕ
  pub leaves : Leaves e put drew []
  pub drawn : AreDrawn w.ticket drew old new
  pub told : PutsEach put was is
  pub cause : HasCause (input_numbers w) e was is
  pub number : IsNumberCause w.ticket new e
  pub sound : honest → IsReadable e

-- The same, with what holds of the state after the draws.
pub record IsRefusedBy {X : Type 0} (honest : Type 0) (holds : X → List ℕ → List ℕ → List ℕ
    → Type 0) (w : Work) (e : MergeFault) (new : X) (was is : Told) : Type 0 where
  pub put : List ℕ
  pub drew : List ℕ
  pub refused : List ℕ
  pub asked : List ℕ
  pub leaves : Leaves e put drew []
  pub told : PutsEach put was is
  pub cause : HasCause (input_numbers w) e was is
  pub why : AnswersOf e [] refused
  pub ticket : NamesTicket e w.ticket
  pub asks : AsksFor w.ticket [] asked
  pub sound : honest → IsReadable e
  pub fact : holds new drew refused asked

-- the script's job of the ticket was merged, and its result stands in place of it
pub record IsMerging (honest : Type 0) (ticket tables : ℕ) (old new : Held) (jobs jobs' : List Work)
    (results results' : List Done) (was is : Told) : Type 0 where
  pub done : Done
  pub its : done.work.ticket ≡ ticket
  pub out : IsTakenOut done.work jobs jobs'
  pub kept : results' ≡ results ++ done ∷ []
  pub count : tables ≡ length done.put
  pub merged : IsMerged honest done.work done old new was is

-- the merge of the script's job of the ticket was refused
abbrev pub IsUnmerged : Type 0 → ℕ → MergeFault → Held → Held → List Work → Told → Told → Type 0
IsUnmerged honest ticket e old new jobs was is =
    (w : Work) × Has jobs w × (w.ticket ≡ ticket) × IsRefusedMerge honest w e old new was is

-- no job, no result of the ticket
abbrev pub HasNoJob : List Work → ℕ → Type 0
HasNoJob jobs ticket = (w : Work) → Has jobs w → w.ticket ≡ ticket → ⊥

abbrev pub HasNoResult : List Done → ℕ → Type 0
HasNoResult results ticket = (d : Done) → Has results d → d.work.ticket ≡ ticket → ⊥

-- nothing was done
abbrev pub IsLeftAlone : Held → Held → Told → Told → Type 0
IsLeftAlone old new was is = (new ≡ old) × (is ≡ was)

-- Of the script's job of the ticket: merged, or refused. Else nothing was done: the script has no
-- such job, or memory was refused.
abbrev pub IsMergeReply : Type 0 → ℕ → Reply → Held → Held → List Work → List Work → List Done
    → List Done → Told → Told → Type 0
IsMergeReply honest ticket reply old new jobs jobs' results results' was is =
    ((n : ℕ) × (reply ≡ Merged ticket n)
    × IsMerging honest ticket n old new jobs jobs' results results' was is)
    ⊎ (((e : MergeFault) × (reply ≡ Refused (Merge e))
    × IsUnmerged honest ticket e old new jobs was is × (jobs' ≡ jobs) × (results' ≡ results))
    ⊎ ((Refuses reply fault.OutOfMemory
    ⊎ (Refuses reply (fault.UnknownTicket ticket) × HasNoJob jobs ticket))
    × IsLeftAlone old new was is × (jobs' ≡ jobs) × (results' ≡ results)))

-- ---- installs

-- the script's result of the ticket was installed, and is out
pub record IsInstall (honest : Type 0) (ticket : ℕ) (ns : List ℕ) (old new : Held)
    (results results' : List Done) (was is : Told) : Type 0 where
  pub done : Done
  pub its : done.work.ticket ≡ ticket
  pub out : IsTakenOut done results results'
  pub may : installing.MayInstall old done
  pub installed : installing.Installed old new done was is
  pub numbers : ns ≡ map (λ t. t.number) done.outputs
  pub answers : honest → installing.SameAnswers old new
  pub event : installing.IsInstalling honest old ticket new
  pub counts : SameCounts was is

-- the state refused to install the script's result of the ticket
pub record IsUninstalled (ticket : ℕ) (e : StateFault) (old new : Held) (results : List Done)
    (was is : Told) : Type 0 where
  pub done : Done
  pub has : Has results done
  pub its : done.work.ticket ≡ ticket
  pub refused : installing.IsInstallRefusal old new done e was is
  pub told : Becomes was is

-- Of the script's result of the ticket: installed, or refused. Else nothing was done: the script
-- has no such result.
abbrev pub IsInstallReply : Type 0 → ℕ → Reply → Held → Held → List Done → List Done → Told → Told
    → Type 0
IsInstallReply honest ticket reply old new results results' was is =
    ((ns : List ℕ) × (reply ≡ Installed ns)
    × IsInstall honest ticket ns old new results results' was is)
    ⊎ ((((e : StateFault) × Refuses reply e × IsUninstalled ticket e old new results was is)
    ⊎ (Refuses reply (fault.UnknownTicket ticket) × HasNoResult results ticket
    × IsLeftAlone old new was is))
    × (results' ≡ results))
