-- One command after another on a state and its shelf, with the jobs and the results that a script
-- has (this project's rule).
use Rattle.std.specs.Prelude.{◌≡◌, List, []}
use Rattle.lsm_shelf.specs.Told.{Told}
use Rattle.lsm_merge.specs.Work.{Done, Work}
use Rattle.lsm_state.specs.Held.{Held}
use Rattle.lsm_script.specs.Replies.{IsCancelReply, IsCollectReply, IsGetReply, IsIngestReply}
use Rattle.lsm_script.specs.Replies.{IsInstallReply, IsListReply, IsMergeReply, IsPinReply}
use Rattle.lsm_script.specs.Replies.{IsRangeReply, IsReleaseReply, IsReserveReply, IsSnapshotReply}
use Rattle.lsm_script.specs.Replies.{IsUnpinReply}
use Rattle.lsm_script.specs.declared.command.Command.{Command}
use Rattle.lsm_script.specs.declared.command.Command.TheVariants.{Ingest, Get, Snapshot, Release}
use Rattle.lsm_script.specs.declared.command.Command.TheVariants.{Reserve, ReserveRange, Merge}
use Rattle.lsm_script.specs.declared.command.Command.TheVariants.{Install, Cancel, Pin, Unpin}
use Rattle.lsm_script.specs.declared.command.Command.TheVariants.{Collect, List as Listing}
use Rattle.lsm_script.specs.declared.reply.Reply.{Reply}

-- a state, what its shelf was told, and the script's jobs and results, each in the order in which
-- they came
pub record Stage : Type 0 where
  pub state : Held
  pub told : Told
  pub jobs : List Work
  pub results : List Done

-- the jobs and results of those who drive a state by commands
pub record OnDesk : Type 0 where
  pub jobs : List Work
  pub results : List Done

-- who has done nothing has no job and no result
abbrev pub clear : OnDesk
clear = record { jobs = []; results = [] }

-- a state with these, and with what the shelf was told
abbrev pub stage : Held → OnDesk → Told → Stage
stage h d t = record { state = h; told = t; jobs = d.jobs; results = d.results }

abbrev pub stage_of : Held → Told → Stage
stage_of h t = stage h clear t

-- the script's jobs and results are as before
abbrev pub KeepsAll : Stage → Stage → Type 0
KeepsAll s t = (t.jobs ≡ s.jobs) × (t.results ≡ s.results)

abbrev pub IsStep : Type 0 → Command → Reply → Stage → Stage → Type 0
IsStep honest (Ingest ws) r s t = KeepsAll s t × IsIngestReply ws r s.state t.state s.told t.told
IsStep honest (Get key at) r s t =
    KeepsAll s t × (t.state ≡ s.state) × IsGetReply honest key at r s.state s.told t.told
IsStep honest Snapshot r s t = KeepsAll s t × (t.told ≡ s.told) × IsSnapshotReply r s.state t.state
IsStep honest (Release id) r s t =
    KeepsAll s t × (t.told ≡ s.told) × IsReleaseReply id r s.state t.state
IsStep honest Reserve r s t = (t.results ≡ s.results) × (t.told ≡ s.told)
    × IsReserveReply honest r s.state t.state s.jobs t.jobs
IsStep honest (ReserveRange level from to) r s t =
    (t.results ≡ s.results) × (t.told ≡ s.told)
    × IsRangeReply honest level from to r s.state t.state s.jobs t.jobs
IsStep honest (Merge ticket) r s t =
    IsMergeReply honest ticket r s.state t.state s.jobs t.jobs s.results t.results s.told t.told
IsStep honest (Install ticket) r s t =
    (t.jobs ≡ s.jobs) × IsInstallReply honest ticket r s.state t.state s.results t.results s.told
    t.told
IsStep honest (Cancel ticket) r s t =
    KeepsAll s t × (t.told ≡ s.told) × IsCancelReply ticket r s.state t.state
IsStep honest Pin r s t = KeepsAll s t × (t.told ≡ s.told) × IsPinReply r s.state t.state
IsStep honest (Unpin id) r s t =
    KeepsAll s t × (t.told ≡ s.told) × IsUnpinReply id r s.state t.state
IsStep honest Collect r s t = KeepsAll s t × IsCollectReply r s.state t.state s.told t.told
IsStep honest Listing r s t = KeepsAll s t × (t.told ≡ s.told) × (t.state ≡ s.state)
    × IsListReply r s.state

-- such a step, before which the shelf may have been told more, by others who only read
abbrev pub IsLaterStep : Type 0 → Command → Reply → Stage → Stage → Type 0
IsLaterStep honest c r s t = (told : Told) × IsStep honest c r (record s { told = told }) t
