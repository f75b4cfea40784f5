-- A conversation with a halted state that has no job.
use Rattle.std.proofs.Common.{◌≡◌, ◌∙◌, ℕ, zero, suc, Bool, true, false, List, [], ◌∷◌, ◌++◌}
use Rattle.std.proofs.Common.{Option, None, Some, refl, sym, ap, subst, inl, inr}
use Rattle.std.specs.Prelude.{Result}
use Rattle.lsm_codec.specs.Keys.{UserKey}
use Rattle.lsm_codec.specs.Lists.{Has}
use Rattle.lsm_shelf.specs.Told.{Told, Becomes}
use Rattle.lsm_shelf.proofs.CallerLemmas.{becomes_same, becomes_then}
use Rattle.lsm_batch.specs.declared.write.Write.{Write}
use Rattle.lsm_text.specs.declared.form.Form.{Form}
use Rattle.lsm_merge.specs.Work.{Work}
use Rattle.lsm_slots.specs.Slots.{Slotted}
use Rattle.lsm_state.specs.Held.{Held}
use Rattle.lsm_state.specs.Ingesting.{IsEarlyRefusal}
use Rattle.lsm_state.specs.declared.state_fault.StateFault.{StateFault}
use Rattle.lsm_state.specs.declared.state_fault.StateFault.TheVariants as state
use Rattle.lsm_script.specs.Steps.{IsStep, Stage}
use Rattle.lsm_script.specs.declared.command.Command.{Command}
use Rattle.lsm_script.specs.declared.command.Command.TheVariants.{Ingest, Get, Snapshot, Release}
use Rattle.lsm_script.specs.declared.command.Command.TheVariants.{Reserve, ReserveRange, Merge}
use Rattle.lsm_script.specs.declared.command.Command.TheVariants.{Install, Cancel, Pin, Unpin}
use Rattle.lsm_script.specs.declared.command.Command.TheVariants.{Collect, List as Listing}
use Rattle.lsm_script.specs.declared.command_fault.CommandFault.{CommandFault}
use Rattle.lsm_script.specs.declared.command_fault.CommandFault.TheVariants.{State}
use Rattle.lsm_script.specs.declared.reply.Reply.{Reply}
use Rattle.lsm_script.specs.declared.reply.Reply.TheVariants.{Refused}
use Rattle.lsm_cmd_shell.specs.Batching.{IsCommitReply, IsIngested, IsPutReply, Standing, standing}
use Rattle.lsm_cmd_shell.specs.Reading.{IsUnwritten}
use Rattle.lsm_cmd_shell.specs.Rounds.{AreRounds, Ends, IsRefusedRound, IsRound, IsUnfinished}
use Rattle.lsm_cmd_shell.specs.Rounds.{NoneIsDue}
use Rattle.lsm_cmd_shell.specs.Said.{Said}
use Rattle.lsm_cmd_shell.specs.Talk.{AreReplied, IsCompactReply, IsReplied, IsTalk, Obeys, Obeyed}
use Rattle.lsm_cmd_shell.specs.Talk.{Bad, Long, Spent}
use Rattle.lsm_cmd_shell.specs.declared.ask.Ask.{Ask}
use Rattle.lsm_cmd_shell.specs.declared.ask.Ask.TheVariants.{Do, Put, Scan, Begin, Commit, Abort}
use Rattle.lsm_cmd_shell.specs.declared.ask.Ask.TheVariants.{Compact, Stats, Help}
use Rattle.lsm_cmd_shell.specs.declared.talk_fault.TalkFault.{TalkFault}

-- ---- one after another

-- the state is halted, and no job was reserved
abbrev pub IsRead : Stage → Type 0
IsRead s = (s.state.halted ≡ true) × (s.jobs ≡ [])

-- from there on nothing is written
abbrev pub Reads : Stage → Stage → Type 0
Reads s t = IsRead s → IsUnwritten s t

goes_on : (b : Bool) → b ≡ true → b ≡ false → ⊥
goes_on b halted going = absurd cc

none_out : (front back jobs : List Work) (w : Work) → jobs ≡ [] → jobs ≡ front ++ w ∷ back → ⊥
none_out [] back jobs w none is = absurd cc
none_out (x ∷ front) back jobs w none is = absurd cc

told_same : (was is : Told) → is ≡ was → Becomes was is
told_same was is same = subst (Becomes was) (sym same) (becomes_same was)

unwritten_none : (s : Stage) → IsUnwritten s s
unwritten_none s = record {
  version = refl;
  journal = refl;
  history = refl;
  halted = refl;
  jobs = refl;
  told = becomes_same s.told;
}

reads_same : (s t : Stage) → t ≡ s → Reads s t
reads_same s t same read = subst (IsUnwritten s) (sym same) (unwritten_none s)

reads_then : (s m t : Stage) → Reads s m → Reads m t → Reads s t
reads_then s m t first later read =
    let a = first read in
    let b = later (a.halted ∙ read.0, a.jobs ∙ read.1) in
    record {
      version = b.version ∙ a.version;
      journal = b.journal ∙ a.journal;
      history = b.history ∙ a.history;
      halted = b.halted ∙ a.halted;
      jobs = b.jobs ∙ a.jobs;
      told = becomes_then s.told m.told t.told a.told b.told;
    }

-- the state is one that has the same version, manifest and history
as_before : (s t : Stage) (h : Held) → t.state ≡ h → h.slots.version ≡ s.state.slots.version
    → h.journal ≡ s.state.journal → h.history ≡ s.state.history → h.halted ≡ s.state.halted
    → t.jobs ≡ s.jobs → Becomes s.told t.told → IsUnwritten s t
as_before s t h is version journal history halted jobs told = record {
  version = ap (λ (x : Held). x.slots.version) is ∙ version;
  journal = ap (λ (x : Held). x.journal) is ∙ journal;
  history = ap (λ (x : Held). x.history) is ∙ history;
  halted = ap (λ (x : Held). x.halted) is ∙ halted;
  jobs = jobs;
  told = told;
}

unchanged : (s t : Stage) → t.state ≡ s.state → t.jobs ≡ s.jobs → Becomes s.told t.told
    → IsUnwritten s t
unchanged s t is jobs told = as_before s t s.state is refl refl refl refl jobs told

-- ---- one command

ingest_reads : (honest : Type 0) (ws : List Write) (r : Reply) (s t : Stage)
    → IsStep honest (Ingest ws) r s t → Reads s t
ingest_reads honest ws r s t (kept, inl (i, is, welcome, came, event, counts)) read =
    absurd (goes_on s.state.halted read.0 welcome.takes.0)
ingest_reads honest ws r s t (kept, inr (e, is, inl (early, same, told))) read =
    unchanged s t same kept.0 (told_same s.told t.told told)
ingest_reads honest ws r s t (kept, inr (e, is, inr (welcome, more))) read =
    absurd (goes_on s.state.halted read.0 welcome.takes.0)

snapshot_reads : (honest : Type 0) (r : Reply) (s t : Stage) → IsStep honest Snapshot r s t
    → Reads s t
snapshot_reads honest r s t (kept, told, inl (is, fits, new)) read =
    as_before s t _ new refl refl refl refl kept.0 (told_same s.told t.told told)
snapshot_reads honest r s t (kept, told, inr (same, why)) read =
    unchanged s t same kept.0 (told_same s.told t.told told)

release_reads : (honest : Type 0) (id : ℕ) (r : Reply) (s t : Stage)
    → IsStep honest (Release id) r s t → Reads s t
release_reads honest id r s t (kept, told, inl (is, has, new)) read =
    as_before s t _ new refl refl refl refl kept.0 (told_same s.told t.told told)
release_reads honest id r s t (kept, told, inr (is, same, none)) read =
    unchanged s t same kept.0 (told_same s.told t.told told)

reserve_reads : (honest : Type 0) (r : Reply) (s t : Stage) → IsStep honest Reserve r s t
    → Reads s t
reserve_reads honest r s t (results, told, inl reserved) read =
    absurd (goes_on s.state.halted read.0 reserved.gains.going)
reserve_reads honest r s t (results, told, inr (why, same, jobs)) read =
    unchanged s t same jobs (told_same s.told t.told told)

range_reads : (honest : Type 0) (level : ℕ) (from to : UserKey) (r : Reply) (s t : Stage)
    → IsStep honest (ReserveRange level from to) r s t → Reads s t
range_reads honest level from to r s t (results, told, inl reserved) read =
    absurd (goes_on s.state.halted read.0 reserved.gains.going)
range_reads honest level from to r s t (results, told, inr (why, same, jobs)) read =
    unchanged s t same jobs (told_same s.told t.told told)

merge_reads : (honest : Type 0) (ticket : ℕ) (r : Reply) (s t : Stage)
    → IsStep honest (Merge ticket) r s t → Reads s t
merge_reads honest ticket r s t (inl (n, is, merging)) read =
    absurd (none_out merging.out.front merging.out.back s.jobs merging.done.work read.1
    merging.out.old_is)
merge_reads honest ticket r s t (inr (inl (e, is, (w, has, its, refused), jobs, results))) read =
    absurd (subst (λ (ws : List Work). Has ws w) read.1 has)
merge_reads honest ticket r s t (inr (inr (why, (same, told), jobs, results))) read =
    unchanged s t same jobs (told_same s.told t.told told)

install_reads : (honest : Type 0) (ticket : ℕ) (r : Reply) (s t : Stage)
    → IsStep honest (Install ticket) r s t → Reads s t
install_reads honest ticket r s t (jobs, inl (ns, is, install)) read =
    absurd (goes_on s.state.halted read.0 install.may.going)
install_reads honest ticket r s t (jobs, inr (inl (e, is, not), results)) read =
    elim not.refused [
      | inl once ↦ unchanged s t once.1 jobs not.told
      | inr later ↦ absurd (goes_on s.state.halted read.0 later.0.going)
    ]
install_reads honest ticket r s t (jobs, inr (inr (is, none, (same, told)), results)) read =
    unchanged s t same jobs (told_same s.told t.told told)

cancel_reads : (honest : Type 0) (ticket : ℕ) (r : Reply) (s t : Stage)
    → IsStep honest (Cancel ticket) r s t → Reads s t
cancel_reads honest ticket r s t (kept, told, inl (is, has, new)) read =
    as_before s t _ new refl refl refl refl kept.0 (told_same s.told t.told told)
cancel_reads honest ticket r s t (kept, told, inr (is, same, none)) read =
    unchanged s t same kept.0 (told_same s.told t.told told)

pin_reads : (honest : Type 0) (r : Reply) (s t : Stage) → IsStep honest Pin r s t → Reads s t
pin_reads honest r s t (kept, told, inl (is, new, (pins, few, move))) read =
    as_before s t _ new (ap (λ (x : Slotted). x.version) move.is) refl refl refl kept.0
    (told_same s.told t.told told)
pin_reads honest r s t (kept, told, inr (is, same, many)) read =
    unchanged s t same kept.0 (told_same s.told t.told told)

unpin_reads : (honest : Type 0) (id : ℕ) (r : Reply) (s t : Stage)
    → IsStep honest (Unpin id) r s t → Reads s t
unpin_reads honest id r s t (kept, told, inl (is, new, (pins, move))) read =
    as_before s t _ new (ap (λ (x : Slotted). x.version) move.is) refl refl refl kept.0
    (told_same s.told t.told told)
unpin_reads honest id r s t (kept, told, inr (is, same, none)) read =
    unchanged s t same kept.0 (told_same s.told t.told told)

collect_reads : (honest : Type 0) (r : Reply) (s t : Stage) → IsStep honest Collect r s t
    → Reads s t
collect_reads honest r s t (kept, inl (ns, is, collecting)) read =
    absurd (goes_on s.state.halted read.0 collecting.going)
collect_reads honest r s t (kept, inr (e, removed, is, new, refused, counted)) read =
    elim refused [
      | inl halted ↦ unchanged s t halted.2 kept.0 halted.4
      | inr going ↦ absurd (goes_on s.state.halted read.0 going.0)
    ]

step_reads : (honest : Type 0) (c : Command) (r : Reply) (s t : Stage) → IsStep honest c r s t
    → Reads s t
step_reads honest (Ingest ws) r s t step = ingest_reads honest ws r s t step
step_reads honest (Get key at) r s t (kept, same, (either, told)) =
    λ read. unchanged s t same kept.0 told
step_reads honest Snapshot r s t step = snapshot_reads honest r s t step
step_reads honest (Release id) r s t step = release_reads honest id r s t step
step_reads honest Reserve r s t step = reserve_reads honest r s t step
step_reads honest (ReserveRange level from to) r s t step =
    range_reads honest level from to r s t step
step_reads honest (Merge ticket) r s t step = merge_reads honest ticket r s t step
step_reads honest (Install ticket) r s t step = install_reads honest ticket r s t step
step_reads honest (Cancel ticket) r s t step = cancel_reads honest ticket r s t step
step_reads honest Pin r s t step = pin_reads honest r s t step
step_reads honest (Unpin id) r s t step = unpin_reads honest id r s t step
step_reads honest Collect r s t step = collect_reads honest r s t step
step_reads honest Listing r s t (kept, told, same, is) =
    λ read. unchanged s t same kept.0 (told_same s.told t.told told)

-- ---- compactions

unfinished : (honest : Type 0) (ticket : ℕ) (e : CommandFault) (s t : Stage)
    → IsUnfinished honest ticket e s t → Reads s t
unfinished honest ticket e s t (inl refused) =
    step_reads honest (Merge ticket) (Refused e) s t refused
unfinished honest ticket e s t (inr (m, (a, merged, well), refused)) =
    reads_then s m t (step_reads honest (Merge ticket) a s m merged)
    (step_reads honest (Install ticket) (Refused e) m t refused)

round : (honest : Type 0) (s t : Stage) → IsRound honest s t → Reads s t
round honest s t (ticket, m, (r, reserved, named), (k, (a, merged, well), (b, installed, done))) =
    reads_then s m t (step_reads honest Reserve r s m reserved)
    (reads_then m k t (step_reads honest (Merge ticket) a m k merged)
    (step_reads honest (Install ticket) b k t installed))

refused_round : (honest : Type 0) (e : CommandFault) (s t : Stage) → IsRefusedRound honest e s t
    → Reads s t
refused_round honest e s t (inl refused) = step_reads honest Reserve (Refused e) s t refused
refused_round honest e s t (inr (ticket, m, (r, reserved, named), (k, q, not, cancelled))) =
    reads_then s m t (step_reads honest Reserve r s m reserved)
    (reads_then m k t (unfinished honest ticket e m k not)
    (step_reads honest (Cancel ticket) q k t cancelled))

rounds : (honest : Type 0) (n : ℕ) (s t : Stage) → AreRounds honest n s t → Reads s t
rounds honest zero s t same = reads_same s t same
rounds honest (suc n) s t (m, before, last) =
    reads_then s m t (rounds honest n s m before) (round honest m t last)

none_due : (honest : Type 0) (s t : Stage) → NoneIsDue honest s t → Reads s t
none_due honest s t (r, step, well, none) = step_reads honest Reserve r s t step

ends : (honest : Type 0) (n : ℕ) (e : CommandFault) (s t : Stage) → Ends honest n e s t
    → Reads s t
ends honest n e s t (inl refused) = refused_round honest e s t refused
ends honest n e s t (inr (inl (m, none, refused))) =
    reads_then s m t (none_due honest s m none)
    (step_reads honest Collect (Refused e) m t refused)
ends honest n e s t (inr (inr (many, spent, same))) = reads_same s t same

compact_reads : (honest : Type 0) (form : Form) (said : Said) (s t : Stage)
    → IsCompactReply honest form said s t → Reads s t
compact_reads honest form said s t (inl (n, done, says)) =
    reads_then s done.last t (rounds honest n s done.last done.rounds)
    (reads_then done.last done.idle t (none_due honest done.last done.idle done.none)
    (step_reads honest Collect done.collected.0 done.idle t done.collected.1))
compact_reads honest form said s t (inr (e, not, says)) =
    reads_then s not.last t (rounds honest not.count s not.last not.rounds)
    (ends honest not.count e not.last t not.ends)

-- ---- one line

ingested_reads : (honest : Type 0) (form : Form) (IsIt : List Write → Type 0) (said : Said)
    (s t : Stage) → IsIngested honest form IsIt said s t → Reads s t
ingested_reads honest form IsIt said s t (inl (batch, r, is, step, says)) =
    ingest_reads honest batch r s t step
ingested_reads honest form IsIt said s t (inr (spent, same)) = reads_same s t same

put_reads : (honest : Type 0) (form : Form) (w : Write) (begun : Option (List Write)) (said : Said)
    (s t : Standing) → IsPutReply honest form w begun said s t → Reads s.stage t.stage
put_reads honest form w None said s t (none, came) =
    ingested_reads honest form (λ batch. batch ≡ w ∷ []) said s.stage t.stage came
put_reads honest form w (Some ws) said s t (same, queued) = reads_same s.stage t.stage same

commit_reads : (honest : Type 0) (form : Form) (begun : Option (List Write)) (said : Said)
    (s t : Standing) → IsCommitReply honest form begun said s t → Reads s.stage t.stage
commit_reads honest form None said s t (none, says, same) = reads_same s.stage t.stage same
commit_reads honest form (Some ws) said s t (none, inl (batch, r, is, step, says)) =
    ingest_reads honest batch r s.stage t.stage step
commit_reads honest form (Some ws) said s t (none, inr (spent, same)) =
    reads_same s.stage t.stage same

stood : (s t : Standing) → t ≡ s → Reads s.stage t.stage
stood s t same = reads_same s.stage t.stage (ap (λ (x : Standing). x.stage) same)

obeyed_reads : (honest : Type 0) (form : Form) (a : Ask) (said : Said) (s t : Standing)
    → Obeys honest form a said s t → Reads s.stage t.stage
obeyed_reads honest form (Do c) said s t (same, (r, step, says)) =
    step_reads honest c r s.stage t.stage step
obeyed_reads honest form (Put w) said s t h = put_reads honest form w s.begun said s t h
obeyed_reads honest form (Scan b n) said s t (same, scan) = λ read.
    unchanged s.stage t.stage (ap (λ (x : Stage). x.state) scan.same)
    (ap (λ (x : Stage). x.jobs) scan.same) scan.told
obeyed_reads honest form Begin said s t (same, h) = reads_same s.stage t.stage same
obeyed_reads honest form Commit said s t h = commit_reads honest form s.begun said s t h
obeyed_reads honest form Abort said s t (same, h) = reads_same s.stage t.stage same
obeyed_reads honest form Compact said s t (same, h) =
    compact_reads honest form said s.stage t.stage h
obeyed_reads honest form Stats said s t (same, h) = stood s t same
obeyed_reads honest form Help said s t (same, h) = stood s t same

replied_reads : (honest : Type 0) (form : Form) (line : List ℕ) (said : Said) (s t : Standing)
    → IsReplied honest form line said s t → Reads s.stage t.stage
replied_reads honest form line said s t (Obeyed a ask h) =
    obeyed_reads honest form a said s t h
replied_reads honest form line said s t (Bad none other e same) = stood s t same
replied_reads honest form line said s t (Long over e same) = stood s t same
replied_reads honest form line said s t (Spent e same) = stood s t same

-- ---- line after line

lines_read : (honest : Type 0) (form : Form) (lines : List (List ℕ)) (said : List Said)
    (s t : Standing) → AreReplied honest form lines said s t → Reads s.stage t.stage
lines_read honest form [] [] s t h = stood s t h
lines_read honest form [] (x ∷ said) s t h = absurd h
lines_read honest form (line ∷ lines) [] s t h = absurd h
lines_read honest form (line ∷ lines) (x ∷ said) s t h =
    reads_then s.stage h.0.stage t.stage (replied_reads honest form line x s h.0 h.1)
    (lines_read honest form lines said h.0 t h.2)

pub talk_reads : (honest : Type 0) (form : Form) (bails : Bool) (input : Option (List ℕ))
    (r : Result (Unit {0}) TalkFault) (s t : Stage) (old new : Option (List ℕ))
    → IsTalk honest form bails input r s t old new → IsRead s → IsUnwritten s t
talk_reads honest form bails input r s t old new (begun, talk) =
    lines_read honest form talk.lines talk.said (standing s None) (standing t begun) talk.replied

-- ---- a batch

-- why it is refused at once
halted_early : (h : Held) (ws : List Write) (e : StateFault) → h.halted ≡ true
    → IsEarlyRefusal h ws e → e ≡ state.Halted
halted_early h ws state.Halted halted r = refl
halted_early h ws state.EmptyBatch halted r = absurd (goes_on h.halted halted r.0)
halted_early h ws state.TooLarge halted r = absurd (goes_on h.halted halted r.0)
halted_early h ws (state.KeyOrder place) halted r = absurd (goes_on h.halted halted r.0)
halted_early h ws state.LevelZeroFull halted r = absurd (goes_on h.halted halted r.0.0)
halted_early h ws state.SequencesSpent halted r = absurd (goes_on h.halted halted r.0.0)
halted_early h ws state.NumbersSpent halted r = absurd (goes_on h.halted halted r.0.0)
halted_early h ws state.OutOfMemory halted r = absurd r
halted_early h ws (state.Shelf fault) halted r = absurd r
halted_early h ws (state.Read fault) halted r = absurd r
halted_early h ws (state.BadLevel level) halted r = absurd r
halted_early h ws (state.UnknownSnapshot id) halted r = absurd r
halted_early h ws (state.Conflict ticket) halted r = absurd r
halted_early h ws (state.UnknownTicket ticket) halted r = absurd r
halted_early h ws state.Stale halted r = absurd r
halted_early h ws state.SlotsHeld halted r = absurd r
halted_early h ws state.VersionsSpent halted r = absurd r
halted_early h ws state.PinsSpent halted r = absurd r

pub batch_refused : (honest : Type 0) (ws : List Write) (r : Reply) (s t : Stage)
    → s.state.halted ≡ true → IsStep honest (Ingest ws) r s t → r ≡ Refused (State state.Halted)
batch_refused honest ws r s t halted (kept, inl (i, is, welcome, came, event, counts)) =
    absurd (goes_on s.state.halted halted welcome.takes.0)
batch_refused honest ws r s t halted (kept, inr (e, is, inl (early, same, told))) =
    is ∙ ap (λ (x : StateFault). Refused (State x)) (halted_early s.state ws e halted early)
batch_refused honest ws r s t halted (kept, inr (e, is, inr (welcome, more))) =
    absurd (goes_on s.state.halted halted welcome.takes.0)
