-- Each reply is the history's, and the state goes on as the history says.
use Rattle.std.proofs.Common.{◌≡◌, ℕ, suc, ◌+◌, ◌<◌, Bool, true, false, List, [], ◌∷◌, ◌++◌, Option, Some, None, length, refl, sym, ◌∙◌, ap, subst, inl, inr}
use Rattle.std.specs.Prelude.{MatchBool}
use Rattle.lsm_codec.specs.Entries.{answer}
use Rattle.lsm_codec.specs.Keys.{UserKey}
use Rattle.lsm_codec.specs.Lists.{Has}
use Rattle.lsm_model.specs.Files.{all_entries}
use Rattle.lsm_model.specs.Law.{Law}
use Rattle.lsm_model.specs.Plain.{IsReadable, Plain, without_snapshot}
use Rattle.lsm_model.specs.Runs.{Event, Ingest, Snapshot, Release, Install, Spend, ReadsAs, Run, ingested}
use Rattle.lsm_model.proofs.CallerLemmas.{run_law}
use Rattle.lsm_shelf.specs.Told.{Told}
use Rattle.lsm_table.specs.Registry.{Table}
use Rattle.lsm_version.specs.Changes.{changed}
use Rattle.lsm_version.specs.Versions.{Levels, files}
use Rattle.lsm_batch.specs.Batches.{entries_from}
use Rattle.lsm_batch.specs.declared.write.Write.{Write}
use Rattle.lsm_journal.specs.Difference.{Difference, changed_by}
use Rattle.lsm_merge.specs.Work.{Done, Work}
use Rattle.lsm_state.specs.Held.{Held, plain}
use Rattle.lsm_state.specs.Ingesting.{Ingests, coming_in, entries_of, last_of}
use Rattle.lsm_state.specs.Reading.{IsSequence, IsReadRefusal}
use Rattle.lsm_state.specs.declared.ingest.Ingested as it
use Rattle.lsm_state.specs.declared.state_fault.StateFault.{StateFault}
use Rattle.lsm_state.specs.declared.state_fault.StateFault.TheVariants as fault
use Rattle.lsm_script.specs.History.{History, IsAnswer, IsAnswered, IsAt, IsOf, IsUnknownAt, history_of}
use Rattle.lsm_script.specs.Replies.{IsCancelReply, IsCollectReply, IsGetReply, IsIngestReply, IsInstallReply, IsJobReply, IsKeepReply, IsListReply, IsMergeReply, IsPinReply, IsRangeReply, IsReleaseReply, IsReserveReply, IsSnapshotReply, IsUnpinReply, read_reply}
use Rattle.lsm_script.specs.Scripts.{AreReplies, AreSteps, ends_list}
use Rattle.lsm_script.specs.Steps.{IsLaterStep, IsStep, Stage, stage_of}
use Rattle.lsm_script.specs.declared.command.Command.{Command}
use Rattle.lsm_script.specs.declared.command.Command.TheVariants as asks
use Rattle.lsm_script.specs.declared.command_fault.CommandFault.{CommandFault}
use Rattle.lsm_script.specs.declared.command_fault.CommandFault.TheVariants as why
use Rattle.lsm_script.specs.declared.reply.Reply.{Reply}
use Rattle.lsm_script.specs.declared.reply.Reserved.{Reserved}
use Rattle.lsm_script.specs.declared.reply.Reply.TheVariants as said
use Rattle.lsm_script.proofs.BatchFaults.{batch_fault}
use Rattle.lsm_script.proofs.Events.{Quiet, ingested_append, ingest_idles, install_idles, looks_idle, quiet_cancelled, quiet_drawn, quiet_idle, quiet_is, quiet_reserved, run_append}

-- what a script begins with: the law of its state, and what every run from there reads
pub record Ground (H : Type 0) (start : Held) : Type 0 where
  pub law : Law H (plain start)
  pub reads : (t : Plain) (events : List Event) → H → Run H (plain start) events t → ReadsAs t (ingested events (all_entries (files start.slots.version)))

-- Some events lead from the start to the state, and brought in what the history has.
pub record Follows (H : Type 0) (start : Held) (s : History) (h : Held) : Type 0 where
  pub events : List Event
  pub run : Run H (plain start) events (plain h)
  pub entries : s.entries ≡ ingested events (all_entries (files start.slots.version))
  pub last : s.last ≡ h.slots.version.last
  pub snapshots : s.snapshots ≡ h.snapshots.taken

pub follows_start : (H : Type 0) (start : Held) → Follows H start (history_of start) start
follows_start H start = record { events = []; run = refl; entries = refl; last = refl; snapshots = refl }

pub follows_is : (H : Type 0) (start : Held) (s : History) (h : Held) → Ground H start → Follows H start s h → IsOf H s h
follows_is H start s h g f = record {
  last = f.last;
  snapshots = f.snapshots;
  reads = λ y k q r. g.reads (plain h) f.events y f.run k q r ∙ ap (λ es. answer es k q) (sym f.entries);
}

-- the history after a command
abbrev pub Goes : Type 0 → Held → Command → Reply → History → Held → Type 0
Goes H start c r s new = (t : History) × IsAnswered H c r s t × Follows H start t new

quiet_follows : (H : Type 0) (start : Held) (s : History) (old new : Held) → Follows H start s old → Quiet H old new → Follows H start s new
quiet_follows H start s old new f q = record {
  events = f.events ++ q.events;
  run = run_append H (plain start) (plain old) (plain new) f.events q.events f.run q.run;
  entries = f.entries ∙ sym (ingested_append f.events q.events (all_entries (files start.slots.version)) ∙ q.none (ingested f.events (all_entries (files start.slots.version))));
  last = f.last ∙ sym q.last;
  snapshots = f.snapshots ∙ sym q.snapshots;
}

goes_as : (H : Type 0) (start : Held) (c : Command) (r q : Reply) (s : History) (new : Held) → r ≡ q → Goes H start c q s new → Goes H start c r s new
goes_as H start c r q s new e g = subst (λ (x : Reply). Goes H start c x s new) (sym e) g

-- ---- commands that bring nothing in

-- the history is as before after each reply to a reservation
pub record Leaves (H : Type 0) (c : Command) (s : History) : Type 0 where
  pub job : (x : Reserved) → IsAnswered H c (said.Job x) s s
  pub move : (x : Reserved) → IsAnswered H c (said.Move x) s s
  pub none : IsAnswered H c said.NoJob s s
  pub refused : (x : CommandFault) → IsAnswered H c (said.Refused x) s s

keep_goes : (H : Type 0) (start : Held) (c : Command) (s : History) (w : Work) (r : Reply) (mid new : Held) (jobs jobs' : List Work) → Leaves H c s → Follows H start s mid → IsKeepReply w r mid new jobs jobs' → Goes H start c r s new
keep_goes H start c s w r mid new jobs jobs' l f (inl k) = elim k.0.2 [
  | inl m ↦ goes_as H start c r (said.Move k.0.0) s new m.1 (s, l.move k.0.0, quiet_follows H start s mid new f (quiet_is H mid new k.1))
  | inr j ↦ goes_as H start c r (said.Job k.0.0) s new j.1 (s, l.job k.0.0, quiet_follows H start s mid new f (quiet_is H mid new k.1))
]
keep_goes H start c s w r mid new jobs jobs' l f (inr k) = goes_as H start c r (said.Refused (why.State fault.OutOfMemory)) s new k.0 (s, l.refused (why.State fault.OutOfMemory), quiet_follows H start s mid new f (quiet_cancelled H w.ticket mid new k.1))

job_goes : (H : Type 0) (start : Held) (c : Command) (s : History) (Its : Work → Type 0) (none : Type 0) (refused : StateFault → Type 0) (r : Reply) (old new : Held) (jobs jobs' : List Work)
    → Leaves H c s → Follows H start s old → IsJobReply H Its none refused r old new jobs jobs' → Goes H start c r s new
job_goes H start c s Its none refused r old new jobs jobs' l f (inl k) =
    keep_goes H start c s k.work r k.mid new jobs jobs' l (quiet_follows H start s old k.mid f (quiet_reserved H k.work old k.mid k.gains.is k.gains.event)) k.kept
job_goes H start c s Its none refused r old new jobs jobs' l f (inr k) = elim k.0 [
  | inl e ↦ goes_as H start c r (said.Refused (why.State fault.OutOfMemory)) s new e (s, l.refused (why.State fault.OutOfMemory), on)
  | inr n ↦ elim n [
    | inl e ↦ goes_as H start c r said.NoJob s new e.0 (s, l.none, on)
    | inr e ↦ goes_as H start c r (said.Refused (why.State e.0)) s new e.1 (s, l.refused (why.State e.0), on)
  ]
]
  where
    on : Follows H start s new
    on = quiet_follows H start s old new f (quiet_is H old new k.1)

reserve_goes : (H : Type 0) (start : Held) (s : History) (r : Reply) (old new : Held) (jobs jobs' : List Work) → Follows H start s old → IsReserveReply H r old new jobs jobs' → Goes H start asks.Reserve r s new
reserve_goes H start s r old new jobs jobs' f k = job_goes H start asks.Reserve s _ _ _ r old new jobs jobs' record { job = λ x. refl; move = λ x. refl; none = refl; refused = λ x. (refl, tt) } f k

range_goes : (H : Type 0) (start : Held) (s : History) (level : ℕ) (from to : UserKey) (r : Reply) (old new : Held) (jobs jobs' : List Work) → Follows H start s old → IsRangeReply H level from to r old new jobs jobs'
    → Goes H start (asks.ReserveRange level from to) r s new
range_goes H start s level from to r old new jobs jobs' f k =
    job_goes H start (asks.ReserveRange level from to) s _ _ _ r old new jobs jobs' record { job = λ x. refl; move = λ x. refl; none = refl; refused = λ x. (refl, tt) } f k

cancel_goes : (H : Type 0) (start : Held) (s : History) (ticket : ℕ) (r : Reply) (old new : Held) → Follows H start s old → IsCancelReply ticket r old new → Goes H start (asks.Cancel ticket) r s new
cancel_goes H start s ticket r old new f (inl k) = goes_as H start (asks.Cancel ticket) r said.Cancelled s new k.0 (s, refl, quiet_follows H start s old new f (quiet_cancelled H ticket old new k.2))
cancel_goes H start s ticket r old new f (inr k) = goes_as H start (asks.Cancel ticket) r _ s new k.0 (s, (refl, tt), quiet_follows H start s old new f (quiet_is H old new k.1))

pin_goes : (H : Type 0) (start : Held) (s : History) (r : Reply) (old new : Held) → Follows H start s old → IsPinReply r old new → Goes H start asks.Pin r s new
pin_goes H start s r old new f (inl k) = goes_as H start asks.Pin r _ s new k.0 (s, refl, quiet_follows H start s old new f (quiet_idle H old new (looks_idle old new (ap (λ x. x.version) k.2.2.is) k.1)))
pin_goes H start s r old new f (inr k) = goes_as H start asks.Pin r _ s new k.0 (s, (refl, tt), quiet_follows H start s old new f (quiet_is H old new k.1))

unpin_goes : (H : Type 0) (start : Held) (s : History) (id : ℕ) (r : Reply) (old new : Held) → Follows H start s old → IsUnpinReply id r old new → Goes H start (asks.Unpin id) r s new
unpin_goes H start s id r old new f (inl k) = goes_as H start (asks.Unpin id) r _ s new k.0 (s, refl, quiet_follows H start s old new f (quiet_idle H old new (looks_idle old new (ap (λ x. x.version) k.2.1.is) k.1)))
unpin_goes H start s id r old new f (inr k) = goes_as H start (asks.Unpin id) r _ s new k.0 (s, (refl, tt), quiet_follows H start s old new f (quiet_is H old new k.1))

collect_goes : (H : Type 0) (start : Held) (s : History) (r : Reply) (old new : Held) (was is : Told) → Follows H start s old → IsCollectReply r old new was is → Goes H start asks.Collect r s new
collect_goes H start s r old new was is f (inl k) = goes_as H start asks.Collect r _ s new k.1 (s, refl, quiet_follows H start s old new f (quiet_idle H old new (looks_idle old new k.2.looked.looked.version k.2.rest)))
collect_goes H start s r old new was is f (inr k) = goes_as H start asks.Collect r _ s new k.2 (
  s,
  (refl, tt),
  quiet_follows H start s old new f (elim k.4 [
    | inl h ↦ quiet_is H old new h.2
    | inr l ↦ quiet_idle H old new (looks_idle old new l.1.looked.version k.3)
  ]),
)

list_goes : (H : Type 0) (start : Held) (s : History) (r : Reply) (h : Held) → Follows H start s h → IsListReply r h → Goes H start asks.List r s h
list_goes H start s r h f (inl e) = goes_as H start asks.List r _ s h e (s, refl, f)
list_goes H start s r h f (inr e) = goes_as H start asks.List r _ s h e (s, (refl, tt), f)

merge_goes : (H : Type 0) (start : Held) (s : History) (ticket : ℕ) (r : Reply) (old new : Held) (jobs jobs' : List Work) (results results' : List Done) (was is : Told) → Follows H start s old
    → IsMergeReply H ticket r old new jobs jobs' results results' was is → Goes H start (asks.Merge ticket) r s new
merge_goes H start s ticket r old new jobs jobs' results results' was is f (inl k) =
    goes_as H start (asks.Merge ticket) r _ s new k.1 (s, refl, quiet_follows H start s old new f (quiet_drawn H k.2.done.work.ticket _ old new k.2.merged.drawn))
merge_goes H start s ticket r old new jobs jobs' results results' was is f (inr k) = elim k [
  | inl e ↦ goes_as H start (asks.Merge ticket) r _ s new e.1 (s, (refl, tt), quiet_follows H start s old new f (quiet_drawn H e.2.0.ticket _ old new e.2.3.drawn))
  | inr n ↦ elim n.0 [
    | inl e ↦ goes_as H start (asks.Merge ticket) r _ s new e (s, (refl, tt), quiet_follows H start s old new f (quiet_is H old new n.1.0))
    | inr e ↦ goes_as H start (asks.Merge ticket) r _ s new e.0 (s, (refl, tt), quiet_follows H start s old new f (quiet_is H old new n.1.0))
  ]
]

-- an install leaves the last sequence and the snapshots
quiet_installed : (H : Type 0) (ticket : ℕ) (old new : Held) → Run H (plain old) (Install ticket ∷ Spend ∷ []) (plain new) → Quiet H old new
quiet_installed H ticket old new r = record {
  events = Install ticket ∷ Spend ∷ [];
  run = r;
  none = λ xs. refl;
  last = ap (λ (p : Plain). p.last) r.2.2 ∙ (ap (λ (p : Plain). p.last) r.2.1.2 ∙ ap (λ (p : Plain). p.last) r.1.is);
  snapshots = ap (λ (p : Plain). p.snapshots) r.2.2 ∙ (ap (λ (p : Plain). p.snapshots) r.2.1.2 ∙ ap (λ (p : Plain). p.snapshots) r.1.is);
}

install_goes : (H : Type 0) (start : Held) (s : History) (ticket : ℕ) (r : Reply) (old new : Held) (results results' : List Done) (was is : Told) → Follows H start s old
    → IsInstallReply H ticket r old new results results' was is → Goes H start (asks.Install ticket) r s new
install_goes H start s ticket r old new results results' was is f (inl k) =
    goes_as H start (asks.Install ticket) r _ s new k.1 (s, refl, quiet_follows H start s old new f (quiet_installed H ticket old new k.2.event))
install_goes H start s ticket r old new results results' was is f (inr k) = elim k.0 [
  | inl e ↦ goes_as H start (asks.Install ticket) r _ s new e.1 (s, (refl, tt), quiet_follows H start s old new f (quiet_idle H old new (install_idles old new e.2.done e.0 was is e.2.refused)))
  | inr e ↦ goes_as H start (asks.Install ticket) r _ s new e.0 (s, (refl, tt), quiet_follows H start s old new f (quiet_is H old new e.2.0))
]

-- ---- batches

-- the last sequence of a version after a change
changed_last_is : (deleted : List ℕ) (added : List (ℕ × Table)) (pointer : Option (ℕ × List ℕ)) (last : ℕ) (v : Levels) → (changed deleted added pointer last v).last ≡ last
unfolding changed
changed_last_is deleted added pointer last v = refl

last_is : (d : Difference) (v : Levels) → (changed_by d v).last ≡ d.last
last_is d v = changed_last_is _ d.added d.pointer d.last v

came_last : (old new : Held) (ws : List Write) (r : it.Ingested) (was is : Told) → Ingests old new ws r was is → new.slots.version.last ≡ last_of old ws
came_last old new ws r was is i = ap (λ (v : Levels). v.last) i.changes.published.version_is ∙ last_is (coming_in i.table (last_of old ws)) _

came_snapshots : (old new : Held) (ws : List Write) (r : it.Ingested) (was is : Told) → Ingests old new ws r was is → new.snapshots.taken ≡ old.snapshots.taken
came_snapshots old new ws r was is i = ap (λ (h : Held). h.snapshots.taken) i.changes.rest

ingest_goes : (H : Type 0) (start : Held) (s : History) (ws : List Write) (r : Reply) (old new : Held) (was is : Told) → Follows H start s old → IsIngestReply ws r old new was is → Goes H start (asks.Ingest ws) r s new
ingest_goes H start s ws r old new was is f (inl k) = goes_as H start (asks.Ingest ws) r (said.Ingested k.0) s new k.1 (
  record s { entries = entries_from (suc s.last) ws ++ s.entries; last = s.last + length ws },
  (k.2.takes.1, k.3.first ∙ ap suc (sym f.last), k.3.last ∙ ap (λ n. n + length ws) (sym f.last), refl),
  record {
    events = f.events ++ Ingest (entries_of old ws) ∷ [];
    run = run_append H (plain start) (plain old) (plain new) f.events (Ingest (entries_of old ws) ∷ []) f.run (plain new, k.4, refl);
    entries = ap (λ n. entries_from (suc n) ws ++ s.entries) f.last ∙ (ap (λ es. entries_of old ws ++ es) f.entries ∙ sym (ingested_append f.events (Ingest (entries_of old ws) ∷ []) (all_entries (files start.slots.version))));
    last = ap (λ n. n + length ws) f.last ∙ sym (came_last old new ws k.0 was is k.3);
    snapshots = f.snapshots ∙ sym (came_snapshots old new ws k.0 was is k.3);
  },
)
ingest_goes H start s ws r old new was is f (inr k) = goes_as H start (asks.Ingest ws) r (said.Refused (why.State k.0)) s new k.1 (s, (refl, batch_fault old new ws k.0 was is s f.last k.2), quiet_follows H start s old new f (quiet_idle H old new (ingest_idles old new ws k.0 was is k.2)))

-- ---- reads

at_seq : (H : Type 0) (start : Held) (s : History) (h : Held) (at : Option ℕ) (seq : ℕ) → Follows H start s h → IsSequence h at seq → IsAt s at seq
at_seq H start s h None seq f q = q ∙ sym f.last
at_seq H start s h (Some id) seq f q = subst (λ ps. Has ps (id, seq)) (sym f.snapshots) q

readable_at : (h : Held) (at : Option ℕ) (seq : ℕ) → IsSequence h at seq → IsReadable (plain h) seq
readable_at h None seq q = inl q
readable_at h (Some id) seq q = inr ((id, seq), q, refl)

said_read : (H : Type 0) (s : History) (key : UserKey) (at : Option ℕ) (v : Option (List ℕ)) → IsAnswer H s key at v → IsAnswered H (asks.Get key at) (read_reply v) s s
said_read H s key at None a = (refl, a)
said_read H s key at (Some v) a = (refl, a)

unknown_at : (H : Type 0) (start : Held) (s : History) (h : Held) (at : Option ℕ) (was is : Told) (e : StateFault) (n : ℕ) → Follows H start s h → IsReadRefusal h at was is e → why.State e ≡ why.State (fault.UnknownSnapshot n) → IsUnknownAt s at n
unknown_at H start s h at was is e n f r q = go at (subst (λ (x : StateFault). IsReadRefusal h at was is x) is_unknown r)
  where
    is_unknown : e ≡ fault.UnknownSnapshot n
    is_unknown = cc

    go : (a : Option ℕ) → IsReadRefusal h a was is (fault.UnknownSnapshot n) → IsUnknownAt s a n
    go None u = u
    go (Some id) u = (cc (u.0), λ k. u.1 (subst (λ ps. Rattle.lsm_slots.specs.Snapshots.HasId ps id) f.snapshots k))

get_goes : (H : Type 0) (start : Held) (s : History) (key : UserKey) (at : Option ℕ) (r : Reply) (h : Held) (was is : Told) → Ground H start → Follows H start s h → IsGetReply H key at r h was is → Goes H start (asks.Get key at) r s h
get_goes H start s key at r h was is g f k = elim k.0 [
  | inl a ↦ goes_as H start (asks.Get key at) r (read_reply a.value) s h a.is (
    s,
    said_read H s key at a.value (
      a.seq,
      at_seq H start s h at a.seq f a.allows,
      λ y. a.answers y ∙ (follows_is H start s h g f).reads y key a.seq (readable_at h at a.seq a.allows),
    ),
    f,
  )
  | inr e ↦ goes_as H start (asks.Get key at) r (said.Refused (why.State e.0)) s h e.1 (s, (refl, λ n q. unknown_at H start s h at was is e.0 n f e.2 q), f)
]

-- ---- snapshots

snapshot_goes : (H : Type 0) (start : Held) (s : History) (r : Reply) (old new : Held) → Ground H start → Follows H start s old → IsSnapshotReply r old new → Goes H start asks.Snapshot r s new
snapshot_goes H start s r old new g f (inl k) = goes_as H start asks.Snapshot r _ s new k.0 (
  record s { snapshots = s.snapshots ++ (old.snapshots.next, old.slots.version.last) ∷ [] },
  (sym f.last, λ p h. below p (subst (λ ps. Has ps p) f.snapshots h), refl),
  subst (λ (h : Held). Follows H start (record s { snapshots = s.snapshots ++ (old.snapshots.next, old.slots.version.last) ∷ [] }) h) (sym k.2) record {
    events = f.events ++ Snapshot ∷ [];
    run = run_append H (plain start) (plain old) _ f.events (Snapshot ∷ []) f.run (_, refl, refl);
    entries = f.entries ∙ sym (ingested_append f.events (Snapshot ∷ []) (all_entries (files start.slots.version)));
    last = f.last;
    snapshots = ap (λ ps. ps ++ (old.snapshots.next, old.slots.version.last) ∷ []) f.snapshots;
  },
)
  where
    below : (p : ℕ × ℕ) → Has old.snapshots.taken p → p.0 < old.snapshots.next
    below p h = (run_law H (plain start) f.events (plain old) g.law f.run).books.ids p h
snapshot_goes H start s r old new g f (inr k) = elim k.1 [
  | inl e ↦ goes_as H start asks.Snapshot r _ s new e.0 (s, (refl, tt), quiet_follows H start s old new f (quiet_is H old new k.0))
  | inr e ↦ goes_as H start asks.Snapshot r _ s new e.0 (s, (refl, tt), quiet_follows H start s old new f (quiet_is H old new k.0))
]

release_goes : (H : Type 0) (start : Held) (s : History) (id : ℕ) (r : Reply) (old new : Held) → Follows H start s old → IsReleaseReply id r old new → Goes H start (asks.Release id) r s new
release_goes H start s id r old new f (inl k) = goes_as H start (asks.Release id) r _ s new k.0 (
  record s { snapshots = without_snapshot id s.snapshots },
  (subst (λ ps. Rattle.lsm_slots.specs.Snapshots.HasId ps id) (sym f.snapshots) k.1, refl),
  subst (λ (h : Held). Follows H start (record s { snapshots = without_snapshot id s.snapshots }) h) (sym k.2) record {
    events = f.events ++ Release id ∷ [];
    run = run_append H (plain start) (plain old) _ f.events (Release id ∷ []) f.run (_, refl, refl);
    entries = f.entries ∙ sym (ingested_append f.events (Release id ∷ []) (all_entries (files start.slots.version)));
    last = f.last;
    snapshots = ap (λ ps. without_snapshot id ps) f.snapshots;
  },
)
release_goes H start s id r old new f (inr k) = goes_as H start (asks.Release id) r (said.Refused (why.State (fault.UnknownSnapshot id))) s new k.0 (
  s,
  (refl, λ n q. (cc, λ h. k.2 (subst (λ ps. Rattle.lsm_slots.specs.Snapshots.HasId ps id) f.snapshots h))),
  quiet_follows H start s old new f (quiet_is H old new k.1),
)

-- ---- any command

pub step_goes : (H : Type 0) (start : Held) (s : History) (c : Command) (r : Reply) (a b : Stage) → Ground H start → Follows H start s a.state → IsStep H c r a b → Goes H start c r s b.state
step_goes H start s (asks.Ingest ws) r a b g f k = ingest_goes H start s ws r a.state b.state a.told b.told f k.1
step_goes H start s (asks.Get key at) r a b g f k = subst (λ (h : Held). Goes H start (asks.Get key at) r s h) (sym k.1) (get_goes H start s key at r a.state a.told b.told g f k.2)
step_goes H start s asks.Snapshot r a b g f k = snapshot_goes H start s r a.state b.state g f k.2
step_goes H start s (asks.Release id) r a b g f k = release_goes H start s id r a.state b.state f k.2
step_goes H start s asks.Reserve r a b g f k = reserve_goes H start s r a.state b.state a.jobs b.jobs f k.2
step_goes H start s (asks.ReserveRange level from to) r a b g f k = range_goes H start s level from to r a.state b.state a.jobs b.jobs f k.2
step_goes H start s (asks.Merge ticket) r a b g f k = merge_goes H start s ticket r a.state b.state a.jobs b.jobs a.results b.results a.told b.told f k
step_goes H start s (asks.Install ticket) r a b g f k = install_goes H start s ticket r a.state b.state a.results b.results a.told b.told f k.1
step_goes H start s (asks.Cancel ticket) r a b g f k = cancel_goes H start s ticket r a.state b.state f k.2
step_goes H start s asks.Pin r a b g f k = pin_goes H start s r a.state b.state f k.2
step_goes H start s (asks.Unpin id) r a b g f k = unpin_goes H start s id r a.state b.state f k.2
step_goes H start s asks.Collect r a b g f k = collect_goes H start s r a.state b.state a.told b.told f k.1
step_goes H start s asks.List r a b g f k = subst (λ (h : Held). Goes H start asks.List r s h) (sym k.2) (list_goes H start s r a.state f k.3)

-- ---- any list of commands

pub replies_go : (H : Type 0) (start : Held) (s : History) (cs : List Command) (rs : List Reply) (a b : Stage) → Ground H start → Follows H start s a.state → AreReplies (IsStep H) cs rs a b
    → (t : History) × AreReplies (IsAnswered H) cs rs s t × Follows H start t b.state
replies_go H start s [] [] a b g f e = (s, refl, subst (λ (x : Stage). Follows H start s x.state) (sym e) f)
replies_go H start s [] (r ∷ rs) a b g f e = absurd e
replies_go H start s (c ∷ cs) [] a b g f e = absurd e
replies_go H start s (c ∷ cs) (r ∷ rs) a b g f e = (let one = step_goes H start s c r a e.0 g f e.1 in let more = rest one.0 one.2 (λ t f' k. replies_go H start t cs rs e.0 b g f' k) (ends_list r) e.2 in (more.0, (one.0, one.1, more.1), more.2))
  where
    rest : (t : History) → Follows H start t e.0.state
        → ((t : History) → Follows H start t e.0.state → AreReplies (IsStep H) cs rs e.0 b → (u : History) × AreReplies (IsAnswered H) cs rs t u × Follows H start u b.state)
        → (x : Bool) → MatchBool x ((rs ≡ []) × (b ≡ e.0)) (AreReplies (IsStep H) cs rs e.0 b)
        → (u : History) × MatchBool x ((rs ≡ []) × (u ≡ t)) (AreReplies (IsAnswered H) cs rs t u) × Follows H start u b.state
    rest t f' go true k = (t, (k.0, refl), subst (λ (x : Stage). Follows H start t x.state) (sym k.1) f')
    rest t f' go false k = go t f' k

-- the same, whatever the replies are and whatever the shelf is told between steps
pub steps_go : (H : Type 0) (start : Held) (s : History) (cs : List Command) (rs : List Reply) (a b : Stage) → Ground H start → Follows H start s a.state → AreSteps (IsLaterStep H) cs rs a b
    → (t : History) × AreSteps (IsAnswered H) cs rs s t × Follows H start t b.state
steps_go H start s [] [] a b g f e = (s, refl, subst (λ (x : Stage). Follows H start s x.state) (sym e) f)
steps_go H start s [] (r ∷ rs) a b g f e = absurd e
steps_go H start s (c ∷ cs) [] a b g f e = absurd e
steps_go H start s (c ∷ cs) (r ∷ rs) a b g f e =
    let one = step_goes H start s c r (record a { told = e.1.0 }) e.0 g f e.1.1 in
    let more = steps_go H start one.0 cs rs e.0 b g one.2 e.2 in
    (more.0, (one.0, one.1, more.1), more.2)

-- the history of any steps on a state that keeps its law
pub steps_history : (H : Type 0) (start : Held) (cs : List Command) (rs : List Reply) (told : Told) (b : Stage)
    → Law H (plain start)
    → ((s t : Plain) (events : List Event) → H → Law H s → Run H s events t → ReadsAs t (ingested events (all_entries s.files)))
    → AreSteps (IsLaterStep H) cs rs (stage_of start told) b
    → (t : History) × AreSteps (IsAnswered H) cs rs (history_of start) t × IsOf H t b.state
steps_history H start cs rs told b law reads k =
    let ground : Ground H start = record { law = law; reads = λ t events y run. reads (plain start) t events y law run } in
    let r = steps_go H start (history_of start) cs rs (stage_of start told) b ground (follows_start H start) k in
    (r.0, r.1, follows_is H start r.0 b.state ground r.2)

-- the history of a script on a state that keeps its law
pub script_history : (H : Type 0) (start : Held) (cs : List Command) (rs : List Reply) (told : Told) (b : Stage)
    → Law H (plain start)
    → ((s t : Plain) (events : List Event) → H → Law H s → Run H s events t → ReadsAs t (ingested events (all_entries s.files)))
    → AreReplies (IsStep H) cs rs (stage_of start told) b
    → (t : History) × AreReplies (IsAnswered H) cs rs (history_of start) t × IsOf H t b.state
script_history H start cs rs told b law reads k = (let r = replies_go H start (history_of start) cs rs (stage_of start told) b ground (follows_start H start) k in (r.0, r.1, follows_is H start r.0 b.state ground r.2))
  where
    ground : Ground H start
    ground = record { law = law; reads = λ t events y run. reads (plain start) t events y law run }
