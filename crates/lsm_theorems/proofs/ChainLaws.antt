-- Chains of calls as runs of the plain machine, and as answers of a database.
use Rattle.std.proofs.Common.{◌≡◌, ℕ, ◌<◌, List, [], ◌∷◌, ◌++◌, Option, Some, None, refl, sym, ◌∙◌, ap, subst, inl, inr}
use Rattle.atomic_table.specs.Seated.{TableId}
use Rattle.lsm_codec.specs.Entries.{Entry}
use Rattle.lsm_codec.specs.Keys.{UserKey}
use Rattle.lsm_codec.specs.Lists.{Has}
use Rattle.lsm_model.specs.Law.{Law}
use Rattle.lsm_model.specs.Plain.{IsReadable, Plain, without_snapshot}
use Rattle.lsm_model.specs.Runs.{Agrees, Event, Ingest, Snapshot, Release, Reserve, Cancel, Draw, Install, Gather, Spend, Nothing, Run, ingested}
use Rattle.lsm_model.proofs.CallerLemmas.{run_law, step_agrees, step_law}
use Rattle.lsm_shelf.specs.Asked.{Asked}
use Rattle.lsm_shelf.specs.declared.shelf_fault.ShelfFault.{ShelfFault}
use Rattle.lsm_batch.specs.declared.write.Write.{Write}
use Rattle.lsm_picker.specs.TablePlans.{plan_of}
use Rattle.lsm_merge.specs.Work.{job_of}
use Rattle.lsm_slots.specs.Snapshots.{Taken}
use Rattle.lsm_state.specs.Held.{Held, IsLawfulState, plain}
use Rattle.lsm_state.specs.Ingesting.{entries_of}
use Rattle.lsm_state.specs.Reading.{IsSequence}
use Rattle.lsm_state.specs.Reserving.{plan_in}
use Rattle.lsm_store.specs.Background.{IsKeptByIngest}
use Rattle.lsm_store.specs.Compacting.{IsKeptByCompaction, IsOfWorkers, IsSeated}
use Rattle.lsm_theorems.specs.Calls as calls
use Rattle.lsm_theorems.specs.Calls.{BringsIn, BringsNone, Call, Chain, IsCall, IsReached}
use Rattle.lsm_theorems.specs.Database.{Database, IsAnswered, IsAt, came_in, database_of, with_batch}
use Rattle.lsm_theorems.specs.Newest.{IsReadOf}
use Rattle.lsm_theorems.specs.Unchanged.{read_of}
use Rattle.lsm_theorems.proofs.CallSteps.{brought_so}
use Rattle.lsm_theorems.proofs.ReadLaws.{answer_read}

-- ---- runs one after another

run_append : (H : Type 0) (a b c : Plain) (es fs : List Event) → Run H a es b → Run H b fs c → Run H a (es ++ fs) c
run_append H a b c [] fs r q = subst (λ (x : Plain). Run H x fs c) r q
run_append H a b c (e ∷ es) fs r q = (r.0, r.1, run_append H r.0 b c es fs r.2 q)

-- the entries of a run's first event, and of the others
ingested_step : (e : Event) (events : List Event) (xs : List Entry) → ingested (e ∷ events) xs ≡ ingested events (ingested (e ∷ []) xs)
ingested_step (Ingest new) events xs = refl
ingested_step Snapshot events xs = refl
ingested_step (Release id) events xs = refl
ingested_step (Reserve plan job) events xs = refl
ingested_step (Cancel ticket) events xs = refl
ingested_step (Draw ticket) events xs = refl
ingested_step (Install ticket) events xs = refl
ingested_step Gather events xs = refl
ingested_step Spend events xs = refl
ingested_step Nothing events xs = refl

ingested_append : (es fs : List Event) (xs : List Entry) → ingested (es ++ fs) xs ≡ ingested fs (ingested es xs)
ingested_append [] fs xs = refl
ingested_append (e ∷ es) fs xs = ingested_step e (es ++ fs) xs ∙ (ingested_append es fs (ingested (e ∷ []) xs) ∙ ap (ingested fs) (sym (ingested_step e es xs)))

run_agrees : (H : Type 0) → H → (s : Plain) (events : List Event) (t : Plain) (es : List Entry) → Law H s → Run H s events t → Agrees s es → Agrees t (ingested events es)
run_agrees H y s [] t es l h a = subst (λ (u : Plain). Agrees u es) (sym h) a
run_agrees H y s (e ∷ events) t es l h a = subst (Agrees t) (sym (ingested_step e events es))
    (run_agrees H y h.0 events t (ingested (e ∷ []) es) (step_law H s e h.0 l h.1) h.2 (step_agrees H y s e h.0 es l h.1 a))

-- what workers do brings nothing in
works_none : (events : List Event) → ((e : Event) → Has events e → IsOfWorkers e) → (xs : List Entry) → ingested events xs ≡ xs
works_none [] only xs = refl
works_none (Ingest new ∷ es) only xs = absurd (only (Ingest new) (inl refl))
works_none (Snapshot ∷ es) only xs = absurd (only Snapshot (inl refl))
works_none (Release id ∷ es) only xs = absurd (only (Release id) (inl refl))
works_none (Reserve plan job ∷ es) only xs = works_none es (λ e h. only e (inr h)) xs
works_none (Cancel ticket ∷ es) only xs = works_none es (λ e h. only e (inr h)) xs
works_none (Draw ticket ∷ es) only xs = works_none es (λ e h. only e (inr h)) xs
works_none (Install ticket ∷ es) only xs = works_none es (λ e h. only e (inr h)) xs
works_none (Gather ∷ es) only xs = works_none es (λ e h. only e (inr h)) xs
works_none (Spend ∷ es) only xs = works_none es (λ e h. only e (inr h)) xs
works_none (Nothing ∷ es) only xs = works_none es (λ e h. only e (inr h)) xs

-- ---- each call as events

-- Some events of the machine lead there, and bring in what came into the history.
pub record Moves (H : Type 0) (old new : Held) : Type 0 where
  pub events : List Event
  pub run : Run H (plain old) events (plain new)
  pub history : new.history ≡ ingested events old.history

moves_then : (H : Type 0) (a b c : Held) → Moves H a b → Moves H b c → Moves H a c
moves_then H a b c p q = record {
  events = p.events ++ q.events;
  run = run_append H (plain a) (plain b) (plain c) p.events q.events p.run q.run;
  history = q.history ∙ (ap (ingested q.events) p.history ∙ sym (ingested_append p.events q.events a.history));
}

pub call_moves : (H : Type 0) (c : Call) (old new : Held) → IsCall H c old new → Moves H old new
call_moves H (calls.Ingest ws r) old new k = record { events = Ingest (entries_of old ws) ∷ []; run = (plain new, k.event, refl); history = k.history }
call_moves H (calls.Get key at value) old new k = record { events = []; run = ap plain k.0; history = ap (λ (h : Held). h.history) k.0 }
call_moves H (calls.Snapshot id) old new k = record { events = Snapshot ∷ []; run = (plain new, k.0, refl); history = k.2 }
call_moves H (calls.Release id) old new k = record { events = Release id ∷ []; run = (plain new, k.0, refl); history = k.2 }
call_moves H (calls.Reserve work) old new k = record { events = Reserve (plan_of (plan_in work)) (job_of work) ∷ []; run = (plain new, k.0, refl); history = k.1 }
call_moves H (calls.Draw ticket number) old new k = record { events = Draw ticket ∷ []; run = (plain new, k.0, refl); history = k.2 }
call_moves H (calls.Install done) old new k = record { events = Install done.work.ticket ∷ Spend ∷ []; run = k.0; history = k.1 }
call_moves H (calls.Gather number) old new k = record { events = Gather ∷ []; run = (plain new, k.0, refl); history = k.2 }
call_moves H (calls.Cancel ticket) old new k = record { events = Cancel ticket ∷ []; run = (plain new, k.0, refl); history = k.1 }
call_moves H calls.Look old new k = record { events = []; run = k.0; history = k.1 }
call_moves H calls.Refused old new k = record { events = Spend ∷ []; run = (plain new, k.0, refl); history = k.1 }
call_moves H calls.Works old new k = record { events = k.run.events; run = k.run.run; history = k.found.history ∙ sym (works_none k.run.events k.run.only old.history) }

pub chain_moves : (H : Type 0) (cs : List Call) (old new : Held) → Chain (IsCall H) cs old new → Moves H old new
chain_moves H [] old new e = record { events = []; run = ap plain e; history = ap (λ (h : Held). h.history) e }
chain_moves H (c ∷ cs) old new k = moves_then H old k.0 new (call_moves H c old k.0 k.1) (chain_moves H cs k.0 new k.2)

pub chain_run : (H : Type 0) (cs : List Call) (old new : Held) → Chain (IsCall H) cs old new → (events : List Event) × Run H (plain old) events (plain new) × (new.history ≡ ingested events old.history)
chain_run H cs old new k = (let m = chain_moves H cs old new k in (m.events, m.run, m.history))

-- ---- the law, and the history, along the way

moves_law : (H : Type 0) (old new : Held) → Moves H old new → Law H (plain old) → Law H (plain new)
moves_law H old new m l = run_law H (plain old) m.events (plain new) l m.run

moves_agree : (H : Type 0) (old new : Held) → Moves H old new → Law H (plain old) → (H → Agrees (plain old) old.history) → H → Agrees (plain new) new.history
moves_agree H old new m l a y = subst (Agrees (plain new)) (sym m.history) (run_agrees H y (plain old) m.events (plain new) old.history l m.run (a y))

agrees_read : (h : Held) → Agrees (plain h) h.history → (k : UserKey) (q : ℕ) → IsReadable (plain h) q → IsReadOf h.history k q (read_of h k q)
agrees_read h a k q r = subst (IsReadOf h.history k q) (sym (a.reads k q r)) (answer_read h.history k q)

pub chain_reads : (H : Type 0) (board : TableId) (cs : List Call) (old new : Held) → H → IsLawfulState H board old → Chain (IsCall H) cs old new → (k : UserKey) (q : ℕ) → IsReadable (plain new) q
    → IsReadOf new.history k q (read_of new k q)
chain_reads H board cs old new y l chain k q r = agrees_read new (moves_agree H old new (chain_moves H cs old new chain) l.law l.agrees y) k q r

-- ---- each call as the database answers it

sequence_at : (h : Held) (at : Option ℕ) (q : ℕ) → IsSequence h at q → IsAt (database_of h) at q
sequence_at h None q s = s
sequence_at h (Some id) q s = s

sequence_readable : (h : Held) (at : Option ℕ) (q : ℕ) → IsSequence h at q → IsReadable (plain h) q
sequence_readable h None q s = inl s
sequence_readable h (Some id) q s = inr ((id, q), s, refl)

-- a database is that of a state where its three parts are
database_is : (h : Held) (d : Database) → h.history ≡ d.entries → h.slots.version.last ≡ d.last → h.snapshots.taken ≡ d.snapshots → database_of h ≡ d
database_is h d entries last snapshots =
    ap (λ (xs : List Entry). record { entries = xs; last = h.slots.version.last; snapshots = h.snapshots.taken }) entries
    ∙ (ap (λ (n : ℕ). record { entries = d.entries; last = n; snapshots = h.snapshots.taken }) last
    ∙ ap (λ (ps : List (ℕ × ℕ)). record { entries = d.entries; last = d.last; snapshots = ps }) snapshots)

-- where nothing came in, and the machine's last sequence and snapshots are the same
same_database : (old new : Held) → BringsNone old new → (plain new).last ≡ (plain old).last → (plain new).snapshots ≡ (plain old).snapshots → database_of new ≡ database_of old
same_database old new h last snapshots = database_is new (database_of old) h last snapshots

call_answered : (H : Type 0) (c : Call) (old new : Held) → Law H (plain old) → (H → Agrees (plain old) old.history) → IsCall H c old new → IsAnswered H c (database_of old) (database_of new)
call_answered H (calls.Ingest ws r) old new l a k =
    (k.first, k.last, database_is new (with_batch ws (database_of old)) k.history k.last_is (ap (λ (p : Plain). p.snapshots) k.event.is))
call_answered H (calls.Get key at value) old new l a k = (
  ap database_of k.0,
  (k.1.0, sequence_at old at k.1.0 k.1.1, λ y. subst (IsReadOf old.history key k.1.0) (sym (k.1.2 y)) (agrees_read old (a y) key k.1.0 (sequence_readable old at k.1.0 k.1.1))),
)
call_answered H (calls.Snapshot id) old new l a k =
    let d = database_of old in (
      (λ p h. subst (λ (n : ℕ). p.0 < n) (sym k.1) (l.books.ids p h)),
      database_is new (record d { snapshots = d.snapshots ++ (id, d.last) ∷ [] }) k.2 (ap (λ (p : Plain). p.last) k.0)
          (ap (λ (p : Plain). p.snapshots) k.0 ∙ ap (λ (n : ℕ). d.snapshots ++ (n, d.last) ∷ []) (sym k.1)),
    )
call_answered H (calls.Release id) old new l a k =
    let d = database_of old in
    (k.1, database_is new (record d { snapshots = without_snapshot id d.snapshots }) k.2 (ap (λ (p : Plain). p.last) k.0) (ap (λ (p : Plain). p.snapshots) k.0))
call_answered H (calls.Reserve work) old new l a k = same_database old new k.1 (ap (λ (p : Plain). p.last) k.0.is) (ap (λ (p : Plain). p.snapshots) k.0.is)
call_answered H (calls.Draw ticket number) old new l a k = same_database old new k.2 (ap (λ (p : Plain). p.last) k.0) (ap (λ (p : Plain). p.snapshots) k.0)
call_answered H (calls.Install done) old new l a k =
    let run = k.0 in
    same_database old new k.1 (ap (λ (p : Plain). p.last) run.2.2 ∙ (ap (λ (p : Plain). p.last) run.2.1.2 ∙ ap (λ (p : Plain). p.last) run.1.is))
    (ap (λ (p : Plain). p.snapshots) run.2.2 ∙ (ap (λ (p : Plain). p.snapshots) run.2.1.2 ∙ ap (λ (p : Plain). p.snapshots) run.1.is))
call_answered H (calls.Gather number) old new l a k = same_database old new k.2 (ap (λ (p : Plain). p.last) k.0.is) (ap (λ (p : Plain). p.snapshots) k.0.is)
call_answered H (calls.Cancel ticket) old new l a k = same_database old new k.1 (ap (λ (p : Plain). p.last) k.0) (ap (λ (p : Plain). p.snapshots) k.0)
call_answered H calls.Look old new l a k = same_database old new k.1 (ap (λ (p : Plain). p.last) k.0) (ap (λ (p : Plain). p.snapshots) k.0)
call_answered H calls.Refused old new l a k = same_database old new k.1 (ap (λ (p : Plain). p.last) k.0.2) (ap (λ (p : Plain). p.snapshots) k.0.2)
call_answered H calls.Works old new l a k = same_database old new k.found.history k.found.last (ap (λ (t : Taken). t.taken) k.found.snapshots)

pub chain_answered : (H : Type 0) (cs : List Call) (old new : Held) → Law H (plain old) → (H → Agrees (plain old) old.history) → Chain (IsCall H) cs old new
    → Chain (IsAnswered H) cs (database_of old) (database_of new)
chain_answered H [] old new l a e = ap database_of e
chain_answered H (c ∷ cs) old new l a k =
    let m = call_moves H c old k.0 k.1 in
    (database_of k.0, call_answered H c old k.0 l a k.1, chain_answered H cs k.0 new (moves_law H old k.0 m l) (moves_agree H old k.0 m l a) k.2)

-- ---- what came in

came_same : (cs : List Call) (last l : ℕ) (es xs : List Entry) → l ≡ last → xs ≡ es → came_in l cs xs ≡ came_in last cs es
came_same cs last l es xs p q = ap (λ (n : ℕ). came_in n cs xs) p ∙ ap (came_in last cs) q

call_came : (H : Type 0) (c : Call) (cs : List Call) (old new : Held) → IsCall H c old new → came_in new.slots.version.last cs new.history ≡ came_in old.slots.version.last (c ∷ cs) old.history
call_came H (calls.Ingest ws r) cs old new k = came_same cs _ _ _ _ k.last_is k.history
call_came H (calls.Get key at value) cs old new k = came_same cs _ _ _ _ (ap (λ (h : Held). h.slots.version.last) k.0) (ap (λ (h : Held). h.history) k.0)
call_came H (calls.Snapshot id) cs old new k = came_same cs _ _ _ _ (ap (λ (p : Plain). p.last) k.0) k.2
call_came H (calls.Release id) cs old new k = came_same cs _ _ _ _ (ap (λ (p : Plain). p.last) k.0) k.2
call_came H (calls.Reserve work) cs old new k = came_same cs _ _ _ _ (ap (λ (p : Plain). p.last) k.0.is) k.1
call_came H (calls.Draw ticket number) cs old new k = came_same cs _ _ _ _ (ap (λ (p : Plain). p.last) k.0) k.2
call_came H (calls.Install done) cs old new k =
    let run = k.0 in
    came_same cs _ _ _ _ (ap (λ (p : Plain). p.last) run.2.2 ∙ (ap (λ (p : Plain). p.last) run.2.1.2 ∙ ap (λ (p : Plain). p.last) run.1.is)) k.1
call_came H (calls.Gather number) cs old new k = came_same cs _ _ _ _ (ap (λ (p : Plain). p.last) k.0.is) k.2
call_came H (calls.Cancel ticket) cs old new k = came_same cs _ _ _ _ (ap (λ (p : Plain). p.last) k.0) k.1
call_came H calls.Look cs old new k = came_same cs _ _ _ _ (ap (λ (p : Plain). p.last) k.0) k.1
call_came H calls.Refused cs old new k = came_same cs _ _ _ _ (ap (λ (p : Plain). p.last) k.0.2) k.1
call_came H calls.Works cs old new k = came_same cs _ _ _ _ k.found.last k.found.history

pub chain_came : (H : Type 0) (cs : List Call) (old new : Held) → Chain (IsCall H) cs old new → new.history ≡ came_in old.slots.version.last cs old.history
chain_came H [] old new e = ap (λ (h : Held). h.history) e
chain_came H (c ∷ cs) old new k = chain_came H cs k.0 new k.2 ∙ call_came H c cs old k.0 k.1

-- ---- a chain that goes on

chain_end : (H : Type 0) (cs : List Call) (c : Call) (a b d : Held) → Chain (IsCall H) cs a b → IsCall H c b d → Chain (IsCall H) (cs ++ c ∷ []) a d
chain_end H [] c a b d e k = (d, subst (λ (h : Held). IsCall H c h d) e k, refl)
chain_end H (x ∷ xs) c a b d chain k = (chain.0, chain.1, chain_end H xs c chain.0 b d chain.2 k)

pub reached_call : (H : Type 0) (found old new : Held) (c : Call) → IsCall H c old new → IsReached H found old → IsReached H found new
reached_call H found old new c k r = (r.0 ++ c ∷ [], chain_end H r.0 c found old new r.1 k)

pub reached_found : (H : Type 0) (found h : Held) → IsSeated found h → IsReached H found h
reached_found H found h s = (calls.Look ∷ [], (h, (ap plain s.1, ap (λ (x : Held). x.history) s.1), refl))

pub reached_worked : (H : Type 0) (found : Held) → IsKeptByCompaction H (IsReached H found)
reached_worked H found old new step r = reached_call H found old new calls.Works step r

-- a batch that is brought in, or refused, as it is beside workers
pub reached_ingested : (H : Type 0) (Refused : Asked → ShelfFault → Type 0) (ws : List Write) (found : Held) → IsKeptByIngest Refused ws (IsReached H found)
reached_ingested H Refused ws found old new (inl i) r = reached_call H found old new (calls.Ingest ws i.0) (brought_so H old new ws i.0 i.1 i.2 i.3) r
reached_ingested H Refused ws found old new (inr e) r = reached_call H found old new calls.Refused (e.3.event, e.3.history) r
