-- What the lock keeps.
use Rattle.std.proofs.Common.{◌≡◌, ℕ, List, [], ◌∷◌, None, Some, Result, Ok, Err, IfOk, OnErr, OnOk, refl, sym, ap, ◌∙◌, subst, inl, inr}
use Rattle.std.proofs.Math.Logic.{∥∥₁_map}
use Rattle.lsm_batch.specs.declared.write.Write.{Write}
use Rattle.lsm_codec.specs.Entries.{Entry}
use Rattle.lsm_codec.specs.Lists.{Has}
use Rattle.lsm_frames.specs.Requests.{Asked, Written, Writes, Reads, Scans, Snapshots, Releases, Compacts, CompactsRange, Collects, Statistics}
use Rattle.lsm_lines.specs.LastWrites.{KeepsLast}
use Rattle.lsm_live.specs.Booked.{HasTicket, without}
use Rattle.lsm_merge.specs.Work.{Work, job_of}
use Rattle.lsm_model.specs.Plain.{Cancels}
use Rattle.lsm_model.specs.Runs.{Event, Reserve, Cancel, Spend}
use Rattle.lsm_shelf.specs.Asked as shelf
use Rattle.lsm_shelf.specs.declared.shelf_fault.ShelfFault.{ShelfFault}
use Rattle.lsm_state.specs.Held.{Held, plain}
use Rattle.lsm_picker.specs.TablePlans.{plan_of}
use Rattle.lsm_state.specs.Reserving.{IsReserving, plan_in, reserved}
use Rattle.lsm_store.specs.Background.{IsIngestStep}
use Rattle.lsm_store.specs.Compacting.{IsKeptByCompaction, IsOfWorkers, IsSeated}
use Rattle.lsm_channels.specs.Keeping.{HasComeTo, IsAskedFor, IsKeptByAsked, IsKeptByLooks, IsKeptByRelease, IsKeptByRequests, IsKeptByTakes, IsKeptQuietly, IsKnown, IsLook, IsQuietStep}
use Rattle.lsm_channels.specs.Served.{IsLent, IsToldBy}
use Rattle.lsm_channels.specs.Snapshots.{ReleasesAt, TakesAt}
use Rattle.lsm_channels.specs.Writing.{writes_of}

-- ---- quiet steps

none_of : (e : Event) → Has [] e → IsOfWorkers e
none_of e h = absurd h

one_of : (x : Event) → IsOfWorkers x → (e : Event) → Has (x ∷ []) e → IsOfWorkers e
one_of x quiet e (inl same) = subst IsOfWorkers same quiet
one_of x quiet e (inr h) = absurd h

two_of : (x y : Event) → IsOfWorkers x → IsOfWorkers y → (e : Event) → Has (x ∷ y ∷ []) e → IsOfWorkers e
two_of x y one two e (inl same) = subst IsOfWorkers same one
two_of x y one two e (inr h) = one_of y two e h

-- the machine sees nothing of it
pub quiet_look : (Honest : Type 0) (was is : Held) → plain is ≡ plain was → is.history ≡ was.history → IsQuietStep Honest was is
quiet_look Honest was is same history = record { events = []; only = none_of; run = same; history = history }

pub quiet_same : (Honest : Type 0) (was is : Held) → is ≡ was → IsQuietStep Honest was is
quiet_same Honest was is same = quiet_look Honest was is (ap plain same) (ap (λ (h : Held). h.history) same)

-- what changes nothing is a look
pub look_same : (was is : Held) → is ≡ was → IsLook was is
look_same was is same = record { rest = subst (λ (h : Held). h ≡ record was { slots = h.slots }) (sym same) refl; machine = ap plain same }

-- a job was reserved, and given up or not, behind what changed nothing
pub quiet_given_up : {E : Type 0} (Honest : Type 0) (was old mid is : Held) (w : Work) (ticket : ℕ) (r : Result (Unit {0}) E) → old ≡ was → IsReserving Honest old w mid
    → mid ≡ reserved w old → OnOk r (Cancels (plain mid) ticket (plain is)) → OnOk r (HasTicket mid.live ticket × (is ≡ record mid { live = without ticket mid.live }))
    → OnErr r (is ≡ mid) → IsQuietStep Honest was is
quiet_given_up {E} Honest was old mid is w ticket (Ok x) same event reserves cancels left err = record {
  events = Reserve (plan_of (plan_in w)) (job_of w) ∷ Cancel ticket ∷ [];
  only = two_of (Reserve (plan_of (plan_in w)) (job_of w)) (Cancel ticket) tt tt;
  run = (plain mid, subst (λ (h : Held). IsReserving Honest h w mid) same event, (plain is, cancels, refl));
  history = ap (λ (h : Held). h.history) left.1 ∙ ap (λ (h : Held). h.history) reserves ∙ ap (λ (h : Held). h.history) same;
}
quiet_given_up {E} Honest was old mid is w ticket (Err e) same event reserves cancels left err = record {
  events = Reserve (plan_of (plan_in w)) (job_of w) ∷ [];
  only = one_of (Reserve (plan_of (plan_in w)) (job_of w)) tt;
  run = (plain mid, subst (λ (h : Held). IsReserving Honest h w mid) same event, ap plain err);
  history = ap (λ (h : Held). h.history) err ∙ ap (λ (h : Held). h.history) reserves ∙ ap (λ (h : Held). h.history) same;
}

-- a collection is one, behind what changed nothing
pub look_collected : (was old is : Held) → old ≡ was → plain is ≡ plain old → is ≡ record old { slots = is.slots } → IsLook was is
look_collected was old is same machine rest = subst (λ (h : Held). IsLook h is) same (record { rest = rest; machine = machine })

-- ---- facts that are kept

-- what brings nothing in keeps the fact of the lock
pub kept_on : (Honest : Type 0) (keeps : Held → Type 0) (was is : Held) → IsKeptQuietly Honest keeps → IsQuietStep Honest was is → ∥ keeps was ∥₁ → ∥ keeps is ∥₁
kept_on Honest keeps was is quiet step kept = ∥∥₁_map kept (quiet was is step)

-- so does a look
pub looked_on : (keeps : Held → Type 0) (was is : Held) → IsKeptByLooks keeps → IsLook was is → ∥ keeps was ∥₁ → ∥ keeps is ∥₁
looked_on keeps was is looks look kept = ∥∥₁_map kept (looks was is look)

-- which is such a step
pub quiet_looks : (Honest : Type 0) (keeps : Held → Type 0) → IsKeptQuietly Honest keeps → IsKeptByLooks keeps
quiet_looks Honest keeps quiet was is look = quiet was is (quiet_look Honest was is look.machine (ap (λ (h : Held). h.history) look.rest))

-- a snapshot that is taken, or given up, keeps it
pub kept_taken : {E : Type 0} (keeps : Held → Type 0) (P : ℕ × ℕ → Type 0) (was is : Held) (r : Result (ℕ × ℕ) E) → IsKeptByTakes keeps → IfOk r (λ x. TakesAt was is x.0 x.1 × P x) → OnErr r (is ≡ was)
    → ∥ keeps was ∥₁ → ∥ keeps is ∥₁
kept_taken keeps P was is (Ok x) takes ok err kept = ∥∥₁_map kept (takes was is x.0 x.1 ok.0)
kept_taken keeps P was is (Err e) takes ok err kept = subst (λ (h : Held). ∥ keeps h ∥₁) (sym err) kept

pub kept_released : {E : Type 0} (keeps : Held → Type 0) (was is : Held) (number : ℕ) (r : Result (Unit {0}) E) → IsKeptByRelease number keeps → OnOk r (ReleasesAt was is number) → OnErr r (is ≡ was)
    → ∥ keeps was ∥₁ → ∥ keeps is ∥₁
kept_released keeps was is number (Ok x) releases ok err kept = ∥∥₁_map kept (releases was is ok)
kept_released keeps was is number (Err e) releases ok err kept = subst (λ (h : Held). ∥ keeps h ∥₁) (sym err) kept

-- what is known is what had come in in a state of which the fact held
pub known_by : (keeps : Held → Type 0) (h : Held) (knew knows : List Entry) → IsToldBy h knew knows → ∥ keeps h ∥₁ → IsKnown keeps knows
known_by keeps h knew knows told kept = (h, kept, told.known)

pub lent_by : (keeps : Held → Type 0) (h : Held) (knew knows : List Entry) → ∥ keeps h ∥₁ → IsToldBy h knew knows → IsLent keeps h knew knows
lent_by keeps h knew knows kept told = record { kept = kept; told = told }

pub quiet_compaction : (Honest : Type 0) (keeps : Held → Type 0) → IsKeptQuietly Honest keeps → IsKeptByCompaction Honest keeps
quiet_compaction Honest keeps quiet was is step =
    quiet was is (record { events = step.run.events; only = step.run.only; run = step.run.run; history = step.found.history })

-- ---- the fact of a server

pub come_quiet : (Honest : Type 0) (gives : List ℕ → Type 0) (found : Held) → IsKeptQuietly Honest (HasComeTo Honest gives found)
come_quiet Honest gives found was is step come = (None ∷ come.0, (was, come.1, step))

come_looks : (Honest : Type 0) (gives : List ℕ → Type 0) (found : Held) → IsKeptByLooks (HasComeTo Honest gives found)
come_looks Honest gives found = quiet_looks Honest (HasComeTo Honest gives found) (come_quiet Honest gives found)

-- a batch that is asked for comes in, or is refused
come_by : (Honest : Type 0) (Refused : shelf.Asked → ShelfFault → Type 0) (gives : List ℕ → Type 0) (found : Held) (ws : List Written) (batch : List Write) (was is : Held) → IsAskedFor gives (Writes ws)
    → KeepsLast (writes_of ws) batch → IsIngestStep Refused batch was is → HasComeTo Honest gives found was → HasComeTo Honest gives found is
come_by Honest Refused gives found ws batch was is asked last (inl b) come = (Some (Writes ws) ∷ come.0, (was, come.1, (asked, (batch, last, b))))
come_by Honest Refused gives found ws batch was is asked last (inr k) come =
    come_quiet Honest gives found was is (record { events = Spend ∷ []; only = one_of Spend tt; run = (plain is, k.3.event, refl); history = k.3.history }) come

come_asked : (Honest : Type 0) (Refused : shelf.Asked → ShelfFault → Type 0) (gives : List ℕ → Type 0) (found : Held) (asked : Asked) → IsAskedFor gives asked
    → IsKeptByAsked Honest Refused asked (HasComeTo Honest gives found)
come_asked Honest Refused gives found (Writes ws) given = (come_looks Honest gives found, λ batch last was is step come. come_by Honest Refused gives found ws batch was is given last step come)
come_asked Honest Refused gives found (Reads when keys) given = come_looks Honest gives found
come_asked Honest Refused gives found (Scans s) given = come_looks Honest gives found
come_asked Honest Refused gives found Snapshots given = λ was is number sequence takes come. (Some Snapshots ∷ come.0, (was, come.1, (given, (number, sequence, takes))))
come_asked Honest Refused gives found (Releases number) given = λ was is releases come. (Some (Releases number) ∷ come.0, (was, come.1, (given, releases)))
come_asked Honest Refused gives found Compacts given = come_quiet Honest gives found
come_asked Honest Refused gives found (CompactsRange b) given = come_quiet Honest gives found
come_asked Honest Refused gives found Collects given = come_looks Honest gives found
come_asked Honest Refused gives found Statistics given = come_looks Honest gives found

-- each request that may come keeps it
pub come_requests : (Honest : Type 0) (Refused : shelf.Asked → ShelfFault → Type 0) (gives : List ℕ → Type 0) (found : Held) → IsKeptByRequests Honest Refused gives (HasComeTo Honest gives found)
come_requests Honest Refused gives found content asked given request = come_asked Honest Refused gives found asked (record { content = content; given = given; request = request })

-- it holds of the state that was found
pub come_found : (Honest : Type 0) (gives : List ℕ → Type 0) (found h : Held) → IsSeated found h → HasComeTo Honest gives found h
come_found Honest gives found h seated = ([], seated)
