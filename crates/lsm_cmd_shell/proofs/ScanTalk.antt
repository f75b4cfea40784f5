-- What is said of a scan.
use Rattle.std.proofs.Common.{◌≡◌, ℕ, List, [], ◌++◌, codes, Option, refl, subst, inl, inr}
use Rattle.std.specs.Prelude.{◌⊎◌, ⊤, IfOk, Result, Ok, Err}
use Rattle.std.proofs.KnownBytes.{Appends-trans}
use Rattle.std.proofs.lemmas.Result.{IfOk-weaker}
use Rattle.lsm_model.specs.Files.{all_entries}
use Rattle.lsm_model.specs.Scanning.{IsScan, Pair}
use Rattle.lsm_shelf.specs.Told.{Becomes, Told}
use Rattle.lsm_state.specs.declared.state_fault.StateFault.TheVariants.{Read as ReadRefused}
use Rattle.lsm_table.specs.declared.read_fault.ReadFault.{ReadFault}
use Rattle.lsm_version.specs.Versions.{Levels, files}
use Rattle.lsm_text.specs.declared.form.Form.{Form}
use Rattle.lsm_state.specs.Held.{Held}
use Rattle.lsm_requests.specs.declared.key_bounds.KeyBounds.{KeyBounds}
use Rattle.lsm_script.specs.Steps.{OnDesk, stage}
use Rattle.lsm_script.specs.declared.command_fault.CommandFault.TheVariants.{State}
use Rattle.lsm_cmd_shell.specs.Pairs.{IsScanFault, IsWrite, PrintsVersion, pairs_text, shown}
use Rattle.lsm_cmd_shell.specs.Batching.{SaysRefusal, no_memory}
use Rattle.lsm_cmd_shell.specs.Said.{IsTold, Said, done, saying}
use Rattle.lsm_cmd_shell.specs.declared.outcome.Outcome.{Outcome}
use Rattle.lsm_cmd_shell.specs.Talk.{IsScanned, ShowsAll, ShowsSome, StopsScan}
use Rattle.lsm_cmd_shell.specs.declared.pairs.ScanFault.{ScanFault}
use Rattle.lsm_cmd_shell.specs.declared.pairs.ScanFault.TheVariants.{Read}

-- what is said, and that it is a scan's
abbrev pub Says : Type 0 → Form → KeyBounds → Option ℕ → Held → OnDesk → Told → Told → {E : Type 0} → Result Outcome E → Option (List ℕ) → Option (List ℕ) → Type 0
Says honest form bounds limit h d was is r old new = (said : Said) × IsScanned honest form bounds limit said (stage h d was) (stage h d is) × IfOk r (IsTold said old new)

shows_all : (honest : Type 0) (bounds : KeyBounds) (limit : Option ℕ) (v w : Levels) (front : List Pair) → v ≡ w
    → ((front ≡ []) × (⊤ → ⊥)) ⊎ (honest → (pairs : List Pair) × IsScan v.last (all_entries (files v)) pairs × (front ≡ shown bounds limit pairs))
    → honest → ShowsAll bounds limit w front
shows_all honest bounds limit v w front e (inl h) = absurd (h.1 tt)
shows_all honest bounds limit v w front e (inr h) = λ y. subst (λ (x : Levels). ShowsAll bounds limit x front) e (h y)

pub said_all : {E : Type 0} (honest : Type 0) (form : Form) (bounds : KeyBounds) (limit : Option ℕ) (h : Held) (d : OnDesk) (v : Levels) (was is : Told) (r : Result Outcome E) (old mid new : Option (List ℕ))
    → v ≡ h.slots.version → PrintsVersion honest form bounds limit v (Ok tt) old mid → Becomes was is → IfOk r (IsTold (done (codes "end\n")) mid new) → Says honest form bounds limit h d was is r old new
said_all honest form bounds limit h d v was is r old mid new e p told end = (
  done (pairs_text form p.front ++ codes "end\n"),
  record {
    front = p.front;
    last = done (codes "end\n");
    said_is = refl;
    shows = inl (refl, shows_all honest bounds limit v h.slots.version p.front e p.shows);
    told = told;
    same = refl;
  },
  IfOk-weaker r _ _ (λ o k. (Appends-trans old mid new (pairs_text form p.front) (codes "end\n") (p.written (λ x. x)) k.0, k.1)) end,
)

shows_some : (honest : Type 0) (bounds : KeyBounds) (limit : Option ℕ) (v w : Levels) (front : List Pair) (fault : ScanFault) → v ≡ w
    → ((front ≡ []) × (⊥ → ⊥)) ⊎ (honest → (pairs : List Pair) × IsScan v.last (all_entries (files v)) pairs × ((back : List Pair) × (shown bounds limit pairs ≡ front ++ back)))
    → (front ≡ []) ⊎ (honest → ShowsSome bounds limit w front)
shows_some honest bounds limit v w front fault e (inl h) = inl h.0
shows_some honest bounds limit v w front fault e (inr h) = inr (λ y. (let k = h y in subst (λ (x : Levels). ShowsSome bounds limit x front) e (k.0, k.2.0, k.1, k.2.1)))

pub said_some : {E : Type 0} (honest : Type 0) (form : Form) (bounds : KeyBounds) (limit : Option ℕ) (h : Held) (d : OnDesk) (v : Levels) (was is : Told) (fault : ScanFault) (last : Said) (r : Result Outcome E) (old mid new : Option (List ℕ))
    → v ≡ h.slots.version → PrintsVersion honest form bounds limit v (Err fault) old mid → (IsWrite (Err fault) → ⊥) → Becomes was is → StopsScan honest form last was is → IfOk r (IsTold last mid new)
    → Says honest form bounds limit h d was is r old new
said_some honest form bounds limit h d v was is fault last r old mid new e p other told stops end = (
  saying (pairs_text form p.front ++ last.text) last.outcome,
  record {
    front = p.front;
    last = last;
    said_is = refl;
    shows = inr (stops, shows_some honest bounds limit v h.slots.version p.front fault e p.shows);
    told = told;
    same = refl;
  },
  IfOk-weaker r _ _ (λ o k. (Appends-trans old mid new (pairs_text form p.front) last.text (p.written other) k.0, k.1)) end,
)

-- a write failed: what would have been said
pub said_none : (honest : Type 0) (form : Form) (bounds : KeyBounds) (limit : Option ℕ) (h : Held) (d : OnDesk) (was is : Told) → Becomes was is
    → (said : Said) × IsScanned honest form bounds limit said (stage h d was) (stage h d is)
said_none honest form bounds limit h d was is told = (
  saying (pairs_text form [] ++ no_memory.text) no_memory.outcome,
  record { front = []; last = no_memory; said_is = refl; shows = inr (inl refl, inl refl); told = told; same = refl },
)

pub read_stops : (honest : Type 0) (form : Form) (last : Said) (was is : Told) (fault : ReadFault) → IsScanFault honest was is (Read fault)
    → SaysRefusal form (State (ReadRefused fault)) last ⊎ (last ≡ no_memory) → StopsScan honest form last was is
read_stops honest form last was is fault f (inl e) = inr (fault, e, f.0, f.1)
read_stops honest form last was is fault f (inr e) = inl e
