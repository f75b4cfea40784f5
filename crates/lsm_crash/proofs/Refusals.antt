-- A refused call after which the state goes on leaves manifest and version.
use Rattle.std.proofs.Common.{◌≡◌, ℕ, suc, ◌+◌, ◌-◌, ◌<◌, ◌≤◌, ◌^◌, Bool, true, false, List, ◌∷◌, ◌⊎◌, refl, ◌∙◌, ap, inl, inr, arith}
use Rattle.std.specs.Prelude.{if◌then◌else◌}
use Rattle.std.proofs.lemmas.Bool.{cases_lt}
use Rattle.lsm_shelf.specs.Asked.{Put}
use Rattle.lsm_shelf.specs.Told.{Told}
use Rattle.lsm_table.specs.TableBuilding.{table_bytes}
use Rattle.lsm_batch.specs.declared.write.Write.{Write}
use Rattle.lsm_journal.specs.HeldManifest.{is_at_limit}
use Rattle.lsm_merge.specs.Work.{Done}
use Rattle.lsm_slots.specs.Slots.{Slotted}
use Rattle.lsm_state.specs.Changing.{IsChangeRefusal, halts, next_spent}
use Rattle.lsm_state.specs.Collecting.{HasLookedAround}
use Rattle.lsm_state.specs.Gathering.{IsGatherRefusal}
use Rattle.lsm_state.specs.Held.{Held}
use Rattle.lsm_state.specs.Ingesting.{FailsToChange, FailsToPut, HasNumbers, IsIngestRefusal, IsWelcome, with_number, with_slots}
use Rattle.lsm_state.specs.Installing.{IsInstallRefusal, IsRefusedLater, MayInstall}
use Rattle.lsm_state.specs.Options.{sizes_of}
use Rattle.lsm_state.specs.declared.gather_fault.GatherFault.{GatherFault}
use Rattle.lsm_state.specs.declared.gather_fault.GatherFault.TheVariants.{Merge, State}
use Rattle.lsm_state.specs.declared.state_fault.StateFault.{StateFault}
use Rattle.lsm_state.specs.declared.state_fault.StateFault.TheVariants.{OutOfMemory, Shelf, Read, BadLevel, EmptyBatch, KeyOrder, TooLarge, LevelZeroFull, SequencesSpent, Halted, UnknownSnapshot, Conflict, UnknownTicket, NumbersSpent, Stale, SlotsHeld, VersionsSpent, PinsSpent}
use Rattle.lsm_crash.specs.Database.{Stays}

-- other slots of the same version, another next number
stays_from : (old new : Held) (s : Slotted) (n : ℕ) (b : Bool) → new ≡ record old { slots = s; next = n; halted = b } → s.version ≡ old.slots.version → old.next ≤ n → n < 2 ^ 64 → new.halted ≡ false → Stays old new
stays_from old new s n b is same le small going = record {
  version = ap (λ (h : Held). h.slots.version) is ∙ same;
  journal = ap (λ (h : Held). h.journal) is;
  going = going;
  next = (let e : new.next ≡ n = ap (λ (h : Held). h.next) is in omega arith);
  fits = (let e : new.next ≡ n = ap (λ (h : Held). h.next) is in omega arith);
}

pub stays_same : (old new : Held) → new ≡ old → old.next < 2 ^ 64 → new.halted ≡ false → Stays old new
stays_same old new is small going = stays_from old new old.slots old.next old.halted is refl (omega arith) small going

spent_at : (b : Bool) (next : ℕ) → next ≤ (if b then next + 1 else next)
spent_at true next = omega arith
spent_at false next = omega arith

spent_small : (b : Bool) (next : ℕ) → next + (if b then 2 else 1) < 2 ^ 64 → (suc next ≤ (if b then suc next + 1 else suc next)) × ((if b then suc next + 1 else suc next) < 2 ^ 64) × (suc next < 2 ^ 64)
spent_small true next lt = (omega arith, omega arith, omega arith)
spent_small false next lt = (omega arith, omega arith, omega arith)

-- what a refused change leaves of a state whose number was spent
changed : (old new : Held) (e : StateFault) (was is : Told) → HasNumbers old → new.slots.version ≡ old.slots.version → IsChangeRefusal (with_number old new.slots) new e was is → new.halted ≡ false → Stays old new × (old.next < new.next)
changed old new OutOfMemory was is numbers same r going =
    let p = spent_small (is_at_limit old.journal) old.next numbers in
    (stays_from old new new.slots (suc old.next) old.halted r.0 same (omega arith) p.2 going, (let e : new.next ≡ suc old.next = ap (λ (h : Held). h.next) r.0 in omega arith))
changed old new (Shelf fault) was is numbers same r going =
    let p = spent_small (is_at_limit old.journal) old.next numbers in
    let n = next_spent (with_number old new.slots) in
    (stays_from old new new.slots n (halts fault) r.0 same (let le = p.0 in omega arith) p.1 going, (let e : new.next ≡ n = ap (λ (h : Held). h.next) r.0 in let le = p.0 in omega arith))
changed old new (Read fault) was is numbers same r going = absurd r
changed old new (BadLevel level) was is numbers same r going = absurd r
changed old new EmptyBatch was is numbers same r going = absurd r
changed old new (KeyOrder place) was is numbers same r going = absurd r
changed old new TooLarge was is numbers same r going = absurd r
changed old new LevelZeroFull was is numbers same r going = absurd r
changed old new SequencesSpent was is numbers same r going = absurd r
changed old new Halted was is numbers same r going = absurd r
changed old new (UnknownSnapshot id) was is numbers same r going = absurd r
changed old new (Conflict ticket) was is numbers same r going = absurd r
changed old new (UnknownTicket ticket) was is numbers same r going = absurd r
changed old new NumbersSpent was is numbers same r going = absurd r
changed old new Stale was is numbers same r going = absurd r
changed old new SlotsHeld was is numbers same r going = absurd r
changed old new VersionsSpent was is numbers same r going = absurd r
changed old new PinsSpent was is numbers same r going = absurd r

pub ingest_stays : (old new : Held) (ws : List Write) (e : StateFault) (was is : Told) → IsIngestRefusal old new ws e was is → old.next < 2 ^ 64 → new.halted ≡ false → Stays old new
ingest_stays old new ws e was is (inl r) small going = stays_same old new r.1 small going
ingest_stays old new ws e was is (inr (w, inl r)) small going = stays_from old new new.slots old.next old.halted r.0 r.1.looked.version (omega arith) small going
ingest_stays old new ws e was is (inr (w, inr (sought, slot, inl r))) small going = stays_from old new new.slots old.next old.halted r.0 sought.looked.version (omega arith) small going
ingest_stays old new ws e was is (inr (w, inr (sought, slot, inr (inl r)))) small going =
    stays_from old new new.slots (suc old.next) old.halted r.0 sought.looked.version (omega arith) (spent_small (is_at_limit old.journal) old.next w.numbers).2 going
ingest_stays old new ws e was is (inr (w, inr (sought, slot, inr (inr r)))) small going = (changed old new e r.0 is w.numbers sought.looked.version r.3 going).0

-- the number of a table that was put, or perhaps put, is spent
pub put_spent : (old new : Held) (ws : List Write) (e : StateFault) (was is : Told) → FailsToPut old new ws e was is → old.next < new.next
put_spent old new ws e was is r = (let n : new.next ≡ suc old.next = ap (λ (h : Held). h.next) r.0 in omega arith)

pub change_spent : (old new : Held) (ws : List Write) (e : StateFault) (was is : Told) → IsWelcome old ws → new.slots.version ≡ old.slots.version → FailsToChange old new ws e was is → new.halted ≡ false → old.next < new.next
change_spent old new ws e was is w same r going = (changed old new e r.0 is w.numbers same r.3 going).1

pub gather_stays : (honest : Type 0) (old new : Held) (e : GatherFault) (was is : Told) → IsGatherRefusal honest old new e was is → old.next < 2 ^ 64 → new.halted ≡ false → Stays old new
gather_stays honest old new e was is (inl r) small going = stays_same old new r.1 small going
gather_stays honest old new (State e) was is (inr (least, m, inl r)) small going = stays_from old new new.slots old.next old.halted r.0 r.1.looked.version (omega arith) small going
gather_stays honest old new (Merge e) was is (inr (least, m, inl r)) small going = absurd r
gather_stays honest old new (State e) was is (inr (least, m, inr (sought, slot, inl r))) small going = stays_from old new new.slots old.next old.halted r.1 sought.looked.version (omega arith) small going
gather_stays honest old new (Merge e) was is (inr (least, m, inr (sought, slot, inl r))) small going =
    stays_from old new new.slots (suc old.next) old.halted r.0 sought.looked.version (omega arith) (spent_small (is_at_limit old.journal) old.next m.numbers).2 going
gather_stays honest old new (State e) was is (inr (least, m, inr (sought, slot, inr r))) small going = (changed old new e r.1 is m.numbers sought.looked.version r.4 going).0
gather_stays honest old new (Merge e) was is (inr (least, m, inr (sought, slot, inr r))) small going = absurd r

-- a table was put, and its number is spent
pub record HasPut (old new : Held) (was is : Told) : Type 0 where
  pub image : List ℕ
  pub made : is.made ≡ Put old.next image ∷ was.made
  pub numbers : HasNumbers old
  pub spent : new.halted ≡ false → old.next < new.next

-- a refused gather put nothing, or such a table
pub gather_made_err : (honest : Type 0) (old new : Held) (e : GatherFault) (was is : Told) → IsGatherRefusal honest old new e was is → (is.made ≡ was.made) ⊎ HasPut old new was is
gather_made_err honest old new e was is (inl r) = inl (ap (λ (t : Told). t.made) r.2)
gather_made_err honest old new (State e) was is (inr (least, m, inl r)) = inl (ap (λ (t : Told). t.made) r.3)
gather_made_err honest old new (Merge e) was is (inr (least, m, inl r)) = absurd r
gather_made_err honest old new (State e) was is (inr (least, m, inr (sought, slot, inl r))) = inl (ap (λ (t : Told). t.made) r.2)
gather_made_err honest old new (Merge e) was is (inr (least, m, inr (sought, slot, inl r))) = elim r.1.told [
  | inl told ↦ inl told.made
  | inr (es, told) ↦ inr record {
    image = table_bytes (sizes_of old.options) es;
    made = told.made;
    numbers = m.numbers;
    spent = λ going. (let n : new.next ≡ suc old.next = ap (λ (h : Held). h.next) r.0 in omega arith);
  }
]
gather_made_err honest old new (State e) was is (inr (least, m, inr (sought, slot, inr r))) = inr record {
  image = r.0.image;
  made = r.5.made ∙ r.3.made;
  numbers = m.numbers;
  spent = λ going. (changed old new e r.1 is m.numbers sought.looked.version r.4 going).1;
}
gather_made_err honest old new (Merge e) was is (inr (least, m, inr (sought, slot, inr r))) = absurd r

room_at : (b : Bool) (next : ℕ) → (b ≡ true → next ≡ 2 ^ 64 - 1 → ⊥) → next < 2 ^ 64 → (if b then next + 1 else next) < 2 ^ 64
room_at true next spare small = elim (cases_lt (next + 1) (2 ^ 64)) [ inl lt ↦ lt | inr le ↦ absurd (spare refl (omega arith)) ]
room_at false next spare small = small

later : (old new : Held) (d : Done) (e : StateFault) (was is : Told) → MayInstall old d → new.slots.version ≡ old.slots.version → old.next < 2 ^ 64 → IsRefusedLater old new e was is → new.halted ≡ false → Stays old new
later old new d SlotsHeld was is may same small r going = stays_from old new new.slots old.next old.halted r.1 same (omega arith) small going
later old new d VersionsSpent was is may same small r going = stays_from old new new.slots old.next old.halted r.1 same (omega arith) small going
later old new d OutOfMemory was is may same small r going = stays_from old new new.slots old.next old.halted r.0 same (omega arith) small going
later old new d (Shelf fault) was is may same small r going =
    stays_from old new new.slots (next_spent old) (halts fault) r.0 same (spent_at (is_at_limit old.journal) old.next) (room_at (is_at_limit old.journal) old.next (λ t n. may.number (t, n)) small) going
later old new d (Read fault) was is may same small r going = absurd r
later old new d (BadLevel level) was is may same small r going = absurd r
later old new d EmptyBatch was is may same small r going = absurd r
later old new d (KeyOrder place) was is may same small r going = absurd r
later old new d TooLarge was is may same small r going = absurd r
later old new d LevelZeroFull was is may same small r going = absurd r
later old new d SequencesSpent was is may same small r going = absurd r
later old new d Halted was is may same small r going = absurd r
later old new d (UnknownSnapshot id) was is may same small r going = absurd r
later old new d (Conflict ticket) was is may same small r going = absurd r
later old new d (UnknownTicket ticket) was is may same small r going = absurd r
later old new d NumbersSpent was is may same small r going = absurd r
later old new d Stale was is may same small r going = absurd r
later old new d PinsSpent was is may same small r going = absurd r

pub install_stays : (old new : Held) (d : Done) (e : StateFault) (was is : Told) → IsInstallRefusal old new d e was is → old.next < 2 ^ 64 → new.halted ≡ false → Stays old new
install_stays old new d e was is (inl r) small going = stays_same old new r.1 small going
install_stays old new d e was is (inr r) small going = later old new d e was is r.0 r.1.looked.version small r.2 going

pub collect_stays : (old new : Held) → new ≡ with_slots old new.slots → HasLookedAround old new → old.next < 2 ^ 64 → new.halted ≡ false → Stays old new
collect_stays old new is looked small going = stays_from old new new.slots old.next old.halted is looked.looked.version (omega arith) small going
