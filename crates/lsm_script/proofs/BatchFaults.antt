-- Why a batch stays out, as the history tells it.
use Rattle.std.proofs.Common.{◌≡◌, ℕ, suc, ◌+◌, ◌^◌, ◌≤◌, List, length, sym, subst, inl, inr}
use Rattle.lsm_shelf.specs.Told.{Told}
use Rattle.lsm_batch.specs.Batches.{entries_from}
use Rattle.lsm_batch.specs.Images.{PassesTable}
use Rattle.lsm_batch.specs.declared.write.Write.{Write}
use Rattle.lsm_state.specs.Changing.{IsChangeRefusal, IsSlotRefusal}
use Rattle.lsm_state.specs.Held.{Held}
use Rattle.lsm_state.specs.Ingesting.{IsBuildRefusal, IsEarlyRefusal, IsIngestRefusal, IsPutFault, IsWelcome, entries_of, table_bytes_of, with_number}
use Rattle.lsm_state.specs.Options.{sizes_of}
use Rattle.lsm_state.specs.declared.state_fault.StateFault.{StateFault}
use Rattle.lsm_state.specs.declared.state_fault.StateFault.TheVariants.{OutOfMemory, Shelf, Read, BadLevel, EmptyBatch, KeyOrder, TooLarge, LevelZeroFull, SequencesSpent, Halted, UnknownSnapshot, Conflict, UnknownTicket, NumbersSpent, Stale, SlotsHeld, VersionsSpent, PinsSpent}
use Rattle.lsm_script.specs.History.{History, IsBatchFault}

-- where an ingest may be refused
stage_of_refusal : (X : Type 0) (old new : Held) (ws : List Write) (e : StateFault) (was is : Told) → (IsEarlyRefusal old ws e → X) → (IsSlotRefusal old.slots new.slots e → X)
    → (IsWelcome old ws → IsBuildRefusal (sizes_of old.options) (entries_of old ws) e → X) → (IsPutFault old.next (table_bytes_of old ws) e was is → X)
    → ((mid : Told) → IsChangeRefusal (with_number old new.slots) new e mid is → X) → IsIngestRefusal old new ws e was is → X
stage_of_refusal X old new ws e was is early slot build put change (inl r) = early r.0
stage_of_refusal X old new ws e was is early slot build put change (inr r) = elim r.1 [
  | inl l ↦ slot l.2
  | inr l ↦ elim l.2 [
    | inl b ↦ build r.0 b.1
    | inr b ↦ elim b [ inl p ↦ put p.1 | inr c ↦ change c.0 c.3 ]
  ]
]

pub batch_fault : (old new : Held) (ws : List Write) (e : StateFault) (was is : Told) (s : History) → s.last ≡ old.slots.version.last → IsIngestRefusal old new ws e was is → IsBatchFault ws e s
batch_fault old new ws EmptyBatch was is s last r = stage_of_refusal _ old new ws EmptyBatch was is (λ x. x.1) (λ x. absurd x) (λ w x. absurd x) (λ x. absurd x) (λ m x. absurd x) r
batch_fault old new ws (KeyOrder n) was is s last r = stage_of_refusal _ old new ws (KeyOrder n) was is (λ x. x.1) (λ x. absurd x) (λ w x. absurd x) (λ x. absurd x) (λ m x. absurd x) r
batch_fault old new ws TooLarge was is s last r = stage_of_refusal _ old new ws TooLarge was is (λ x. inl x.1) (λ x. absurd x)
    (λ w x. inr (w.takes.1, (sizes_of old.options, subst (λ (n : ℕ). PassesTable (sizes_of old.options) (entries_from (suc n) ws)) (sym last) x))) (λ x. absurd x) (λ m x. absurd x) r
batch_fault old new ws SequencesSpent was is s last r = stage_of_refusal _ old new ws SequencesSpent was is (λ x. (x.0.1, subst (λ (n : ℕ). 2 ^ 56 ≤ n + length ws) (sym last) x.2)) (λ x. absurd x)
    (λ w x. absurd x) (λ x. absurd x) (λ m x. absurd x) r
batch_fault old new ws OutOfMemory was is s last r = tt
batch_fault old new ws (Shelf f) was is s last r = tt
batch_fault old new ws (Read f) was is s last r = tt
batch_fault old new ws (BadLevel n) was is s last r = tt
batch_fault old new ws LevelZeroFull was is s last r = tt
batch_fault old new ws Halted was is s last r = tt
batch_fault old new ws (UnknownSnapshot n) was is s last r = tt
batch_fault old new ws (Conflict n) was is s last r = tt
batch_fault old new ws (UnknownTicket n) was is s last r = tt
batch_fault old new ws NumbersSpent was is s last r = tt
batch_fault old new ws Stale was is s last r = tt
batch_fault old new ws SlotsHeld was is s last r = tt
batch_fault old new ws VersionsSpent was is s last r = tt
batch_fault old new ws PinsSpent was is s last r = tt
