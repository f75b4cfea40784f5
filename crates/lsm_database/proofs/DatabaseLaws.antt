-- Calls on a database.
use Rattle.std.proofs.Common.{◌≡◌, ℕ, List, [], Option, refl, sym, ap, ◌∙◌, subst, inl, inr, take}
use Rattle.std.specs.Prelude.{Result, Ok, Err, IfOk, IfErr}
use Rattle.lsm_codec.specs.Entries.{Entry, answer}
use Rattle.lsm_codec.specs.Keys.{UserKey}
use Rattle.lsm_history.specs.History.{IsLater}
use Rattle.lsm_model.specs.Files.{all_entries}
use Rattle.lsm_model.specs.Runs.{Agrees}
use Rattle.lsm_model.specs.Scanning.{IsScan, Pair}
use Rattle.lsm_iterators.specs.Seeking.{at_or_past}
use Rattle.lsm_shelf.specs.Asked.{Asked}
use Rattle.lsm_shelf.specs.Told.{Becomes, Told}
use Rattle.lsm_shelf.specs.declared.shelf_fault.ShelfFault.{ShelfFault}
use Rattle.lsm_batch.specs.declared.write.Write.{Write}
use Rattle.lsm_version.specs.Versions.{files}
use Rattle.lsm_state.specs.Held.{Held, plain}
use Rattle.lsm_state.specs.Ingesting.{IsIngestRefusal}
use Rattle.lsm_state.specs.declared.ingest.Ingested.{Ingested}
use Rattle.lsm_state.specs.declared.state_fault.StateFault.{StateFault}
use Rattle.lsm_state.specs.declared.state_fault.StateFault.TheVariants.{LevelZeroFull}
use Rattle.lsm_reader.specs.Refusals.{IsSomeReadRefusal}
use Rattle.lsm_table.specs.ReadFault.{IsMemoryOrShelf, ReadCounted}
use Rattle.lsm_table.specs.declared.read_fault.ReadFault.{ReadFault}
use Rattle.lsm_store.specs.Promised.{AnswersAll}
use Rattle.lsm_store.specs.Readers.{Learnt}
use Rattle.lsm_history.proofs.CallerLemmas.{later_trans}
use Rattle.lsm_store.proofs.CallerLemmas.{past_shown}
use Rattle.lsm_database.specs.Databases.{ComesIn, Finds, IsLent, IsUnread, Reads, Seen, Shows, StaysOut, seen}

-- a state that was only looked at since
pub lent : (honest : Type 0) (h k : Held) (knew knows : List Entry) → k ≡ h → IsLater h.history knew → knows ≡ h.history → (honest → Agrees (plain k) k.history) → IsLent honest h knew knows
lent honest h k knew knows same later known agrees =
    record { later = later; known = known; agrees = subst (λ (x : Held). honest → Agrees (plain x) x.history) same agrees }

-- ---- a second try, where level 0 was full at the first one

-- what finds level 0 full has not asked the shelf
full_same : (was is : Held) (ws : List Write) (t u : Told) → IsIngestRefusal was is ws LevelZeroFull t u → u ≡ t
full_same was is ws t u refusal = elim refusal [
  | inl early ↦ early.2
  | inr late ↦ elim late.1 [
    | inl slot ↦ slot.3
    | inr tried ↦ elim tried.2 [
      | inl built ↦ built.2
      | inr put ↦ elim put [
        | inl failed ↦ absurd failed.1
        | inr changed ↦ absurd changed.3
      ]
    ]
  ]
]

module _ (Refused : Asked → ShelfFault → Type 0) (ws : List Write) (d m e : Seen) (full : StaysOut Refused ws LevelZeroFull d m) where
  same_told : m.told ≡ d.told
  same_told = full_same full.was full.is ws d.told m.told full.refused.refusal

  known_since : IsLater m.known d.known
  known_since = subst (λ (es : List Entry). IsLater es d.known) (sym (full.known ∙ full.refused.history)) full.later

  pub came_again : (r : Ingested) → ComesIn ws r m e → ComesIn ws r d e
  came_again r c = record {
    was = c.was;
    is = c.is;
    later = later_trans c.was.history m.known d.known c.later known_since;
    came = rw (← same_told) c.came;
    known = c.known;
    read = c.read ∙ full.read;
  }

  pub out_again : (fault : StateFault) → StaysOut Refused ws fault m e → StaysOut Refused ws fault d e
  out_again fault s = record {
    was = s.was;
    is = s.is;
    later = later_trans s.was.history m.known d.known s.later known_since;
    refused = rw (← same_told) s.refused;
    known = s.known;
    read = s.read ∙ full.read;
  }

-- ---- what is read

-- what the version answers at its last sequence all that had come in answers
pub answers_all : (honest : Type 0) (h : Held) (knew knows : List Entry) (key : List ℕ) (v : Option (List ℕ)) → IsLent honest h knew knows → honest
    → v ≡ answer (all_entries (files h.slots.version)) key h.slots.version.last → v ≡ answer knows key h.slots.version.last
answers_all honest h knew knows key v has y found =
    found ∙ (has.agrees y).reads key h.slots.version.last (inl refl) ∙ ap (λ (es : List Entry). answer es key h.slots.version.last) (sym has.known)

abbrev learnt : Held → Told → Learnt
learnt h t = record { id = 0; version = h.slots.version; pinner = h.slots.board; told = t; history = h.history; snapshots = [] }

reads_all : (h : Held) → Agrees (plain h) h.history → AnswersAll h.slots.version [] h.history
reads_all h agrees = record { upto = agrees.upto; reads = λ k seq p. elim p [ inl last ↦ agrees.reads k seq (inl last) | inr none ↦ absurd none ] }

-- and so it is of a scan
pub shows_all : (honest : Type 0) (h : Held) (knew knows : List Entry) (from : UserKey) (t : Told) (ps : List Pair) → IsLent honest h knew knows → honest
    → IsScan h.slots.version.last (at_or_past from (all_entries (files h.slots.version))) ps → IsScan h.slots.version.last (at_or_past from knows) ps
shows_all honest h knew knows from t ps has y scan =
    subst (λ (es : List Entry). IsScan h.slots.version.last (at_or_past from es) ps) (sym has.known)
    (past_shown (λ (qs : List Pair). qs) shown (learnt h t) from h.slots.version.last (reads_all h (has.agrees y)) (inl refl) scan)
  where
    shown : Result (List Pair) ReadFault
    shown = Ok ps

module _ (Honest : Type 0) (h : Held) (knew knows : List Entry) (told read read' : Told) (has : IsLent Honest h knew knows) (becomes : Becomes read read') where
  reads : Reads Honest h (seen knew told read) (seen knows told read')
  reads = record { has = has; told = refl; read = becomes }

  pub finds : {T E : Type 0} (key : List ℕ) (value : T → Option (List ℕ)) (r : Result T E)
      → (Honest → IfOk r (λ v. value v ≡ answer (all_entries (files h.slots.version)) key h.slots.version.last))
      → IfOk r (λ v. Finds Honest key (value v) (seen knew told read) (seen knows told read'))
  finds key value (Ok v) found =
      record { lent = h; reads = reads; version = found; history = λ y. answers_all Honest h knew knows key (value v) has y (found y) }
  finds key value (Err e) found = tt

  pub shows : {T E : Type 0} (from : UserKey) (limit : ℕ) (items : T → List Pair) (r : Result T E)
      → (Honest → IfOk r (λ v. (all : List Pair) × IsScan h.slots.version.last (at_or_past from (all_entries (files h.slots.version))) all × (items v ≡ take limit all)))
      → IfOk r (λ v. Shows Honest from limit (items v) (seen knew told read) (seen knows told read'))
  shows from limit items (Ok v) shown =
      record { lent = h; reads = reads; shown = λ y. ((shown y).0, shows_all Honest h knew knows from read (shown y).0 has y (shown y).1, (shown y).2) }
  shows from limit items (Err e) shown = tt

  pub unread : {T : Type 0} (Refused : Asked → ShelfFault → Type 0) (r : Result T ReadFault) → (Honest → IfErr r IsMemoryOrShelf)
      → IfErr r (IsSomeReadRefusal Refused) → IfErr r (λ e. ReadCounted e read read')
      → IfErr r (λ e. IsUnread Honest Refused e (seen knew told read) (seen knows told read'))
  unread Refused (Ok v) sound refused counted = tt
  unread Refused (Err e) sound refused counted = record { lent = h; reads = reads; sound = sound; refused = refused; counted = counted }
