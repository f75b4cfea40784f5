-- Which calls of its shelf a call of the state made, by its contract and the shelf's own list.
use Rattle.std.proofs.Common.{◌≡◌, ℕ, suc, ◌+◌, Bool, true, false, cond, List, [], ◌∷◌, ◌++◌, length, map, refl, sym, ◌∙◌, ap, subst, inl, inr, ◌⊎◌, arith, Some, zero-add}
use Rattle.atomic_table.specs.Seated.{TableId}
use Rattle.lsm_codec.specs.Lists.{Has}
use Rattle.lsm_shelf.specs.Told.{Told}
use Rattle.lsm_shelf.specs.Asked.{Asked, Put, Remove, StartManifest}
use Rattle.lsm_table.specs.Registry.{Table}
use Rattle.lsm_batch.specs.declared.write.Write.{Write}
use Rattle.lsm_journal.specs.Difference.{changed_by}
use Rattle.lsm_journal.proofs.CallerLemmas.{sent_made}
use Rattle.lsm_live.specs.Booked.{Booked}
use Rattle.lsm_merge.specs.Outputs.{going}
use Rattle.lsm_merge.specs.Work.{Done, IsMade, Work, puts_by, puts_of}
use Rattle.lsm_state.specs.Asked.{changes_by}
use Rattle.lsm_state.specs.Collecting.{AreCollected, IsCollectRefusal, IsKeptNumber}
use Rattle.lsm_state.specs.Gathering.{Gathers}
use Rattle.lsm_state.specs.Held.{Held, IsLawfulState}
use Rattle.lsm_state.specs.Ingesting.{Ingests, IsIngestRefusal, coming_in, last_of, table_bytes_of, with_number, with_slots}
use Rattle.lsm_state.specs.Installing.{Installed, MayInstall}
use Rattle.lsm_state.specs.declared.ingest.Ingested.{Ingested}
use Rattle.lsm_state.specs.declared.state_fault.StateFault.{StateFault}
use Rattle.lsm_state.proofs.CallerLemmas.{begun_made, collect_refused_made, ingest_refused_made}
use Rattle.lsm_crash.specs.Disk.{Disk}
use Rattle.lsm_crash.specs.Known.{World}
use Rattle.lsm_crash.specs.States.{IsWorldOf}
use Rattle.lsm_crash.specs.Database.{HasMade, Install, IsMade as IsCreated, IsReady, Opens}
use Rattle.lsm_journal.specs.declared.manifest_limit.ManifestLimit.{ManifestLimit}

-- ---- a list that grew by calls grew by no others

length_going : (xs l : List Asked) → length (going xs l) ≡ length xs + length l
length_going [] l = sym (zero-add (length l))
length_going (x ∷ xs) l = (let n = length_going xs (x ∷ l) in omega arith)

heads_are : (x y : Asked) (l m : List Asked) → x ∷ l ≡ y ∷ m → (x ≡ y) × (l ≡ m)
heads_are x y l m e = (cc, cc)

same_going : (xs ys l m : List Asked) → length l ≡ length m → going xs l ≡ going ys m → (xs ≡ ys) × (l ≡ m)
same_going [] [] l m n e = (refl, e)
same_going [] (y ∷ ys) l m n e = absurd (let a = ap length e in let b = length_going ys (y ∷ m) in omega arith)
same_going (x ∷ xs) [] l m n e = absurd (let a = ap length e in let b = length_going xs (x ∷ l) in omega arith)
same_going (x ∷ xs) (y ∷ ys) l m n e =
    let r = same_going xs ys (x ∷ l) (y ∷ m) (ap suc n) e in
    let h = heads_are x y l m r.1 in
    (ap (λ z. z ∷ xs) h.0 ∙ ap (λ zs. y ∷ zs) r.0, h.1)

pub only_going : (asks these : List Asked) (was is : Told) → HasMade asks was is → is.made ≡ going these was.made → asks ≡ these
only_going asks these was is h e = (same_going asks these was.made was.made refl (sym h ∙ e)).0

-- ---- calls that were answered Ok

pub ingest_made : (old new : Held) (ws : List Write) (r : Ingested) (was is : Told) (i : Ingests old new ws r was is)
    → HasMade (Put old.next i.table.image ∷ changes_by (with_number old i.slots) (coming_in i.table (last_of old ws)) ∷ []) was is
ingest_made old new ws r was is i =
    let d = coming_in i.table (last_of old ws) in
    sent_made d (changed_by d i.slots.version) (suc old.next) new.next old.journal new.journal i.mid is i.changes.sends
    ∙ ap (λ (m : List Asked). changes_by (with_number old i.slots) d ∷ m) i.put.made

pub ingest_asks : (old new : Held) (ws : List Write) (r : Ingested) (was is : Told) (i : Ingests old new ws r was is) (asks : List Asked) → HasMade asks was is
    → asks ≡ Put old.next i.table.image ∷ changes_by (with_number old i.slots) (coming_in i.table (last_of old ws)) ∷ []
ingest_asks old new ws r was is i asks h =
    only_going asks (Put old.next i.table.image ∷ changes_by (with_number old i.slots) (coming_in i.table (last_of old ws)) ∷ []) was is h
    (ingest_made old new ws r was is i)

pub gather_made : (honest : Type 0) (old new : Held) (number : ℕ) (was is : Told) (i : Gathers honest old new number was is)
    → HasMade (Put old.next i.table.image ∷ changes_by (with_number old i.slots) i.change ∷ []) was is
gather_made honest old new number was is i =
    sent_made i.change (changed_by i.change i.slots.version) (suc old.next) new.next old.journal new.journal i.mid is i.changes.sends
    ∙ ap (λ (m : List Asked). changes_by (with_number old i.slots) i.change ∷ m) i.put.made

pub gather_asks : (honest : Type 0) (old new : Held) (number : ℕ) (was is : Told) (i : Gathers honest old new number was is) (asks : List Asked) → HasMade asks was is
    → asks ≡ Put old.next i.table.image ∷ changes_by (with_number old i.slots) i.change ∷ []
gather_asks honest old new number was is i asks h =
    only_going asks (Put old.next i.table.image ∷ changes_by (with_number old i.slots) i.change ∷ []) was is h (gather_made honest old new number was is i)

pub install_made : (old new : Held) (done : Done) (was is : Told) (i : Installed old new done was is)
    → HasMade (changes_by (with_slots old i.slots) i.change ∷ []) was is
install_made old new done was is i =
    sent_made i.change (changed_by i.change i.slots.version) old.next new.next old.journal new.journal was is i.changes.sends

pub install_asks : (old new : Held) (done : Done) (was is : Told) (i : Installed old new done was is) (asks : List Asked) → HasMade asks was is → asks ≡ changes_by (with_slots old i.slots) i.change ∷ []
install_asks old new done was is i asks h =
    only_going asks (changes_by (with_slots old i.slots) i.change ∷ []) was is h (install_made old new done was is i)

pub collect_asks : (h : Held) (removed : List ℕ) (was is : Told) → AreCollected h removed was is → (asks : List Asked) → HasMade asks was is → asks ≡ map Remove removed
collect_asks h removed was is c asks made = only_going asks (map Remove removed) was is made c.told.made

pub open_made : (honest : Type 0) (limit : ManifestLimit) (h : Held) (d : Disk) (p : Opens honest limit h d) → HasMade (StartManifest h.journal.number h.journal.bytes ∷ []) p.was p.is
open_made honest limit h d p = begun_made honest limit h.journal h.slots.version h.next p.was p.is p.begun

pub open_asks : (honest : Type 0) (limit : ManifestLimit) (h : Held) (d : Disk) (p : Opens honest limit h d) (asks : List Asked) → HasMade asks p.was p.is → asks ≡ StartManifest h.journal.number h.journal.bytes ∷ []
open_asks honest limit h d p asks made =
    only_going asks (StartManifest h.journal.number h.journal.bytes ∷ []) p.was p.is made (open_made honest limit h d p)

pub create_made : (h : Held) (m : IsCreated h) → HasMade (StartManifest h.journal.number h.journal.bytes ∷ []) m.was m.now
create_made h m =
    m.sent.made ∙ ap (λ n. StartManifest n h.journal.bytes ∷ m.was.made) (sym (ap (λ (x : Held). x.journal.number) m.is))

pub create_asks : (h : Held) (m : IsCreated h) (asks : List Asked) → HasMade asks m.was m.now → asks ≡ StartManifest h.journal.number h.journal.bytes ∷ []
create_asks h m asks made =
    only_going asks (StartManifest h.journal.number h.journal.bytes ∷ []) m.was m.now made (create_made h m)

-- ---- calls that were refused

pub ingest_err_made : (old new : Held) (ws : List Write) (fault : StateFault) (was is : Told) → IsIngestRefusal old new ws fault was is
    → HasMade [] was is ⊎ HasMade (Put old.next (table_bytes_of old ws) ∷ []) was is
ingest_err_made old new ws fault was is r = ingest_refused_made old new ws fault was is r

pub ingest_err_asks : (old new : Held) (ws : List Write) (fault : StateFault) (was is : Told) (asks : List Asked) → IsIngestRefusal old new ws fault was is → HasMade asks was is
    → (asks ≡ []) ⊎ (asks ≡ Put old.next (table_bytes_of old ws) ∷ [])
ingest_err_asks old new ws fault was is asks r made = elim (ingest_err_made old new ws fault was is r) [
  | inl none ↦ inl (only_going asks [] was is made none)
  | inr put ↦ inr (only_going asks (Put old.next (table_bytes_of old ws) ∷ []) was is made put)
]

one_more : (xs : List Asked) (x : Asked) (l : List Asked) → going (xs ++ x ∷ []) l ≡ x ∷ going xs l
one_more [] x l = refl
one_more (y ∷ xs) x l = one_more xs x (y ∷ l)

pub collect_err_made : (old new : Held) (fault : StateFault) (removed : List ℕ) (was is : Told) → IsCollectRefusal old new fault removed was is
    → HasMade (map Remove removed) was is ⊎ ((n : ℕ) × (IsKeptNumber new n → ⊥) × HasMade (map Remove removed ++ Remove n ∷ []) was is)
collect_err_made old new fault removed was is r = elim (collect_refused_made old new fault removed was is r) [
  | inl told ↦ inl told
  | inr (n, free, told) ↦ inr (n, free, told ∙ sym (one_more (map Remove removed) (Remove n) was.made))
]

pub collect_err_asks : (old new : Held) (fault : StateFault) (removed : List ℕ) (was is : Told) (asks : List Asked) → IsCollectRefusal old new fault removed was is → HasMade asks was is
    → (asks ≡ map Remove removed) ⊎ ((n : ℕ) × (IsKeptNumber new n → ⊥) × (asks ≡ map Remove removed ++ Remove n ∷ []))
collect_err_asks old new fault removed was is asks r made = elim (collect_err_made old new fault removed was is r) [
  | inl told ↦ inl (only_going asks (map Remove removed) was is made told)
  | inr (n, free, told) ↦ inr (n, free, only_going asks (map Remove removed ++ Remove n ∷ []) was is made told)
]

-- ---- the outputs of a job were put, or are its input

put_there : (ts : List Table) (t : Table) → Has ts t → Has (map (λ p. Put p.0 p.1) (puts_of ts)) (Put t.number t.image)
put_there [] t h = absurd h
put_there (u ∷ ts) t (inl e) = inl (ap (λ (x : Table). Put x.number x.image) e)
put_there (u ∷ ts) t (inr h) = inr (put_there ts t h)

module _ (honest : Type 0) (board : TableId) (h : Held) (w : World) (done : Done) (l : IsLawfulState honest board h) (o : IsWorldOf h w) (may : MayInstall h done) (r : IsReady honest (Install done) w) where
  -- a move hands in a table of the version
  moved : (t u : Table) → done.work.upper ≡ u ∷ [] → u ≡ t → w.tables t.number ≡ Some t.image
  moved t u upper same =
      let b : Booked = may.live.0 in
      let work = may.live.1.awaits.work in
      let its : Has b.work.upper t = subst (λ (ts : List Table). Has ts t) (sym upper ∙ sym (ap (λ (x : Work). x.upper) work)) (inl same) in
      o.tables b.work.level t ((l.inputs b may.live.1.is_live).upper t its)

  ready_at : (b : Bool) → IsMade honest done b → (asks : List Asked) → asks ≡ map (λ p. Put p.0 p.1) (cond b [] (puts_of done.outputs)) → ((n : ℕ) (image : List ℕ) → Has asks (Put n image) → w.tables n ≡ Some image)
      → (t : Table) → Has done.outputs t → w.tables t.number ≡ Some t.image
  ready_at false made asks are counted t at = counted t.number t.image (subst (λ xs. Has xs (Put t.number t.image)) (sym are) (put_there done.outputs t at))
  ready_at true made asks are counted t at = elim (subst (λ (ts : List Table). Has ts t) made.3 at) [
    | inl e ↦ moved t made.0 made.1 e
    | inr none ↦ absurd none
  ]

  pub ready_tables : (t : Table) → Has done.outputs t → w.tables t.number ≡ Some t.image
  ready_tables = ready_at done.work.is_move r.3.made r.2 (only_going r.2 (map (λ p. Put p.0 p.1) (puts_by done)) r.0 r.1 r.5 r.4.made) r.6
