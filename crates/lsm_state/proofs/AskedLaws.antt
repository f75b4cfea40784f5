-- Which call the shelf refused where a call of the state is refused.
use Rattle.std.proofs.Common.{◌≡◌, ◌==◌, ◌↔◌, ℕ, suc, true, not, List, subst, ap, refl}
use Rattle.std.proofs.lemmas.Bool.{eq-eqb}
use Rattle.lsm_codec.specs.Lists.{Has}
use Rattle.lsm_codec.proofs.CallerLemmas.{any_at, filter_has}
use Rattle.lsm_shelf.specs.Asked.{Asked, Put}
use Rattle.lsm_shelf.specs.declared.shelf_fault.ShelfFault.{ShelfFault}
use Rattle.lsm_shelf.proofs.CallerLemmas.{want_more}
use Rattle.lsm_table.specs.Registry.{Table}
use Rattle.lsm_table.specs.TableBuilding.{table_bytes}
use Rattle.lsm_block.specs.declared.build_fault.BuildFault.{BuildFault}
use Rattle.lsm_block.specs.declared.build_fault.BuildFault.TheVariants as block
use Rattle.lsm_version.specs.Versions.{Levels}
use Rattle.lsm_slots.specs.Slots.{Slotted}
use Rattle.lsm_batch.specs.declared.write.Write.{Write}
use Rattle.lsm_batch.specs.Batches.{entries_from}
use Rattle.lsm_journal.specs.Difference.{Difference, changed_by}
use Rattle.lsm_journal.specs.HeldManifest.{HeldManifest}
use Rattle.lsm_journal.specs.Sending.{asked_by}
use Rattle.lsm_merge.specs.Work.{Done}
use Rattle.lsm_state.specs.Asked.{ChangeRefused, InstallRefused, OnShelf, PutRefused}
use Rattle.lsm_state.specs.Changing.{IsSlotRefusal}
use Rattle.lsm_state.specs.Collecting.{IsKeptNumber, is_in, outside}
use Rattle.lsm_state.specs.Held.{Held}
use Rattle.lsm_state.specs.Ingesting.{IsEarlyRefusal, entries_of, of_build}
use Rattle.lsm_state.specs.Installing.{IsInstallChange, IsRefusedAtOnce}
use Rattle.lsm_state.specs.Options.{sizes_of}
use Rattle.lsm_state.specs.declared.state_fault.StateFault.{StateFault}
use Rattle.lsm_state.specs.declared.state_fault.StateFault.TheVariants as state

-- ---- refusals that are not the shelf's

-- where no refusal of this kind is the shelf's
pub not_shelf : (R : ShelfFault → Type 0) (P : StateFault → Type 0) → ((f : ShelfFault) → P (state.Shelf f) → OnShelf R (state.Shelf f)) → (e : StateFault) → P e → OnShelf R e
not_shelf R P none state.OutOfMemory p = tt
not_shelf R P none (state.Shelf f) p = none f p
not_shelf R P none (state.Read f) p = tt
not_shelf R P none (state.BadLevel n) p = tt
not_shelf R P none state.EmptyBatch p = tt
not_shelf R P none (state.KeyOrder n) p = tt
not_shelf R P none state.TooLarge p = tt
not_shelf R P none state.LevelZeroFull p = tt
not_shelf R P none state.SequencesSpent p = tt
not_shelf R P none state.Halted p = tt
not_shelf R P none (state.UnknownSnapshot n) p = tt
not_shelf R P none (state.Conflict n) p = tt
not_shelf R P none (state.UnknownTicket n) p = tt
not_shelf R P none state.NumbersSpent p = tt
not_shelf R P none state.Stale p = tt
not_shelf R P none state.SlotsHeld p = tt
not_shelf R P none state.VersionsSpent p = tt
not_shelf R P none state.PinsSpent p = tt

pub early_asked : (R : ShelfFault → Type 0) (h : Held) (ws : List Write) (e : StateFault) → IsEarlyRefusal h ws e → OnShelf R e
early_asked R h ws e p = not_shelf R (IsEarlyRefusal h ws) (λ f q. absurd q) e p

pub slot_asked : (R : ShelfFault → Type 0) (s t : Slotted) (e : StateFault) → IsSlotRefusal s t e → OnShelf R e
slot_asked R s t e p = not_shelf R (IsSlotRefusal s t) (λ f q. absurd q) e p

pub at_once_asked : (R : ShelfFault → Type 0) (h : Held) (d : Done) (e : StateFault) → IsRefusedAtOnce h d e → OnShelf R e
at_once_asked R h d e p = not_shelf R (IsRefusedAtOnce h d) (λ f q. absurd q) e p

pub build_asked : (R : ShelfFault → Type 0) (f : BuildFault) → OnShelf R (of_build f)
build_asked R block.OutOfMemory = tt
build_asked R block.TooLarge = tt

-- ---- refusals of one kind that are of another kind too

pub on_more : (R More : ShelfFault → Type 0) → ((f : ShelfFault) → R f → More f) → (e : StateFault) → OnShelf R e → OnShelf More e
on_more R More each e p = not_shelf More (OnShelf R) (λ f q. want_more R More each f q) e p

-- slots were looked at before the put
pub put_looked : (Refused : Asked → ShelfFault → Type 0) (h m : Held) (ws : List Write) (f : ShelfFault) → m ≡ record h { slots = m.slots } → m.slots.version ≡ h.slots.version
    → PutRefused Refused m ws f → PutRefused Refused h ws f
put_looked Refused h m ws f looked version r =
    subst (λ (v : Levels). Refused (Put h.next (table_bytes (sizes_of h.options) (entries_from (suc v.last) ws))) f) version
    (subst (λ (z : Held). Refused (Put z.next (table_bytes (sizes_of z.options) (entries_of m ws))) f) looked r)

pub bytes_looked : (h m : Held) (ws : List Write) (t : Table) → m ≡ record h { slots = m.slots } → m.slots.version ≡ h.slots.version → t.image ≡ table_bytes (sizes_of m.options) (entries_of m ws)
    → t.image ≡ table_bytes (sizes_of h.options) (entries_of h ws)
bytes_looked h m ws t looked version is =
    subst (λ (v : Levels). t.image ≡ table_bytes (sizes_of h.options) (entries_from (suc v.last) ws)) version
    (subst (λ (z : Held). t.image ≡ table_bytes (sizes_of z.options) (entries_of m ws)) looked is)

-- the state and the change are others, with the same version, next number and manifest
pub change_alike : (Refused : Asked → ShelfFault → Type 0) (h x : Held) (next : ℕ) (d c : Difference) (f : ShelfFault) → x.slots.version ≡ h.slots.version → x.next ≡ next → x.journal ≡ h.journal → d ≡ c
    → ChangeRefused Refused x d f → ChangeRefused Refused (record h { next = next }) c f
change_alike Refused h x next d c f version number journal same r =
    subst (λ (z : Difference). Refused (asked_by z (changed_by z h.slots.version) next h.journal) f) same
    (subst (λ (v : Levels). Refused (asked_by d (changed_by d v) next h.journal) f) version
    (subst (λ (n : ℕ). Refused (asked_by d (changed_by d x.slots.version) n h.journal) f) number
    (subst (λ (j : HeldManifest). Refused (asked_by d (changed_by d x.slots.version) x.next j) f) journal r)))

-- slots were looked at before the install
pub install_looked : (Refused : Asked → ShelfFault → Type 0) (h m : Held) (d : Done) (f : ShelfFault) → m ≡ record h { slots = m.slots } → m.slots.version ≡ h.slots.version
    → InstallRefused Refused m d f → InstallRefused Refused h d f
install_looked Refused h m d f looked version r = (
  r.0,
  subst (λ (v : Levels). IsInstallChange d v.last r.0) version r.1,
  change_alike Refused h m h.next r.0 r.0 f version (ap (λ (z : Held). z.next) looked) (ap (λ (z : Held). z.journal) looked) refl r.2,
)

-- ---- numbers that are not kept

-- a number that is outside of those kept
pub outside_free : (h : Held) (kept listed : List ℕ) → ((n : ℕ) → Has kept n ↔ IsKeptNumber h n) → (n : ℕ) → Has (outside kept listed) n → IsKeptNumber h n → ⊥
outside_free h kept listed are n out k =
    let other = (filter_has (λ m. not (is_in kept m)) listed n out).1 in
    let found : is_in kept n ≡ true = any_at (λ m. m == n) kept n ((are n).1 k) (eq-eqb n n refl) in
    absurd (cc)
