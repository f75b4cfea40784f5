-- A new database.
use Rattle.std.proofs.Common.{◌≡◌, ℕ, zero, suc, ◌+◌, List, [], ◌∷◌, refl, sym, ap, subst, inl, inr, ◌⊎◌, arith, Some, None}
use Rattle.atomic_table.specs.Seated.{TableId}
use Rattle.lsm_codec.specs.Lists.{Has}
use Rattle.lsm_storage.specs.Plans.{start_plan}
use Rattle.lsm_shelf.specs.Asked.{Asked}
use Rattle.lsm_table.specs.Registry.{Table}
use Rattle.lsm_version.specs.Versions.{level_in, no_levels}
use Rattle.lsm_state.specs.Held.{Held, IsLawfulState}
use Rattle.lsm_crash.specs.Disk.{Disk}
use Rattle.lsm_crash.specs.Crash.{Found, IsLeft}
use Rattle.lsm_crash.specs.Versions.{ComesTo, Version}
use Rattle.lsm_crash.specs.Known.{IsHeld, IsSettled, IsVacant, current_name, nothing}
use Rattle.lsm_crash.specs.Operations.{MayStart, started, starting}
use Rattle.lsm_crash.specs.Among.{CutAmong, DoneAmong}
use Rattle.lsm_crash.specs.States.{Describes, Finds, HasTables, IsWorldOf}
use Rattle.lsm_crash.specs.Database.{HasMade, IsMade, plans_of}
use Rattle.lsm_crash.proofs.Held.{vacant_held}
use Rattle.lsm_crash.proofs.Starting.{start_cut, start_done}
use Rattle.lsm_crash.proofs.Histories.{stopped}
use Rattle.lsm_crash.proofs.Runs.{begin_cut}
use Rattle.lsm_crash.proofs.Forms.{recorded_describes}
use Rattle.lsm_crash.proofs.Deeds.{are_there}
use Rattle.lsm_crash.proofs.Asking.{create_asks}
use Rattle.lsm_crash.proofs.Turning.{finds}

nothing_in : (levels : List (List Table)) → ((ts : List Table) → Has levels ts → ts ≡ []) → (level : ℕ) (t : Table) → Has (level_in levels level) t → ⊥
nothing_in [] each level t h = h
nothing_in (ts ∷ levels) each zero t h = subst (λ us. Has us t) (each ts (inl refl)) h
nothing_in (ts ∷ levels) each (suc level) t h = nothing_in levels (λ us k. each us (inr k)) level t h

each_none : (n : ℕ) → (levels : List (List Table)) → levels ≡ no_levels.tables → (ts : List Table) → Has levels ts → ts ≡ []
each_none n levels e ts h = go (subst (λ ls. Has ls ts) e h)
  where
    go : Has no_levels.tables ts → ts ≡ []
    go (inl a) = sym a
    go (inr (inl a)) = sym a
    go (inr (inr (inl a))) = sym a
    go (inr (inr (inr (inl a)))) = sym a
    go (inr (inr (inr (inr (inl a))))) = sym a
    go (inr (inr (inr (inr (inr (inl a)))))) = sym a
    go (inr (inr (inr (inr (inr (inr (inl a))))))) = sym a
    go (inr (inr (inr (inr (inr (inr (inr none))))))) = absurd none

-- the calls that the making of a database makes
module _ (h : Held) (m : IsMade h) (asks : List Asked) (made : HasMade asks m.was m.now) (d e : Disk) where
  pub making_done : DoneAmong nothing.tables (plans_of m.number asks) d e → DoneAmong nothing.tables (start_plan h.journal.number h.journal.bytes) d e
  making_done done = subst (λ xs. DoneAmong nothing.tables (plans_of m.number xs) d e) (create_asks h m asks made) done

  pub making_cut : CutAmong nothing.tables (plans_of m.number asks) d e → CutAmong nothing.tables (start_plan h.journal.number h.journal.bytes) d e
  making_cut cut = subst (λ xs. CutAmong nothing.tables (plans_of m.number xs) d e) (create_asks h m asks made) cut

module _ (honest : Type 0) (board : TableId) (h : Held) (v : Version) (l : IsLawfulState honest board h) (m : IsMade h) (to : ComesTo h.journal.bytes v) where
  number_is : h.journal.number ≡ m.number
  number_is = ap (λ (x : Held). x.journal.number) m.is

  pub no_table : HasTables nothing.tables h.slots.version
  no_table level t k = absurd (nothing_in h.slots.version.tables (each_none 7 h.slots.version.tables (ap (λ (x : Held). x.slots.version.tables) m.is)) level t k)

  new_describes : Describes v h.slots.version
  new_describes = recorded_describes l.journaled.0 h.journal h.slots.version h.next v l.journaled.1 to

  pub may : MayStart nothing h.journal.number h.journal.bytes v
  may = record {
    small = (let a = m.fits in let e = number_is in omega arith);
    other = λ k. k;
    comes = to;
    there = are_there v h.slots.version nothing.tables new_describes no_table;
  }

  pub made_settled : (d e : Disk) → IsVacant d → DoneAmong nothing.tables (start_plan h.journal.number h.journal.bytes) d e → IsSettled e (started nothing h.journal.number h.journal.bytes v)
  made_settled d e vacant done = start_done nothing h.journal.number h.journal.bytes v may d e (vacant_held d vacant) done

  pub made_world : IsWorldOf h (started nothing h.journal.number h.journal.bytes v)
  made_world = record {
    manifest = refl;
    bytes = refl;
    tables = no_table;
    below = λ n image k. absurd (let f : None ≡ Some image = k in cc);
    own = (let e = number_is in let n : h.next ≡ m.number + 1 = ap (λ (x : Held). x.next) m.is in omega arith);
    fits = (let n : h.next ≡ m.number + 1 = ap (λ (x : Held). x.next) m.is in let a = m.fits in omega arith);
  }

  -- it has no table
  pub no_tables : (level : ℕ) (t : Table) → Has (level_in h.slots.version.tables level) t → ⊥
  no_tables = nothing_in h.slots.version.tables (each_none 7 h.slots.version.tables (ap (λ (x : Held). x.slots.version.tables) m.is))

  pub made_held : (d e : Disk) → IsVacant d → CutAmong nothing.tables (start_plan h.journal.number h.journal.bytes) d e → IsHeld e (starting nothing h.journal.number v)
  made_held d e vacant cut = elim (start_cut nothing h.journal.number h.journal.bytes v may d e (vacant_held d vacant) cut) [
    | inl same ↦ stopped e nothing h.journal.number h.journal.bytes v may same
    | inr turned ↦ turned.0
  ]

  pub made_finds : (d e : Disk) (found : Found) → IsVacant d → CutAmong nothing.tables (start_plan h.journal.number h.journal.bytes) d e → IsLeft e found → (found current_name ≡ None) ⊎ Finds h.slots.version found
  made_finds d e found vacant cut left = elim (begin_cut h.journal.number h.journal.bytes v d e found vacant may cut left) [
    | inl none ↦ inl none
    | inr r ↦ inr (finds (starting nothing h.journal.number v) found r h.slots.version (elim r.good [ inl e ↦ subst (λ s. Describes s h.slots.version) e new_describes | inr none ↦ absurd none ]) no_table)
  ]
