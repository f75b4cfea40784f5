-- Tables of live jobs, as a version changes.
use Rattle.std.proofs.Common.{ℕ, zero, suc, ◌<◌, List, [], ◌∷◌, ◌++◌, length, inl, inr, arith, ◌⊎◌, ◌↔◌}
use Rattle.std.specs.Prelude.{Option}
use Rattle.lsm_codec.specs.Lists.{Has}
use Rattle.lsm_table.specs.Registry.{Table}
use Rattle.lsm_version.specs.Changes.{changed}
use Rattle.lsm_version.specs.Versions.{Levels, level_in}
use Rattle.lsm_merge.specs.Work.{Work}
use Rattle.lsm_journal.specs.Difference.{Difference, changed_by, deleted_numbers}
use Rattle.lsm_state.specs.Held.{HasInputs}

-- which tables a changed version has (a law of versions)
abbrev pub TablesChange : Type 0
TablesChange = (deleted : List ℕ) (added : List (ℕ × Table)) (pointer : Option (ℕ × List ℕ)) (last : ℕ) (v : Levels) (n : ℕ) (t : Table) → n < length v.tables
    → (Has (level_in (changed deleted added pointer last v).tables n) t ↔ ((Has (level_in v.tables n) t × (Has deleted t.number → ⊥)) ⊎ Has added (n, t)))

inside : (levels : List (List Table)) (n : ℕ) (t : Table) → Has (level_in levels n) t → n < length levels
inside [] n t h = absurd h
inside (ts ∷ levels) zero t h = omega arith
inside (ts ∷ levels) (suc n) t h = (let lt = inside levels n t h in omega arith)

-- a table that is not deleted stays
table_stays : TablesChange → (d : Difference) (v : Levels) (n : ℕ) (t : Table) → Has (level_in v.tables n) t → (Has (deleted_numbers d) t.number → ⊥) → Has (level_in (changed_by d v).tables n) t
table_stays law d v n t h none = (law (deleted_numbers d) d.added d.pointer d.last v n t (inside v.tables n t h)).1 (inl (h, none))

-- the inputs of a job stay where none of them is deleted
pub inputs_stay : TablesChange → (d : Difference) (v : Levels) (w : Work) → HasInputs v w → ((t : Table) → Has (w.upper ++ w.lower) t → Has (deleted_numbers d) t.number → ⊥)
    → HasInputs (changed_by d v) w
inputs_stay law d v w h none = record {
  upper = λ t k. table_stays law d v w.level t (h.upper t k) (none t (left w.upper w.lower t k));
  lower = λ t k. table_stays law d v (suc w.level) t (h.lower t k) (none t (right w.upper w.lower t k));
}
  where
    left : (ts us : List Table) (t : Table) → Has ts t → Has (ts ++ us) t
    left [] us t k = absurd k
    left (x ∷ ts) us t (inl e) = inl e
    left (x ∷ ts) us t (inr k) = inr (left ts us t k)

    right : (ts us : List Table) (t : Table) → Has us t → Has (ts ++ us) t
    right [] us t k = k
    right (x ∷ ts) us t k = inr (right ts us t k)
