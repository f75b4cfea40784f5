-- The sequences of the tables of levels tell how many entries they have.
use Rattle.std.proofs.Common.{◌≡◌, ℕ, ◌+◌, List, [], ◌∷◌, length, map, refl, ap, ◌∙◌, arith}
use Rattle.std.proofs.lemmas.List.Sums.{sum_by-cons}
use Rattle.lsm_table.specs.HeldTable.{entries_in}
use Rattle.lsm_table.specs.Registry.{Table}
use Rattle.lsm_verify.specs.Counts.{count_of, counted}
use Rattle.lsm_verify.specs.Settled.{AreSequences, AreLevelSequences}
use Rattle.lsm_verify.specs.declared.sequences.Sequences.{Sequences}

counted_are : (ts : List Table) (ss : List Sequences) → AreSequences ts ss → counted ss ≡ count_of ts
counted_are [] [] a = refl
counted_are [] (s ∷ ss) a = absurd a
counted_are (t ∷ ts) [] a = absurd a
counted_are (t ∷ ts) (s ∷ ss) a =
    omega (
      arith,
      sum_by-cons (λ (q : Sequences). q.count) s ss,
      sum_by-cons (λ (u : Table). length (entries_in u.image)) t ts,
      a.0.count,
      counted_are ts ss a.1,
    )

pub levels_counted : (levels : List (List Table)) (spans : List (List Sequences)) → AreLevelSequences levels spans → map counted spans ≡ map count_of levels
levels_counted [] [] a = refl
levels_counted [] (ss ∷ spans) a = absurd a
levels_counted (ts ∷ levels) [] a = absurd a
levels_counted (ts ∷ levels) (ss ∷ spans) a =
    ap (λ (n : ℕ). n ∷ map counted spans) (counted_are ts ss a.0) ∙ ap (λ (ns : List ℕ). count_of ts ∷ ns) (levels_counted levels spans a.1)
