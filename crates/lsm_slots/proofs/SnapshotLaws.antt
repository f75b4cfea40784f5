-- What takes and releases leave of the snapshots.
use Rattle.std.proofs.Common.{◌≡◌, ℕ, zero, suc, ◌+◌, ◌<◌, ◌≤◌, List, [], ◌∷◌, ◌++◌, length, get_or, take, refl, ap, ◌∙◌, subst, inl, inr, arith}
use Rattle.std.proofs.lemmas.List.{take_more}
use Rattle.lsm_codec.specs.Lists.{Has}
use Rattle.lsm_model.specs.Plain.{without_snapshot}
use Rattle.lsm_model.proofs.CallerLemmas.{left_snapshot, one_more, rising_less, rising_more}
use Rattle.lsm_slots.specs.Snapshots.{AreSnapshots, Taken}

pub snapshots_more : (s : Taken) (seq : ℕ) → AreSnapshots s → ((p : ℕ × ℕ) → Has s.taken p → p.1 ≤ seq) → AreSnapshots record { taken = s.taken ++ (s.next, seq) ∷ []; next = suc s.next }
snapshots_more s seq a last = record {
  rising = rising_more s.taken s.next seq a.rising a.ids last;
  ids = λ p h. elim (one_more s.taken (s.next, seq) p h) [ inl old ↦ (let lt = a.ids p old in omega arith) | inr e ↦ subst (λ (q : ℕ × ℕ). q.0 < suc s.next) e (omega arith) ];
}

pub snapshots_less : (s : Taken) (id : ℕ) → AreSnapshots s → AreSnapshots record { taken = without_snapshot id s.taken; next = s.next }
snapshots_less s id a = record { rising = rising_less id s.taken a.rising; ids = λ p h. a.ids p (left_snapshot id s.taken p h) }

-- ---- a snapshot by its place

pub at_has : (ps : List (ℕ × ℕ)) (i : ℕ) (d : ℕ × ℕ) → i < length ps → Has ps (get_or ps i d)
at_has [] i d lt = absurd (omega arith)
at_has (p ∷ ps) zero d lt = inl refl
at_has (p ∷ ps) (suc i) d lt = inr (at_has ps i d (omega arith))

pub none_more : (ps : List (ℕ × ℕ)) (i id : ℕ) (d : ℕ × ℕ) → i < length ps → ((p : ℕ × ℕ) → Has (take i ps) p → p.0 ≡ id → ⊥) → ((get_or ps i d).0 ≡ id → ⊥)
    → (p : ℕ × ℕ) → Has (take (i + 1) ps) p → p.0 ≡ id → ⊥
none_more ps i id d lt before here p h e = elim (one_more (take i ps) (get_or ps i d) p (subst (λ l. Has l p) (take_more ps i d lt) h)) [
  | inl old ↦ before p old e
  | inr is ↦ here (ap (λ (q : ℕ × ℕ). q.0) is ∙ e)
]
