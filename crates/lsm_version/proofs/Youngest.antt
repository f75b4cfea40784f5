-- The table of the greatest number, as it is looked for.
use Rattle.std.proofs.Common.{◌≡◌, ℕ, ◌+◌, ◌<◌, Bool, true, false, List, [], ◌∷◌, length, get_or, take, Option, Some, None, sym, ◌∙◌, ap, subst, inl, inr, arith, Bor}
use Rattle.std.specs.Prelude.{◌⊎◌, MatchOption, nat_lt, IsTrue}
use Rattle.std.proofs.lemmas.Bool.{ltb-true, ltb-false}
use Rattle.std.proofs.lemmas.List.{take_more}
use Rattle.lsm_codec.specs.Lists.{Has}
use Rattle.lsm_codec.proofs.CallerLemmas.{has_cases, has_left, has_right}
use Rattle.lsm_codec.specs.Keys.{UserKey}
use Rattle.lsm_table.specs.Registry.{Table}
use Rattle.lsm_version.specs.Reads.{is_candidate, IsYoungest, HasNoCandidate}

abbrev pub IsBest : UserKey → Option ℕ → List Table → Option (Bor Table) → Type 0
IsBest k bound ts best = MatchOption best (HasNoCandidate k bound ts) (λ t. IsYoungest k bound ts t.now)

-- one element more
one_more : (ts : List Table) (i : ℕ) (x u : Table) → i < length ts → x ≡ get_or ts i x → Has (take (i + 1) ts) u → Has (take i ts) u ⊎ (x ≡ u)
one_more ts i x u lt is h = elim (has_cases (take i ts) (get_or ts i x ∷ []) u (subst (λ (us : List Table). Has us u) (take_more ts i x lt) h)) [
  | inl a ↦ inl a
  | inr b ↦ elim b [ inl same ↦ inr (is ∙ same) | inr c ↦ absurd c ]
]

still : (ts : List Table) (i : ℕ) (x u : Table) → i < length ts → Has (take i ts) u → Has (take (i + 1) ts) u
still ts i x u lt h = subst (λ (us : List Table). Has us u) (sym (take_more ts i x lt)) (has_left (take i ts) (get_or ts i x ∷ []) u h)

now_here : (ts : List Table) (i : ℕ) (x : Table) → i < length ts → x ≡ get_or ts i x → Has (take (i + 1) ts) x
now_here ts i x lt is = subst (λ (us : List Table). Has us x) (sym (take_more ts i x lt)) (has_right (take i ts) (get_or ts i x ∷ []) x (inl (sym is)))

pub takes : (k : UserKey) (bound : Option ℕ) (ts : List Table) (i : ℕ) (x : Table) (best : Option (Bor Table)) (newer : Bool) → i < length ts → x ≡ get_or ts i x → is_candidate k bound x ≡ true
    → MatchOption best (IsTrue newer) (λ b. newer ≡ nat_lt b.now.number x.number) → newer ≡ true → IsBest k bound (take i ts) best → IsYoungest k bound (take (i + 1) ts) x
takes k bound ts i x None newer lt is cand how aye before = record {
  here = now_here ts i x lt is;
  candidate = cand;
  most = λ u h c. elim (one_more ts i x u lt is h) [
    | inl a ↦ absurd (cc (before u a, c))
    | inr same ↦ (let e = ap (λ (t : Table). t.number) same in omega arith)
  ];
}
takes k bound ts i x (Some b) newer lt is cand how aye before =
    let more = ltb-true b.now.number x.number (sym how ∙ aye) in
    record {
      here = now_here ts i x lt is;
      candidate = cand;
      most = λ u h c. elim (one_more ts i x u lt is h) [
        | inl a ↦ (let le = before.most u a c in omega arith)
        | inr same ↦ (let e = ap (λ (t : Table). t.number) same in omega arith)
      ];
    }

pub keeps_newest : (k : UserKey) (bound : Option ℕ) (ts : List Table) (i : ℕ) (x : Table) (best : Option (Bor Table)) (newer : Bool) → i < length ts → x ≡ get_or ts i x
    → MatchOption best (IsTrue newer) (λ b. newer ≡ nat_lt b.now.number x.number) → newer ≡ false → IsBest k bound (take i ts) best → IsBest k bound (take (i + 1) ts) best
keeps_newest k bound ts i x None newer lt is how nay before = absurd (cc (how, nay))
keeps_newest k bound ts i x (Some b) newer lt is how nay before =
    let less = ltb-false b.now.number x.number (sym how ∙ nay) in
    record {
      here = still ts i x b.now lt before.here;
      candidate = before.candidate;
      most = λ u h c. elim (one_more ts i x u lt is h) [
        | inl a ↦ before.most u a c
        | inr same ↦ (let e = ap (λ (t : Table). t.number) same in omega arith)
      ];
    }

pub keeps_other : (k : UserKey) (bound : Option ℕ) (ts : List Table) (i : ℕ) (x : Table) (best : Option (Bor Table)) → i < length ts → x ≡ get_or ts i x
    → is_candidate k bound x ≡ false → IsBest k bound (take i ts) best → IsBest k bound (take (i + 1) ts) best
keeps_other k bound ts i x None lt is nay before = λ u h. elim (one_more ts i x u lt is h) [
  | inl a ↦ before u a
  | inr same ↦ ap (is_candidate k bound) (sym same) ∙ nay
]
keeps_other k bound ts i x (Some b) lt is nay before = record {
  here = still ts i x b.now lt before.here;
  candidate = before.candidate;
  most = λ u h c. elim (one_more ts i x u lt is h) [
    | inl a ↦ before.most u a c
    | inr same ↦ (let e = ap (is_candidate k bound) same in absurd (cc (nay, e, c)))
  ];
}
