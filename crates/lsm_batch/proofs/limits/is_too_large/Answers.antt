use Rattle.std.proofs.Common.{◌≡◌, ◌<◌, List, [], ◌∷◌, length, get_or, take, refl, sym, ◌∙◌, ap, subst, inl, inr, arith}
use Rattle.std.proofs.lemmas.List.{take_more}
use Rattle.std.proofs.lemmas.List.Sums.{sum_by_more}
use Rattle.lsm_codec.specs.Lists.{Has}
use Rattle.lsm_codec.proofs.CallerLemmas.{has_cases}
use Rattle.lsm_batch.specs.declared.write.Write.{Write}
use Rattle.lsm_batch.specs.Batches.{IsLarge, size_of}
use Rattle.lsm_batch.proofs.BatchLaws.{has_at}
use Rattle.lsm_batch.proofs.limits.is_too_large.Goals as goal

pub returns-in_default : goal.returns-in_default
returns-in_default c =
    let xs = c.args.writes.now in
    let i = c.loop-write.write-index in
    let x : Write = c.write-item.result in
    let lt : i < length xs = c.loop-write-test.true in
    (λ _. inr (inr (x, subst (Has xs) (sym c.write-item.is) (has_at xs i x lt), c.in_default.ensures.large)), λ _. refl)

pub loop-write-preserved : goal.loop-write-preserved
loop-write-preserved c =
    let xs = c.args.writes.now in
    let i = c.loop-write.write-index in
    let x : Write = c.write-item.result in
    let lt : i < length xs = c.loop-write-test.true in
    let size : c.in-Some.size ≡ size_of (get_or xs i x) = c.in-Some.ensures.size ∙ ap size_of c.write-item.is in
    let more = sum_by_more size_of xs i x lt in
    let sum = c.loop-write.invariant.sum in
    record {
      sum = omega arith;
      most = c.if-bytes-gt-MOST_BYTES.false;
      small = λ w h. elim (has_cases (take i xs) (get_or xs i x ∷ []) w (subst (λ (l : List Write). Has l w) (take_more xs i x lt) h)) [
        | inl old ↦ c.loop-write.invariant.small w old
        | inr new ↦ elim new [ inl e ↦ subst (λ (u : Write). IsLarge u → ⊥) (c.write-item.is ∙ e) c.in-Some.ensures.small.0 | inr none ↦ absurd none ]
      ];
    }
