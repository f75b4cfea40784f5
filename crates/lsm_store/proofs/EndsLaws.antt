-- How workers ended.
use Rattle.std.proofs.Common.{◌≡◌, ℕ, ◌+◌, ◌<◌, ◌≤◌, length, get_or, take, drop, List, ◌∷◌, ◌++◌, All, Some, None, sym, ap, ◌∙◌, subst}
use Rattle.std.proofs.lemmas.List.{drop_more, take-append-drop, take_all}
use Rattle.std.proofs.lemmas.List.Elements.{All-more}
use Rattle.lsm_store.specs.declared.worker_end.WorkerEnd.{WorkerEnd}
use Rattle.lsm_store.specs.declared.worker_fault.WorkerFault.{WorkerFault}
use Rattle.lsm_store.specs.Ends.{IsFaultless, IsFirstFault}

split_at : (ends : List WorkerEnd) (i : ℕ) (d : WorkerEnd) → i < length ends → ends ≡ take i ends ++ get_or ends i d ∷ drop (i + 1) ends
split_at ends i d lt = sym (take-append-drop i ends) ∙ ap (λ (es : List WorkerEnd). take i ends ++ es) (drop_more ends i d lt)

pub first_fault : (ends : List WorkerEnd) (i : ℕ) (d : WorkerEnd) (fault : WorkerFault)
    → i < length ends → All IsFaultless (take i ends)
    → (get_or ends i d).fault ≡ Some fault → IsFirstFault fault ends
first_fault ends i d fault lt before its = record {
  front = take i ends;
  first = get_or ends i d;
  back = drop (i + 1) ends;
  parts = split_at ends i d lt;
  faultless = before;
  its = its;
}

pub more_faultless : (ends : List WorkerEnd) (i : ℕ) (d : WorkerEnd) → i < length ends → All IsFaultless (take i ends)
    → (get_or ends i d).fault ≡ None → All IsFaultless (take (i + 1) ends)
more_faultless ends i d lt before its = All-more IsFaultless ends i d lt before its

pub all_faultless : (ends : List WorkerEnd) (i : ℕ) → length ends ≤ i → All IsFaultless (take i ends) → All IsFaultless ends
all_faultless ends i end before = subst (λ (es : List WorkerEnd). All IsFaultless es) (take_all i ends end) before
