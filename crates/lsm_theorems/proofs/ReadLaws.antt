-- What an answer of a history is, in words of its newest entry.
use Rattle.std.proofs.Common.{◌≡◌, ℕ, ◌≤◌, ◌<◌, Bool, true, false, cond, List, [], ◌∷◌, ◌++◌, map, Option, Some, None, Result, Ok, Err, refl, sym, ap, ◌∙◌, subst, inl, inr, arith}
use Rattle.std.specs.Prelude.{IfOk}
use Rattle.lsm_codec.specs.declared.kind.Kind.{Kind}
use Rattle.lsm_codec.specs.declared.kind.Kind.TheVariants.{Deletion, Value}
use Rattle.lsm_codec.specs.Keys.{UserKey}
use Rattle.lsm_codec.specs.Lists.{Has}
use Rattle.lsm_codec.specs.Entries.{Entry, answer, first_of_two, is_allowed, newest, shown, value_in}
use Rattle.lsm_codec.proofs.CallerLemmas as codec
use Rattle.lsm_theorems.specs.Newest.{IsNewest, IsReadOf, IsReadOfAll, IsSeen}

seen_allowed : (k : UserKey) (s : ℕ) (e : Entry) → IsSeen k s e → codec.IsAllowed k s e
seen_allowed k s e p = record { key = p.0; seq = p.1 }

newest_so : (h : List Entry) (k : UserKey) (s : ℕ) (e : Entry) → codec.IsNewest h k s e → IsNewest h k s e
newest_so h k s e n = record {
  came = n.here;
  seen = (n.allowed.key, n.allowed.seq);
  newest = λ other has p. n.most other has (seen_allowed k s other p);
}

entry_read : (h : List Entry) (k : UserKey) (s : ℕ) (e : Entry) (kind : Kind) → e.kind ≡ kind → codec.IsNewest h k s e → IsReadOf h k s (shown kind e.value)
entry_read h k s e Value is n = (e, newest_so h k s e n, is, refl)
entry_read h k s e Deletion is n = inr (e, newest_so h k s e n, is)

found_read : (h : List Entry) (k : UserKey) (s : ℕ) (o : Option Entry) → codec.Finds h k s o → IsReadOf h k s (value_in o)
found_read h k s None f = inl (λ e has p. f e has (seen_allowed k s e p))
found_read h k s (Some e) n = entry_read h k s e e.kind refl n

pub answer_read : (h : List Entry) (k : UserKey) (s : ℕ) → IsReadOf h k s (answer h k s)
answer_read h k s = found_read h k s (newest k s h) (codec.newest_finds k s h)

-- a read under the lock
pub read_so : {V E : Type 0} (Fair : Type 0) (r : Result V E) (see : V → Option (List ℕ)) (In : ℕ → Type 0) (h : List Entry) (k : UserKey)
    → IfOk r (λ v. (seq : ℕ) × In seq × (Fair → see v ≡ answer h k seq)) → Fair → IfOk r (λ v. (seq : ℕ) × In seq × IsReadOf h k seq (see v))
read_so Fair (Ok v) see In h k p fair = (p.0, p.1, subst (IsReadOf h k p.0) (sym (p.2 fair)) (answer_read h k p.0))
read_so Fair (Err e) see In h k p fair = tt

-- a read of a view
pub view_so : {V E : Type 0} (r : Result V E) (see : V → Option (List ℕ)) (h : List Entry) (k : UserKey) (s : ℕ)
    → IfOk r (λ v. see v ≡ answer h k s) → IfOk r (λ v. IsReadOf h k s (see v))
view_so (Ok v) see h k s p = subst (IsReadOf h k s) (sym p) (answer_read h k s)
view_so (Err e) see h k s p = tt

-- a read at the last sequence, with the history as it was remembered then
pub all_so : {V E : Type 0} (Fair : Type 0) (r : Result V E) (see : V → Option (List ℕ)) (now history : List Entry) (k : UserKey) (last : ℕ)
    → now ≡ history → (Fair → (e : Entry) → Has history e → e.seq ≤ last)
    → IfOk r (λ v. (seq : ℕ) × (seq ≡ last) × (Fair → see v ≡ answer history k seq)) → Fair → IfOk r (λ v. IsReadOfAll now k (see v))
all_so Fair (Ok v) see now history k last same upto p fair = subst (λ (es : List Entry). IsReadOfAll es k (see v)) (sym same)
    (p.0, (λ e has. subst (λ (q : ℕ). e.seq ≤ q) (sym p.1) (upto fair e has)), subst (IsReadOf history k p.0) (sym (p.2 fair)) (answer_read history k p.0))
all_so Fair (Err e) see now history k last same upto p fair = tt

-- what comes in later than a read's sequence is not seen by it
pub later_unseen : (k : UserKey) (s : ℕ) (new old : List Entry) → ((e : Entry) → Has new e → s < e.seq) → newest k s (new ++ old) ≡ newest k s old
later_unseen k s [] old h = refl
later_unseen k s (e ∷ es) old h = skip (is_allowed k s e) refl ∙ later_unseen k s es old (λ x m. h x (inr m))
  where
    skip : (b : Bool) → is_allowed k s e ≡ b → cond b (Some (first_of_two e (newest k s (es ++ old)))) (newest k s (es ++ old)) ≡ newest k s (es ++ old)
    skip true t = absurd (omega (arith, (codec.allowed_says k s e t).seq, h e (inl refl)))
    skip false t = refl

pub has_map : {X Y : Type 0} (f : X → Y) (xs : List X) (x : X) → Has xs x → Has (map f xs) (f x)
has_map f [] x h = absurd h
has_map f (y ∷ xs) x (inl e) = inl (ap f e)
has_map f (y ∷ xs) x (inr h) = inr (has_map f xs x h)
