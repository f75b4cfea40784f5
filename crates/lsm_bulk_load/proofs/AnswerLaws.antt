-- What reads give after batches that came in.
use Rattle.std.proofs.Common.{◌≡◌, ℕ, suc, ◌+◌, ◌<◌, ◌≤◌, Bool, true, false, cond, List, [], ◌∷◌, ◌++◌, length, Option, Some, None, refl, sym, ap, ◌∙◌, subst, inl, inr, arith}
use Rattle.std.specs.Prelude.{nat_lt}
use Rattle.std.specs.Option.{option_or}
use Rattle.std.specs.Str.{bytes_eq}
use Rattle.std.proofs.lemmas.Bool.{cases_Bool, ltb-true, lt-ltb}
use Rattle.lsm_codec.specs.Lists.{Has}
use Rattle.lsm_codec.specs.Keys.{UserKey}
use Rattle.lsm_codec.specs.Entries.{Entry, answer, first_of_two, is_allowed, newest, stamp, value_in}
use Rattle.lsm_codec.proofs.CallerLemmas.{Finds, IsAllowed, allowed_from, allowed_says, has_cases, key_from_test, newest_finds, stamp_lt, test_from_key}
use Rattle.lsm_batch.specs.Batches.{entries_from, written_at}
use Rattle.lsm_batch.specs.declared.write.Write.{Write}
use Rattle.lsm_lines.specs.Cuts.{IsCut, joined}
use Rattle.lsm_lines.specs.LastWrites.{last_write, write_at}
use Rattle.lsm_lines.proofs.CallerLemmas.{cut_last, last_write-append}
use Rattle.lsm_bulk_load.specs.Coming.{all_after, last_after, over}

-- no entry is above this sequence
abbrev pub IsUpto : ℕ → List Entry → Type 0
IsUpto last es = (e : Entry) → Has es e → e.seq ≤ last

-- ---- one entry in front

-- one of another key
passes : (k : UserKey) (s : ℕ) (e : Entry) (es : List Entry) → (e.user ≡ k → ⊥) → newest k s (e ∷ es) ≡ newest k s es
passes k s e es other = at (is_allowed k s e) refl
  where
    at : (b : Bool) → is_allowed k s e ≡ b → cond b (Some (first_of_two e (newest k s es))) (newest k s es) ≡ newest k s es
    at true t = absurd (other (allowed_says k s e t).key)
    at false t = refl

-- one that is older than the newest of the others
stays : (k : UserKey) (s : ℕ) (e f : Entry) (es : List Entry) → newest k s es ≡ Some f → e.seq < f.seq → newest k s (e ∷ es) ≡ Some f
stays k s e f es is older = at (is_allowed k s e) (newest k s es) is
  where
    first : (o : Option Entry) → o ≡ Some f → first_of_two e o ≡ f
    first None p = absurd (cc p)
    first (Some g) p =
        let same : g ≡ f = (let q : Some g ≡ Some f = p in cc) in
        let less : nat_lt (stamp e) (stamp g) ≡ true = lt-ltb (stamp e) (stamp g) (subst (λ (x : Entry). stamp e < stamp x) (sym same) (stamp_lt e f older)) in
        rw less same

    at : (b : Bool) → (o : Option Entry) → o ≡ Some f → cond b (Some (first_of_two e o)) o ≡ Some f
    at true o p = ap Some (first o p)
    at false o p = p

-- one that is newer than all others
not_later : (e f : Entry) → f.seq < e.seq → (b : Bool) → nat_lt (stamp e) (stamp f) ≡ b → cond b f e ≡ e
not_later e f older true t = absurd (omega (arith, ltb-true (stamp e) (stamp f) t, stamp_lt f e older))
not_later e f older false t = refl

in_front : (k : UserKey) (s : ℕ) (e : Entry) (es : List Entry) → ((f : Entry) → Has es f → f.seq < e.seq) → (o : Option Entry) → Finds es k s o → first_of_two e o ≡ e
in_front k s e es newer None n = refl
in_front k s e es newer (Some f) n = not_later e f (newer f n.here) (nat_lt (stamp e) (stamp f)) refl

leads : (k : UserKey) (s : ℕ) (e : Entry) (rest history : List Entry) → IsAllowed k s e → newest k s rest ≡ newest k s history → ((f : Entry) → Has history f → f.seq < e.seq)
    → newest k s (e ∷ rest) ≡ Some e
leads k s e rest history allowed is newer =
    let test : is_allowed k s e ≡ true = allowed_from k s e allowed in
    rw test (ap (λ (o : Option Entry). Some (first_of_two e o)) is ∙ ap Some (in_front k s e history newer (newest k s history) (newest_finds k s history)))

-- ---- a batch in front

-- what is found of a key: its last write in the batch, under one of these sequences, or what was found before
abbrev pub FindsOver : UserKey → ℕ → ℕ → List Entry → Option Entry → Option Write → Type 0
FindsOver k s n history found None = found ≡ newest k s history
FindsOver k s n history found (Some w) = (m : ℕ) × (found ≡ Some (written_at m w)) × (n ≤ m)

here : (key : UserKey) (w : Write) → w.key ≡ key → write_at key w ≡ Some w
here key w e = let t = test_from_key w.key key e in rw t refl

elsewhere : (key : UserKey) (w : Write) → bytes_eq w.key key ≡ false → write_at key w ≡ None
elsewhere key w f = rw f refl

other_key : (a b : UserKey) → bytes_eq a b ≡ false → a ≡ b → ⊥
other_key a b f e = let bad : true ≡ false = sym (test_from_key a b e) ∙ f in absurd (cc bad)

-- the write in front is the only one of its key, or of another
first_over : (k : UserKey) (s n : ℕ) (w : Write) (rest history : List Entry) → ((e : Entry) → Has history e → e.seq < n) → n ≤ s → newest k s rest ≡ newest k s history
    → FindsOver k s n history (newest k s (written_at n w ∷ rest)) (write_at k w)
first_over k s n w rest history older within is = elim (cases_Bool (bytes_eq w.key k)) [
  | inl t ↦
      let same = key_from_test w.key k t in
      let found : FindsOver k s n history (newest k s (written_at n w ∷ rest)) (Some w) =
      (n, leads k s (written_at n w) rest history (record { key = same; seq = within }) is older, omega arith) in
      subst (λ (o : Option Write). FindsOver k s n history (newest k s (written_at n w ∷ rest)) o) (sym (here k w same)) found
  | inr f ↦
      let found : FindsOver k s n history (newest k s (written_at n w ∷ rest)) None = passes k s (written_at n w) rest (other_key w.key k f) ∙ is in
      subst (λ (o : Option Write). FindsOver k s n history (newest k s (written_at n w ∷ rest)) o) (sym (elsewhere k w f)) found
]

one_over : (k : UserKey) (s n : ℕ) (w : Write) (rest history : List Entry) (o : Option Write) → ((e : Entry) → Has history e → e.seq < n) → n ≤ s
    → FindsOver k s (suc n) history (newest k s rest) o → FindsOver k s n history (newest k s (written_at n w ∷ rest)) (option_or o (write_at k w))
one_over k s n w rest history (Some v) older within f = (f.0, stays k s (written_at n w) (written_at f.0 v) rest f.1 (omega (arith, f.2)), omega (arith, f.2))
one_over k s n w rest history None older within f = first_over k s n w rest history older within f

batch_over : (k : UserKey) (s n : ℕ) (b : List Write) (history : List Entry) → ((e : Entry) → Has history e → e.seq < n) → n + length b ≤ suc s
    → FindsOver k s n history (newest k s (entries_from n b ++ history)) (last_write k b)
batch_over k s n [] history older within = refl
batch_over k s n (w ∷ b) history older within =
    one_over k s n w (entries_from (suc n) b ++ history) history (last_write k b) older (omega (arith, within))
    (batch_over k s (suc n) b history (λ e h. omega (arith, older e h)) (omega (arith, within)))

-- ---- answers

shows : (m : ℕ) (w : Write) → value_in (Some (written_at m w)) ≡ w.value
shows m w = at w.value
  where
    at : (v : Option (List ℕ)) → value_in (Some (written_at m (record { key = w.key; value = v }))) ≡ v
    at None = refl
    at (Some x) = refl

found_shows : (k : UserKey) (s n : ℕ) (history : List Entry) (found : Option Entry) (o : Option Write) → FindsOver k s n history found o → value_in found ≡ over o (answer history k s)
found_shows k s n history found None f = ap value_in f
found_shows k s n history found (Some w) f = ap value_in f.1 ∙ shows f.0 w

one_answer : (k : UserKey) (s last : ℕ) (b : List Write) (history : List Entry) → IsUpto last history → last + length b ≤ s
    → answer (entries_from (suc last) b ++ history) k s ≡ over (last_write k b) (answer history k s)
one_answer k s last b history upto within =
    found_shows k s (suc last) history (newest k s (entries_from (suc last) b ++ history)) (last_write k b)
    (batch_over k s (suc last) b history (λ e h. omega (arith, upto e h)) (omega (arith, within)))

from_upto : (n : ℕ) (b : List Write) (e : Entry) → Has (entries_from n b) e → e.seq < n + length b
from_upto n [] e h = absurd h
from_upto n (w ∷ b) e (inl same) = subst (λ (x : Entry). x.seq < n + length (w ∷ b)) same (omega arith)
from_upto n (w ∷ b) e (inr h) = omega (arith, from_upto (suc n) b e h)

more_upto : (last : ℕ) (b : List Write) (history : List Entry) → IsUpto last history → IsUpto (last + length b) (entries_from (suc last) b ++ history)
more_upto last b history upto e h = elim (has_cases (entries_from (suc last) b) history e h) [
  | inl a ↦ omega (arith, from_upto (suc last) b e a)
  | inr a ↦ omega (arith, upto e a)
]

over_over : (a b : Option Write) (old : Option (List ℕ)) → over a (over b old) ≡ over (option_or a b) old
over_over None b old = refl
over_over (Some w) b old = refl

last_rises : (last : ℕ) (bs : List (List Write)) → last ≤ last_after last bs
last_rises last [] = omega arith
last_rises last (b ∷ bs) = omega (arith, last_rises (last + length b) bs)

all_answer : (k : UserKey) (s last : ℕ) (bs : List (List Write)) (history : List Entry) → IsUpto last history → last_after last bs ≤ s
    → answer (all_after last bs history) k s ≡ over (last_write k (joined bs)) (answer history k s)
all_answer k s last [] history upto within = refl
all_answer k s last (b ∷ bs) history upto within =
    all_answer k s (last + length b) bs (entries_from (suc last) b ++ history) (more_upto last b history upto) within
    ∙ ap (over (last_write k (joined bs))) (one_answer k s last b history upto (omega (arith, within, last_rises (last + length b) bs)))
    ∙ over_over (last_write k (joined bs)) (last_write k b) (answer history k s)
    ∙ ap (λ (o : Option Write). over o (answer history k s)) (sym (last_write-append k b (joined bs)))

-- each key shows its last write, or what it showed
pub cut_answer : (last s : ℕ) (history : List Entry) (ws : List Write) (batches : List (List Write)) (k : UserKey) → IsUpto last history → IsCut ws batches
    → last_after last batches ≤ s → answer (all_after last batches history) k s ≡ over (last_write k ws) (answer history k s)
cut_answer last s history ws batches k upto cut within =
    all_answer k s last batches history upto within ∙ ap (λ (o : Option Write). over o (answer history k s)) (cut_last ws batches cut k)
