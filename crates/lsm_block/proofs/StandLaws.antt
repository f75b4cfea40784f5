-- A cursor that stands at an entry.
use Rattle.std.proofs.Common.{◌≡◌, ℕ, ◌+◌, ◌-◌, ◌<◌, ◌≤◌, Bool, true, false, min, List, ◌++◌, length, take, drop, Some, refl, sym, ap, ◌∙◌, subst, append_assoc, arith}
use Rattle.std.specs.Option.{option_map}
use Rattle.lsm_codec.specs.Keys.{is_internal, user_of, key_at}
use Rattle.lsm_codec.proofs.CallerLemmas.{IsBytes}
use Rattle.std.proofs.lemmas.List.{take_at, drop_at, take-take, length-take, length-take-le, length-append, take-append-drop}
use Rattle.lsm_block.specs.Reading.{Piece, entry_at}
use Rattle.lsm_block.specs.Walking.{seen}
use Rattle.lsm_block.specs.Held.{Kept, last_if, last_of}
use Rattle.lsm_block.specs.Standing.{bytes_before, EndsAt, SharesFront, user_of_last}
use Rattle.lsm_block.proofs.EntryLaws.{entry_cut, IsBytes-drop}
use Rattle.lsm_block.proofs.SeenLaws.{sees, seen_some}

-- the value of an entry that is read stands before what follows it
value_cut : (before text : List ℕ) (p : Piece) (after : List ℕ) → IsBytes text → entry_at before text ≡ Some (p, after) → (front : List ℕ) × (text ≡ front ++ (p.value ++ after))
value_cut before text p after fits e =
    let c = entry_cut before text p after fits e in (
      c.numbers.shared_text ++ (c.numbers.unshared_text ++ (c.numbers.length_text ++ c.new)),
      c.numbers.parts ∙ ap (λ (x : List ℕ). c.numbers.shared_text ++ (c.numbers.unshared_text ++ (c.numbers.length_text ++ x))) c.parts ∙ simp append_assoc,
    )

bytes_there : (front value after : List ℕ) → bytes_before (front ++ (value ++ after)) (length front + length value) (length value) ≡ value
bytes_there front value after =
    let k : length front + length value - length value ≡ length front = omega arith in
    rw k (ap (take (length value)) (drop_at front (value ++ after) (length front) refl) ∙ take_at value after (length value) refl)

ends_in : (text front value after : List ℕ) → text ≡ front ++ (value ++ after) → EndsAt text (length text - length after) value
ends_in text front value after e =
    let len : length text ≡ length front + length value + length after = ap (λ (xs : List ℕ). length xs) e ∙ length-append front (value ++ after) ∙ omega (arith, length-append value after) in
    let at : length text - length after ≡ length front + length value = omega arith in
    record {
      within = omega arith;
      inside = omega arith;
      there = sym (bytes_there front value after) ∙ ap (λ (xs : List ℕ). bytes_before xs (length front + length value) (length value)) (sym e) ∙ ap (λ (n : ℕ). bytes_before text n (length value)) (sym at);
    }

-- a step that reads an entry at an offset ends behind its value
pub read_ends : (text before : List ℕ) (offset shared : ℕ) (key value after : List ℕ) → IsBytes text → offset < length text
    → Some (sees shared key value after) ≡ option_map seen (entry_at before (drop offset text)) → EndsAt text (length text - length after) value
read_ends text before offset shared key value after fits lt e =
    let s = seen_some (entry_at before (drop offset text)) shared key value after e in
    let cut = value_cut before (drop offset text) s.piece after (IsBytes-drop offset text fits) s.is in
    let front = take offset text ++ cut.0 in
    let whole : text ≡ front ++ (s.piece.value ++ after) = sym (take-append-drop offset text) ∙ ap (λ (x : List ℕ). take offset text ++ x) cut.1 ∙ simp append_assoc in
    subst (λ (v : List ℕ). EndsAt text (length text - length after) v) s.value_is (ends_in text front s.piece.value after whole)

-- ---- how many bytes are those of the key before

-- a key that is put together has those bytes of the one before it
pub shares_joined : (shared : ℕ) (before own : List ℕ) → shared ≤ length before → SharesFront shared before (take shared before ++ own)
shares_joined shared before own within =
    let len : length (take shared before) ≡ shared = length-take-le shared before within in
    record {
      same = sym (take_at (take shared before) own shared len);
      first = within;
      second = omega (arith, len, length-append (take shared before) own);
    }

-- where keys have bytes in common, their user keys have them as far as they go
shares_users : (shared n : ℕ) (a b : List ℕ) → SharesFront shared a b → n ≤ shared → n ≤ length a - 8 → n ≤ length b - 8 → SharesFront n (user_of a) (user_of b)
shares_users shared n a b s within in_a in_b = record {
  same = take-take n (length a - 8) a in_a ∙ (sym (take-take n shared a within) ∙ ap (take n) s.same ∙ take-take n shared b within) ∙ sym (take-take n (length b - 8) b in_b);
  first = omega (arith, in_a, length-take (length a - 8) a);
  second = omega (arith, in_b, length-take (length b - 8) b);
}

-- the user key of bytes that are kept
user_kept : (bytes : List ℕ) → Kept (last_of bytes) bytes → user_of_last (last_of bytes) ≡ user_of bytes
unfolding last_of key_at
user_kept bytes kept = by_test (is_internal bytes) kept
  where
    by_test : (b : Bool) → Kept (last_if b bytes) bytes → user_of_last (last_if b bytes) ≡ user_of bytes
    by_test true kept = refl
    by_test false kept = sym (ap user_of kept)

pub shares_kept : (shared n : ℕ) (a b : List ℕ) → SharesFront shared a b → Kept (last_of a) a → Kept (last_of b) b → n ≡ min (min shared (length a - 8)) (length b - 8)
    → SharesFront n (user_of_last (last_of a)) (user_of_last (last_of b))
shares_kept shared n a b s kept_a kept_b is =
    rw (user_kept a kept_a, user_kept b kept_b) (shares_users shared n a b s (omega (arith, is)) (omega (arith, is)) (omega (arith, is)))
