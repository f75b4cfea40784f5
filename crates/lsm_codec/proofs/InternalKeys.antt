-- Which bytes are an internal key, and which key they are.
use Rattle.std.proofs.Common.{◌≡◌, ℕ, zero, suc, ◌+◌, ◌-◌, ◌*◌, ◌/◌, ◌%◌, ◌^◌, ◌<◌, ◌≤◌, Bool, true, leb, List, ◌++◌, length, get_or, take, drop, refl, sym, ap, ◌∙◌, subst, arith}
use Rattle.std.specs.Prelude.{◌↔◌, ◌&&◌}
use Rattle.std.specs.Int.{w64, to_le_bytes, from_le_bytes}
use Rattle.std.proofs.lemmas.Nat.{le_bytes_8, from_le_bytes-to_le_bytes_8}
use Rattle.std.proofs.lemmas.Bool.{le-leb, leb-true, and_parts}
use Rattle.std.proofs.lemmas.List.{take-append-drop, length-drop, get_or-drop, get_or-append-add}
use Rattle.lsm_codec.specs.declared.kind.Kind.{Kind}
use Rattle.lsm_codec.specs.declared.kind.Kind.TheVariants.{Deletion, Value}
use Rattle.lsm_codec.specs.Keys.{InternalKey, IsKey, kind_number, packed, key_bytes, is_internal, user_of, tail_of, kind_at, key_at}
use Rattle.lsm_codec.proofs.Newest.{kind_number_le}
use Rattle.lsm_codec.proofs.Varints.{IsBytes}
use Rattle.lsm_codec.proofs.KeyBytes.{packed-fits, length-key_bytes, take-key_bytes, drop-key_bytes}

kind_again : (kind : Kind) → kind_at (kind_number kind) ≡ kind
kind_again Deletion = refl
kind_again Value = refl

kind_number_at : (n : ℕ) → n ≤ 1 → kind_number (kind_at n) ≡ n
kind_number_at zero h = refl
kind_number_at (suc n) h = omega arith

-- ---- the bytes of a key are that key

tail_again : (k : InternalKey) → k.seq < 2 ^ 56 → tail_of (key_bytes k) ≡ packed k
tail_again k h = ap (from_le_bytes w64) (drop-key_bytes k) ∙ from_le_bytes-to_le_bytes_8 (packed k) (packed-fits k h)

pub key_again : (k : InternalKey) → k.seq < 2 ^ 56 → key_at (key_bytes k) ≡ k
unfolding key_at
key_again k h =
    let u = take-key_bytes k in
    let t = tail_again k h in
    let least = kind_number_le k.kind in
    let seq : packed k / 256 ≡ k.seq = omega (arith, least) in
    let low : packed k % 256 ≡ kind_number k.kind = omega (arith, least) in
    let kind : kind_at (packed k % 256) ≡ k.kind = ap kind_at low ∙ kind_again k.kind in
    rw (u, t, seq, kind) refl

pub internal_again : (k : InternalKey) → is_internal (key_bytes k) ≡ true
unfolding is_internal
internal_again k =
    let long : leb 8 (length (key_bytes k)) ≡ true = le-leb _ _ (omega (arith, length-key_bytes k)) in
    let at : length (key_bytes k) - 8 ≡ length k.user + 0 = omega (arith, length-key_bytes k) in
    let first : get_or (key_bytes k) (length (key_bytes k) - 8) 0 ≡ packed k % 256 =
    ap (λ (n : ℕ). get_or (key_bytes k) n 0) at ∙ get_or-append-add k.user (to_le_bytes w64 (packed k)) 0 0 in
    let low : leb (get_or (key_bytes k) (length (key_bytes k) - 8) 0) 1 ≡ true = le-leb _ _ (omega (arith, first, kind_number_le k.kind)) in
    rw (long, low) refl

pub internal_of : (bytes : List ℕ) (k : InternalKey) → IsKey bytes k → is_internal bytes ≡ true
internal_of bytes k h = ap is_internal h.bytes_are ∙ internal_again k

-- ---- the key that bytes are has these bytes

-- what bytes of an internal key are
pub record IsInternal (bytes : List ℕ) : Type 0 where
  pub long : 8 ≤ length bytes
  pub spelled : key_bytes (key_at bytes) ≡ bytes
  pub fits : (key_at bytes).seq < 2 ^ 56
  pub packed_is : packed (key_at bytes) ≡ tail_of bytes

pub internal_takes : (bytes : List ℕ) → IsBytes bytes → is_internal bytes ≡ true → IsInternal bytes
unfolding is_internal key_at
internal_takes bytes fits h =
    let both = and_parts (leb 8 (length bytes)) (leb (get_or bytes (length bytes - 8) 0) 1) h in
    let long : 8 ≤ length bytes = leb-true _ _ both.0 in
    let front = length bytes - 8 in
    let tail = drop front bytes in
    let least : get_or bytes front 0 ≤ 1 = leb-true _ _ both.1 in
    let tail_fits : IsBytes tail = λ i. rw get_or-drop (fits (front + i)) in
    let first : get_or tail 0 0 ≡ get_or bytes front 0 = rw get_or-drop (ap (λ (n : ℕ). get_or bytes n 0) (omega arith)) in
    let len : length tail ≡ 8 = omega (arith, length-drop front bytes, long) in
    let n = from_le_bytes w64 tail in
    let low : n % 256 ≡ get_or tail 0 0 = omega (arith, tail_fits 0) in
    let kind : kind_number (kind_at (n % 256)) ≡ n % 256 = kind_number_at (n % 256) (omega (arith, low, first, least)) in
    let whole : n / 256 * 256 + kind_number (kind_at (n % 256)) ≡ n = omega (arith, kind) in
    let back : to_le_bytes w64 n ≡ tail = le_bytes_8 tail n len tail_fits refl in
    let below : n < 2 ^ 64 = omega (arith, tail_fits 0, tail_fits 1, tail_fits 2, tail_fits 3, tail_fits 4, tail_fits 5, tail_fits 6, tail_fits 7) in
    record {
      long = long;
      spelled = ap (λ (x : List ℕ). take front bytes ++ x) (ap (to_le_bytes w64) whole ∙ back) ∙ take-append-drop front bytes;
      fits = omega (arith, below);
      packed_is = whole;
    }

pub is_key_at : (bytes : List ℕ) → IsBytes bytes → is_internal bytes ≡ true → IsKey bytes (key_at bytes)
is_key_at bytes fits h = let t = internal_takes bytes fits h in record { bytes_are = sym t.spelled; fits = t.fits }

pub internal_long : (key : List ℕ) → is_internal key ≡ true → 8 ≤ length key
unfolding is_internal
internal_long key h = leb-true _ _ (and_parts (leb 8 (length key)) (leb (get_or key (length key - 8) 0) 1) h).0

-- Bytes are internal just where some key is spelled so.
pub internal_is_some_key : (bytes : List ℕ) → IsBytes bytes → is_internal bytes ≡ true ↔ ((key : InternalKey) × IsKey bytes key)
internal_is_some_key bytes fits = (λ h. (key_at bytes, is_key_at bytes fits h), λ k. internal_of bytes k.0 k.1)

-- the same, of eight bytes at least
pub kind_is_some_key : (bytes : List ℕ) → IsBytes bytes → 8 ≤ length bytes → leb (get_or bytes (length bytes - 8) 0) 1 ≡ true ↔ ((key : InternalKey) × IsKey bytes key)
unfolding is_internal
kind_is_some_key bytes fits long =
    let yes : leb 8 (length bytes) ≡ true = le-leb _ _ long in
    let law = internal_is_some_key bytes fits in
    subst (λ (b : Bool). (b && leb (get_or bytes (length bytes - 8) 0) 1) ≡ true ↔ ((key : InternalKey) × IsKey bytes key)) yes law

-- ---- the parts of a key

-- the bytes of a key have its parts
pub parts_of_key : (bytes : List ℕ) (key : InternalKey) → IsKey bytes key → (user_of bytes ≡ key.user) × (tail_of bytes ≡ packed key)
parts_of_key bytes key is =
    (ap user_of is.bytes_are ∙ take-key_bytes key, ap tail_of is.bytes_are ∙ tail_again key is.fits)

-- and are not fewer than eight
pub key_long : (bytes : List ℕ) (key : InternalKey) → IsKey bytes key → 8 ≤ length bytes
key_long bytes key is = omega (arith, ap (λ (x : List ℕ). length x) is.bytes_are, length-key_bytes key)
