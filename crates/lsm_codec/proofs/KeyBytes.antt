-- The bytes of an internal key split in one way.
use Rattle.std.proofs.Common.{◌≡◌, ℕ, ◌+◌, ◌-◌, ◌^◌, ◌<◌, List, length, take, drop, sym, ap, ◌∙◌, arith}
use Rattle.std.specs.Int.{w64, to_le_bytes, from_le_bytes}
use Rattle.std.proofs.lemmas.Nat.{from_le_bytes-to_le_bytes_8}
use Rattle.std.proofs.lemmas.List.{length-append, take_at}
use Rattle.std.proofs.Math.Seq.{drop-append_seam}
use Rattle.lsm_codec.specs.Keys.{InternalKey, packed, key_bytes, IsKey}
use Rattle.lsm_codec.proofs.Newest.{kind_number_le}
use Rattle.lsm_codec.proofs.KeyOrder.{key_is}

pub packed-fits : (k : InternalKey) → k.seq < 2 ^ 56 → packed k < 2 ^ 64
packed-fits k fits = omega (arith, fits, kind_number_le k.kind)

pub length-key_bytes : (k : InternalKey) → length (key_bytes k) ≡ length k.user + 8
length-key_bytes k = length-append k.user (to_le_bytes w64 (packed k))

-- the user key is all but the last eight bytes
pub take-key_bytes : (k : InternalKey) → take (length (key_bytes k) - 8) (key_bytes k) ≡ k.user
take-key_bytes k = take_at k.user (to_le_bytes w64 (packed k)) (length (key_bytes k) - 8) (omega (arith, length-key_bytes k))

-- and the last eight are the sequence and the kind
pub drop-key_bytes : (k : InternalKey) → drop (length (key_bytes k) - 8) (key_bytes k) ≡ to_le_bytes w64 (packed k)
drop-key_bytes k =
    let n : length (key_bytes k) - 8 ≡ length k.user = omega (arith, length-key_bytes k) in
    rw n (drop-append_seam k.user (to_le_bytes w64 (packed k)))

pub key_bytes-injective : (a b : InternalKey) → a.seq < 2 ^ 56 → b.seq < 2 ^ 56 → key_bytes a ≡ key_bytes b → a ≡ b
key_bytes-injective a b a_fits b_fits same =
    let users : a.user ≡ b.user = sym (take-key_bytes a) ∙ ap (λ (x : List ℕ). take (length x - 8) x) same ∙ take-key_bytes b in
    let tails : to_le_bytes w64 (packed a) ≡ to_le_bytes w64 (packed b) = sym (drop-key_bytes a) ∙ ap (λ (x : List ℕ). drop (length x - 8) x) same ∙ drop-key_bytes b in
    let numbers : packed a ≡ packed b = sym (from_le_bytes-to_le_bytes_8 (packed a) (packed-fits a a_fits)) ∙ ap (from_le_bytes w64) tails ∙ from_le_bytes-to_le_bytes_8 (packed b) (packed-fits b b_fits) in
    key_is a b users numbers

-- bytes are at most one key
pub IsKey-unique : (bytes : List ℕ) (a b : InternalKey) → IsKey bytes a → IsKey bytes b → a ≡ b
IsKey-unique bytes a b is_a is_b = key_bytes-injective a b is_a.fits is_b.fits (sym is_a.bytes_are ∙ is_b.bytes_are)
