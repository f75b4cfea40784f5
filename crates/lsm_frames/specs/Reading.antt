-- Reading from the front of bytes: a field and what follows it, or none where no field stands
-- there.
use Rattle.std.specs.Prelude.{ℕ, zero, suc, List, [], ◌∷◌, length, take, drop, Option, Some, None}
use Rattle.std.specs.Prelude.{nat_lt, if◌then◌else◌}
use Rattle.std.specs.Int.{Width, w32, w64, byte_len, from_le_bytes}
use Rattle.lsm_frames.specs.declared.when.When.{When}
use Rattle.lsm_frames.specs.declared.when.When.TheVariants.{Now, Snapshot}
use Rattle.lsm_frames.specs.Requests.{Written}
use Rattle.lsm_frames.specs.Answers.{Pair}

infixl 10 ◌>>=◌
abbrev pub ◌>>=◌ : {A B : Type 0} → Option A → (A → Option B) → Option B
None >>= f = None
(Some x) >>= f = f x

abbrev pub Read : Type 0 → Type 0
Read A = List ℕ → Option (A × List ℕ)

abbrev pub number_at : Width → Read ℕ
number_at w bytes = if nat_lt (length bytes) (byte_len w) then None
    else Some (from_le_bytes w (take (byte_len w) bytes), drop (byte_len w) bytes)

unfoldable pub text_at : Read (List ℕ)
text_at bytes = number_at w32 bytes >>= λ n. if nat_lt (length n.1) n.0 then None
    else Some (take n.0 n.1, drop n.0 n.1)

unfoldable pub optional_at : Read (Option (List ℕ))
optional_at [] = None
optional_at (zero ∷ bytes) = Some (None, bytes)
optional_at (suc zero ∷ bytes) = text_at bytes >>= λ t. Some (Some t.0, t.1)
optional_at (suc (suc b) ∷ bytes) = None

unfoldable pub when_at : Read When
when_at [] = None
when_at (zero ∷ bytes) = Some (Now, bytes)
when_at (suc zero ∷ bytes) = number_at w64 bytes >>= λ n. Some (Snapshot n.0, n.1)
when_at (suc (suc b) ∷ bytes) = None

unfoldable pub written_at : Read Written
written_at [] = None
written_at (zero ∷ bytes) = text_at bytes >>= λ k. Some (record { key = k.0; value = None }, k.1)
written_at (suc zero ∷ bytes) =
    text_at bytes >>= λ k. text_at k.1 >>= λ v. Some (record { key = k.0; value = Some v.0 }, v.1)
written_at (suc (suc b) ∷ bytes) = None

unfoldable pub pair_at : Read Pair
pair_at bytes = text_at bytes >>= λ k. text_at k.1 >>= λ v.
    Some (record { key = k.0; value = v.0 }, v.1)

-- fields one after another up to the end of the bytes, in at most so many steps
unfoldable pub items_by : {A : Type 0} → Read A → ℕ → List ℕ → Option (List A)
items_by read n [] = Some []
items_by read zero (b ∷ bytes) = None
items_by read (suc n) (b ∷ bytes) =
    read (b ∷ bytes) >>= λ x. items_by read n x.1 >>= λ xs. Some (x.0 ∷ xs)

-- the fields that the bytes are
abbrev pub items_in : {A : Type 0} → Read A → List ℕ → Option (List A)
items_in read bytes = items_by read (length bytes) bytes
