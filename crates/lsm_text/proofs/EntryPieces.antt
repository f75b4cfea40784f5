-- The pieces of a line, and the lines of a list.
use Rattle.std.proofs.Common.{◌≡◌, ℕ, ◌/◌, ◌%◌, List, [], ◌∷◌, ◌++◌, decimal, refl, sym, ap, append-nil}
use Rattle.std.specs.Prelude.{slice_index}
use Rattle.std.proofs.lemmas.Grind.{flat_map-append}
use Rattle.hex.specs.Hex.{encode_lower, encode_with, lower_digits}
use Rattle.lsm_codec.specs.Entries.{Entry}
use Rattle.lsm_codec.specs.declared.kind.Kind.{Kind}
use Rattle.lsm_codec.specs.declared.kind.Kind.TheVariants.{Value}
use Rattle.lsm_text.specs.EntryPrinting.{action_line, bytes_word, entry_line, entry_list}

-- ---- hex digits

pub digits_none : encode_lower [] ≡ []
unfolding encode_with
digits_none = refl

pub digits_split : (xs ys : List ℕ) → encode_lower (xs ++ ys) ≡ encode_lower xs ++ encode_lower ys
unfolding encode_with
digits_split [] ys = refl
digits_split (x ∷ xs) ys = ap (λ (l : List ℕ). slice_index lower_digits (x / 16) ∷ slice_index lower_digits (x % 16) ∷ l) (digits_split xs ys)

-- ---- a line

pub put_line : (value : List ℕ) → (32 ∷ 112 ∷ 117 ∷ 116 ∷ 32 ∷ []) ++ (bytes_word value ++ (10 ∷ [])) ≡ action_line Value value
put_line value = refl

pub line_parts : (user : List ℕ) (seq : ℕ) (kind : Kind) (value : List ℕ)
    → bytes_word user ++ ((32 ∷ []) ++ (decimal seq ++ action_line kind value)) ≡ entry_line (record { user = user; seq = seq; kind = kind; value = value })
unfolding entry_line
line_parts user seq kind value = refl

-- ---- a list

pub list_none : entry_list [] ≡ []
unfolding entry_list
list_none = refl

pub list_one : (e : Entry) → entry_line e ≡ entry_list (e ∷ [])
unfolding entry_list
list_one e = sym (append-nil (entry_line e))

pub list_split : (xs ys : List Entry) → entry_list (xs ++ ys) ≡ entry_list xs ++ entry_list ys
unfolding entry_list
list_split xs ys = flat_map-append entry_line xs ys
