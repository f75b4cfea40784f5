-- Reading a text list of entries from left to right.
use Rattle.std.specs.Prelude.{◌≡◌, ℕ, suc, ◌+◌, ◌-◌, ◌*◌, ◌^◌, ◌==◌, ◌&&◌, nat_lt, nat_le, Bool}
use Rattle.std.specs.Prelude.{true, false, cond, if◌then◌else◌, List, [], ◌∷◌, ◌++◌, length, codes}
use Rattle.std.specs.Prelude.{Option, Some, None, Result, Ok, Err}
use Rattle.std.specs.Ordering.{is_lt}
use Rattle.std.specs.Str.{bytes_eq}
use Rattle.hex.specs.Hex.{decode_of}
use Rattle.hex.specs.declared.error.FromHexError.{FromHexError}
use Rattle.lsm_codec.specs.declared.kind.Kind.{Kind}
use Rattle.lsm_codec.specs.declared.kind.Kind.TheVariants.{Deletion, Value}
use Rattle.lsm_codec.specs.Entries.{Entry, entry_cmp}
use Rattle.lsm_batch.specs.Limits.{most_key, most_value}
use Rattle.lsm_text.specs.EntryList.{lines_of}

infixl 10 ◌>>=◌
abbrev pub ◌>>=◌ : {A B : Type 0} → Option A → (A → Option B) → Option B
None >>= f = None
(Some x) >>= f = f x

abbrev pub behind : List ℕ → Option (List ℕ × List ℕ) → Option (List ℕ × List ℕ)
behind front None = None
behind front (Some parts) = Some (front ++ parts.0, parts.1)

-- what stands before the first separator, and what stands after it
unfoldable pub parts_at : ℕ → List ℕ → Option (List ℕ × List ℕ)
parts_at separator [] = None
parts_at separator (c ∷ cs) = cond (c
    == separator) (Some ([], cs)) (behind (c ∷ []) (parts_at separator cs))

-- some bytes, at most so many
abbrev pub few_of : ℕ → Result (List ℕ) FromHexError → Option (List ℕ)
few_of most (Err e) = None
few_of most (Ok []) = None
few_of most (Ok (b ∷ bs)) = if nat_le (length (b ∷ bs)) most then Some (b ∷ bs) else None

unfoldable pub bytes_at : ℕ → List ℕ → Option (List ℕ)
bytes_at most word = if bytes_eq word (codes ".") then Some [] else few_of most (decode_of word)

-- the number that the digits write when they follow those of n, where it stays below 2 ^ 56
unfoldable pub digits_at : ℕ → List ℕ → Option ℕ
digits_at n [] = Some n
digits_at n (c ∷ cs) =
    if nat_le 48 c && nat_le c 57 && nat_lt (n * 10 + (c - 48)) (2 ^ 56)
    then digits_at (n * 10 + (c - 48)) cs else None

unfoldable pub sequence_at : List ℕ → Option ℕ
sequence_at word = if nat_lt 0 (length word) && nat_le (length word) 20 then digits_at 0 word
    else None

abbrev pub put_at : List ℕ × List ℕ → Option (Kind × List ℕ)
put_at parts = if bytes_eq parts.0 (codes "put")
    then (bytes_at most_value parts.1 >>= (λ value. Some (Value, value))) else None

unfoldable pub action_at : List ℕ → Option (Kind × List ℕ)
action_at action = if bytes_eq action (codes "del") then Some (Deletion, [])
    else (parts_at 32 action >>= put_at)

unfoldable pub entry_at : List ℕ → Option Entry
entry_at line = do
  key ← parts_at 32 line
  sequence ← parts_at 32 key.1
  user ← bytes_at most_key key.0
  seq ← sequence_at sequence.0
  act ← action_at sequence.1
  Some (record { user = user; seq = seq; kind = act.0; value = act.1 })

-- the entry may stand after the one before it, if there is one
abbrev pub may_follow : Option Entry → Entry → Bool
may_follow None e = true
may_follow (Some before) e = is_lt (entry_cmp before e)

abbrev pub in_front : Entry → Result (List Entry) ℕ → Result (List Entry) ℕ
in_front e (Ok es) = Ok (e ∷ es)
in_front e (Err i) = Err i

-- the entry of line i and those that come later, or that line's number
abbrev pub entries_on : ℕ → Option Entry → (Entry → Result (List Entry) ℕ) → Option Entry
    → Result (List Entry) ℕ
entries_on i before later None = Err i
entries_on i before later (Some e) = if may_follow before e then in_front e (later e) else Err i

-- the entries of the lines after the first i, or the number of the first bad line
unfoldable pub entries_at : ℕ → Option Entry → List (List ℕ) → Result (List Entry) ℕ
entries_at i before [] = Ok []
entries_at i before (l ∷ ls) =
    entries_on (suc i) before (λ e. entries_at (suc i) (Some e) ls) (entry_at l)

-- the entries of a text, or the number of its first bad line
abbrev pub list_at : List ℕ → Result (List Entry) ℕ
list_at text = entries_at 0 None (lines_of text)

-- entries in front of those that are still to be read, or of the bad line
abbrev pub joined : List Entry → Result (List Entry) ℕ → Result (List Entry) ℕ
joined front (Ok es) = Ok (front ++ es)
joined front (Err i) = Err i

-- the text begins with lines for these entries
abbrev pub BeginsWith : List ℕ → List Entry → Type 0
BeginsWith text entries = (rest : Result (List Entry) ℕ) × (list_at text ≡ joined entries rest)

-- a test that succeeded left what was read, and otherwise nothing is there to read
abbrev pub Reads : {A : Type 0} → Bool → A → Option A → Type 0
Reads true found o = o ≡ Some found
Reads false found o = o ≡ None
