-- A put as a JSON object (RFC 8259) on a line, `{"key":"..","value":".."}`: this project's rule.
use Rattle.std.specs.Prelude.{◌≡◌, ◌⊎◌, ℕ, if◌then◌else◌, List, [], ◌∷◌, ◌++◌, codes, Option, None}
use Rattle.std.specs.Prelude.{Some, Ok}
use Rattle.std.specs.Str.{IsUtf8, is_utf8}
use Rattle.base64.specs.Engines.{standard}
use Rattle.base64.specs.GeneralPurpose.{decode_of, encode_of}
use Rattle.json.specs.Lex.{tokens}
use Rattle.json.specs.Print.{print}
use Rattle.json.specs.Token.{Token}
use Rattle.lsm_batch.specs.declared.write.Write.{Write}

-- The text of a member of this name spells bytes: it is these; or, under another name, it is base64
-- (RFC 4648) of them.
abbrev pub SpellsBytes : (name other : List ℕ) → (its text bytes : List ℕ) → Type 0
SpellsBytes name other its text bytes =
    ((its ≡ name) × (text ≡ bytes)) ⊎ ((its ≡ other) × (decode_of standard text ≡ Ok bytes))

-- the new value of a key
abbrev pub SpellsValue : (its text : List ℕ) → Option (List ℕ) → Type 0
SpellsValue its text None = ⊥
SpellsValue its text (Some value) =
    SpellsBytes (codes "value") (codes "value_base64") its text value

-- Two members spell a put: the first one its key, the second one its value.
abbrev pub SpellsPut : (first text second other : List ℕ) → Write → Type 0
SpellsPut first text second other w =
    SpellsBytes (codes "key") (codes "key_base64") first text w.key
    × SpellsValue second other w.value

-- the tokens of an object of two members, which are strings
abbrev pub object_of : (first text second other : List ℕ) → List Token
object_of first text second other = Token.begin_object ∷ Token.key first ∷ Token.string text
    ∷ Token.key second ∷ Token.string other ∷ Token.end_object ∷ []

-- The text is an object that spells a put, and nothing else.
pub record IsPutText (text : List ℕ) (w : Write) : Type 0 where
  pub first : List ℕ
  pub key : List ℕ
  pub second : List ℕ
  pub value : List ℕ
  pub object : tokens text ≡ object_of first key second value
  pub spelled : SpellsPut first key second value w

-- The line is such an object, in UTF-8.
abbrev pub IsPutObject : List ℕ → Write → Type 0
IsPutObject line w = IsUtf8 line × IsPutText line w

-- ---- what is printed of a pair

-- the tokens of a member: bytes that are UTF-8 as the characters that they are, others in base64
abbrev pub member_of : (name other : List ℕ) → List ℕ → List Token
member_of name other bytes =
    if is_utf8 bytes then Token.key name ∷ Token.string bytes ∷ []
    else Token.key other ∷ Token.string (encode_of standard bytes) ∷ []

-- the object of a key and a value, as `lsm scan --json` prints it before its newline
abbrev pub object_text : (key value : List ℕ) → List ℕ
object_text key value = print (Token.begin_object ∷
    (member_of (codes "key") (codes "key_base64") key
    ++ (member_of (codes "value") (codes "value_base64") value ++ Token.end_object ∷ [])))

-- ---- how the code reads it

-- another token comes first, or none
abbrev pub BeginsNo : Token → List Token → Type 0
BeginsNo t ts = (rest : List Token) → ts ≡ t ∷ rest → ⊥

abbrev pub HasNoText : List Token → Type 0
HasNoText ts = (text : List ℕ) → BeginsNo (Token.string text) ts

abbrev pub HasNoMember : List Token → Type 0
HasNoMember ts = (name text : List ℕ) (rest : List Token)
    → ts ≡ Token.key name ∷ Token.string text ∷ rest → ⊥

abbrev pub IsNoObject : List Token → Type 0
IsNoObject ts =
    (first text second other : List ℕ) → ts ≡ object_of first text second other → ⊥
