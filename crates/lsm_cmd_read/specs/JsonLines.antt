-- A pair as a JSON object (RFC 8259) on a line: this project's rule.
use Rattle.std.specs.Prelude.{ℕ, if◌then◌else◌, List, [], ◌∷◌, ◌++◌, codes}
use Rattle.std.specs.Str.{is_utf8}
use Rattle.base64.specs.Engines.{standard}
use Rattle.base64.specs.GeneralPurpose.{encode_of}
use Rattle.json.specs.Json.{Json, Members, member, no_members, object, string}
use Rattle.json.specs.Print.{print}
use Rattle.json.specs.Token.{Token}
use Rattle.json.specs.Tree.{json_tokens}
use Rattle.lsm_model.specs.Scanning.{Pair}

-- Bytes as a member in front of others: the characters that they are in UTF-8; and where they are
-- none, their base64 (RFC 4648), under another name.
abbrev pub bytes_member : (name : List ℕ) → List ℕ → Members → Members
bytes_member name bytes more =
    if is_utf8 bytes then member name (string bytes) more
    else member (name ++ codes "_base64") (string (encode_of standard bytes)) more

-- `{"key":"..","value":".."}`
abbrev pub pair_object : Pair → Json
pair_object p = object (bytes_member (codes "key") p.0
    (bytes_member (codes "value") p.1 no_members))

unfoldable pub json_line : Pair → List ℕ
json_line p = print (json_tokens (pair_object p)) ++ (10 ∷ [])

-- ---- how the code writes it

-- the tokens of a member
abbrev pub bytes_tokens : (name other : List ℕ) → List ℕ → List Token
bytes_tokens name other bytes =
    if is_utf8 bytes then Token.key name ∷ Token.string bytes ∷ []
    else Token.key other ∷ Token.string (encode_of standard bytes) ∷ []
