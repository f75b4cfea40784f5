-- Pairs as JSON objects.
use Rattle.std.proofs.Common.{◌≡◌, ℕ, ◌≤◌, Bool, true, false, List, [], ◌∷◌, ◌++◌, Some, Result, Ok}
use Rattle.std.proofs.Common.{Err, refl, sym, ap, ◌∙◌, arith, append_assoc, length, length-append}
use Rattle.std.proofs.Common.{codes, subst}
use Rattle.std.specs.Prelude.{if◌then◌else◌, OnOk}
use Rattle.std.specs.Str.{IsUtf8, is_utf8}
use Rattle.std.proofs.lemmas.Str.{IsUtf8-from_is_utf8, is_utf8-from_IsUtf8}
use Rattle.std.proofs.lemmas.List.{append_cancel_right}
use Rattle.base64.specs.Engines.{standard}
use Rattle.base64.specs.GeneralPurpose.{IsBytes, decode_of, encode_of}
use Rattle.base64.proofs.EngineFacts.{decode_of-encode_of}
use Rattle.json.specs.Json.{Members, document, member, no_members, object, string}
use Rattle.json.specs.Print.{print}
use Rattle.json.specs.Token.{Token}
use Rattle.json.specs.Tree.{MembersHaveNumbers, json_tokens, members_depth, members_tokens}
use Rattle.json.proofs.Printed.Trees.{document-print}
use Rattle.lsm_model.specs.Scanning.{Pair}
use Rattle.lsm_cmd_read.specs.JsonLines.{bytes_member, bytes_tokens, json_line, pair_object}

-- ---- the tokens of an object

-- a member's tokens, by whether the bytes are UTF-8
member_tokens_of : (plain : Bool) (name other : List ℕ) (bytes coded : List ℕ) (more : Members)
    → members_tokens
    (if plain then member name (string bytes) more else member other (string coded) more)
    ≡ (if plain then Token.key name ∷ Token.string bytes ∷ [] else Token.key other ∷ Token.string
    coded ∷ []) ++ members_tokens more
member_tokens_of true name other bytes coded more = refl
member_tokens_of false name other bytes coded more = refl

pub member_tokens : (name bytes : List ℕ) (more : Members)
    → members_tokens (bytes_member name bytes more) ≡ bytes_tokens name (name ++ codes "_base64")
    bytes ++ members_tokens more
member_tokens name bytes more = member_tokens_of (is_utf8 bytes) name (name ++ codes "_base64")
    bytes (encode_of standard bytes) more

pub plain_tokens : (name other bytes : List ℕ) → IsUtf8 bytes
    → bytes_tokens name other bytes ≡ Token.key name ∷ Token.string bytes ∷ []
plain_tokens name other bytes utf8 = let test : is_utf8 bytes ≡ true =
    is_utf8-from_IsUtf8 bytes utf8 in rw test refl

by_test : (b : Bool) → (b ≡ true → ⊥) → b ≡ false
by_test true never = absurd (never refl)
by_test false never = refl

pub coded_tokens : (name other bytes : List ℕ) → (IsUtf8 bytes → ⊥)
    → bytes_tokens name other bytes ≡ Token.key other ∷ Token.string (encode_of standard bytes) ∷ []
coded_tokens name other bytes none =
    let test : is_utf8 bytes ≡ false =
    by_test (is_utf8 bytes) (λ e. none (IsUtf8-from_is_utf8 bytes e)) in rw test refl

-- a member that was written
pub plain_written : {T E : Type 0} (r : Result T E) (new old : List Token)
    (name other bytes text : List ℕ) → IsUtf8 bytes → text ≡ bytes
    → OnOk r (new ≡ old ++ (Token.key name ∷ Token.string text ∷ []))
    → OnOk r (new ≡ old ++ bytes_tokens name other bytes)
plain_written (Ok x) new old name other bytes text utf8 same is =
    is ∙ ap (λ (b : List ℕ). old ++ (Token.key name ∷ Token.string b ∷ [])) same
    ∙ ap (λ (ts : List Token). old ++ ts) (sym (plain_tokens name other bytes utf8))
plain_written (Err e) new old name other bytes text utf8 same is = tt

pub coded_written : {T E : Type 0} (r : Result T E) (new old : List Token)
    (name other bytes text : List ℕ) → (IsUtf8 bytes → ⊥)
    → text ≡ encode_of standard bytes
    → OnOk r (new ≡ old ++ (Token.key other ∷ Token.string text ∷ []))
    → OnOk r (new ≡ old ++ bytes_tokens name other bytes)
coded_written (Ok x) new old name other bytes text none same is =
    is ∙ ap (λ (b : List ℕ). old ++ (Token.key other ∷ Token.string b ∷ [])) same
    ∙ ap (λ (ts : List Token). old ++ ts) (sym (coded_tokens name other bytes none))
coded_written (Err e) new old name other bytes text none same is = tt

-- the tokens that the code writes are those of the object

one_list : (begin end : Token) (xs ys : List Token)
    → ((([] ++ (begin ∷ [])) ++ xs) ++ ys) ++ (end ∷ []) ≡ begin ∷ (xs ++ (ys ++ (end ∷ [])))
one_list begin end xs ys = append_assoc ((begin ∷ []) ++ xs) ys (end ∷ [])
    ∙ append_assoc (begin ∷ []) xs (ys ++ (end ∷ []))

object_tokens : (user value : List ℕ)
    → json_tokens (pair_object (user, value))
    ≡ Token.begin_object ∷
    (bytes_tokens (codes "key") (codes "key_base64") user ++
    (bytes_tokens (codes "value") (codes "value_base64") value ++ (Token.end_object ∷ [])))
object_tokens user value =
    let inner = member_tokens (codes "value") value no_members in
    let outer = member_tokens (codes "key") user (bytes_member (codes "value") value no_members) in
    ap (λ (ts : List Token). Token.begin_object ∷ ts)
    (outer ∙ ap
    (λ (ts : List Token). bytes_tokens (codes "key") (codes "key_base64") user ++ ts) inner)

pub written : (user value : List ℕ) (t0 t1 t2 t3 t4 : List Token) → t0 ≡ []
    → t1 ≡ t0 ++ (Token.begin_object ∷ [])
    → t2 ≡ t1 ++ bytes_tokens (codes "key") (codes "key_base64") user
    → t3 ≡ t2 ++ bytes_tokens (codes "value") (codes "value_base64") value
    → t4 ≡ t3 ++ (Token.end_object ∷ []) → t4 ≡ json_tokens (pair_object (user, value))
written user value t0 t1 t2 t3 t4 e0 e1 e2 e3 e4 =
    rw (e4, e3, e2, e1, e0)
    (one_list Token.begin_object Token.end_object
    (bytes_tokens (codes "key") (codes "key_base64") user)
    (bytes_tokens (codes "value") (codes "value_base64") value)
    ∙ sym (object_tokens user value))

pub line_written : (before user value : List ℕ) (tokens : List Token)
    → tokens ≡ json_tokens (pair_object (user, value))
    → (before ++ print tokens) ++ (10 ∷ []) ≡ before ++ json_line (user, value)
unfolding json_line
line_written before user value tokens is =
    rw is (append_assoc before (print (json_tokens (pair_object (user, value)))) (10 ∷ []))

-- ---- what an object spells

same_encoding : (b c : List ℕ) → IsBytes b → IsBytes c → encode_of standard b ≡ encode_of standard c
    → b ≡ c
same_encoding b c b_bytes c_bytes e =
    let one = decode_of-encode_of standard b refl b_bytes in
    let two = decode_of-encode_of standard c refl c_bytes in
    let same : Ok b ≡ Ok c = sym one ∙ ap (decode_of standard) e ∙ two in cc

same_strings : (name other : List ℕ) (b c : List ℕ) (m n : Members)
    → member name (string b) m ≡ member other (string c) n → (b ≡ c) × (m ≡ n)
same_strings name other b c m n e = (cc, cc)

same_names : (name other : List ℕ) (b c : List ℕ) (m n : Members)
    → member name (string b) m ≡ member other (string c) n → name ≡ other
same_names name other b c m n e = cc

longer : (name : List ℕ) → name ≡ name ++ codes "_base64" → ⊥
longer name e = let l : length (codes "_base64") ≡ 7 =
    refl in omega (arith, ap length e, length-append name (codes "_base64"), l)

same_members : (name : List ℕ) (s t : Bool) (b c : List ℕ) (m n : Members) → IsBytes b → IsBytes c
    → (if s then member name (string b) m else member (name ++ codes "_base64")
    (string (encode_of standard b)) m)
    ≡ (if t then member name (string c) n else member (name ++ codes "_base64")
    (string (encode_of standard c)) n)
    → (b ≡ c) × (m ≡ n)
same_members name true true b c m n b_bytes c_bytes e = same_strings name name b c m n e
same_members name true false b c m n b_bytes c_bytes e =
    absurd (longer name (same_names name (name ++ codes "_base64") b (encode_of standard c) m n e))
same_members name false true b c m n b_bytes c_bytes e =
    absurd (longer name
    (sym (same_names (name ++ codes "_base64") name (encode_of standard b) c m n e)))
same_members name false false b c m n b_bytes c_bytes e =
    let both = same_strings (name ++ codes "_base64") (name ++ codes "_base64")
    (encode_of standard b) (encode_of standard c) m n e in
    (same_encoding b c b_bytes c_bytes both.0, both.1)

same_pairs : (p q : Pair) → p.0 ≡ q.0 → p.1 ≡ q.1 → p ≡ q
same_pairs (a, b) (c, d) e f = cc

same_objects : (m n : Members) → Some (object m) ≡ Some (object n) → m ≡ n
same_objects m n e = cc

-- an object of two members, by whether their bytes are UTF-8
abbrev second : Bool → List ℕ → List ℕ → Members
second true value coded = member (codes "value") (string value) no_members
second false value coded = member (codes "value" ++ codes "_base64") (string coded) no_members

second_numbers : (t : Bool) (value coded : List ℕ) → MembersHaveNumbers (second t value coded)
second_numbers true value coded = (tt, tt)
second_numbers false value coded = (tt, tt)

second_shallow : (t : Bool) (value coded : List ℕ) → members_depth (second t value coded) ≤ 1
second_shallow true value coded = omega arith
second_shallow false value coded = omega arith

second_is : (t : Bool) (value coded : List ℕ)
    → (if t then member (codes "value") (string value) no_members else member
    (codes "value" ++ codes "_base64") (string coded) no_members)
    ≡ second t value coded
second_is true value coded = refl
second_is false value coded = refl

first_numbers : (s : Bool) (user coded : List ℕ) (more : Members) → MembersHaveNumbers more
    → MembersHaveNumbers
    (if s then member (codes "key") (string user) more else member
    (codes "key" ++ codes "_base64") (string coded) more)
first_numbers true user coded more numbers = (tt, numbers)
first_numbers false user coded more numbers = (tt, numbers)

first_shallow : (s : Bool) (user coded : List ℕ) (more : Members) → members_depth more ≤ 1
    → members_depth
    (if s then member (codes "key") (string user) more else member
    (codes "key" ++ codes "_base64") (string coded) more) ≤ 1
first_shallow true user coded more shallow = omega (arith, shallow)
first_shallow false user coded more shallow = omega (arith, shallow)

-- the line's text is one value: the object
pub one_value : (p : Pair) → document (print (json_tokens (pair_object p))) ≡ Some (pair_object p)
one_value p =
    let is = second_is (is_utf8 p.1) p.1 (encode_of standard p.1) in
    let more = bytes_member (codes "value") p.1 no_members in
    let numbers : MembersHaveNumbers more = subst (λ (m : Members). MembersHaveNumbers m) (sym is)
    (second_numbers (is_utf8 p.1) p.1 (encode_of standard p.1)) in
    let shallow : members_depth more ≤ 1 = subst (λ (m : Members). members_depth m ≤ 1) (sym is)
    (second_shallow (is_utf8 p.1) p.1 (encode_of standard p.1)) in
    let depth_is = first_shallow (is_utf8 p.0) p.0 (encode_of standard p.0) more shallow in
    document-print (pair_object p)
    (first_numbers (is_utf8 p.0) p.0 (encode_of standard p.0) more numbers)
    (omega (arith, depth_is))

-- and no other pair has it
pub one_pair : (p q : Pair) → IsBytes p.0 → IsBytes p.1 → IsBytes q.0 → IsBytes q.1
    → json_line p ≡ json_line q → p ≡ q
unfolding json_line
one_pair p q p_key p_value q_key q_value e =
    let texts = append_cancel_right (print (json_tokens (pair_object p)))
    (print (json_tokens (pair_object q))) (10 ∷ []) e in
    let values : Some (pair_object p) ≡ Some (pair_object q) = sym (one_value p) ∙ ap document texts
    ∙ one_value q in
    let members = same_objects _ _ values in
    let keys = same_members (codes "key") (is_utf8 p.0) (is_utf8 q.0) p.0 q.0
    (bytes_member (codes "value") p.1 no_members) (bytes_member (codes "value") q.1 no_members)
    p_key q_key members in
    let rest = same_members (codes "value") (is_utf8 p.1) (is_utf8 q.1) p.1 q.1 no_members
    no_members p_value q_value keys.1 in
    same_pairs p q keys.0 rest.0
