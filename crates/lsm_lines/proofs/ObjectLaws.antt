-- Objects that spell puts.
use Rattle.std.proofs.Common.{◌≡◌, ℕ, Bool, true, false, List, [], ◌∷◌, ◌++◌, length, codes, Option}
use Rattle.std.proofs.Common.{Some, None, Ok, Err, Result, IfNone, IfOk, refl, sym, ap, ◌∙◌, subst}
use Rattle.std.proofs.Common.{inl, inr, arith}
use Rattle.std.specs.Borrow.{Bor}
use Rattle.std.specs.Str.{IsUtf8, is_utf8}
use Rattle.std.proofs.lemmas.Str.{IsUtf8-append, IsUtf8-from_ascii, IsUtf8-from_is_utf8, IsUtf8-nil}
use Rattle.base64.specs.Engines.{standard}
use Rattle.base64.specs.declared.decode.DecodeError.{DecodeError}
use Rattle.base64.specs.GeneralPurpose.{IsBytes, decode_of, encode_of}
use Rattle.base64.proofs.EngineFacts.{IsAscii-encode_of, decode_of-encode_of}
use Rattle.json.specs.Json.{read_key}
use Rattle.json.specs.Lex.{tokens}
use Rattle.json.specs.Print.{ArePrintable, ends, print, print_from, token_text}
use Rattle.json.specs.Reads.{token_of}
use Rattle.json.specs.Token.{Token}
use Rattle.json.specs.declared.token.Token as declared
use Rattle.json.specs.declared.token.Token.TheVariants.{BeginObject, EndObject, BeginArray}
use Rattle.json.specs.declared.token.Token.TheVariants.{EndArray, Key, String, Number}
use Rattle.json.specs.declared.token.Token.TheVariants.{Bool as Boolean, Null, Bad}
use Rattle.json.proofs.Printed.Tokens.{tokens-print}
use Rattle.json.proofs.Printed.Utf8.{IsUtf8-are_ascii, IsUtf8-key, IsUtf8-quoted, IsUtf8-separator}
use Rattle.lsm_batch.specs.declared.write.Write.{Write}
use Rattle.lsm_lines.specs.Objects.{BeginsNo, HasNoMember, HasNoText, IsNoObject, IsPutObject}
use Rattle.lsm_lines.specs.Objects.{IsPutText, SpellsBytes, SpellsPut, SpellsValue, member_of}
use Rattle.lsm_lines.specs.Objects.{object_of, object_text}

-- ---- tokens that come first

no_string : (t : declared.Token) (s : List ℕ)
    → ((b : Bor (List ℕ)) → t ≡ String b → ⊥) → token_of t ≡ Token.string s → ⊥
no_string BeginObject s not e = cc
no_string EndObject s not e = cc
no_string BeginArray s not e = cc
no_string EndArray s not e = cc
no_string (Key b) s not e = cc
no_string (String b) s not e = not b refl
no_string (Number b) s not e = cc
no_string (Boolean b) s not e = cc
no_string Null s not e = cc
no_string Bad s not e = cc

no_brace : (t : declared.Token) → (t ≡ BeginObject → ⊥) → token_of t ≡ Token.begin_object → ⊥
no_brace BeginObject not e = not refl
no_brace EndObject not e = cc
no_brace BeginArray not e = cc
no_brace EndArray not e = cc
no_brace (Key b) not e = cc
no_brace (String b) not e = cc
no_brace (Number b) not e = cc
no_brace (Boolean b) not e = cc
no_brace Null not e = cc
no_brace Bad not e = cc

pub none_first : (old : List Token) (t : Token) → old ≡ [] → BeginsNo t old
none_first old t none rest e = cc

other_first : (old new : List Token) (t u : Token) → old ≡ t ∷ new → (t ≡ u → ⊥)
    → BeginsNo u old
other_first old new t u is other rest e = other cc

pub other_than_text : (old new : List Token) (t : declared.Token) → old ≡ token_of t ∷ new
    → ((b : Bor (List ℕ)) → t ≡ String b → ⊥) → HasNoText old
other_than_text old new t is not s =
    other_first old new (token_of t) (Token.string s) is (no_string t s not)

pub other_than_brace : (old new : List Token) (t : declared.Token) → old ≡ token_of t ∷ new
    → (t ≡ BeginObject → ⊥) → BeginsNo Token.begin_object old
other_than_brace old new t is not =
    other_first old new (token_of t) Token.begin_object is (no_brace t not)

pub text_first : (old new : List Token) (t : declared.Token) (b : Bor (List ℕ))
    → old ≡ token_of t ∷ new → t ≡ String b → old ≡ Token.string b.now ∷ new
text_first old new t b is e = is ∙ ap (λ (u : declared.Token). token_of u ∷ new) e

pub brace_first : (old new : List Token) (t : declared.Token) → old ≡ token_of t ∷ new
    → t ≡ BeginObject → old ≡ Token.begin_object ∷ new
brace_first old new t is e = is ∙ ap (λ (u : declared.Token). token_of u ∷ new) e

-- ---- a key comes first, or the end of an object

-- what `read_key` gives
abbrev ReadKey : Type 0
ReadKey = Option (List ℕ) × List Token

parts_read : (o p : Option (List ℕ)) (ts us : List Token)
    → ◌≡◌ {A = Option ReadKey} (Some (o, ts)) (Some (p, us)) → (o ≡ p) × (ts ≡ us)
parts_read o p ts us e =
    let pair : ◌≡◌ {A = ReadKey} (o, ts) (p, us) = cc in
    (ap (λ (q : ReadKey). q.0) pair, ap (λ (q : ReadKey). q.1) pair)

key_read : (ts new : List Token) (k : List ℕ) → read_key ts ≡ Some (Some k, new)
    → ts ≡ Token.key k ∷ new
key_read [] new k e = cc
key_read (Token.begin_object ∷ ts) new k e = cc
key_read (Token.end_object ∷ ts) new k e =
    let both = parts_read None (Some k) ts new e in
    let none : None ≡ Some k = both.0 in
    cc
key_read (Token.begin_array ∷ ts) new k e = cc
key_read (Token.end_array ∷ ts) new k e = cc
key_read (Token.key s ∷ ts) new k e =
    let both = parts_read (Some s) (Some k) ts new e in
    let name : Some s ≡ Some k = both.0 in
    let rest : ts ≡ new = both.1 in
    cc
key_read (Token.string s ∷ ts) new k e = cc
key_read (Token.number s ∷ ts) new k e = cc
key_read (Token.boolean b ∷ ts) new k e = cc
key_read (Token.null ∷ ts) new k e = cc
key_read (Token.bad ∷ ts) new k e = cc

pub end_read : (ts new : List Token) → read_key ts ≡ Some (None, new)
    → ts ≡ Token.end_object ∷ new
end_read [] new e = cc
end_read (Token.begin_object ∷ ts) new e = cc
end_read (Token.end_object ∷ ts) new e =
    ap (λ (us : List Token). Token.end_object ∷ us) (parts_read None None ts new e).1
end_read (Token.begin_array ∷ ts) new e = cc
end_read (Token.end_array ∷ ts) new e = cc
end_read (Token.key s ∷ ts) new e =
    let both = parts_read (Some s) None ts new e in
    let none : Some s ≡ None = both.0 in
    cc
end_read (Token.string s ∷ ts) new e = cc
end_read (Token.number s ∷ ts) new e = cc
end_read (Token.boolean b ∷ ts) new e = cc
end_read (Token.null ∷ ts) new e = cc
end_read (Token.bad ∷ ts) new e = cc

pub no_end_read : (ts : List Token) → read_key ts ≡ None → ts ≡ Token.end_object ∷ [] → ⊥
no_end_read ts none e =
    let end : read_key ts ≡ Some (None, []) = ap read_key e in
    cc

pub key_no_end : (ts new : List Token) (k : List ℕ) → read_key ts ≡ Some (Some k, new)
    → ts ≡ Token.end_object ∷ [] → ⊥
key_no_end ts new k is e =
    let first : Token.key k ∷ new ≡ Token.end_object ∷ [] = sym (key_read ts new k is) ∙ e in
    cc

pub end_not_last : (ts mid new : List Token) (t : Token) → read_key ts ≡ Some (None, mid)
    → mid ≡ t ∷ new → ts ≡ Token.end_object ∷ [] → ⊥
end_not_last ts mid new t is more e =
    let last : Token.end_object ∷ mid ≡ Token.end_object ∷ [] = sym (end_read ts mid is) ∙ e in
    cc

pub member_read : (old mid new : List Token) (name text : List ℕ)
    → read_key old ≡ Some (Some name, mid) → mid ≡ Token.string text ∷ new
    → old ≡ Token.key name ∷ Token.string text ∷ new
member_read old mid new name text k t =
    key_read old mid name k ∙ ap (λ (ts : List Token). Token.key name ∷ ts) t

pub no_key : (old : List Token) → read_key old ≡ None → HasNoMember old
no_key old none name text rest e =
    let some : read_key old ≡ Some (Some name, Token.string text ∷ rest) = ap read_key e in
    cc

pub end_first : (old new : List Token) → read_key old ≡ Some (None, new) → HasNoMember old
end_first old new is name text rest e =
    let first : Token.end_object ∷ new ≡ Token.key name ∷ Token.string text ∷ rest =
    sym (end_read old new is) ∙ e in
    cc

pub no_text_behind : (old mid : List Token) (k : List ℕ) → read_key old ≡ Some (Some k, mid)
    → HasNoText mid → HasNoMember old
no_text_behind old mid k is none name text rest e =
    let first : Token.key k ∷ mid ≡ Token.key name ∷ Token.string text ∷ rest =
    sym (key_read old mid k is) ∙ e in
    none text rest cc

-- ---- an object

pub no_object : (old : List Token) → BeginsNo Token.begin_object old → IsNoObject old
no_object old other first text second value e = other _ e

pub no_first : (old mid : List Token) → old ≡ Token.begin_object ∷ mid → HasNoMember mid
    → IsNoObject old
no_first old mid is none first text second value e =
    none first text (Token.key second ∷ Token.string value ∷ Token.end_object ∷ []) cc

pub no_second : (old mid last : List Token) (name its : List ℕ) → old ≡ Token.begin_object ∷ mid
    → mid ≡ Token.key name ∷ Token.string its ∷ last → HasNoMember last → IsNoObject old
no_second old mid last name its is then none first text second value e =
    none second value (Token.end_object ∷ []) cc

pub no_close : (old mid last left : List Token) (name its more other : List ℕ)
    → old ≡ Token.begin_object ∷ mid → mid ≡ Token.key name ∷ Token.string its ∷ last
    → last ≡ Token.key more ∷ Token.string other ∷ left → (left ≡ Token.end_object ∷ [] → ⊥)
    → IsNoObject old
no_close old mid last left name its more other is then next none first text second value e =
    none cc

pub object_read : (old mid last left : List Token) (first text second value : List ℕ)
    → old ≡ Token.begin_object ∷ mid → mid ≡ Token.key first ∷ Token.string text ∷ last
    → last ≡ Token.key second ∷ Token.string value ∷ left → left ≡ Token.end_object ∷ []
    → old ≡ object_of first text second value
object_read old mid last left first text second value is then next end = cc

-- ---- what members spell

pub no_name : (name other its text : List ℕ) → (its ≡ name → ⊥) → (its ≡ other → ⊥)
    → (bytes : List ℕ) → SpellsBytes name other its text bytes → ⊥
no_name name other its text not nor bytes (inl s) = not s.0
no_name name other its text not nor bytes (inr s) = nor s.0

pub no_code : (name other its text : List ℕ) (fault : DecodeError) → (its ≡ name → ⊥)
    → decode_of standard text ≡ Err fault → (bytes : List ℕ)
    → SpellsBytes name other its text bytes → ⊥
no_code name other its text fault not bad bytes (inl s) = not s.0
no_code name other its text fault not bad bytes (inr s) =
    let both : Err fault ≡ Ok bytes = sym bad ∙ s.1 in
    cc

pub no_key_spelled : (first text second other : List ℕ)
    → ((bytes : List ℕ) → SpellsBytes (codes "key") (codes "key_base64") first text bytes → ⊥)
    → (w : Write) → SpellsPut first text second other w → ⊥
no_key_spelled first text second other none w s = none w.key s.0

no_value : (its text : List ℕ) (o : Option (List ℕ))
    → ((bytes : List ℕ) → SpellsBytes (codes "value") (codes "value_base64") its text bytes → ⊥)
    → SpellsValue its text o → ⊥
no_value its text None none s = s
no_value its text (Some value) none s = none value s

pub no_value_spelled : (first text second other : List ℕ)
    → ((bytes : List ℕ)
    → SpellsBytes (codes "value") (codes "value_base64") second other bytes → ⊥)
    → (w : Write) → SpellsPut first text second other w → ⊥
no_value_spelled first text second other none w s = no_value second other w.value none s.1

-- an object has just these members
at_members : (P : (first text second value : List ℕ) → Type 0) (ts : List Token)
    (first text second value first' text' second' value' : List ℕ)
    → ts ≡ object_of first text second value → ts ≡ object_of first' text' second' value'
    → P first' text' second' value' → P first text second value
at_members P ts first text second value first' text' second' value' e f p =
    let a : first' ≡ first = cc in
    let b : text' ≡ text = cc in
    let c : second' ≡ second = cc in
    let d : value' ≡ value = cc in
    subst (λ x. P x text second value) a
    (subst (λ x. P first' x second value) b
    (subst (λ x. P first' text' x value) c
    (subst (λ x. P first' text' second' x) d p)))

pub put_text : (text : List ℕ) (ts : List Token) (first key second value : List ℕ) (w : Write)
    → ts ≡ tokens text → ts ≡ object_of first key second value
    → SpellsPut first key second value w → IsPutText text w
put_text text ts first key second value w is e spelled = record {
  first = first;
  key = key;
  second = second;
  value = value;
  object = sym is ∙ e;
  spelled = spelled;
}

pub no_put : (text : List ℕ) (ts : List Token) (w : Write) → ts ≡ tokens text
    → IsNoObject ts → IsPutText text w → ⊥
no_put text ts w is none p = none p.first p.key p.second p.value (is ∙ p.object)

pub no_spelling : (text : List ℕ) (ts : List Token) (first key second value : List ℕ) (w : Write)
    → ts ≡ tokens text → ts ≡ object_of first key second value
    → ((v : Write) → SpellsPut first key second value v → ⊥) → IsPutText text w → ⊥
no_spelling text ts first key second value w is e none p =
    none w (at_members (λ a b c d. SpellsPut a b c d w) ts first key second value p.first p.key
    p.second p.value e (is ∙ p.object) p.spelled)

-- what stands in a line, where its text is this
pub not_put : {E : Type 0} (r : Result (Option Write) E) (line text : List ℕ) → text ≡ line
    → IfOk r (λ o. IfNone o ((w : Write) → IsPutText text w → ⊥))
    → IfOk r (λ o. IfNone o ((w : Write) → IsPutObject line w → ⊥))
not_put (Ok (Some v)) line text is none = tt
not_put (Ok None) line text is none =
    λ w p. none w (subst (λ (l : List ℕ). IsPutText l w) (sym is) p.1)
not_put (Err fault) line text is none = tt

-- ---- one put

same_bytes : (name other its text a b : List ℕ) → (name ≡ other → ⊥)
    → SpellsBytes name other its text a → SpellsBytes name other its text b → a ≡ b
same_bytes name other its text a b differ (inl s) (inl t) = sym s.1 ∙ t.1
same_bytes name other its text a b differ (inl s) (inr t) = absurd (differ (sym s.0 ∙ t.0))
same_bytes name other its text a b differ (inr s) (inl t) = absurd (differ (sym t.0 ∙ s.0))
same_bytes name other its text a b differ (inr s) (inr t) =
    let both : Ok a ≡ decode_of standard text = sym s.1 in
    let too : decode_of standard text ≡ Ok b = t.1 in
    cc

key_differs : codes "key" ≡ codes "key_base64" → ⊥
key_differs e =
    let short : length (codes "key") ≡ 3 = refl in
    let long : length (codes "key_base64") ≡ 10 = refl in
    omega (arith, ap length e, short, long)

value_differs : codes "value" ≡ codes "value_base64" → ⊥
value_differs e =
    let short : length (codes "value") ≡ 5 = refl in
    let long : length (codes "value_base64") ≡ 12 = refl in
    omega (arith, ap length e, short, long)

same_values : (its text : List ℕ) (o p : Option (List ℕ)) → SpellsValue its text o
    → SpellsValue its text p → o ≡ p
same_values its text None p s t = absurd s
same_values its text (Some a) None s t = absurd t
same_values its text (Some a) (Some b) s t = ap (λ (x : List ℕ). Some x)
    (same_bytes (codes "value") (codes "value_base64") its text a b value_differs s t)

same_writes : (v w : Write) → v.key ≡ w.key → v.value ≡ w.value → v ≡ w
same_writes v w e f = ap (λ (k : List ℕ). record { key = k; value = v.value }) e
    ∙ ap (λ (o : Option (List ℕ)). record { key = w.key; value = o }) f

pub one_put : (line : List ℕ) (v w : Write) → IsPutObject line v → IsPutObject line w → v ≡ w
one_put line v w (utf8, p) (utf8', q) =
    let s : SpellsPut p.first p.key p.second p.value w =
    at_members (λ a b c d. SpellsPut a b c d w) (tokens line) p.first p.key p.second p.value
    q.first q.key q.second q.value p.object q.object q.spelled in
    same_writes v w
    (same_bytes (codes "key") (codes "key_base64") p.first p.key v.key w.key key_differs
    p.spelled.0 s.0)
    (same_values p.second p.value v.value w.value p.spelled.1 s.1)

-- ---- what is printed

-- a member that is printed spells its bytes
record IsPrinted (name other bytes : List ℕ) : Type 0 where
  its : List ℕ
  text : List ℕ
  is : member_of name other bytes ≡ Token.key its ∷ Token.string text ∷ []
  spells : SpellsBytes name other its text bytes
  name_utf8 : IsUtf8 its
  text_utf8 : IsUtf8 text

printed_by : (plain : Bool) (name other bytes : List ℕ) → is_utf8 bytes ≡ plain → IsUtf8 name
    → IsUtf8 other → IsBytes bytes → IsPrinted name other bytes
printed_by true name other bytes test u v b = record {
  its = name;
  text = bytes;
  is = rw test refl;
  spells = inl (refl, refl);
  name_utf8 = u;
  text_utf8 = IsUtf8-from_is_utf8 bytes test;
}
printed_by false name other bytes test u v b = record {
  its = other;
  text = encode_of standard bytes;
  is = rw test refl;
  spells = inr (refl, decode_of-encode_of standard bytes refl b);
  name_utf8 = v;
  text_utf8 = IsUtf8-from_ascii (encode_of standard bytes) (IsAscii-encode_of standard bytes);
}

abbrev AreUtf8 : List Token → Type 0
AreUtf8 [] = Unit {0}
AreUtf8 (t ∷ ts) = IsUtf8 (token_text t) × AreUtf8 ts

print_utf8 : (after : Bool) (ts : List Token) → AreUtf8 ts → IsUtf8 (print_from after ts)
unfolding print_from
print_utf8 after [] h = IsUtf8-nil
print_utf8 after (t ∷ ts) h = IsUtf8-append _ _ (IsUtf8-separator after t)
    (IsUtf8-append _ _ h.0 (print_utf8 (ends t) ts h.1))

object_utf8 : (first text second value : List ℕ) → IsUtf8 first → IsUtf8 text → IsUtf8 second
    → IsUtf8 value → IsUtf8 (print (object_of first text second value))
object_utf8 first text second value a b c d =
    print_utf8 false (object_of first text second value) (
      IsUtf8-are_ascii (123 ∷ []) refl,
      (
        IsUtf8-key first a,
        (
          IsUtf8-quoted text b,
          (
            IsUtf8-key second c,
            (IsUtf8-quoted value d, (IsUtf8-are_ascii (125 ∷ []) refl, tt)),
          ),
        ),
      ),
    )

object_tokens : (first text second value : List ℕ)
    → tokens (print (object_of first text second value)) ≡ object_of first text second value
unfolding ArePrintable
object_tokens first text second value =
    tokens-print (object_of first text second value) (tt, (tt, (tt, (tt, (tt, (tt, tt))))))

put_printed : (key value : List ℕ) (w : Write) (ts : List Token)
    → (k : IsPrinted (codes "key") (codes "key_base64") key)
    → (v : IsPrinted (codes "value") (codes "value_base64") value)
    → ts ≡ object_of k.its k.text v.its v.text → w.key ≡ key → w.value ≡ Some value
    → IsPutObject (print ts) w
put_printed key value w ts k v is e f = rw is (
  object_utf8 k.its k.text v.its v.text k.name_utf8 k.text_utf8 v.name_utf8 v.text_utf8,
  record {
    first = k.its;
    key = k.text;
    second = v.its;
    value = v.text;
    object = object_tokens k.its k.text v.its v.text;
    spelled = (
      subst (λ (b : List ℕ). SpellsBytes (codes "key") (codes "key_base64") k.its k.text b)
          (sym e) k.spells,
      subst (λ (o : Option (List ℕ)). SpellsValue v.its v.text o) (sym f) v.spells,
    );
  },
)

two_members : (a b : List Token) (first text second value : List ℕ)
    → a ≡ Token.key first ∷ Token.string text ∷ []
    → b ≡ Token.key second ∷ Token.string value ∷ []
    → Token.begin_object ∷ (a ++ (b ++ Token.end_object ∷ []))
    ≡ object_of first text second value
two_members a b first text second value e f = rw (e, f) refl

pub printed_is_read : (w : Write) (value : List ℕ) → IsBytes w.key → IsBytes value
    → w.value ≡ Some value → IsPutObject (object_text w.key value) w
printed_is_read w value key_bytes value_bytes is =
    let k : IsPrinted (codes "key") (codes "key_base64") w.key = printed_by (is_utf8 w.key)
    (codes "key") (codes "key_base64") w.key refl (IsUtf8-are_ascii (codes "key") refl)
    (IsUtf8-are_ascii (codes "key_base64") refl) key_bytes in
    let v : IsPrinted (codes "value") (codes "value_base64") value = printed_by (is_utf8 value)
    (codes "value") (codes "value_base64") value refl (IsUtf8-are_ascii (codes "value") refl)
    (IsUtf8-are_ascii (codes "value_base64") refl) value_bytes in
    put_printed w.key value w _ k v
    (two_members (member_of (codes "key") (codes "key_base64") w.key)
    (member_of (codes "value") (codes "value_base64") value) k.its k.text v.its v.text k.is v.is)
    refl is
