-- Words of a text are read as they are spelled, and spelled as they are read.
use Rattle.std.proofs.Common.{◌≡◌, ◌≢◌, ℕ, suc, ◌+◌, ◌/◌, ◌%◌, ◌<◌, ◌≤◌, true, false, List, [], ◌∷◌, ◌++◌, length, codes, refl, sym, ap, ◌∙◌, subst, arith, inl, inr, append_assoc, append-nil, length-append}
use Rattle.std.specs.Prelude.{All}
use Rattle.std.specs.List.{AllPass, flat_map}
use Rattle.std.specs.Str.{bytes_eq}
use Rattle.std.proofs.lemmas.Bool.{cases_Bool}
use Rattle.std.proofs.lemmas.List.Elements.{All-append, All-cons, All-head, All-nil, All-tail}
use Rattle.std.proofs.lemmas.Slice.Eq.{bytes_eq-Decides}
use Rattle.hex.specs.Hex.{IsBytes, is_hex_digit}
use Rattle.hex.proofs.HexLemmas.{decode_of-ok, decode_of-same}
use Rattle.lsm_text.specs.EntryList.{IsBytesWord}
use Rattle.lsm_text.specs.Spelling.{AreParts, IsClear, IsPart, IsTextWord, IsWord, escaped, is_plain, lower_digit, spelled, spelled_byte, text_word}
use Rattle.lsm_text.specs.declared.form.Form.{Form}
use Rattle.lsm_text.specs.declared.form.Form.TheVariants.{Hex, Text}
use Rattle.lsm_text.proofs.LineLaws.{hex_digit-other}
use Rattle.lsm_text.proofs.PrintLaws.{bytes_word-is}

-- ---- one byte

lower_digit-same : (v w : ℕ) → v < 16 → w < 16 → lower_digit v ≡ lower_digit w → v ≡ w
lower_digit-same v w h k e = grind (arith)

-- two hex digits are one byte
escaped-same : (a b : ℕ) (r s : List ℕ) → a < 256 → b < 256 → escaped a ++ r ≡ escaped b ++ s → (a ≡ b) × (r ≡ s)
escaped-same a b r s h k e =
    let high : lower_digit (a / 16) ≡ lower_digit (b / 16) = cc in
    let low : lower_digit (a % 16) ≡ lower_digit (b % 16) = cc in
    let rest : r ≡ s = cc in
    let highs : a / 16 ≡ b / 16 = lower_digit-same (a / 16) (b / 16) (omega arith) (omega arith) high in
    let lows : a % 16 ≡ b % 16 = lower_digit-same (a % 16) (b % 16) (omega arith) (omega arith) low in
    (omega arith, rest)

-- a backslash does not stand for itself
plain_is_no_escape : (a b : ℕ) (r s : List ℕ) → is_plain a ≡ true → a ∷ r ≡ escaped b ++ s → ⊥
plain_is_no_escape a b r s h e =
    let slash : a ≡ 92 = cc in
    let bad : is_plain 92 ≡ true = subst (λ x. is_plain x ≡ true) slash h in
    absurd cc

-- the first part of a text is one
part_same : (p q r s : List ℕ) (a b : ℕ) → p ++ r ≡ q ++ s → IsPart p a → IsPart q b → (a ≡ b) × (r ≡ s)
part_same p q r s a b e (inl x) (inl y) =
    let h : a ∷ r ≡ b ∷ s = ap (λ (l : List ℕ). l ++ r) (sym x.0) ∙ e ∙ ap (λ (l : List ℕ). l ++ s) y.0 in
    (cc, cc)
part_same p q r s a b e (inl x) (inr y) =
    absurd (plain_is_no_escape a b r s x.1 (ap (λ (l : List ℕ). l ++ r) (sym x.0) ∙ e ∙ ap (λ (l : List ℕ). l ++ s) y.0))
part_same p q r s a b e (inr x) (inl y) =
    absurd (plain_is_no_escape b a s r y.1 (ap (λ (l : List ℕ). l ++ s) (sym y.0) ∙ sym e ∙ ap (λ (l : List ℕ). l ++ r) x.0))
part_same p q r s a b e (inr x) (inr y) =
    escaped-same a b r s x.1 y.1 (ap (λ (l : List ℕ). l ++ r) (sym x.0) ∙ e ∙ ap (λ (l : List ℕ). l ++ s) y.0)

part_some : (p : List ℕ) (a : ℕ) → IsPart p a → 0 < length p
part_some p a (inl x) = rw (x.0) (omega arith)
part_some p a (inr x) = rw (x.0) (omega arith)

-- ---- byte after byte

no_bytes_no_text : (word : List ℕ) → AreParts word [] → length word ≡ 0
no_bytes_no_text word h = ap length h

-- a text that spells bytes goes on with what is left of them
split_parts : (front rest out bytes : List ℕ) → AreParts front out → AreParts (front ++ rest) bytes
    → (more : List ℕ) × (bytes ≡ out ++ more) × AreParts rest more
split_parts front rest [] bytes h k = (bytes, refl, subst (λ (l : List ℕ). AreParts (l ++ rest) bytes) h k)
split_parts front rest (a ∷ al) [] h k =
    let some = part_some h.0 a h.3 in
    let none : length (front ++ rest) ≡ 0 = ap length k in
    let whole : length front ≡ length h.0 + length h.1 = ap length h.2 ∙ length-append h.0 h.1 in
    absurd (omega (arith, length-append front rest))
split_parts front rest (a ∷ al) (b ∷ bs) h k =
    let whole : h.0 ++ (h.1 ++ rest) ≡ k.0 ++ k.1 =
    sym (append_assoc h.0 h.1 rest) ∙ ap (λ (l : List ℕ). l ++ rest) (sym h.2) ∙ k.2 in
    let same = part_same h.0 k.0 (h.1 ++ rest) k.1 a b whole h.3 k.3 in
    let later = split_parts h.1 rest al bs h.4 (subst (λ (l : List ℕ). AreParts l bs) (sym same.1) k.4) in
    let first : b ∷ bs ≡ a ∷ bs = ap (λ (x : ℕ). x ∷ bs) (sym same.0) in
    (later.0, first ∙ ap (λ (l : List ℕ). a ∷ l) later.1, later.2)

parts_none : (word a : List ℕ) → word ≡ [] → AreParts word a → a ≡ []
parts_none word [] e h = refl
parts_none word (a ∷ al) e h =
    let some = part_some h.0 a h.3 in
    let whole : length word ≡ length h.0 + length h.1 = ap length h.2 ∙ length-append h.0 h.1 in
    let none : length word ≡ 0 = ap length e in
    absurd (omega arith)

pub parts_one : (word a b : List ℕ) → AreParts word a → AreParts word b → a ≡ b
parts_one word a [] h k = parts_none word a k h
parts_one word a (b ∷ bs) h k =
    let later = split_parts word [] a (b ∷ bs) h (subst (λ (l : List ℕ). AreParts l (b ∷ bs)) (sym (append-nil word)) k) in
    let none : later.0 ≡ [] = parts_none [] later.0 refl later.2 in
    sym (later.1 ∙ ap (λ (l : List ℕ). a ++ l) none ∙ append-nil a)

pub parts_snoc : (front part out : List ℕ) (b : ℕ) → AreParts front out → IsPart part b → AreParts (front ++ part) (out ++ b ∷ [])
parts_snoc front part [] b h k = (part, [], ap (λ (l : List ℕ). l ++ part) h ∙ sym (append-nil part), k, refl)
parts_snoc front part (a ∷ al) b h k =
    (h.0, h.1 ++ part, ap (λ (l : List ℕ). l ++ part) h.2 ∙ append_assoc h.0 h.1 part, h.3, parts_snoc h.1 part al b h.4 k)

-- ---- a loop over the parts of a word

pub no_dot : (word : List ℕ) → bytes_eq word (codes ".") ≡ false → word ≢ codes "."
no_dot word h e = let dot : bytes_eq word (codes ".") ≡ true = (bytes_eq-Decides word (codes ".")).1 e in cc

-- These bytes were taken from the word, and this is left of it.
pub record HasTaken (word out rest : List ℕ) : Type 0 where
  pub front : List ℕ
  pub is : word ≡ front ++ rest
  pub parts : AreParts front out

pub taken_more : (word out rest part after : List ℕ) (b : ℕ) → HasTaken word out rest → rest ≡ part ++ after → IsPart part b
    → HasTaken word (out ++ b ∷ []) after
taken_more word out rest part after b h e k = record {
  front = h.front ++ part;
  is = h.is ∙ ap (λ (l : List ℕ). h.front ++ l) e ∙ sym (append_assoc h.front part after);
  parts = parts_snoc h.front part out b h.parts k;
}

-- all of it
taken_parts : (word out rest : List ℕ) → HasTaken word out rest → length rest ≡ 0 → AreParts word out
taken_parts word out [] h none = subst (λ (l : List ℕ). AreParts l out) (sym (h.is ∙ append-nil h.front)) h.parts
taken_parts word out (c ∷ cs) h none = absurd (omega arith)

parts_word : (word out : List ℕ) → word ≢ codes "." → 0 < length word → AreParts word out → IsTextWord word out
parts_word word [] other some h = absurd (omega (arith, no_bytes_no_text word h))
parts_word word (b ∷ bs) other some h = (other, h)

pub taken_all : (word out rest : List ℕ) → word ≢ codes "." → 0 < length word → HasTaken word out rest → length rest ≡ 0 → IsTextWord word out
taken_all word out rest other some h none = parts_word word out other some (taken_parts word out rest h none)

word_parts : (word bytes : List ℕ) → word ≢ codes "." → IsTextWord word bytes → AreParts word bytes
word_parts word [] other h = absurd (other h)
word_parts word (b ∷ bs) other h = h.1

-- and only those
pub taken_only : (word out rest bytes : List ℕ) → word ≢ codes "." → HasTaken word out rest → length rest ≡ 0 → IsTextWord word bytes → out ≡ bytes
taken_only word out rest bytes other h none k =
    parts_one word out bytes (taken_parts word out rest h none) (word_parts word bytes other k)

no_more : (rest more : List ℕ) → 0 < length rest → ((b : ℕ) (part after : List ℕ) → rest ≡ part ++ after → IsPart part b → ⊥) → AreParts rest more → ⊥
no_more rest [] some stuck h = absurd (omega (arith, no_bytes_no_text rest h))
no_more rest (b ∷ bs) some stuck h = stuck b h.0 h.1 h.2 h.3

-- a word that does not go on with a part spells nothing
pub taken_stuck : (word out rest bytes : List ℕ) → word ≢ codes "." → HasTaken word out rest → 0 < length rest
    → ((b : ℕ) (part after : List ℕ) → rest ≡ part ++ after → IsPart part b → ⊥) → IsTextWord word bytes → ⊥
taken_stuck word out rest bytes other h some stuck k =
    let all = subst (λ (l : List ℕ). AreParts l bytes) h.is (word_parts word bytes other k) in
    let later = split_parts h.front rest out bytes h.parts all in
    no_more rest later.0 some stuck later.2

pub dot_only : (word bytes : List ℕ) → word ≡ codes "." → IsTextWord word bytes → [] ≡ bytes
dot_only word [] e h = refl
dot_only word (b ∷ bs) e h = absurd (h.0 e)

-- ---- what is printed reads back

spelled_byte-is : (b : ℕ) → b < 256 → IsPart (spelled_byte b) b
unfolding spelled_byte
spelled_byte-is b h = elim (cases_Bool (is_plain b)) [
  | inl plain ↦ inl (rw plain refl, plain)
  | inr other ↦ inr (rw other refl, h)
]

text-is : (bytes : List ℕ) → IsBytes bytes → AreParts (flat_map spelled_byte bytes) bytes
text-is [] h = refl
text-is (b ∷ bs) h = (spelled_byte b, flat_map spelled_byte bs, refl, spelled_byte-is b (h 0), text-is bs (λ i. h (suc i)))

-- a lone dot is escaped
escaped_dot : IsTextWord (escaped 46) (46 ∷ [])
escaped_dot = ((λ e. absurd cc), (escaped 46, [], refl, inr (refl, omega arith), refl))

dot_parts : AreParts (codes ".") (46 ∷ [])
dot_parts = (codes ".", [], refl, inl (refl, refl), refl)

text_word-is : (bytes : List ℕ) → IsBytes bytes → IsTextWord (text_word bytes) bytes
text_word-is [] h = refl
text_word-is (b ∷ bs) h = elim (cases_Bool (bytes_eq (b ∷ bs) (codes "."))) [
  | inl dot ↦
      let is_dot : b ∷ bs ≡ codes "." = (bytes_eq-Decides (b ∷ bs) (codes ".")).0 dot in
      rw dot (subst (λ (l : List ℕ). IsTextWord (escaped 46) l) (sym is_dot) escaped_dot)
  | inr other ↦
      let parts = text-is (b ∷ bs) h in
      rw other (
        (λ (e : flat_map spelled_byte (b ∷ bs) ≡ codes ".").
            let one : b ∷ bs ≡ codes "." = parts_one (codes ".") (b ∷ bs) (46 ∷ []) (subst (λ (l : List ℕ). AreParts l (b ∷ bs)) e parts) dot_parts in
            let dot : bytes_eq (b ∷ bs) (codes ".") ≡ true = (bytes_eq-Decides (b ∷ bs) (codes ".")).1 one in
            absurd cc),
        parts,
      )
]

pub spelled-is : (form : Form) (bytes : List ℕ) → IsBytes bytes → IsWord form (spelled form bytes) bytes
spelled-is Hex bytes h = bytes_word-is bytes h
spelled-is Text bytes h = text_word-is bytes h

-- ---- a word spells one list of bytes

dot_is_no_hex : (word : List ℕ) (b : ℕ) (bs : List ℕ) → word ≡ codes "." → IsBytesWord word (b ∷ bs) → ⊥
dot_is_no_hex word b bs h k =
    let one : length word ≡ 1 = ap length h in
    omega (arith, (decode_of-ok word (b ∷ bs) k).2)

hex_one : (word a b : List ℕ) → IsBytesWord word a → IsBytesWord word b → a ≡ b
hex_one word [] [] h k = refl
hex_one word [] (b ∷ bs) h k = absurd (dot_is_no_hex word b bs h k)
hex_one word (a ∷ al) [] h k = absurd (dot_is_no_hex word a al k h)
hex_one word (a ∷ al) (b ∷ bs) h k = decode_of-same word (a ∷ al) (b ∷ bs) h k

text_one : (word a b : List ℕ) → IsTextWord word a → IsTextWord word b → a ≡ b
text_one word [] b h k = dot_only word b h k
text_one word (a ∷ al) [] h k = absurd (h.0 k)
text_one word (a ∷ al) (b ∷ bs) h k = parts_one word (a ∷ al) (b ∷ bs) h.1 k.1

pub word_one : (form : Form) (word a b : List ℕ) → IsWord form word a → IsWord form word b → a ≡ b
word_one Hex word a b h k = hex_one word a b h k
word_one Text word a b h k = text_one word a b h k

-- ---- no word has what stands between words

lower_digit-clear : (v : ℕ) → v < 16 → IsClear (lower_digit v)
lower_digit-clear v h = (λ e. grind (arith), λ e. grind (arith), λ e. grind (arith), λ e. grind (arith), λ e. grind (arith))

plain-clear : (b : ℕ) → is_plain b ≡ true → IsClear b
plain-clear b h = (λ e. grind (arith), λ e. grind (arith), λ e. grind (arith), λ e. grind (arith), λ e. grind (arith))

number-clear : (c : ℕ) → 92 ≤ c → IsClear c
number-clear c h = (λ e. absurd (omega arith), λ e. absurd (omega arith), λ e. absurd (omega arith), λ e. absurd (omega arith), λ e. absurd (omega arith))

dot-clear : All IsClear (codes ".")
dot-clear = All-cons IsClear 46 [] (λ e. absurd (omega arith), λ e. absurd (omega arith), λ e. absurd (omega arith), λ e. absurd (omega arith), λ e. absurd (omega arith)) (All-nil IsClear)

escaped-clear : (b : ℕ) → b < 256 → All IsClear (escaped b)
escaped-clear b h =
    let low = All-cons IsClear (lower_digit (b % 16)) [] (lower_digit-clear (b % 16) (omega arith)) (All-nil IsClear) in
    let digits = All-cons IsClear (lower_digit (b / 16)) (lower_digit (b % 16) ∷ []) (lower_digit-clear (b / 16) (omega arith)) low in
    let marked = All-cons IsClear 120 (lower_digit (b / 16) ∷ lower_digit (b % 16) ∷ []) (number-clear 120 (omega arith)) digits in
    All-cons IsClear 92 (120 ∷ lower_digit (b / 16) ∷ lower_digit (b % 16) ∷ []) (number-clear 92 (omega arith)) marked

part-clear : (p : List ℕ) (b : ℕ) → IsPart p b → All IsClear p
part-clear p b (inl x) = rw (x.0) (All-cons IsClear b [] (plain-clear b x.1) (All-nil IsClear))
part-clear p b (inr x) = rw (x.0) (escaped-clear b x.1)

parts-clear : (word bytes : List ℕ) → AreParts word bytes → All IsClear word
parts-clear word [] h = rw h (All-nil IsClear)
parts-clear word (b ∷ bs) h = rw (h.2) (All-append IsClear h.0 h.1 (part-clear h.0 b h.3) (parts-clear h.1 bs h.4))

digits-clear : (cs : List ℕ) → AllPass is_hex_digit cs → All IsClear cs
digits-clear [] h = All-nil IsClear
digits-clear (c ∷ cs) h =
    let d = All-head (λ (x : ℕ). is_hex_digit x ≡ true) c cs h in
    All-cons IsClear c cs
    (hex_digit-other 61 c refl d, hex_digit-other 33 c refl d, hex_digit-other 64 c refl d, hex_digit-other 32 c refl d, hex_digit-other 10 c refl d)
    (digits-clear cs (All-tail (λ (x : ℕ). is_hex_digit x ≡ true) c cs h))

pub word_clear : (form : Form) (word bytes : List ℕ) → IsWord form word bytes → All IsClear word
word_clear Hex word [] h = rw h dot-clear
word_clear Hex word (b ∷ bs) h = digits-clear word (decode_of-ok word (b ∷ bs) h).1
word_clear Text word [] h = rw h dot-clear
word_clear Text word (b ∷ bs) h = parts-clear word (b ∷ bs) h.1

pub word_some : (form : Form) (word bytes : List ℕ) → IsWord form word bytes → 0 < length word
word_some Hex word [] h = rw h (omega arith)
word_some Hex word (b ∷ bs) h = omega (arith, (decode_of-ok word (b ∷ bs) h).2)
word_some Text word [] h = rw h (omega arith)
word_some Text word (b ∷ bs) h =
    let some = part_some h.1.0 b h.1.3 in
    let whole : length word ≡ length h.1.0 + length h.1.1 = ap length h.1.2 ∙ length-append h.1.0 h.1.1 in
    omega arith
