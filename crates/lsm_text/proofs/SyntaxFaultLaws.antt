-- Where a word stops being one of its form.
use Rattle.std.proofs.Common.{◌≡◌, ◌≢◌, ℕ, ◌-◌, ◌%◌, ◌<◌, ◌≤◌, true, false, List, [], ◌∷◌, ◌++◌, length, slice_index_or, get_or, take, drop, codes, Option, Some, None, Ok, refl, sym, ap, ◌∙◌, subst, arith, inl, inr, append_assoc, append-nil, length-append, drop-cons, length-drop}
use Rattle.std.proofs.lemmas.List.{take_all}
use Rattle.std.specs.List.{AllPass}
use Rattle.std.proofs.lemmas.List.Elements.{All-append, All-cons, All-head, All-nil, All-tail}
use Rattle.std.proofs.lemmas.Bool.{cases_eq, cases_lt}
use Rattle.hex.specs.Hex.{decode_of, is_hex_digit}
use Rattle.hex.proofs.HexLemmas.{decode_of-digits, decode_of-ok}
use Rattle.lsm_text.specs.EntryList.{IsBytesWord}
use Rattle.lsm_text.specs.SyntaxFault.{IsAt, IsBegun, IsCutOff, IsSyntaxFault, IsStuck, Reaches}
use Rattle.lsm_text.specs.Spelling.{IsPart, IsTextWord, IsWord}
use Rattle.lsm_text.specs.declared.form.Form.{Form}
use Rattle.lsm_text.specs.declared.form.Form.TheVariants.{Hex, Text}
use Rattle.lsm_text.proofs.SpellingLaws.{parts_snoc, taken_all, taken_stuck, word_some}

-- The word goes on as one of this form up to here.
pub record GoesOn (form : Form) (word rest : List ℕ) : Type 0 where
  pub front : List ℕ
  pub is : word ≡ front ++ rest
  pub begun : IsBegun form front

-- a text that begins with a byte
pub front_is : (text : List ℕ) → 1 ≤ length text → text ≡ get_or text 0 0 ∷ take (length text - 1) (drop 1 text)
front_is text some =
    drop-cons text 0 0 (omega arith) ∙ ap (λ (l : List ℕ). get_or text 0 0 ∷ l) (sym (take_all (length text - 1) (drop 1 text) (omega (arith, length-drop 1 text))))

pub start : (form : Form) (word : List ℕ) → GoesOn form word word
start Hex word = record { front = []; is = refl; begun = All-nil (λ (x : ℕ). is_hex_digit x ≡ true) }
start Text word = record { front = []; is = refl; begun = ([], refl) }

pub reached : (form : Form) (word rest : List ℕ) → GoesOn form word rest → IsStuck form rest → Reaches form word rest
reached form word rest h k = record { front = h.front; is = h.is; begun = h.begun; stuck = k }

pub one_digit : (word after : List ℕ) (c : ℕ) → GoesOn Hex word (c ∷ after) → is_hex_digit c ≡ true → GoesOn Hex word after
one_digit word after c h k = record {
  front = h.front ++ c ∷ [];
  is = h.is ∙ sym (append_assoc h.front (c ∷ []) after);
  begun = All-append (λ (x : ℕ). is_hex_digit x ≡ true) h.front (c ∷ []) h.begun
      (All-cons (λ (x : ℕ). is_hex_digit x ≡ true) c [] k (All-nil (λ (x : ℕ). is_hex_digit x ≡ true)));
}

pub one_part : (word rest part after : List ℕ) (b : ℕ) → GoesOn Text word rest → rest ≡ part ++ after → IsPart part b → GoesOn Text word after
one_part word rest part after b h e k = record {
  front = h.front ++ part;
  is = h.is ∙ ap (λ (l : List ℕ). h.front ++ l) e ∙ sym (append_assoc h.front part after);
  begun = (h.begun.0 ++ b ∷ [], parts_snoc h.front part h.begun.0 b h.begun.1 k);
}

pub stuck_part : (word rest : List ℕ) → GoesOn Text word rest → ((b : ℕ) (part after : List ℕ) → rest ≡ part ++ after → IsPart part b → ⊥) → Reaches Text word rest
stuck_part word [] h k = reached Text word [] h tt
stuck_part word (c ∷ cs) h k = reached Text word (c ∷ cs) h k

pub stuck_digit : (word rest after : List ℕ) (c : ℕ) → GoesOn Hex word rest → rest ≡ c ∷ after → is_hex_digit c ≡ false → Reaches Hex word rest
stuck_digit word [] after c h e k = reached Hex word [] h tt
stuck_digit word (x ∷ xs) after c h e k =
    let same : x ≡ c = cc in
    reached Hex word (x ∷ xs) h (rw same k)

-- ---- what a word reaches

no_digits : (front rest : List ℕ) (c : ℕ) → AllPass is_hex_digit (front ++ c ∷ rest) → is_hex_digit c ≡ true
no_digits [] rest c h = All-head (λ (x : ℕ). is_hex_digit x ≡ true) c rest h
no_digits (a ∷ al) rest c h = no_digits al rest c (All-tail (λ (x : ℕ). is_hex_digit x ≡ true) a (al ++ c ∷ rest) h)

-- behind a digit that is missing, or at a byte that is none, no word of hex goes on
no_hex : (word front rest bytes : List ℕ) (byte : Option ℕ) → word ≢ codes "." → word ≡ front ++ rest → IsStuck Hex rest → IsAt Hex front rest byte
    → IsBytesWord word bytes → ⊥
no_hex word front rest [] byte other e k at h = other h
no_hex word front [] (b ∷ bs) None other e k (inl none) h =
    omega (arith, (decode_of-ok word (b ∷ bs) h).2, ap length e, length-append front [])
no_hex word front [] (b ∷ bs) None other e k (inr odd) h =
    omega (arith, (decode_of-ok word (b ∷ bs) h).0, ap length e, length-append front [])
no_hex word front [] (b ∷ bs) (Some x) other e k at h = at
no_hex word front (c ∷ cs) (b ∷ bs) byte other e k at h =
    let digits = subst (λ (l : List ℕ). AllPass is_hex_digit l) e (decode_of-ok word (b ∷ bs) h).1 in
    let yes = no_digits front cs c digits in
    absurd cc

no_text : (word rest bytes : List ℕ) (byte : Option ℕ) (h : Reaches Text word rest) → word ≢ codes "." → IsAt Text h.front rest byte
    → IsTextWord word bytes → ⊥
no_text word [] bytes None h other at k = omega (arith, word_some Text word bytes k, ap length h.is, length-append h.front [])
no_text word [] bytes (Some x) h other at k = at
no_text word (c ∷ cs) bytes byte h other at k =
    taken_stuck word h.begun.0 (c ∷ cs) bytes other (record { front = h.front; is = h.is; parts = h.begun.1 }) (omega arith) h.stuck k

pub no_word : (form : Form) (word rest bytes : List ℕ) (byte : Option ℕ) (h : Reaches form word rest) → word ≢ codes "." → IsAt form h.front rest byte
    → IsWord form word bytes → ⊥
no_word Hex word rest bytes byte h other at k = no_hex word h.front rest bytes byte other h.is h.stuck at k
no_word Text word rest bytes byte h other at k = no_text word rest bytes byte h other at k

hex_word : (word bytes : List ℕ) → 0 < length word → decode_of word ≡ Ok bytes → IsBytesWord word bytes
hex_word word [] some h = absurd (omega (arith, (decode_of-ok word [] h).2))
hex_word word (b ∷ bs) some h = h

-- a word that goes on to its end, and may end there, spells bytes
pub whole_word : (form : Form) (word rest : List ℕ) → Reaches form word rest → word ≢ codes "." → length rest ≡ 0 → (IsCutOff form word → ⊥)
    → (bytes : List ℕ) × IsWord form word bytes
whole_word Hex word [] h other e fits =
    let all = subst (λ (l : List ℕ). AllPass is_hex_digit l) (sym (h.is ∙ append-nil h.front)) h.begun in
    let some : 0 < length word = elim (cases_lt 0 (length word)) [ inl some ↦ some | inr none ↦ absurd (fits (inl (omega arith))) ] in
    let even : length word % 2 ≡ 0 = elim (cases_eq (length word % 2) 1) [ inl odd ↦ absurd (fits (inr odd)) | inr even ↦ omega arith ] in
    let d = decode_of-digits word even all in
    (d.0, hex_word word d.0 some d.1)
whole_word Text word [] h other e fits =
    let some : 0 < length word = elim (cases_lt 0 (length word)) [ inl some ↦ some | inr none ↦ absurd (fits (omega arith)) ] in
    (h.begun.0, taken_all word h.begun.0 [] other some (record { front = h.front; is = h.is; parts = h.begun.1 }) refl)
whole_word form word (c ∷ cs) h other e fits = absurd (omega arith)

-- ---- the fault

pub at_byte : (form : Form) (front rest : List ℕ) → 1 ≤ length rest → IsAt form front rest (Some (slice_index_or rest 0 0))
at_byte form front [] some = absurd (omega arith)
at_byte form front (c ∷ cs) some = refl

pub fault_at_byte : (form : Form) (word rest : List ℕ) → Reaches form word rest → 1 ≤ length rest
    → IsSyntaxFault form word (record { form = form; before = length word - length rest; byte = Some (slice_index_or rest 0 0) })
fault_at_byte form word rest h some = record {
  rest = rest;
  reached = h;
  before = omega (arith, ap length h.is, length-append h.front rest);
  at = at_byte form h.front rest some;
  form_is = refl;
}

-- the word ends where it may not
pub at_end : (form : Form) (word rest : List ℕ) (h : Reaches form word rest) → length rest ≡ 0 → IsCutOff form word → IsAt form h.front rest None
at_end form word [] h e cut = subst (λ (l : List ℕ). IsCutOff form l) (h.is ∙ append-nil h.front) cut
at_end form word (c ∷ cs) h e cut = absurd (omega arith)

pub fault_at_end : (form : Form) (word rest : List ℕ) → Reaches form word rest → length rest ≡ 0 → IsCutOff form word
    → IsSyntaxFault form word (record { form = form; before = length word; byte = None })
fault_at_end form word rest h e cut = record {
  rest = rest;
  reached = h;
  before = omega (arith, ap length h.is, length-append h.front rest);
  at = at_end form word rest h e cut;
  form_is = refl;
}
