-- A line has one mistake at most.
use Rattle.std.proofs.Common.{◌≡◌, ℕ, ◌+◌, Bool, true, false, List, [], ◌∷◌, ◌++◌, length, Option, Some, None, refl, sym, ap, ◌∙◌, subst, append_assoc, inl, inr}
use Rattle.std.specs.Prelude.{IsTrue, MatchBool, ◌↔◌}
use Rattle.std.specs.List.{AllPass}
use Rattle.std.proofs.lemmas.List.Elements.{All-head, All-tail}
use Rattle.hex.specs.Hex.{is_hex_digit}
use Rattle.lsm_text.specs.Spelling.{AreParts, IsPart, escaped, is_plain}
use Rattle.lsm_text.specs.SyntaxFault.{IsAt, IsStuck, IsSyntaxFault, Reaches}
use Rattle.lsm_text.specs.declared.form.Form.{Form}
use Rattle.lsm_text.specs.declared.form.Form.TheVariants.{Hex, Text}
use Rattle.lsm_text.specs.declared.syntax_fault.SyntaxFault.{SyntaxFault}
use Rattle.lsm_script.specs.Words.{words_of}
use Rattle.lsm_cmd_shell.specs.Mistakes.{IsBehind, IsFirstWrong, IsMistake, IsNoBytes, IsNoFrom, IsNoNumber, IsNoWrite, IsWordMistake, IsWrongWord, begins_blank, ends_in_return, kind_of, wants_of}
use Rattle.lsm_cmd_shell.specs.declared.line_kind.LineKind.{LineKind}
use Rattle.lsm_cmd_shell.specs.declared.want.Want.{Want}
use Rattle.lsm_cmd_shell.specs.declared.want.Want.TheVariants.{Key, Value, From, FromBeside, To, KeyWrite, Limit, Count, Snapshot, Pin, Ticket, Level}
use Rattle.lsm_cmd_shell.specs.declared.mistake.Wrong.{Wrong}
use Rattle.lsm_cmd_shell.specs.declared.mistake.Wrong.TheVariants.{NoBytes, NoWrite}
use Rattle.lsm_cmd_shell.specs.declared.mistake.Mistake.{Mistake}
use Rattle.lsm_cmd_shell.specs.declared.mistake.Mistake.TheVariants.{Word as WordMistake}

-- ---- how far a word goes on

hex_same : (f g r s : List ℕ) → AllPass is_hex_digit f → AllPass is_hex_digit g → IsStuck Hex r → IsStuck Hex s → f ++ r ≡ g ++ s → (f ≡ g) × (r ≡ s)
hex_same [] [] r s h k x y e = (refl, e)
hex_same [] (c ∷ g) r s h k x y e =
    let digit = All-head (λ (a : ℕ). is_hex_digit a ≡ true) c g k in
    let other : is_hex_digit c ≡ false = subst (λ (l : List ℕ). IsStuck Hex l) e x in
    absurd cc
hex_same (a ∷ f) [] r s h k x y e =
    let digit = All-head (λ (b : ℕ). is_hex_digit b ≡ true) a f h in
    let other : is_hex_digit a ≡ false = subst (λ (l : List ℕ). IsStuck Hex l) (sym e) y in
    absurd cc
hex_same (a ∷ f) (c ∷ g) r s h k x y e =
    let first : a ≡ c = cc in
    let rest : f ++ r ≡ g ++ s = cc in
    let later = hex_same f g r s (All-tail (λ (b : ℕ). is_hex_digit b ≡ true) a f h) (All-tail (λ (b : ℕ). is_hex_digit b ≡ true) c g k) x y rest in
    let front : f ≡ g = later.0 in
    (cc, later.1)

-- a backslash does not stand for itself
no_escape : (a b : ℕ) (r s : List ℕ) → is_plain a ≡ true → a ∷ r ≡ escaped b ++ s → ⊥
no_escape a b r s h e =
    let slash : a ≡ 92 = cc in
    let bad : is_plain 92 ≡ true = subst (λ x. is_plain x ≡ true) slash h in
    absurd cc

-- the first part of a text is one
part_same : (p q r s : List ℕ) (a b : ℕ) → p ++ r ≡ q ++ s → IsPart p a → IsPart q b → (p ≡ q) × (r ≡ s)
part_same p q r s a b e (inl x) (inl y) =
    let h : a ∷ r ≡ b ∷ s = ap (λ (l : List ℕ). l ++ r) (sym x.0) ∙ e ∙ ap (λ (l : List ℕ). l ++ s) y.0 in
    let same : a ≡ b = cc in
    let rest : r ≡ s = cc in
    (x.0 ∙ ap (λ (c : ℕ). c ∷ []) same ∙ sym y.0, rest)
part_same p q r s a b e (inl x) (inr y) =
    absurd (no_escape a b r s x.1 (ap (λ (l : List ℕ). l ++ r) (sym x.0) ∙ e ∙ ap (λ (l : List ℕ). l ++ s) y.0))
part_same p q r s a b e (inr x) (inl y) =
    absurd (no_escape b a s r y.1 (ap (λ (l : List ℕ). l ++ s) (sym y.0) ∙ sym e ∙ ap (λ (l : List ℕ). l ++ r) x.0))
part_same p q r s a b e (inr x) (inr y) =
    let h : escaped a ++ r ≡ escaped b ++ s = ap (λ (l : List ℕ). l ++ r) (sym x.0) ∙ e ∙ ap (λ (l : List ℕ). l ++ s) y.0 in
    let whole : escaped a ≡ escaped b = cc in
    let rest : r ≡ s = cc in
    (x.0 ∙ whole ∙ sym y.0, rest)

no_part : (r part after : List ℕ) (b : ℕ) → IsStuck Text r → r ≡ part ++ after → IsPart part b → ⊥
no_part [] part after b stuck e (inl h) =
    let none : [] ≡ b ∷ after = e ∙ ap (λ (l : List ℕ). l ++ after) h.0 in
    absurd cc
no_part [] part after b stuck e (inr h) =
    let none : [] ≡ escaped b ++ after = e ∙ ap (λ (l : List ℕ). l ++ after) h.0 in
    absurd cc
no_part (c ∷ cs) part after b stuck e h = stuck b part after e h

text_same : (f g r s bs ds : List ℕ) → AreParts f bs → AreParts g ds → IsStuck Text r → IsStuck Text s → f ++ r ≡ g ++ s → (f ≡ g) × (r ≡ s)
text_same f g r s [] [] h k x y e = (h ∙ sym k, ap (λ (l : List ℕ). l ++ r) (sym h) ∙ e ∙ ap (λ (l : List ℕ). l ++ s) k)
text_same f g r s [] (d ∷ ds) h k x y e =
    absurd (no_part r k.0 (k.1 ++ s) d x (ap (λ (l : List ℕ). l ++ r) (sym h) ∙ e ∙ ap (λ (l : List ℕ). l ++ s) k.2 ∙ append_assoc k.0 k.1 s) k.3)
text_same f g r s (b ∷ bs) [] h k x y e =
    absurd (no_part s h.0 (h.1 ++ r) b y (ap (λ (l : List ℕ). l ++ s) (sym k) ∙ sym e ∙ ap (λ (l : List ℕ). l ++ r) h.2 ∙ append_assoc h.0 h.1 r) h.3)
text_same f g r s (b ∷ bs) (d ∷ ds) h k x y e =
    let whole : h.0 ++ (h.1 ++ r) ≡ k.0 ++ (k.1 ++ s) = sym (ap (λ (l : List ℕ). l ++ r) h.2 ∙ append_assoc h.0 h.1 r) ∙ e ∙ ap (λ (l : List ℕ). l ++ s) k.2 ∙ append_assoc k.0 k.1 s in
    let first = part_same h.0 k.0 (h.1 ++ r) (k.1 ++ s) b d whole h.3 k.3 in
    let later = text_same h.1 k.1 r s bs ds h.4 k.4 x y first.1 in
    (h.2 ∙ ap (λ (l : List ℕ). l ++ h.1) first.0 ∙ ap (λ (l : List ℕ). k.0 ++ l) later.0 ∙ sym k.2, later.1)

reached_same : (form : Form) (word r s : List ℕ) (h : Reaches form word r) (k : Reaches form word s) → (h.front ≡ k.front) × (r ≡ s)
reached_same Hex word r s h k = hex_same h.front k.front r s h.begun k.begun h.stuck k.stuck (sym h.is ∙ k.is)
reached_same Text word r s h k = text_same h.front k.front r s h.begun.0 k.begun.0 h.begun.1 k.begun.1 h.stuck k.stuck (sym h.is ∙ k.is)

-- ---- where it stops

byte_same : (form : Form) (f g r s : List ℕ) (a b : Option ℕ) → r ≡ s → IsAt form f r a → IsAt form g s b → a ≡ b
byte_same form f g [] [] None None e h k = refl
byte_same form f g [] [] None (Some y) e h k = absurd k
byte_same form f g [] [] (Some x) b e h k = absurd h
byte_same form f g [] (d ∷ ds) a b e h k = absurd cc
byte_same form f g (c ∷ cs) [] a b e h k = absurd cc
byte_same form f g (c ∷ cs) (d ∷ ds) None b e h k = absurd h
byte_same form f g (c ∷ cs) (d ∷ ds) (Some x) None e h k = absurd k
byte_same form f g (c ∷ cs) (d ∷ ds) (Some x) (Some y) e h k =
    let same : x ≡ y = cc in
    ap (λ (z : ℕ). Some z) same

fault_is : (p q : Form) (i j : ℕ) (a b : Option ℕ) → p ≡ q → i ≡ j → a ≡ b
    → ◌≡◌ {A = SyntaxFault} (record { form = p; before = i; byte = a }) (record { form = q; before = j; byte = b })
fault_is p q i j a b e f g =
    ap (λ (x : Form). record { form = x; before = i; byte = a }) e ∙ ap (λ (x : ℕ). record { form = q; before = x; byte = a }) f ∙ ap (λ (x : Option ℕ). record { form = q; before = j; byte = x }) g

fault_same : (form : Form) (word : List ℕ) (x y : SyntaxFault) → IsSyntaxFault form word x → IsSyntaxFault form word y → x ≡ y
fault_same form word x y h k =
    let same = reached_same form word h.rest k.rest h.reached k.reached in
    fault_is x.form y.form x.before y.before x.byte y.byte (h.form_is ∙ sym k.form_is) (h.before ∙ ap length same.0 ∙ sym k.before) (byte_same form h.reached.front k.reached.front h.rest k.rest x.byte y.byte same.1 h.at k.at)

-- ---- one word

flag_same : (a b : Bool) (P : Type 0) → (IsTrue a ↔ P) → (IsTrue b ↔ P) → a ≡ b
flag_same true true P h k = refl
flag_same true false P h k = sym (k.1 (h.0 refl))
flag_same false true P h k = h.1 (k.0 refl)
flag_same false false P h k = refl

bytes_same : (form : Form) (want : Want) (word : List ℕ) (v w : Wrong) → IsNoBytes form want word v → IsNoBytes form want word w → v ≡ w
bytes_same form want word v w h k =
    let fault = fault_same form word h.fault k.fault h.place k.place in
    let text = flag_same h.text k.text _ h.instead k.instead in
    h.is ∙ ap (λ (x : SyntaxFault). NoBytes want x h.text) fault ∙ ap (λ (x : Bool). NoBytes want k.fault x) text ∙ sym k.is

from_same : (form : Form) (word : List ℕ) (v w : Wrong) → IsNoFrom form word v → IsNoFrom form word w → v ≡ w
from_same form word v w (inl h) (inl k) = bytes_same form FromBeside word v w h k
from_same form word v w (inl h) (inr k) = absurd (k.0 v h)
from_same form word v w (inr h) (inl k) = absurd (h.0 w k)
from_same form word v w (inr h) (inr k) = h.2 ∙ sym k.2

write_same : (form : Form) (word : List ℕ) (v w : Wrong) → IsNoWrite form word v → IsNoWrite form word w → v ≡ w
write_same form word v w h k =
    let text = flag_same h.text k.text _ h.instead k.instead in
    h.is ∙ ap (λ (x : Bool). NoWrite form x) text ∙ sym k.is

number_same : (want : Want) (word : List ℕ) (v w : Wrong) → IsNoNumber want word v → IsNoNumber want word w → v ≡ w
number_same want word v w h k = h.0 ∙ sym k.0

wrong_same : (form : Form) (want : Want) (word : List ℕ) (v w : Wrong) → IsWrongWord form want word v → IsWrongWord form want word w → v ≡ w
wrong_same form Key word v w h k = bytes_same form Key word v w h k
wrong_same form Value word v w h k = bytes_same form Value word v w h k
wrong_same form From word v w h k = bytes_same form From word v w h k
wrong_same form FromBeside word v w h k = from_same form word v w h k
wrong_same form To word v w h k = bytes_same form To word v w h k
wrong_same form KeyWrite word v w h k = write_same form word v w h k
wrong_same form Limit word v w h k = absurd h
wrong_same form Count word v w h k = number_same Count word v w h k
wrong_same form Snapshot word v w h k = number_same Snapshot word v w h k
wrong_same form Pin word v w h k = number_same Pin word v w h k
wrong_same form Ticket word v w h k = number_same Ticket word v w h k
wrong_same form Level word v w h k = number_same Level word v w h k

-- ---- one line

first_same : (form : Form) (n : ℕ) (ts : List Want) (ws : List (List ℕ)) (l m : Mistake) → IsFirstWrong form n ts ws l → IsFirstWrong form n ts ws m → l ≡ m
first_same form n [] [] l m h k = absurd h
first_same form n [] (w ∷ ws) l m h k = h ∙ sym k
first_same form n (t ∷ ts) [] l m h k = h ∙ sym k
first_same form n (t ∷ ts) (w ∷ ws) l m (inl h) (inl k) = h.1 ∙ ap (λ (x : Wrong). WordMistake n x) (wrong_same form t w h.0 k.0 h.2 k.2) ∙ sym k.1
first_same form n (t ∷ ts) (w ∷ ws) l m (inl h) (inr k) = absurd (k.0 h.0 h.2)
first_same form n (t ∷ ts) (w ∷ ws) l m (inr h) (inl k) = absurd (h.0 k.0 k.2)
first_same form n (t ∷ ts) (w ∷ ws) l m (inr h) (inr k) = first_same form (n + 1) ts ws l m h.1 k.1

behind_same : (form : Form) (kind : Option LineKind) (ws : List (List ℕ)) (l m : Mistake) → IsBehind form kind ws l → IsBehind form kind ws m → l ≡ m
behind_same form None ws l m h k = absurd h
behind_same form (Some kind) ws l m h k = first_same form 2 (wants_of kind ws) ws l m h k

words_same : (form : Form) (ws : List (List ℕ)) (l m : Mistake) → IsWordMistake form ws l → IsWordMistake form ws m → l ≡ m
words_same form [] l m h k = absurd h
words_same form (name ∷ ws) l m h k = behind_same form (kind_of name) ws l m h k

chosen : (b : Bool) (P Q R S : Type 0) (T : Type 0) → (P → R → T) → (Q → S → T) → MatchBool b P Q → MatchBool b R S → T
chosen true P Q R S T f g h k = f h k
chosen false P Q R S T f g h k = g h k

pub one_mistake : (form : Form) (line : List ℕ) (l m : Mistake) → IsMistake form line l → IsMistake form line m → l ≡ m
one_mistake form line l m h k =
    chosen (begins_blank line) _ _ _ _ (l ≡ m) (λ x y. x ∙ sym y) (λ x y. chosen (ends_in_return line) _ _ _ _ (l ≡ m) (λ u v. u ∙ sym v) (λ u v. words_same form (words_of line) l m u v) x y) h k
