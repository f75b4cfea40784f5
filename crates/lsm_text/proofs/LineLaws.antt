-- A line is read as it is spelled, and spelled as it is read.
use Rattle.std.proofs.Common.{◌≡◌, ◌≢◌, ℕ, ◌<◌, ◌≤◌, true, false, List, [], ◌∷◌, ◌++◌, length, codes, Option, Some, None, refl, sym, ap, ◌∙◌, subst, arith, inl, inr}
use Rattle.std.proofs.lemmas.Bool.{cases_Bool}
use Rattle.std.proofs.lemmas.Slice.Eq.{bytes_eq-Decides}
use Rattle.std.specs.Str.{bytes_eq}
use Rattle.std.specs.Str.Parse.{AllDigits}
use Rattle.std.proofs.lemmas.Str.Parse.{digit_from_value}
use Rattle.std.proofs.lemmas.List.Elements.{All-head, All-tail}
use Rattle.std.specs.List.{AllPass}
use Rattle.hex.specs.Hex.{is_hex_digit}
use Rattle.hex.proofs.HexLemmas.{decode_of-ok}
use Rattle.lsm_codec.specs.declared.kind.Kind.{Kind}
use Rattle.lsm_codec.specs.declared.kind.Kind.TheVariants.{Deletion, Value}
use Rattle.lsm_codec.specs.Entries.{Entry}
use Rattle.lsm_batch.specs.Limits.{most_key, most_value}
use Rattle.lsm_text.specs.EntryList.{IsBytesWord, IsAction, IsEntryLine}
use Rattle.lsm_text.specs.EntryReading.{◌>>=◌, parts_at, bytes_at, sequence_at, put_at, action_at, entry_at}
use Rattle.lsm_text.proofs.PartLaws.{HasNo, parts_take, parts_again}
use Rattle.lsm_text.proofs.WordLaws.{bytes_takes, bytes_again}
use Rattle.lsm_text.proofs.SequenceLaws.{sequence_takes, sequence_again}

bind_some : {A B : Type 0} (o : Option A) (f : A → Option B) (y : B) → (o >>= f) ≡ Some y → (x : A) × (o ≡ Some x) × (f x ≡ Some y)
bind_some (Some x) f y e = (x, refl, e)
bind_some None f y e = absurd cc

-- ---- words have neither a space nor a newline

-- no digit, and no dot
abbrev pub IsBetween : ℕ → Type 0
IsBetween separator = (separator < 46) × (is_hex_digit separator ≡ false)

pub digits-HasNo : (separator : ℕ) (ds : List ℕ) → IsBetween separator → AllDigits 10 ds → HasNo separator ds
digits-HasNo separator [] b h = tt
digits-HasNo separator (c ∷ cs) b h =
    let range = digit_from_value c h.0 in
    (λ e. absurd (omega (arith, range.0, b.0)), digits-HasNo separator cs b h.1)

pub hex_digit-other : (separator c : ℕ) → is_hex_digit separator ≡ false → is_hex_digit c ≡ true → c ≢ separator
hex_digit-other separator c b h e = let bad : true ≡ false = sym h ∙ ap is_hex_digit e ∙ b in absurd cc

hex-HasNo : (separator : ℕ) (cs : List ℕ) → is_hex_digit separator ≡ false → AllPass is_hex_digit cs → HasNo separator cs
hex-HasNo separator [] b h = tt
hex-HasNo separator (c ∷ cs) b h = (
  hex_digit-other separator c b (All-head (λ (x : ℕ). is_hex_digit x ≡ true) c cs h),
  hex-HasNo separator cs b (All-tail (λ (x : ℕ). is_hex_digit x ≡ true) c cs h),
)

dot-HasNo : (separator : ℕ) (word : List ℕ) → separator < 46 → word ≡ codes "." → HasNo separator word
dot-HasNo separator word b e = rw e ((λ bad. absurd (omega arith)), tt)

pub word-HasNo : (separator : ℕ) (word bytes : List ℕ) → IsBetween separator → IsBytesWord word bytes → HasNo separator word
word-HasNo separator word [] b h = dot-HasNo separator word b.0 h
word-HasNo separator word (c ∷ cs) b h = hex-HasNo separator word b.1 (decode_of-ok word (c ∷ cs) h).1

pub space : IsBetween 32
space = (omega arith, refl)

pub newline : IsBetween 10
newline = (omega arith, refl)

-- ---- what stands after the sequence

value_of : (act : Kind × List ℕ) (word value : List ℕ) → Some (Value, value) ≡ Some act → (action : List ℕ) → action ≡ codes "put " ++ word
    → IsBytesWord word value → length value ≤ most_value → IsAction action act.0 act.1
value_of act word value e action is spells fits =
    let same : (Value, value) ≡ act = cc in
    rw (← same) (word, is, spells, fits)

action_takes-put : (action : List ℕ) (parts : List ℕ × List ℕ) (act : Kind × List ℕ) → action ≡ parts.0 ++ (32 ∷ parts.1)
    → put_at parts ≡ Some act → IsAction action act.0 act.1
action_takes-put action parts act is h = elim (cases_Bool (bytes_eq parts.0 (codes "put"))) [
  | inl put ↦
      let verb : parts.0 ≡ codes "put" = (bytes_eq-Decides parts.0 (codes "put")).0 put in
      let b = bind_some (bytes_at most_value parts.1) _ act (rw put at h) in
      let t = bytes_takes most_value parts.1 b.0 b.1 in
      let whole : action ≡ codes "put " ++ parts.1 = is ∙ ap (λ (v : List ℕ). v ++ (32 ∷ parts.1)) verb in
      value_of act parts.1 b.0 b.2 action whole t.0 t.1
  | inr other ↦ let bad : None ≡ Some act = rw other at h in absurd cc
]

deletion_of : (act : Kind × List ℕ) (action : List ℕ) → Some (Deletion, []) ≡ Some act → action ≡ codes "del" → IsAction action act.0 act.1
deletion_of act action e is =
    let same : (Deletion, []) ≡ act = cc in
    rw (← same) (is, refl)

pub action_takes : (action : List ℕ) (act : Kind × List ℕ) → action_at action ≡ Some act → IsAction action act.0 act.1
unfolding action_at
action_takes action act h = elim (cases_Bool (bytes_eq action (codes "del"))) [
  | inl del ↦ deletion_of act action (rw del at h) ((bytes_eq-Decides action (codes "del")).0 del)
  | inr other ↦
      let b = bind_some (parts_at 32 action) _ act (rw other at h) in
      let p = parts_take 32 action b.0 b.1 in
      action_takes-put action b.0 act p.0 b.2
]

put-HasNo : HasNo 32 (codes "put")
put-HasNo = ((λ e. absurd (omega arith)), ((λ e. absurd (omega arith)), ((λ e. absurd (omega arith)), tt)))

pub action_again : (action : List ℕ) (kind : Kind) (value : List ℕ) → IsAction action kind value → action_at action ≡ Some (kind, value)
unfolding action_at
action_again action Deletion value h =
    let del = (bytes_eq-Decides action (codes "del")).1 h.0 in
    rw (del, h.1) refl
action_again action Value value h =
    let e1 : parts_at 32 (codes "put " ++ h.0) ≡ Some (codes "put", h.0) = parts_again 32 (codes "put") h.0 put-HasNo in
    let e2 = bytes_again most_value h.0 value h.2 h.3 in
    rw (h.1, e1, e2) refl

-- ---- the line

pub entry_takes : (line : List ℕ) (e : Entry) → entry_at line ≡ Some e → IsEntryLine line e
unfolding entry_at
entry_takes line e h =
    let b1 = bind_some (parts_at 32 line) _ e h in
    let k = b1.0 in
    let b2 = bind_some (parts_at 32 k.1) _ e b1.2 in
    let s = b2.0 in
    let b3 = bind_some (bytes_at most_key k.0) _ e b2.2 in
    let b4 = bind_some (sequence_at s.0) _ e b3.2 in
    let b5 = bind_some (action_at s.1) _ e b4.2 in
    let p1 = parts_take 32 line k b1.1 in
    let p2 = parts_take 32 k.1 s b2.1 in
    let t3 = bytes_takes most_key k.0 b3.0 b3.1 in
    let found : Entry = record { user = b3.0; seq = b4.0; kind = b5.0.0; value = b5.0.1 } in
    let same : found ≡ e = let w : Some found ≡ Some e = b5.2 in cc in
    let spelled : IsEntryLine line found = record {
      key_word = k.0;
      sequence_word = s.0;
      action = s.1;
      line_is = p1.0 ∙ ap (λ (x : List ℕ). k.0 ++ (32 ∷ x)) p2.0;
      key = t3.0;
      key_fits = t3.1;
      sequence = sequence_takes s.0 b4.0 b4.1;
      acts = action_takes s.1 b5.0 b5.1;
    } in
    subst (λ (x : Entry). IsEntryLine line x) same spelled

pub entry_again : (line : List ℕ) (e : Entry) → IsEntryLine line e → entry_at line ≡ Some e
unfolding entry_at
entry_again line e l =
    let e1 = parts_again 32 l.key_word (l.sequence_word ++ (32 ∷ l.action)) (word-HasNo 32 l.key_word e.user space l.key) in
    let e2 = parts_again 32 l.sequence_word l.action (digits-HasNo 32 l.sequence_word space l.sequence.number.digits.1) in
    let e3 = bytes_again most_key l.key_word e.user l.key l.key_fits in
    let e4 = sequence_again l.sequence_word e.seq l.sequence in
    let e5 = action_again l.action e.kind e.value l.acts in
    ap entry_at l.line_is ∙ rw (e1, e2, e3, e4, e5) refl
