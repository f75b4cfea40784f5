-- What is printed for entries is a list of just those entries.
use Rattle.std.proofs.Common.{◌≡◌, ℕ, ◌^◌, ◌<◌, List, [], ◌∷◌, ◌++◌, decimal, refl, sym, ap, ◌∙◌, subst, arith, append_assoc}
use Rattle.std.specs.List.{flat_map}
use Rattle.std.specs.Prelude.{All}
use Rattle.std.proofs.lemmas.Fmt.{decimal_is_IsNumeral, length-decimal-le}
use Rattle.std.proofs.lemmas.List.Elements.{All-head, All-tail}
use Rattle.hex.specs.Hex.{IsBytes}
use Rattle.hex.proofs.HexLemmas.{decode_of-encode_lower}
use Rattle.lsm_codec.specs.declared.kind.Kind.{Kind}
use Rattle.lsm_codec.specs.declared.kind.Kind.TheVariants.{Deletion, Value}
use Rattle.lsm_block.specs.Block.{Ascends}
use Rattle.lsm_codec.specs.Entries.{Entry}
use Rattle.lsm_text.specs.EntryList.{IsBytesWord, IsSequenceWord, IsAction, IsEntryLine, IsEntryList, AreEntryLines, lines_of}
use Rattle.lsm_text.specs.EntryPrinting.{bytes_word, action_text, entry_line, entry_list, IsPlainValue, IsListable}
use Rattle.lsm_text.proofs.PartLaws.{HasNo, HasNo-append, parts_again, first_line_is, lines_of-nil}
use Rattle.lsm_text.proofs.LineLaws.{newline, digits-HasNo, word-HasNo}

pub bytes_word-is : (bytes : List ℕ) → IsBytes bytes → IsBytesWord (bytes_word bytes) bytes
bytes_word-is [] h = refl
bytes_word-is (b ∷ bs) h = decode_of-encode_lower (b ∷ bs) h

pub decimal-is : (seq : ℕ) → seq < 2 ^ 56 → IsSequenceWord (decimal seq) seq
decimal-is seq h =
    let n = decimal_is_IsNumeral seq (omega arith) in
    record {
      number = record { digits = n.0; value = n.1; fits = omega (arith, h) };
      short = length-decimal-le 20 seq (omega arith) (omega arith) (omega arith);
    }

action_text-is : (kind : Kind) (value : List ℕ) → IsPlainValue kind value → IsAction (action_text kind value) kind value
action_text-is Deletion value h = (refl, h)
action_text-is Value value h = (bytes_word value, refl, bytes_word-is value h.1, h.0)

-- the line without its newline
abbrev pub bare_line : Entry → List ℕ
bare_line e = bytes_word e.user ++ (32 ∷ (decimal e.seq ++ (32 ∷ action_text e.kind e.value)))

entry_line-bare : (e : Entry) → entry_line e ≡ bare_line e ++ (10 ∷ [])
unfolding entry_line
entry_line-bare e = simp append_assoc

bare_line-is : (e : Entry) → IsListable e → IsEntryLine (bare_line e) e
bare_line-is e h = record {
  key_word = bytes_word e.user;
  sequence_word = decimal e.seq;
  action = action_text e.kind e.value;
  line_is = refl;
  key = bytes_word-is e.user h.key_bytes;
  key_fits = h.key_fits;
  sequence = decimal-is e.seq h.seq_fits;
  acts = action_text-is e.kind e.value h.plain;
}

action-HasNo : (kind : Kind) (value : List ℕ) → IsPlainValue kind value → HasNo 10 (action_text kind value)
action-HasNo Deletion value h = ((λ e. absurd (omega arith)), ((λ e. absurd (omega arith)), ((λ e. absurd (omega arith)), tt)))
action-HasNo Value value h =
    let word = word-HasNo 10 (bytes_word value) value newline (bytes_word-is value h.1) in
    ((λ e. absurd (omega arith)), ((λ e. absurd (omega arith)), ((λ e. absurd (omega arith)), ((λ e. absurd (omega arith)), word))))

bare_line-HasNo : (e : Entry) → IsListable e → HasNo 10 (bare_line e)
bare_line-HasNo e h =
    let key = word-HasNo 10 (bytes_word e.user) e.user newline (bytes_word-is e.user h.key_bytes) in
    let seq = digits-HasNo 10 (decimal e.seq) newline (decimal-is e.seq h.seq_fits).number.digits.1 in
    let act = action-HasNo e.kind e.value h.plain in
    let tail = HasNo-append 10 (decimal e.seq) (32 ∷ action_text e.kind e.value) seq ((λ e. absurd (omega arith)), act) in
    HasNo-append 10 (bytes_word e.user) (32 ∷ (decimal e.seq ++ (32 ∷ action_text e.kind e.value))) key ((λ e. absurd (omega arith)), tail)

lines_of-line : (e : Entry) (rest : List ℕ) → IsListable e → lines_of (entry_line e ++ rest) ≡ bare_line e ∷ lines_of rest
lines_of-line e rest h =
    let whole : entry_line e ++ rest ≡ bare_line e ++ (10 ∷ rest) = ap (λ (x : List ℕ). x ++ rest) (entry_line-bare e) ∙ append_assoc (bare_line e) (10 ∷ []) rest in
    ap lines_of whole ∙ first_line_is (bare_line e ++ (10 ∷ rest)) (bare_line e, rest) (parts_again 10 (bare_line e) rest (bare_line-HasNo e h))

printed_lines : (es : List Entry) → All IsListable es → AreEntryLines (lines_of (entry_list es)) es
unfolding entry_list
printed_lines [] h = rw lines_of-nil tt
printed_lines (e ∷ es) h =
    let first = All-head IsListable e es h in
    let later = printed_lines es (All-tail IsListable e es h) in
    let lines = lines_of-line e (flat_map entry_line es) first in
    subst (λ (ls : List (List ℕ)). AreEntryLines ls (e ∷ es)) (sym lines) (bare_line-is e first, later)

pub entry_list-is : (es : List Entry) → All IsListable es → Ascends es → IsEntryList (entry_list es) es
entry_list-is es h a = record { spelled = printed_lines es h; ascending = a }
