-- A whole text of entries that is read is spelled so, and the other way round.
use Rattle.std.proofs.Common.{◌≡◌, ℕ, zero, suc, ◌+◌, ◌-◌, ◌<◌, ◌≤◌, Bool, true, false, List, [], ◌∷◌, ◌++◌, length, Option, Some, None, Less, Equal, Greater, Ordering, refl, sym, ap, ◌∙◌, subst, arith, inl, inr}
use Rattle.std.specs.Prelude.{◌⊎◌}
use Rattle.std.specs.List.{AllByRecursion}
use Rattle.std.specs.Ordering.{is_lt}
use Rattle.std.proofs.lemmas.List.{length-append}
use Rattle.lsm_codec.specs.Keys.{key_cmp, key_at}
use Rattle.lsm_codec.specs.Entries.{Entry, entry_cmp}
use Rattle.lsm_codec.proofs.CallerLemmas.{IsBytes, IsBytes-after}
use Rattle.lsm_block.specs.Block.{Spells, Ascends, start_at, key_text}
use Rattle.lsm_block.specs.Reading.{Piece, PieceAt, Scan, nothing, entry_at, scan, entry, entries_of, starts_of, comes_after, if_not, disorder}
use Rattle.lsm_block.proofs.EntryLaws.{sharing, entry_again, entry_again_is, entry_takes, own-some}

-- ---- steps of a scan

abbrev pub placed_at : ℕ → Piece → PieceAt
placed_at offset p = record { offset = offset; piece = p }

pub scan-empty : (count total : ℕ) (before : List ℕ) → scan count total before [] ≡ nothing None
unfolding scan
scan-empty zero total before = refl
scan-empty (suc count) total before = refl

pub scan-some : (count total : ℕ) (before text : List ℕ) (p : Piece) (after : List ℕ) → 0 < length text → entry_at before text ≡ Some (p, after)
    → scan (suc count) total before text ≡ record { placed = placed_at (total - length text) p ∷ (scan count total p.key after).placed; stop = (scan count total p.key after).stop }
unfolding scan
scan-some count total before [] p after h is = absurd (omega arith)
scan-some count total before (b ∷ bs) p after h is = rw is refl

pub scan-none : (count total : ℕ) (before text : List ℕ) → 0 < length text → entry_at before text ≡ None → scan (suc count) total before text ≡ nothing (Some (total - length text))
unfolding scan
scan-none count total before [] h is = absurd (omega arith)
scan-none count total before (b ∷ bs) h is = rw is refl

-- ---- both ways

-- pieces that hold the entries
pub record Holds (scanned : Scan) (starts : List ℕ) (entries : List Entry) : Type 0 where
  pub placed : List PieceAt
  pub same : scanned ≡ record { placed = placed; stop = None }
  pub starts_are : starts_of placed ≡ starts
  pub entries_are : entries_of placed ≡ entries

pub scan_again : (entries : List Entry) (count offset total : ℕ) (before text starts : List ℕ) → Spells offset before text starts entries → offset + length text ≡ total → length text ≤ count
    → Holds (scan count total before text) starts entries
unfolding starts_of
scan_again [] count offset total before text starts s at le =
    record { placed = []; same = ap (scan count total before) s.0 ∙ scan-empty count total before; starts_are = sym s.1; entries_are = refl }
scan_again (e ∷ es) zero offset total before text starts s at le =
    absurd (omega (arith, ap length s.5, length-append s.1 s.2, own-some before s.1 e s.0 s.4))
scan_again (e ∷ es) (suc count) offset total before text starts s at le =
    let shared = s.0 in
    let own = s.1 in
    let rest = s.2 in
    let some = own-some before own e shared s.4 in
    let len : length text ≡ length own + length rest = ap length s.5 ∙ length-append own rest in
    let later = scan_again es count (offset + length own) total (key_text e) rest s.3 s.7 (omega arith) (omega arith) in
    let first = scan-some count total before text (sharing shared e) rest (omega arith) (ap (entry_at before) s.5 ∙ entry_again before own rest e shared s.4) in
    let here : total - length text ≡ offset = omega arith in
    record {
      placed = placed_at offset (sharing shared e) ∷ later.placed;
      same = first
          ∙ ap (λ (x : Scan). record { placed = placed_at (total - length text) (sharing shared e) ∷ x.placed; stop = x.stop }) later.same
          ∙ ap (λ (o : ℕ). record { placed = placed_at o (sharing shared e) ∷ later.placed; stop = None }) here;
      starts_are = ap (λ (xs : List ℕ). start_at shared offset ++ xs) later.starts_are ∙ sym s.6;
      entries_are = ap (λ (x : Entry). x ∷ entries_of later.placed) (entry_again_is shared e s.4.seq_fits) ∙ ap (λ (xs : List Entry). e ∷ xs) later.entries_are;
    }

pub either : {A : Type 0} (o : Option A) → (o ≡ None) ⊎ ((x : A) × (o ≡ Some x))
either None = inl refl
either (Some x) = inr (x, refl)

empty-is : (text : List ℕ) → length text ≤ 0 → text ≡ []
empty-is [] h = refl
empty-is (b ∷ bs) h = absurd (omega arith)

pub scan_takes : (count offset total : ℕ) (before text : List ℕ) → IsBytes before → IsBytes text → offset + length text ≡ total → length text ≤ count → (scan count total before text).stop ≡ None
    → Spells offset before text (starts_of (scan count total before text).placed) (entries_of (scan count total before text).placed)
unfolding scan starts_of
scan_takes zero offset total before text old fits at le stop = (empty-is text le, refl)
scan_takes (suc count) offset total before [] old fits at le stop = (refl, refl)
scan_takes (suc count) offset total before (b ∷ bs) old fits at le stop =
    let text : List ℕ = b ∷ bs in
    elim (either (entry_at before text)) [
      | inl none ↦
          let ends : (scan (suc count) total before text).stop ≡ Some (total - length text) = ap (λ (s : Scan). s.stop) (scan-none count total before text (omega arith) none) in
          let bad = sym ends ∙ stop in
          absurd cc
      | inr found ↦
          let p = found.0.0 in
          let rest = found.0.1 in
          let t = entry_takes before text p rest old fits found.1 in
          let some = own-some before t.own (entry p) p.shared t.is in
          let len : length text ≡ length t.own + length rest = ap length t.parts ∙ length-append t.own rest in
          let same = scan-some count total before text p rest (omega arith) found.1 in
          let later_scan = scan count total p.key rest in
          let ends : later_scan.stop ≡ None = sym (ap (λ (s : Scan). s.stop) same) ∙ stop in
          let later = scan_takes count (offset + length t.own) total p.key rest t.key_fits (IsBytes-after text t.own rest t.parts fits) (omega arith) (omega arith) ends in
          let there = subst (λ (k : List ℕ). Spells (offset + length t.own) k rest (starts_of later_scan.placed) (entries_of later_scan.placed)) (sym t.key_is) later in
          let here : total - length text ≡ offset = omega arith in
          let goal : Spells offset before text (start_at p.shared (total - length text) ++ starts_of later_scan.placed) (entry p ∷ entries_of later_scan.placed) =
          (p.shared, t.own, rest, starts_of later_scan.placed, t.is, t.parts, ap (λ (o : ℕ). start_at p.shared o ++ starts_of later_scan.placed) here, there) in
          subst (λ (s : Scan). Spells offset before text (starts_of s.placed) (entries_of s.placed)) (sym same) goal
    ]

-- ---- the order

pub is_less : (o : Ordering) → is_lt o ≡ true → o ≡ Less
is_less Less h = refl
is_less Equal h = absurd cc
is_less Greater h = absurd cc

pub less_is : (o : Ordering) → o ≡ Less → is_lt o ≡ true
less_is o h = ap is_lt h

pub after-key : (a b : List ℕ) → 0 < length a → comes_after a b ≡ is_lt (key_cmp (key_at a) (key_at b))
unfolding comes_after
after-key [] b h = absurd (omega arith)
after-key (x ∷ xs) b h = refl

-- each piece has a key
abbrev pub HaveKeys : List PieceAt → Type 0
HaveKeys placed = AllByRecursion (λ p. 0 < length p.piece.key) placed

if_not_none : (b : Bool) (offset : ℕ) (later : Option ℕ) → if_not b offset later ≡ None → (b ≡ true) × (later ≡ None)
if_not_none true offset later e = (refl, e)
if_not_none false offset later e = absurd cc

ascends-from : (p : PieceAt) (ps : List PieceAt) → HaveKeys (p ∷ ps) → disorder p.piece.key ps ≡ None → Ascends (entries_of (p ∷ ps))
unfolding disorder
ascends-from p [] k h = tt
ascends-from p (q ∷ ps) k h =
    let both = if_not_none (comes_after p.piece.key q.piece.key) q.offset (disorder q.piece.key ps) h in
    (is_less (entry_cmp (entry p.piece) (entry q.piece)) (sym (after-key p.piece.key q.piece.key k.0) ∙ both.0), ascends-from q ps k.1 both.1)

pub ascends : (ps : List PieceAt) → HaveKeys ps → disorder [] ps ≡ None → Ascends (entries_of ps)
unfolding disorder comes_after
ascends [] k h = tt
ascends (p ∷ ps) k h = ascends-from p ps k h

ordered-from : (p : PieceAt) (ps : List PieceAt) → HaveKeys (p ∷ ps) → Ascends (entries_of (p ∷ ps)) → disorder p.piece.key ps ≡ None
unfolding disorder
ordered-from p [] k h = refl
ordered-from p (q ∷ ps) k h =
    let yes : comes_after p.piece.key q.piece.key ≡ true = after-key p.piece.key q.piece.key k.0 ∙ less_is (entry_cmp (entry p.piece) (entry q.piece)) h.0 in
    rw yes (ordered-from q ps k.1 h.1)

pub ordered : (ps : List PieceAt) → HaveKeys ps → Ascends (entries_of ps) → disorder [] ps ≡ None
unfolding disorder comes_after
ordered [] k h = refl
ordered (p ∷ ps) k h = ordered-from p ps k h
