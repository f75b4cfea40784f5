-- What is read as a block is one, and what is one is read.
use Rattle.std.proofs.Common.{◌≡◌, ℕ, zero, suc, ◌+◌, Bool, true, false, leb, eqb, List, [], ◌∷◌, ◌++◌, length, take, drop, Option, Some, None, Result, Ok, refl, sym, ap, ◌∙◌, subst, arith, inl, inr}
use Rattle.std.specs.Prelude.{◌&&◌}
use Rattle.std.specs.List.{flat_map}
use Rattle.std.specs.Int.{w32, to_le_bytes}
use Rattle.std.proofs.lemmas.Bool.{eqb-true, and_parts}
use Rattle.lsm_codec.specs.Keys.{is_internal}
use Rattle.lsm_codec.specs.Entries.{Entry}
use Rattle.lsm_codec.proofs.CallerLemmas.{IsBytes, internal_long}
use Rattle.lsm_block.specs.declared.fault.BlockFault.{BlockFault}
use Rattle.lsm_block.specs.Block.{IsBlock, Rises, Ascends}
use Rattle.lsm_block.specs.Reading.{Piece, shared_key, numbers_at, piece_of, entry_at, Scan, scan, entries_of, starts_of, restarts_fit, rises, disorder, entry_fault, restart_fault, first_fault, unless, judged, block_of, parts_at, block_at}
use Rattle.lsm_block.proofs.EntryLaws.{guard_some, IsBytes-front, no_bytes, bind_some}
use Rattle.lsm_block.proofs.ScanLaws.{scan-some, scan-none, scan_again, scan_takes, HaveKeys, ascends, ordered, either}
use Rattle.lsm_block.proofs.RestartLaws.{Tail, Fit, tail_takes, tail_again, rises_takes, rises_again}

-- ---- keys of what is read

pub read_internal : (before text : List ℕ) (p : Piece) (rest : List ℕ) → entry_at before text ≡ Some (p, rest) → is_internal p.key ≡ true
unfolding entry_at piece_of
read_internal before text p rest e =
    let b = bind_some (numbers_at text) _ (p, rest) e in
    let n = b.0 in
    let key = shared_key before n.0 n.1 n.3 in
    let g = guard_some (leb n.0 (length before) && leb (n.1 + n.2) (length n.3) && is_internal key) (record { shared = n.0; key = key; value = take n.2 (drop n.1 n.3) }, drop n.2 (drop n.1 n.3)) (p, rest) b.2 in
    let internal = (and_parts (leb n.0 (length before) && leb (n.1 + n.2) (length n.3)) (is_internal key) g.0).1 in
    subst (λ (q : Piece × List ℕ). is_internal q.0.key ≡ true) g.1 internal

pub have_keys : (count total : ℕ) (before text : List ℕ) → HaveKeys (scan count total before text).placed
unfolding scan
have_keys zero total before text = tt
have_keys (suc count) total before [] = tt
have_keys (suc count) total before (b ∷ bs) =
    let text : List ℕ = b ∷ bs in
    elim (either (entry_at before text)) [
      | inl none ↦ subst (λ (s : Scan). HaveKeys s.placed) (sym (scan-none count total before text (omega arith) none)) tt
      | inr found ↦
          let p = found.0.0 in
          let long = internal_long p.key (read_internal before text p found.0.1 found.1) in
          subst (λ (s : Scan). HaveKeys s.placed) (sym (scan-some count total before text p found.0.1 (omega arith) found.1)) (omega (arith, long), have_keys count total p.key found.0.1)
    ]

-- ---- a block

abbrev is_ok : {Y : Type 0} → Y → Result Y BlockFault
is_ok x = Ok x

pub ok_is : {Y : Type 0} (x y : Y) → is_ok x ≡ is_ok y → x ≡ y
ok_is x y e = cc

unless_ok : (fault : Option BlockFault) (es fs : List Entry) → unless fault es ≡ is_ok fs → (fault ≡ None) × (es ≡ fs)
unless_ok None es fs e = (refl, ok_is es fs e)
unless_ok (Some f) es fs e = absurd cc

restart_none : (b : Bool) (later : Option BlockFault) → restart_fault b later ≡ None → (b ≡ true) × (later ≡ None)
restart_none true later e = (refl, e)
restart_none false later e = absurd cc

entry_none : (stop d : Option ℕ) → entry_fault stop d ≡ None → (stop ≡ None) × (d ≡ None)
entry_none None None e = (refl, refl)
entry_none None (Some o) e = absurd cc
entry_none (Some o) d e = absurd cc

-- the first offset is 0, and the others rise
pub record FirstIsZero (starts rs : List ℕ) : Type 0 where
  pub others : List ℕ
  pub is : rs ≡ 0 ∷ others
  pub fits : Fit others
  pub rise : Rises starts 0 others

restarts_takes : (starts rs : List ℕ) → Fit rs → restarts_fit None starts rs ≡ true → FirstIsZero starts rs
restarts_takes starts [] fits e = absurd cc
restarts_takes starts (r ∷ rs) fits e =
    let both = and_parts (eqb r 0) (rises None starts r rs) e in
    let zero_is : r ≡ 0 = eqb-true r 0 both.0 in
    let rise = rises_takes starts r rs both.1 in
    record { others = rs; is = ap (λ (x : ℕ). x ∷ rs) zero_is; fits = fits.1; rise = subst (λ (x : ℕ). Rises starts x rs) zero_is rise }

judge_takes : (bytes text rs : List ℕ) (es : List Entry) → IsBytes text → Tail bytes text rs → judged (scan (length text) (length text) [] text) rs ≡ is_ok es → IsBlock bytes es
judge_takes bytes text rs es fits t e =
    let s = scan (length text) (length text) [] text in
    let u = unless_ok (first_fault s rs) (entries_of s.placed) es e in
    let r = restart_none (restarts_fit s.stop (starts_of s.placed) rs) (entry_fault s.stop (disorder [] s.placed)) u.0 in
    let n = entry_none s.stop (disorder [] s.placed) r.1 in
    let fit : restarts_fit None (starts_of s.placed) rs ≡ true = subst (λ (o : Option ℕ). restarts_fit o (starts_of s.placed) rs ≡ true) n.0 r.0 in
    let f = restarts_takes (starts_of s.placed) rs t.fits fit in
    let count : length rs ≡ length f.others + 1 = ap length f.is ∙ omega arith in
    subst (λ (xs : List Entry). IsBlock bytes xs) u.1 record {
      text = text;
      starts = starts_of s.placed;
      restarts = f.others;
      spelled = scan_takes (length text) 0 (length text) [] text no_bytes fits (omega arith) (omega arith) n.0;
      ascends = ascends s.placed (have_keys (length text) (length text) [] text) n.1;
      rises = f.rise;
      fits = f.fits;
      count_fits = omega (arith, count, t.count_fits);
      bytes_are = t.parts ∙ rw count (ap (λ (xs : List ℕ). text ++ (flat_map (to_le_bytes w32) xs ++ to_le_bytes w32 (length f.others + 1))) f.is);
    }

pub block_takes : (bytes : List ℕ) (es : List Entry) → IsBytes bytes → block_at bytes ≡ Ok es → IsBlock bytes es
unfolding block_at
block_takes bytes es fits e =
    elim (either (parts_at bytes)) [
      | inl none ↦ let bad : block_of None ≡ Ok es = subst (λ (o : Option (List ℕ × List ℕ)). block_of o ≡ Ok es) none e in absurd cc
      | inr some ↦
          let found : block_of (Some some.0) ≡ Ok es = subst (λ (o : Option (List ℕ × List ℕ)). block_of o ≡ Ok es) some.1 e in
          let t = tail_takes bytes some.0.0 some.0.1 fits some.1 in
          judge_takes bytes some.0.0 some.0.1 es (IsBytes-front bytes some.0.0 _ t.parts fits) t found
    ]

pub tail_of_block : (bytes : List ℕ) (es : List Entry) (b : IsBlock bytes es) → Tail bytes b.text (0 ∷ b.restarts)
tail_of_block bytes es b = record {
  parts = b.bytes_are ∙ ap (λ (n : ℕ). b.text ++ (flat_map (to_le_bytes w32) (0 ∷ b.restarts) ++ to_le_bytes w32 n)) (omega arith);
  fits = (omega arith, b.fits);
  some = omega arith;
  count_fits = omega (arith, b.count_fits);
}

pub block_again : (bytes : List ℕ) (es : List Entry) → IsBlock bytes es → block_at bytes ≡ Ok es
unfolding block_at
block_again bytes es b =
    let rs = 0 ∷ b.restarts in
    let h = scan_again es (length b.text) 0 (length b.text) [] b.text b.starts b.spelled (omega arith) (omega arith) in
    let keys : HaveKeys h.placed = subst (λ (s : Scan). HaveKeys s.placed) h.same (have_keys (length b.text) (length b.text) [] b.text) in
    let order : disorder [] h.placed ≡ None = ordered h.placed keys (subst Ascends (sym h.entries_are) b.ascends) in
    let rise : rises None b.starts 0 b.restarts ≡ true = rises_again b.starts 0 b.restarts b.rises in
    ap block_of (tail_again bytes b.text rs (tail_of_block bytes es b))
    ∙ ap (λ (s : Scan). judged s rs) h.same
    ∙ rw (h.starts_are, rise, order, h.entries_are) refl

-- at most one list of entries fits
pub one_block : (bytes : List ℕ) (es fs : List Entry) → IsBlock bytes es → IsBlock bytes fs → es ≡ fs
one_block bytes es fs b c = ok_is es fs (sym (block_again bytes es b) ∙ block_again bytes fs c)
