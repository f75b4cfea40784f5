-- Reading from a restart on gives what follows there.
use Rattle.std.proofs.Common.{◌≡◌, ℕ, zero, suc, ◌+◌, ◌-◌, ◌*◌, ◌/◌, ◌<◌, ◌≤◌, Bool, true, false, List, [], ◌∷◌, ◌++◌, length, take, drop, get_or, Option, Some, None, refl, sym, ap, ◌∙◌, subst, arith, inl, inr}
use Rattle.std.specs.Prelude.{◌⊎◌, Contains}
use Rattle.std.specs.Option.{option_map}
use Rattle.std.specs.List.{flat_map}
use Rattle.std.specs.Ordering.{is_lt}
use Rattle.std.specs.Int.{w32, to_le_bytes, from_le_bytes}
use Rattle.std.proofs.lemmas.Bool.{cases_lt}
use Rattle.std.proofs.lemmas.Nat.{from_le_bytes-to_le_bytes_4}
use Rattle.std.proofs.lemmas.List.{take_at, drop_at, length-append, length-drop, drop-drop, drop_all}
use Rattle.std.proofs.Math.Seq.{drop-append-add}
use Rattle.lsm_codec.specs.Varint.{varint_at}
use Rattle.lsm_codec.specs.Keys.{InternalKey, key_cmp, is_internal, key_at}
use Rattle.lsm_codec.specs.Entries.{Entry, internal_key}
use Rattle.lsm_codec.proofs.CallerLemmas.{IsBytes, key_again}
use Rattle.lsm_block.specs.Block.{entry_of, EntryText, Spells, Rises, start_at, Ascends, key_text}
use Rattle.lsm_block.specs.Reading.{Piece, numbers_at, entry_at, entry}
use Rattle.lsm_block.specs.Seeking.{readable, read_on, not_below, word_of, ArePartsOf, found_below, starts_below}
use Rattle.lsm_block.specs.Walking.{seen}
use Rattle.lsm_block.proofs.EntryLaws.{sharing, entry_again, entry_again_is, own-some, some_is, leaves, IsBytes-drop}
use Rattle.lsm_block.proofs.RestartLaws.{Fit, length-spelled}
use Rattle.lsm_block.proofs.ScanLaws.{either, is_less, less_is}
use Rattle.lsm_block.proofs.BlockLaws.{read_internal}
use Rattle.lsm_block.proofs.SeenLaws.{sees, seen_some, seen_none}
use Rattle.lsm_block.proofs.OrderLaws.{below_front, before_far, ascends-tail}

-- ---- reading

pub entry-empty : (before : List ℕ) → entry_at before [] ≡ None
unfolding entry_at numbers_at varint_at
entry-empty before = refl

pub read_some : (count : ℕ) (before text : List ℕ) (p : Piece) (after : List ℕ) → entry_at before text ≡ Some (p, after)
    → readable (suc count) before text ≡ entry p ∷ readable count p.key after
unfolding readable
read_some count before text p after e = ap (read_on (readable count)) e

pub read_none : (count : ℕ) (before text : List ℕ) → entry_at before text ≡ None → readable count before text ≡ []
unfolding readable
read_none zero before text e = refl
read_none (suc count) before text e = ap (read_on (readable count)) e

-- Any count that is long enough reads the same.
pub enough : (m n : ℕ) (before text : List ℕ) → IsBytes text → length text ≤ m → length text ≤ n → readable m before text ≡ readable n before text
enough zero n before text fits h k =
    elim (either (entry_at before text)) [
      | inl none ↦ read_none zero before text none ∙ sym (read_none n before text none)
      | inr found ↦ absurd (omega (arith, (leaves before text found.0.0 found.0.1 fits found.1).shorter))
    ]
enough (suc m) zero before text fits h k =
    elim (either (entry_at before text)) [
      | inl none ↦ read_none (suc m) before text none ∙ sym (read_none zero before text none)
      | inr found ↦ absurd (omega (arith, (leaves before text found.0.0 found.0.1 fits found.1).shorter))
    ]
enough (suc m) (suc n) before text fits h k =
    elim (either (entry_at before text)) [
      | inl none ↦ read_none (suc m) before text none ∙ sym (read_none (suc n) before text none)
      | inr found ↦
          let p = found.0.0 in
          let after = found.0.1 in
          let l = leaves before text p after fits found.1 in
          read_some m before text p after found.1
          ∙ ap (λ (es : List Entry). entry p ∷ es) (enough m n p.key after l.fits (omega (arith, l.shorter)) (omega (arith, l.shorter)))
          ∙ sym (read_some n before text p after found.1)
    ]

-- One step, with the same count.
pub reads_on : (count : ℕ) (before text : List ℕ) (p : Piece) (after : List ℕ) → IsBytes text → length text ≤ count → entry_at before text ≡ Some (p, after)
    → readable count before text ≡ entry p ∷ readable count p.key after
reads_on zero before text p after fits h e = absurd (omega (arith, (leaves before text p after fits e).shorter))
reads_on (suc count) before text p after fits h e =
    let l = leaves before text p after fits e in
    read_some count before text p after e ∙ ap (λ (es : List Entry). entry p ∷ es) (enough count (suc count) p.key after l.fits (omega (arith, l.shorter)) (omega (arith, l.shorter)))

-- a text of entries is read as these entries
pub reads_all : (es : List Entry) (count offset : ℕ) (before text starts : List ℕ) → Spells offset before text starts es → length text ≤ count → readable count before text ≡ es
reads_all [] count offset before text starts s h = read_none count before text (ap (entry_at before) s.0 ∙ entry-empty before)
reads_all (e ∷ es) zero offset before text starts s h = absurd (omega (arith, ap (λ (xs : List ℕ). length xs) s.5, length-append s.1 s.2, own-some before s.1 e s.0 s.4))
reads_all (e ∷ es) (suc count) offset before text starts s h =
    let some = own-some before s.1 e s.0 s.4 in
    let len = ap (λ (xs : List ℕ). length xs) s.5 ∙ length-append s.1 s.2 in
    read_some count before text (sharing s.0 e) s.2 (ap (entry_at before) s.5 ∙ entry_again before s.1 s.2 e s.0 s.4)
    ∙ ap (λ (x : Entry). x ∷ readable count (key_text e) s.2) (entry_again_is s.0 e s.4.seq_fits)
    ∙ ap (λ (xs : List Entry). e ∷ xs) (reads_all es count (offset + length s.1) (key_text e) s.2 s.3 s.7 (omega (arith, len, some)))

-- ---- from a restart on

-- the entries from an offset on, where the first of them shares nothing; the starts beyond it are
-- starts of theirs
pub record Splits (whole : List ℕ) (o : ℕ) (starts : List ℕ) (es : List Entry) : Type 0 where
  pub front : List Entry
  pub rest : List Entry
  pub later : List ℕ
  pub parts : es ≡ front ++ rest
  pub spelled : Spells o [] (drop o whole) later rest
  pub onto : (x : ℕ) → o < x → Contains starts x → Contains later x

here_or_later : (shared offset o : ℕ) (others : List ℕ) → Contains (start_at shared offset ++ others) o → ((shared ≡ 0) × (offset ≡ o)) ⊎ Contains others o
here_or_later zero offset o others (zero, h, is) = inl (refl, is)
here_or_later zero offset o others (suc k, h, is) = inr (k, omega (arith, h), is)
here_or_later (suc shared) offset o others c = inr c

-- what shares nothing may follow any key
after_none : (before own : List ℕ) (e : Entry) → EntryText before e 0 own → EntryText [] e 0 own
after_none before own e t = record {
  shared_text = t.shared_text;
  unshared_text = t.unshared_text;
  length_text = t.length_text;
  unshared = t.unshared;
  shared_is = t.shared_is;
  unshared_is = t.unshared_is;
  length_is = t.length_is;
  within = omega arith;
  key_is = t.key_is;
  seq_fits = t.seq_fits;
  text_is = t.text_is;
}

-- no start stands before the text
starts_from : (es : List Entry) (offset o : ℕ) (before text starts : List ℕ) → Spells offset before text starts es → Contains starts o → offset ≤ o
starts_from [] offset o before text starts s c = let d = subst (λ (xs : List ℕ). Contains xs o) s.1 c in absurd (omega (arith, d.1))
starts_from (e ∷ es) offset o before text starts s c =
    elim (here_or_later s.0 offset o s.3 (subst (λ (xs : List ℕ). Contains xs o) s.6 c)) [
      | inl here ↦ omega (arith, here.1)
      | inr later ↦ omega (arith, starts_from es (offset + length s.1) o (key_text e) s.2 s.3 s.7 later)
    ]

splits : (es : List Entry) (offset o : ℕ) (before text starts whole : List ℕ) → Spells offset before text starts es → text ≡ drop offset whole → Contains starts o → Splits whole o starts es
splits [] offset o before text starts whole s is c = let d = subst (λ (xs : List ℕ). Contains xs o) s.1 c in absurd (omega (arith, d.1))
splits (e ∷ es) offset o before text starts whole s is c =
    let own = s.1 in
    let rest = s.2 in
    elim (here_or_later s.0 offset o s.3 (subst (λ (xs : List ℕ). Contains xs o) s.6 c)) [
      | inl here ↦
          let t : EntryText [] e 0 own = after_none before own e (subst (λ (n : ℕ). EntryText before e n own) here.0 s.4) in
          let stands : Spells offset [] text (start_at 0 offset ++ s.3) (e ∷ es) = (0, own, rest, s.3, t, s.5, refl, s.7) in
          let placed = subst (λ (xs : List ℕ). Spells offset [] xs (start_at 0 offset ++ s.3) (e ∷ es)) is stands in
          let same : starts ≡ start_at 0 offset ++ s.3 = s.6 ∙ ap (λ (n : ℕ). start_at n offset ++ s.3) here.0 in
          subst (λ (n : ℕ). Splits whole n starts (e ∷ es)) here.1
          (record { front = []; rest = e ∷ es; later = start_at 0 offset ++ s.3; parts = refl; spelled = placed; onto = λ x lt d. subst (λ (xs : List ℕ). Contains xs x) same d })
      | inr later ↦
          let next : rest ≡ drop (offset + length own) whole =
          sym (drop_at own rest (length own) refl) ∙ ap (drop (length own)) (sym s.5 ∙ is) ∙ drop-drop (length own) offset whole in
          let sp = splits es (offset + length own) o (key_text e) rest s.3 whole s.7 next later in
          let least = starts_from es (offset + length own) o (key_text e) rest s.3 s.7 later in
          record {
            front = e ∷ sp.front;
            rest = sp.rest;
            later = sp.later;
            parts = ap (λ (xs : List Entry). e ∷ xs) sp.parts;
            spelled = sp.spelled;
            onto = λ x lt d. elim (here_or_later s.0 offset x s.3 (subst (λ (xs : List ℕ). Contains xs x) s.6 d)) [
              | inl here ↦ absurd (omega (arith, here.1, lt, least))
              | inr more ↦ sp.onto x lt more
            ];
          }
    ]

restart_in : (starts : List ℕ) (b : ℕ) (rs : List ℕ) (i : ℕ) → Rises starts b rs → i < length rs → Contains starts (get_or rs i 0)
restart_in starts b [] i r h = absurd (omega arith)
restart_in starts b (x ∷ rs) zero r h = r.1
restart_in starts b (x ∷ rs) (suc i) r h = restart_in starts x rs i r.2 (omega (arith, h))

word_is : (rs : List ℕ) (i : ℕ) → Fit rs → i < length rs → word_of (flat_map (to_le_bytes w32) rs) i ≡ get_or rs i 0
word_is [] i f h = absurd (omega arith)
word_is (r ∷ rs) zero f h =
    ap (from_le_bytes w32) (take_at (to_le_bytes w32 r) (flat_map (to_le_bytes w32) rs) 4 refl) ∙ from_le_bytes-to_le_bytes_4 r f.0
word_is (r ∷ rs) (suc i) f h =
    let k : 4 * suc i ≡ 4 + 4 * i = omega arith in
    let d : drop (4 + 4 * i) (to_le_bytes w32 r ++ flat_map (to_le_bytes w32) rs) ≡ drop (4 * i) (flat_map (to_le_bytes w32) rs) = drop-append-add (to_le_bytes w32 r) (flat_map (to_le_bytes w32) rs) (4 * i) in
    ap (λ (n : ℕ). from_le_bytes w32 (take 4 (drop n (to_le_bytes w32 r ++ flat_map (to_le_bytes w32) rs)))) k
    ∙ ap (λ (xs : List ℕ). from_le_bytes w32 (take 4 xs)) d
    ∙ word_is rs i f.1 (omega (arith, h))

restart_of : (text offsets : List ℕ) (es : List Entry) (p : ArePartsOf text offsets es) (i : ℕ) → i < length (0 ∷ p.restarts) → Splits text (get_or (0 ∷ p.restarts) i 0) p.starts es
restart_of text offsets es p zero h = record { front = []; rest = es; later = p.starts; parts = refl; spelled = p.spelled; onto = λ x lt c. c }
restart_of text offsets es p (suc i) h = splits es 0 (get_or p.restarts i 0) [] text p.starts text p.spelled refl (restart_in p.starts 0 p.restarts i p.rises (omega (arith, h)))

few_restarts : (text offsets : List ℕ) (es : List Entry) (p : ArePartsOf text offsets es) (i : ℕ) → i < length offsets / 4 → i < length (0 ∷ p.restarts)
few_restarts text offsets es p i h = omega (arith, ap (λ (xs : List ℕ). length xs) p.offsets_are ∙ length-spelled (0 ∷ p.restarts), h)

restart_at : (text offsets : List ℕ) (es : List Entry) (p : ArePartsOf text offsets es) (i : ℕ) → i < length offsets / 4 → word_of offsets i ≡ get_or (0 ∷ p.restarts) i 0
restart_at text offsets es p i h = ap (λ (xs : List ℕ). word_of xs i) p.offsets_are ∙ word_is (0 ∷ p.restarts) i (omega arith, p.fits) (few_restarts text offsets es p i h)

pub restart_splits : (text offsets : List ℕ) (es : List Entry) (p : ArePartsOf text offsets es) (i : ℕ) → i < length offsets / 4 → Splits text (word_of offsets i) p.starts es
restart_splits text offsets es p i h =
    subst (λ (n : ℕ). Splits text n p.starts es) (sym (restart_at text offsets es p i h)) (restart_of text offsets es p i (few_restarts text offsets es p i h))

-- From an entry below the key on, the search finds the same.
below_there : (key : InternalKey) (text : List ℕ) (o : ℕ) (front rest es : List Entry) (later : List ℕ) (p : Piece) (after : List ℕ) → Ascends es → es ≡ front ++ rest → Spells o [] (drop o text) later rest
    → entry_at [] (drop o text) ≡ Some (p, after) → is_lt (key_cmp (key_at p.key) key) ≡ true → not_below key rest ≡ not_below key es
below_there key text o front [] es later p after s is sp e h = let bad = sym e ∙ ap (entry_at []) sp.0 ∙ entry-empty [] in absurd cc
below_there key text o front (x ∷ xs) es later p after s is sp e h =
    let again = sym (ap (entry_at []) sp.5 ∙ entry_again [] sp.1 sp.2 x sp.0 sp.4) ∙ e in
    let pair = some_is (sharing sp.0 x, sp.2) (p, after) again in
    let same : key_text x ≡ p.key = ap (λ (q : Piece × List ℕ). q.0.key) pair in
    let of_key : key_at p.key ≡ internal_key x = ap key_at (sym same) ∙ key_again (internal_key x) sp.4.seq_fits in
    let below : is_lt (key_cmp (internal_key x) key) ≡ true = ap (λ (k : InternalKey). is_lt (key_cmp k key)) (sym of_key) ∙ h in
    sym (below_front front x xs key (subst Ascends is s) below) ∙ ap (not_below key) (sym is)

pub low_moves : (key : InternalKey) (text offsets : List ℕ) (es : List Entry) (i : ℕ) (p : Piece) (after : List ℕ) → ArePartsOf text offsets es → i < length offsets / 4
    → entry_at [] (drop (word_of offsets i) text) ≡ Some (p, after) → is_lt (key_cmp (key_at p.key) key) ≡ true
    → not_below key (readable (length text) [] (drop (word_of offsets i) text)) ≡ not_below key es
low_moves key text offsets es i p after parts lt e h =
    let sp = restart_splits text offsets es parts i lt in
    let o = word_of offsets i in
    ap (not_below key) (reads_all sp.rest (length text) o [] (drop o text) sp.later sp.spelled (omega (arith, length-drop o text)))
    ∙ below_there key text o sp.front sp.rest es sp.later p after parts.ascends sp.parts sp.spelled e h

pub low_starts : (key : InternalKey) (text offsets : List ℕ) (es : List Entry) → ArePartsOf text offsets es → not_below key (readable (length text) [] (drop (word_of offsets 0) text)) ≡ not_below key es
low_starts key text offsets es p =
    let w : word_of offsets 0 ≡ 0 = ap (λ (xs : List ℕ). word_of xs 0) p.offsets_are ∙ word_is (0 ∷ p.restarts) 0 (omega arith, p.fits) (omega arith) in
    ap (λ (n : ℕ). not_below key (readable (length text) [] (drop n text))) w ∙ ap (not_below key) (reads_all es (length text) 0 [] text p.starts p.spelled (omega arith))

-- ---- restarts in their order

rises_at : (starts : List ℕ) (b : ℕ) (rs : List ℕ) (i : ℕ) → Rises starts b rs → i < length rs → b < get_or rs i 0
rises_at starts b [] i r h = absurd (omega arith)
rises_at starts b (x ∷ rs) zero r h = r.0
rises_at starts b (x ∷ rs) (suc i) r h = omega (arith, r.0, rises_at starts x rs i r.2 (omega (arith, h)))

rises_up : (starts : List ℕ) (b : ℕ) (rs : List ℕ) (i j : ℕ) → Rises starts b rs → i < j → j < length (b ∷ rs) → get_or (b ∷ rs) i 0 < get_or (b ∷ rs) j 0
rises_up starts b rs i zero r lt h = absurd (omega (arith, lt))
rises_up starts b rs zero (suc j) r lt h = rises_at starts b rs j r (omega (arith, h))
rises_up starts b [] (suc i) (suc j) r lt h = absurd (omega (arith, h))
rises_up starts b (x ∷ rs) (suc i) (suc j) r lt h = rises_up starts x rs i j r.2 (omega (arith, lt)) (omega (arith, h))

pub words_rise : (text offsets : List ℕ) (es : List Entry) → ArePartsOf text offsets es → (i j : ℕ) → i < j → j < length offsets / 4 → word_of offsets i < word_of offsets j
words_rise text offsets es p i j lt h =
    let a = restart_at text offsets es p i (omega (arith, lt, h)) in
    let b = restart_at text offsets es p j h in
    omega (arith, a, b, rises_up p.starts 0 p.restarts i j p.rises lt (few_restarts text offsets es p j h))

-- the key at the front of a text that is spelled after no key
none_below : (key : InternalKey) (o : ℕ) (text later : List ℕ) → Spells o [] text later [] → found_below key (entry_at [] text) ≡ false
none_below key o text later s = ap (λ (t : List ℕ). found_below key (entry_at [] t)) s.0 ∙ ap (found_below key) (entry-empty [])

head_below : (key : InternalKey) (o : ℕ) (text later : List ℕ) (x : Entry) (xs : List Entry) → Spells o [] text later (x ∷ xs) → found_below key (entry_at [] text) ≡ is_lt (key_cmp (internal_key x) key)
head_below key o text later x xs s =
    ap (found_below key) (ap (entry_at []) s.5 ∙ entry_again [] s.1 s.2 x s.0 s.4)
    ∙ ap (λ (k : InternalKey). is_lt (key_cmp k key)) (key_again (internal_key x) s.4.seq_fits)

-- where the key at the front of a later part is below a key, so is that of an earlier one
parts_below : (key : InternalKey) (o n : ℕ) (early late starts later : List ℕ) (all front rest : List Entry) → Ascends all → all ≡ front ++ rest → Spells o [] early starts all → Spells n [] late later rest
    → found_below key (entry_at [] late) ≡ true → found_below key (entry_at [] early) ≡ true
parts_below key o n early late starts later all front [] a is s t h = let bad = sym (none_below key n late later t) ∙ h in absurd cc
parts_below key o n early late starts later all [] (x ∷ xs) a is s t h =
    head_below key o early starts x xs (subst (Spells o [] early starts) is s) ∙ sym (head_below key n late later x xs t) ∙ h
parts_below key o n early late starts later all (f ∷ front) (x ∷ xs) a is s t h =
    let below = is_less (key_cmp (internal_key x) key) (sym (head_below key n late later x xs t) ∙ h) in
    head_below key o early starts f (front ++ x ∷ xs) (subst (Spells o [] early starts) is s)
    ∙ less_is (key_cmp (internal_key f) key) (before_far front f x xs key (subst Ascends is a) below)

ascends_rest : (front rest : List Entry) → Ascends (front ++ rest) → Ascends rest
ascends_rest [] rest a = a
ascends_rest (x ∷ front) rest a = ascends_rest front rest (ascends-tail x (front ++ rest) a)

restart_there : (text offsets : List ℕ) (es : List Entry) (p : ArePartsOf text offsets es) (i j : ℕ) → i < j → j < length offsets / 4 → Contains p.starts (word_of offsets j)
restart_there text offsets es p i zero lt h = absurd (omega (arith, lt))
restart_there text offsets es p i (suc j) lt h =
    subst (Contains p.starts) (sym (restart_at text offsets es p (suc j) h)) (restart_in p.starts 0 p.restarts j p.rises (omega (arith, few_restarts text offsets es p (suc j) h)))

-- Where the key at a restart is below a key, so are those at all restarts before it.
pub earlier_below : (key : InternalKey) (text offsets : List ℕ) (es : List Entry) → ArePartsOf text offsets es → (i j : ℕ) → i < j → j < length offsets / 4
    → starts_below text (word_of offsets j) key ≡ true → starts_below text (word_of offsets i) key ≡ true
earlier_below key text offsets es p i j lt h below =
    let o = word_of offsets i in
    let n = word_of offsets j in
    let early = restart_splits text offsets es p i (omega (arith, lt, h)) in
    let there = early.onto n (words_rise text offsets es p i j lt h) (restart_there text offsets es p i j lt h) in
    let late = splits early.rest o n [] (drop o text) early.later text early.spelled refl there in
    parts_below key o n (drop o text) (drop n text) early.later late.later early.rest late.front late.rest
    (ascends_rest early.front early.rest (subst Ascends early.parts p.ascends)) late.parts early.spelled late.spelled below

pub later_not_below : (key : InternalKey) (text offsets : List ℕ) (es : List Entry) → ArePartsOf text offsets es → (i j : ℕ) → i ≤ j → j < length offsets / 4
    → starts_below text (word_of offsets i) key ≡ false → starts_below text (word_of offsets j) key ≡ false
later_not_below key text offsets es p i j le h above =
    elim (cases_lt i j) [
      | inr ge ↦ let same : i ≡ j = omega (arith, le, ge) in ap (λ (n : ℕ). starts_below text (word_of offsets n) key) (sym same) ∙ above
      | inl lt ↦ by_test (starts_below text (word_of offsets j) key) refl lt
    ]
  where
    by_test : (b : Bool) → starts_below text (word_of offsets j) key ≡ b → i < j → starts_below text (word_of offsets j) key ≡ false
    by_test false e lt = e
    by_test true e lt = let bad = sym (earlier_below key text offsets es p i j lt h e) ∙ above in absurd cc

-- what was read where a key is below
pub below_read : (key : InternalKey) (text : List ℕ) (o : ℕ) → starts_below text o key ≡ true
    → (p : Piece) × (after : List ℕ) × (entry_at [] (drop o text) ≡ Some (p, after)) × (is_lt (key_cmp (key_at p.key) key) ≡ true)
below_read key text o h =
    elim (either (entry_at [] (drop o text))) [
      | inl none ↦ let bad = sym h ∙ ap (found_below key) none in absurd cc
      | inr found ↦ (found.0.0, found.0.1, found.1, sym (ap (found_below key) found.1) ∙ h)
    ]

-- a restart that stands beyond another has a greater index
pub restart_beyond : (text offsets : List ℕ) (es : List Entry) → ArePartsOf text offsets es → (i j : ℕ) → i < length offsets / 4 → word_of offsets i < word_of offsets j → i < j
restart_beyond text offsets es p i j h lt =
    elim (cases_lt i j) [
      | inl less ↦ less
      | inr ge ↦ elim (cases_lt j i) [
        | inl less ↦ absurd (omega (arith, lt, words_rise text offsets es p j i less h))
        | inr le ↦ let same : i ≡ j = omega (arith, ge, le) in absurd (omega (arith, lt, ap (word_of offsets) same))
      ]
    ]

-- ---- one step of a scan

pub scan_moves : (text before : List ℕ) (offset : ℕ) (p : Piece) (after : List ℕ) → IsBytes text → offset < length text → entry_at before (drop offset text) ≡ Some (p, after)
    → (readable (length text) before (drop offset text) ≡ entry p ∷ readable (length text) p.key (drop (length text - length after) text)) × (length after < length text - offset)
scan_moves text before offset p after fits lt e =
    let fits2 = IsBytes-drop offset text fits in
    let len = length-drop offset text in
    let l = leaves before (drop offset text) p after fits2 e in
    let k : offset + (length (drop offset text) - length after) ≡ length text - length after = omega (arith, l.shorter, len) in
    let there : drop (length text - length after) text ≡ after =
    ap (λ (n : ℕ). drop n text) (sym k) ∙ sym (drop-drop (length (drop offset text) - length after) offset text) ∙ l.place in
    (reads_on (length text) before (drop offset text) p after fits2 (omega (arith, len)) e ∙ ap (λ (xs : List ℕ). entry p ∷ readable (length text) p.key xs) (sym there), omega (arith, l.shorter, len))

pub scan_ends : (text before : List ℕ) (offset : ℕ) → length text ≤ offset → readable (length text) before (drop offset text) ≡ []
scan_ends text before offset h = read_none (length text) before (drop offset text) (ap (entry_at before) (drop_all offset text h) ∙ entry-empty before)

-- ---- a step, as the code sees it

-- an entry that was read at an offset
pub record ReadOn (text before : List ℕ) (offset : ℕ) (key value after : List ℕ) : Type 0 where
  pub internal : is_internal key ≡ true
  pub moves : readable (length text) before (drop offset text) ≡ entry_of (key_at key) value ∷ readable (length text) key (drop (length text - length after) text)
  pub shorter : length after < length text - offset

pub read_on_some : (text before : List ℕ) (offset shared : ℕ) (key value after : List ℕ) → IsBytes text → offset < length text
    → Some (sees shared key value after) ≡ option_map seen (entry_at before (drop offset text)) → ReadOn text before offset key value after
read_on_some text before offset shared key value after fits lt e =
    let s = seen_some (entry_at before (drop offset text)) shared key value after e in
    let p = s.piece in
    let m = scan_moves text before offset p after fits lt s.is in
    let next = drop (length text - length after) text in
    record {
      internal = subst (λ (k : List ℕ). is_internal k ≡ true) s.key_is (read_internal before (drop offset text) p after s.is);
      moves = m.0 ∙ ap (λ (k : List ℕ). entry_of (key_at k) p.value ∷ readable (length text) k next) s.key_is ∙ ap (λ (v : List ℕ). entry_of (key_at key) v ∷ readable (length text) key next) s.value_is;
      shorter = m.1;
    }

pub read_on_none : (text before : List ℕ) (offset : ℕ) → None ≡ option_map seen (entry_at before (drop offset text)) → readable (length text) before (drop offset text) ≡ []
read_on_none text before offset e = read_none (length text) before (drop offset text) (seen_none (entry_at before (drop offset text)) e)

abbrev pub found_key_below : InternalKey → Option (List ℕ) → Bool
found_key_below key None = false
found_key_below key (Some k) = is_lt (key_cmp (key_at k) key)

first_some : (o : Option (Piece × List ℕ)) (k : List ℕ) → Some k ≡ option_map (λ f. f.0.key) o → (p : Piece) × (after : List ℕ) × (o ≡ Some (p, after)) × (p.key ≡ k)
first_some None k e = absurd cc
first_some (Some found) k e = (found.0, found.1, refl, some_is found.0.key k (sym e))

-- the key at a restart
pub below_found : (key : InternalKey) (text : List ℕ) (offset : ℕ) (o : Option (List ℕ)) → o ≡ option_map (λ f. f.0.key) (entry_at [] (drop offset text)) → found_key_below key o ≡ starts_below text offset key
below_found key text offset o e = ap (found_key_below key) e ∙ same (entry_at [] (drop offset text))
  where
    same : (r : Option (Piece × List ℕ)) → found_key_below key (option_map (λ f. f.0.key) r) ≡ found_below key r
    same None = refl
    same (Some found) = refl

pub first_internal : (text : List ℕ) (offset : ℕ) (k : List ℕ) → Some k ≡ option_map (λ f. f.0.key) (entry_at [] (drop offset text)) → is_internal k ≡ true
first_internal text offset k e =
    let f = first_some (entry_at [] (drop offset text)) k e in
    subst (λ (x : List ℕ). is_internal x ≡ true) f.3 (read_internal [] (drop offset text) f.0 f.1 f.2)
