-- What the writer makes of entries is a block of them, and how it grows by an entry.
use Rattle.std.proofs.Math.Seq.{drop-cons}
use Rattle.std.proofs.Common.{ap₂, add-one, ◌≡◌, ℕ, zero, suc, ◌+◌, ◌-◌, ◌*◌, ◌/◌, ◌^◌, ◌<◌, ◌≤◌, Bool, true, false, eqb, ltb, List, [], ◌∷◌, ◌++◌, length, take, drop, get_or, Option, Some, None, refl, sym, ap, ◌∙◌, subst, append_assoc, arith}
use Rattle.std.specs.Prelude.{◌&&◌, Contains}
use Rattle.std.specs.List.{flat_map, AllByRecursion}
use Rattle.std.specs.Int.{w32, to_le_bytes}
use Rattle.std.proofs.lemmas.Bool.{eqb-true, eq-eqb, ne_eqb, lt-ltb}
use Rattle.std.proofs.lemmas.List.{length-append, append-nil, take-append-drop, drop_all, drop-drop, length-drop, length-take-le}
use Rattle.lsm_codec.specs.Varint.{varint32}
use Rattle.lsm_codec.specs.Keys.{InternalKey, key_bytes}
use Rattle.lsm_codec.specs.Entries.{Entry, internal_key, entry_cmp}
use Rattle.lsm_codec.proofs.CallerLemmas.{is_shortest}
use Rattle.lsm_block.specs.Block.{EntryText, IsBlock, Spells, Ascends, Rises, start_at, key_text}
use Rattle.lsm_block.specs.Building.{one_more, common, is_restart, is_later_restart, Built, FitsEntry, own_len, grown_len, after_last, parts_text, shared_if, shared_at, sharing_text, entries_text, offset_if, later_restarts, with_restarts, block_bytes, last_text, last_key, entries_in}
use Rattle.lsm_block.specs.Held.{Kept, bytes_of}
use Rattle.lsm_block.proofs.EntryLaws.{own-some, some_is}
use Rattle.lsm_block.proofs.ScanLaws.{is_less}
use Rattle.lsm_block.proofs.SeekLaws.{reads_all}

-- ---- what two keys have in common

pub common-fits : (xs ys : List ℕ) → (common xs ys ≤ length xs) × (common xs ys ≤ length ys) × (take (common xs ys) xs ≡ take (common xs ys) ys)
unfolding common
common-fits [] ys = (omega arith, omega arith, refl)
common-fits (x ∷ xs) [] = (omega arith, omega arith, refl)
common-fits (x ∷ xs) (y ∷ ys) = common-next (eqb x y) x y xs ys (λ h. eqb-true x y h) (common-fits xs ys)
  where
    common-next : (b : Bool) (x y : ℕ) (xs ys : List ℕ) → (b ≡ true → x ≡ y) → (common xs ys ≤ length xs) × (common xs ys ≤ length ys) × (take (common xs ys) xs ≡ take (common xs ys) ys)
        → (one_more b (common xs ys) ≤ length (x ∷ xs)) × (one_more b (common xs ys) ≤ length (y ∷ ys)) × (take (one_more b (common xs ys)) (x ∷ xs) ≡ take (one_more b (common xs ys)) (y ∷ ys))
    common-next true x y xs ys same c = (omega (arith, c.0), omega (arith, c.1), rw (same refl, c.2) refl)
    common-next false x y xs ys same c = (omega arith, omega arith, refl)

-- ---- the text of an entry

-- how much is shared, as the text wants it
pub record Shares (before : List ℕ) (key : List ℕ) (shared : ℕ) : Type 0 where
  pub within : shared ≤ length before
  pub in_key : shared ≤ length key
  pub same : take shared before ≡ take shared key

shares_if : (b : Bool) (before key : List ℕ) → Shares before key (shared_if b (common before key))
shares_if true before key = record { within = omega arith; in_key = omega arith; same = refl }
shares_if false before key = let c = common-fits before key in record { within = c.0; in_key = c.1; same = c.2 }

pub shares_at : (interval index : ℕ) (before key : List ℕ) → Shares before key (shared_at interval index before key)
shares_at interval index before key = shares_if (is_restart interval index) before key

length-rest : (shared : ℕ) (xs : List ℕ) → length (drop shared xs) ≤ length xs
length-rest zero xs = omega arith
length-rest (suc n) [] = omega arith
length-rest (suc n) (x ∷ xs) = omega (arith, length-rest n xs)

sharing-is : (before : List ℕ) (e : Entry) (shared : ℕ) → FitsEntry e → Shares before (key_text e) shared → EntryText before e shared (sharing_text shared e)
sharing-is before e shared f s = record {
  shared_text = varint32 shared;
  unshared_text = varint32 (length (drop shared (key_text e)));
  length_text = varint32 (length e.value);
  unshared = drop shared (key_text e);
  shared_is = (is_shortest 5 (2 ^ 32 - 1) shared (omega arith) (omega (arith, f.key, s.in_key)) (omega arith)).is;
  unshared_is = (is_shortest 5 (2 ^ 32 - 1) (length (drop shared (key_text e))) (omega arith) (omega (arith, f.key, length-rest shared (key_text e))) (omega arith)).is;
  length_is = (is_shortest 5 (2 ^ 32 - 1) (length e.value) (omega arith) (omega (arith, f.value)) (omega arith)).is;
  within = s.within;
  key_is = ap (λ (xs : List ℕ). xs ++ drop shared (key_text e)) s.same ∙ take-append-drop shared (key_text e);
  seq_fits = f.seq;
  text_is = refl;
}

pub own-holds : (shared : ℕ) (unshared value : List ℕ) → length unshared + length value ≤ length (parts_text shared unshared value)
own-holds shared unshared value =
    omega (
      arith,
      length-append (varint32 shared) (varint32 (length unshared) ++ (varint32 (length value) ++ (unshared ++ value))),
      length-append (varint32 (length unshared)) (varint32 (length value) ++ (unshared ++ value)),
      length-append (varint32 (length value)) (unshared ++ value),
      length-append unshared value,
    )

-- ---- the text of all entries

-- the offsets of the entries that share nothing
pub starts_from : ℕ → ℕ → ℕ → List ℕ → List Entry → List ℕ
starts_from interval index offset before [] = []
starts_from interval index offset before (e ∷ es) =
    start_at (shared_at interval index before (key_text e)) offset
    ++ starts_from interval (suc index) (offset + length (sharing_text (shared_at interval index before (key_text e)) e)) (key_text e) es

pub spelled : (interval index offset : ℕ) (before : List ℕ) (es : List Entry) → AllByRecursion FitsEntry es
    → Spells offset before (entries_text interval index before es) (starts_from interval index offset before es) es
unfolding starts_from entries_text
spelled interval index offset before [] f = (refl, refl)
spelled interval index offset before (e ∷ es) f =
    let shared = shared_at interval index before (key_text e) in
    let own = sharing_text shared e in (
      shared,
      own,
      entries_text interval (suc index) (key_text e) es,
      starts_from interval (suc index) (offset + length own) (key_text e) es,
      sharing-is before e shared f.0 (shares_at interval index before (key_text e)),
      refl,
      refl,
      spelled interval (suc index) (offset + length own) (key_text e) es f.1,
    )

pub entries_in-is : (interval : ℕ) (es : List Entry) → AllByRecursion FitsEntry es → entries_in (entries_text interval 0 [] es) ≡ es
unfolding entries_in
entries_in-is interval es f =
    let text = entries_text interval 0 [] es in
    reads_all es (length text) 0 [] text (starts_from interval 0 0 [] es) (spelled interval 0 0 [] es f) (omega arith)

-- ---- the restarts

contains-after : (front rest : List ℕ) (o : ℕ) → Contains rest o → Contains (front ++ rest) o
contains-after [] rest o c = c
contains-after (x ∷ front) rest o c = let d = contains-after front rest o c in (suc d.0, omega (arith, d.1), d.2)

-- an entry at a restart, or another
rises_if : (b : Bool) (least offset : ℕ) (before key : List ℕ) (front others later : List ℕ) → least < offset
    → ((bound : ℕ) → bound ≤ offset → (all : List ℕ) → all ≡ front ++ (start_at (shared_if b (common before key)) offset ++ others) → Rises all bound later)
    → Rises (front ++ (start_at (shared_if b (common before key)) offset ++ others)) least (offset_if b offset ++ later)
rises_if true least offset before key front others later lt go =
    (lt, contains-after front (offset ∷ others) offset (0, omega arith, refl), go offset (omega arith) _ refl)
rises_if false least offset before key front others later lt go = go least (omega (arith, lt)) _ refl

own-length : (before : List ℕ) (e : Entry) (shared : ℕ) → FitsEntry e → Shares before (key_text e) shared → 0 < length (sharing_text shared e)
own-length before e shared f s = own-some before (sharing_text shared e) e shared (sharing-is before e shared f s)

-- from the second entry on
rises_on : (interval index offset least : ℕ) (before front all : List ℕ) (es : List Entry) → AllByRecursion FitsEntry es → least < offset
    → all ≡ front ++ starts_from interval (suc index) offset before es → Rises all least (later_restarts interval (suc index) offset before es)
unfolding starts_from later_restarts
rises_on interval index offset least before front all [] f lt is = tt
rises_on interval index offset least before front all (e ∷ es) f lt is =
    let shared = shared_at interval (suc index) before (key_text e) in
    let own = sharing_text shared e in
    let others = starts_from interval (suc (suc index)) (offset + length own) (key_text e) es in
    let some = own-length before e shared f.0 (shares_at interval (suc index) before (key_text e)) in
    let goal = rises_if (is_restart interval (suc index)) least offset before (key_text e) front others (later_restarts interval (suc (suc index)) (offset + length own) (key_text e) es) lt
    (λ bound le whole same. rises_on interval (suc index) (offset + length own) bound (key_text e) (front ++ start_at shared offset) whole es f.1 (omega (arith, le, some))
    (same ∙ sym (append_assoc front (start_at shared offset) others))) in
    let later = later_restarts interval (suc (suc index)) (offset + length own) (key_text e) es in
    let pos : ltb 0 (suc index) ≡ true = lt-ltb 0 (suc index) (omega arith) in
    let here = subst (λ (b : Bool). Rises (front ++ (start_at shared offset ++ others)) least (offset_if (b && is_restart interval (suc index)) offset ++ later)) (sym pos) goal in
    subst (λ (xs : List ℕ). Rises xs least (later_restarts interval (suc index) offset before (e ∷ es))) (sym is) here

rises_all : (interval : ℕ) (es : List Entry) → AllByRecursion FitsEntry es → Rises (starts_from interval 0 0 [] es) 0 (later_restarts interval 0 0 [] es)
unfolding starts_from later_restarts
rises_all interval [] f = tt
rises_all interval (e ∷ es) f =
    let shared = shared_at interval 0 [] (key_text e) in
    let own = sharing_text shared e in
    rises_on interval 0 (0 + length own) 0 (key_text e) (start_at shared 0) _ es f.1 (omega (arith, own-length [] e shared f.0 (shares_at interval 0 [] (key_text e)))) refl

abbrev Below : ℕ → List ℕ → Type 0
Below bound xs = AllByRecursion (λ x. x < bound) xs

below_if : (b : Bool) (bound offset : ℕ) (xs : List ℕ) → offset < bound → Below bound xs → Below bound (offset_if b offset ++ xs)
below_if true bound offset xs lt h = (lt, h)
below_if false bound offset xs lt h = h

-- restarts lie in the text
below_all : (bound interval index offset : ℕ) (before : List ℕ) (es : List Entry) → offset + length (entries_text interval index before es) < bound
    → Below bound (later_restarts interval index offset before es)
unfolding entries_text later_restarts
below_all bound interval index offset before [] lt = tt
below_all bound interval index offset before (e ∷ es) lt =
    let own = sharing_text (shared_at interval index before (key_text e)) e in
    let len = length-append own (entries_text interval (suc index) (key_text e) es) in
    below_if (is_later_restart interval index) bound offset _ (omega arith) (below_all bound interval (suc index) (offset + length own) (key_text e) es (omega (arith, lt, len)))

-- ---- the whole

length-words : (xs : List ℕ) → length (flat_map (to_le_bytes w32) xs) ≡ 4 * length xs
length-words [] = refl
length-words (x ∷ xs) = length-append (to_le_bytes w32 x) (flat_map (to_le_bytes w32) xs) ∙ omega (arith, length-words xs)

pub length-whole : (text later : List ℕ) → length (with_restarts text later) ≡ length text + length (flat_map (to_le_bytes w32) later) + 8
length-whole text later =
    omega (
      arith,
      length-append text (flat_map (to_le_bytes w32) (0 ∷ later) ++ to_le_bytes w32 (length later + 1)),
      length-append (flat_map (to_le_bytes w32) (0 ∷ later)) (to_le_bytes w32 (length later + 1)),
      length-append (to_le_bytes w32 0) (flat_map (to_le_bytes w32) later),
    )

-- What the writer makes of entries that fit and ascend is a block of them.
pub block_built : (interval : ℕ) (es : List Entry) → AllByRecursion FitsEntry es → Ascends es → length (block_bytes interval es) < 2 ^ 32 → IsBlock (block_bytes interval es) es
unfolding block_bytes
block_built interval es f a small =
    let text = entries_text interval 0 [] es in
    let later = later_restarts interval 0 0 [] es in
    let len = length-whole text later in
    record {
      text = text;
      starts = starts_from interval 0 0 [] es;
      restarts = later;
      spelled = spelled interval 0 0 [] es f;
      ascends = a;
      rises = rises_all interval es f;
      fits = below_all (2 ^ 32) interval 0 0 [] es (omega (arith, len, small));
      count_fits = omega (arith, len, small, length-words later);
      bytes_are = refl;
    }

-- ---- one entry more

pub text-push : (interval index : ℕ) (before : List ℕ) (es : List Entry) (e : Entry)
    → entries_text interval index before (es ++ e ∷ []) ≡ entries_text interval index before es ++ sharing_text (shared_at interval (index + length es) (last_text before es) (key_text e)) e
unfolding entries_text
text-push interval index before [] e =
    let k : index + 0 ≡ index = omega arith in
    rw k (append-nil _)
text-push interval index before (x ∷ es) e =
    let own = sharing_text (shared_at interval index before (key_text x)) x in
    let k : index + suc (length es) ≡ suc index + length es = omega arith in
    rw k (ap (λ (t : List ℕ). own ++ t) (text-push interval (suc index) (key_text x) es e) ∙ sym (append_assoc own (entries_text interval (suc index) (key_text x) es) _))

pub restarts-push : (interval index offset : ℕ) (before : List ℕ) (es : List Entry) (e : Entry)
    → later_restarts interval index offset before (es ++ e ∷ [])
    ≡ later_restarts interval index offset before es ++ offset_if (is_later_restart interval (index + length es)) (offset + length (entries_text interval index before es))
unfolding entries_text later_restarts
restarts-push interval index offset before [] e =
    let k : index + 0 ≡ index = omega arith in
    let m : offset + 0 ≡ offset = omega arith in
    rw (k, m) (append-nil _)
restarts-push interval index offset before (x ∷ es) e =
    let own = sharing_text (shared_at interval index before (key_text x)) x in
    let here = offset_if (is_later_restart interval index) offset in
    let k : index + suc (length es) ≡ suc index + length es = omega arith in
    let m : offset + length (own ++ entries_text interval (suc index) (key_text x) es) ≡ offset + length own + length (entries_text interval (suc index) (key_text x) es) =
    omega (arith, length-append own (entries_text interval (suc index) (key_text x) es)) in
    rw (k, m) (ap (λ (t : List ℕ). here ++ t) (restarts-push interval (suc index) (offset + length own) (key_text x) es e)
    ∙ sym (append_assoc here (later_restarts interval (suc index) (offset + length own) (key_text x) es) _))

pub last-push : (before : List ℕ) (es : List Entry) (e : Entry) → last_text before (es ++ e ∷ []) ≡ (key_text e)
last-push before [] e = refl
last-push before (x ∷ es) e = last-push (key_text x) es e

pub fits-push : (es : List Entry) (e : Entry) → AllByRecursion FitsEntry es → FitsEntry e → AllByRecursion FitsEntry (es ++ e ∷ [])
fits-push [] e f g = (g, tt)
fits-push (x ∷ es) e f g = (f.0, fits-push es e f.1 g)

pub words-push : (xs ys : List ℕ) → flat_map (to_le_bytes w32) (xs ++ ys) ≡ flat_map (to_le_bytes w32) xs ++ flat_map (to_le_bytes w32) ys
words-push [] ys = refl
words-push (x ∷ xs) ys = ap (λ (t : List ℕ). to_le_bytes w32 x ++ t) (words-push xs ys) ∙ sym (append_assoc (to_le_bytes w32 x) (flat_map (to_le_bytes w32) xs) (flat_map (to_le_bytes w32) ys))

-- ---- comparing from the front

at_index : (xs : List ℕ) (i : ℕ) → i < length xs → drop i xs ≡ get_or xs i 0 ∷ drop (i + 1) xs
at_index xs i h = rw (add-one, drop-cons xs i 0) refl

pub common-same : (xs ys : List ℕ) (i : ℕ) → i < length xs → i < length ys → get_or xs i 0 ≡ get_or ys i 0
    → common (drop i xs) (drop i ys) ≡ suc (common (drop (i + 1) xs) (drop (i + 1) ys))
unfolding common
common-same xs ys i h k e =
    ap₂ common (at_index xs i h) (at_index ys i k) ∙ ap (λ (b : Bool). one_more b (common (drop (i + 1) xs) (drop (i + 1) ys))) (eq-eqb (get_or xs i 0) (get_or ys i 0) e)

pub common-other : (xs ys : List ℕ) (i : ℕ) → i < length xs → i < length ys → (get_or xs i 0 ≡ get_or ys i 0 → ⊥) → common (drop i xs) (drop i ys) ≡ 0
unfolding common
common-other xs ys i h k e =
    ap₂ common (at_index xs i h) (at_index ys i k) ∙ ap (λ (b : Bool). one_more b (common (drop (i + 1) xs) (drop (i + 1) ys))) (ne_eqb (get_or xs i 0) (get_or ys i 0) e)

pub common-end_left : (xs ys : List ℕ) (i : ℕ) → length xs ≤ i → common (drop i xs) (drop i ys) ≡ 0
unfolding common
common-end_left xs ys i h = ap (λ (zs : List ℕ). common zs (drop i ys)) (drop_all i xs h)

common-empty : (xs : List ℕ) → common xs [] ≡ 0
unfolding common
common-empty [] = refl
common-empty (x ∷ xs) = refl

pub common-end_right : (xs ys : List ℕ) (i : ℕ) → length ys ≤ i → common (drop i xs) (drop i ys) ≡ 0
common-end_right xs ys i h = ap (common (drop i xs)) (drop_all i ys h) ∙ common-empty (drop i xs)

common-front_on : (n x y : ℕ) (xs ys : List ℕ) → x ≡ y → common xs ys ≡ n + common (drop n xs) (drop n ys) → common (x ∷ xs) (y ∷ ys) ≡ suc n + common (drop n xs) (drop n ys)
unfolding common
common-front_on n x y xs ys e h =
    ap (λ (b : Bool). one_more b (common xs ys)) (eq-eqb x y e) ∙ omega (arith, h)

-- where fronts are the same, what is common goes on behind them
pub common-front : (n : ℕ) (xs ys : List ℕ) → n ≤ length xs → n ≤ length ys → take n xs ≡ take n ys → common xs ys ≡ n + common (drop n xs) (drop n ys)
common-front zero xs ys h k e = omega arith
common-front (suc n) [] ys h k e = absurd (omega (arith, h))
common-front (suc n) (x ∷ xs) [] h k e = absurd (omega (arith, k))
common-front (suc n) (x ∷ xs) (y ∷ ys) h k e = common-front_on n x y xs ys (cc) (common-front n xs ys (omega (arith, h)) (omega (arith, k)) (cc))

pub common-further : (n i : ℕ) (xs ys : List ℕ) → i + n ≤ length xs → i + n ≤ length ys → take n (drop i xs) ≡ take n (drop i ys) → common (drop i xs) (drop i ys) ≡ n + common (drop (i + n) xs) (drop (i + n) ys)
common-further n i xs ys h k e =
    rw (← drop-drop n i xs, ← drop-drop n i ys) (common-front n (drop i xs) (drop i ys) (omega (arith, h, length-drop i xs)) (omega (arith, k, length-drop i ys)) e)

-- ---- a builder

-- a key is no longer than the text of all entries up to its own
pub longest : (interval index : ℕ) (before : List ℕ) (es : List Entry) → length (last_text before es) ≤ length before + length (entries_text interval index before es)
unfolding entries_text
longest interval index before [] = omega arith
longest interval index before (e ∷ es) =
    let shared = shared_at interval index before (key_text e) in
    let own = sharing_text shared e in
    let s = shares_at interval index before (key_text e) in
    let new = drop shared (key_text e) in
    let split = length-append (take shared (key_text e)) new in
    let whole = ap (λ (xs : List ℕ). length xs) (take-append-drop shared (key_text e)) in
    let front = length-take-le shared (key_text e) s.in_key in
    let parts = own-holds shared new e.value in
    omega (arith, longest interval (suc index) (key_text e) es, length-append own (entries_text interval (suc index) (key_text e) es), split, whole, front, parts, s.within)

-- A builder that takes one entry more.
pub grown : (interval count : ℕ) (es : List Entry) (text offsets last : List ℕ) (e : Entry) (text2 offsets2 : List ℕ) → Built interval es text offsets last count → e.seq < 2 ^ 56
    → Ascends (es ++ e ∷ []) → length e.value < 2 ^ 32
    → text2 ≡ text ++ parts_text (shared_at interval count last (key_text e)) (drop (shared_at interval count last (key_text e)) (key_text e)) e.value
    → offsets2 ≡ offsets ++ flat_map (to_le_bytes w32) (offset_if (is_later_restart interval count) (length text))
    → length text2 + length offsets2 + 8 < 2 ^ 32
    → Built interval (es ++ e ∷ []) text2 offsets2 (key_text e) (count + 1)
grown interval count es text offsets last e text2 offsets2 b seq_fits ascend value_fits t o small =
    let key = key_text e in
    let shared = shared_at interval count last key in
    let s = shares_at interval count last key in
    let new = drop shared key in
    let split = length-append (take shared key) new in
    let whole = ap (λ (xs : List ℕ). length xs) (take-append-drop shared key) in
    let front = length-take-le shared key s.in_key in
    let parts = own-holds shared new e.value in
    let long = ap (λ (xs : List ℕ). length xs) t ∙ length-append text (parts_text shared new e.value) in
    let before = ap (λ (xs : List ℕ). length xs) b.last_is in
    let most = longest interval 0 [] es in
    let text_long = ap (λ (xs : List ℕ). length xs) b.text_is in
    let z : 0 + length es ≡ length es = omega arith in
    let zt : 0 + length (entries_text interval 0 [] es) ≡ length (entries_text interval 0 [] es) = omega arith in
    let key_fits : length key < 2 ^ 32 = omega (arith, split, whole, front, parts, long, before, most, text_long, small, s.within) in
    record {
      some = b.some;
      fit = fits-push es e b.fit (record { key = key_fits; value = value_fits; seq = seq_fits });
      ascend = ascend;
      text_is = t ∙ rw (b.text_is, b.last_is, b.count_is) (sym (rw z at (text-push interval 0 [] es e)));
      offsets_are = o ∙ rw (b.offsets_are, b.text_is, b.count_is)
          (sym (words-push (later_restarts interval 0 0 [] es) (offset_if (is_later_restart interval (length es)) (length (entries_text interval 0 [] es)))) ∙ ap (flat_map (to_le_bytes w32)) (sym (rw (z, zt) at (restarts-push interval 0 0 [] es e))));
      last_is = sym (last-push [] es e);
      count_is = omega (arith, b.count_is, length-append es (e ∷ []));
      small = small;
    }

pub entries_of-built : (interval count : ℕ) (es : List Entry) (text offsets last : List ℕ) → Built interval es text offsets last count → entries_in text ≡ es
entries_of-built interval count es text offsets last b = ap entries_in b.text_is ∙ entries_in-is interval es b.fit

pub built_itself : (interval count : ℕ) (es : List Entry) (text offsets last : List ℕ) → Built interval es text offsets last count → Built interval (entries_in text) text offsets last count
built_itself interval count es text offsets last b =
    subst (λ (xs : List Entry). Built interval xs text offsets last count) (sym (entries_of-built interval count es text offsets last b)) b

pub nothing_built : (interval : ℕ) → 0 < interval → Built interval [] [] [] [] 0
unfolding entries_text later_restarts
nothing_built interval h = record { some = h; fit = tt; ascend = tt; text_is = refl; offsets_are = refl; last_is = refl; count_is = refl; small = omega arith }

pub length-built : (interval count : ℕ) (es : List Entry) (text offsets last : List ℕ) → Built interval es text offsets last count → length (block_bytes interval es) ≡ length text + length offsets + 8
unfolding block_bytes
length-built interval count es text offsets last b =
    length-whole (entries_text interval 0 [] es) (later_restarts interval 0 0 [] es) ∙ rw (b.text_is, b.offsets_are) refl

pub share_small : (interval count : ℕ) (es : List Entry) (text offsets last key : List ℕ) → Built interval es text offsets last count → shared_at interval count last key < 2 ^ 32
share_small interval count es text offsets last key b =
    let before = ap (λ (xs : List ℕ). length xs) b.last_is in
    let text_long = ap (λ (xs : List ℕ). length xs) b.text_is in
    omega (arith, (shares_at interval count last key).within, longest interval 0 [] es, before, text_long, b.small)

few-in : (interval index : ℕ) (before : List ℕ) (es : List Entry) → AllByRecursion FitsEntry es → length es ≤ length (entries_text interval index before es)
unfolding entries_text
few-in interval index before [] f = omega arith
few-in interval index before (e ∷ es) f =
    let own = sharing_text (shared_at interval index before (key_text e)) e in
    omega (
      arith,
      length-append own (entries_text interval (suc index) (key_text e) es),
      own-length before e (shared_at interval index before (key_text e)) f.0 (shares_at interval index before (key_text e)),
      few-in interval (suc index) (key_text e) es f.1,
    )

pub few : (interval count : ℕ) (es : List Entry) (text offsets last : List ℕ) → Built interval es text offsets last count → count < 2 ^ 32
few interval count es text offsets last b =
    let text_long = ap (λ (xs : List ℕ). length xs) b.text_is in
    omega (arith, few-in interval 0 [] es b.fit, text_long, b.small, b.count_is)

-- how long the text of an entry is
pub length-parts : (shared : ℕ) (unshared value : List ℕ) → length (parts_text shared unshared value) ≡ own_len shared (length unshared) (length value)
length-parts shared unshared value =
    omega (
      arith,
      length-append (varint32 shared) (varint32 (length unshared) ++ (varint32 (length value) ++ (unshared ++ value))),
      length-append (varint32 (length unshared)) (varint32 (length value) ++ (unshared ++ value)),
      length-append (varint32 (length value)) (unshared ++ value),
      length-append unshared value,
    )

-- how long the block is with an entry more
pub length-with : (interval count : ℕ) (es : List Entry) (text offsets last : List ℕ) (e : Entry) (text_len offsets_len shared : ℕ) (later : Bool) (unshared_len : ℕ)
    → Built interval es text offsets last count → text_len ≡ length text → offsets_len ≡ length offsets → shared ≡ shared_at interval count last (key_text e)
    → later ≡ is_later_restart interval count → unshared_len ≡ length (drop shared (key_text e))
    → length (block_bytes interval (es ++ e ∷ [])) ≡ grown_len text_len offsets_len later shared unshared_len (length e.value)
unfolding block_bytes
length-with interval count es text offsets last e tl ol shared later unshared_len b tl-is ol-is shared-is later-is unshared-is =
    let key = key_text e in
    let z : 0 + length es ≡ length es = omega arith in
    let zt : 0 + length (entries_text interval 0 [] es) ≡ length (entries_text interval 0 [] es) = omega arith in
    let push = rw z at (text-push interval 0 [] es e) in
    let more = rw (z, zt) at (restarts-push interval 0 0 [] es e) in
    let own = sharing_text (shared_at interval (length es) (last_text [] es) key) e in
    let offset = offset_if (is_later_restart interval (length es)) (length (entries_text interval 0 [] es)) in
    let t = ap (λ (xs : List ℕ). length xs) push ∙ length-append (entries_text interval 0 [] es) own in
    let o = ap (λ (xs : List ℕ). length (flat_map (to_le_bytes w32) xs)) more ∙ ap (λ (xs : List ℕ). length xs) (words-push (later_restarts interval 0 0 [] es) offset)
    ∙ length-append (flat_map (to_le_bytes w32) (later_restarts interval 0 0 [] es)) (flat_map (to_le_bytes w32) offset) in
    let own_is = length-parts (shared_at interval (length es) (last_text [] es) key) (drop (shared_at interval (length es) (last_text [] es) key) key) e.value in
    let whole = length-whole (entries_text interval 0 [] (es ++ e ∷ [])) (later_restarts interval 0 0 [] (es ++ e ∷ [])) in
    let sum : length (block_bytes interval (es ++ e ∷ []))
    ≡ grown_len (length (entries_text interval 0 [] es)) (length (flat_map (to_le_bytes w32) (later_restarts interval 0 0 [] es))) (is_later_restart interval (length es))
    (shared_at interval (length es) (last_text [] es) key) (length (drop (shared_at interval (length es) (last_text [] es) key) key)) (length e.value) =
    omega (arith, t, o, whole, own_is) in
    rw (tl-is, ol-is, unshared-is, shared-is, later-is, b.count_is, b.last_is, b.text_is, b.offsets_are) sum

-- ---- the last key

last_some : (e : Entry) (es : List Entry) → (k : InternalKey) × (last_key (e ∷ es) ≡ Some k)
last_some e [] = (internal_key e, refl)
last_some e (f ∷ es) = last_some f es

bytes_or : List ℕ → Option InternalKey → List ℕ
bytes_or before None = before
bytes_or before (Some k) = key_bytes k

last-bytes : (before : List ℕ) (es : List Entry) → last_text before es ≡ bytes_or before (last_key es)
unfolding bytes_or
last-bytes before [] = refl
last-bytes before (e ∷ []) = refl
last-bytes before (e ∷ f ∷ es) =
    let some = last_some f es in
    last-bytes (key_text e) (f ∷ es) ∙ ap (bytes_or (key_text e)) some.1 ∙ ap (bytes_or before) (sym some.1)

-- the bytes of the last key, and of none where there is no entry
pub last-text : (es : List Entry) → last_text [] es ≡ bytes_of (last_key es)
unfolding bytes_or
last-text es = last-bytes [] es ∙ same (last_key es)
  where
    same : (o : Option InternalKey) → bytes_or [] o ≡ bytes_of o
    same None = refl
    same (Some k) = refl

pub last_fits : (es : List Entry) (k : InternalKey) → AllByRecursion FitsEntry es → last_key es ≡ Some k → k.seq < 2 ^ 56
last_fits [] k f e = absurd cc
last_fits (e ∷ []) k f same = let is : internal_key e ≡ k = some_is (internal_key e) k same in subst (λ (x : InternalKey). x.seq < 2 ^ 56) is f.0.seq
last_fits (e ∷ g ∷ es) k f same = last_fits (g ∷ es) k f.1 same

pub ascends-push : (es : List Entry) (e : Entry) → Ascends es → after_last (last_key es) (internal_key e) ≡ true → Ascends (es ++ e ∷ [])
ascends-push [] e a h = tt
ascends-push (x ∷ []) e a h = (is_less (entry_cmp x e) h, tt)
ascends-push (x ∷ y ∷ es) e a h = (a.0, ascends-push (y ∷ es) e a.1 h)

pub finished : (interval count : ℕ) (es : List Entry) (text offsets last : List ℕ) → Built interval es text offsets last count
    → ((text ++ to_le_bytes w32 0) ++ offsets) ++ to_le_bytes w32 (length offsets / 4 + 1) ≡ block_bytes interval es
unfolding block_bytes
finished interval count es text offsets last b =
    let later = later_restarts interval 0 0 [] es in
    let four = ap (λ (xs : List ℕ). length xs) b.offsets_are ∙ length-words later in
    let n : length offsets / 4 ≡ length later = omega (arith, four) in
    rw n (rw (b.text_is, b.offsets_are) (simp append_assoc))

-- the same, with the parts one after another
pub pushed : (interval count : ℕ) (es : List Entry) (text offsets last : List ℕ) → Built interval es text offsets last count
    → text ++ (to_le_bytes w32 0 ++ (offsets ++ to_le_bytes w32 (length offsets / 4 + 1))) ≡ block_bytes interval es
pushed interval count es text offsets last b = simp append_assoc at (finished interval count es text offsets last b)

pub kept_last : (interval count : ℕ) (es : List Entry) (text offsets last : List ℕ) → Built interval es text offsets last count → Kept (last_key es) last
kept_last interval count es text offsets last b = subst (λ (xs : List ℕ). Kept (last_key es) xs) (sym (b.last_is ∙ last-text es)) (kept (last_key es) (λ k e. last_fits es k b.fit e))
  where
    kept : (o : Option InternalKey) → ((k : InternalKey) → o ≡ Some k → k.seq < 2 ^ 56) → Kept o (bytes_of o)
    kept None f = refl
    kept (Some k) f = record { bytes_are = refl; fits = f k refl }

pub is_block : (interval count : ℕ) (es : List Entry) (text offsets last : List ℕ) → Built interval es text offsets last count → IsBlock (block_bytes interval es) es
is_block interval count es text offsets last b = block_built interval es b.fit b.ascend (omega (arith, length-built interval count es text offsets last b, b.small))

-- A builder that has room for an entry, and takes it.
pub grows : (interval count : ℕ) (es : List Entry) (text offsets last : List ℕ) (e : Entry) (text_len offsets_len shared : ℕ) (later : Bool) (unshared_len : ℕ) (unshared text2 offsets2 last2 : List ℕ)
    → Built interval es text offsets last count → text_len ≡ length text → offsets_len ≡ length offsets → shared ≡ shared_at interval count last (key_text e)
    → later ≡ is_later_restart interval count → unshared ≡ drop shared (key_text e) → unshared_len ≡ length (drop shared (key_text e))
    → grown_len text_len offsets_len later shared unshared_len (length e.value) < 2 ^ 32
    → e.seq < 2 ^ 56 → Ascends (es ++ e ∷ [])
    → text2 ≡ text ++ parts_text shared unshared e.value → offsets2 ≡ offsets ++ flat_map (to_le_bytes w32) (offset_if later (length text)) → last2 ≡ key_text e
    → Built interval (es ++ e ∷ []) text2 offsets2 last2 (count + 1)
grows interval count es text offsets last e tl ol shared later unshared_len unshared text2 offsets2 last2 b tl-is ol-is shared-is later-is unshared-is len-is test seq_fits ascend t o l =
    let words = flat_map (to_le_bytes w32) (offset_if later (length text)) in
    let room = rw (tl-is, ol-is) at test in
    let parts = length-parts shared unshared e.value in
    let same : unshared_len ≡ length unshared = len-is ∙ ap (λ (xs : List ℕ). length xs) (sym unshared-is) in
    let own : own_len shared unshared_len (length e.value) ≡ length (parts_text shared unshared e.value) = ap (λ (n : ℕ). own_len shared n (length e.value)) same ∙ sym parts in
    let tlen = ap (λ (xs : List ℕ). length xs) t ∙ length-append text (parts_text shared unshared e.value) in
    let olen = ap (λ (xs : List ℕ). length xs) o ∙ length-append offsets words in
    let t2 = rw (unshared-is, shared-is) at t in
    let o2 = rw later-is at o in
    let built = grown interval count es text offsets last e text2 offsets2 b seq_fits ascend (omega (arith, room)) t2 o2 (omega (arith, room, own, tlen, olen)) in
    subst (λ (xs : List ℕ). Built interval (es ++ e ∷ []) text2 offsets2 xs (count + 1)) (sym l) built

-- ---- a key whose parts lie apart

pub common-user : (xs us ts : List ℕ) → common xs us < length us → common xs (us ++ ts) ≡ common xs us
unfolding common
common-user [] us ts h = common-none (us ++ ts) ∙ sym (common-none us)
  where
    common-none : (ys : List ℕ) → common [] ys ≡ 0
    common-none ys = refl
common-user (x ∷ xs) [] ts h = absurd (omega (arith, h))
common-user (x ∷ xs) (u ∷ us) ts h = by_first (eqb x u) h (common-user xs us ts)
  where
    by_first : (b : Bool) → one_more b (common xs us) < length (u ∷ us) → (common xs us < length us → common xs (us ++ ts) ≡ common xs us) → one_more b (common xs (us ++ ts)) ≡ one_more b (common xs us)
    by_first true lt go = ap suc (go (omega (arith, lt)))
    by_first false lt go = refl

pub common-all : (xs us ts : List ℕ) → length us ≤ common xs us → common xs (us ++ ts) ≡ length us + common (drop (length us) xs) ts
unfolding common
common-all xs [] ts h = omega arith
common-all [] (u ∷ us) ts h = absurd (omega (arith, h))
common-all (x ∷ xs) (u ∷ us) ts h = by_first (eqb x u) h (common-all xs us ts)
  where
    by_first : (b : Bool) → length (u ∷ us) ≤ one_more b (common xs us) → (length us ≤ common xs us → common xs (us ++ ts) ≡ length us + common (drop (length us) xs) ts)
        → one_more b (common xs (us ++ ts)) ≡ length (u ∷ us) + common (drop (length us) xs) ts
    by_first true le go = omega (arith, go (omega (arith, le)))
    by_first false le go = absurd (omega (arith, le))
