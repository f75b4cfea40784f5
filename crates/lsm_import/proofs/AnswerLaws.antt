-- Writes at sequences above those of tables: a read finds the last of a key, or what the tables
-- have.
use Rattle.std.proofs.Common.{◌≡◌, ℕ, suc, ◌+◌, ◌<◌, ◌≤◌, Bool, true, false, leb, ltb, List, []}
use Rattle.std.proofs.Common.{◌∷◌, ◌++◌, length, Option, None, Some, refl, sym, ap, ◌∙◌, subst, inl}
use Rattle.std.proofs.Common.{inr, append_assoc, arith}
use Rattle.std.proofs.lemmas.List.{append-nil}
use Rattle.std.specs.Str.{bytes_eq}
use Rattle.std.proofs.lemmas.Bool.{le-leb, lt-ltb, ltb-true}
use Rattle.lsm_codec.specs.Keys.{UserKey}
use Rattle.lsm_codec.specs.Entries.{Entry, stamp, newest, shown, value_in, answer}
use Rattle.lsm_codec.proofs.CallerLemmas.{Finds, newest_finds, stamp_lt}
use Rattle.lsm_batch.specs.declared.write.Write.{Write}
use Rattle.lsm_batch.specs.Batches.{kind_of, value_of, written_at, entries_from}
use Rattle.std.specs.Option.{option_or}
use Rattle.lsm_batch.specs.LastWrites.{KeepsLast, last_write, write_at}
use Rattle.lsm_wal.specs.declared.write_batch.WriteBatch.{WriteBatch}
use Rattle.lsm_wal.specs.WriteLog.{AreBatches, after, entries_of, writes_of}
use Rattle.lsm_import.specs.Answers.{NoneAbove, value_over}

-- what is found: the last write's entry, which is not below least, where there is one; else what
-- was there, which is below least
abbrev Over : ℕ → Option Entry → Option Write → Option Entry → Type 0
Over least o None base = o ≡ base
Over least o (Some w) base = (e : Entry) × (o ≡ Some e) × (shown e.kind e.value ≡ w.value)
    × (least ≤ e.seq)

-- nothing of this is at that sequence or above it
abbrev Below : ℕ → Option Entry → Type 0
Below least None = Unit {0}
Below least (Some f) = f.seq < least

shows : (value : Option (List ℕ)) → shown (kind_of value) (value_of value) ≡ value
shows None = refl
shows (Some v) = refl

weaker : (low high : ℕ) (o : Option Entry) (p : Option Write) (base : Option Entry) → low ≤ high
    → Over high o p base → Over low o p base
weaker low high o None base le h = h
weaker low high o (Some w) base le h = (h.0, h.1, h.2, omega (arith, h.3))

below_more : (low high : ℕ) (base : Option Entry) → low ≤ high → Below low base → Below high base
below_more low high None le b = tt
below_more low high (Some f) le b = omega (arith, b)

not_ltb : (m n : ℕ) → n ≤ m → ltb m n ≡ false
not_ltb m n le = at (ltb m n) refl
  where
    at : (b : Bool) → ltb m n ≡ b → ltb m n ≡ false
    at true t = absurd (omega (arith, ltb-true m n t))
    at false t = t

one_more : (key : UserKey) (s seq : ℕ) (w : Write) (es : List Entry) (ws : List Write)
    (base : Option Entry) → seq ≤ s → Below seq base
    → Over (suc seq) (newest key s es) (last_write key ws) base
    → Over seq (newest key s (written_at seq w ∷ es)) (last_write key (w ∷ ws)) base
one_more key s seq w es ws base le b h = at (bytes_eq w.key key) refl (last_write key ws) refl h
  where
    e0 : Entry
    e0 = written_at seq w

    in_it : leb seq s ≡ true
    in_it = le-leb _ _ le

    fresh : bytes_eq w.key key ≡ true → (o : Option Entry) → newest key s es ≡ o → Below seq o
        → newest key s (e0 ∷ es) ≡ Some e0
    fresh t None is b = rw (t, in_it, is) refl
    fresh t (Some f) is b =
        let no : ltb (stamp e0) (stamp f) ≡ false = not_ltb _ _ (omega (arith, stamp_lt f e0 b)) in
        rw (t, in_it, is, no) refl

    at : (c : Bool) → bytes_eq w.key key ≡ c → (p : Option Write) → last_write key ws ≡ p
        → Over (suc seq) (newest key s es) p base
        → Over seq (newest key s (e0 ∷ es)) (last_write key (w ∷ ws)) base
    at true t None p h =
        let l : last_write key (w ∷ ws) ≡ Some w = rw (p, t) refl in
        subst (λ (q : Option Write). Over seq (newest key s (e0 ∷ es)) q base) (sym l)
        (e0, fresh t base h b, shows w.value, omega arith)
    at true t (Some v) p h =
        let l : last_write key (w ∷ ws) ≡ Some v =
        ap (λ (o : Option Write). option_or o (write_at key w)) p in
        let f = h.0 in
        let yes : ltb (stamp e0) (stamp f) ≡ true =
        lt-ltb _ _ (stamp_lt e0 f (omega (arith, h.3))) in
        let found : newest key s (e0 ∷ es) ≡ Some f = rw (t, in_it, h.1, yes) refl in
        subst (λ (q : Option Write). Over seq (newest key s (e0 ∷ es)) q base) (sym l)
        (f, found, h.2, omega (arith, h.3))
    at false t None p h =
        let l : last_write key (w ∷ ws) ≡ None = rw (p, t) refl in
        let found : newest key s (e0 ∷ es) ≡ newest key s es = rw t refl in
        subst (λ (q : Option Write). Over seq (newest key s (e0 ∷ es)) q base) (sym l) (found ∙ h)
    at false t (Some v) p h =
        let l : last_write key (w ∷ ws) ≡ Some v =
        ap (λ (o : Option Write). option_or o (write_at key w)) p in
        let found : newest key s (e0 ∷ es) ≡ newest key s es = rw t refl in
        subst (λ (q : Option Write). Over seq (newest key s (e0 ∷ es)) q base) (sym l)
        (h.0, found ∙ h.1, h.2, omega (arith, h.3))

many_more : (key : UserKey) (s seq : ℕ) (vs : List Write) (es : List Entry) (ws : List Write)
    (base : Option Entry) → seq + length vs ≤ suc s → Below seq base
    → Over (seq + length vs) (newest key s es) (last_write key ws) base
    → Over seq (newest key s (entries_from seq vs ++ es)) (last_write key (vs ++ ws)) base
many_more key s seq [] es ws base le b h = weaker seq (seq + 0) (newest key s es)
    (last_write key ws) base (omega arith) h
many_more key s seq (v ∷ vs) es ws base le b h =
    let k : seq + length (v ∷ vs) ≡ suc seq + length vs = omega arith in
    one_more key s seq v (entries_from (suc seq) vs ++ es) (vs ++ ws) base (omega (arith, le)) b
    (many_more key s (suc seq) vs es ws base (omega (arith, le))
    (below_more seq (suc seq) base (omega arith) b)
    (subst (λ (n : ℕ). Over n (newest key s es) (last_write key ws) base) k h))

after_le : (least : ℕ) (rs : List (List ℕ)) (bs : List WriteBatch) → AreBatches least rs bs
    → least ≤ after least bs
after_le least [] [] a = omega arith
after_le least [] (b ∷ bs) a = absurd a
after_le least (r ∷ rs) [] a = absurd a
after_le least (r ∷ rs) (b ∷ bs) a =
    omega (arith, a.1, after_le (b.first + length b.writes) rs bs a.2)

all_over : (key : UserKey) (s least : ℕ) (rs : List (List ℕ)) (bs : List WriteBatch)
    (es : List Entry) → AreBatches least rs bs → after least bs ≤ suc s
    → Below least (newest key s es)
    → Over least (newest key s (entries_of bs ++ es)) (last_write key (writes_of bs))
    (newest key s es)
all_over key s least [] [] es a le b = refl
all_over key s least [] (x ∷ bs) es a le b = absurd a
all_over key s least (r ∷ rs) [] es a le b = absurd a
all_over key s least (r ∷ rs) (x ∷ bs) es a le b =
    let next = x.first + length x.writes in
    let base = newest key s es in
    let more = all_over key s next rs bs es a.2 le
    (below_more least next base (omega (arith, a.1)) b) in
    let joined = many_more key s x.first x.writes (entries_of bs ++ es) (writes_of bs) base
    (omega (arith, le, after_le next rs bs a.2)) (below_more least x.first base a.1 b) more in
    weaker least x.first (newest key s (entries_of (x ∷ bs) ++ es))
    (last_write key (writes_of (x ∷ bs))) base a.1
    (subst (λ (xs : List Entry). Over x.first (newest key s xs)
    (last_write key (writes_of (x ∷ bs))) base)
    (sym (append_assoc (entries_from x.first x.writes) (entries_of bs) es)) joined)

-- ---- what was there

-- none is above the last sequence, so that one more sequence allows no more
same_newest : (key : UserKey) (last s : ℕ) (es : List Entry) → NoneAbove last es → last ≤ s
    → newest key s es ≡ newest key last es
same_newest key last s [] none le = refl
same_newest key last s (e ∷ es) none le =
    let more = same_newest key last s es (λ x h. none x (inr h)) le in
    let here : e.seq ≤ last = none e (inl refl) in
    let a : leb e.seq s ≡ true = le-leb _ _ (omega arith) in
    let b : leb e.seq last ≡ true = le-leb _ _ here in
    rw (a, b, more) refl

found_below : (key : UserKey) (last s : ℕ) (es : List Entry) → NoneAbove last es
    → Below (suc last) (newest key s es)
found_below key last s es none = at (newest key s es) refl
  where
    at : (o : Option Entry) → newest key s es ≡ o → Below (suc last) o
    at None is = tt
    at (Some f) is =
        let n = subst (Finds es key s) is (newest_finds key s es) in
        let le = none f n.here in
        omega arith

said_over : (key : UserKey) (least last s : ℕ) (es : List Entry) (o : Option Entry)
    (p : Option Write) → NoneAbove last es → last ≤ s → Over least o p (newest key s es)
    → value_in o ≡ value_over p (answer es key last)
said_over key least last s es o None none le h = ap value_in (h ∙ same_newest key last s es none le)
said_over key least last s es o (Some w) none le h = ap value_in h.1 ∙ h.2

-- ---- the laws

pub copy_answers : (es : List Entry) (batches : List WriteBatch) (batch : List Write)
    (last first s : ℕ) → NoneAbove last es → KeepsLast (writes_of batches) batch → last < first
    → first + length batch ≤ suc s → (key : UserKey) → answer (entries_from first batch ++ es) key s
    ≡ value_over (last_write key (writes_of batches)) (answer es key last)
copy_answers es batches batch last first s none kept lt le key =
    let base = newest key s es in
    let b = below_more (suc last) first base (omega arith) (found_below key last s es none) in
    let nothing : Over (first + length batch) base (last_write key []) base = refl in
    let over = many_more key s first batch es [] base le b nothing in
    said_over key first last s es (newest key s (entries_from first batch ++ es))
    (last_write key batch) none (omega arith)
    (subst (λ (ws : List Write). Over first (newest key s (entries_from first batch ++ es))
    (last_write key ws) base) (append-nil batch) over)
    ∙ ap (λ (p : Option Write). value_over p (answer es key last)) (kept.last key)

pub source_answers : (es : List Entry) (records : List (List ℕ)) (batches : List WriteBatch)
    (last s : ℕ) → NoneAbove last es → AreBatches (suc last) records batches
    → after (suc last) batches ≤ suc s → (key : UserKey) → answer (entries_of batches ++ es) key s
    ≡ value_over (last_write key (writes_of batches)) (answer es key last)
source_answers es records batches last s none are le key =
    let base = newest key s es in
    let over = all_over key s (suc last) records batches es are le
    (found_below key last s es none) in
    said_over key (suc last) last s es (newest key s (entries_of batches ++ es))
    (last_write key (writes_of batches)) none
    (omega (arith, after_le (suc last) records batches are)) over
