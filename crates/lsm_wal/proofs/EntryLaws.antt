-- Where sequences ascend the newest entry of a key is its last write.
use Rattle.std.proofs.Common.{◌≡◌, ℕ, suc, ◌+◌, ◌≤◌, Bool, true, false, leb, ltb, List, [], ◌∷◌}
use Rattle.std.proofs.Common.{◌++◌, length, Option, None, Some, Result, Ok, Err, refl, sym, ap, ◌∙◌}
use Rattle.std.proofs.Common.{subst, append_assoc, arith}
use Rattle.std.specs.Prelude.{IfOk}
use Rattle.std.specs.Str.{bytes_eq}
use Rattle.std.proofs.lemmas.Bool.{le-leb, lt-ltb}
use Rattle.lsm_codec.specs.Keys.{UserKey}
use Rattle.lsm_codec.specs.Entries.{Entry, stamp, newest, shown, value_in, answer}
use Rattle.lsm_codec.proofs.CallerLemmas.{stamp_lt}
use Rattle.lsm_batch.specs.declared.write.Write.{Write}
use Rattle.lsm_batch.specs.Batches.{kind_of, value_of, written_at, entries_from}
use Rattle.lsm_wal.specs.declared.write_batch.WriteBatch.{WriteBatch}
use Rattle.lsm_wal.specs.WriteLog.{AreBatches, after, entries_of, writes_of}
use Rattle.lsm_batch.specs.LastWrites.{KeepsLast, last_write}
use Rattle.lsm_wal.specs.WriteLog.{value_after}

-- the same key's entry and write, whose sequence is not below least
abbrev Same : ℕ → Option Entry → Option Write → Type 0
Same least None None = Unit {0}
Same least None (Some w) = ⊥
Same least (Some e) None = ⊥
Same least (Some e) (Some w) = (shown e.kind e.value ≡ w.value) × (least ≤ e.seq)

shows : (value : Option (List ℕ)) → shown (kind_of value) (value_of value) ≡ value
shows None = refl
shows (Some v) = refl

weaker : (low high : ℕ) (o : Option Entry) (p : Option Write) → low ≤ high → Same high o p
    → Same low o p
weaker low high None None le h = tt
weaker low high None (Some w) le h = absurd h
weaker low high (Some e) None le h = absurd h
weaker low high (Some e) (Some w) le h = (h.0, omega (arith, le, h.1))

one_more : (key : UserKey) (s seq : ℕ) (w : Write) (es : List Entry) (ws : List Write) → seq ≤ s
    → Same (suc seq) (newest key s es) (last_write key ws)
    → Same seq (newest key s (written_at seq w ∷ es)) (last_write key (w ∷ ws))
one_more key s seq w es ws le h = at (bytes_eq w.key key) refl (newest key s es)
    (last_write key ws) refl refl h
  where
    at : (b : Bool) → bytes_eq w.key key ≡ b → (o : Option Entry) (p : Option Write)
        → newest key s es ≡ o → last_write key ws ≡ p → Same (suc seq) o p
        → Same seq (newest key s (written_at seq w ∷ es)) (last_write key (w ∷ ws))
    at true t None None o p h =
        let in_it : leb seq s ≡ true = le-leb _ _ le in
        rw (t, in_it, o, p) (shows w.value, omega arith)
    at true t None (Some v) o p h = absurd h
    at true t (Some f) None o p h = absurd h
    at true t (Some f) (Some v) o p h =
        let in_it : leb seq s ≡ true = le-leb _ _ le in
        let yes : ltb (stamp (written_at seq w)) (stamp f) ≡ true =
        lt-ltb _ _ (stamp_lt (written_at seq w) f (omega (arith, h.1))) in
        rw (t, in_it, o, p, yes) (h.0, omega (arith, h.1))
    at false t None None o p h = rw (t, o, p) tt
    at false t None (Some v) o p h = absurd h
    at false t (Some f) None o p h = absurd h
    at false t (Some f) (Some v) o p h = rw (t, o, p) (h.0, omega (arith, h.1))

many_more : (key : UserKey) (s seq : ℕ) (vs : List Write) (es : List Entry) (ws : List Write)
    → seq + length vs ≤ suc s → Same (seq + length vs) (newest key s es) (last_write key ws)
    → Same seq (newest key s (entries_from seq vs ++ es)) (last_write key (vs ++ ws))
many_more key s seq [] es ws le h = weaker seq (seq + 0) (newest key s es) (last_write key ws)
    (omega arith) h
many_more key s seq (v ∷ vs) es ws le h =
    let k : seq + length (v ∷ vs) ≡ suc seq + length vs = omega arith in
    one_more key s seq v (entries_from (suc seq) vs ++ es) (vs ++ ws) (omega (arith, le))
    (many_more key s (suc seq) vs es ws (omega (arith, le))
    (subst (λ (n : ℕ). Same n (newest key s es) (last_write key ws)) k h))

after_le : (least : ℕ) (rs : List (List ℕ)) (bs : List WriteBatch) → AreBatches least rs bs
    → least ≤ after least bs
after_le least [] [] a = omega arith
after_le least [] (b ∷ bs) a = absurd a
after_le least (r ∷ rs) [] a = absurd a
after_le least (r ∷ rs) (b ∷ bs) a =
    omega (arith, a.1, after_le (b.first + length b.writes) rs bs a.2)

all_same : (key : UserKey) (s least : ℕ) (rs : List (List ℕ)) (bs : List WriteBatch)
    → AreBatches least rs bs → after least bs ≤ suc s
    → Same least (newest key s (entries_of bs)) (last_write key (writes_of bs))
all_same key s least [] [] a le = tt
all_same key s least [] (b ∷ bs) a le = absurd a
all_same key s least (r ∷ rs) [] a le = absurd a
all_same key s least (r ∷ rs) (b ∷ bs) a le =
    let next = b.first + length b.writes in
    let more = all_same key s next rs bs a.2 le in
    weaker least b.first (newest key s (entries_of (b ∷ bs))) (last_write key (writes_of (b ∷ bs)))
    a.1
    (many_more key s b.first b.writes (entries_of bs) (writes_of bs)
    (omega (arith, le, after_le next rs bs a.2)) more)

said_same : (least : ℕ) (o : Option Entry) (p : Option Write) → Same least o p
    → value_in o ≡ value_after p
said_same least None None h = refl
said_same least None (Some w) h = absurd h
said_same least (Some e) None h = absurd h
said_same least (Some e) (Some w) h = h.0

pub newest_is_last : (records : List (List ℕ)) (bs : List WriteBatch) → AreBatches 0 records bs
    → (key : UserKey) (s : ℕ) → after 0 bs ≤ suc s → answer (entries_of bs) key s
    ≡ value_after (last_write key (writes_of bs))
newest_is_last records bs a key s le = said_same 0 (newest key s (entries_of bs))
    (last_write key (writes_of bs)) (all_same key s 0 records bs a le)

-- ---- the fold

pub joined_more : (old new : List Write) (b : WriteBatch) (bs rest : List WriteBatch)
    (all : List Write) → bs ≡ b ∷ rest → new ≡ old ++ b.writes → old ++ writes_of bs ≡ all
    → new ++ writes_of rest ≡ all
joined_more old new b bs rest all step more before =
    ap (λ (ws : List Write). ws ++ writes_of rest) more ∙ append_assoc old b.writes (writes_of rest)
    ∙ ap (λ (xs : List WriteBatch). old ++ writes_of xs) (sym step) ∙ before

pub last_from : {E : Type 0} (r : Result (List Write) E) (ws all : List Write)
    → IfOk r (KeepsLast ws) → ws ≡ all → IfOk r (KeepsLast all)
last_from r ws all k same = subst (λ (xs : List Write). IfOk r (KeepsLast xs)) same k

pub answers_from : {E : Type 0} (r : Result (List Write) E) (ws : List Write) (bs : List WriteBatch)
    → IfOk r (KeepsLast ws) → ws ≡ writes_of bs
    → IfOk r (λ batch. (records : List (List ℕ)) → AreBatches 0 records bs → (key : UserKey) (s : ℕ)
    → after 0 bs ≤ suc s → answer (entries_of bs) key s ≡ value_after (last_write key batch))
answers_from (Err e) ws bs k same = tt
answers_from (Ok batch) ws bs k same = λ records are key s le. newest_is_last records bs are key s
    le ∙ ap value_after (ap (last_write key) (sym same) ∙ sym (k.last key))
