-- Laws of batches: their limits, the order of their keys, and their entries.
use Rattle.std.proofs.Common.{◌≡◌, ℕ, zero, suc, ◌+◌, ◌-◌, ◌<◌, ◌≤◌, List, [], ◌∷◌, ◌++◌, length, get_or, take, drop, refl, sym, ◌∙◌, ap, subst, inl, inr, arith, append_assoc}
use Rattle.std.specs.Prelude.{Result, Ok, Err, IsErrAnd}
use Rattle.std.proofs.lemmas.List.{at_drop_more, take_all}
use Rattle.lsm_codec.specs.Lists.{Has}
use Rattle.lsm_codec.specs.Entries.{Entry, entry_cmp, internal_key}
use Rattle.lsm_block.specs.Block.{Ascends, entry_of}
use Rattle.lsm_codec.specs.Keys.{InternalKey}
use Rattle.lsm_table.specs.TableMaking.{Making}
use Rattle.lsm_table.specs.declared.table_options.TableOptions.{TableOptions}
use Rattle.lsm_block.specs.declared.build_fault.BuildFault.{BuildFault}
use Rattle.lsm_batch.specs.declared.write.Write.{Write}
use Rattle.lsm_batch.specs.Batches.{IsLess, KeysRise, entries_from, value_of, written_at}

-- ---- elements

pub has_at : {X : Type 0} (xs : List X) (i : ℕ) (d : X) → i < length xs → Has xs (get_or xs i d)
has_at [] i d lt = absurd (omega arith)
has_at (x ∷ xs) zero d lt = inl refl
has_at (x ∷ xs) (suc i) d lt = inr (has_at xs i d (omega arith))

-- a list that has an element begins with it
pub parts_are : (ws xs : List Write) (w : Write) → ws ≡ xs → 1 ≤ length xs → w ≡ get_or xs 0 w → ws ≡ w ∷ take (length xs - 1) (drop 1 xs)
parts_are ws [] w e some is = absurd (omega arith)
parts_are ws (x ∷ xs) w e some is =
    let rest : length xs ≤ length (x ∷ xs) - 1 = omega arith in
    e ∙ (ap (λ (v : Write). v ∷ xs) (sym is) ∙ ap (λ (l : List Write). w ∷ l) (sym (take_all (length (x ∷ xs) - 1) xs rest)))

-- ---- order

pub rise_tail : (w : Write) (ws : List Write) → KeysRise (length (w ∷ ws)) (w ∷ ws) → KeysRise (length ws) ws
rise_tail w ws rise i d lt = rise (suc i) d (omega arith)

-- ---- entries

less_entry : (seq after : ℕ) (a b : Write) → IsLess a.key b.key → entry_cmp (written_at seq a) (written_at after b) ≡ Rattle.std.specs.declared.cmp.Ordering.TheVariants.Less
less_entry seq after a b less = rw less refl

pub entries_ascend : (seq : ℕ) (ws : List Write) → KeysRise (length ws) ws → Ascends (entries_from seq ws)
entries_ascend seq [] rise = tt
entries_ascend seq (a ∷ []) rise = tt
entries_ascend seq (a ∷ b ∷ ws) rise = (less_entry seq (suc seq) a b (rise 0 a (omega arith)), entries_ascend (suc seq) (b ∷ ws) (rise_tail a (b ∷ ws) rise))

pub ascends_prefix : (xs ys : List Entry) → Ascends (xs ++ ys) → Ascends xs
ascends_prefix [] ys h = tt
ascends_prefix (x ∷ []) ys h = tt
ascends_prefix (x ∷ y ∷ xs) ys h = (h.0, ascends_prefix (y ∷ xs) ys h.1)

-- what is left of a batch from a place on begins with what is written there
pub entries_at : (ws : List Write) (seq i : ℕ) (w : Write) → i < length ws → w ≡ get_or ws i w → entries_from (seq + i) (drop i ws) ≡ written_at (seq + i) w ∷ entries_from (seq + (i + 1)) (drop (i + 1) ws)
entries_at ws seq i w lt is =
    let next : suc (seq + i) ≡ seq + (i + 1) = omega arith in
    at_drop_more (entries_from (seq + i)) ws i w lt
    ∙ (ap (λ (u : Write). written_at (seq + i) u ∷ entries_from (suc (seq + i)) (drop (i + 1) ws)) (sym is)
    ∙ ap (λ (n : ℕ). written_at (seq + i) w ∷ entries_from n (drop (i + 1) ws)) next)

-- the entries before a place, with that of the place, ascend where all do
pub ascends_on : (all done : List Entry) (e : Entry) (now rest : List Entry) → Ascends all → done ++ now ≡ all → now ≡ e ∷ rest → Ascends (done ++ e ∷ [])
ascends_on all done e now rest a is at = ascends_prefix (done ++ e ∷ []) rest (subst Ascends (sym (append_assoc done (e ∷ []) rest ∙ (ap (λ (l : List Entry). done ++ l) (sym at) ∙ is))) a)

-- ---- the table of a batch

entry_is : (seq : ℕ) (w : Write) (k : InternalKey) (b : List ℕ) → k ≡ internal_key (written_at seq w) → b ≡ value_of w.value → entry_of k b ≡ written_at seq w
entry_is seq w k b p q = ap (λ (j : InternalKey). entry_of j b) p ∙ ap (λ (v : List ℕ). entry_of (internal_key (written_at seq w)) v) q

abbrev pub making : TableOptions → List Entry → Making
making options es = record { options = options; entries = es }

-- a table that begins with what is written first, and then gets the rest
pub made_of : (options : TableOptions) (seq : ℕ) (ws others : List Write) (w : Write) (k : InternalKey) (b : List ℕ) (t : Making) → ws ≡ w ∷ others
    → k ≡ internal_key (written_at seq w) → b ≡ value_of w.value → t ≡ making options (entry_of k b ∷ [])
    → making t.options (t.entries ++ entries_from (seq + 1) others) ≡ making options (entries_from seq ws)
made_of options seq ws others w k b t all p q at =
    let next : seq + 1 ≡ suc seq = omega arith in
    ap (λ (m : Making). making m.options (m.entries ++ entries_from (seq + 1) others)) at
    ∙ (ap (λ (e : Entry). making options (e ∷ entries_from (seq + 1) others)) (entry_is seq w k b p q)
    ∙ (ap (λ (n : ℕ). making options (written_at seq w ∷ entries_from n others)) next
    ∙ ap (λ (l : List Write). making options (entries_from seq l)) (sym all)))

pub ascends_made : (seq : ℕ) (ws : List Write) (options : TableOptions) (m : Making) → KeysRise (length ws) ws → m ≡ making options (entries_from seq ws) → Ascends m.entries
ascends_made seq ws options m rise is = subst (λ (n : Making). Ascends n.entries) (sym is) (entries_ascend seq ws rise)

-- a refusal that is handed on
pub fault_is : {A : Type 0} (r : Result A BuildFault) (f e : BuildFault) → IsErrAnd r (λ x. x ≡ f) → r ≡ Err e → f ≡ e
fault_is (Ok x) f e h is = absurd h
fault_is (Err x) f e h is = sym h ∙ (let z : x ≡ e = (cc is) in z)
