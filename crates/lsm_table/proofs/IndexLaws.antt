-- A search by the index finds what a search of all entries finds.
use Rattle.std.proofs.Common.{◌≡◌, ℕ, ◌^◌, ◌<◌, true, List, [], ◌∷◌, ◌++◌, Option, Some, refl, ap, ◌∙◌, Less}
use Rattle.std.specs.List.{AllByRecursion}
use Rattle.std.specs.Ordering.{is_lt, is_le}
use Rattle.lsm_codec.specs.Keys.{InternalKey, key_cmp}
use Rattle.lsm_codec.specs.Entries.{Entry, internal_key, entry_cmp}
use Rattle.lsm_block.specs.Block.{Spells, Ascends, key_text}
use Rattle.lsm_block.specs.Seeking.{not_below}
use Rattle.lsm_table.specs.Table.{DataBlock, DataBlocks, last_of, concat}
use Rattle.lsm_table.proofs.KeyOrder.{key_cmp_total, le_less_trans, self_le}
use Rattle.lsm_table.proofs.SearchLaws.{below-step, AllAfter, after_trans, less_le, ascends_after, ascends_tail, SeqsFit}

-- ---- lists one after another

pub all_append : (P : Entry → Type 0) (xs ys : List Entry) → AllByRecursion P xs → AllByRecursion P ys → AllByRecursion P (xs ++ ys)
all_append P [] ys f g = g
all_append P (x ∷ xs) ys f g = (f.0, all_append P xs ys f.1 g)

below_step_by : (key : InternalKey) (e : Entry) (es : List Entry) → key_cmp (internal_key e) key ≡ Less → not_below key (e ∷ es) ≡ not_below key es
below_step_by key e es h = below-step key e es (ap is_lt h)

-- what is below a key throughout
pub all_below : (key : InternalKey) (xs ys : List Entry) → AllByRecursion (λ e. key_cmp (internal_key e) key ≡ Less) xs → not_below key (xs ++ ys) ≡ not_below key ys
all_below key [] ys h = refl
all_below key (x ∷ xs) ys h = below_step_by key x (xs ++ ys) h.0 ∙ all_below key xs ys h.1

-- ---- data blocks between index keys

-- every entry of a data block is at most its last
pub up_to_last : (e : Entry) (es : List Entry) → Ascends (e ∷ es) → AllByRecursion (λ x. is_le (entry_cmp x (last_of e es)) ≡ true) (e ∷ es)
up_to_last e [] a = (self_le (internal_key e), tt)
up_to_last e (f ∷ es) a =
    let rest = up_to_last f es a.1 in
    (less_le (entry_cmp e (last_of f es)) (first_less e f es a), rest)
  where
    first_less : (e f : Entry) (es : List Entry) → Ascends (e ∷ f ∷ es) → entry_cmp e (last_of f es) ≡ Less
    first_less e f [] a = a.0
    first_less e f (g ∷ es) a = first_less e g es (key_cmp_total.trans (internal_key e) (internal_key f) (internal_key g) a.0 a.1.0, a.1.1)

pub block_ascends : (body value : List ℕ) (es : List Entry) → DataBlock body value es → Ascends es
block_ascends body value es d = d.block.ascends

pub all_less : (i : Entry) (key : InternalKey) (last : Entry) (es : List Entry) → AllByRecursion (λ x. is_le (entry_cmp x last) ≡ true) es → is_le (entry_cmp last i) ≡ true → key_cmp (internal_key i) key ≡ Less
    → AllByRecursion (λ e. key_cmp (internal_key e) key ≡ Less) es
all_less i key last [] s h k = tt
all_less i key last (e ∷ es) s h k =
    (le_less_trans (internal_key e) (internal_key last) key s.0 (le_less_trans (internal_key last) (internal_key i) key h k), all_less i key last es s.1 h k)

-- all entries of data blocks come after the index key before them
pub data_after : (body : List ℕ) (bound : Entry) (index : List Entry) (groups : List (List Entry)) → Ascends (bound ∷ index) → DataBlocks body (Some (internal_key bound)) index groups → AllAfter (internal_key bound) (concat groups)
data_after body bound [] [] a d = tt
data_after body bound [] (group ∷ groups) a d = absurd d
data_after body bound (i ∷ index) [] a d = absurd d
data_after body bound (i ∷ index) ([] ∷ groups) a d = absurd d
data_after body bound (i ∷ index) ((e ∷ es) ∷ groups) a d =
    let here : AllAfter (internal_key bound) (e ∷ es) =
    (d.1, after_trans (internal_key bound) (internal_key e) es (less_le (entry_cmp bound e) d.1) (ascends_after e es (block_ascends body i.value (e ∷ es) d.0))) in
    let later = after_trans (internal_key bound) (internal_key i) (concat groups) (less_le (entry_cmp bound i) a.0) (data_after body i index groups a.1 d.3) in
    all_append (λ x. key_cmp (internal_key bound) (internal_key x) ≡ Less) (e ∷ es) (concat groups) here later

-- ---- a table's entries ascend, and their sequences fit

-- ascending entries, then ascending entries that come after the last of them
ascends_join : (e : Entry) (es ys : List Entry) → Ascends (e ∷ es) → AllAfter (internal_key (last_of e es)) ys → Ascends ys → Ascends (e ∷ (es ++ ys))
ascends_join e [] [] a f g = tt
ascends_join e [] (y ∷ ys) a f g = (f.0, g)
ascends_join e (x ∷ es) ys a f g = (a.0, ascends_join x es ys a.1 f g)

pub data_ascends : (body : List ℕ) (bound : Option InternalKey) (index : List Entry) (groups : List (List Entry)) → Ascends index → DataBlocks body bound index groups → Ascends (concat groups)
data_ascends body bound [] [] a d = tt
data_ascends body bound [] (group ∷ groups) a d = absurd d
data_ascends body bound (i ∷ index) [] a d = absurd d
data_ascends body bound (i ∷ index) ([] ∷ groups) a d = absurd d
data_ascends body bound (i ∷ index) ((e ∷ es) ∷ groups) a d =
    ascends_join e es (concat groups) (block_ascends body i.value (e ∷ es) d.0) (after_trans (internal_key (last_of e es)) (internal_key i) (concat groups) d.2 (data_after body i index groups a d.3))
    (data_ascends body (Some (internal_key i)) index groups (ascends_tail i index a) d.3)

spelled_fit : (es : List Entry) (offset : ℕ) (before text starts : List ℕ) → Spells offset before text starts es → SeqsFit es
spelled_fit [] offset before text starts s = tt
spelled_fit (e ∷ es) offset before text starts s = (s.4.seq_fits, spelled_fit es _ (key_text e) s.2 s.3 s.7)

pub data_seqs : (body : List ℕ) (bound : Option InternalKey) (index : List Entry) (groups : List (List Entry)) → DataBlocks body bound index groups → SeqsFit (concat groups)
data_seqs body bound [] [] d = tt
data_seqs body bound [] (group ∷ groups) d = absurd d
data_seqs body bound (i ∷ index) [] d = absurd d
data_seqs body bound (i ∷ index) ([] ∷ groups) d = absurd d
data_seqs body bound (i ∷ index) ((e ∷ es) ∷ groups) d =
    all_append (λ x. x.seq < 2 ^ 56) (e ∷ es) (concat groups) (spelled_fit (e ∷ es) 0 [] d.0.block.text d.0.block.starts d.0.block.spelled) (data_seqs body (Some (internal_key i)) index groups d.3)
