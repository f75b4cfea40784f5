-- The open block by its last key.
use Rattle.std.proofs.Common.{◌≡◌, ℕ, List, [], ◌∷◌, ◌++◌, length, Option, Some, None, refl, sym, ap, ◌∙◌, arith}
use Rattle.lsm_codec.specs.Keys.{InternalKey}
use Rattle.lsm_codec.specs.Entries.{Entry, internal_key}
use Rattle.lsm_block.specs.Block.{IsBlock, entry_of}
use Rattle.lsm_block.specs.Building.{block_bytes, last_key, Building}
use Rattle.lsm_block.proofs.CallerLemmas.{block_built}
use Rattle.lsm_table.specs.Handle.{handle_text}
use Rattle.lsm_table.specs.StoredBlock.{stored}
use Rattle.lsm_table.specs.Table.{last_of}
use Rattle.lsm_table.specs.TableBuilding.{last_group, data_text, index_of, place}
use Rattle.lsm_table.proofs.LastLaws.{last-group}
use Rattle.lsm_table.proofs.MakingLaws.{building, length-none, data_text-one, data_text-none, index_of-one, index_of-none}

some_key_is : (a b : InternalKey) → Some a ≡ Some b → a ≡ b
some_key_is a b e = cc

abbrev pub key_if : InternalKey → Option InternalKey
key_if key = Some key

-- a block that has an entry
pub record OneGroup (interval offset : ℕ) (es : List Entry) (key : InternalKey) : Type 0 where
  pub text_is : data_text interval (last_group es) ≡ stored (block_bytes interval es)
  pub index_is : index_of interval offset (last_group es) ≡ entry_of key (handle_text (place offset (block_bytes interval es))) ∷ []

pub one_group : (interval offset : ℕ) (es : List Entry) (key : InternalKey) → key_if key ≡ last_key es → OneGroup interval offset es key
one_group interval offset [] key h = absurd cc
one_group interval offset (e ∷ es) key h =
    let same : internal_key (last_of e es) ≡ key = some_key_is (internal_key (last_of e es)) key (sym (last-group e es) ∙ sym h) in
    record {
      text_is = data_text-one interval (e ∷ es);
      index_is = index_of-one interval offset e es ∙ ap (λ (k : InternalKey). entry_of k (handle_text (place offset (block_bytes interval (e ∷ es)))) ∷ []) same;
    }

-- a block that has none
pub record NoGroup (interval offset : ℕ) (es : List Entry) : Type 0 where
  pub is : es ≡ []
  pub text_is : data_text interval (last_group es) ≡ []
  pub index_is : index_of interval offset (last_group es) ≡ []
  pub block : IsBlock (block_bytes interval es) es

none_group : (interval offset : ℕ) → NoGroup interval offset []
none_group interval offset = record {
  is = refl;
  text_is = data_text-none interval;
  index_is = index_of-none interval offset;
  block = block_built interval [] tt tt (omega (arith, length-none interval));
}

abbrev pub no_key : Option InternalKey
no_key = None

pub no_group : (interval offset : ℕ) (es : List Entry) → no_key ≡ last_key es → NoGroup interval offset es
no_group interval offset [] h = none_group interval offset
no_group interval offset (e ∷ es) h = let found = h ∙ last-group e es in absurd cc

pub same_building : (b : Building) (es : List Entry) → b.entries ≡ es → b ≡ building b.interval es
same_building b es e = ap (building b.interval) e

pub same_place : (offset size : ℕ) (n : ℕ) (block : List ℕ) → offset ≡ n → size ≡ length block → handle_text (record { offset = offset; size = size }) ≡ handle_text (place n block)
same_place offset size n block a b = rw (a, b) refl

-- the index entry of an entry that ends its block
pub last_index : (interval offset : ℕ) (taken : List Entry) (e : Entry) → index_of interval offset (last_group (taken ++ e ∷ [])) ≡ entry_of (internal_key e) (handle_text (place offset (block_bytes interval (taken ++ e ∷ [])))) ∷ []
last_index interval offset taken e = (one_group interval offset (taken ++ e ∷ []) (internal_key e) (key_last taken)).index_is
  where
    key_last : (taken : List Entry) → key_if (internal_key e) ≡ last_key (taken ++ e ∷ [])
    key_last [] = refl
    key_last (t ∷ []) = refl
    key_last (t ∷ u ∷ ts) = key_last (u ∷ ts)

-- the index with the entry that was written down for the open block
pub added_index : (index : List Entry) (interval : ℕ) (front : List ℕ) (es : List Entry) (key : InternalKey) (offset size : ℕ) (text : List ℕ) → key_if key ≡ last_key es → offset ≡ length front → size ≡ length (block_bytes interval es)
    → text ≡ handle_text (record { offset = offset; size = size }) → index ++ index_of interval (length front) (last_group es) ≡ index ++ entry_of key text ∷ []
added_index index interval front es key offset size text k o s t =
    let g = one_group interval (length front) es key k in
    let same : text ≡ handle_text (place (length front) (block_bytes interval es)) = t ∙ same_place offset size (length front) (block_bytes interval es) o s in
    ap (λ (xs : List Entry). index ++ xs) (g.index_is ∙ ap (λ (v : List ℕ). entry_of key v ∷ []) (sym same))
