-- A key of a table is not longer than the table's bytes.
use Rattle.std.proofs.Common.{◌≡◌, ℕ, ◌+◌, ◌≤◌, ◌^◌, List, [], ◌∷◌, ◌++◌, Option, Some, None, length, take, refl, sym, ◌∙◌, ap, subst, inl, inr, arith, length-append}
use Rattle.std.specs.Int.{w32, to_le_bytes}
use Rattle.std.specs.List.{flat_map}
use Rattle.std.proofs.lemmas.List.{length-take-le}
use Rattle.lsm_codec.specs.Lists.{Has}
use Rattle.lsm_codec.specs.Keys.{InternalKey, IsKey, key_bytes}
use Rattle.lsm_codec.specs.Entries.{Entry, internal_key}
use Rattle.lsm_codec.proofs.CallerLemmas.{has_cases, has_right, internal_of}
use Rattle.lsm_block.specs.Block.{EntryText, IsBlock, Spells, key_text}
use Rattle.lsm_table.specs.Registry.{Table}
use Rattle.lsm_table.specs.StoredBlock.{trailer}
use Rattle.lsm_table.specs.Table.{DataBlocks, IsTable, concat}
use Rattle.lsm_table.specs.HeldTable.{entries_in}
use Rattle.lsm_manifest.specs.EditFit.{FitsKey}
use Rattle.lsm_version.specs.Versions.{IsWhole}

-- an entry's key has bytes of the key before, and bytes of its own
key_at_most : (before : List ℕ) (e : Entry) (shared : ℕ) (own : List ℕ) → EntryText before e shared own → length (key_text e) ≤ length before + length own
key_at_most before e shared own t =
    let key = sym (ap length t.key_is) ∙ length-append (take shared before) t.unshared in
    let front = length-take-le shared before t.within in
    let a = ap length t.text_is ∙ length-append t.shared_text (t.unshared_text ++ (t.length_text ++ (t.unshared ++ e.value))) in
    let b = length-append t.unshared_text (t.length_text ++ (t.unshared ++ e.value)) in
    let c = length-append t.length_text (t.unshared ++ e.value) in
    let d = length-append t.unshared e.value in
    omega arith

keys_at_most : (offset : ℕ) (before text starts : List ℕ) (es : List Entry) (e : Entry) → Spells offset before text starts es → Has es e → length (key_text e) ≤ length before + length text
keys_at_most offset before text starts [] e s h = absurd h
keys_at_most offset before text starts (f ∷ es) e (shared, own, rest, others, t, text_is, starts_are, later) h =
    let first = key_at_most before f shared own t in
    let size = ap length text_is ∙ length-append own rest in
    elim h [
      | inl same ↦ (let k = ap (λ (x : Entry). length (key_text x)) same in omega arith)
      | inr k ↦ (let after = keys_at_most (offset + length own) (key_text f) rest others es e later k in omega arith)
    ]

block_keys : (bytes : List ℕ) (es : List Entry) (e : Entry) → IsBlock bytes es → Has es e → length (key_text e) ≤ length bytes
block_keys bytes es e b h =
    let keys : length (key_text e) ≤ 0 + length b.text = keys_at_most 0 [] b.text b.starts es e b.spelled h in
    let size = ap length b.bytes_are ∙ length-append b.text (flat_map (to_le_bytes w32) (0 ∷ b.restarts) ++ to_le_bytes w32 (length b.restarts + 1)) in
    omega arith

blocks_keys : (body : List ℕ) (bound : Option InternalKey) (index : List Entry) (groups : List (List Entry)) (e : Entry) → DataBlocks body bound index groups → Has (concat groups) e
    → length (key_text e) ≤ length body
blocks_keys body bound [] [] e d h = absurd h
blocks_keys body bound [] (group ∷ groups) e d h = absurd d
blocks_keys body bound (i ∷ index) [] e d h = absurd d
blocks_keys body bound (i ∷ index) ([] ∷ groups) e d h = absurd d
blocks_keys body bound (i ∷ index) ((f ∷ fs) ∷ groups) e (one, after, last, later) h = elim (has_cases (f ∷ fs) (concat groups) e h) [
  | inl k ↦ (
      let keys = block_keys one.contents (f ∷ fs) e one.block k in
      let a = ap length one.held.body_is ∙ length-append one.held.before (one.contents ++ (trailer one.contents ++ one.held.after)) in
      let b = length-append one.contents (trailer one.contents ++ one.held.after) in
      omega arith)
  | inr k ↦ blocks_keys body (Some (internal_key i)) index groups e later k
]

table_keys : (bytes : List ℕ) (es : List Entry) (e : Entry) → IsTable bytes es → Has es e → length (key_text e) ≤ length bytes
table_keys bytes es e t h =
    let keys = blocks_keys t.body None t.index t.groups e t.blocks (subst (λ (xs : List Entry). Has xs e) (sym t.entries_are) h) in
    let size = ap length t.bytes_are ∙ length-append t.body t.footer_text in
    omega arith

short_key : (bytes : List ℕ) (k : InternalKey) (e : Entry) (image : List ℕ) → IsKey bytes k → internal_key e ≡ k → length (key_text e) ≤ length image → length image ≤ 2 ^ 30 → FitsKey bytes
short_key bytes k e image is same keys small = record {
  short = (let a = ap length is.bytes_are in let b = ap (λ (x : InternalKey). length (key_bytes x)) same in omega arith);
  internal = internal_of bytes k is;
}

pub whole_keys : (t : Table) → IsWhole t → length t.image ≤ 2 ^ 30 → FitsKey t.smallest × FitsKey t.largest
whole_keys t w small =
    let first = w.entries.first in
    let last = w.entries.last in
    let h : Has (entries_in t.image) first.0 = subst (λ (xs : List Entry). Has xs first.0) (sym first.2) (inl refl) in
    let k : Has (entries_in t.image) last.1 = subst (λ (xs : List Entry). Has xs last.1) (sym last.2) (has_right last.0 (last.1 ∷ []) last.1 (inl refl)) in (
      short_key t.smallest w.range.smallest first.0 t.image w.smallest first.3 (table_keys t.image (entries_in t.image) first.0 w.table h) small,
      short_key t.largest w.range.largest last.1 t.image w.largest last.3 (table_keys t.image (entries_in t.image) last.1 w.table k) small,
    )
