-- What a checked table holds, and where.
use Rattle.std.proofs.Common.{◌≡◌, ℕ, ◌≤◌, List, [], ◌∷◌, ◌++◌, length, take, drop, Option, Some, None, Ok, refl, sym, ap, ◌∙◌, subst, arith}
use Rattle.std.specs.List.{flat_map}
use Rattle.std.proofs.lemmas.List.{take_at, drop_at, length-append, append-nil}
use Rattle.lsm_codec.specs.Keys.{InternalKey}
use Rattle.lsm_codec.specs.Entries.{Entry, internal_key}
use Rattle.lsm_block.specs.Block.{IsBlock}
use Rattle.lsm_block.specs.Held.{held}
use Rattle.lsm_block.proofs.CallerLemmas.{block_again, held_is}
use Rattle.lsm_table.specs.declared.table_fault.TableFault.TheVariants.{BadIndex}
use Rattle.lsm_table.specs.declared.handle.Handle.{Handle}
use Rattle.lsm_table.specs.Handle.{handle_at}
use Rattle.lsm_table.specs.StoredBlock.{trailer, Holds}
use Rattle.lsm_table.specs.Footer.{body_of}
use Rattle.lsm_table.specs.Table.{DataBlock, DataBlocks, IsTable, concat}
use Rattle.lsm_table.specs.TableReading.{table_at}
use Rattle.lsm_table.specs.HeldTable.{entries_or_none, entries_in, HeldTable, entries_named, Names, BlockAt}
use Rattle.lsm_table.proofs.HandleLaws.{handle_again}
use Rattle.lsm_table.proofs.StoredBlockLaws.{contents_again}
use Rattle.lsm_table.proofs.FooterLaws.{ends, length-footer}
use Rattle.lsm_table.proofs.TableLaws.{table_again}
use Rattle.lsm_table.proofs.SearchLaws.{ascends_tail}

pub entries_in-is : (bytes : List ℕ) (es : List Entry) → table_at bytes ≡ Ok es → entries_in bytes ≡ es
unfolding entries_in
entries_in-is bytes es e = ap entries_or_none e

pub table_held : (bytes : List ℕ) (es : List Entry) → IsTable bytes es → entries_in bytes ≡ es
table_held bytes es t = entries_in-is bytes es (table_again bytes es t)

-- What a table's bytes hold is the table's.
pub table_itself : (bytes : List ℕ) (es : List Entry) → IsTable bytes es → IsTable bytes (entries_in bytes)
table_itself bytes es t = subst (λ (xs : List Entry). IsTable bytes xs) (sym (table_held bytes es t)) t

-- where the contents stand
pub record Slice (body : List ℕ) (handle : Handle) (contents : List ℕ) : Type 0 where
  pub begins : handle.offset ≤ length body
  pub ends : handle.size ≤ length (drop handle.offset body)
  pub is : take handle.size (drop handle.offset body) ≡ contents

pub slice_of : (body : List ℕ) (handle : Handle) (contents : List ℕ) → Holds body handle contents → Slice body handle contents
slice_of body handle contents h =
    let tail = contents ++ (trailer contents ++ h.after) in
    let rest : drop handle.offset body ≡ tail = ap (drop handle.offset) h.body_is ∙ drop_at h.before tail handle.offset h.offset_is in
    let l1 = length-append h.before tail in
    let l2 = length-append contents (trailer contents ++ h.after) in
    record {
      begins = omega (arith, ap length h.body_is, l1, h.offset_is);
      ends = omega (arith, ap length rest, l2, h.size_is);
      is = ap (take handle.size) rest ∙ take_at contents (trailer contents ++ h.after) handle.size h.size_is;
    }

pub block_held : (bytes : List ℕ) (es : List Entry) → IsBlock bytes es → held bytes ≡ es
block_held bytes es b = held_is bytes es (block_again bytes es b)

-- the part before the footer
pub record Bodied (file body : List ℕ) : Type 0 where
  pub is : body_of file ≡ body
  pub long : 48 ≤ length file

pub bodied : (file : List ℕ) (es : List Entry) (t : IsTable file es) → Bodied file t.body
bodied file es t = record {
  is = (ends file t.body t.footer_text t.footer t.footed t.bytes_are).body_is;
  long = omega (arith, ap length t.bytes_are, length-append t.body t.footer_text, length-footer t.footer_text t.footer t.footed);
}

-- ---- the data block of an index entry

pub named : (body : List ℕ) (i : Entry) (es : List Entry) → DataBlock body i.value es → entries_named body i ≡ es
unfolding entries_named
named body i es d =
    let h : handle_at BadIndex i.value ≡ Ok (d.handle, []) = ap (handle_at BadIndex) (sym (append-nil i.value)) ∙ handle_again BadIndex i.value [] d.handle d.handle_is in
    let c = contents_again body d.handle d.contents d.held in
    let b = block_again d.contents es d.block in
    rw (h, c, b) refl

pub all_named : (body : List ℕ) (bound : Option InternalKey) (index : List Entry) (groups : List (List Entry)) → DataBlocks body bound index groups → flat_map (entries_named body) index ≡ concat groups
all_named body bound [] [] d = refl
all_named body bound [] (group ∷ groups) d = absurd d
all_named body bound (i ∷ index) [] d = absurd d
all_named body bound (i ∷ index) ([] ∷ groups) d = absurd d
all_named body bound (i ∷ index) ((e ∷ es) ∷ groups) d =
    let here = named body i (e ∷ es) d.0 in
    let later = all_named body (Some (internal_key i)) index groups d.3 in
    rw (here, later) refl

-- ---- a row of data blocks

-- the first of them, and the others
pub record Parted (body : List ℕ) (i : Entry) (index : List Entry) (entries : List Entry) : Type 0 where
  pub first : Entry
  pub others : List Entry
  pub rest : List Entry
  pub block : DataBlock body i.value (first ∷ others)
  pub later : Names body index rest
  pub entries_are : (first ∷ others) ++ rest ≡ entries

pub names_part : (body : List ℕ) (i : Entry) (index entries : List Entry) → Names body (i ∷ index) entries → Parted body i index entries
names_part body i index entries n = by_groups n.groups n.blocks n.entries_are
  where
    by_groups : (groups : List (List Entry)) → DataBlocks body n.bound (i ∷ index) groups → concat groups ≡ entries → Parted body i index entries
    by_groups [] d e = absurd d
    by_groups ([] ∷ groups) d e = absurd d
    by_groups ((x ∷ xs) ∷ groups) d e = record {
      first = x;
      others = xs;
      rest = concat groups;
      block = d.0;
      later = record { bound = Some (internal_key i); groups = groups; ascends = ascends_tail i index n.ascends; blocks = d.3; entries_are = refl };
      entries_are = e;
    }

pub names_none : (body : List ℕ) (entries : List Entry) → Names body [] entries → entries ≡ []
names_none body entries n = by_groups n.groups n.blocks n.entries_are
  where
    by_groups : (groups : List (List Entry)) → DataBlocks body n.bound [] groups → concat groups ≡ entries → entries ≡ []
    by_groups [] d e = sym e
    by_groups (group ∷ groups) d e = absurd d

pub names_all : (body : List ℕ) (index entries : List Entry) → Names body index entries → flat_map (entries_named body) index ≡ entries
names_all body index entries n = all_named body n.bound index n.groups n.blocks ∙ n.entries_are

pub table_names : (file : List ℕ) (es : List Entry) (t : IsTable file es) → Names t.body t.index es
table_names file es t = record { bound = None; groups = t.groups; ascends = t.indexed.ascends; blocks = t.blocks; entries_are = t.entries_are }

pub table_block : (file body : List ℕ) (index : Handle) (h : HeldTable file index) → body ≡ body_of file → BlockAt body index h.table.index
table_block file body index h is =
    let t = h.table in
    let same : t.body ≡ body = sym (is ∙ (bodied file (entries_in file) t).is) in
    record { contents = t.contents; held = subst (λ (x : Handle). Holds body x t.contents) h.index_is (subst (λ (xs : List ℕ). Holds xs t.footer.index t.contents) same t.held); block = t.indexed }
