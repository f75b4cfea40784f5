-- What the builder's steps leave.
use Rattle.std.proofs.Common.{◌≡◌, ℕ, ◌^◌, ◌<◌, ◌≤◌, true, List, [], ◌++◌, length, sym, ap, ◌∙◌, subst, arith}
use Rattle.std.proofs.lemmas.Bool.{le-leb}
use Rattle.lsm_codec.specs.Entries.{Entry}
use Rattle.lsm_block.specs.Block.{IsBlock, Ascends}
use Rattle.lsm_block.specs.Building.{block_bytes, Building}
use Rattle.lsm_table.specs.declared.table_options.TableOptions.{TableOptions}
use Rattle.lsm_table.specs.Options.{AreInRange}
use Rattle.lsm_table.specs.TableBuilding.{is_full, last_group, data_text, index_of, index_block}
use Rattle.lsm_table.specs.TableMaking.{Making, entries_made, Made}
use Rattle.lsm_table.proofs.MakingLaws.{building, made_none, made_entries, made_index, made_index_ascends, made_closed}

abbrev pub making : TableOptions → List Entry → Making
making options entries = record { options = options; entries = entries }

-- the invariant, and what is seen, of a builder with these parts
pub made_itself : (options : TableOptions) (entries : List Entry) (front : List ℕ) (taken index : Building) → Made options entries front taken index → Made options (entries_made front index.entries taken.entries) front taken index
made_itself options entries front taken index m = subst (λ (es : List Entry). Made options es front taken index) (sym (made_entries options entries front taken index m)) m

pub made_seen : (options : TableOptions) (entries : List Entry) (front : List ℕ) (taken index : Building) → Made options entries front taken index → making options (entries_made front index.entries taken.entries) ≡ making options entries
made_seen options entries front taken index m = ap (making options) (made_entries options entries front taken index m)

pub made_new : (options : TableOptions) (front : List ℕ) (taken index : Building) → AreInRange options → front ≡ [] → taken ≡ building options.restart_interval [] → index ≡ building 1 [] → Made options [] front taken index
made_new options front taken index r f t i =
    subst (λ (x : List ℕ). Made options [] x taken index) (sym f)
    (subst (λ (x : Building). Made options [] [] x index) (sym t) (subst (λ (x : Building). Made options [] [] (building options.restart_interval []) x) (sym i) (made_none options r)))

-- ---- whether the open block is full

pub full_is : (options : TableOptions) (entries : List Entry) (front : List ℕ) (taken index : Building) (size : ℕ) → Made options entries front taken index → size ≡ length (block_bytes taken.interval taken.entries) → options.block_size ≤ size → is_full options taken.entries ≡ true
full_is options entries front taken index size m s h =
    let same : length (block_bytes taken.interval taken.entries) ≡ length (block_bytes options.restart_interval taken.entries) = ap (λ (n : ℕ). length (block_bytes n taken.entries)) m.taken_by in
    le-leb _ _ (omega (arith, same, s, h))

-- ---- closing

abbrev pub closing : ℕ → List ℕ → List Entry → List Entry
closing interval front taken = index_of interval (length front) (last_group taken)

by_interval : (options : TableOptions) (entries : List Entry) (front : List ℕ) (taken index : Building) → Made options entries front taken index
    → index.entries ++ closing options.restart_interval front taken.entries ≡ index.entries ++ closing taken.interval front taken.entries
by_interval options entries front taken index m = ap (λ (n : ℕ). index.entries ++ closing n front taken.entries) (sym m.taken_by)

pub closing_ascends : (options : TableOptions) (entries : List Entry) (front : List ℕ) (taken index : Building) → Made options entries front taken index → Ascends (index.entries ++ closing taken.interval front taken.entries)
closing_ascends options entries front taken index m = subst Ascends (by_interval options entries front taken index m) (made_index_ascends options entries front taken index m)

-- the index block with the open block
pub closing_index : (options : TableOptions) (entries : List Entry) (front : List ℕ) (taken index : Building) (m : Made options entries front taken index)
    → index_block options.restart_interval (m.groups ++ last_group taken.entries) ≡ block_bytes index.interval (index.entries ++ closing taken.interval front taken.entries)
closing_index options entries front taken index m =
    ap (block_bytes 1) (made_index options entries front taken index m (last_group taken.entries) ∙ by_interval options entries front taken index m)
    ∙ ap (λ (n : ℕ). block_bytes n (index.entries ++ closing taken.interval front taken.entries)) (sym m.index_by)

pub closing_room : (options : TableOptions) (entries : List Entry) (front : List ℕ) (taken index : Building) → Made options entries front taken index → is_full options taken.entries ≡ true
    → length (block_bytes index.interval (index.entries ++ closing taken.interval front taken.entries)) < 2 ^ 32
closing_room options entries front taken index m full = subst (λ (xs : List ℕ). length xs < 2 ^ 32) (closing_index options entries front taken index m) (m.room full)

pub closing_made : (options : TableOptions) (entries : List Entry) (front : List ℕ) (taken index : Building) → Made options entries front taken index → is_full options taken.entries ≡ true
    → IsBlock (block_bytes taken.interval taken.entries) taken.entries → (after : List ℕ) (left done : Building) → after ≡ front ++ data_text taken.interval (last_group taken.entries) → length after < 2 ^ 63
    → left ≡ building taken.interval [] → done ≡ building index.interval (index.entries ++ closing taken.interval front taken.entries) → Made options entries after left done
closing_made options entries front taken index m full b after left done after_is short left_is done_is =
    let by = m.taken_by in
    made_closed options entries front taken index m full (subst (λ (n : ℕ). IsBlock (block_bytes n taken.entries) taken.entries) by b) after done left
    (after_is ∙ ap (λ (n : ℕ). front ++ data_text n (last_group taken.entries)) by) short (left_is ∙ ap (λ (n : ℕ). building n []) by)
    (done_is ∙ ap (λ (es : List Entry). building index.interval es) (sym (by_interval options entries front taken index m))
    ∙ ap (λ (n : ℕ). building n (index.entries ++ closing options.restart_interval front taken.entries)) m.index_by)
