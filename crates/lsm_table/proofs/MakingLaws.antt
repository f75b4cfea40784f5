-- What a builder keeps: one more block, one more entry, the end.
use Rattle.std.proofs.Common.{◌≡◌, ℕ, ◌+◌, ◌^◌, ◌<◌, Bool, true, false, List, [], ◌∷◌, ◌++◌, length, None, Ok, refl, sym, ap, ◌∙◌, subst, append_assoc, arith}
use Rattle.std.proofs.lemmas.Bool.{lt-leb}
use Rattle.std.proofs.lemmas.List.{length-append, append-nil}
use Rattle.lsm_codec.specs.Entries.{Entry}
use Rattle.lsm_block.specs.Block.{IsBlock, Ascends}
use Rattle.lsm_block.specs.Building.{block_bytes, entries_text, later_restarts, Building}
use Rattle.lsm_table.specs.declared.table_options.TableOptions.{TableOptions}
use Rattle.lsm_table.specs.Options.{AreInRange}
use Rattle.lsm_table.specs.StoredBlock.{stored}
use Rattle.lsm_table.specs.Table.{DataBlocks, IsTable, last_of, concat}
use Rattle.lsm_table.specs.TableReading.{data_at}
use Rattle.lsm_table.specs.TableBuilding.{Grouped, is_full, grouped, last_group, groups_of, data_text, place, index_entry, index_of, index_block, file_of_groups, groups_by, table_bytes, written_bytes}
use Rattle.lsm_table.specs.TableMaking.{entries_made, AreFilled, AreBlocks, closed_when, Made}
use Rattle.lsm_table.proofs.StoredBlockLaws.{length-stored}
use Rattle.lsm_table.proofs.DataLaws.{data_again}
use Rattle.lsm_table.proofs.BuildingLaws.{Good, stand, index_apart, any-first, good_groups, ascends_rest, AllAscend, index_ascends, grouped-nil, grouped-push, concat-append, concat-last, one_more, entries_of, grouped-entries, when-entries, file_built}

-- ---- an open block without an entry

pub length-none : (interval : ℕ) → length (block_bytes interval []) ≡ 8
unfolding block_bytes entries_text later_restarts
length-none interval = refl

pub none_full : (options : TableOptions) → AreInRange options → is_full options [] ≡ false
none_full options r = lt-leb _ _ (omega (arith, length-none options.restart_interval, r.block_size_least))

abbrev pub building : ℕ → List Entry → Building
building interval entries = record { interval = interval; entries = entries }

pub made_none : (options : TableOptions) → AreInRange options → Made options [] [] (building options.restart_interval []) (building 1 [])
unfolding data_text index_of
made_none options r = record {
  groups = [];
  in_range = r;
  falls = grouped-nil options [] ∙ ap (λ (b : Bool). closed_when b [] []) (sym (none_full options r));
  ascends = tt;
  filled = tt;
  blocks = tt;
  front_is = refl;
  index_is = refl;
  taken_by = refl;
  index_by = refl;
  room = λ full. absurd (cc (full, none_full options r));
  index_small = omega (arith, length-none 1);
  small = omega (arith, length-none options.restart_interval);
  short = omega arith;
}

-- ---- what the parts say

pub made_parts : (options : TableOptions) (entries : List Entry) (front : List ℕ) (taken index : Building) (m : Made options entries front taken index) → entries ≡ concat m.groups ++ taken.entries
made_parts options entries front taken index m =
    sym (grouped-entries options [] entries) ∙ ap entries_of m.falls ∙ when-entries (is_full options taken.entries) m.groups taken.entries

pub made_good : (options : TableOptions) (entries : List Entry) (front : List ℕ) (taken index : Building) (m : Made options entries front taken index) → Good None m.groups
made_good options entries front taken index m =
    good_groups None m.groups taken.entries m.filled (any-first _) (subst Ascends (made_parts options entries front taken index m) m.ascends)

pub made_entries : (options : TableOptions) (entries : List Entry) (front : List ℕ) (taken index : Building) → Made options entries front taken index → entries_made front index.entries taken.entries ≡ entries
unfolding entries_made
made_entries options entries front taken index m =
    let interval = options.restart_interval in
    let there = stand interval [] None m.groups (made_good options entries front taken index m) m.blocks (omega (arith, m.short, ap length m.front_is)) [] in
    let here = subst (λ (xs : List ℕ). DataBlocks xs None (index_of interval 0 m.groups) m.groups) (append-nil (data_text interval m.groups) ∙ sym m.front_is) there in
    let apart = index_apart interval 0 None m.groups (made_good options entries front taken index m) (omega (arith, m.short, ap length m.front_is)) in
    let read : data_at front 0 None index.entries ≡ Ok m.groups = ap (data_at front 0 None) m.index_is ∙ data_again (index_of interval 0 m.groups) front 0 None m.groups here apart in
    rw read (sym (made_parts options entries front taken index m))

-- ---- one more block

not_empty_full : (options : TableOptions) → AreInRange options → (taken : List Entry) → is_full options taken ≡ true → last_group taken ≡ taken ∷ []
not_empty_full options r [] full = absurd (cc (full, none_full options r))
not_empty_full options r (e ∷ es) full = refl

filled-last : (groups : List (List Entry)) (taken : List Entry) → AreFilled groups → AreFilled (groups ++ last_group taken)
filled-last [] [] f = tt
filled-last [] (t ∷ ts) f = tt
filled-last ([] ∷ groups) taken f = absurd f
filled-last ((g ∷ gs) ∷ groups) taken f = filled-last groups taken f

blocks-last : (interval : ℕ) (groups : List (List Entry)) (taken : List Entry) → AreBlocks interval groups → IsBlock (block_bytes interval taken) taken → AreBlocks interval (groups ++ last_group taken)
blocks-last interval [] [] b t = tt
blocks-last interval [] (x ∷ xs) b t = (t, tt)
blocks-last interval (x ∷ groups) taken b t = (b.0, blocks-last interval groups taken b.1 t)

pub data_text-append : (interval : ℕ) (groups more : List (List Entry)) → data_text interval (groups ++ more) ≡ data_text interval groups ++ data_text interval more
unfolding data_text
data_text-append interval [] more = refl
data_text-append interval (x ∷ groups) more =
    ap (λ (xs : List ℕ). stored (block_bytes interval x) ++ xs) (data_text-append interval groups more) ∙ sym (append_assoc (stored (block_bytes interval x)) (data_text interval groups) (data_text interval more))

pub data_text-one : (interval : ℕ) (group : List Entry) → data_text interval (group ∷ []) ≡ stored (block_bytes interval group)
unfolding data_text
data_text-one interval group = append-nil (stored (block_bytes interval group))

pub data_text-none : (interval : ℕ) → data_text interval [] ≡ []
unfolding data_text
data_text-none interval = refl

pub index_of-append : (interval offset : ℕ) (groups more : List (List Entry)) → AreFilled groups
    → index_of interval offset (groups ++ more) ≡ index_of interval offset groups ++ index_of interval (offset + length (data_text interval groups)) more
unfolding data_text index_of
index_of-append interval offset [] more f = ap (λ (n : ℕ). index_of interval n more) (omega arith)
index_of-append interval offset ([] ∷ groups) more f = absurd f
index_of-append interval offset ((g ∷ gs) ∷ groups) more f =
    let own = stored (block_bytes interval (g ∷ gs)) in
    let first = index_entry (last_of g gs) (place offset (block_bytes interval (g ∷ gs))) in
    let k : offset + length own + length (data_text interval groups) ≡ offset + length (own ++ data_text interval groups) = omega (arith, length-append own (data_text interval groups)) in
    ap (λ (xs : List Entry). first ∷ xs) (index_of-append interval (offset + length own) groups more f)
    ∙ ap (λ (n : ℕ). first ∷ (index_of interval (offset + length own) groups ++ index_of interval n more)) k

pub index_of-one : (interval offset : ℕ) (e : Entry) (es : List Entry) → index_of interval offset ((e ∷ es) ∷ []) ≡ index_entry (last_of e es) (place offset (block_bytes interval (e ∷ es))) ∷ []
unfolding index_of
index_of-one interval offset e es = refl

pub index_of-none : (interval offset : ℕ) → index_of interval offset [] ≡ []
unfolding index_of
index_of-none interval offset = refl

-- the index with the open block
pub made_index : (options : TableOptions) (entries : List Entry) (front : List ℕ) (taken index : Building) (m : Made options entries front taken index) (more : List (List Entry))
    → index_of options.restart_interval 0 (m.groups ++ more) ≡ index.entries ++ index_of options.restart_interval (length front) more
made_index options entries front taken index m more =
    let interval = options.restart_interval in
    let n : 0 + length (data_text interval m.groups) ≡ length front = omega (arith, ap length m.front_is) in
    index_of-append interval 0 m.groups more m.filled ∙ ap (λ (k : ℕ). index_of interval 0 m.groups ++ index_of interval k more) n
    ∙ ap (λ (xs : List Entry). xs ++ index_of interval (length front) more) (sym m.index_is)

pub all_good : (options : TableOptions) (entries : List Entry) (front : List ℕ) (taken index : Building) (m : Made options entries front taken index) → Good None (m.groups ++ last_group taken.entries)
all_good options entries front taken index m =
    let whole : entries ≡ concat (m.groups ++ last_group taken.entries) ++ [] =
    made_parts options entries front taken index m ∙ ap (λ (xs : List Entry). concat m.groups ++ xs) (sym (concat-last taken.entries)) ∙ sym (concat-append m.groups (last_group taken.entries)) ∙ sym (append-nil _) in
    good_groups None (m.groups ++ last_group taken.entries) [] (filled-last m.groups taken.entries m.filled) (any-first _) (subst Ascends whole m.ascends)

all_ascend : (interval : ℕ) (groups : List (List Entry)) (taken : List Entry) → AreBlocks interval groups → Ascends taken → AllAscend (groups ++ last_group taken)
all_ascend interval [] [] b t = tt
all_ascend interval [] (x ∷ xs) b t = (t, tt)
all_ascend interval (x ∷ groups) taken b t = (b.0.ascends, all_ascend interval groups taken b.1 t)

pub made_index_ascends : (options : TableOptions) (entries : List Entry) (front : List ℕ) (taken index : Building) → Made options entries front taken index
    → Ascends (index.entries ++ index_of options.restart_interval (length front) (last_group taken.entries))
made_index_ascends options entries front taken index m =
    let interval = options.restart_interval in
    let last = ascends_rest (concat m.groups) taken.entries (subst Ascends (made_parts options entries front taken index m) m.ascends) in
    subst Ascends (made_index options entries front taken index m (last_group taken.entries))
    (index_ascends interval 0 None (m.groups ++ last_group taken.entries) (all_good options entries front taken index m) (all_ascend interval m.groups taken.entries m.blocks last))

-- a full block is moved to the others
pub made_closed : (options : TableOptions) (entries : List Entry) (front : List ℕ) (taken index : Building) → Made options entries front taken index → is_full options taken.entries ≡ true
    → IsBlock (block_bytes options.restart_interval taken.entries) taken.entries → (after : List ℕ) (done left : Building) → after ≡ front ++ data_text options.restart_interval (last_group taken.entries) → length after < 2 ^ 63
    → left ≡ building options.restart_interval [] → done ≡ building 1 (index.entries ++ index_of options.restart_interval (length front) (last_group taken.entries)) → Made options entries after left done
made_closed options entries front taken index m full b after done left after_is short left_is done_is =
    let interval = options.restart_interval in
    let one = not_empty_full options m.in_range taken.entries full in
    let left_none : left.entries ≡ [] = ap (λ (x : Building). x.entries) left_is in
    let not_full : is_full options left.entries ≡ false = ap (is_full options) left_none ∙ none_full options m.in_range in
    let falls : grouped options [] entries ≡ record { closed = m.groups ++ last_group taken.entries; taken = left.entries } =
    m.falls ∙ ap (λ (x : Bool). closed_when x m.groups taken.entries) full ∙ cc in
    record {
      groups = m.groups ++ last_group taken.entries;
      in_range = m.in_range;
      falls = falls ∙ ap (λ (x : Bool). closed_when x (m.groups ++ last_group taken.entries) left.entries) (sym not_full);
      ascends = m.ascends;
      filled = filled-last m.groups taken.entries m.filled;
      blocks = blocks-last interval m.groups taken.entries m.blocks b;
      front_is = after_is ∙ ap (λ (xs : List ℕ). xs ++ data_text interval (last_group taken.entries)) m.front_is ∙ sym (data_text-append interval m.groups (last_group taken.entries));
      index_is = ap (λ (x : Building). x.entries) done_is ∙ sym (made_index options entries front taken index m (last_group taken.entries));
      taken_by = ap (λ (x : Building). x.interval) left_is;
      index_by = ap (λ (x : Building). x.interval) done_is;
      room = λ f. absurd (cc (f, not_full));
      index_small = m.room full;
      small = subst (λ (xs : List Entry). length (block_bytes interval xs) < 2 ^ 32) (sym left_none) (omega (arith, length-none interval));
      short = short;
    }

-- ---- one more entry

pub made_more : (options : TableOptions) (entries : List Entry) (front : List ℕ) (taken index : Building) (e : Entry) (m : Made options entries front taken index) → is_full options taken.entries ≡ false → Ascends (entries ++ e ∷ [])
    → (more : Building) → more ≡ building taken.interval (taken.entries ++ e ∷ [])
    → (is_full options more.entries ≡ true → length (block_bytes 1 (index.entries ++ index_of options.restart_interval (length front) (last_group more.entries))) < 2 ^ 32)
    → length (block_bytes options.restart_interval more.entries) < 2 ^ 32 → Made options (entries ++ e ∷ []) front more index
made_more options entries front taken index e m open_still ascends more more_is room small = record {
  groups = m.groups;
  in_range = m.in_range;
  falls = grouped-push options [] entries e ∙ ap (λ (g : Grouped). one_more options g e) (m.falls ∙ ap (λ (x : Bool). closed_when x m.groups taken.entries) open_still)
      ∙ ap (λ (xs : List Entry). closed_when (is_full options xs) m.groups xs) (sym (ap (λ (x : Building). x.entries) more_is));
  ascends = ascends;
  filled = m.filled;
  blocks = m.blocks;
  front_is = m.front_is;
  index_is = m.index_is;
  taken_by = ap (λ (x : Building). x.interval) more_is ∙ m.taken_by;
  index_by = m.index_by;
  room = λ full. subst (λ (xs : List Entry). length (block_bytes 1 xs) < 2 ^ 32) (sym (made_index options entries front taken index m (last_group more.entries))) (room full);
  index_small = m.index_small;
  small = small;
  short = m.short;
}

-- ---- the end

pub groups_when : (options : TableOptions) → AreInRange options → (groups : List (List Entry)) (taken : List Entry) (full : Bool) → is_full options taken ≡ full → groups_of (closed_when full groups taken) ≡ groups ++ last_group taken
groups_when options r groups taken true full = append-nil (groups ++ taken ∷ []) ∙ ap (λ (xs : List (List Entry)). groups ++ xs) (sym (not_empty_full options r taken full))
groups_when options r groups taken false full = refl

pub made_groups : (options : TableOptions) (entries : List Entry) (front : List ℕ) (taken index : Building) (m : Made options entries front taken index) → groups_by options entries ≡ m.groups ++ last_group taken.entries
made_groups options entries front taken index m =
    ap groups_of m.falls ∙ groups_when options m.in_range m.groups taken.entries (is_full options taken.entries) refl

groups-concat : (g : Grouped) → concat (groups_of g) ≡ entries_of g
groups-concat g = concat-append g.closed (last_group g.taken) ∙ ap (λ (xs : List Entry). concat g.closed ++ xs) (concat-last g.taken)

pub groups_by-entries : (options : TableOptions) (entries : List Entry) → concat (groups_by options entries) ≡ entries
groups_by-entries options entries = groups-concat (grouped options [] entries) ∙ grouped-entries options [] entries

-- how many bytes of closed blocks there are
written_when : (options : TableOptions) (front : List ℕ) (groups : List (List Entry)) (taken : List Entry) → front ≡ data_text options.restart_interval groups
    → data_text options.restart_interval (closed_when true groups taken).closed ≡ front ++ stored (block_bytes options.restart_interval taken)
written_when options front groups taken is =
    data_text-append options.restart_interval groups (taken ∷ []) ∙ ap (λ (xs : List ℕ). xs ++ data_text options.restart_interval (taken ∷ [])) (sym is) ∙ ap (λ (xs : List ℕ). front ++ xs) (data_text-one options.restart_interval taken)

pub written_full : (options : TableOptions) (entries : List Entry) (front : List ℕ) (taken index : Building) → Made options entries front taken index → is_full options taken.entries ≡ true
    → length (written_bytes options entries) ≡ length front + (length (block_bytes options.restart_interval taken.entries) + 5)
written_full options entries front taken index m full =
    let block = block_bytes options.restart_interval taken.entries in
    let is = ap (λ (g : Grouped). data_text options.restart_interval g.closed) (m.falls ∙ ap (λ (x : Bool). closed_when x m.groups taken.entries) full) ∙ written_when options front m.groups taken.entries m.front_is in
    ap (λ (xs : List ℕ). length xs) is ∙ length-append front (stored block) ∙ ap (λ (n : ℕ). length front + n) (length-stored block)

-- The file of the closed blocks, the last one, and their index.
pub made_table : (options : TableOptions) (entries : List Entry) (front : List ℕ) (taken index : Building) (m : Made options entries front taken index) → IsBlock (block_bytes options.restart_interval taken.entries) taken.entries
    → IsBlock (index_block options.restart_interval (m.groups ++ last_group taken.entries)) (index_of options.restart_interval 0 (m.groups ++ last_group taken.entries))
    → length (file_of_groups options.restart_interval (m.groups ++ last_group taken.entries)) < 2 ^ 64
    → IsTable (table_bytes options entries) entries
unfolding table_bytes
made_table options entries front taken index m b i small =
    let interval = options.restart_interval in
    let groups = m.groups ++ last_group taken.entries in
    let same = sym (made_groups options entries front taken index m) in
    let built = file_built interval groups (all_good options entries front taken index m) (blocks-last interval m.groups taken.entries m.blocks b) i small in
    let named = subst (λ (gs : List (List Entry)). IsTable (file_of_groups interval gs) (concat gs)) same built in
    subst (λ (es : List Entry). IsTable (file_of_groups interval (groups_by options entries)) es) (groups_by-entries options entries) named

pub made_bytes : (options : TableOptions) (entries : List Entry) (front : List ℕ) (taken index : Building) (m : Made options entries front taken index)
    → table_bytes options entries ≡ file_of_groups options.restart_interval (m.groups ++ last_group taken.entries)
unfolding table_bytes
made_bytes options entries front taken index m = ap (file_of_groups options.restart_interval) (made_groups options entries front taken index m)
