-- One entry more, and the end.
use Rattle.std.proofs.Common.{◌≡◌, ℕ, ◌^◌, ◌<◌, ◌≤◌, Bool, true, false, List, [], ◌∷◌, ◌++◌, length, Result, Ok, Err, refl, sym, ap, ◌∙◌, subst, append_assoc, inl, inr, arith}
use Rattle.std.specs.Prelude.{OnOk, OnErr}
use Rattle.std.proofs.lemmas.Bool.{leb-true, le-leb}
use Rattle.lsm_codec.specs.Entries.{Entry, internal_key}
use Rattle.lsm_block.specs.Block.{IsBlock, Ascends, entry_of}
use Rattle.lsm_block.specs.Building.{block_bytes, Building}
use Rattle.lsm_block.specs.declared.build_fault.BuildFault.{BuildFault}
use Rattle.lsm_table.specs.declared.table_options.TableOptions.{TableOptions}
use Rattle.lsm_table.specs.Handle.{handle_text}
use Rattle.lsm_table.specs.Table.{IsTable, concat}
use Rattle.lsm_table.specs.TableBuilding.{Grouped, is_full, grouped, last_group, groups_of, data_text, place, index_of, index_block, file_of, file_of_groups, groups_by, table_bytes, PassesLimit}
use Rattle.lsm_table.specs.TableMaking.{entries_made, closed_when, Made, index_with, HasRoom, LacksRoom}
use Rattle.lsm_table.proofs.BuildingLaws.{ascends_rest, grouped-push, one_more}
use Rattle.lsm_table.proofs.MakingLaws.{building, made_parts, made_index, made_more, made_groups, groups_when, made_table, made_bytes, data_text-append}
use Rattle.lsm_table.proofs.CloseLaws.{last_index}
use Rattle.lsm_table.proofs.SettleLaws.{made_itself, closing, closing_index}

pub taken_ascends : (options : TableOptions) (entries : List Entry) (front : List ℕ) (taken index : Building) (e : Entry) → Made options entries front taken index → Ascends (entries ++ e ∷ []) → Ascends (taken.entries ++ e ∷ [])
taken_ascends options entries front taken index e m a =
    let whole : entries ++ e ∷ [] ≡ concat m.groups ++ (taken.entries ++ e ∷ []) =
    ap (λ (xs : List Entry). xs ++ e ∷ []) (made_parts options entries front taken index m) ∙ append_assoc (concat m.groups) taken.entries (e ∷ []) in
    ascends_rest (concat m.groups) (taken.entries ++ e ∷ []) (subst Ascends whole a)

-- the index block with the open block and an entry more
index_more : (options : TableOptions) (entries : List Entry) (front : List ℕ) (taken index : Building) (offset : ℕ) (e : Entry) (m : Made options entries front taken index) → offset ≡ length front
    → block_bytes 1 (index.entries ++ index_of options.restart_interval (length front) (last_group (taken.entries ++ e ∷ []))) ≡ index_with offset taken index e
index_more options entries front taken index offset e m at =
    let interval = options.restart_interval in
    let last = last_index interval (length front) taken.entries e in
    ap (λ (xs : List Entry). block_bytes 1 (index.entries ++ xs)) last
    ∙ ap (λ (n : ℕ). block_bytes n (index.entries ++ entry_of (internal_key e) (handle_text (place (length front) (block_bytes interval (taken.entries ++ e ∷ [])))) ∷ [])) (sym m.index_by)
    ∙ ap (λ (n : ℕ). block_bytes index.interval (index.entries ++ entry_of (internal_key e) (handle_text (place (length front) (block_bytes n (taken.entries ++ e ∷ [])))) ∷ [])) (sym m.taken_by)
    ∙ ap (λ (n : ℕ). block_bytes index.interval (index.entries ++ entry_of (internal_key e) (handle_text (place n (block_bytes taken.interval (taken.entries ++ e ∷ [])))) ∷ [])) (sym at)

pub adding : (options : TableOptions) (entries : List Entry) (front : List ℕ) (taken index more : Building) (offset : ℕ) (e : Entry) → Made options entries front taken index → is_full options taken.entries ≡ false → Ascends (entries ++ e ∷ [])
    → HasRoom options offset taken index e → offset ≡ length front → more ≡ building taken.interval (taken.entries ++ e ∷ []) → Made options (entries ++ e ∷ []) front more index
adding options entries front taken index more offset e m open_still a r at is =
    let interval = options.restart_interval in
    let all = ap (λ (b : Building). b.entries) is in
    let size : length (block_bytes taken.interval (taken.entries ++ e ∷ [])) ≡ length (block_bytes interval (taken.entries ++ e ∷ [])) = ap (λ (n : ℕ). length (block_bytes n (taken.entries ++ e ∷ []))) m.taken_by in
    let small : length (block_bytes interval (taken.entries ++ e ∷ [])) < 2 ^ 32 = omega (arith, size, r.block) in
    made_more options entries front taken index e m open_still a more is
    (λ full.
    let reached : options.block_size ≤ length (block_bytes interval (taken.entries ++ e ∷ [])) = leb-true _ _ (subst (λ (xs : List Entry). is_full options xs ≡ true) all full) in
    let fits = subst (λ (xs : List ℕ). length xs < 2 ^ 32) (sym (index_more options entries front taken index offset e m at)) (r.index_block (omega (arith, size, reached))) in
    subst (λ (xs : List Entry). length (block_bytes 1 (index.entries ++ index_of interval (length front) (last_group xs))) < 2 ^ 32) (sym all) fits)
    (subst (λ (xs : List Entry). length (block_bytes interval xs) < 2 ^ 32) (sym all) small)

groups_more : (options : TableOptions) (entries : List Entry) (front : List ℕ) (taken index : Building) (e : Entry) (m : Made options entries front taken index) → is_full options taken.entries ≡ false
    → groups_by options (entries ++ e ∷ []) ≡ m.groups ++ last_group (taken.entries ++ e ∷ [])
groups_more options entries front taken index e m open_still =
    ap groups_of (grouped-push options [] entries e ∙ ap (λ (g : Grouped). one_more options g e) (m.falls ∙ ap (λ (x : Bool). closed_when x m.groups taken.entries) open_still))
    ∙ groups_when options m.in_range m.groups (taken.entries ++ e ∷ []) (is_full options (taken.entries ++ e ∷ [])) refl

pub passes : (options : TableOptions) (entries : List Entry) (front : List ℕ) (taken index : Building) (offset : ℕ) (e : Entry) → Made options entries front taken index → is_full options taken.entries ≡ false → offset ≡ length front
    → LacksRoom options offset taken index e → PassesLimit options entries e
passes options entries front taken index offset e m open_still at lacks =
    let interval = options.restart_interval in
    let open_now : (grouped options [] entries).taken ≡ taken.entries = ap (λ (g : Grouped). g.taken) (m.falls ∙ ap (λ (x : Bool). closed_when x m.groups taken.entries) open_still) in
    elim lacks [
      | inl block ↦
          let here = subst (λ (n : ℕ). 2 ^ 32 ≤ length (block_bytes n (taken.entries ++ e ∷ []))) m.taken_by block in
          inl (subst (λ (xs : List Entry). 2 ^ 32 ≤ length (block_bytes interval (xs ++ e ∷ []))) (sym open_now) here)
      | inr long ↦
          let size : length (block_bytes taken.interval (taken.entries ++ e ∷ [])) ≡ length (block_bytes interval (taken.entries ++ e ∷ [])) = ap (λ (n : ℕ). length (block_bytes n (taken.entries ++ e ∷ []))) m.taken_by in
          let full : is_full options (taken.entries ++ e ∷ []) ≡ true = le-leb _ _ (omega (arith, size, long.0)) in
          let there = subst (λ (xs : List ℕ). 2 ^ 32 ≤ length xs) (sym (index_more options entries front taken index offset e m at)) long.1 in
          let whole = subst (λ (xs : List Entry). 2 ^ 32 ≤ length (block_bytes 1 xs)) (sym (made_index options entries front taken index m (last_group (taken.entries ++ e ∷ [])))) there in
          inr (
            subst (λ (xs : List Entry). is_full options (xs ++ e ∷ []) ≡ true) (sym open_now) full,
            subst (λ (gs : List (List Entry)). 2 ^ 32 ≤ length (index_block interval gs)) (sym (groups_more options entries front taken index e m open_still)) whole,
          )
    ]

-- an entry for which there is room passes no limit
pub passes_not : (options : TableOptions) (entries : List Entry) (front : List ℕ) (taken index : Building) (offset : ℕ) (e : Entry) → Made options entries front taken index → is_full options taken.entries ≡ false → offset ≡ length front
    → HasRoom options offset taken index e → PassesLimit options entries e → ⊥
passes_not options entries front taken index offset e m open_still at r passed =
    let interval = options.restart_interval in
    let open_now : (grouped options [] entries).taken ≡ taken.entries = ap (λ (g : Grouped). g.taken) (m.falls ∙ ap (λ (x : Bool). closed_when x m.groups taken.entries) open_still) in
    let size : length (block_bytes taken.interval (taken.entries ++ e ∷ [])) ≡ length (block_bytes interval (taken.entries ++ e ∷ [])) = ap (λ (n : ℕ). length (block_bytes n (taken.entries ++ e ∷ []))) m.taken_by in
    elim passed [
      | inl block ↦
          let here = subst (λ (xs : List Entry). 2 ^ 32 ≤ length (block_bytes interval (xs ++ e ∷ []))) open_now block in
          omega (arith, here, size, r.block)
      | inr long ↦
          let full = subst (λ (xs : List Entry). is_full options (xs ++ e ∷ []) ≡ true) open_now long.0 in
          let reached : options.block_size ≤ length (block_bytes interval (taken.entries ++ e ∷ [])) = leb-true _ _ full in
          let fits = r.index_block (omega (arith, size, reached)) in
          let whole = subst (λ (gs : List (List Entry)). 2 ^ 32 ≤ length (index_block interval gs)) (groups_more options entries front taken index e m open_still) long.1 in
          let there = subst (λ (xs : List Entry). 2 ^ 32 ≤ length (block_bytes 1 xs)) (made_index options entries front taken index m (last_group (taken.entries ++ e ∷ []))) whole in
          let here = subst (λ (xs : List ℕ). 2 ^ 32 ≤ length xs) (index_more options entries front taken index offset e m at) there in
          omega (arith, here, fits)
    ]

-- ---- the end

pub end_large : (options : TableOptions) (entries : List Entry) (front : List ℕ) (taken index : Building) → Made options entries front taken index
    → 2 ^ 32 ≤ length (block_bytes index.interval (index.entries ++ closing taken.interval front taken.entries)) → 2 ^ 32 ≤ length (index_block options.restart_interval (groups_by options entries))
end_large options entries front taken index m long =
    subst (λ (gs : List (List Entry)). 2 ^ 32 ≤ length (index_block options.restart_interval gs)) (sym (made_groups options entries front taken index m))
    (subst (λ (xs : List ℕ). 2 ^ 32 ≤ length xs) (sym (closing_index options entries front taken index m)) long)

pub end_small : (options : TableOptions) (entries : List Entry) (front : List ℕ) (taken index done : Building) → Made options entries front taken index
    → done ≡ building index.interval (index.entries ++ closing taken.interval front taken.entries)
    → (length (block_bytes index.interval index.entries) < 2 ^ 32 → length (block_bytes done.interval done.entries) < 2 ^ 32)
    → length (index_block options.restart_interval (groups_by options entries)) < 2 ^ 32
end_small options entries front taken index done m is small =
    let before : block_bytes index.interval index.entries ≡ index_block options.restart_interval m.groups =
    ap (λ (n : ℕ). block_bytes n index.entries) m.index_by ∙ ap (block_bytes 1) m.index_is in
    let short = small (subst (λ (xs : List ℕ). length xs < 2 ^ 32) (sym before) m.index_small) in
    subst (λ (gs : List (List Entry)). length (index_block options.restart_interval gs) < 2 ^ 32) (sym (made_groups options entries front taken index m))
    (subst (λ (xs : List ℕ). length xs < 2 ^ 32) (ap (λ (x : Building). block_bytes x.interval x.entries) is ∙ sym (closing_index options entries front taken index m)) short)

-- what stands when the last block is closed
pub record Ended (options : TableOptions) (entries : List Entry) (after : List ℕ) (done : Building) (groups : List (List Entry)) : Type 0 where
  pub front_is : after ≡ data_text options.restart_interval groups
  pub index_is : block_bytes done.interval done.entries ≡ index_block options.restart_interval groups
  pub entries_are : done.entries ≡ index_of options.restart_interval 0 groups

pub ended : (options : TableOptions) (entries : List Entry) (front after : List ℕ) (taken index done : Building) (m : Made options entries front taken index) → after ≡ front ++ data_text taken.interval (last_group taken.entries)
    → done ≡ building index.interval (index.entries ++ closing taken.interval front taken.entries) → Ended options entries after done (m.groups ++ last_group taken.entries)
ended options entries front after taken index done m a d =
    let interval = options.restart_interval in
    let groups = m.groups ++ last_group taken.entries in
    record {
      front_is = a ∙ ap (λ (n : ℕ). front ++ data_text n (last_group taken.entries)) m.taken_by ∙ ap (λ (xs : List ℕ). xs ++ data_text interval (last_group taken.entries)) m.front_is
          ∙ sym (data_text-append interval m.groups (last_group taken.entries));
      index_is = ap (λ (b : Building). block_bytes b.interval b.entries) d ∙ sym (closing_index options entries front taken index m);
      entries_are = ap (λ (b : Building). b.entries) d ∙ ap (λ (n : ℕ). index.entries ++ closing n front taken.entries) m.taken_by ∙ sym (made_index options entries front taken index m (last_group taken.entries));
    }

pub end_bytes : (options : TableOptions) (entries : List Entry) (front after bytes : List ℕ) (taken index done : Building) (m : Made options entries front taken index) → after ≡ front ++ data_text taken.interval (last_group taken.entries)
    → done ≡ building index.interval (index.entries ++ closing taken.interval front taken.entries) → bytes ≡ file_of after (block_bytes 1 []) (block_bytes done.interval done.entries) → bytes ≡ table_bytes options entries
end_bytes options entries front after bytes taken index done m a d is =
    let e = ended options entries front after taken index done m a d in
    is ∙ ap (λ (xs : List ℕ). file_of xs (block_bytes 1 []) (block_bytes done.interval done.entries)) e.front_is
    ∙ ap (λ (xs : List ℕ). file_of (data_text options.restart_interval (m.groups ++ last_group taken.entries)) (block_bytes 1 []) xs) e.index_is
    ∙ sym (made_bytes options entries front taken index m)

pub end_table : (options : TableOptions) (entries : List Entry) (front after bytes : List ℕ) (taken index done : Building) (m : Made options entries front taken index) → after ≡ front ++ data_text taken.interval (last_group taken.entries)
    → done ≡ building index.interval (index.entries ++ closing taken.interval front taken.entries) → bytes ≡ file_of after (block_bytes 1 []) (block_bytes done.interval done.entries)
    → IsBlock (block_bytes taken.interval taken.entries) taken.entries → IsBlock (block_bytes done.interval done.entries) done.entries → length bytes < 2 ^ 63 → IsTable bytes entries
end_table options entries front after bytes taken index done m a d is b i small =
    let interval = options.restart_interval in
    let groups = m.groups ++ last_group taken.entries in
    let e = ended options entries front after taken index done m a d in
    let whole = end_bytes options entries front after bytes taken index done m a d is in
    let short : length (file_of_groups interval groups) < 2 ^ 64 = omega (arith, small, ap (λ (xs : List ℕ). length xs) (whole ∙ made_bytes options entries front taken index m)) in
    let block = subst (λ (n : ℕ). IsBlock (block_bytes n taken.entries) taken.entries) m.taken_by b in
    let index_block_is = subst (λ (xs : List ℕ). IsBlock xs (index_of interval 0 groups)) e.index_is (subst (λ (xs : List Entry). IsBlock (block_bytes done.interval done.entries) xs) e.entries_are i) in
    subst (λ (xs : List ℕ). IsTable xs entries) (sym whole) (made_table options entries front taken index m block index_block_is short)

-- ---- what a step answered

abbrev pub Answer : Type 0
Answer = Result (Unit {0}) BuildFault

pub on_err : (r : Answer) (P : Type 0) → P → OnErr r P
on_err (Ok u) P p = tt
on_err (Err fault) P p = p

pub on_ok_by : (r : Answer) (P Q : Type 0) → OnOk r P → (P → Q) → OnOk r Q
on_ok_by (Ok u) P Q p f = f p
on_ok_by (Err fault) P Q p f = tt

pub on_err_by : (r : Answer) (P Q : Type 0) → OnErr r P → (P → Q) → OnErr r Q
on_err_by (Ok u) P Q p f = tt
on_err_by (Err fault) P Q p f = f p

-- whether an entry was added or not, the builder keeps its law
pub either_made : (r : Answer) (options : TableOptions) (entries : List Entry) (front : List ℕ) (taken index more : Building) (offset : ℕ) (e : Entry) → Made options entries front taken index → is_full options taken.entries ≡ false
    → Ascends (entries ++ e ∷ []) → HasRoom options offset taken index e → offset ≡ length front → OnOk r (more ≡ building taken.interval (taken.entries ++ e ∷ [])) → OnErr r (more ≡ taken)
    → Made options (entries_made front index.entries more.entries) front more index
either_made (Ok u) options entries front taken index more offset e m o a h at ok err =
    made_itself options (entries ++ e ∷ []) front more index (adding options entries front taken index more offset e m o a h at ok)
either_made (Err fault) options entries front taken index more offset e m o a h at ok err =
    made_itself options entries front more index (subst (λ (b : Building). Made options entries front b index) (sym err) m)
