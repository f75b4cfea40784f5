-- What the builder makes of entries is a table of them.
use Rattle.std.proofs.Common.{◌≡◌, ℕ, ◌+◌, ◌^◌, ◌<◌, Bool, true, false, List, [], ◌∷◌, ◌++◌, length, Option, Some, None, refl, sym, ap, ◌∙◌, subst, append_assoc, arith, Less}
use Rattle.std.specs.List.{AllByRecursion}
use Rattle.std.proofs.lemmas.List.{length-append, append-nil}
use Rattle.lsm_codec.specs.Keys.{InternalKey, key_cmp}
use Rattle.lsm_codec.specs.Entries.{Entry, internal_key}
use Rattle.lsm_block.specs.Block.{IsBlock, Ascends}
use Rattle.lsm_block.specs.Building.{block_bytes}
use Rattle.lsm_table.specs.declared.table_options.TableOptions.{TableOptions}
use Rattle.lsm_table.specs.declared.footer.Footer.{Footer}
use Rattle.lsm_table.specs.Footer.{footer_text}
use Rattle.lsm_table.specs.StoredBlock.{trailer, stored}
use Rattle.lsm_table.specs.Table.{AreApart, DataBlock, DataBlocks, IsAfter, IsTable, last_of, concat}
use Rattle.lsm_table.specs.TableMaking.{AreFilled, AreBlocks, closed_when}
use Rattle.lsm_table.specs.TableBuilding.{Grouped, closed_first, is_full, close_if, grouped, last_group, data_text, place, index_entry, index_of, index_block, file_of_groups}
use Rattle.lsm_table.proofs.HandleLaws.{handle_is}
use Rattle.lsm_table.proofs.StoredBlockLaws.{length-stored}
use Rattle.lsm_table.proofs.FooterLaws.{footer_written}
use Rattle.lsm_table.proofs.KeyOrder.{key_cmp_total, self_le}

-- ---- groups that may stand as data blocks one after another

-- each with an entry, the first of which comes after the last entry of the group before
abbrev pub Good : Option InternalKey → List (List Entry) → Type 0
Good bound [] = Unit {0}
Good bound ([] ∷ groups) = ⊥
Good bound ((e ∷ es) ∷ groups) = IsAfter bound e × Good (Some (internal_key (last_of e es))) groups

-- each data block stands where the index says, whatever stands before and after
pub stand : (interval : ℕ) (front : List ℕ) (bound : Option InternalKey) (groups : List (List Entry)) → Good bound groups → AreBlocks interval groups
    → length front + length (data_text interval groups) < 2 ^ 64 → (after : List ℕ) → DataBlocks (front ++ (data_text interval groups ++ after)) bound (index_of interval (length front) groups) groups
unfolding data_text index_of
stand interval front bound [] g b small after = tt
stand interval front bound ([] ∷ groups) g b small after = absurd g
stand interval front bound ((e ∷ es) ∷ groups) g b small after =
    let block = block_bytes interval (e ∷ es) in
    let later = data_text interval groups in
    let l1 = length-stored block in
    let l2 = length-append (stored block) later in
    let l3 = length-append front (stored block) in
    let body = front ++ ((stored block ++ later) ++ after) in
    let handle = place (length front) block in
    let i = index_entry (last_of e es) handle in
    let shift : (front ++ stored block) ++ (later ++ after) ≡ body = simp append_assoc in
    let next = stand interval (front ++ stored block) (Some (internal_key i)) groups g.1 b.1 (omega (arith, small, l1, l2, l3)) after in
    let next2 = subst (λ (xs : List ℕ). DataBlocks xs (Some (internal_key i)) (index_of interval (length (front ++ stored block)) groups) groups) shift next in
    let next3 = subst (λ (n : ℕ). DataBlocks body (Some (internal_key i)) (index_of interval n groups) groups) l3 next2 in
    let here : DataBlock body i.value (e ∷ es) = record {
      handle = handle;
      contents = block;
      handle_is = handle_is handle (record { offset = omega (arith, small); size = omega (arith, small, l1, l2) });
      held = record { before = front; after = later ++ after; offset_is = refl; size_is = refl; body_is = simp append_assoc };
      block = b.0;
    } in
    (here, g.0, self_le (internal_key (last_of e es)), next3)

-- and each begins where the one before it ends
pub index_apart : (interval offset : ℕ) (bound : Option InternalKey) (groups : List (List Entry)) → Good bound groups → offset + length (data_text interval groups) < 2 ^ 64 → AreApart offset (index_of interval offset groups)
unfolding data_text index_of
index_apart interval offset bound [] g small = tt
index_apart interval offset bound ([] ∷ groups) g small = absurd g
index_apart interval offset bound ((e ∷ es) ∷ groups) g small =
    let block = block_bytes interval (e ∷ es) in
    let l1 = length-stored block in
    let l2 = length-append (stored block) (data_text interval groups) in
    let handle = place offset block in
    let later = index_apart interval (offset + length (stored block)) (Some (internal_key (last_of e es))) groups g.1 (omega (arith, small, l1, l2)) in
    let end : offset + length (stored block) ≡ offset + length block + 5 = omega (arith, l1) in
    let next = subst (λ (n : ℕ). AreApart n (index_of interval (offset + length (stored block)) groups)) end later in
    (handle, handle_is handle (record { offset = omega (arith, small); size = omega (arith, small, l1, l2) }), omega arith, next)

-- ---- ascending entries fall into good groups

abbrev pub First : Option InternalKey → List Entry → Type 0
First bound [] = Unit {0}
First bound (e ∷ es) = IsAfter bound e

pub any-first : (es : List Entry) → First None es
any-first [] = tt
any-first (e ∷ es) = tt

pub ascends_first : (x : Entry) (xs ys : List Entry) → Ascends (x ∷ (xs ++ ys)) → First (Some (internal_key (last_of x xs))) ys
ascends_first x [] [] a = tt
ascends_first x [] (y ∷ ys) a = a.0
ascends_first x (z ∷ xs) ys a = ascends_first z xs ys a.1

pub ascends_back : (x : Entry) (xs ys : List Entry) → Ascends (x ∷ (xs ++ ys)) → Ascends ys
ascends_back x [] [] a = tt
ascends_back x [] (y ∷ ys) a = a.1
ascends_back x (z ∷ xs) ys a = ascends_back z xs ys a.1

-- the tail of ascending entries
pub ascends_rest : (xs ys : List Entry) → Ascends (xs ++ ys) → Ascends ys
ascends_rest [] ys a = a
ascends_rest (x ∷ xs) ys a = ascends_back x xs ys a

pub good_groups : (bound : Option InternalKey) (groups : List (List Entry)) (rest : List Entry) → AreFilled groups → First bound (concat groups ++ rest) → Ascends (concat groups ++ rest) → Good bound groups
good_groups bound [] rest f b a = tt
good_groups bound ([] ∷ groups) rest f b a = absurd f
good_groups bound ((e ∷ es) ∷ groups) rest f b a =
    let same : (e ∷ es ++ concat groups) ++ rest ≡ e ∷ (es ++ (concat groups ++ rest)) = append_assoc (e ∷ es) (concat groups) rest in
    let up = subst Ascends same a in
    let first = subst (First bound) same b in
    (first, good_groups (Some (internal_key (last_of e es))) groups rest f (ascends_first e es (concat groups ++ rest) up) (ascends_back e es (concat groups ++ rest) up))

-- ---- the index

abbrev pub AllAscend : List (List Entry) → Type 0
AllAscend groups = AllByRecursion (λ group. Ascends group) groups

pub index_ascends : (interval offset : ℕ) (bound : Option InternalKey) (groups : List (List Entry)) → Good bound groups → AllAscend groups → Ascends (index_of interval offset groups)
unfolding index_of
index_ascends interval offset bound [] g b = tt
index_ascends interval offset bound ([] ∷ groups) g b = absurd g
index_ascends interval offset bound ((e ∷ es) ∷ []) g b = tt
index_ascends interval offset bound ((e ∷ es) ∷ ([] ∷ groups)) g b = absurd g.1
index_ascends interval offset bound ((e ∷ es) ∷ ((f ∷ fs) ∷ groups)) g b =
    (before_last (internal_key (last_of e es)) f fs g.1.0 b.1.0, index_ascends interval (offset + length (stored (block_bytes interval (e ∷ es)))) (Some (internal_key (last_of e es))) ((f ∷ fs) ∷ groups) g.1 b.1)
  where
    before_last : (k : InternalKey) (f : Entry) (fs : List Entry) → key_cmp k (internal_key f) ≡ Less → Ascends (f ∷ fs) → key_cmp k (internal_key (last_of f fs)) ≡ Less
    before_last k f [] h a = h
    before_last k f (x ∷ fs) h a = before_last k x fs (key_cmp_total.trans k (internal_key f) (internal_key x) h a.0) a.1

-- ---- how the entries fall into groups

pub concat-append : (xs ys : List (List Entry)) → concat (xs ++ ys) ≡ concat xs ++ concat ys
concat-append [] ys = refl
concat-append (x ∷ xs) ys = ap (λ (zs : List Entry). x ++ zs) (concat-append xs ys) ∙ sym (append_assoc x (concat xs) (concat ys))

pub concat-last : (taken : List Entry) → concat (last_group taken) ≡ taken
concat-last [] = refl
concat-last (t ∷ ts) = append-nil (t ∷ ts)

-- what one entry more does
abbrev pub one_more : TableOptions → Grouped → Entry → Grouped
one_more options g e = closed_when (is_full options (g.taken ++ e ∷ [])) g.closed (g.taken ++ e ∷ [])

first_one_more : (full : Bool) (group : List Entry) (groups : List (List Entry)) (taken : List Entry) → closed_when full (group ∷ groups) taken ≡ closed_first group (closed_when full groups taken)
first_one_more true group groups taken = refl
first_one_more false group groups taken = refl

last_one : (full : Bool) (options : TableOptions) (taken : List Entry) → close_if full (λ rest. grouped options rest []) taken ≡ closed_when full [] taken
unfolding grouped
last_one true options taken = refl
last_one false options taken = refl

push_if : (full : Bool) (options : TableOptions) (taken : List Entry) (es : List Entry) (x : Entry) → ((rest : List Entry) → grouped options rest (es ++ x ∷ []) ≡ one_more options (grouped options rest es) x)
    → close_if full (λ rest. grouped options rest (es ++ x ∷ [])) taken ≡ one_more options (close_if full (λ rest. grouped options rest es) taken) x
push_if true options taken es x go =
    ap (closed_first taken) (go []) ∙ sym (first_one_more (is_full options ((grouped options [] es).taken ++ x ∷ [])) taken (grouped options [] es).closed ((grouped options [] es).taken ++ x ∷ []))
push_if false options taken es x go = go taken

grouped-cons : (options : TableOptions) (taken : List Entry) (e : Entry) (es : List Entry)
    → grouped options taken (e ∷ es) ≡ close_if (is_full options (taken ++ e ∷ [])) (λ rest. grouped options rest es) (taken ++ e ∷ [])
unfolding grouped
grouped-cons options taken e es = refl

pub grouped-nil : (options : TableOptions) (taken : List Entry) → grouped options taken [] ≡ record { closed = []; taken = taken }
unfolding grouped
grouped-nil options taken = refl

pub grouped-push : (options : TableOptions) (taken : List Entry) (es : List Entry) (x : Entry) → grouped options taken (es ++ x ∷ []) ≡ one_more options (grouped options taken es) x
grouped-push options taken [] x =
    grouped-cons options taken x [] ∙ last_one (is_full options (taken ++ x ∷ [])) options (taken ++ x ∷ [])
    ∙ ap (λ (g : Grouped). one_more options g x) (sym (grouped-nil options taken))
grouped-push options taken (e ∷ es) x =
    grouped-cons options taken e (es ++ x ∷ []) ∙ push_if (is_full options (taken ++ e ∷ [])) options (taken ++ e ∷ []) es x (λ rest. grouped-push options rest es x)
    ∙ ap (λ (g : Grouped). one_more options g x) (sym (grouped-cons options taken e es))

-- no entry is lost or made
abbrev pub entries_of : Grouped → List Entry
entries_of g = concat g.closed ++ g.taken

kept_if : (full : Bool) (options : TableOptions) (taken es : List Entry) → ((rest : List Entry) → entries_of (grouped options rest es) ≡ rest ++ es) → entries_of (close_if full (λ rest. grouped options rest es) taken) ≡ taken ++ es
kept_if true options taken es go =
    append_assoc taken (concat (grouped options [] es).closed) (grouped options [] es).taken ∙ ap (λ (xs : List Entry). taken ++ xs) (go [])
kept_if false options taken es go = go taken

pub grouped-entries : (options : TableOptions) (taken es : List Entry) → entries_of (grouped options taken es) ≡ taken ++ es
grouped-entries options taken [] = ap entries_of (grouped-nil options taken) ∙ sym (append-nil taken)
grouped-entries options taken (e ∷ es) =
    ap entries_of (grouped-cons options taken e es) ∙ kept_if (is_full options (taken ++ e ∷ [])) options (taken ++ e ∷ []) es (λ rest. grouped-entries options rest es) ∙ append_assoc taken (e ∷ []) es

pub when-entries : (full : Bool) (groups : List (List Entry)) (taken : List Entry) → entries_of (closed_when full groups taken) ≡ concat groups ++ taken
when-entries true groups taken =
    append-nil (concat (groups ++ taken ∷ [])) ∙ concat-append groups (taken ∷ []) ∙ ap (λ (xs : List Entry). concat groups ++ xs) (append-nil taken)
when-entries false groups taken = refl

-- ---- the whole

pub file_built : (interval : ℕ) (groups : List (List Entry)) → Good None groups → AreBlocks interval groups → IsBlock (index_block interval groups) (index_of interval 0 groups)
    → length (file_of_groups interval groups) < 2 ^ 64 → IsTable (file_of_groups interval groups) (concat groups)
file_built interval groups good blocks index small =
    let front = data_text interval groups in
    let meta = block_bytes 1 [] in
    let contents = index_block interval groups in
    let footer : Footer = record { metaindex = place (length front) meta; index = place (length (front ++ stored meta)) contents } in
    let end = footer_text footer in
    let body = (front ++ stored meta) ++ stored contents in
    let n1 = length-append body end in
    let n2 = length-append (front ++ stored meta) (stored contents) in
    let n3 = length-append front (stored meta) in
    let n4 = length-stored contents in
    let n5 = length-stored meta in
    let there = stand interval [] None groups good blocks (omega (arith, small, n1, n2, n3)) (stored meta ++ stored contents) in
    record {
      body = body;
      footer_text = end;
      footer = footer;
      contents = contents;
      index = index_of interval 0 groups;
      groups = groups;
      bytes_are = refl;
      footed = footer_written footer (record { offset = omega (arith, small, n1, n2, n3); size = omega (arith, small, n1, n2, n3, n5) }) (record { offset = omega (arith, small, n1, n2); size = omega (arith, small, n1, n2, n4) });
      held = record { before = front ++ stored meta; after = []; offset_is = refl; size_is = refl; body_is = ap (λ (x : List ℕ). (front ++ stored meta) ++ (contents ++ x)) (sym (append-nil (trailer contents))) };
      indexed = index;
      apart = index_apart interval 0 None groups good (omega (arith, small, n1, n2, n3));
      blocks = subst (λ (x : List ℕ). DataBlocks x None (index_of interval 0 groups) groups) (sym (append_assoc front (stored meta) (stored contents))) there;
      entries_are = refl;
    }
