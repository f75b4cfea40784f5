-- The last entry of a table that is being built stands in the open data block, or else the index
-- has its key.
use Rattle.std.proofs.Common.{◌≡◌, ℕ, ◌+◌, List, [], ◌∷◌, ◌++◌, length, Some, None, refl, sym, ap, ◌∙◌}
use Rattle.std.proofs.lemmas.List.{append-nil}
use Rattle.lsm_codec.specs.Keys.{InternalKey}
use Rattle.lsm_codec.specs.Entries.{Entry, internal_key}
use Rattle.lsm_block.specs.Building.{Building, block_bytes, last_key}
use Rattle.lsm_table.specs.declared.table_options.TableOptions.{TableOptions}
use Rattle.lsm_table.specs.StoredBlock.{stored}
use Rattle.lsm_table.specs.Table.{last_of, concat}
use Rattle.lsm_table.specs.TableBuilding.{index_of}
use Rattle.lsm_table.specs.TableMaking.{AreFilled, Made}
use Rattle.lsm_table.proofs.MakingLaws.{made_parts}

last-append : (xs : List Entry) (y : Entry) (ys : List Entry) → last_key (xs ++ y ∷ ys) ≡ last_key (y ∷ ys)
last-append [] y ys = refl
last-append (x ∷ []) y ys = refl
last-append (x ∷ z ∷ xs) y ys = last-append (z ∷ xs) y ys

pub last-group : (e : Entry) (es : List Entry) → last_key (e ∷ es) ≡ Some (internal_key (last_of e es))
last-group e [] = refl
last-group e (f ∷ es) = last-group f es

-- the last index key is the key of the last entry
last-index : (interval offset : ℕ) (groups : List (List Entry)) → AreFilled groups → last_key (index_of interval offset groups) ≡ last_key (concat groups)
unfolding index_of
last-index interval offset [] f = refl
last-index interval offset ([] ∷ groups) f = absurd f
last-index interval offset ((e ∷ es) ∷ []) f = sym (last-group e es) ∙ ap last_key (sym (append-nil (e ∷ es)))
last-index interval offset ((e ∷ es) ∷ ([] ∷ groups)) f = absurd f
last-index interval offset ((e ∷ es) ∷ ((g ∷ gs) ∷ groups)) f =
    last-index interval (offset + length (stored (block_bytes interval (e ∷ es)))) ((g ∷ gs) ∷ groups) f ∙ sym (last-append (e ∷ es) g (gs ++ concat groups))

some_last : (xs taken : List Entry) (k : InternalKey) → last_key taken ≡ Some k → last_key (xs ++ taken) ≡ Some k
some_last xs [] k h = absurd cc
some_last xs (y ∷ ys) k h = last-append xs y ys ∙ h

none_last : (taken : List Entry) → last_key taken ≡ None → taken ≡ []
none_last [] h = refl
none_last (y ∷ ys) h = let some = last-group y ys in absurd cc

pub last_taken : (options : TableOptions) (entries : List Entry) (front : List ℕ) (taken index : Building) (k : InternalKey) → Made options entries front taken index
    → last_key taken.entries ≡ Some k → last_key entries ≡ Some k
last_taken options entries front taken index k m h = ap last_key (made_parts options entries front taken index m) ∙ some_last (concat m.groups) taken.entries k h

pub last_closed : (options : TableOptions) (entries : List Entry) (front : List ℕ) (taken index : Building) → Made options entries front taken index
    → last_key taken.entries ≡ None → last_key index.entries ≡ last_key entries
last_closed options entries front taken index m h =
    ap last_key m.index_is ∙ last-index options.restart_interval 0 m.groups m.filled
    ∙ ap last_key (sym (append-nil (concat m.groups)))
    ∙ ap (λ (es : List Entry). last_key (concat m.groups ++ es)) (sym (none_last taken.entries h))
    ∙ ap last_key (sym (made_parts options entries front taken index m))
