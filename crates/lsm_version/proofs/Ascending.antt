-- A table's entries ascend.
use Rattle.std.proofs.Common.{◌≡◌, ℕ, List, [], ◌∷◌, Less, subst, inl, inr}
use Rattle.lsm_codec.specs.Lists.{Has}
use Rattle.lsm_codec.specs.Entries.{Entry, internal_key, entry_cmp}
use Rattle.lsm_block.specs.Block.{Ascends}
use Rattle.lsm_table.specs.Table.{IsTable}
use Rattle.lsm_table.proofs.CallerLemmas.{key_cmp_total, data_ascends}
use Rattle.lsm_model.specs.Streams.{IsAscending}

after_first : (e : Entry) (es : List Entry) → Ascends (e ∷ es) → (y : Entry) → Has es y → entry_cmp e y ≡ Less
after_first e [] a y h = absurd h
after_first e (f ∷ es) a y (inl s) = subst (λ (z : Entry). entry_cmp e z ≡ Less) s a.0
after_first e (f ∷ es) a y (inr h) = key_cmp_total.trans (internal_key e) (internal_key f) (internal_key y) a.0 (after_first f es a.1 y h)

tail_of : (e : Entry) (es : List Entry) → Ascends (e ∷ es) → Ascends es
tail_of e [] a = tt
tail_of e (f ∷ es) a = a.1

pub ascending_from : (es : List Entry) → Ascends es → IsAscending es
ascending_from [] a = tt
ascending_from (e ∷ es) a = (after_first e es a, ascending_from es (tail_of e es a))

pub table_ascends : (bytes : List ℕ) (es : List Entry) → IsTable bytes es → IsAscending es
table_ascends bytes es t = ascending_from es (subst Ascends t.entries_are (data_ascends t.body _ t.index t.groups t.indexed.ascends t.blocks))
