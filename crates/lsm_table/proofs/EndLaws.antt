-- Whether a data block lies where its index entry says, by its first and its last key.
use Rattle.std.proofs.Common.{◌≡◌, ℕ, Bool, true, false, List, [], ◌∷◌, Option, Some, None, refl, sym, ap, ◌∙◌, subst, Ordering, Less, Equal, Greater}
use Rattle.std.specs.Ordering.{is_gt, is_le}
use Rattle.lsm_codec.specs.Keys.{InternalKey, key_cmp}
use Rattle.lsm_codec.specs.Entries.{Entry, internal_key}
use Rattle.std.specs.Prelude.{◌&&◌}
use Rattle.lsm_block.specs.Block.{entry_of}
use Rattle.lsm_block.specs.Held.{HeldBlock, Position, rest_of, last_after, Given}
use Rattle.lsm_table.specs.Table.{last_of}
use Rattle.lsm_table.specs.TableReading.{is_after, are_placed}
use Rattle.lsm_table.specs.Judging.{comes_after}

pub after_is_same : (bound : Option InternalKey) (e : Entry) → comes_after bound (internal_key e) ≡ is_after bound e
after_is_same None e = refl
after_is_same (Some b) e = refl

-- ---- the first entry of a block, as a cursor gives it

abbrev pub found_key : InternalKey → Option InternalKey
found_key key = Some key

pub some_key : (a b : InternalKey) → found_key a ≡ found_key b → a ≡ b
some_key a b e = cc

-- ---- the last entry, as a cursor gives it

last_from : (e : Entry) (es : List Entry) → last_after (Some (internal_key e)) es ≡ found_key (internal_key (last_of e es))
last_from e [] = refl
last_from e (f ∷ es) = last_from f es

pub no_last : (es : List Entry) (bound : Option InternalKey) (i : Entry) → None ≡ last_after None es → false ≡ are_placed bound i es
no_last [] bound i h = refl
no_last (e ∷ es) bound i h = let bad = h ∙ last_from e es in absurd cc

not_le : (o : Ordering) → is_gt o ≡ true → is_le o ≡ false
not_le Less h = absurd cc
not_le Equal h = absurd cc
not_le Greater h = refl

not_greater : (o : Ordering) → is_gt o ≡ false → is_le o ≡ true
not_greater Less h = refl
not_greater Equal h = refl
not_greater Greater h = absurd cc

and_no : (a b : Bool) → b ≡ false → false ≡ (a && b)
and_no true b h = sym h
and_no false b h = refl

and_yes : (a b : Bool) → b ≡ true → a ≡ (a && b)
and_yes true b h = sym h
and_yes false b h = refl

-- a block whose last key stands after its index key
pub late : (es : List Entry) (bound : Option InternalKey) (last key : InternalKey) (value : List ℕ) → found_key last ≡ last_after None es → is_gt (key_cmp last key) ≡ true → false ≡ are_placed bound (entry_of key value) es
late [] bound last key value h g = refl
late (e ∷ es) bound last key value h g =
    let same : last ≡ internal_key (last_of e es) = some_key last (internal_key (last_of e es)) (h ∙ last_from e es) in
    and_no (is_after bound e) (is_le (key_cmp (internal_key (last_of e es)) key)) (not_le (key_cmp (internal_key (last_of e es)) key) (ap (λ (k : InternalKey). is_gt (key_cmp k key)) (sym same) ∙ g))

-- a block whose last key does not
pub placed_is : (block : HeldBlock) (old new : Position) (o : Option (List ℕ)) (v : List ℕ) (bound : Option InternalKey) (first last key : InternalKey) (value : List ℕ) (r : Bool) → Given block old new o → o ≡ Some v → rest_of block old ≡ block.entries
    → found_key first ≡ new.last → found_key last ≡ last_after None block.entries → is_gt (key_cmp last key) ≡ false → r ≡ comes_after bound first → r ≡ are_placed bound (entry_of key value) block.entries
placed_is block old new o v bound first last key value r g is all at ends le after =
    let given = subst (Given block old new) is g in
    let e = entry_of given.0 v in
    let rest = rest_of block new in
    let parts : block.entries ≡ e ∷ rest = sym all ∙ given.2 in
    let same : first ≡ given.0 = some_key first given.0 (at ∙ given.1) in
    let final : last ≡ internal_key (last_of e rest) = some_key last (internal_key (last_of e rest)) (ends ∙ ap (last_after None) parts ∙ last_from e rest) in
    after ∙ ap (comes_after bound) same ∙ after_is_same bound e
    ∙ and_yes (is_after bound e) (is_le (key_cmp (internal_key (last_of e rest)) key)) (ap (λ (k : InternalKey). is_le (key_cmp k key)) (sym final) ∙ not_greater (key_cmp last key) le)
    ∙ ap (are_placed bound (entry_of key value)) (sym parts)
