-- Going on into the next data block.
use Rattle.std.proofs.Common.{◌≡◌, ℕ, List, [], ◌∷◌, ◌++◌, Option, Some, None, Result, Ok, Err, sym, ap, ◌∙◌, subst}
use Rattle.std.specs.Prelude.{OnErr}
use Rattle.std.specs.List.{flat_map}
use Rattle.lsm_codec.specs.Keys.{InternalKey}
use Rattle.lsm_codec.specs.Entries.{Entry}
use Rattle.lsm_block.specs.Block.{entry_of}
use Rattle.lsm_block.specs.Held.{HeldBlock, Position, rest_of, Given}
use Rattle.lsm_table.specs.Table.{DataBlock}
use Rattle.lsm_table.specs.HeldTable.{entries_named, left_of, Names, AreNamed, Walk, Steps}
use Rattle.lsm_table.proofs.HeldTableLaws.{names_part, named}
use Rattle.lsm_table.proofs.JudgeLaws.{lent, nothing_lent}

pub on_err_any : {A E : Type 0} (r : Result A E) (P : Type 0) → P → OnErr r P
on_err_any (Ok x) P p = tt
on_err_any (Err e) P p = p

-- the next data block, before its first entry
pub record Entered (body : List ℕ) (index block : HeldBlock) (place after : Position) : Type 0 where
  pub first : Entry
  pub others : List Entry
  pub entries_are : block.entries ≡ first ∷ others
  pub named : AreNamed body (rest_of index after)
  pub left : left_of body [] (rest_of index place) ≡ left_of body block.entries (rest_of index after)

pub entered : (body : List ℕ) (index block : HeldBlock) (place after : Position) (o : Option (List ℕ)) (p : List ℕ) → AreNamed body (rest_of index place) → Given index place after o → o ≡ lent p
    → ((es : List Entry) → DataBlock body p es → block.entries ≡ es) → Entered body index block place after
entered body index block place after o p nm g is there =
    let given = subst (Given index place after) is g in
    let i = entry_of given.0 p in
    let parts = names_part body i (rest_of index after) nm.0 (subst (λ (xs : List Entry). Names body xs nm.0) given.2 nm.1) in
    let here = there (parts.first ∷ parts.others) parts.block in
    record {
      first = parts.first;
      others = parts.others;
      entries_are = here;
      named = (parts.rest, parts.later);
      left = ap (λ (xs : List Entry). flat_map (entries_named body) xs) given.2 ∙ ap (λ (xs : List Entry). xs ++ flat_map (entries_named body) (rest_of index after)) (named body i (parts.first ∷ parts.others) parts.block ∙ sym here);
    }

-- what was left before
before_is : (body : List ℕ) (lent_block index block : HeldBlock) (here after_here place after : Position) (o : Option (List ℕ)) (walk : Walk) → Given lent_block here after_here o → o ≡ nothing_lent → left_of body (rest_of lent_block here) (rest_of index place) ≡ walk.left
    → Entered body index block place after → left_of body block.entries (rest_of index after) ≡ walk.left
before_is body lent_block index block here after_here place after o walk g is seen e =
    let none = (subst (Given lent_block here after_here) is g).0 in
    sym e.left ∙ ap (λ (xs : List Entry). left_of body xs (rest_of index place)) (sym none) ∙ seen

pub stays : (body : List ℕ) (lent_block index block : HeldBlock) (here after_here place after start now : Position) (o : Option (List ℕ)) (walk : Walk) → Given lent_block here after_here o → o ≡ nothing_lent → left_of body (rest_of lent_block here) (rest_of index place) ≡ walk.left
    → Entered body index block place after → rest_of block start ≡ block.entries → now ≡ start → left_of body (rest_of block now) (rest_of index after) ≡ walk.left
stays body lent_block index block here after_here place after start now o walk g is seen e all same =
    ap (λ (x : Position). left_of body (rest_of block x) (rest_of index after)) same ∙ ap (λ (xs : List Entry). left_of body xs (rest_of index after)) all
    ∙ before_is body lent_block index block here after_here place after o walk g is seen e

abbrev pub walking : Option InternalKey → List Entry → Walk
walking last left = record { last = last; left = left }

pub steps_in : (body : List ℕ) (lent_block index block : HeldBlock) (here after_here place after start now : Position) (o : Option (List ℕ)) (walk : Walk) (p : Option (List ℕ)) → Given lent_block here after_here o → o ≡ nothing_lent
    → left_of body (rest_of lent_block here) (rest_of index place) ≡ walk.left → Entered body index block place after → rest_of block start ≡ block.entries → Given block start now p
    → Steps walk (walking now.last (left_of body (rest_of block now) (rest_of index after))) p
steps_in body lent_block index block here after_here place after start now o walk None g is seen e all q =
    let bad = sym q.0 ∙ all ∙ e.entries_are in absurd cc
steps_in body lent_block index block here after_here place after start now o walk (Some v) g is seen e all q =
    (q.0, q.1, sym (before_is body lent_block index block here after_here place after o walk g is seen e) ∙ ap (λ (xs : List Entry). left_of body xs (rest_of index after)) (sym all ∙ q.2))
