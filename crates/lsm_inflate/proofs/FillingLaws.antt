-- Entries that come one after another into a plain table.
use Rattle.std.proofs.Common.{◌≡◌, ℕ, ◌^◌, ◌≤◌, ◌⊎◌, Bool, true, false, ltb, List, [], ◌∷◌, ◌++◌, length, Option, Some, None, Ok, Err, Less, Equal, Greater, refl, sym, ap, ◌∙◌, subst, append_assoc, inl, inr}
use Rattle.std.specs.Prelude.{◌&&◌, ◌||◌, not}
use Rattle.std.specs.List.{AllByRecursion}
use Rattle.std.specs.Ordering.{is_lt, is_le}
use Rattle.std.specs.declared.cmp.Ordering.{Ordering}
use Rattle.std.proofs.lemmas.Bool.{lt-ltb, le-ltb, cases_lt}
use Rattle.std.proofs.lemmas.List.{append-nil}
use Rattle.lsm_codec.specs.Keys.{InternalKey, IsKey, key_cmp}
use Rattle.lsm_codec.specs.Entries.{Entry, internal_key}
use Rattle.lsm_block.specs.Block.{Ascends}
use Rattle.lsm_block.specs.Building.{after_last, block_bytes, last_key}
use Rattle.lsm_block.proofs.CallerLemmas.{ascends-push}
use Rattle.lsm_table.specs.declared.table_options.TableOptions.{TableOptions}
use Rattle.lsm_table.specs.declared.table_fault.TableFault.TheVariants.{BadIndex}
use Rattle.lsm_table.specs.Table.{IsAfter, IsTable, IsImage}
use Rattle.lsm_table.specs.TableReading.{is_after}
use Rattle.lsm_table.specs.TableBuilding.{PassesLimit, is_full, taken_with, groups_by, index_block}
use Rattle.lsm_inflate.specs.declared.inflate_fault.InflateFault.TheVariants.{Table, TooLarge}
use Rattle.lsm_inflate.specs.Reading.{guarded}
use Rattle.lsm_inflate.specs.Filling.{IsFirst}
use Rattle.lsm_inflate.specs.PackedTable.{Lies}
use Rattle.lsm_inflate.specs.PackedReading.{lies, has_room, put_at, filled_at, finished_at}
use Rattle.lsm_inflate.proofs.PlainReading.{and_true}
use Rattle.lsm_inflate.proofs.StepLaws.{bind_ok, guard_ok, ok_is, done}

-- ---- limits

room_no : (full : Bool) (block index : ℕ) → (2 ^ 32 ≤ block) ⊎ ((full ≡ true) × (2 ^ 32 ≤ index)) → (ltb block (2 ^ 32) && (not full || ltb index (2 ^ 32))) ≡ false
room_no full block index (inl over) = let no = le-ltb block (2 ^ 32) over in rw no refl
room_no full block index (inr both) =
    let no = le-ltb index (2 ^ 32) both.1 in
    let f = both.0 in
    rw (f, no) (last (ltb block (2 ^ 32)))
  where
    last : (b : Bool) → (b && false) ≡ false
    last true = refl
    last false = refl

pub no_room : (options : TableOptions) (made : List Entry) (e : Entry) → PassesLimit options made e → has_room options made e ≡ false
no_room options made e p =
    room_no (is_full options (taken_with options made e)) (length (block_bytes options.restart_interval (taken_with options made e)))
    (length (index_block options.restart_interval (groups_by options (made ++ e ∷ [])))) p

room_yes : (full : Bool) (block index : ℕ) → ((2 ^ 32 ≤ block) ⊎ ((full ≡ true) × (2 ^ 32 ≤ index)) → ⊥) → (ltb block (2 ^ 32) && (not full || ltb index (2 ^ 32))) ≡ true
room_yes full block index h = elim (cases_lt block (2 ^ 32)) [
  | inl lt ↦ let yes = lt-ltb block (2 ^ 32) lt in rw yes (in_index full h)
  | inr ge ↦ absurd (h (inl ge))
]
  where
    in_index : (full : Bool) → ((2 ^ 32 ≤ block) ⊎ ((full ≡ true) × (2 ^ 32 ≤ index)) → ⊥) → (not full || ltb index (2 ^ 32)) ≡ true
    in_index false h = refl
    in_index true h = elim (cases_lt index (2 ^ 32)) [
      | inl lt ↦ lt-ltb index (2 ^ 32) lt
      | inr ge ↦ absurd (h (inr (refl, ge)))
    ]

pub room : (options : TableOptions) (made : List Entry) (e : Entry) → (PassesLimit options made e → ⊥) → has_room options made e ≡ true
room options made e h =
    room_yes (is_full options (taken_with options made e)) (length (block_bytes options.restart_interval (taken_with options made e)))
    (length (index_block options.restart_interval (groups_by options (made ++ e ∷ [])))) h

-- ---- where an entry lies

is_less : (o : Ordering) → is_lt o ≡ true → o ≡ Less
is_less Less h = refl
is_less Equal h = absurd cc
is_less Greater h = absurd cc

after_is : (bound : Option InternalKey) (e : Entry) → is_after bound e ≡ true → IsAfter bound e
after_is None e h = tt
after_is (Some b) e h = is_less (key_cmp b (internal_key e)) h

is_after-true : (bound : Option InternalKey) (e : Entry) → IsAfter bound e → is_after bound e ≡ true
is_after-true None e h = refl
is_after-true (Some b) e h = ap is_lt h

lies_is : (bound : Option InternalKey) (key : InternalKey) (e : Entry) → lies bound key e ≡ true → Lies bound key e
lies_is bound key e h =
    let both = and_true (is_after bound e) (is_le (key_cmp (internal_key e) key)) h in
    (after_is bound e both.0, both.1)

lies-true : (bound : Option InternalKey) (key : InternalKey) (e : Entry) → Lies bound key e → lies bound key e ≡ true
lies-true bound key e l = let a = is_after-true bound e l.0 in let b = l.1 in rw (a, b) refl

-- ---- one entry more

pub record Put (bound : Option InternalKey) (key : InternalKey) (made : List Entry) (e : Entry) (more : List Entry) : Type 0 where
  pub lies : Lies bound key e
  pub is : more ≡ made ++ e ∷ []
  pub ascends : Ascends made → Ascends more

pub put_takes : (options : TableOptions) (bound : Option InternalKey) (key : InternalKey) (made : List Entry) (e : Entry) (more : List Entry) → put_at options bound key made e ≡ Ok more → Put bound key made e more
unfolding put_at
put_takes options bound key made e more h =
    let g1 = guard_ok (lies bound key e && after_last (last_key made) (internal_key e)) (Table BadIndex) _ more h in
    let both = and_true (lies bound key e) (after_last (last_key made) (internal_key e)) g1.0 in
    let g2 = guard_ok (has_room options made e) TooLarge (Ok (made ++ e ∷ [])) more g1.1 in
    let same : made ++ e ∷ [] ≡ more = ok_is (made ++ e ∷ []) more g2.1 in
    record {
      lies = lies_is bound key e both.0;
      is = sym same;
      ascends = λ a. subst Ascends same (ascends-push made e a both.1);
    }

comes_after : (made : List Entry) (e : Entry) (es : List Entry) → Ascends (made ++ e ∷ es) → after_last (last_key made) (internal_key e) ≡ true
comes_after [] e es a = refl
comes_after (x ∷ []) e es a = ap is_lt a.0
comes_after (x ∷ y ∷ made) e es a = comes_after (y ∷ made) e es a.1

pub put_again : (options : TableOptions) (bound : Option InternalKey) (key : InternalKey) (made : List Entry) (e : Entry) (es : List Entry) → Lies bound key e → Ascends (made ++ e ∷ es)
    → (put_at options bound key made e ≡ Ok (made ++ e ∷ [])) ⊎ (put_at options bound key made e ≡ Err TooLarge)
unfolding put_at
put_again options bound key made e es l a =
    let there = lies-true bound key e l in
    let after = comes_after made e es a in
    rw (there, after) (either (has_room options made e))
  where
    either : (b : Bool) → (guarded b TooLarge (done (made ++ e ∷ [])) ≡ Ok (made ++ e ∷ [])) ⊎ (guarded b TooLarge (done (made ++ e ∷ [])) ≡ Err TooLarge)
    either true = inl refl
    either false = inr refl

-- ---- a data block's entries

pub record Filled (bound : Option InternalKey) (key : InternalKey) (made group more : List Entry) : Type 0 where
  pub lie : AllByRecursion (Lies bound key) group
  pub is : more ≡ made ++ group
  pub ascends : Ascends made → Ascends more

pub filled_takes : (options : TableOptions) (bound : Option InternalKey) (key : InternalKey) (made group more : List Entry) → filled_at options bound key made group ≡ Ok more → Filled bound key made group more
unfolding filled_at
filled_takes options bound key made [] more h =
    let same = ok_is made more h in
    record { lie = tt; is = sym same ∙ sym (append-nil made); ascends = λ a. subst Ascends same a }
filled_takes options bound key made (e ∷ es) more h =
    let b = bind_ok (put_at options bound key made e) (λ (x : List Entry). filled_at options bound key x es) more h in
    let p = put_takes options bound key made e b.0 b.1 in
    let later = filled_takes options bound key b.0 es more b.2 in
    record {
      lie = (p.lies, later.lie);
      is = later.is ∙ ap (λ (x : List Entry). x ++ es) p.is ∙ append_assoc made (e ∷ []) es;
      ascends = λ a. later.ascends (p.ascends a);
    }

pub filled_again : (options : TableOptions) (bound : Option InternalKey) (key : InternalKey) (made group after : List Entry) → AllByRecursion (Lies bound key) group → Ascends (made ++ (group ++ after))
    → (filled_at options bound key made group ≡ Ok (made ++ group)) ⊎ (filled_at options bound key made group ≡ Err TooLarge)
unfolding filled_at
filled_again options bound key made [] after l a = inl (ap (λ (x : List Entry). done x) (sym (append-nil made)))
filled_again options bound key made (e ∷ es) after l a = elim (put_again options bound key made e (es ++ after) l.0 a) [
  | inl well ↦
      let regrouped = append_assoc made (e ∷ []) (es ++ after) in
      let short = append_assoc made (e ∷ []) es in
      let later = filled_again options bound key (made ++ e ∷ []) es after l.1 (subst Ascends (sym regrouped) a) in
      rw well (subst (λ (x : List Entry). (filled_at options bound key (made ++ e ∷ []) es ≡ Ok x) ⊎ (filled_at options bound key (made ++ e ∷ []) es ≡ Err TooLarge)) short later)
  | inr bad ↦ inr (rw bad refl)
]

-- ---- the first and the last key

abbrev some_key : InternalKey → Option InternalKey
some_key k = Some k

abbrev no_key : Option InternalKey
no_key = None

record Ends (e : Entry) (es : List Entry) : Type 0 where
  front : List Entry
  last : Entry
  are : e ∷ es ≡ front ++ last ∷ []
  key : last_key (e ∷ es) ≡ Some (internal_key last)

ends : (e : Entry) (es : List Entry) → Ends e es
ends e [] = record { front = []; last = e; are = refl; key = refl }
ends e (f ∷ es) =
    let r = ends f es in
    record { front = e ∷ r.front; last = r.last; are = ap (λ (x : List Entry). e ∷ x) r.are; key = r.key }

some_is : (k l : InternalKey) → some_key k ≡ some_key l → k ≡ l
some_is k l e = cc

pub image_of : (es : List Entry) (smallest largest image : List ℕ) (key : InternalKey) → IsFirst (Some smallest) es → last_key es ≡ some_key key → IsKey largest key → IsTable image es → IsImage es smallest largest image
image_of [] smallest largest image key first last k t = absurd first
image_of (e ∷ es) smallest largest image key first last k t =
    let r = ends e es in
    let same : key ≡ internal_key r.last = some_is key (internal_key r.last) (sym last ∙ r.key) in
    record {
      first = e;
      rest = es;
      front = r.front;
      last = r.last;
      table = t;
      begins = refl;
      ends = r.are;
      smallest_is = first;
      largest_is = subst (IsKey largest) same k;
    }

pub no_last : (es : List Entry) → last_key es ≡ no_key → es ≡ []
no_last [] h = refl
no_last (e ∷ es) h = let bad = sym h ∙ (ends e es).key in absurd cc

pub finished_none : (options : TableOptions) (es : List Entry) → es ≡ [] → finished_at options es ≡ Ok None
unfolding finished_at
finished_none options es h = rw h refl
