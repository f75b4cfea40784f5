-- Going on in a table that is read block by block.
use Rattle.std.proofs.Common.{◌≡◌, ℕ, ◌-◌, ◌^◌, min, true, false, List, [], ◌∷◌, ◌++◌, Option, Result, Err, refl, sym, ap, ◌∙◌, subst}
use Rattle.std.specs.List.{flat_map}
use Rattle.lsm_codec.specs.Entries.{Entry, newest}
use Rattle.lsm_block.specs.Standing.{is_end, but_first, value_of_first}
use Rattle.lsm_table.specs.declared.table_fault.TableFault.{TableFault}
use Rattle.lsm_table.specs.declared.read_fault.ReadFault.{ReadFault}
use Rattle.lsm_table.specs.declared.read_fault.ReadFault.TheVariants.{Shelf, Table}
use Rattle.lsm_table.specs.Reading.{Fails}
use Rattle.lsm_table.specs.ReadFault.{IsMemoryOrShelf}
use Rattle.lsm_table.specs.Footer.{body_of}
use Rattle.lsm_table.specs.Table.{DataBlock, IsTable}
use Rattle.lsm_table.specs.HeldTable.{entries_named, Names, AreNamed}
use Rattle.lsm_table.specs.OpenTable.{opening_at, block_named}
use Rattle.lsm_table.proofs.CallerLemmas.{below-nothing, below_append, below_skip, found_at, names_part, names_all, names_none, named, opening_again, named_again, memory_only}
use Rattle.lsm_reader.specs.Blocks.{Reads, Rest, left_at, IsSought, IsAtEntry}
use Rattle.lsm_codec.specs.Keys.{UserKey, InternalKey}
use Rattle.lsm_block.specs.Seeking.{not_below}
use Rattle.lsm_table.specs.Searching.{read_key, of_user, Sought}
use Rattle.lsm_table.specs.Found.{found_in}

abbrev rest : List Entry → List Entry → Rest
rest here index = record { here = here; index = index }

-- what is refused where there is a data block is the shelf's, or want of memory
pub named_sound : {X : Type 0} (see : X → List Entry) (fault : ReadFault) (body place : List ℕ) (es : List Entry) → DataBlock body place es → Reads see (Err fault) (block_named body place) → IsMemoryOrShelf fault
named_sound see (Shelf fault) body place es d r = tt
named_sound see (Table fault) body place es d r = memory_only fault es (subst (λ (x : Result (List Entry) TableFault). Fails fault x) (named_again body place es d) r)

pub not_end : (es : List Entry) → is_end es ≡ false → (e : Entry) × (later : List Entry) × (es ≡ e ∷ later)
not_end [] h = absurd cc
not_end (e ∷ later) h = (e, later, refl)

pub at_end : (es : List Entry) → is_end es ≡ true → es ≡ []
at_end [] h = refl
at_end (e ∷ es) h = absurd cc

pub at_some : (here index : List Entry) → is_end here ≡ false → IsAtEntry here index
at_some [] index h = absurd cc
at_some (e ∷ es) index h = tt

pub some_not_end : (e : Entry) (es xs : List Entry) → xs ≡ e ∷ es → is_end xs ≡ true → ⊥
some_not_end e es xs same h = let bad = sym (ap is_end same) ∙ h in absurd cc

-- the data block of the next index entry
pub record NextNamed (image : List ℕ) (index : List Entry) : Type 0 where
  pub first : Entry
  pub others : List Entry
  pub block : DataBlock (body_of image) (value_of_first index) (first ∷ others)
  pub named : AreNamed (body_of image) (but_first index)
  pub left : left_at image (rest (first ∷ others) (but_first index)) ≡ left_at image (rest [] index)

pub next_named : (image : List ℕ) (index : List Entry) → is_end index ≡ false → AreNamed (body_of image) index → NextNamed image index
next_named image [] h nm = absurd cc
next_named image (i ∷ index) h nm =
    let parts = names_part (body_of image) i index nm.0 nm.1 in
    record {
      first = parts.first;
      others = parts.others;
      block = parts.block;
      named = (parts.rest, parts.later);
      left = ap (λ (xs : List Entry). xs ++ flat_map (entries_named (body_of image)) index) (sym (named (body_of image) i (parts.first ∷ parts.others) parts.block));
    }

pub entered : (image : List ℕ) (index new here : List Entry) (n : NextNamed image index) → here ≡ n.first ∷ n.others → new ≡ but_first index
    → AreNamed (body_of image) new × (left_at image (rest here new) ≡ left_at image (rest [] index))
entered image index new here n h i = rw (h, i) (n.named, n.left)

-- ---- a search

-- the data block in which a search goes on
pub record SoughtNext (key : InternalKey) (image : List ℕ) (index entries : List Entry) : Type 0 where
  pub first : Entry
  pub others : List Entry
  pub later : List Entry
  pub block : DataBlock (body_of image) (value_of_first index) (first ∷ others)
  pub names : Names (body_of image) (but_first index) later
  pub same : not_below key entries ≡ not_below key ((first ∷ others) ++ later)

pub sought_next : (key : InternalKey) (image : List ℕ) (index entries : List Entry) → is_end index ≡ false → Sought key (body_of image) index entries → SoughtNext key image index entries
sought_next key image [] entries h s = absurd cc
sought_next key image (i ∷ index) entries h s =
    let parts = names_part (body_of image) i index s.left s.names in
    record {
      first = parts.first;
      others = parts.others;
      later = parts.rest;
      block = parts.block;
      names = parts.later;
      same = s.same ∙ ap (not_below key) (sym parts.entries_are);
    }

pub is_sought : (key : InternalKey) (image : List ℕ) (index entries new here : List Entry) (n : SoughtNext key image index entries) → here ≡ not_below key (n.first ∷ n.others) → new ≡ but_first index → IsSought key image here new entries
is_sought key image index entries new [] n h i =
    rw i (record { left = n.later; names = n.names; same = n.same ∙ below_skip key (n.first ∷ n.others) n.later (sym h) })
is_sought key image index entries new (e ∷ es) n h i =
    rw i ((n.later, n.names), ap (λ (xs : List Entry). (e ∷ es) ++ xs) (names_all (body_of image) (but_first index) n.later n.names) ∙ sym (n.same ∙ below_append key (n.first ∷ n.others) n.later e es (sym h)))

-- a search that is at its end has found nothing
pub sought_end : (key : InternalKey) (image : List ℕ) (index entries : List Entry) → is_end index ≡ true → Sought key (body_of image) index entries → AreNamed (body_of image) index × (left_at image (rest [] index) ≡ not_below key entries)
sought_end key image (i ∷ index) entries h s = absurd cc
sought_end key image [] entries h s =
    ((s.left, s.names), sym (s.same ∙ ap (not_below key) (names_none (body_of image) s.left s.names) ∙ below-nothing key))

pub still_sought : (key : InternalKey) (image : List ℕ) (here index entries : List Entry) → is_end here ≡ true → IsSought key image here index entries → Sought key (body_of image) index entries
still_sought key image [] index entries h s = s
still_sought key image (e ∷ es) index entries h s = absurd cc

pub found_sought : (key : InternalKey) (image : List ℕ) (here index entries : List Entry) → is_end here ≡ false → IsSought key image here index entries → AreNamed (body_of image) index × (left_at image (rest here index) ≡ not_below key entries)
found_sought key image [] index entries h s = absurd cc
found_sought key image (e ∷ es) index entries h s = s

-- ---- what a read finds

-- what is refused where a table is opened is the shelf's, or want of memory
pub opening_sound : {X : Type 0} (see : X → List Entry) (fault : ReadFault) (image : List ℕ) (es : List Entry) → IsTable image es → Reads see (Err fault) (opening_at image) → IsMemoryOrShelf fault
opening_sound see (Shelf fault) image es t r = tt
opening_sound see (Table fault) image es t r = memory_only fault t.index (subst (λ (x : Result (List Entry) TableFault). Fails fault x) (opening_again image es t) r)

looked : (k : UserKey) (seq : ℕ) (key : InternalKey) (image : List ℕ) (index es : List Entry) (c : Rest) → key ≡ read_key k (min seq (2 ^ 56 - 1)) → Names (body_of image) index es → left_at image c ≡ not_below key es → newest k seq es ≡ of_user k (left_at image c)
looked k seq key image index es c is n left =
    found_at k seq (body_of image) index es n ∙ ap (λ (x : InternalKey). of_user k (not_below x es)) (sym is) ∙ ap (of_user k) (sym left)

-- what the place of a cursor says of the user is what all that is left there says
pub cursor_found : (k : UserKey) (seq : ℕ) (key : InternalKey) (image : List ℕ) (index es : List Entry) (c : Rest) (said : Option (Option (List ℕ))) → key ≡ read_key k (min seq (2 ^ 56 - 1)) → Names (body_of image) index es → left_at image c ≡ not_below key es
    → IsAtEntry c.here c.index → said ≡ found_in (of_user k c.here) → said ≡ found_in (newest k seq es)
cursor_found k seq key image index es c said is n left a s =
    s ∙ by_here c.here c.index a ∙ sym (ap found_in (looked k seq key image index es c is n left))
  where
    by_here : (here index : List Entry) → IsAtEntry here index → found_in (of_user k here) ≡ found_in (of_user k (left_at image (rest here index)))
    by_here [] index a = rw a refl
    by_here (e ∷ es) index a = refl

-- ---- from the front

pub first_none : (image : List ℕ) (index entries : List Entry) → is_end index ≡ true → Names (body_of image) index entries → AreNamed (body_of image) index × (left_at image (rest [] index) ≡ entries)
first_none image (i ∷ index) entries h n = absurd cc
first_none image [] entries h n = ((entries, n), sym (names_none (body_of image) entries n))

pub first_some : (image : List ℕ) (index new here entries : List Entry) (n : NextNamed image index) → Names (body_of image) index entries → here ≡ n.first ∷ n.others → new ≡ but_first index
    → AreNamed (body_of image) new × (left_at image (rest here new) ≡ entries)
first_some image index new here entries n names h i =
    let e = entered image index new here n h i in
    (e.0, e.1 ∙ names_all (body_of image) index entries names)
