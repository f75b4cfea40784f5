-- What is read as data blocks is one after the other, and the other way round.
use Rattle.std.proofs.Common.{◌≡◌, ℕ, ◌+◌, ◌≤◌, ◌⊎◌, true, eqb, leb, List, [], ◌∷◌, ◌++◌, length, Option, Some, Ok, Err, refl, sym, ap, ◌∙◌, subst, append_assoc, arith, inl, inr}
use Rattle.std.specs.List.{AllByRecursion}
use Rattle.std.proofs.lemmas.Bool.{eqb-true, leb-true, le-leb}
use Rattle.std.proofs.lemmas.List.{append-nil}
use Rattle.lsm_codec.specs.Keys.{InternalKey}
use Rattle.lsm_codec.specs.Entries.{Entry, internal_key}
use Rattle.lsm_codec.proofs.CallerLemmas.{IsBytes}
use Rattle.lsm_block.specs.Block.{Ascends, IsBlock, Spells, key_text}
use Rattle.lsm_block.specs.Reading.{block_at}
use Rattle.lsm_block.proofs.CallerLemmas.{IsBytes-after, IsBytes-front, block_takes, block_again}
use Rattle.lsm_table.specs.declared.table_options.TableOptions.{TableOptions}
use Rattle.lsm_table.specs.declared.table_fault.TableFault.TheVariants.{BadIndex}
use Rattle.lsm_table.specs.declared.handle.Handle.{Handle}
use Rattle.lsm_table.specs.Handle.{IsHandle, handle_at}
use Rattle.lsm_table.specs.Table.{AreApart, concat}
use Rattle.lsm_table.specs.TableReading.{block_or, end_after, end_of}
use Rattle.lsm_inflate.specs.declared.inflate_fault.InflateFault.TheVariants.{Table, TooLarge}
use Rattle.lsm_inflate.specs.Reading.{lifted}
use Rattle.lsm_inflate.specs.StoredContents.{HoldsPacked, contents_at}
use Rattle.lsm_inflate.specs.PackedTable.{PackedBlock, PackedBlocks}
use Rattle.lsm_inflate.specs.PackedReading.{filled_at, handle_behind, block_there, block_behind, data_at}
use Rattle.lsm_inflate.proofs.PlainReading.{block_ok, ok_is as plain_is}
use Rattle.lsm_inflate.proofs.StepLaws.{bind_ok, guard_ok, ok_is, done, lifted_ok}
use Rattle.lsm_table.proofs.CallerLemmas.{handle_takes, handle_again}
use Rattle.lsm_inflate.proofs.StoredLaws.{contents_takes, contents_again, contents_fit}
use Rattle.lsm_inflate.proofs.FillingLaws.{filled_takes, filled_again}

-- ---- values are bytes

abbrev pub ValuesFit : List Entry → Type 0
ValuesFit es = AllByRecursion (λ e. IsBytes e.value) es

values_fit : (es : List Entry) (offset : ℕ) (before text starts : List ℕ) → IsBytes text → Spells offset before text starts es → ValuesFit es
values_fit [] offset before text starts fits s = tt
values_fit (e ∷ es) offset before text starts fits s =
    let t = s.4 in
    let own = IsBytes-front text s.1 s.2 s.5 fits in
    let x1 = IsBytes-after s.1 t.shared_text _ t.text_is own in
    let x2 = IsBytes-after _ t.unshared_text _ refl x1 in
    let x3 = IsBytes-after _ t.length_text _ refl x2 in
    let x4 = IsBytes-after _ t.unshared _ refl x3 in
    (x4, values_fit es (offset + length s.1) (key_text e) s.2 s.3 (IsBytes-after text s.1 s.2 s.5 fits) s.7)

pub block_values : (bytes : List ℕ) (es : List Entry) → IsBytes bytes → IsBlock bytes es → ValuesFit es
block_values bytes es fits b = values_fit es 0 [] b.text b.starts (IsBytes-front bytes b.text _ b.bytes_are fits) b.spelled

-- ---- one data block

no_rest : (xs : List ℕ) → eqb (length xs) 0 ≡ true → xs ≡ []
no_rest [] e = refl
no_rest (x ∷ xs) e = absurd (omega (arith, eqb-true (length (x ∷ xs)) 0 e))

-- what the value spells is what is read of it
read_again : (value : List ℕ) (handle : Handle) → IsHandle value handle → handle_at BadIndex value ≡ Ok (handle, [])
read_again value handle h = ap (handle_at BadIndex) (sym (append-nil value)) ∙ handle_again BadIndex value [] handle h

pub end_is : (value : List ℕ) (handle : Handle) → IsHandle value handle → end_of value ≡ handle.offset + handle.size + 5
unfolding end_of
end_is value handle h = ap end_after (read_again value handle h)

pub end_read : (value : List ℕ) (handle : Handle) (rest : List ℕ) → handle_at BadIndex value ≡ Ok (handle, rest) → handle.offset + handle.size + 5 ≡ end_of value
unfolding end_of
end_read value handle rest h = sym (ap end_after h)

-- a data block that does not begin before this offset
pub record Behind (body : List ℕ) (from : ℕ) (value : List ℕ) (group : List Entry) : Type 0 where
  pub block : PackedBlock body value group
  pub from_is : from ≤ block.handle.offset

pub there_takes : (body : List ℕ) (handle : Handle) (group : List Entry) → IsBytes body → block_there body handle ≡ Ok group → (contents : List ℕ) × HoldsPacked body handle contents × IsBlock contents group × IsBytes contents
unfolding block_there
there_takes body handle group fits e =
    let b = bind_ok (contents_at body handle) _ group e in
    let held = contents_takes body handle b.0 fits b.1 in
    let are = contents_fit body handle b.0 fits held in
    (b.0, held, block_takes b.0 group are (block_ok (block_at b.0) group (lifted_ok (block_or (block_at b.0)) group b.2)), are)

pub there_again : (body : List ℕ) (handle : Handle) (contents : List ℕ) (group : List Entry) → IsBytes body → HoldsPacked body handle contents → IsBlock contents group → block_there body handle ≡ Ok group
unfolding block_there
there_again body handle contents group fits held block =
    let c = contents_again body handle contents fits held in
    let b = block_again contents group block in
    rw (c, b) refl

record Named (from : ℕ) (value : List ℕ) (handle : Handle) : Type 0 where
  is : IsHandle value handle
  from_is : from ≤ handle.offset

handle_takes_behind : (from : ℕ) (value : List ℕ) (handle : Handle) → IsBytes value → handle_behind from value ≡ Ok handle → Named from value handle
unfolding handle_behind
handle_takes_behind from value handle fits e =
    let b1 = bind_ok (lifted (handle_at BadIndex value)) _ handle e in
    let h = b1.0 in
    let f = handle_takes BadIndex value h.0 h.1 fits (lifted_ok (handle_at BadIndex value) h b1.1) in
    let g1 = guard_ok (eqb (length h.1) 0) (Table BadIndex) _ handle b1.2 in
    let g2 = guard_ok (leb from h.0.offset) (Table BadIndex) (done h.0) handle g1.1 in
    let same : h.0 ≡ handle = ok_is h.0 handle g2.1 in
    let whole : value ≡ f.front = f.parts ∙ ap (λ (x : List ℕ). f.front ++ x) (no_rest h.1 g1.0) ∙ append-nil f.front in
    let found : Named from value h.0 = record { is = subst (λ (x : List ℕ). IsHandle x h.0) (sym whole) f.is; from_is = leb-true from h.0.offset g2.0 } in
    subst (Named from value) same found

handle_again_behind : (from : ℕ) (value : List ℕ) (handle : Handle) → IsHandle value handle → from ≤ handle.offset → handle_behind from value ≡ Ok handle
unfolding handle_behind
handle_again_behind from value handle h le =
    let read = read_again value handle h in
    let late : leb from handle.offset ≡ true = le-leb from handle.offset le in
    rw (read, late) refl

pub behind_takes : (body : List ℕ) (from : ℕ) (value : List ℕ) (group : List Entry) → IsBytes body → IsBytes value → block_behind body from value ≡ Ok group → Behind body from value group
unfolding block_behind
behind_takes body from value group fits value_fits e =
    let b = bind_ok (handle_behind from value) (block_there body) group e in
    let n = handle_takes_behind from value b.0 value_fits b.1 in
    let t = there_takes body b.0 group fits b.2 in
    record {
      block = record { handle = b.0; contents = t.0; handle_is = n.is; held = t.1; block = t.2 };
      from_is = n.from_is;
    }

pub behind_again : (body : List ℕ) (from : ℕ) (value : List ℕ) (group : List Entry) (d : PackedBlock body value group) → IsBytes body → from ≤ d.handle.offset → block_behind body from value ≡ Ok group
unfolding block_behind
behind_again body from value group d fits le =
    let h = handle_again_behind from value d.handle d.handle_is le in
    let t = there_again body d.handle d.contents group fits d.held d.block in
    rw h t

-- two readings of one place are one
abbrev none : List ℕ
none = []

same_place : (value : List ℕ) (h g : Handle) → IsHandle value h → IsHandle value g → h ≡ g
same_place value h g a b =
    let first = read_again value h a in
    let second = read_again value g b in
    let both : (h, none) ≡ (g, none) = plain_is (h, none) (g, none) (sym first ∙ second) in
    ap (λ (x : Handle × List ℕ). x.0) both

-- ---- one after the other

pub record Data (body : List ℕ) (from : ℕ) (bound : Option InternalKey) (made index more : List Entry) : Type 0 where
  pub groups : List (List Entry)
  pub blocks : PackedBlocks body bound index groups
  pub apart : AreApart from index
  pub is : more ≡ made ++ concat groups
  pub ascends : Ascends made → Ascends more

pub data_takes : (options : TableOptions) (index : List Entry) (body : List ℕ) (from : ℕ) (bound : Option InternalKey) (made more : List Entry) → IsBytes body → ValuesFit index → data_at options body from bound made index ≡ Ok more
    → Data body from bound made index more
unfolding data_at
data_takes options [] body from bound made more fits values e =
    let same = ok_is made more e in
    record { groups = []; blocks = tt; apart = tt; is = sym same ∙ sym (append-nil made); ascends = λ a. subst Ascends same a }
data_takes options (i ∷ index) body from bound made more fits values e =
    let b1 = bind_ok (block_behind body from i.value) _ more e in
    let d = behind_takes body from i.value b1.0 fits values.0 b1.1 in
    let b2 = bind_ok (filled_at options bound (internal_key i) made b1.0) _ more b1.2 in
    let f = filled_takes options bound (internal_key i) made b1.0 b2.0 b2.1 in
    let later = data_takes options index body (end_of i.value) (Some (internal_key i)) b2.0 more fits values.1 b2.2 in
    let h = d.block.handle in
    record {
      groups = b1.0 ∷ later.groups;
      blocks = (d.block, f.lie, later.blocks);
      apart = (h, d.block.handle_is, d.from_is, subst (λ (n : ℕ). AreApart n index) (end_is i.value h d.block.handle_is) later.apart);
      is = later.is ∙ ap (λ (x : List Entry). x ++ concat later.groups) f.is ∙ append_assoc made b1.0 (concat later.groups);
      ascends = λ a. later.ascends (f.ascends a);
    }

pub data_again : (options : TableOptions) (index : List Entry) (body : List ℕ) (from : ℕ) (bound : Option InternalKey) (made : List Entry) (groups : List (List Entry)) → IsBytes body → PackedBlocks body bound index groups → AreApart from index
    → Ascends (made ++ concat groups) → (data_at options body from bound made index ≡ Ok (made ++ concat groups)) ⊎ (data_at options body from bound made index ≡ Err TooLarge)
unfolding data_at
data_again options [] body from bound made [] fits d a s = inl (ap (λ (x : List Entry). done x) (sym (append-nil made)))
data_again options [] body from bound made (g ∷ gs) fits d a s = absurd d
data_again options (i ∷ index) body from bound made [] fits d a s = absurd d
data_again options (i ∷ index) body from bound made (g ∷ gs) fits d a s =
    let h = d.0.handle in
    let place : a.0 ≡ h = same_place i.value a.0 h a.1 d.0.handle_is in
    let first : from ≤ h.offset = subst (λ (x : Handle). from ≤ x.offset) place a.2 in
    let one = behind_again body from i.value g d.0 fits first in
    let apart : AreApart (end_of i.value) index = subst (λ (n : ℕ). AreApart n index) (sym (end_is i.value a.0 a.1)) a.3 in
    rw one (elim (filled_again options bound (internal_key i) made g (concat gs) d.1 s) [
      | inl well ↦
          let regrouped = append_assoc made g (concat gs) in
          let later = data_again options index body (end_of i.value) (Some (internal_key i)) (made ++ g) gs fits d.2 apart (subst Ascends (sym regrouped) s) in
          rw well (subst (λ (x : List Entry). (data_at options body (end_of i.value) (Some (internal_key i)) (made ++ g) index ≡ Ok x) ⊎ (data_at options body (end_of i.value) (Some (internal_key i)) (made ++ g) index ≡ Err TooLarge)) regrouped later)
      | inr bad ↦ inr (rw bad refl)
    ])

-- at most one row of groups
pub one_groups : (index : List Entry) (body : List ℕ) (bound : Option InternalKey) (gs hs : List (List Entry)) → IsBytes body → PackedBlocks body bound index gs → PackedBlocks body bound index hs → gs ≡ hs
one_groups [] body bound [] [] fits d f = refl
one_groups [] body bound (g ∷ gs) hs fits d f = absurd d
one_groups [] body bound [] (h ∷ hs) fits d f = absurd f
one_groups (i ∷ index) body bound [] hs fits d f = absurd d
one_groups (i ∷ index) body bound (g ∷ gs) [] fits d f = absurd f
one_groups (i ∷ index) body bound (g ∷ gs) (h ∷ hs) fits d f =
    let a = behind_again body 0 i.value g d.0 fits (omega arith) in
    let b = behind_again body 0 i.value h f.0 fits (omega arith) in
    let same : g ≡ h = ok_is g h (sym a ∙ b) in
    let later = one_groups index body (Some (internal_key i)) gs hs fits d.2 f.2 in
    ap (λ (x : List Entry). x ∷ gs) same ∙ ap (λ (x : List (List Entry)). h ∷ x) later
