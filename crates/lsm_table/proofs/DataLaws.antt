-- What is read as data blocks is one after the other, and the other way round.
use Rattle.std.proofs.Common.{◌≡◌, ℕ, ◌+◌, ◌≤◌, true, eqb, leb, List, [], ◌∷◌, ◌++◌, length, Option, Some, None, Ok, refl, sym, ap, ◌∙◌, subst, arith}
use Rattle.std.specs.List.{AllByRecursion}
use Rattle.std.specs.Ordering.{is_lt, is_le}
use Rattle.std.proofs.lemmas.Bool.{eqb-true, leb-true, le-leb}
use Rattle.std.proofs.lemmas.List.{append-nil}
use Rattle.lsm_codec.specs.Keys.{InternalKey, key_cmp}
use Rattle.lsm_codec.specs.Entries.{Entry, internal_key, entry_cmp}
use Rattle.lsm_codec.proofs.CallerLemmas.{IsBytes}
use Rattle.lsm_block.specs.Block.{IsBlock, Spells, key_text}
use Rattle.lsm_block.specs.Reading.{block_at}
use Rattle.lsm_block.proofs.CallerLemmas.{IsBytes-after, IsBytes-front, block_takes, block_again}
use Rattle.lsm_table.specs.declared.table_fault.TableFault.TheVariants.{BadIndex}
use Rattle.lsm_table.specs.declared.handle.Handle.{Handle}
use Rattle.lsm_table.specs.Reading.{guarded}
use Rattle.lsm_table.specs.Handle.{IsHandle, handle_at}
use Rattle.lsm_table.specs.StoredBlock.{Holds, contents_at}
use Rattle.lsm_table.specs.Table.{AreApart, DataBlock, DataBlocks, IsAfter, last_of}
use Rattle.lsm_table.specs.TableReading.{block_or, is_after, are_placed, begins_behind, end_after, stands_behind, end_of, block_behind, data_block_at, data_at}
use Rattle.lsm_table.proofs.ByteLists.{and_true}
use Rattle.lsm_table.proofs.ReadingLaws.{bind_ok, guard_ok, ok_is, block_ok}
use Rattle.lsm_table.proofs.HandleLaws.{handle_takes, handle_again}
use Rattle.lsm_table.proofs.StoredBlockLaws.{contents_takes, contents_again}
use Rattle.lsm_table.proofs.KeyOrder.{is_less}

-- ---- values are bytes

abbrev pub ValuesFit : List Entry → Type 0
ValuesFit es = AllByRecursion (λ e. IsBytes e.value) es

values_fit : (es : List Entry) (offset : ℕ) (before text starts : List ℕ) → IsBytes text → Spells offset before text starts es → ValuesFit es
values_fit [] offset before text starts fits s = tt
values_fit (e ∷ es) offset before text starts fits s =
    let t = s.4 in
    let own = IsBytes-front text s.1 s.2 s.5 fits in
    let x1 = IsBytes-after s.1 t.shared_text _ t.text_is own in
    let x2 = IsBytes-after _ t.unshared_text _ refl x1 in
    let x3 = IsBytes-after _ t.length_text _ refl x2 in
    let x4 = IsBytes-after _ t.unshared _ refl x3 in
    (x4, values_fit es (offset + length s.1) (key_text e) s.2 s.3 (IsBytes-after text s.1 s.2 s.5 fits) s.7)

pub block_values : (bytes : List ℕ) (es : List Entry) → IsBytes bytes → IsBlock bytes es → ValuesFit es
block_values bytes es fits b = values_fit es 0 [] b.text b.starts (IsBytes-front bytes b.text _ b.bytes_are fits) b.spelled

-- what a file holds is bytes
pub held_fits : (body : List ℕ) (handle : Handle) (contents : List ℕ) → IsBytes body → Holds body handle contents → IsBytes contents
held_fits body handle contents fits h = IsBytes-front _ contents _ refl (IsBytes-after body h.before _ h.body_is fits)

-- ---- one data block

no_rest : (xs : List ℕ) → eqb (length xs) 0 ≡ true → xs ≡ []
no_rest [] e = refl
no_rest (x ∷ xs) e = absurd (omega (arith, eqb-true (length (x ∷ xs)) 0 e))

data_block_takes : (body : List ℕ) (bound : Option InternalKey) (i : Entry) (es : List Entry) → IsBytes body → IsBytes i.value → data_block_at body bound i ≡ Ok es
    → (are_placed bound i es ≡ true) × DataBlock body i.value es
unfolding data_block_at
data_block_takes body bound i es fits value_fits e =
    let b1 = bind_ok (handle_at BadIndex i.value) _ es e in
    let h = b1.0 in
    let f = handle_takes BadIndex i.value h.0 h.1 value_fits b1.1 in
    let b2 = bind_ok (guarded (eqb (length h.1) 0) BadIndex (contents_at body h.0)) _ es b1.2 in
    let g2 = guard_ok (eqb (length h.1) 0) BadIndex (contents_at body h.0) b2.0 b2.1 in
    let held = contents_takes body h.0 b2.0 g2.1 in
    let b3 = bind_ok (block_or (block_at b2.0)) _ es b2.2 in
    let g3 = guard_ok (are_placed bound i b3.0) BadIndex (Ok b3.0) es b3.2 in
    let same : b3.0 ≡ es = ok_is b3.0 es g3.1 in
    let whole : i.value ≡ f.front = f.parts ∙ ap (λ (x : List ℕ). f.front ++ x) (no_rest h.1 g2.0) ∙ append-nil f.front in
    let block : DataBlock body i.value b3.0 = record {
      handle = h.0;
      contents = b2.0;
      handle_is = subst (λ (x : List ℕ). IsHandle x h.0) (sym whole) f.is;
      held = held;
      block = block_takes b2.0 b3.0 (held_fits body h.0 b2.0 fits held) (block_ok (block_at b2.0) b3.0 b3.1);
    } in
    subst (λ (x : List Entry). (are_placed bound i x ≡ true) × DataBlock body i.value x) same (g3.0, block)

data_block_again : (body : List ℕ) (bound : Option InternalKey) (i : Entry) (es : List Entry) → are_placed bound i es ≡ true → DataBlock body i.value es → data_block_at body bound i ≡ Ok es
unfolding data_block_at
data_block_again body bound i es p d =
    let h : handle_at BadIndex i.value ≡ Ok (d.handle, []) = ap (handle_at BadIndex) (sym (append-nil i.value)) ∙ handle_again BadIndex i.value [] d.handle d.handle_is in
    let c = contents_again body d.handle d.contents d.held in
    let b = block_again d.contents es d.block in
    rw (h, c, b, p) refl

-- ---- one after the other

after_is : (bound : Option InternalKey) (e : Entry) → is_after bound e ≡ true → IsAfter bound e
after_is None e h = tt
after_is (Some b) e h = is_less (key_cmp b (internal_key e)) h

is_after-true : (bound : Option InternalKey) (e : Entry) → IsAfter bound e → is_after bound e ≡ true
is_after-true None e h = refl
is_after-true (Some b) e h = ap is_lt h

-- what the value spells is what is read of it
read_again : (value : List ℕ) (handle : Handle) → IsHandle value handle → handle_at BadIndex value ≡ Ok (handle, [])
read_again value handle h = ap (handle_at BadIndex) (sym (append-nil value)) ∙ handle_again BadIndex value [] handle h

pub behind_is : (from : ℕ) (value : List ℕ) (handle : Handle) → IsHandle value handle → stands_behind from value ≡ leb from handle.offset
unfolding stands_behind
behind_is from value handle h = ap (begins_behind from) (read_again value handle h)

pub end_is : (value : List ℕ) (handle : Handle) → IsHandle value handle → end_of value ≡ handle.offset + handle.size + 5
unfolding end_of
end_is value handle h = ap end_after (read_again value handle h)

pub data_takes : (index : List Entry) (body : List ℕ) (from : ℕ) (bound : Option InternalKey) (groups : List (List Entry)) → IsBytes body → ValuesFit index → data_at body from bound index ≡ Ok groups
    → DataBlocks body bound index groups × AreApart from index
unfolding data_at
data_takes [] body from bound groups fits values e = (subst (λ (x : List (List Entry)). DataBlocks body bound [] x) (ok_is [] groups e) tt, tt)
data_takes (i ∷ index) body from bound groups fits values e =
    let b1 = bind_ok (block_behind body from bound i) _ groups e in
    let g1 = guard_ok (stands_behind from i.value) BadIndex (data_block_at body bound i) b1.0 b1.1 in
    let d = data_block_takes body bound i b1.0 fits values.0 g1.1 in
    let b2 = bind_ok (data_at body (end_of i.value) (Some (internal_key i)) index) _ groups b1.2 in
    let later = data_takes index body (end_of i.value) (Some (internal_key i)) b2.0 fits values.1 b2.1 in
    let h = d.1.handle in
    let first : from ≤ h.offset = leb-true from h.offset (sym (behind_is from i.value h d.1.handle_is) ∙ g1.0) in
    let apart : AreApart (h.offset + h.size + 5) index = subst (λ (n : ℕ). AreApart n index) (end_is i.value h d.1.handle_is) later.1 in
    (subst (λ (x : List (List Entry)). DataBlocks body bound (i ∷ index) x) (ok_is (b1.0 ∷ b2.0) groups b2.2) (join b1.0 d b2.0 later.0), (h, d.1.handle_is, first, apart))
  where
    join : (es : List Entry) → (are_placed bound i es ≡ true) × DataBlock body i.value es → (gs : List (List Entry)) → DataBlocks body (Some (internal_key i)) index gs → DataBlocks body bound (i ∷ index) (es ∷ gs)
    join [] d gs later = absurd cc
    join (e ∷ es) d gs later =
        let both = and_true (is_after bound e) (is_le (entry_cmp (last_of e es) i)) d.0 in
        (d.1, after_is bound e both.0, both.1, later)

pub data_again : (index : List Entry) (body : List ℕ) (from : ℕ) (bound : Option InternalKey) (groups : List (List Entry)) → DataBlocks body bound index groups → AreApart from index → data_at body from bound index ≡ Ok groups
unfolding data_at
data_again [] body from bound [] d a = refl
data_again [] body from bound (g ∷ gs) d a = absurd d
data_again (i ∷ index) body from bound [] d a = absurd d
data_again (i ∷ index) body from bound ([] ∷ gs) d a = absurd d
data_again (i ∷ index) body from bound ((e ∷ es) ∷ gs) d a =
    let after = is_after-true bound e d.1 in
    let p : are_placed bound i (e ∷ es) ≡ true = rw (after, d.2) refl in
    let behind : stands_behind from i.value ≡ true = behind_is from i.value a.0 a.1 ∙ le-leb from a.0.offset a.2 in
    let one = data_block_again body bound i (e ∷ es) p d.0 in
    let apart : AreApart (end_of i.value) index = subst (λ (n : ℕ). AreApart n index) (sym (end_is i.value a.0 a.1)) a.3 in
    let later = data_again index body (end_of i.value) (Some (internal_key i)) gs d.3 apart in
    rw (behind, one, later) refl
