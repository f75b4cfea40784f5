-- Judging that a data block begins behind the one before, and where it ends.
use Rattle.std.proofs.Common.{◌≡◌, ℕ, ◌+◌, ◌<◌, ◌≤◌, Bool, true, false, eqb, leb, List, length, Option, Result, Ok, Err, refl, sym, ap, ◌∙◌, subst}
use Rattle.std.proofs.lemmas.Bool.{leb-true, le-leb, lt-leb}
use Rattle.lsm_codec.specs.declared.fault.CodecFault.{CodecFault}
use Rattle.lsm_codec.specs.Keys.{InternalKey}
use Rattle.lsm_codec.specs.Entries.{Entry}
use Rattle.lsm_codec.specs.Varint.{varint64_at}
use Rattle.lsm_block.specs.Reading.{block_at}
use Rattle.lsm_table.specs.declared.table_fault.TableFault.{TableFault}
use Rattle.lsm_table.specs.declared.table_fault.TableFault.TheVariants.{BadIndex}
use Rattle.lsm_table.specs.declared.handle.Handle.{Handle}
use Rattle.lsm_table.specs.Reading.{◌>>=◌, guarded, settled, number_or, is_memory, FailsUnless, Fails}
use Rattle.lsm_table.specs.Handle.{handle_at}
use Rattle.lsm_table.specs.StoredBlock.{contents_at}
use Rattle.lsm_table.specs.TableReading.{block_or, are_placed, data_block_at, block_behind, stands_behind, end_after, end_of}
use Rattle.lsm_table.proofs.ReadingLaws.{bind_ok, guard_ok, ok_is}

settled_ok : {A : Type 0} (r : Result A TableFault) → settled r ≡ Ok tt → (x : A) × (r ≡ Ok x)
settled_ok (Ok x) e = (x, refl)
settled_ok (Err fault) e = absurd cc

contents_inside : (body : List ℕ) (handle : Handle) (contents : List ℕ) → contents_at body handle ≡ Ok contents → handle.offset + handle.size + 5 ≤ length body
unfolding contents_at
contents_inside body handle contents e =
    leb-true (handle.offset + handle.size + 5) (length body) (guard_ok _ _ _ contents e).0

pub block_inside : (body : List ℕ) (bound : Option InternalKey) (i : Entry) (handle : Handle) (rest : List ℕ) → handle_at BadIndex i.value ≡ Ok (handle, rest) → settled (data_block_at body bound i) ≡ Ok tt → handle.offset + handle.size + 5 ≤ length body
unfolding data_block_at
block_inside body bound i handle rest h e =
    let s = settled_ok (data_block_at body bound i) e in
    let b1 = bind_ok (handle_at BadIndex i.value) _ s.0 s.1 in
    let b2 = bind_ok (guarded (eqb (length b1.0.1) 0) BadIndex (contents_at body b1.0.0)) _ s.0 b1.2 in
    let g2 = guard_ok (eqb (length b1.0.1) 0) BadIndex (contents_at body b1.0.0) b2.0 b2.1 in
    let same : b1.0 ≡ (handle, rest) = ok_is b1.0 (handle, rest) (sym b1.1 ∙ h) in
    subst (λ (x : Handle × List ℕ). x.0.offset + x.0.size + 5 ≤ length body) same (contents_inside body b1.0.0 b2.0 g2.1)

-- ---- behind the block before

bad_only : (r : Result (ℕ × List ℕ) CodecFault) (f : ℕ × List ℕ → Result (Handle × List ℕ) TableFault) (fault : TableFault) → ((x : ℕ × List ℕ) → f x ≡ Err fault → fault ≡ BadIndex) → (number_or BadIndex r >>= f) ≡ Err fault → fault ≡ BadIndex
bad_only (Ok x) f fault later e = later x e
bad_only (Err d) f fault later e = cc

handle_fault : (value : List ℕ) (fault : TableFault) → handle_at BadIndex value ≡ Err fault → fault ≡ BadIndex
unfolding handle_at
handle_fault value fault e =
    bad_only (varint64_at value) _ fault (λ x. bad_only (varint64_at x.1) _ fault (λ y h. absurd cc)) e

unread : (memory : Bool) (body : List ℕ) (from : ℕ) (bound : Option InternalKey) (i : Entry) (fault : TableFault) → FailsUnless memory fault (handle_at BadIndex i.value) → FailsUnless memory fault (settled (block_behind body from bound i))
unfolding stands_behind
unread true body from bound i fault f = tt
unread false body from bound i fault f =
    let bad = handle_fault i.value fault f in
    rw f (ap (λ (x : TableFault). Err x) (sym bad))

pub not_read : (body : List ℕ) (from : ℕ) (bound : Option InternalKey) (i : Entry) (fault : TableFault) → Fails fault (handle_at BadIndex i.value) → Fails fault (settled (block_behind body from bound i))
not_read body from bound i fault f = unread (is_memory fault) body from bound i fault f

pub begins_before : (body : List ℕ) (from : ℕ) (bound : Option InternalKey) (i : Entry) (handle : Handle) (rest : List ℕ) → handle_at BadIndex i.value ≡ Ok (handle, rest) → handle.offset < from → settled (block_behind body from bound i) ≡ Err BadIndex
unfolding stands_behind
begins_before body from bound i handle rest h less =
    let early : leb from handle.offset ≡ false = lt-leb from handle.offset less in
    rw (h, early) refl

pub begins_later : (body : List ℕ) (from : ℕ) (bound : Option InternalKey) (i : Entry) (handle : Handle) (rest : List ℕ) → handle_at BadIndex i.value ≡ Ok (handle, rest) → from ≤ handle.offset → block_behind body from bound i ≡ data_block_at body bound i
unfolding stands_behind
begins_later body from bound i handle rest h after =
    let late : leb from handle.offset ≡ true = le-leb from handle.offset after in
    rw (h, late) refl

pub end_read : (value : List ℕ) (handle : Handle) (rest : List ℕ) → handle_at BadIndex value ≡ Ok (handle, rest) → handle.offset + handle.size + 5 ≡ end_of value
unfolding end_of
end_read value handle rest h = sym (ap end_after h)
