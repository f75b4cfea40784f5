-- The blocks of a checked table, as they are lent.
use Rattle.std.proofs.Common.{◌≡◌, ℕ, ◌-◌, ◌^◌, List, [], ◌∷◌, take, drop, Result, Ok, refl, sym, ap, ◌∙◌, subst, arith}
use Rattle.lsm_codec.specs.declared.fault.CodecFault.{CodecFault}
use Rattle.lsm_codec.specs.Varint.{varint64_at}
use Rattle.lsm_codec.proofs.CallerLemmas.{done_is, varint_again}
use Rattle.std.proofs.lemmas.List.{append-nil}
use Rattle.lsm_codec.specs.Entries.{Entry}
use Rattle.lsm_block.specs.Block.{IsBlock}
use Rattle.lsm_block.specs.Building.{block_bytes, entries_text, later_restarts}
use Rattle.lsm_block.specs.Held.{held}
use Rattle.lsm_block.proofs.CallerLemmas.{block_built}
use Rattle.lsm_table.specs.declared.handle.Handle.{Handle}
use Rattle.lsm_table.specs.Handle.{IsHandle}
use Rattle.lsm_table.specs.Table.{DataBlock}
use Rattle.lsm_table.specs.HeldTable.{BlockAt, SpellsJust}
use Rattle.lsm_table.proofs.MakingLaws.{length-none}
use Rattle.lsm_table.proofs.HeldTableLaws.{slice_of, block_held}

-- the offset is read first, and then the size
pub offset_read : (bytes : List ℕ) (handle : Handle) (h : IsHandle bytes handle) → varint64_at bytes ≡ Ok (handle.offset, h.size_text)
offset_read bytes handle h = ap varint64_at h.bytes_are ∙ varint_again 10 (2 ^ 64 - 1) h.offset_text h.size_text handle.offset h.offset_is

pub size_read : (bytes : List ℕ) (handle : Handle) (h : IsHandle bytes handle) → varint64_at h.size_text ≡ Ok (handle.size, [])
size_read bytes handle h = ap varint64_at (sym (append-nil h.size_text)) ∙ varint_again 10 (2 ^ 64 - 1) h.size_text [] handle.size h.size_is

pub held_there : (body : List ℕ) (handle : Handle) (es : List Entry) → BlockAt body handle es → held (take handle.size (drop handle.offset body)) ≡ es
held_there body handle es b = ap held (slice_of body handle b.contents b.held).is ∙ block_held b.contents es b.block

pub is_there : (body : List ℕ) (handle : Handle) (es : List Entry) → BlockAt body handle es → IsBlock (take handle.size (drop handle.offset body)) (held (take handle.size (drop handle.offset body)))
is_there body handle es b =
    let same = (slice_of body handle b.contents b.held).is in
    subst (λ (xs : List Entry). IsBlock (take handle.size (drop handle.offset body)) xs) (sym (held_there body handle es b))
    (subst (λ (bytes : List ℕ). IsBlock bytes es) (sym same) b.block)

pub at_place : (body place : List ℕ) (handle : Handle) (es : List Entry) → SpellsJust place handle → DataBlock body place es → BlockAt body handle es
at_place body place handle es s d =
    let same = s d.handle d.handle_is in
    subst (λ (h : Handle). BlockAt body h es) (sym same) (record { contents = d.contents; held = d.held; block = d.block })

abbrev eight : List ℕ
eight = 0 ∷ 0 ∷ 0 ∷ 0 ∷ 1 ∷ 0 ∷ 0 ∷ 0 ∷ []

eight-is : block_bytes 1 [] ≡ eight
unfolding block_bytes entries_text later_restarts
eight-is = refl

pub none_is : IsBlock eight []
none_is = subst (λ (bytes : List ℕ). IsBlock bytes []) eight-is (block_built 1 [] tt tt (omega (arith, length-none 1)))

pub none_held : held eight ≡ []
none_held = block_held eight [] none_is

pub none_itself : IsBlock eight (held eight)
none_itself = subst (λ (es : List Entry). IsBlock eight es) (sym none_held) none_is

abbrev pub done : ℕ → List ℕ → Result (ℕ × List ℕ) CodecFault
done n rest = Ok (n, rest)

-- the offset and the size are those that were read
pub first_is : (bytes rest : List ℕ) (n : ℕ) (handle : Handle) (h : IsHandle bytes handle) → varint64_at bytes ≡ done n rest → (n ≡ handle.offset) × (rest ≡ h.size_text)
first_is bytes rest n handle h e = done_is n handle.offset rest h.size_text (sym e ∙ offset_read bytes handle h)

pub second_is : (rest after : List ℕ) (n : ℕ) (bytes : List ℕ) (handle : Handle) (h : IsHandle bytes handle) → rest ≡ h.size_text → varint64_at rest ≡ done n after → n ≡ handle.size
second_is rest after n bytes handle h same e = (done_is n handle.size after [] (sym e ∙ ap varint64_at same ∙ size_read bytes handle h)).0

abbrev handle_of : ℕ → ℕ → Handle
handle_of offset size = record { offset = offset; size = size }

pub same_handle : (offset size : ℕ) (other : Handle) → offset ≡ other.offset → size ≡ other.size → handle_of offset size ≡ other
same_handle offset size other a b = rw (a, b) refl
