-- Reading an edit from left to right, with the first fault (this project's rule).
use Rattle.std.specs.Prelude.{ℕ, zero, suc, nat_le, ◌==◌, if◌then◌else◌, List, [], ◌∷◌, length}
use Rattle.std.specs.Prelude.{take, drop, Result, Ok, Err}
use Rattle.lsm_codec.specs.declared.fault.CodecFault.{CodecFault}
use Rattle.lsm_codec.specs.Keys.{is_internal}
use Rattle.lsm_codec.specs.Varint.{varint32_at, varint64_at}
use Rattle.lsm_manifest.specs.declared.edit_fault.EditFault.{EditFault}
use Rattle.lsm_manifest.specs.declared.edit_fault.EditFault.TheVariants.{UnknownTag, BadLevel}
use Rattle.lsm_manifest.specs.declared.edit_fault.EditFault.TheVariants.{EditCut, BadEditKey}
use Rattle.lsm_manifest.specs.declared.edit.Edit.{Edit}
use Rattle.lsm_manifest.specs.Edit.{Field, Comparator, Log, Prev, Next, Last, Pointer, Deleted}
use Rattle.lsm_manifest.specs.Edit.{Added, edit_of}

-- what is at the front, and what follows it
abbrev pub Read : Type 0 → Type 0
Read A = Result (A × List ℕ) EditFault

infixl 10 ◌>>=◌
abbrev pub ◌>>=◌ : {A B : Type 0} → Result A EditFault → (A → Result B EditFault)
    → Result B EditFault
(Ok x) >>= f = f x
(Err e) >>= f = Err e

abbrev pub or_cut : Result (ℕ × List ℕ) CodecFault → Read ℕ
or_cut (Ok x) = Ok x
or_cut (Err e) = Err EditCut

unfoldable pub short_number_at : List ℕ → Read ℕ
short_number_at text = or_cut (varint32_at text)

unfoldable pub number_at : List ℕ → Read ℕ
number_at text = or_cut (varint64_at text)

unfoldable pub level_at : List ℕ → Read ℕ
level_at text = short_number_at text >>= λ x. if nat_le x.0 6 then Ok x else Err (BadLevel x.0)

unfoldable pub bytes_at : List ℕ → Read (List ℕ)
bytes_at text = short_number_at text >>= λ x. if nat_le x.0 (length x.1)
    then Ok (take x.0 x.1, drop x.0 x.1) else Err EditCut

unfoldable pub key_at : List ℕ → Read (List ℕ)
key_at text = bytes_at text >>= λ x. if is_internal x.0 then Ok x else Err BadEditKey

abbrev pub both_at : {A B : Type 0} → (List ℕ → Read A) → (List ℕ → Read B) → List ℕ → Read (A × B)
both_at p q text = p text >>= λ x. q x.1 >>= λ y. Ok ((x.0, y.0), y.1)

abbrev pub as_field : {A : Type 0} → (A → Field) → Read A → Read Field
as_field make r = r >>= λ x. Ok (make x.0, x.1)

unfoldable pub pointer_at : List ℕ → Read (ℕ × List ℕ)
pointer_at text = both_at level_at key_at text

unfoldable pub deleted_at : List ℕ → Read (ℕ × ℕ)
deleted_at text = both_at level_at number_at text

unfoldable pub keys_at : List ℕ → Read (List ℕ × List ℕ)
keys_at text = both_at key_at key_at text

unfoldable pub size_keys_at : List ℕ → Read (ℕ × (List ℕ × List ℕ))
size_keys_at text = both_at number_at keys_at text

unfoldable pub file_at : List ℕ → Read (ℕ × (ℕ × (List ℕ × List ℕ)))
file_at text = both_at number_at size_keys_at text

unfoldable pub added_at : List ℕ → Read (ℕ × (ℕ × (ℕ × (List ℕ × List ℕ))))
added_at text = both_at level_at file_at text

-- the parts that follow a tag
unfoldable pub body_at : ℕ → List ℕ → Read Field
body_at tag text =
    if tag == 1 then as_field Comparator (bytes_at text)
    else if tag == 2 then as_field Log (number_at text)
    else if tag == 9 then as_field Prev (number_at text)
    else if tag == 3 then as_field Next (number_at text)
    else if tag == 4 then as_field Last (number_at text)
    else if tag == 5 then as_field Pointer (pointer_at text)
    else if tag == 6 then as_field Deleted (deleted_at text)
    else if tag == 7 then as_field Added (added_at text)
    else Err (UnknownTag tag)

unfoldable pub field_at : List ℕ → Read Field
field_at text = short_number_at text >>= λ x. body_at x.0 x.1

-- the fields of an edit, or the first fault
unfoldable pub fields_at : ℕ → List ℕ → Result (List Field) EditFault
fields_at zero text = Ok []
fields_at (suc count) [] = Ok []
fields_at (suc count) (b ∷ bs) =
    field_at (b ∷ bs) >>= λ x. fields_at count x.1 >>= λ fs. Ok (x.0 ∷ fs)

-- the edit that the fields come to, or the first fault
abbrev pub with_edit : Result (List Field) EditFault → Result Edit EditFault
with_edit (Ok fs) = Ok (edit_of fs)
with_edit (Err e) = Err e

abbrev pub edit_at : List ℕ → Result Edit EditFault
edit_at text = with_edit (fields_at (length text) text)
