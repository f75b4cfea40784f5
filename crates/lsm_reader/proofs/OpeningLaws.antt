-- Opening a table by its parts.
use Rattle.std.proofs.Common.{◌≡◌, ℕ, ◌-◌, ◌<◌, ◌≤◌, Bool, true, false, leb, eqb, List, length, drop, Result, Ok, Err, refl, sym, ap, ◌∙◌, subst, inl, inr, arith}
use Rattle.std.proofs.lemmas.Bool.{le-leb, leb-true, leb-false, lt-leb}
use Rattle.std.proofs.lemmas.List.{length-drop}
use Rattle.lsm_codec.specs.Entries.{Entry}
use Rattle.lsm_block.specs.Reading.{block_at}
use Rattle.lsm_table.specs.declared.table_fault.TableFault.{TableFault}
use Rattle.lsm_table.specs.declared.table_fault.TableFault.TheVariants.{ShortFile, BadIndex}
use Rattle.lsm_table.specs.declared.read_fault.ReadFault.{ReadFault}
use Rattle.lsm_table.specs.declared.read_fault.ReadFault.TheVariants.{Shelf, Table}
use Rattle.lsm_table.specs.declared.handle.Handle.{Handle}
use Rattle.lsm_table.specs.declared.footer.Footer.{Footer}
use Rattle.lsm_table.specs.Reading.{◌>>=◌, is_memory, FailsUnless, Fails}
use Rattle.lsm_table.specs.Handle.{handle_at}
use Rattle.lsm_table.specs.StoredBlock.{contents_at}
use Rattle.lsm_table.specs.Footer.{footer_of, body_of, footer_at}
use Rattle.lsm_table.specs.TableReading.{block_or}
use Rattle.lsm_table.specs.OpenTable.{opening_at, block_named}
use Rattle.lsm_table.proofs.CallerLemmas.{either_bool}
use Rattle.lsm_reader.specs.Blocks.{Reads, last_part, stored_block}
use Rattle.lsm_reader.proofs.BlocksLaws.{last_short, last_long}

-- ---- a fault of a step is the fault of the whole

unless_on : {A B : Type 0} (memory : Bool) (fault : TableFault) (r : Result A TableFault) (f : A → Result B TableFault) → FailsUnless memory fault r → FailsUnless memory fault (r >>= f)
unless_on true fault r f h = tt
unless_on false fault (Ok x) f h = absurd cc
unless_on false fault (Err e) f h = let same : e ≡ fault = cc in ap (λ (x : TableFault). Err x) same

pub fails_on : {A B : Type 0} (fault : TableFault) (r : Result A TableFault) (f : A → Result B TableFault) → Fails fault r → Fails fault (r >>= f)
fails_on fault r f h = unless_on (is_memory fault) fault r f h

pub reads_on : {X Z A B : Type 0} (see : X → A) (see' : Z → B) (e : ReadFault) (r : Result A TableFault) (f : A → Result B TableFault) → Reads see (Err e) r → Reads see' (Err e) (r >>= f)
reads_on see see' (Shelf fault) r f h = tt
reads_on see see' (Table fault) r f h = fails_on fault r f h

-- ---- the footer and the index block

footer_again_of : (image : List ℕ) → 48 ≤ length image → footer_at (footer_of image) ≡ footer_at image
unfolding footer_at
footer_again_of image h =
    let len : length (footer_of image) ≡ 48 = omega (arith, length-drop (length image - 48) image) in
    let same : footer_of (footer_of image) ≡ footer_of image = ap (λ (n : ℕ). drop (n - 48) (footer_of image)) len in
    let long : leb 48 (length (footer_of image)) ≡ true = le-leb 48 (length (footer_of image)) (omega arith) in
    let there : leb 48 (length image) ≡ true = le-leb 48 (length image) h in
    rw (long, there, same) refl

pub opening_short : (image : List ℕ) → length image < 48 → opening_at image ≡ Err ShortFile
unfolding opening_at footer_at
opening_short image h = let no : leb 48 (length image) ≡ false = lt-leb 48 (length image) h in rw no refl

opening_long : (image : List ℕ) → 48 ≤ length image → opening_at image ≡ (footer_at (footer_of image) >>= λ footer. stored_block image footer.index)
unfolding opening_at stored_block
opening_long image h = ap (λ (r : Result Footer TableFault). r >>= λ footer. contents_at (body_of image) footer.index >>= λ contents. block_or (block_at contents)) (sym (footer_again_of image h))

pub opening_steps : (image : List ℕ) → opening_at image ≡ (last_part image >>= λ bytes. footer_at bytes >>= λ footer. stored_block image footer.index)
opening_steps image =
    elim (either_bool (leb 48 (length image))) [
      | inl long ↦ let h = leb-true 48 (length image) long in opening_long image h ∙ sym (ap (λ (r : Result (List ℕ) TableFault). r >>= λ bytes. footer_at bytes >>= λ footer. stored_block image footer.index) (last_long image h))
      | inr small ↦ let h : length image < 48 = leb-false 48 (length image) small in opening_short image h ∙ sym (ap (λ (r : Result (List ℕ) TableFault). r >>= λ bytes. footer_at bytes >>= λ footer. stored_block image footer.index) (last_short image h))
    ]

pub opening_then : (image bytes : List ℕ) (footer : Footer) → last_part image ≡ Ok bytes → footer_at bytes ≡ Ok footer → opening_at image ≡ stored_block image footer.index
opening_then image bytes footer l f =
    opening_steps image ∙ ap (λ (r : Result (List ℕ) TableFault). r >>= λ bs. footer_at bs >>= λ x. stored_block image x.index) l ∙ ap (λ (r : Result Footer TableFault). r >>= λ x. stored_block image x.index) f

pub opening_first : {X Z : Type 0} (see : X → List ℕ) (see' : Z → List Entry) (e : ReadFault) (image : List ℕ) → Reads see (Err e) (last_part image) → Reads see' (Err e) (opening_at image)
opening_first see see' e image h =
    subst (λ (r : Result (List Entry) TableFault). Reads see' (Err e) r) (sym (opening_steps image)) (reads_on see see' e (last_part image) (λ bytes. footer_at bytes >>= λ footer. stored_block image footer.index) h)

pub opening_footer : (fault : TableFault) (image bytes : List ℕ) → last_part image ≡ Ok bytes → Fails fault (footer_at bytes) → Fails fault (opening_at image)
opening_footer fault image bytes l f =
    let read = opening_steps image ∙ ap (λ (r : Result (List ℕ) TableFault). r >>= λ bs. footer_at bs >>= λ x. stored_block image x.index) l in
    subst (λ (r : Result (List Entry) TableFault). Fails fault r) (sym read) (fails_on fault (footer_at bytes) (λ x. stored_block image x.index) f)

-- ---- the block that an index entry names

empty_len : (xs : List ℕ) (b : Bool) → b ≡ eqb (length xs) 0 → eqb (length xs) 0 ≡ b
empty_len xs b e = sym e

pub named_fault : (fault : TableFault) (image place : List ℕ) → Fails fault (handle_at BadIndex place) → Fails fault (block_named (body_of image) place)
unfolding block_named
named_fault fault image place f = fails_on fault (handle_at BadIndex place) _ f

pub named_longer : (image place rest : List ℕ) (handle : Handle) → handle_at BadIndex place ≡ Ok (handle, rest) → eqb (length rest) 0 ≡ false → block_named (body_of image) place ≡ Err BadIndex
unfolding block_named
named_longer image place rest handle h more = rw (h, more) refl

pub named_stored : (image place rest : List ℕ) (handle : Handle) → handle_at BadIndex place ≡ Ok (handle, rest) → eqb (length rest) 0 ≡ true → block_named (body_of image) place ≡ stored_block image handle
unfolding block_named stored_block
named_stored image place rest handle h all = rw (h, all) refl
