-- Reading parts of an image.
use Rattle.std.proofs.Common.{◌≡◌, ℕ, zero, suc, ◌+◌, ◌-◌, ◌<◌, ◌≤◌, Bool, true, false, leb, List, [], ◌∷◌, length, take, drop, Result, Ok, Err, refl, sym, ap, ◌∙◌, subst, arith}
use Rattle.std.specs.Str.{bytes_eq}
use Rattle.std.proofs.lemmas.Bool.{le-leb, leb-true}
use Rattle.std.proofs.lemmas.List.{drop-take, take_all, length-drop, length-take-le}
use Rattle.lsm_codec.specs.Entries.{Entry}
use Rattle.lsm_block.specs.Reading.{block_at}
use Rattle.lsm_table.specs.declared.table_fault.TableFault.{TableFault}
use Rattle.lsm_table.specs.declared.table_fault.TableFault.TheVariants.{ShortFile, BadHandle, BadChecksum}
use Rattle.lsm_table.specs.declared.handle.Handle.{Handle}
use Rattle.lsm_table.specs.Reading.{◌>>=◌, guarded, Fails}
use Rattle.lsm_table.specs.StoredBlock.{seal, unsealed, contents_at}
use Rattle.lsm_table.specs.Footer.{footer_of, body_of}
use Rattle.lsm_table.specs.TableReading.{block_or}
use Rattle.lsm_table.proofs.CallerLemmas.{guard_ok, ok_is, done}
use Rattle.lsm_reader.specs.Blocks.{last_part, block_of, stored_block}

guard_when : {A : Type 0} (b t : Bool) (fault : TableFault) (r : Result A TableFault) → b ≡ t → guarded b fault r ≡ guarded t fault r
guard_when b t fault r e = ap (λ (x : Bool). guarded x fault r) e

leb_not : (m n : ℕ) → n < m → (b : Bool) → leb m n ≡ b → b ≡ false
leb_not m n h false e = refl
leb_not m n h true e = absurd (omega (arith, leb-true m n e, h))

-- ---- the footer

pub last_short : (image : List ℕ) → length image < 48 → last_part image ≡ Err ShortFile
unfolding last_part
last_short image h = guard_when (leb 48 (length image)) false ShortFile (Ok (footer_of image)) (leb_not 48 (length image) h (leb 48 (length image)) refl)

pub last_long : (image : List ℕ) → 48 ≤ length image → last_part image ≡ Ok (footer_of image)
unfolding last_part
last_long image h = guard_when (leb 48 (length image)) true ShortFile (Ok (footer_of image)) (le-leb 48 (length image) h)

pub read_last : (image bytes : List ℕ) (size : ℕ) → size ≡ length image → bytes ≡ take 48 (drop (size - 48) image) → bytes ≡ footer_of image
read_last image bytes size s b =
    b ∙ ap (λ (n : ℕ). take 48 (drop (n - 48) image)) s ∙ take_all 48 (drop (length image - 48) image) (omega (arith, length-drop (length image - 48) image))

pub last_long_enough : (image bytes : List ℕ) (size : ℕ) → 48 ≤ size → size ≡ length image → bytes ≡ take 48 (drop (size - 48) image) → length bytes ≡ 48
last_long_enough image bytes size h s b =
    ap length b ∙ length-take-le 48 (drop (size - 48) image) (omega (arith, length-drop (size - 48) image, s, h))

-- ---- a block

pub outside : (image : List ℕ) (handle : Handle) → leb (handle.offset + handle.size + 5) (length (body_of image)) ≡ false → stored_block image handle ≡ Err BadHandle
unfolding stored_block contents_at
outside image handle h =
    let text = take (handle.size + 5) (drop handle.offset (body_of image)) in
    ap (λ (b : Bool). guarded b BadHandle (unsealed handle.offset handle.size text) >>= λ contents. block_or (block_at contents)) h

pub length-body : (image : List ℕ) → length (body_of image) ≡ length image - 48
length-body image = length-take-le (length image - 48) image (omega arith)

take_none : (n : ℕ) → take {A = ℕ} n [] ≡ []
take_none zero = refl
take_none (suc n) = refl

take_twice_on : (k r : ℕ) (x : ℕ) (xs : List ℕ) → take k (take (k + r) xs) ≡ take k xs → take (suc k) (take (suc k + r) (x ∷ xs)) ≡ take (suc k) (x ∷ xs)
take_twice_on k r x xs h =
    let e : suc k + r ≡ suc (k + r) = omega arith in
    rw e (ap (λ (ys : List ℕ). x ∷ ys) h)

take_twice : (k r : ℕ) (xs : List ℕ) → take k (take (k + r) xs) ≡ take k xs
take_twice zero r xs = refl
take_twice (suc k) r [] = ap (take (suc k)) (take_none (suc k + r))
take_twice (suc k) r (x ∷ xs) = take_twice_on k r x xs (take_twice k r xs)

pub take_less : (k m : ℕ) (xs : List ℕ) → k ≤ m → take k (take m xs) ≡ take k xs
take_less k m xs h =
    let e : m ≡ k + (m - k) = omega (arith, h) in
    ap (λ (j : ℕ). take k (take j xs)) e ∙ take_twice k (m - k) xs

-- a part of the body is that part of the image
part_of_body : (image : List ℕ) (offset size : ℕ) → offset + size + 5 ≤ length (body_of image) → take (size + 5) (drop offset (body_of image)) ≡ take (size + 5) (drop offset image)
part_of_body image offset size h =
    let n = length image - 48 in
    let more = n - offset in
    let same : n ≡ offset + more = omega (arith, length-body image, h) in
    ap (λ (k : ℕ). take (size + 5) (drop offset (take k image))) same ∙ ap (take (size + 5)) (drop-take offset more image)
    ∙ take_less (size + 5) more (drop offset image) (omega (arith, length-body image, h))

pub inside : (image text : List ℕ) (handle : Handle) → leb (handle.offset + handle.size + 5) (length (body_of image)) ≡ true → text ≡ take (handle.size + 5) (drop handle.offset image) → stored_block image handle ≡ block_of handle text
unfolding stored_block contents_at block_of
inside image text handle h t =
    let there = take (handle.size + 5) (drop handle.offset (body_of image)) in
    let same : there ≡ text = part_of_body image handle.offset handle.size (leb-true (handle.offset + handle.size + 5) (length (body_of image)) h) ∙ sym t in
    ap (λ (b : Bool). guarded b BadHandle (unsealed handle.offset handle.size there) >>= λ contents. block_or (block_at contents)) h
    ∙ ap (λ (xs : List ℕ). unsealed handle.offset handle.size xs >>= λ contents. block_or (block_at contents)) same

pub inside_long : (image text : List ℕ) (handle : Handle) → leb (handle.offset + handle.size + 5) (length (body_of image)) ≡ true → text ≡ take (handle.size + 5) (drop handle.offset image) → length text ≡ handle.size + 5
inside_long image text handle h t =
    ap length t ∙ length-take-le (handle.size + 5) (drop handle.offset image) (omega (arith, length-drop handle.offset image, length-body image, leb-true (handle.offset + handle.size + 5) (length (body_of image)) h))

-- the test that the code makes
pub tested : (image : List ℕ) (handle : Handle) (size : ℕ) (b : Bool) → size ≡ length image → b ≡ leb (handle.offset + handle.size + 5) (size - 48) → leb (handle.offset + handle.size + 5) (length (body_of image)) ≡ b
tested image handle size b s e = ap (λ (n : ℕ). leb (handle.offset + handle.size + 5) n) (length-body image ∙ ap (λ (n : ℕ). n - 48) (sym s)) ∙ sym e

-- what is unsealed is the front of the text
pub unsealed_is : (offset size : ℕ) (text contents : List ℕ) → unsealed offset size text ≡ Ok contents → unsealed offset size text ≡ Ok (take size text)
unfolding unsealed
unsealed_is offset size text contents e =
    let g1 = guard_ok (bytes_eq (drop (size + 1) text) (seal (take (size + 1) text))) (BadChecksum offset) _ contents e in
    let g2 = guard_ok _ _ (Ok (take size text)) contents g1.1 in
    e ∙ ap (λ (xs : List ℕ). Ok xs) (sym (ok_is (take size text) contents g2.1))

-- what was read for a place is the block there
there_read : (image text : List ℕ) (handle : Handle) (size : ℕ) → size ≡ length image → true ≡ leb (handle.offset + handle.size + 5) (size - 48) → text ≡ take (handle.size + 5) (drop handle.offset image)
    → (stored_block image handle ≡ block_of handle text) × (length text ≡ handle.size + 5)
there_read image text handle size s e t =
    let in_body = tested image handle size true s e in
    (inside image text handle in_body t, inside_long image text handle in_body t)

pub there_is : (image text : List ℕ) (handle : Handle) (size : ℕ) (x : List Entry) → size ≡ length image → true ≡ leb (handle.offset + handle.size + 5) (size - 48) → text ≡ take (handle.size + 5) (drop handle.offset image)
    → (length text ≡ handle.size + 5 → block_of handle text ≡ Ok x) → stored_block image handle ≡ Ok x
there_is image text handle size x s e t f = let r = there_read image text handle size s e t in r.0 ∙ f r.1

pub there_fails : (image text : List ℕ) (handle : Handle) (size : ℕ) (fault : TableFault) → size ≡ length image → true ≡ leb (handle.offset + handle.size + 5) (size - 48) → text ≡ take (handle.size + 5) (drop handle.offset image)
    → (length text ≡ handle.size + 5 → Fails fault (block_of handle text)) → Fails fault (stored_block image handle)
there_fails image text handle size fault s e t f =
    let r = there_read image text handle size s e t in
    subst (λ (read : Result (List Entry) TableFault). Fails fault read) (sym r.0) (f r.1)

pub footer_is : (image bytes footer : List ℕ) (size : ℕ) → 48 ≤ size → size ≡ length image → bytes ≡ take 48 (drop (size - 48) image) → (length bytes ≡ 48 → done footer ≡ done bytes) → last_part image ≡ Ok footer
footer_is image bytes footer size h s b f =
    last_long image (omega (arith, h, s)) ∙ ap (λ (xs : List ℕ). Ok xs) (sym (ok_is footer bytes (f (last_long_enough image bytes size h s b)) ∙ read_last image bytes size s b))
