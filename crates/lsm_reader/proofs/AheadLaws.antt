-- Bytes that were read ahead.
use Rattle.std.proofs.Common.{◌≡◌, ℕ, zero, suc, ◌+◌, ◌-◌, ◌≤◌, List, [], ◌∷◌, length, take, drop}
use Rattle.std.proofs.Common.{refl, sym, ap, ◌∙◌, arith}
use Rattle.std.proofs.lemmas.List.{drop-take, drop-drop}
use Rattle.lsm_reader.specs.Parts.{IsPartOf}
use Rattle.lsm_reader.proofs.BlocksLaws.{take_less}

take_again : (n : ℕ) (xs : List ℕ) → take n xs ≡ take (length (take n xs)) xs
take_again zero xs = refl
take_again (suc n) [] = refl
take_again (suc n) (x ∷ xs) = ap (λ (ys : List ℕ). x ∷ ys) (take_again n xs)

-- what was read of an image stands there
pub part_read : (image bytes : List ℕ) (offset n : ℕ) → bytes ≡ take n (drop offset image)
    → IsPartOf (record { image = image; offset = offset; bytes = bytes })
part_read image bytes offset n b =
    b ∙ take_again n (drop offset image)
    ∙ ap (λ (ys : List ℕ). take (length ys) (drop offset image)) (sym b)

-- a part of it stands where it is looked for
pub part_there : (image bytes : List ℕ) (from offset len : ℕ)
    → IsPartOf (record { image = image; offset = from; bytes = bytes })
    → from ≤ offset → offset - from + len ≤ length bytes
    → take len (drop (offset - from) bytes) ≡ take len (drop offset image)
part_there image bytes from offset len b h l =
    let k = offset - from in
    let r = length bytes - k in
    let xs = drop from image in
    let same : length bytes ≡ k + r = omega (arith, l) in
    let place : from + k ≡ offset = omega (arith, h) in
    ap (λ (ys : List ℕ). take len (drop k ys)) b
    ∙ ap (λ (n : ℕ). take len (drop k (take n xs))) same
    ∙ ap (take len) (drop-take k r xs)
    ∙ take_less len r (drop k xs) (omega (arith, l))
    ∙ ap (take len) (drop-drop k from image)
    ∙ ap (λ (n : ℕ). take len (drop n image)) place
