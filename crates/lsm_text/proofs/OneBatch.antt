-- Lines spell one batch at most.
use Rattle.std.proofs.Common.{◌≡◌, ℕ, List, [], ◌∷◌, codes, get_or, Option, Some, None, refl, sym, ap, ◌∙◌, subst, arith}
use Rattle.lsm_batch.specs.declared.write.Write.{Write}
use Rattle.lsm_text.specs.EntryList.{lines_of}
use Rattle.lsm_text.specs.EntryReading.{parts_at}
use Rattle.lsm_text.specs.Spelling.{IsWord}
use Rattle.lsm_text.specs.declared.form.Form.{Form}
use Rattle.lsm_text.proofs.SpellingLaws.{word_one}
use Rattle.lsm_text.specs.BatchText.{AreWriteLines, IsBatchText, IsValuePart, IsWriteLine, Spell}
use Rattle.lsm_text.proofs.WriteLineLaws.{delete_only, put_only, unparted}

-- ---- one part

-- `!` (33) is no `=` (61)
no_value : (word : List ℕ) → codes "!" ≡ 61 ∷ word → ⊥
no_value word h = let first : 33 ≡ 61 = ap (λ (cs : List ℕ). get_or cs 0 0) h in omega (arith, first)

one_value : (form : Form) (part : List ℕ) (a b : Option (List ℕ)) → IsValuePart form part a → IsValuePart form part b → a ≡ b
one_value form part None None h k = refl
one_value form part None (Some y) h k = absurd (no_value k.0 (sym h ∙ k.1))
one_value form part (Some x) None h k = absurd (no_value h.0 (sym k ∙ h.1))
one_value form part (Some x) (Some y) h k =
    let both : 61 ∷ h.0 ≡ 61 ∷ k.0 = sym h.1 ∙ k.1 in
    let word : h.0 ≡ k.0 = cc in
    ap Some (word_one form k.0 x y (subst (λ (w : List ℕ). IsWord form w x) word h.2) k.2)

one_spelled : (form : Form) (key_word part : List ℕ) (v w : Write) → Spell form key_word part v → Spell form key_word part w → v ≡ w
one_spelled form key_word part v w h k =
    let keys = word_one form key_word v.key w.key h.0 k.0 in
    let values = one_value form part v.value w.value h.1 k.1 in
    λ i. record { key = keys i; value = values i }

-- ---- one line

-- by where it is parted
one_parted : (form : Form) (line : List ℕ) (v w : Write) (equals exclamation : Option (List ℕ × List ℕ)) → parts_at 61 line ≡ equals → parts_at 33 line ≡ exclamation
    → IsWriteLine form line v → IsWriteLine form line w → v ≡ w
one_parted form line v w (Some p) marked at to h k =
    one_spelled form p.0 (61 ∷ p.1) v w (put_only form line p.0 p.1 v at h) (put_only form line p.0 p.1 w at k)
one_parted form line v w None (Some p) at to h k =
    one_spelled form p.0 (codes "!") v w (delete_only form line p.0 p.1 v at to h).1 (delete_only form line p.0 p.1 w at to k).1
one_parted form line v w None None at to h k = absurd (unparted form line v at to h)

one_write : (form : Form) (line : List ℕ) (v w : Write) → IsWriteLine form line v → IsWriteLine form line w → v ≡ w
one_write form line v w h k = one_parted form line v w (parts_at 61 line) (parts_at 33 line) refl refl h k

-- ---- line by line

pub lines_one : (form : Form) (ls : List (List ℕ)) (a b : List Write) → AreWriteLines form ls a → AreWriteLines form ls b → a ≡ b
lines_one form [] [] [] h k = refl
lines_one form [] [] (y ∷ b) h k = absurd k
lines_one form [] (x ∷ a) b h k = absurd h
lines_one form (l ∷ ls) [] b h k = absurd h
lines_one form (l ∷ ls) (x ∷ a) [] h k = absurd k
lines_one form (l ∷ ls) (x ∷ a) (y ∷ b) h k =
    ap (λ (w : Write). w ∷ a) (one_write form l x y h.0 k.0) ∙ ap (λ (ws : List Write). y ∷ ws) (lines_one form ls a b h.1 k.1)

pub one_batch : (form : Form) (text : List ℕ) (a b : List Write) → IsBatchText form text a → IsBatchText form text b → a ≡ b
one_batch form text a b h k = lines_one form (lines_of text) a b h k
