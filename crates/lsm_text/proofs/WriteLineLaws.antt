-- A line is parted as it is spelled.
use Rattle.std.proofs.Common.{◌≡◌, ℕ, ◌<◌, inl, inr, List, [], ◌∷◌, ◌++◌, length, codes, Option, Some, None, Result, Ok, Err, sym, ap, ◌∙◌, subst, arith}
use Rattle.std.specs.Prelude.{◌⊎◌, IfOk, IfSome, IfNone}
use Rattle.lsm_batch.specs.declared.write.Write.{Write}
use Rattle.lsm_text.specs.EntryReading.{parts_at}
use Rattle.lsm_text.specs.Spelling.{IsWord}
use Rattle.lsm_text.specs.declared.form.Form.{Form}
use Rattle.lsm_text.specs.BatchText.{IsValuePart, IsWriteLine, Spell}
use Rattle.lsm_text.proofs.PartLaws.{HasNo-append, parts_again, parts_none, parts_take}
use Rattle.lsm_text.proofs.WriteWordLaws.{equals_sign, exclamation, word-HasNo}

-- ---- the parts of a line

-- it is parted at `=`, or has none and is parted at its last byte, `!`
abbrev pub IsParted : List ℕ → List ℕ → List ℕ → Type 0
IsParted line key_word part =
    ((word : List ℕ) × (part ≡ 61 ∷ word) × (parts_at 61 line ≡ Some (key_word, word)))
    ⊎ ((part ≡ codes "!") × (parts_at 61 line ≡ None) × (parts_at 33 line ≡ Some (key_word, [])))

parted_at : (form : Form) (line key_word part key : List ℕ) (value : Option (List ℕ)) → line ≡ key_word ++ part → IsWord form key_word key
    → IsValuePart form part value → IsParted line key_word part
parted_at form line key_word part key None is spells h =
    let whole : line ≡ key_word ++ (33 ∷ []) = is ∙ ap (λ (p : List ℕ). key_word ++ p) h in
    let no_key = word-HasNo form 61 key_word key equals_sign spells in
    let none = parts_none 61 (key_word ++ (33 ∷ [])) (HasNo-append 61 key_word (33 ∷ []) no_key ((λ e. absurd (omega (arith, e))), tt)) in
    inr (h, ap (parts_at 61) whole ∙ none, ap (parts_at 33) whole ∙ parts_again 33 key_word [] (word-HasNo form 33 key_word key exclamation spells))
parted_at form line key_word part key (Some value) is spells h =
    let whole : line ≡ key_word ++ (61 ∷ h.0) = is ∙ ap (λ (p : List ℕ). key_word ++ p) h.1 in
    inl (h.0, h.1, ap (parts_at 61) whole ∙ parts_again 61 key_word h.0 (word-HasNo form 61 key_word key equals_sign spells))

parted : (form : Form) (line : List ℕ) (w : Write) (l : IsWriteLine form line w) → IsParted line l.key_word l.part
parted form line w l = parted_at form line l.key_word l.part w.key w.value l.line_is l.spelled.0 l.spelled.1

same_pair : (p q : List ℕ × List ℕ) → Some p ≡ Some q → p ≡ q
same_pair p q h = cc

no_pair : (p : List ℕ × List ℕ) → None ≡ Some p → ⊥
no_pair p h = cc

-- ---- `KEY=VALUE`

pub put_is : (form : Form) (line key value : List ℕ) (w : Write) → parts_at 61 line ≡ Some (key, value) → Spell form key (61 ∷ value) w → IsWriteLine form line w
put_is form line key value w at h = record { key_word = key; part = 61 ∷ value; line_is = (parts_take 61 line (key, value) at).0; spelled = h }

pub put_only : (form : Form) (line key value : List ℕ) (w : Write) → parts_at 61 line ≡ Some (key, value) → IsWriteLine form line w → Spell form key (61 ∷ value) w
put_only form line key value w at l = elim (parted form line w l) [
  | inl p ↦
      let same = same_pair (l.key_word, p.0) (key, value) (sym p.2 ∙ at) in
      let k : l.key_word ≡ key = ap (λ (q : List ℕ × List ℕ). q.0) same in
      let v : p.0 ≡ value = ap (λ (q : List ℕ × List ℕ). q.1) same in
      let part : l.part ≡ 61 ∷ value = p.1 ∙ ap (λ (x : List ℕ). 61 ∷ x) v in
      subst (λ (x : List ℕ). Spell form key x w) part (subst (λ (x : List ℕ). Spell form x l.part w) k l.spelled)
  | inr p ↦ absurd (no_pair (key, value) (sym p.1 ∙ at))
]

-- ---- `KEY!`

pub delete_is : (form : Form) (line key rest : List ℕ) (w : Write) → parts_at 33 line ≡ Some (key, rest) → length rest ≡ 0 → Spell form key (codes "!") w → IsWriteLine form line w
delete_is form line key [] w at end h = record { key_word = key; part = codes "!"; line_is = (parts_take 33 line (key, []) at).0; spelled = h }
delete_is form line key (c ∷ cs) w at end h = absurd (omega (arith, end))

pub delete_only : (form : Form) (line key rest : List ℕ) (w : Write) → parts_at 61 line ≡ None → parts_at 33 line ≡ Some (key, rest) → IsWriteLine form line w
    → (rest ≡ []) × Spell form key (codes "!") w
delete_only form line key rest w none at l = elim (parted form line w l) [
  | inl p ↦ absurd (no_pair (l.key_word, p.0) (sym none ∙ p.2))
  | inr p ↦
      let same = same_pair (l.key_word, []) (key, rest) (sym p.2 ∙ at) in
      let k : l.key_word ≡ key = ap (λ (q : List ℕ × List ℕ). q.0) same in
      let r : [] ≡ rest = ap (λ (q : List ℕ × List ℕ). q.1) same in
      (sym r, subst (λ (x : List ℕ). Spell form key x w) p.0 (subst (λ (x : List ℕ). Spell form x l.part w) k l.spelled))
]

pub delete_goes_on : (form : Form) (line key rest : List ℕ) (w : Write) → parts_at 61 line ≡ None → parts_at 33 line ≡ Some (key, rest) → 0 < length rest
    → IsWriteLine form line w → ⊥
delete_goes_on form line key rest w none at more l = omega (arith, more, ap length (delete_only form line key rest w none at l).0)

pub unparted : (form : Form) (line : List ℕ) (w : Write) → parts_at 61 line ≡ None → parts_at 33 line ≡ None → IsWriteLine form line w → ⊥
unparted form line w none nor l = elim (parted form line w l) [
  | inl p ↦ no_pair (l.key_word, p.0) (sym none ∙ p.2)
  | inr p ↦ no_pair (l.key_word, []) (sym nor ∙ p.2)
]

-- ---- results

pub some_so : {E : Type 0} (r : Result (Option Write) E) (P Q : Write → Type 0) → ((w : Write) → P w → Q w) → IfOk r (λ o. IfSome o P) → IfOk r (λ o. IfSome o Q)
some_so (Ok None) P Q so h = tt
some_so (Ok (Some w)) P Q so h = so w h
some_so (Err e) P Q so h = tt

pub none_so : {E : Type 0} (r : Result (Option Write) E) (P Q : Write → Type 0) → ((w : Write) → Q w → P w)
    → IfOk r (λ o. IfNone o ((w : Write) → P w → ⊥)) → IfOk r (λ o. IfNone o ((w : Write) → Q w → ⊥))
none_so (Ok None) P Q so h = λ w q. h w (so w q)
none_so (Ok (Some w)) P Q so h = tt
none_so (Err e) P Q so h = tt
