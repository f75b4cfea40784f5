-- What the bytes of a manifest spell: one list of edits, one edit more, the first of them.
use Rattle.std.proofs.Common.{◌≡◌, ℕ, zero, suc, ◌+◌, ◌%◌, ◌<◌, List, [], ◌∷◌, ◌++◌, length, take, refl, subst}
use Rattle.lsm_manifest.specs.declared.edit.Edit.{Edit}
use Rattle.lsm_manifest.specs.LogWriting.{record_text, Written}
use Rattle.lsm_manifest.specs.Edit.{IsEdit}
use Rattle.lsm_manifest.specs.Manifest.{AreEdits, IsManifest, SpellsFirst}
use Rattle.lsm_manifest.proofs.RecordLaws.{one_log}
use Rattle.lsm_manifest.proofs.EditLaws.{one_edit}
use Rattle.lsm_manifest.proofs.PrefixLaws.{spells_prefix}
use Rattle.lsm_manifest.proofs.WriterLaws.{goes_on}
use Rattle.lsm_manifest.proofs.TornLaws as log

same_edits : (records : List (List ℕ)) (es fs : List Edit) → AreEdits records es → AreEdits records fs → es ≡ fs
same_edits [] [] [] a b = refl
same_edits [] [] (f ∷ fs) a b = absurd b
same_edits [] (e ∷ es) fs a b = absurd a
same_edits (r ∷ rs) [] fs a b = absurd a
same_edits (r ∷ rs) (e ∷ es) [] a b = absurd b
same_edits (r ∷ rs) (e ∷ es) (f ∷ fs) a b =
    let first : e ≡ f = one_edit r e f a.0 b.0 in
    let later : es ≡ fs = same_edits rs es fs a.1 b.1 in
    cc

pub one_manifest : (bytes : List ℕ) (es fs : List Edit) (m n : ℕ) → IsManifest bytes es m → IsManifest bytes fs n → (es ≡ fs) × (m ≡ n)
one_manifest bytes es fs m n a b =
    let same = one_log bytes a.records b.records m n a.log b.log in
    let spelled : AreEdits b.records es = subst (λ (rs : List (List ℕ)). AreEdits rs es) same.0 a.spelled in
    (same_edits b.records es fs spelled b.spelled, same.1)

-- ---- one edit more

pub edits_push : (rs : List (List ℕ)) (es : List Edit) (r : List ℕ) (e : Edit) → AreEdits rs es → IsEdit r e → AreEdits (rs ++ r ∷ []) (es ++ e ∷ [])
edits_push [] [] r e a i = (i, tt)
edits_push [] (f ∷ es) r e a i = absurd a
edits_push (q ∷ rs) [] r e a i = absurd a
edits_push (q ∷ rs) (f ∷ es) r e a i = (a.0, edits_push rs es r e a.1 i)

pub none_spelled : IsManifest [] [] 0
none_spelled = record { records = []; log = log.done [] [] 0 record { spelled = refl; place_is = refl }; spelled = tt }

-- where a manifest's next record begins
abbrev place_after : List ℕ → ℕ
place_after bytes = length bytes % 32768

pub grown : (bytes own : List ℕ) (es : List Edit) (e : Edit) → IsManifest bytes es 0 → IsEdit own e → IsManifest (bytes ++ record_text (length bytes % 32768) own) (es ++ e ∷ []) 0
grown bytes own es e m is =
    let text = record_text (place_after bytes) own in
    let after = (place_after bytes + length text) % 32768 in
    let w : Written (bytes ++ text) (m.records ++ own ∷ []) after = goes_on bytes m.records (place_after bytes) after own (log.again bytes m.records m.log) refl in
    record { records = m.records ++ own ∷ []; log = log.done (bytes ++ text) (m.records ++ own ∷ []) after w; spelled = edits_push m.records es own e m.spelled is }

pub torn : (bytes own : List ℕ) (es : List Edit) (n : ℕ) → IsManifest bytes es 0 → n < length (record_text (length bytes % 32768) own) → IsManifest (bytes ++ take n (record_text (length bytes % 32768) own)) es n
torn bytes own es n m lt = record { records = m.records; log = log.torn bytes m.records (place_after bytes) own (log.again bytes m.records m.log) n lt; spelled = m.spelled }

-- ---- the first edits

edits_take : (n : ℕ) (rs : List (List ℕ)) (es : List Edit) → AreEdits rs es → AreEdits (take n rs) (take n es)
edits_take zero rs es a = tt
edits_take (suc n) [] [] a = tt
edits_take (suc n) [] (e ∷ es) a = absurd a
edits_take (suc n) (r ∷ rs) [] a = absurd a
edits_take (suc n) (r ∷ rs) (e ∷ es) a = (a.0, edits_take n rs es a.1)

pub first_edits : (bytes : List ℕ) (es : List Edit) → IsManifest bytes es 0 → (n : ℕ) → SpellsFirst (take n bytes) es
first_edits bytes es m n =
    let p = spells_prefix bytes m.records (log.again bytes m.records m.log).spelled n in
    record { whole = p.whole; rest = p.rest; is = record { records = take p.whole m.records; log = p.is; spelled = edits_take p.whole m.records es m.spelled } }
