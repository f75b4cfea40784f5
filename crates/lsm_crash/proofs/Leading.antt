-- A record behind a manifest, cut anywhere.
use Rattle.std.proofs.Common.{◌≡◌, ℕ, zero, suc, ◌+◌, ◌-◌, ◌<◌, ◌≤◌, ◌%◌, List, [], ◌∷◌, ◌++◌, length, take, sym, ◌∙◌, ap, subst, inl, inr, arith, ◌⊎◌, length-append}
use Rattle.std.proofs.lemmas.List.{take_all}
use Rattle.lsm_manifest.specs.Edit.{IsEdit}
use Rattle.lsm_manifest.specs.Manifest.{IsManifest}
use Rattle.lsm_manifest.specs.Shape.{IsShape}
use Rattle.lsm_manifest.specs.WholeEdit.{whole_edit}
use Rattle.lsm_manifest.specs.LogWriting.{record_text}
use Rattle.lsm_manifest.proofs.CallerLemmas.{grown, none_spelled, torn, whole_replays}
use Rattle.lsm_crash.specs.Versions.{ComesTo, LeadsTo, Version}
use Rattle.lsm_crash.proofs.Standing.{take_past}

less_or : (a b : ℕ) → (a < b) ⊎ (b ≤ a)
less_or a zero = inr (omega arith)
less_or zero (suc b) = inl (omega arith)
less_or (suc a) (suc b) = elim (less_or a b) [ inl h ↦ inl (omega arith) | inr h ↦ inr (omega arith) ]

-- whole, it comes to the new version
pub leads_whole : (bytes text : List ℕ) (old new : Version) → LeadsTo bytes text old new → ComesTo (bytes ++ text) new
leads_whole bytes text old new l = record {
  edits = l.edits ++ l.edit ∷ [];
  rest = 0;
  manifest = subst (λ x. IsManifest (bytes ++ x) (l.edits ++ l.edit ∷ []) 0) (sym l.text_is) (grown bytes l.own l.edits l.edit l.manifest l.spelled);
  replayed = l.becomes;
}

-- cut before its end, to the old one
leads_torn : (bytes text : List ℕ) (old new : Version) → LeadsTo bytes text old new → (m : ℕ) → m < length text → ComesTo (bytes ++ take m text) old
leads_torn bytes text old new l m short =
    let small : m < length (record_text (length bytes % 32768) l.own) = subst (λ x. m < length x) l.text_is short in
    record {
      edits = l.edits;
      rest = m;
      manifest = subst (λ x. IsManifest (bytes ++ take m x) l.edits m) (sym l.text_is) (torn bytes l.own l.edits m l.manifest small);
      replayed = l.replayed;
    }

pub leads_cut : (bytes text : List ℕ) (old new : Version) → LeadsTo bytes text old new → (k : ℕ) → length bytes ≤ k → ComesTo (take k (bytes ++ text)) old ⊎ ComesTo (take k (bytes ++ text)) new
leads_cut bytes text old new l k le = elim (less_or (k - length bytes) (length text)) [
  | inl short ↦ inl (subst (λ x. ComesTo x old)
      (sym (ap (λ n. take n (bytes ++ text)) (let e : k ≡ length bytes + (k - length bytes) = omega arith in e) ∙ take_past bytes text (k - length bytes)))
      (leads_torn bytes text old new l (k - length bytes) short))
  | inr long ↦ inr (subst (λ x. ComesTo x new) (sym (take_all k (bytes ++ text) (omega (arith, length-append bytes text)))) (leads_whole bytes text old new l))
]

-- ---- a manifest's first record

pub whole_comes : (v : Version) (own : List ℕ) → IsShape v → IsEdit own (whole_edit v) → ComesTo (record_text 0 own) v
whole_comes v own shape spelled = record { edits = whole_edit v ∷ []; rest = 0; manifest = grown [] own [] (whole_edit v) none_spelled spelled; replayed = whole_replays v shape }
