-- A row of edits, one after the other.
use Rattle.std.proofs.Common.{◌≡◌, ℕ, ◌+◌, ◌<◌, List, [], ◌∷◌, ◌++◌, length, take, drop, get_or, Option, sym, ap, ◌∙◌, subst, append_assoc, inl, inr}
use Rattle.std.proofs.lemmas.List.{take_more, take-append-drop}
use Rattle.lsm_manifest.specs.declared.edit.Edit.{Edit}
use Rattle.lsm_manifest.specs.declared.parts.AddedFile.{AddedFile}
use Rattle.lsm_manifest.specs.declared.replay_fault.ReplayFault.{ReplayFault}
use Rattle.lsm_manifest.specs.declared.replay_fault.ReplayFault.TheVariants.{OutOfMemory, NoNextFile, NoLogNumber, NoLastSequence, OtherComparator, DoubleFile}
use Rattle.lsm_manifest.specs.Replay.{Stands, IsInnocent, HasFault, AreInnocent, IsFirstFault, IsFault}
use Rattle.lsm_manifest.specs.Standing.{Tracks}
use Rattle.lsm_manifest.proofs.StandingLaws.{snoc_parts}

no_parts : (earlier : List Edit) (e : Edit) (later : List Edit) → [] ≡ earlier ++ e ∷ later → ⊥
no_parts [] e later is = cc
no_parts (d ∷ ds) e later is = cc

pub innocent_none : AreInnocent []
innocent_none earlier e later is = absurd (no_parts earlier e later is)

pub innocent_push : (es : List Edit) (e : Edit) → AreInnocent es → IsInnocent es e → AreInnocent (es ++ e ∷ [])
innocent_push es e all one earlier x later is = elim (snoc_parts es e earlier x later is) [
  | inl p ↦ subst (λ (ds : List Edit). IsInnocent ds x) p.0 (subst (IsInnocent es) p.1 one)
  | inr p ↦ all earlier x p.0 p.1
]

one_more : (xs : List Edit) (i : ℕ) (x : Edit) → i < length xs → x ≡ get_or xs i x → take (i + 1) xs ≡ take i xs ++ x ∷ []
one_more xs i x lt at = take_more xs i x lt ∙ ap (λ (y : Edit). take i xs ++ y ∷ []) (sym at)

pub applies_next : (xs : List Edit) (i : ℕ) (x : Edit) (g : ℕ → Option AddedFile) → i < length xs → x ≡ get_or xs i x → AreInnocent (take i xs) → Tracks (Stands (take i xs ++ x ∷ [])) g × IsInnocent (take i xs) x
    → Tracks (Stands (take (i + 1) xs)) g × AreInnocent (take (i + 1) xs)
applies_next xs i x g lt at all (t, one) =
    let both : Tracks (Stands (take i xs ++ x ∷ [])) g × AreInnocent (take i xs ++ x ∷ []) = (t, innocent_push (take i xs) x all one) in
    subst (λ (es : List Edit). Tracks (Stands es) g × AreInnocent es) (sym (one_more xs i x lt at)) both

first_fault : (xs : List Edit) (i : ℕ) (x : Edit) (f : ReplayFault) → i < length xs → x ≡ get_or xs i x → AreInnocent (take i xs) → HasFault (take i xs) x f → IsFirstFault xs f
first_fault xs i x f lt at all is =
    let back = drop (i + 1) xs in
    record {
      earlier = take i xs;
      edit = x;
      later = back;
      parts = sym (take-append-drop (i + 1) xs) ∙ ap (λ (y : List Edit). y ++ back) (one_more xs i x lt at) ∙ append_assoc (take i xs) (x ∷ []) back;
      innocent = all;
      is = is;
    }

pub fails_at : (xs : List Edit) (i : ℕ) (x : Edit) (f : ReplayFault) → i < length xs → x ≡ get_or xs i x → AreInnocent (take i xs) → HasFault (take i xs) x f → IsFault xs f
fails_at xs i x OutOfMemory lt at all is = tt
fails_at xs i x NoNextFile lt at all is = is
fails_at xs i x NoLogNumber lt at all is = is
fails_at xs i x NoLastSequence lt at all is = is
fails_at xs i x OtherComparator lt at all is = first_fault xs i x OtherComparator lt at all is
fails_at xs i x (DoubleFile n) lt at all is = first_fault xs i x (DoubleFile n) lt at all is
