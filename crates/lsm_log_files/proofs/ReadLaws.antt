-- Folders that are only read.
use Rattle.std.proofs.Common.{◌≡◌, ◌⊎◌, List, [], ◌∷◌, ◌++◌, refl, ap, ◌∙◌, subst, sym, inl, inr}
use Rattle.std.proofs.Common.{append_assoc, ℕ}
use Rattle.std.specs.Prelude.{Result}
use Rattle.lsm_codec.specs.Lists.{Has}
use Rattle.lsm_folder.specs.Calls.{Call, loaded}
use Rattle.lsm_folder.specs.declared.folder_fault.FolderFault.{FolderFault}
use Rattle.lsm_opening.specs.Tidying.{IsReading, OnlyReads}

pub reads_none : (a : List Call) → OnlyReads a a
reads_none a = ([], refl, λ call h. absurd h)

pub reads_one : (name : List ℕ) (answer : Result (List ℕ) FolderFault) (a b : List Call)
    → b ≡ loaded name answer ∷ a → OnlyReads a b
reads_one name answer a b e = (
  loaded name answer ∷ [],
  e,
  λ call h. elim h
      [ inl is ↦ subst IsReading is tt | inr none ↦ absurd none ],
)

has_either : (xs ys : List Call) (c : Call) → Has (xs ++ ys) c → Has xs c ⊎ Has ys c
has_either [] ys c h = inr h
has_either (x ∷ xs) ys c (inl e) = inl (inl e)
has_either (x ∷ xs) ys c (inr h) =
    elim (has_either xs ys c h) [ inl k ↦ inl (inr k) | inr k ↦ inr k ]

pub reads_then : (a b c : List Call) → OnlyReads a b → OnlyReads b c → OnlyReads a c
reads_then a b c p q = (
  q.0 ++ p.0,
  q.1 ∙ ap (λ (cs : List Call). q.0 ++ cs) p.1 ∙ sym (append_assoc q.0 p.0 a),
  λ call h. elim (has_either q.0 p.0 call h) [ inl k ↦ q.2 call k | inr k ↦ p.2 call k ],
)
