-- One run, from its steps.
use Rattle.std.proofs.Common.{◌≡◌, ℕ, suc, ◌+◌, ◌<◌, ◌≤◌, List, [], ◌∷◌, ◌++◌, Option, length}
use Rattle.std.proofs.Common.{get_or}
use Rattle.std.proofs.Common.{take, ap, ◌∙◌, subst, sym, arith}
use Rattle.std.specs.Io.KnownBytes.{Appends, Keeps}
use Rattle.std.specs.List.{flat_map}
use Rattle.std.specs.Prelude.{◌≢◌, IfErr, OnErr, OnOk, Result, Ok, Err}
use Rattle.std.proofs.KnownBytes.{Appends-kept, Appends-trans}
use Rattle.std.proofs.lemmas.Grind.{flat_map-append}
use Rattle.std.proofs.lemmas.List.{append-nil, take_all}
use Rattle.std.proofs.Math.Seq.{take-suc}
use Rattle.lsm_folder.specs.Calls.{Call, opened}
use Rattle.lsm_folder.specs.declared.folder_calls.FolderCalls.{Ghosts}
use Rattle.lsm_folder.specs.declared.mark.Mark as mark
use Rattle.lsm_shelf.specs.Place.{IsAtPath, Place}
use Rattle.lsm_directory.specs.Folders.{IsFolderAt}
use Rattle.lsm_cmd_repair.specs.Repaired.{RepairsAt, notes_text}
use Rattle.lsm_cmd_repair.specs.declared.repair_fault.RepairFault.{RepairFault}

-- a folder that was asked for something since it was opened
module _ {C M : Type 0} (folders : Ghosts C M) where
  pub folder_at : (path : List ℕ) (Called : List Call → List Call → Type 0) (first now : C)
      → IsAtPath path (folders.place first) → folders.calls first ≡ opened ∷ []
      → Called (folders.calls first) (folders.calls now)
      → folders.place now ≡ folders.place first → IsFolderAt folders path Called now
  folder_at path Called first now at none called same = record {
    at = subst (λ (p : Place). IsAtPath path p) (sym same) at;
    called = subst (λ (cs : List Call). Called cs (folders.calls now)) none called;
  }

-- one line more
pub lines_more : {X : Type 0} (text : X → List ℕ) (xs : List X) (i : ℕ) (d : X)
    (a b c : Option (List ℕ)) → i < length xs → Appends a b (flat_map text (take i xs))
    → Appends b c (text (get_or xs i d)) → Appends a c (flat_map text (take (i + 1) xs))
lines_more text xs i d a b c lt before line =
    let s : i + 1 ≡ suc i = omega arith in
    let x = get_or xs i d in
    let cut : take (i + 1) xs ≡ take i xs ++ x ∷ [] = rw s (take-suc xs i d lt) in
    let all : flat_map text (take (i + 1) xs) ≡ flat_map text (take i xs) ++ text x =
    ap (flat_map text) cut ∙ flat_map-append text (take i xs) (x ∷ [])
    ∙ ap (λ (t : List ℕ). flat_map text (take i xs) ++ t) (append-nil (text x)) in
    subst (λ (t : List ℕ). Appends a c t) (sym all)
    (Appends-trans a b c (flat_map text (take i xs)) (text x) before line)

pub lines_all : {X : Type 0} (text : X → List ℕ) (xs : List X) (i : ℕ) (a b : Option (List ℕ))
    → length xs ≤ i → Appends a b (flat_map text (take i xs)) → Appends a b (flat_map text xs)
lines_all {X} text xs i a b done written =
    subst (λ (l : List X). Appends a b (flat_map text l)) (take_all i xs done) written

-- two texts, one behind the other
pub joined : {T E : Type 0} (r : Result T E) (a b c : Option (List ℕ)) (first second : List ℕ)
    → Appends a b first → OnOk r (Appends b c second) → OnOk r (Appends a c (first ++ second))
joined (Ok x) a b c first second one other = Appends-trans a b c first second one other
joined (Err e) a b c first second one other = tt

-- the exit status of a run that is done
pub done_run : {T : Type 0} (r : Result T RepairFault) (s : ℕ) (mid new : Option (List ℕ))
    (Does : Option (List ℕ) → Type 0) → OnErr r (s ≡ 1) → OnOk r (Does mid)
    → (s ≡ 0 → Keeps mid new) → (Does mid → Keeps mid new → Does new) → s ≡ 0 → Does new
done_run (Ok x) s mid new Does one does quiet moves zero = moves does (quiet zero)
done_run (Err e) s mid new Does one does quiet moves zero =
    absurd (let a : s ≡ 1 = one in omega (arith, a, zero))

-- nothing more is on standard error
module _ {C M : Type 0} (folders : Ghosts C M) (marks : mark.Ghosts M) where
  pub repairs_kept : (path : List ℕ) (old new first mid last : Option (List ℕ))
      → RepairsAt folders marks path old new first mid → Keeps mid last
      → RepairsAt folders marks path old new first last
  repairs_kept path old new first mid last (tables, entries, left, unsure, done, lines, notes)
      kept = (
        tables,
        entries,
        left,
        unsure,
        done,
        lines,
        Appends-kept first mid last (notes_text unsure) notes kept,
      )

-- the exit status of a run that is refused
pub refused_run : {T : Type 0} (r : Result T RepairFault) (s : ℕ) (Fails : RepairFault → Type 0)
    → OnOk r (s ≡ 0) → OnErr r (s ≡ 1) → IfErr r Fails → s ≢ 0
    → (s ≡ 1) × ((fault : RepairFault) × Fails fault)
refused_run (Ok x) s Fails zero one why other = absurd (other zero)
refused_run (Err e) s Fails zero one why other = (one, (e, why))
