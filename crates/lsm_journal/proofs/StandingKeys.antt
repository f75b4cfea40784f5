-- The keys of a version that edits come to fit, as those of the edits do.
use Rattle.std.proofs.Common.{ℕ, ◌==◌, Bool, true, false, cond, List, [], ◌∷◌, Option, Some, None, refl, sym, subst, inl, inr}
use Rattle.std.specs.Prelude.{IfSome}
use Rattle.std.specs.Option.{option_or}
use Rattle.std.specs.List.{All}
use Rattle.lsm_codec.specs.Lists.{Has}
use Rattle.lsm_codec.proofs.CallerLemmas.{all_at}
use Rattle.lsm_manifest.specs.declared.parts.CompactPointer.{CompactPointer}
use Rattle.lsm_manifest.specs.EditFit.{Change, FitsAdded, FitsKey, FitsPointer, IsFit}
use Rattle.lsm_manifest.specs.Last.{last_by}
use Rattle.lsm_manifest.specs.Replay.{FileAt, Stands, last_pointer, pointer_in}
use Rattle.lsm_manifest.specs.WholeEdit.{placed_at}
use Rattle.lsm_version.specs.Versions.{Levels}
use Rattle.lsm_journal.specs.Recorded.{FitsLevels, IsStanding, meta_of}

stands_added : (es : List Change) (a : FileAt) → Stands es a → (e : Change) × Has es e × Has e.added a
stands_added [] a h = absurd h
stands_added (e ∷ es) a (inl h) = (e, inl refl, h.0)
stands_added (e ∷ es) a (inr h) = let r = stands_added es a h in (r.0, inr r.1, r.2)

-- what stands fits
pub standing_fits : (es : List Change) (a : FileAt) → All IsFit es → Stands es a → FitsAdded a
standing_fits es a all h =
    let r = stands_added es a h in
    all_at FitsAdded r.0.added a (all_at IsFit es r.0 all r.1).added r.2

last_by_fits : {X A : Type 0} (pick : X → Option A) (P : A → Type 0) (xs : List X) → ((x : X) → Has xs x → IfSome (pick x) P) → IfSome (last_by pick xs) P
unfolding last_by
last_by_fits pick P [] each = tt
last_by_fits {X} {A} pick P (x ∷ xs) each = either (last_by pick xs) (pick x) (last_by_fits pick P xs (λ y h. each y (inr h))) (each x (inl refl))
  where
    either : (a b : Option A) → IfSome a P → IfSome b P → IfSome (option_or a b) P
    either None b h k = k
    either (Some y) b h k = h

pointer_fits : (level : ℕ) (ps : List CompactPointer) → All FitsPointer ps → IfSome (pointer_in level ps) FitsKey
unfolding pointer_in
pointer_fits level ps all = last_by_fits (λ (p : CompactPointer). cond (p.level == level) (Some p.key) None) FitsKey ps (λ p h. by p (p.level == level) (all_at FitsPointer ps p all h).1)
  where
    by : (p : CompactPointer) (b : Bool) → FitsKey p.key → IfSome (cond b (Some p.key) None) FitsKey
    by p true f = f
    by p false f = tt

pub last_pointer_fits : (level : ℕ) (es : List Change) → All IsFit es → IfSome (last_pointer level es) FitsKey
last_pointer_fits level es all = last_by_fits (λ (e : Change). pointer_in level e.pointers) FitsKey es (λ e h. pointer_fits level e.pointers (all_at IsFit es e all h).pointers)

pub standing_keys : (es : List Change) (v : Levels) → All IsFit es → IsStanding es v → FitsLevels v
standing_keys es v all s = record {
  tables = λ n t h. let fits = standing_fits es (placed_at n (meta_of t)) all ((s.files n (meta_of t)).0 (t, h, refl)) in (fits.1, fits.2);
  pointers = λ level low. subst (λ (o : Option (List ℕ)). IfSome o FitsKey) (sym (s.pointers level low)) (last_pointer_fits level es all);
}
