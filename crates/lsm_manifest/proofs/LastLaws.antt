-- The last value in a list that grows.
use Rattle.std.proofs.Common.{◌≡◌, ℕ, ◌+◌, ◌<◌, Bool, cond, eqb, List, [], ◌∷◌, ◌++◌, length, take, get_or, Option, Some, None, refl, sym, ap, ◌∙◌}
use Rattle.std.specs.Option.{option_or}
use Rattle.std.proofs.lemmas.List.{take_more}
use Rattle.lsm_manifest.specs.declared.parts.CompactPointer.{CompactPointer}
use Rattle.lsm_manifest.specs.Last.{last_by}
use Rattle.lsm_manifest.specs.declared.edit.Edit.{Edit}
use Rattle.lsm_manifest.specs.Replay.{pointer_in, last_pointer}

option_or-assoc : {A : Type 0} (a b c : Option A) → option_or (option_or a b) c ≡ option_or a (option_or b c)
option_or-assoc None b c = refl
option_or-assoc (Some x) b c = refl

option_or-none : {A : Type 0} (a : Option A) → option_or a None ≡ a
option_or-none None = refl
option_or-none (Some x) = refl

pub last_by-push : {X A : Type 0} (pick : X → Option A) (xs : List X) (x : X) → last_by pick (xs ++ x ∷ []) ≡ option_or (pick x) (last_by pick xs)
unfolding last_by
last_by-push {X} {A} pick [] x = sym (option_or-none (pick x))
last_by-push {X} {A} pick (y ∷ ys) x = ap (λ (o : Option A). option_or o (pick y)) (last_by-push pick ys x) ∙ option_or-assoc (pick x) (last_by pick ys) (pick y)

pub last_by-next : {X A : Type 0} (pick : X → Option A) (xs : List X) (i : ℕ) (x : X) → i < length xs → x ≡ get_or xs i x → last_by pick (take (i + 1) xs) ≡ option_or (pick x) (last_by pick (take i xs))
last_by-next {X} {A} pick xs i x lt at =
    ap (last_by pick) (take_more xs i x lt ∙ ap (λ (y : X). take i xs ++ y ∷ []) (sym at)) ∙ last_by-push pick (take i xs) x

pub last_by-none : {X A : Type 0} (pick : X → Option A) → last_by pick [] ≡ None
unfolding last_by
last_by-none pick = refl

pub pointer_in-none : (level : ℕ) → pointer_in level [] ≡ None
unfolding pointer_in
pointer_in-none level = last_by-none _

abbrev on_level : ℕ → CompactPointer → Option (List ℕ)
on_level level p = cond (eqb p.level level) (Some p.key) None

pub pointer_in-next : (level : ℕ) (ps : List CompactPointer) (i : ℕ) (p : CompactPointer) → i < length ps → p ≡ get_or ps i p → (b : Bool) → eqb p.level level ≡ b
    → pointer_in level (take (i + 1) ps) ≡ option_or (cond b (Some p.key) None) (pointer_in level (take i ps))
unfolding pointer_in
pointer_in-next level ps i p lt at b e =
    last_by-next (on_level level) ps i p lt at ∙ ap (λ (x : Bool). option_or (cond x (Some p.key) None) (last_by (on_level level) (take i ps))) e

pub last_pointer-next : (level : ℕ) (es : List Edit) (i : ℕ) (e : Edit) (o : Option (List ℕ)) → i < length es → e ≡ get_or es i e → pointer_in level e.pointers ≡ o
    → last_pointer level (take (i + 1) es) ≡ option_or o (last_pointer level (take i es))
last_pointer-next level es i e o lt at is =
    last_by-next (λ (x : Edit). pointer_in level x.pointers) es i e lt at ∙ ap (λ (p : Option (List ℕ)). option_or p (last_pointer level (take i es))) is
