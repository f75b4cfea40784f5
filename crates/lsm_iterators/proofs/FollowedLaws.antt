-- The judgment of ages along a merge.
use Rattle.std.proofs.Common.{◌≡◌, ℕ, Bool, true, false, cond, List, [], ◌∷◌, Option, Some, None, refl, sym, ap, ◌∙◌}
use Rattle.lsm_codec.specs.Keys.{UserKey, InternalKey}
use Rattle.lsm_model.specs.Merging.{IsOrdered, Placed}
use Rattle.lsm_iterators.proofs.AgeLaws.{finds_age}
use Rattle.lsm_iterators.proofs.WalkLaws.{told_is}
use Rattle.lsm_model.specs.Ages.{IsAgeOrder, IsLeastAgainstAge, against_age}
use Rattle.lsm_iterators.specs.declared.walk.FirstKey.{FirstKey}
use Rattle.lsm_iterators.specs.Heads.{after_first, first_of, key_in, no_more, source_in, user_in}
use Rattle.lsm_iterators.specs.Followed.{follows, known, known_if, stands_after}
use Rattle.lsm_iterators.specs.Walks.{passed_by, told_first}

known_same : (p : Placed) (ps : List Placed) → against_age (Some (known p.0 p.1.user p.1.seq)) ps ≡ against_age (Some p) ps
known_same p [] = refl
known_same p (q ∷ qs) = refl

-- an entry may follow, by what is told of it
follows_told : (passed : Option UserKey) (ps : List Placed) (k : FirstKey) (depth seq : ℕ) → Some k ≡ told_first passed (first_of ps)
    → follows (known_if depth passed seq) (first_of ps) ≡ stands_after k.is_same depth seq (source_in (first_of ps)) k.seq
follows_told passed [] k depth seq h = absurd cc
follows_told None (p ∷ ps) k depth seq h = rw (told_is None p k h) refl
follows_told (Some u) (p ∷ ps) k depth seq h = rw (told_is (Some u) p k h) refl

pub goes_on : (passed after : Option UserKey) (ps new : List Placed) (k : FirstKey) (depth seq : ℕ) → Some k ≡ told_first passed (first_of ps)
    → stands_after k.is_same depth seq (source_in (first_of ps)) k.seq ≡ true → after ≡ passed_by passed (first_of ps) → new ≡ after_first ps
    → against_age (known_if (source_in (first_of ps)) after k.seq) new ≡ against_age (known_if depth passed seq) ps
goes_on passed after [] new k depth seq h s a e = absurd cc
goes_on passed after (p ∷ ps) new k depth seq h s a e =
    let follows_it = follows_told passed (p ∷ ps) k depth seq h ∙ s in
    rw (a, e, ap (λ (x : FirstKey). x.seq) (told_is passed p k h)) (known_same p ps)
    ∙ sym (ap (λ (b : Bool). cond b (against_age (Some p) ps) (Some p.1.user)) follows_it)

stopped : (before : Option Placed) (ps : List Placed) → follows before (first_of ps) ≡ false → against_age before ps ≡ Some (user_in (first_of ps))
stopped before [] h = absurd cc
stopped before (p ∷ ps) h = ap (λ (b : Bool). cond b (against_age (Some p) ps) (Some p.1.user)) h

at_end : (before : Option Placed) (ps : List Placed) → no_more ps ≡ true → against_age before ps ≡ None
at_end before [] h = refl
at_end before (p ∷ ps) h = absurd cc

told_end : (passed : Option UserKey) (ps : List Placed) → None ≡ told_first passed (first_of ps) → no_more ps ≡ true
told_end passed [] h = refl
told_end passed (p ∷ ps) h = absurd cc

-- ---- the user key of the first entry

pub user_none : (ps : List Placed) → None ≡ key_in (first_of ps) → user_in (first_of ps) ≡ []
user_none [] h = refl
user_none (p ∷ ps) h = absurd cc

pub user_first : (ps : List Placed) (k : InternalKey) → Some k ≡ key_in (first_of ps) → user_in (first_of ps) ≡ k.user
user_first [] k h = absurd cc
user_first (p ∷ ps) k h = (let e : k ≡ record { user = p.1.user; seq = p.1.seq; kind = p.1.kind } = cc h in sym (ap (λ (x : InternalKey). x.user) e))

-- ---- what is judged at the end, and at an entry that may not follow

pub judged_end : (ps rest : List Placed) (before : Option Placed) → IsOrdered ps → against_age None ps ≡ against_age before rest → no_more rest ≡ true → IsAgeOrder ps
judged_end ps rest before o same h = finds_age ps None o (same ∙ at_end before rest h)

pub judged_none : (ps rest : List Placed) (before : Option Placed) (passed : Option UserKey) → IsOrdered ps → against_age None ps ≡ against_age before rest → None ≡ told_first passed (first_of rest) → IsAgeOrder ps
judged_none ps rest before passed o same h = judged_end ps rest before o same (told_end passed rest h)

pub judged_some : (ps rest : List Placed) (passed : Option UserKey) (depth seq : ℕ) (k : FirstKey) (user : UserKey) → IsOrdered ps → against_age None ps ≡ against_age (known_if depth passed seq) rest
    → Some k ≡ told_first passed (first_of rest) → stands_after k.is_same depth seq (source_in (first_of rest)) k.seq ≡ false → user ≡ user_in (first_of rest) → IsLeastAgainstAge ps user
judged_some ps rest passed depth seq k user o same h s is =
    finds_age ps (Some user) o (same ∙ stopped (known_if depth passed seq) rest (follows_told passed rest k depth seq h ∙ s) ∙ ap (λ (x : UserKey). Some x) (sym is))
