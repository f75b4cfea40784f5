-- What a scan shows of the entries that are left of a merge.
use Rattle.std.proofs.Common.{◌≡◌, ℕ, Bool, true, false, cond, List, [], ◌∷◌, Option, Some, None, refl, sym, ap, ◌∙◌}
use Rattle.std.specs.Prelude.{◌||◌, not, nat_le}
use Rattle.lsm_codec.specs.declared.kind.Kind.{Kind}
use Rattle.lsm_codec.specs.declared.kind.Kind.TheVariants.{Deletion, Value}
use Rattle.lsm_codec.specs.Keys.{UserKey, InternalKey}
use Rattle.lsm_model.specs.Merging.{Placed, entries_of}
use Rattle.lsm_model.specs.Scanning.{is_head_passed, pairs_of, put_pair}
use Rattle.lsm_iterators.specs.Heads.{after_first, first_of, key_in, value_in}
use Rattle.lsm_iterators.proofs.WalkLaws.{told_is}
use Rattle.lsm_iterators.specs.declared.walk.FirstKey.{FirstKey}
use Rattle.lsm_iterators.specs.Walks.{passed_by, told_first}
use Rattle.lsm_iterators.specs.Shown.{Showing, ShowsNext, kind_in, left_to_show, pair_at, showing_of, user_shown, value_shown}

-- ---- the first entry by its key

pub head_none : (ps : List Placed) → None ≡ key_in (first_of ps) → ps ≡ []
head_none [] h = refl
head_none (p ∷ ps) h = absurd cc

-- ---- the first entry by what is told of it

pub told_none : (seq : ℕ) (passed : Option UserKey) (ps : List Placed) → None ≡ told_first passed (first_of ps) → (is_head_passed seq passed (entries_of ps) ≡ false) × (None ≡ kind_in (first_of ps))
told_none seq passed [] h = (refl, refl)
told_none seq passed (p ∷ ps) h = absurd cc

pub head_passed : (seq : ℕ) (passed : Option UserKey) (ps : List Placed) (k : FirstKey) → Some k ≡ told_first passed (first_of ps)
    → is_head_passed seq passed (entries_of ps) ≡ (k.is_same || not (nat_le k.seq seq))
head_passed seq passed [] k h = absurd cc
head_passed seq passed (p ∷ ps) k h = rw (told_is passed p k h) refl

pub kind_told : (passed : Option UserKey) (ps : List Placed) (k : FirstKey) → Some k ≡ told_first passed (first_of ps) → Some k.kind ≡ kind_in (first_of ps)
kind_told passed [] k h = absurd cc
kind_told passed (p ∷ ps) k h = ap (λ (x : FirstKey). Some x.kind) (told_is passed p k h)

-- ---- the pair at which a scan stands

pub user_when : (ps : List Placed) (k : InternalKey) → Some k ≡ key_in (first_of ps) → k.kind ≡ Value → k.user ≡ user_shown (pair_at true ps)
user_when [] k h v = absurd cc
user_when (p ∷ ps) k h v = (let e : k ≡ record { user = p.1.user; seq = p.1.seq; kind = p.1.kind } = cc h in
    let t : p.1.kind ≡ Value = sym (ap (λ (x : InternalKey). x.kind) e) ∙ v in rw t (ap (λ (x : InternalKey). x.user) e))

pub user_deleted : (is_done : Bool) (ps : List Placed) (k : InternalKey) → Some k ≡ key_in (first_of ps) → k.kind ≡ Deletion → [] ≡ user_shown (pair_at is_done ps)
user_deleted false ps k h v = refl
user_deleted true [] k h v = refl
user_deleted true (p ∷ ps) k h v = (let e : k ≡ record { user = p.1.user; seq = p.1.seq; kind = p.1.kind } = cc h in
    let t : p.1.kind ≡ Deletion = sym (ap (λ (x : InternalKey). x.kind) e) ∙ v in rw t refl)

pub value_when : (ps : List Placed) (k : InternalKey) → Some k ≡ key_in (first_of ps) → k.kind ≡ Value → value_in (first_of ps) ≡ value_shown (pair_at true ps)
value_when [] k h v = absurd cc
value_when (p ∷ ps) k h v = (let e : k ≡ record { user = p.1.user; seq = p.1.seq; kind = p.1.kind } = cc h in
    let t : p.1.kind ≡ Value = sym (ap (λ (x : InternalKey). x.kind) e) ∙ v in rw t refl)

pub value_deleted : (is_done : Bool) (ps : List Placed) (k : InternalKey) → Some k ≡ key_in (first_of ps) → k.kind ≡ Deletion → [] ≡ value_shown (pair_at is_done ps)
value_deleted false ps k h d = refl
value_deleted true [] k h d = refl
value_deleted true (p ∷ ps) k h d = (let e : k ≡ record { user = p.1.user; seq = p.1.seq; kind = p.1.kind } = cc h in
    let t : p.1.kind ≡ Deletion = sym (ap (λ (x : InternalKey). x.kind) e) ∙ d in rw t refl)

-- ---- what is left to show

pub skipped : (seq : ℕ) (told : Option UserKey) (ps new : List Placed) → is_head_passed seq told (entries_of ps) ≡ true → new ≡ after_first ps
    → pairs_of seq told (entries_of new) ≡ pairs_of seq told (entries_of ps)
skipped seq told [] new h e = rw e refl
skipped seq told (p ∷ ps) new h e =
    ap (λ (l : List Placed). pairs_of seq told (entries_of l)) e
    ∙ sym (ap (λ (b : Bool). cond b (pairs_of seq told (entries_of ps)) (put_pair p.1.kind (p.1.user, p.1.value) (pairs_of seq (Some p.1.user) (entries_of ps)))) h)

pub passed : (seq : ℕ) (told told' : Option UserKey) (ps new : List Placed) → new ≡ after_first ps → told' ≡ passed_by told (first_of ps)
    → left_to_show seq told' false new ≡ left_to_show seq told true ps
passed seq told told' [] new e t = rw e refl
passed seq told told' (p ∷ ps) new e t = rw (e, t) refl

-- what is remembered does not matter while the first entry is done
pub same_done : (seq : ℕ) (told told' : Option UserKey) (ps : List Placed) → left_to_show seq told' true ps ≡ left_to_show seq told true ps
same_done seq told told' [] = refl
same_done seq told told' (p ∷ ps) = refl

fresh : (seq : ℕ) (told : Option UserKey) (p : Placed) (ps : List Placed) → is_head_passed seq told (entries_of (p ∷ ps)) ≡ false
    → pairs_of seq told (entries_of (p ∷ ps)) ≡ put_pair p.1.kind (p.1.user, p.1.value) (pairs_of seq (Some p.1.user) (entries_of ps))
fresh seq told p ps h = ap (λ (b : Bool). cond b (pairs_of seq told (entries_of ps)) (put_pair p.1.kind (p.1.user, p.1.value) (pairs_of seq (Some p.1.user) (entries_of ps)))) h

pub shows_value : (seq : ℕ) (told : Option UserKey) (ps : List Placed) (old : Showing) → Some Value ≡ kind_in (first_of ps) → is_head_passed seq told (entries_of ps) ≡ false
    → left_to_show seq told false ps ≡ old.left → ShowsNext true old (showing_of seq told true ps)
shows_value seq told [] old v h e = absurd cc
shows_value seq told (p ∷ ps) old v h e =
    let t : p.1.kind ≡ Value = cc v in
    ((p.1.user, p.1.value), rw t refl, sym e ∙ fresh seq told p ps h ∙ ap (λ (k : Kind). put_pair k (p.1.user, p.1.value) (pairs_of seq (Some p.1.user) (entries_of ps))) t)

pub shows_end : (seq : ℕ) (told : Option UserKey) (ps : List Placed) (old : Showing) → None ≡ kind_in (first_of ps) → left_to_show seq told false ps ≡ old.left
    → ShowsNext false old (showing_of seq told false ps)
shows_end seq told [] old n e = (refl, sym e, refl)
shows_end seq told (p ∷ ps) old n e = absurd cc

pub shows_deletion : (seq : ℕ) (told : Option UserKey) (ps : List Placed) → Some Deletion ≡ kind_in (first_of ps) → is_head_passed seq told (entries_of ps) ≡ false
    → left_to_show seq told true ps ≡ left_to_show seq told false ps
shows_deletion seq told [] d h = refl
shows_deletion seq told (p ∷ ps) d h =
    let t : p.1.kind ≡ Deletion = cc d in
    sym (fresh seq told p ps h ∙ ap (λ (k : Kind). put_pair k (p.1.user, p.1.value) (pairs_of seq (Some p.1.user) (entries_of ps))) t)
