-- What a scan shows, pair by pair.
use Rattle.std.proofs.Common.{◌≡◌, ◌≢◌, ℕ, ◌-◌, zero, suc, true, false, List, [], ◌∷◌, ◌++◌, take, Option, Some, None, refl, sym, ap, ◌∙◌, subst, append_assoc, append-nil, inl, inr, arith}
use Rattle.std.specs.Prelude.{◌⊎◌, Result, Ok, Err}
use Rattle.std.specs.List.{flat_map, filter}
use Rattle.std.specs.Io.KnownBytes.{Appends, Keeps}
use Rattle.std.proofs.KnownBytes.{Appends-kept, Appends-nil, Appends-trans, Keeps-refl}
use Rattle.std.proofs.lemmas.Grind.{flat_map-append}
use Rattle.lsm_codec.specs.Keys.{UserKey, UserLe}
use Rattle.lsm_codec.specs.Lists.{Has}
use Rattle.lsm_model.specs.Files.{all_entries}
use Rattle.lsm_model.specs.Scanning.{IsScan, Pair, UsersAscend}
use Rattle.lsm_iterators.specs.Shown.{Showing, ShowsNext, user_shown, value_shown}
use Rattle.lsm_shelf.specs.Told.{Becomes, Told}
use Rattle.lsm_table.proofs.CallerLemmas.{read_counted_later}
use Rattle.lsm_version.specs.Versions.{Levels, files}
use Rattle.lsm_requests.specs.KeyBounds.{is_within}
use Rattle.lsm_text.specs.declared.form.Form.{Form}
use Rattle.lsm_requests.specs.declared.key_bounds.KeyBounds.{KeyBounds}
use Rattle.lsm_cmd_shell.specs.Pairs.{IsScanFault, IsWrite, PrintsLeft, PrintsNext, PrintsVersion, Steps, limited, one_less, pair_line, pairs_text, shown}
use Rattle.lsm_cmd_shell.specs.declared.pairs.ScanFault.{ScanFault}
use Rattle.lsm_cmd_shell.specs.declared.pairs.ScanFault.TheVariants.{Read, NoMemory, Write}
use Rattle.lsm_cmd_shell.specs.declared.pairs.Step.TheVariants.{End, Outside, Within}

-- the pairs within the bounds
abbrev pub within : KeyBounds → List Pair → List Pair
within bounds pairs = filter (λ p. is_within bounds p.0) pairs

-- ---- a key at which the bounds end

none_among : (bounds : KeyBounds) (ps : List Pair) → ((q : Pair) → Has ps q → is_within bounds q.0 ≡ false) → within bounds ps ≡ []
none_among bounds [] none = refl
none_among bounds (q ∷ qs) none = rw (none q (inl refl)) (none_among bounds qs (λ r has. none r (inr has)))

head_last : (bounds : KeyBounds) (p : Pair) (ps : List Pair) → UsersAscend (p ∷ ps) → is_within bounds p.0 ≡ false
    → ((later : UserKey) → UserLe p.0 later → p.0 ≢ later → is_within bounds later ≡ false) → within bounds (p ∷ ps) ≡ []
head_last bounds p ps up outside none = rw outside (none_among bounds ps (λ q has. none q.0 (up.0 q has).0 (up.0 q has).1))

-- ---- a step of the scan

pub ends_empty : (bounds : KeyBounds) (old new : Showing) → ShowsNext false old new → Steps bounds old.left new End
ends_empty bounds old new step = ap (within bounds) step.1

pub ends_last : (bounds : KeyBounds) (old new : Showing) → ShowsNext true old new → UsersAscend old.left → is_within bounds (user_shown new.here) ≡ false
    → ((later : UserKey) → UserLe (user_shown new.here) later → user_shown new.here ≢ later → is_within bounds later ≡ false) → Steps bounds old.left new End
ends_last bounds old new step up outside none =
    let p = step.0 in
    let here : is_within bounds p.0 ≡ false = subst (λ o. is_within bounds (user_shown o) ≡ false) step.1 outside in
    let behind : ((later : UserKey) → UserLe p.0 later → p.0 ≢ later → is_within bounds later ≡ false) =
    subst (λ o. (later : UserKey) → UserLe (user_shown o) later → user_shown o ≢ later → is_within bounds later ≡ false) step.1 none
    in
    ap (within bounds) step.2 ∙ head_last bounds p new.left (subst UsersAscend step.2 up) here behind

pub stands_outside : (bounds : KeyBounds) (old new : Showing) → ShowsNext true old new → is_within bounds (user_shown new.here) ≡ false → Steps bounds old.left new Outside
stands_outside bounds old new step h = (step.0, step.2, subst (λ o. is_within bounds (user_shown o) ≡ false) step.1 h)

pub stands_within : (bounds : KeyBounds) (old new : Showing) → ShowsNext true old new → is_within bounds (user_shown new.here) ≡ true → Steps bounds old.left new Within
stands_within bounds old new step h = (step.0, step.2, subst (λ o. is_within bounds (user_shown o) ≡ true) step.1 h, step.1)

-- ---- what is left to show

limited_none : (limit : Option ℕ) → limited limit [] ≡ []
limited_none None = refl
limited_none (Some zero) = refl
limited_none (Some (suc n)) = refl

pub shown_end : (bounds : KeyBounds) (limit : Option ℕ) (left : List Pair) → within bounds left ≡ [] → shown bounds limit left ≡ []
shown_end bounds limit left h = ap (limited limit) h ∙ limited_none limit

pub shown_zero : (bounds : KeyBounds) (limit : Option ℕ) (left : List Pair) → limit ≡ Some 0 → shown bounds limit left ≡ []
shown_zero bounds limit left h = ap (λ (l : Option ℕ). limited l (within bounds left)) h

shown_outside : (bounds : KeyBounds) (limit : Option ℕ) (p : Pair) (rest : List Pair) → is_within bounds p.0 ≡ false → shown bounds limit (p ∷ rest) ≡ shown bounds limit rest
shown_outside bounds limit p rest h = ap (limited limit) (let e : within bounds (p ∷ rest) ≡ within bounds rest = rw h refl in e)

limited_more : (limit : Option ℕ) (p : Pair) (ps : List Pair) → limit ≢ Some 0 → limited limit (p ∷ ps) ≡ p ∷ limited (one_less limit) ps
limited_more None p ps h = refl
limited_more (Some zero) p ps h = absurd (h refl)
limited_more (Some (suc n)) p ps h = ap (λ k. p ∷ take k ps) (let e : n ≡ suc n - 1 = omega arith in e)

shown_within : (bounds : KeyBounds) (limit : Option ℕ) (p : Pair) (rest : List Pair) → is_within bounds p.0 ≡ true → limit ≢ Some 0
    → shown bounds limit (p ∷ rest) ≡ p ∷ shown bounds (one_less limit) rest
shown_within bounds limit p rest h more =
    ap (limited limit) (let e : within bounds (p ∷ rest) ≡ p ∷ within bounds rest = rw h refl in e) ∙ limited_more limit p (within bounds rest) more

-- ---- lines so far

pub text_none : (form : Form) → pairs_text form [] ≡ []
unfolding pairs_text
text_none form = refl

text_more : (form : Form) (front : List Pair) (p : Pair) → pairs_text form (front ++ p ∷ []) ≡ pairs_text form front ++ pair_line form p
unfolding pairs_text
text_more form front p =
    flat_map-append (pair_line form) front (p ∷ []) ∙ ap (λ (l : List ℕ). flat_map (pair_line form) front ++ l) (append-nil (pair_line form p))

-- Lines were written for the first of those that are to be shown, and these are left.
pub record SoFar (honest : Type 0) (form : Form) (bounds : KeyBounds) (first limit : Option ℕ) (all left : List Pair) (old new : Option (List ℕ)) : Type 0 where
  pub front : List Pair
  pub written : Appends old new (pairs_text form front)
  pub rest : honest → shown bounds first all ≡ front ++ shown bounds limit left

pub none_yet : (honest : Type 0) (form : Form) (bounds : KeyBounds) (limit : Option ℕ) (all : List Pair) (old : Option (List ℕ)) → SoFar honest form bounds limit limit all all old old
none_yet honest form bounds limit all old = record { front = []; written = subst (Appends old old) (sym (text_none form)) (Appends-nil old); rest = λ h. refl }

pub next_end : (honest : Type 0) (form : Form) (bounds : KeyBounds) (limit limit' : Option ℕ) (left : List Pair) (show : Showing) (old : Option (List ℕ))
    → (honest → Steps bounds left show End) → PrintsNext honest form bounds limit limit' left show.left (Ok false) old old
next_end honest form bounds limit limit' left show old step = (Keeps-refl old, λ h. shown_end bounds limit left (step h))

pub next_outside : (honest : Type 0) (form : Form) (bounds : KeyBounds) (limit : Option ℕ) (left : List Pair) (show : Showing) (old : Option (List ℕ))
    → (honest → Steps bounds left show Outside) → (honest → UsersAscend left) → PrintsNext honest form bounds limit limit left show.left (Ok true) old old
next_outside honest form bounds limit left show old step up = (
  [],
  subst (Appends old old) (sym (text_none form)) (Appends-nil old),
  λ h. (let p = step h in (ap (shown bounds limit) p.1 ∙ shown_outside bounds limit p.0 show.left p.2, (subst UsersAscend p.1 (up h)).1)),
)

-- Whatever the shelf is, a line of some pair is written.
pub next_within : (honest : Type 0) (form : Form) (bounds : KeyBounds) (limit limit' : Option ℕ) (left : List Pair) (show : Showing) (old new : Option (List ℕ))
    → (honest → Steps bounds left show Within) → (honest → UsersAscend left) → limit ≢ Some 0 → limit' ≡ one_less limit → Appends old new (pair_line form (user_shown show.here, value_shown show.here))
    → PrintsNext honest form bounds limit limit' left show.left (Ok true) old new
next_within honest form bounds limit limit' left show old new step up more less line = (
  at ∷ [],
  subst (Appends old new) (sym (text_more form [] at ∙ ap (λ (l : List ℕ). l ++ pair_line form at) (text_none form))) line,
  λ h. (let p = step h in
      let same : p.0 ≡ at = ap (λ (o : Option Pair). (user_shown o, value_shown o)) (sym p.3) in (
        ap (shown bounds limit) p.1 ∙ shown_within bounds limit p.0 show.left p.2 more ∙ ap (λ (q : Pair). q ∷ shown bounds (one_less limit) show.left) same
            ∙ ap (λ (l : Option ℕ). at ∷ shown bounds l show.left) (sym less),
        (subst UsersAscend p.1 (up h)).1,
      )),
)
  where
    at : Pair
    at = (user_shown show.here, value_shown show.here)

text_append : (form : Form) (front back : List Pair) → pairs_text form (front ++ back) ≡ pairs_text form front ++ pairs_text form back
unfolding pairs_text
text_append form front back = flat_map-append (pair_line form) front back

pub one_more : (honest : Type 0) (form : Form) (bounds : KeyBounds) (first limit limit' : Option ℕ) (all left left' : List Pair) (old mid new : Option (List ℕ)) → SoFar honest form bounds first limit all left old mid
    → PrintsNext honest form bounds limit limit' left left' (Ok true) mid new → SoFar honest form bounds first limit' all left' old new
one_more honest form bounds first limit limit' all left left' old mid new s n = record {
  front = s.front ++ n.0;
  written = subst (Appends old new) (sym (text_append form s.front n.0)) (Appends-trans old mid new (pairs_text form s.front) (pairs_text form n.0) s.written n.1);
  rest = λ h. s.rest h ∙ ap (λ (l : List Pair). s.front ++ l) (n.2 h).0 ∙ sym (append_assoc s.front n.0 (shown bounds limit' left'));
}

pub all_printed : (honest : Type 0) (form : Form) (bounds : KeyBounds) (first limit : Option ℕ) (all left : List Pair) (old mid new : Option (List ℕ)) → SoFar honest form bounds first limit all left old mid
    → Keeps mid new × (honest → shown bounds limit left ≡ []) → PrintsLeft honest form bounds first all (Ok tt) old new
all_printed honest form bounds first limit all left old mid new s (kept, none) = record {
  front = s.front;
  written = λ h. Appends-kept old mid new (pairs_text form s.front) s.written kept;
  shows = λ h. sym (s.rest h ∙ ap (λ (l : List Pair). s.front ++ l) (none h) ∙ append-nil s.front);
}

pub some_printed : (honest : Type 0) (form : Form) (bounds : KeyBounds) (first limit : Option ℕ) (all left : List Pair) (fault : ScanFault) (old mid new : Option (List ℕ)) → SoFar honest form bounds first limit all left old mid
    → ((IsWrite (Err fault) → ⊥) → Keeps mid new) → PrintsLeft honest form bounds first all (Err fault) old new
some_printed honest form bounds first limit all left fault old mid new s kept = record {
  front = s.front;
  written = λ h. Appends-kept old mid new (pairs_text form s.front) s.written (kept h);
  shows = λ h. (shown bounds limit left, s.rest h);
}

-- ---- why it was stopped

pub fault_later : (honest : Type 0) (e : ScanFault) (a b c : Told) → Becomes a b → IsScanFault honest b c e → IsScanFault honest a c e
fault_later honest (Read fault) a b c p f = (f.0, read_counted_later fault a b c p f.1)
fault_later honest NoMemory a b c p f = tt
fault_later honest Write a b c p f = tt

-- a pair that could not be printed
pub printing_fault : (honest : Type 0) (e : ScanFault) (a b : Told) → (e ≡ NoMemory) ⊎ (e ≡ Write) → IsScanFault honest a b e
printing_fault honest e a b (inl h) = subst (IsScanFault honest a b) (sym h) tt
printing_fault honest e a b (inr h) = subst (IsScanFault honest a b) (sym h) tt

pub other_fault : (e : ScanFault) → (IsWrite (Err e) → ⊥) → e ≡ Write → ⊥
other_fault e h same = h (subst (λ (x : ScanFault). IsWrite (Err x)) (sym same) tt)

-- ---- a version

pub version_printed : (honest : Type 0) (form : Form) (bounds : KeyBounds) (limit : Option ℕ) (v : Levels) (left : List Pair) (r : Result (Unit {0}) ScanFault) (old new : Option (List ℕ))
    → (honest → IsScan v.last (all_entries (files v)) left) → PrintsLeft honest form bounds limit left r old new → PrintsVersion honest form bounds limit v r old new
version_printed honest form bounds limit v left r old new scan p = record {
  front = p.front;
  written = p.written;
  shows = inr (λ h. (left, scan h, p.shows h));
}

pub none_printed : (honest : Type 0) (form : Form) (bounds : KeyBounds) (limit : Option ℕ) (v : Levels) (fault : ScanFault) (old : Option (List ℕ)) → PrintsVersion honest form bounds limit v (Err fault) old old
none_printed honest form bounds limit v fault old = record {
  front = [];
  written = λ h. subst (Appends old old) (sym (text_none form)) (Appends-nil old);
  shows = inl (refl, λ e. e);
}
