-- What a scan prints, pair by pair.
use Rattle.std.proofs.Common.{◌≡◌, ◌≢◌, ℕ, ◌+◌, ◌-◌, ◌≤◌, ◌<◌, Bool, true, false, List, [], ◌∷◌}
use Rattle.std.proofs.Common.{◌++◌, Option, Some, None, refl, sym, ap, ◌∙◌, subst, append_assoc}
use Rattle.std.proofs.Common.{append-nil, inl, inr, arith, length, take, length-append}
use Rattle.std.specs.Prelude.{◌⊎◌, not}
use Rattle.std.specs.Io.KnownBytes.{Appends, Keeps}
use Rattle.std.proofs.KnownBytes.{Appends-nil, Appends-trans, Appends-kept}
use Rattle.std.proofs.Math.Seq.{take-append_seam, take-append-add}
use Rattle.std.proofs.lemmas.Bool.{leb-true, leb-false}
use Rattle.std.proofs.lemmas.Grind.{flat_map-append}
use Rattle.std.proofs.lemmas.List.{take_all}
use Rattle.std.proofs.lemmas.List.Elements.{filter-append}
use Rattle.lsm_codec.specs.Keys.{UserKey, UserLe}
use Rattle.lsm_codec.specs.Lists.{Has}
use Rattle.lsm_model.specs.Scanning.{Pair, UsersAscend}
use Rattle.lsm_iterators.specs.Shown.{Showing, ShowsNext, user_shown, value_shown}
use Rattle.lsm_requests.specs.KeyBounds.{is_within}
use Rattle.lsm_requests.specs.declared.key_bounds.KeyBounds.{KeyBounds}
use Rattle.lsm_text.specs.declared.form.Form.{Form}
use Rattle.lsm_requests.specs.declared.scan_options.ScanOptions.{ScanOptions}
use Rattle.lsm_requests.specs.declared.scan_output.ScanOutput.{ScanOutput}
use Rattle.lsm_cmd_read.specs.Scanned.{BeginsPrinting, Fits, Passes, PassesNext, PrintsLines}
use Rattle.lsm_cmd_read.specs.Scanned.{asked_for, at_most, count_line, is_full, line_of, lines_of}
use Rattle.lsm_cmd_read.specs.Scanned.{scan_text, within}

-- ---- the pairs within the bounds

within_none : (bounds : KeyBounds) → within bounds [] ≡ []
unfolding within
within_none bounds = refl

within_one : (bounds : KeyBounds) (p : Pair) → is_within bounds p.0 ≡ true
    → within bounds (p ∷ []) ≡ p ∷ []
unfolding within
within_one bounds p h = rw h refl

within_other : (bounds : KeyBounds) (p : Pair) → is_within bounds p.0 ≡ false
    → within bounds (p ∷ []) ≡ []
unfolding within
within_other bounds p h = rw h refl

within_append : (bounds : KeyBounds) (ps qs : List Pair)
    → within bounds (ps ++ qs) ≡ within bounds ps ++ within bounds qs
unfolding within
within_append bounds ps qs = filter-append (λ p. is_within bounds p.0) ps qs

none_among : (bounds : KeyBounds) (ps : List Pair)
    → ((q : Pair) → Has ps q → is_within bounds q.0 ≡ false) → within bounds ps ≡ []
unfolding within
none_among bounds [] none = refl
none_among bounds (q ∷ qs) none =
    rw (none q (inl refl)) (none_among bounds qs (λ r has. none r (inr has)))

-- behind a key at which the bounds end
none_behind : (bounds : KeyBounds) (p : Pair) (left : List Pair) → UsersAscend (p ∷ left)
    → ((later : UserKey) → UserLe p.0 later → p.0 ≢ later → is_within bounds later ≡ false)
    → within bounds left ≡ []
none_behind bounds p left up none =
    none_among bounds left (λ q has. none q.0 (up.0 q has).0 (up.0 q has).1)

-- ---- as many as the limit says

taken : (limit : Option ℕ) (front behind : List Pair) (n : ℕ) → n ≡ length front → Fits limit n
    → (is_full limit n ≡ true) ⊎ (behind ≡ [])
    → at_most limit (front ++ behind) ≡ front
taken None front behind n is fits (inl full) = absurd cc
taken None front behind n is fits (inr none) = ap (λ (l : List Pair). front ++ l) none
    ∙ append-nil front
taken (Some l) front behind n is fits (inl full) =
    let reached : l ≤ n = leb-true l n full in
    let same : l ≡ length front = omega (arith, is, fits, reached) in
    ap (λ (k : ℕ). take k (front ++ behind)) same ∙ take-append_seam front behind
taken (Some l) front behind n is fits (inr none) =
    ap (λ (rest : List Pair). take l (front ++ rest)) none ∙ ap (take l) (append-nil front)
    ∙ take_all l front (omega (arith, is, fits))

begun : (limit : Option ℕ) (front behind : List Pair) (n : ℕ) → n ≡ length front → Fits limit n
    → (back : List Pair) × (at_most limit (front ++ behind) ≡ front ++ back)
begun None front behind n is fits = (behind, refl)
begun (Some l) front behind n is fits =
    let parts : l ≡ length front + (l - length front) = omega (arith, is, fits) in (
      take (l - length front) behind,
      ap (λ (k : ℕ). take k (front ++ behind)) parts
          ∙ take-append-add front behind (l - length front),
    )

pub fits_none : (limit : Option ℕ) → Fits limit 0
fits_none None = tt
fits_none (Some l) = omega arith

pub fits_next : (limit : Option ℕ) (n m : ℕ) → is_full limit n ≡ false → m ≤ n + 1 → Fits limit m
fits_next None n m free one = tt
fits_next (Some l) n m free one = let room : n < l = leb-false l n free in omega (arith, room, one)

module _ (form : Form) where
  -- ---- lines

  lines_none : (output : ScanOutput) → lines_of form output [] ≡ []
  unfolding lines_of
  lines_none output = refl

  lines_one : (output : ScanOutput) (p : Pair)
      → lines_of form output (p ∷ []) ≡ line_of form output p
  unfolding lines_of
  lines_one output p = append-nil (line_of form output p)

  lines_append : (output : ScanOutput) (ps qs : List Pair)
      → lines_of form output (ps ++ qs) ≡ lines_of form output ps ++ lines_of form output qs
  unfolding lines_of
  lines_append output ps qs = flat_map-append (line_of form output) ps qs

  -- ---- pairs that are passed

  nothing : (options : ScanOptions) (pairs front left : List Pair) (n : ℕ) (a : Option (List ℕ))
      → pairs ≡ front ++ left → within options.bounds front ≡ []
      → Passes form options pairs left n n a a
  nothing options pairs front left n a is none =
      let zero : n ≡ n + 0 = omega arith in
      record {
        front = front;
        is = is;
        count = subst (λ (ps : List Pair). n ≡ n + length ps) (sym none) zero;
        lines = subst (λ (ps : List Pair). Appends a a (lines_of form options.output ps)) (sym none)
            (subst (Appends a a) (sym (lines_none options.output)) (Appends-nil a));
      }

  pub passes_none : (options : ScanOptions) (pairs : List Pair) (n : ℕ) (a : Option (List ℕ))
      → Passes form options pairs pairs n n a a
  passes_none options pairs n a =
      nothing options pairs [] pairs n a refl (within_none options.bounds)

  -- a pair out of the bounds
  pub one_outside : (options : ScanOptions) (p : Pair) (left : List Pair) (n : ℕ)
      (a : Option (List ℕ)) → is_within options.bounds p.0 ≡ false
      → Passes form options (p ∷ left) left n n a a
  one_outside options p left n a out =
      nothing options (p ∷ left) (p ∷ []) left n a refl (within_other options.bounds p out)

  -- and one within them, whose line was written
  pub one_within : (options : ScanOptions) (p : Pair) (left : List Pair) (n : ℕ)
      (a b : Option (List ℕ)) → is_within options.bounds p.0 ≡ true
      → Appends a b (line_of form options.output p)
      → Passes form options (p ∷ left) left n (n + 1) a b
  one_within options p left n a b inside printed =
      let one = within_one options.bounds p inside in
      record {
        front = p ∷ [];
        is = refl;
        count = subst (λ (ps : List Pair). n + 1 ≡ n + length ps) (sym one) refl;
        lines = subst (λ (ps : List Pair). Appends a b (lines_of form options.output ps)) (sym one)
            (subst (Appends a b) (sym (lines_one options.output p)) printed);
      }

  pub passes_then : (options : ScanOptions) (pairs mid left : List Pair) (n m k : ℕ)
      (a b c : Option (List ℕ)) → Passes form options pairs mid n m a b
      → Passes form options mid left m k b c → Passes form options pairs left n k a c
  passes_then options pairs mid left n m k a b c f g =
      let both = within_append options.bounds f.front g.front in
      let first = within options.bounds f.front in
      let second = within options.bounds g.front in
      let count : length (within options.bounds (f.front ++ g.front)) ≡ length first + length second
      =
      ap (λ (ps : List Pair). length ps) both ∙ length-append first second
      in
      record {
        front = f.front ++ g.front;
        is = f.is ∙ ap (λ (l : List Pair). f.front ++ l) g.is
            ∙ sym (append_assoc f.front g.front left);
        count = omega (arith, count, f.count, g.count);
        lines =
            subst (λ (ps : List Pair). Appends a c (lines_of form options.output ps)) (sym both)
            (subst (Appends a c) (sym (lines_append options.output first second))
            (Appends-trans a b c (lines_of form options.output first)
            (lines_of form options.output second) f.lines g.lines));
      }

  ascend_behind : (front left : List Pair) → UsersAscend (front ++ left) → UsersAscend left
  ascend_behind [] left up = up
  ascend_behind (p ∷ ps) left up = ascend_behind ps left up.1

  pub passes_ascend : (options : ScanOptions) (pairs left : List Pair) (n m : ℕ)
      (a b : Option (List ℕ)) → Passes form options pairs left n m a b → UsersAscend pairs
      → UsersAscend left
  passes_ascend options pairs left n m a b f up =
      ascend_behind f.front left (subst UsersAscend f.is up)

  -- ---- a step of the scan

  pub next_none : (options : ScanOptions) (old new : Showing) (n : ℕ) (a : Option (List ℕ))
      → ShowsNext false old new → PassesNext form options false old.left new.left n n a a
  next_none options old new n a step =
      let none : within options.bounds new.left ≡ [] = ap (within options.bounds) step.2
      ∙ within_none options.bounds in (
        nothing options old.left [] new.left n a (step.1 ∙ sym step.2) (within_none options.bounds),
        λ more. none,
      )

  ends_true : (ends : Bool) → not ends ≡ false → ends ≡ true
  ends_true true h = refl
  ends_true false h = absurd cc

  pub next_passed : (options : ScanOptions) (ends : Bool) (old new : Showing) (n m : ℕ)
      (a b : Option (List ℕ)) → ShowsNext true old new → UsersAscend old.left
      → ((left : List Pair)
      → Passes form options ((user_shown new.here, value_shown new.here) ∷ left) left n m a b)
      → (ends ≡ true → (later : UserKey) → UserLe (user_shown new.here) later
      → user_shown new.here ≢ later → is_within options.bounds later ≡ false)
      → PassesNext form options (not ends) old.left new.left n m a b
  next_passed options ends old new n m a b step up all none =
      let p = step.0 in
      let passed : Passes form options (p ∷ new.left) new.left n m a b =
      subst (λ (o : Option Pair). Passes form options ((user_shown o, value_shown o) ∷ new.left)
      new.left n m a b) step.1 (all new.left)
      in
      let behind : ends ≡ true → (later : UserKey) → UserLe p.0 later → p.0 ≢ later
      → is_within options.bounds later ≡ false =
      subst (λ (o : Option Pair). ends ≡ true → (later : UserKey) → UserLe (user_shown o) later
      → user_shown o ≢ later → is_within options.bounds later ≡ false) step.1 none
      in (
        subst (λ (l : List Pair). Passes form options l new.left n m a b) (sym step.2) passed,
        λ more. none_behind options.bounds p new.left (subst UsersAscend step.2 up)
            (behind (ends_true ends more)),
      )

  -- ---- the end, and a fault

  within_parts : (options : ScanOptions) (pairs front left : List Pair) → pairs ≡ front ++ left
      → asked_for options pairs ≡ at_most options.limit
      (within options.bounds front ++ within options.bounds left)
  within_parts options pairs front left is =
      ap (λ (ps : List Pair). at_most options.limit ps)
      (ap (within options.bounds) is ∙ within_append options.bounds front left)

  pub passes_done : (options : ScanOptions) (pairs left : List Pair) (n : ℕ) (a b : Option (List ℕ))
      → Passes form options pairs left 0 n a b → Fits options.limit n
      → (is_full options.limit n ≡ true) ⊎ (within options.bounds left ≡ [])
      → PrintsLines form options pairs n a b
  passes_done options pairs left n a b f fits end =
      let front = within options.bounds f.front in
      let count : n ≡ length front = omega (arith, f.count) in
      let same : asked_for options pairs ≡ front =
      within_parts options pairs f.front left f.is
      ∙ taken options.limit front (within options.bounds left) n count fits end
      in (
        count ∙ ap (λ (ps : List Pair). length ps) (sym same),
        subst
            (λ (ps : List Pair). Appends a b (lines_of form options.output ps)) (sym same) f.lines,
      )

  pub passes_begun : (options : ScanOptions) (pairs left : List Pair) (n : ℕ)
      (a b c : Option (List ℕ)) → Passes form options pairs left 0 n a b → Fits options.limit n
      → Keeps b c
      → BeginsPrinting form options pairs a c
  passes_begun options pairs left n a b c f fits kept =
      let front = within options.bounds f.front in
      let count : n ≡ length front = omega (arith, f.count) in
      let back = begun options.limit front (within options.bounds left) n count fits in (
        front,
        back.0,
        within_parts options pairs f.front left f.is ∙ back.1,
        Appends-kept a b c
            (lines_of form options.output front) f.lines kept,
      )

  pub lines_and_count : (options : ScanOptions) (pairs : List Pair) (n : ℕ)
      (a b c : Option (List ℕ)) → PrintsLines form options pairs n a b
      → Appends b c (count_line options.output n) → Appends a c (scan_text form options pairs)
  lines_and_count options pairs n a b c lines counted =
      Appends-trans a b c (lines_of form options.output (asked_for options pairs))
      (count_line options.output (length (asked_for options pairs))) lines.1
      (subst (λ (k : ℕ). Appends b c (count_line options.output k)) lines.0 counted)
