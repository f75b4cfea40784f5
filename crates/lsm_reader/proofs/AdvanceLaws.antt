-- Going on by an entry: in the data block, or to the next one.
use Rattle.std.proofs.Common.{◌≡◌, ℕ, true, false, List, [], ◌∷◌, ◌++◌, Option, Some, None, Ok, refl, sym, ap, ◌∙◌, subst, arith}
use Rattle.std.specs.Option.{is_some, IsSome}
use Rattle.std.specs.List.{flat_map}
use Rattle.lsm_codec.specs.Entries.{Entry}
use Rattle.lsm_block.specs.Standing.{IsMovedBy, but_first, is_end, key_of_first}
use Rattle.lsm_table.proofs.CallerLemmas.{done}
use Rattle.lsm_table.specs.Footer.{body_of}
use Rattle.lsm_table.specs.HeldTable.{entries_named}
use Rattle.lsm_reader.specs.Blocks.{Rest, left_at, IsAtEntry}
use Rattle.lsm_reader.specs.Getting.{or_later, first_entered, entered_or_stays}
use Rattle.lsm_reader.proofs.GettingLaws.{entries_read}

abbrev rest : List Entry → List Entry → Rest
rest here index = record { here = here; index = index }

abbrev named : List ℕ → List Entry → List Entry
named image index = flat_map (entries_named (body_of image)) index

-- ---- it moved in the data block

pub is_after : (m : Option ℕ) (here new : List Entry) → is_some m ≡ true → IsMovedBy m here new → but_first here ≡ new
is_after None here new h mv = absurd cc
is_after (Some n) here new h mv = mv.0.0

pub later_moved : (m : Option ℕ) (here new : List Entry) (later : entries_read) → is_some m ≡ true → IsMovedBy m here new → or_later (but_first here) later ≡ Ok new
later_moved None here new later h mv = absurd cc
later_moved (Some n) here [] later h mv = let bad = mv.0.1 in absurd cc
later_moved (Some n) here (f ∷ fs) later h mv = ap (λ (xs : List Entry). or_later xs later) mv.0.0

pub left_moved : (image : List ℕ) (m : Option ℕ) (here index new later : List Entry) → is_some m ≡ true → IsMovedBy m here new → later ≡ index → IsMovedBy m (left_at image (rest here index)) (left_at image (rest new later))
left_moved image None here index new later h mv same = absurd cc
left_moved image (Some n) here index [] later h mv same = let bad = mv.0.1 in absurd cc
left_moved image (Some n) [] index (f ∷ fs) later h mv same = let bad = mv.0.0 in absurd cc
left_moved image (Some n) (e ∷ es) index (f ∷ fs) later h mv same =
    ((ap (λ (xs : List Entry). xs ++ named image index) mv.0.0 ∙ ap (λ (xs : List Entry). (f ∷ fs) ++ named image xs) (sym same), mv.0.1), mv.1)

pub left_after : (image : List ℕ) (m : Option ℕ) (here index new later : List Entry) → is_some m ≡ true → IsMovedBy m here new → later ≡ index → left_at image (rest new later) ≡ but_first (left_at image (rest here index))
left_after image m here index new later h mv same = sym (is_after m _ _ h (left_moved image m here index new later h mv same))

-- ---- the data block had no other entry

pub is_last : (m : Option ℕ) (here new : List Entry) → is_some m ≡ false → IsMovedBy m here new → but_first here ≡ []
is_last None here new h mv = mv.0
is_last (Some n) here new h mv = absurd cc

pub is_here : (m : Option ℕ) (here new : List Entry) → is_some m ≡ false → IsMovedBy m here new → new ≡ here
is_here None here new h mv = mv.1
is_here (Some n) here new h mv = absurd cc

pub later_last : (here : List Entry) (later : entries_read) → but_first here ≡ [] → or_later (but_first here) later ≡ later
later_last here later last = ap (λ (xs : List Entry). or_later xs later) last

pub left_last : (image : List ℕ) (here index later : List Entry) → but_first here ≡ [] → IsAtEntry here index → later ≡ index → left_at image (rest [] later) ≡ but_first (left_at image (rest here index))
left_last image [] index later last stands same = rw (same, stands) refl
left_last image (e ∷ es) index later last stands same =
    ap (λ (xs : List Entry). named image xs) same ∙ ap (λ (xs : List Entry). xs ++ named image index) (sym last)

-- nothing is left after it
pub left_ended : (image : List ℕ) (here index new later : List Entry) → but_first here ≡ [] → new ≡ here → is_end later ≡ true → later ≡ index → IsMovedBy None (left_at image (rest here index)) (left_at image (rest new later))
left_ended image here index new (i ∷ later) last stays h same = absurd cc
left_ended image here index new [] last stays h same =
    (subst (λ (xs : List Entry). but_first (here ++ named image xs) ≡ []) same (by_here here last), ap (λ (xs : List Entry). xs ++ named image []) stays ∙ ap (λ (xs : List Entry). here ++ named image xs) same)
  where
    by_here : (here : List Entry) → but_first here ≡ [] → but_first (here ++ named image []) ≡ []
    by_here [] last = refl
    by_here (e ∷ es) last = ap (λ (xs : List Entry). xs ++ named image []) last

pub stays_ended : (body : List ℕ) (here index new later : List Entry) → but_first here ≡ [] → new ≡ here → is_end later ≡ true → later ≡ index → or_later (but_first here) (entered_or_stays body here index) ≡ Ok new
stays_ended body here index new (i ∷ later) last stays h same = absurd cc
stays_ended body here index new [] last stays h same =
    later_last here (entered_or_stays body here index) last ∙ ap (entered_or_stays body here) (sym same) ∙ ap (λ (xs : List Entry). done xs) (sym stays)

-- the next data block was entered
pub left_entered : (image : List ℕ) (here index later new after : List Entry) → but_first here ≡ [] → IsAtEntry here index → later ≡ index → IsSome (key_of_first new) → left_at image (rest new after) ≡ left_at image (rest [] later)
    → IsMovedBy (Some 0) (left_at image (rest here index)) (left_at image (rest new after))
left_entered image here index later [] after last stands same some left = let bad = some in absurd cc
left_entered image here index later (f ∷ fs) after last stands same some left =
    ((sym (left ∙ left_last image here index later last stands same), some), record { same = refl; first = omega (arith); second = omega (arith) })

pub stays_entered : (body : List ℕ) (here index later new : List Entry) → but_first here ≡ [] → is_end later ≡ false → later ≡ index → first_entered body later ≡ Ok new → or_later (but_first here) (entered_or_stays body here index) ≡ Ok new
stays_entered body here index [] new last h same read = absurd cc
stays_entered body here index (i ∷ later) new last h same read =
    later_last here (entered_or_stays body here index) last ∙ ap (entered_or_stays body here) (sym same) ∙ read
