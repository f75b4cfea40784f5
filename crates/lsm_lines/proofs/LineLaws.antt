-- Lines in pieces.
use Rattle.std.proofs.Common.{◌≡◌, ◌≢◌, ℕ, ◌+◌, ◌<◌, ◌≤◌, List, [], ◌∷◌, ◌++◌, length, drop, Option, Some, None, refl, sym, ap, ◌∙◌, subst, append_assoc, append-nil, arith, inl, inr}
use Rattle.std.proofs.lemmas.Bool.{cases_eq, ne_eqb}
use Rattle.std.proofs.lemmas.List.{drop_at, length-append}
use Rattle.std.specs.Prelude.{◌⊎◌}
use Rattle.std.specs.Io.KnownBytes.{Consumes, IsAtEnd, Keeps, prepend_known}
use Rattle.std.proofs.KnownBytes.{Consumes-kept, Consumes-nil, Consumes-trans}
use Rattle.lsm_text.specs.EntryList.{lines_of, with_first}
use Rattle.lsm_text.specs.EntryReading.{behind, parts_at}
use Rattle.lsm_text.proofs.CallerLemmas.{HasNo, HasNo-append, lines_of-nil, parts_take}
use Rattle.lsm_lines.specs.Pieces.{Holds, last_line, whole_line}
use Rattle.lsm_lines.specs.Reading.{BeginsWith, IsNext, IsNextHeld, IsUnended, Lined, TakesLine, TakesWhole}
use Rattle.lsm_lines.specs.declared.line_reader.NextLine.{NextLine}
use Rattle.lsm_lines.specs.declared.line_reader.NextLine.TheVariants.{Line, TooLong, NoMemory, End}
use Rattle.lsm_lines.proofs.AheadLaws.{taken}

-- ---- the first line of a text

lines_of-newline : (rest : List ℕ) → lines_of (10 ∷ rest) ≡ [] ∷ lines_of rest
unfolding lines_of
lines_of-newline rest = refl

lines_of-other : (c : ℕ) (cs : List ℕ) → c ≢ 10 → lines_of (c ∷ cs) ≡ with_first c (lines_of cs)
unfolding lines_of
lines_of-other c cs n = let test = ne_eqb c 10 n in rw test refl

pub first_line_is : (front rest : List ℕ) → HasNo 10 front → lines_of (front ++ (10 ∷ rest)) ≡ front ∷ lines_of rest
first_line_is [] rest h = lines_of-newline rest
first_line_is (c ∷ cs) rest h = lines_of-other c (cs ++ (10 ∷ rest)) h.0 ∙ ap (with_first c) (first_line_is cs rest h.1)

pub last_line_is : (front : List ℕ) → HasNo 10 front → (front ≡ [] → ⊥) → lines_of front ≡ front ∷ []
last_line_is [] h some = absurd (some refl)
last_line_is (c ∷ []) h some = lines_of-other c [] h.0 ∙ ap (with_first c) lines_of-nil
last_line_is (c ∷ d ∷ ds) h some = lines_of-other c (d ∷ ds) h.0 ∙ ap (with_first c) (last_line_is (d ∷ ds) h.1 (λ e. cc))

-- ---- a piece without a newline

behind_none : (xs : List ℕ) (o : Option (List ℕ × List ℕ)) → behind xs o ≡ None → o ≡ None
behind_none xs None e = refl
behind_none xs (Some p) e = absurd cc

some_is_none : (p : List ℕ × List ℕ) → Some p ≡ None → ⊥
some_is_none p e = cc

pub none_found : (separator : ℕ) (piece : List ℕ) → parts_at separator piece ≡ None → HasNo separator piece
unfolding parts_at
none_found separator [] e = tt
none_found separator (c ∷ cs) e = elim (cases_eq c separator) [
  | inl same ↦ absurd (some_is_none ([], cs) (let at : parts_at separator (c ∷ cs) ≡ Some ([], cs) = grind (arith) in sym at ∙ e))
  | inr other ↦ (let at : parts_at separator (c ∷ cs) ≡ behind (c ∷ []) (parts_at separator cs) = grind (arith) in (other, none_found separator cs (behind_none (c ∷ []) (parts_at separator cs) (sym at ∙ e))))
]

-- ---- a loop over the pieces of a line

-- where anything was read there is a front
abbrev pub HasBegun : NextLine → List ℕ → Type 0
HasBegun End front = Unit {0}
HasBegun Line front = front ≡ [] → ⊥
HasBegun TooLong front = front ≡ [] → ⊥
HasBegun NoMemory front = front ≡ [] → ⊥

-- This front of a line was read.
pub record HasRead (so_far : NextLine) (line : List ℕ) (old new : Option (List ℕ)) : Type 0 where
  pub front : List ℕ
  pub holds : Holds so_far line front
  pub begun : HasBegun so_far front
  pub none : HasNo 10 front
  pub consumed : Consumes old new front

pub read_none : (line : List ℕ) (old : Option (List ℕ)) → line ≡ [] → HasRead End line old old
read_none line old e = record { front = []; holds = (e, refl); begun = tt; none = tt; consumed = Consumes-nil old }

begun_by : (next : NextLine) (front : List ℕ) → (front ≡ [] → ⊥) → HasBegun next front
begun_by End front h = tt
begun_by Line front h = h
begun_by TooLong front h = h
begun_by NoMemory front h = h

some_more : (front piece : List ℕ) → 0 < length piece → front ++ piece ≡ [] → ⊥
some_more [] [] some e = absurd (omega (arith, some))
some_more [] (c ∷ cs) some e = cc
some_more (d ∷ ds) piece some e = cc

pub read_more : (so_far next : NextLine) (line line' : List ℕ) (old mid beyond : Option (List ℕ)) (ready rest : List ℕ) → HasRead so_far line old mid
    → Keeps mid (prepend_known ready beyond) → 0 < length ready → parts_at 10 ready ≡ None → rest ≡ []
    → ((front : List ℕ) → Holds so_far line front → Holds next line' (front ++ ready)) → HasRead next line' old (prepend_known rest beyond)
read_more so_far next line line' old mid beyond ready rest r kept some at none holds = record {
  front = r.front ++ ready;
  holds = holds r.front r.holds;
  begun = begun_by next (r.front ++ ready) (some_more r.front ready some);
  none = HasNo-append 10 r.front ready r.none (none_found 10 ready at);
  consumed = Consumes-trans old (prepend_known ready beyond) (prepend_known rest beyond) r.front ready (Consumes-kept old mid (prepend_known ready beyond) r.front r.consumed kept)
      (taken beyond ready ready rest (sym (append-nil ready) ∙ ap (λ (l : List ℕ). ready ++ l) (sym none)));
}

-- ---- a whole line

takes : (line front : List ℕ) (old new : Option (List ℕ)) → line ≡ front → HasNo 10 front → Consumes old new (front ++ 10 ∷ []) → TakesLine line old new
takes line front None new e h c = tt
takes line front (Some xs) None e h c = absurd c
takes line front (Some xs) (Some ys) e h c =
    ap lines_of (c ∙ append_assoc front (10 ∷ []) ys) ∙ first_line_is front ys h ∙ ap (λ (l : List ℕ). l ∷ lines_of ys) (sym e)

next_is : (next : NextLine) (line front : List ℕ) (old new : Lined) → new.line ≡ line → (next ≡ End → ⊥) → Holds next line front → HasNo 10 front
    → Consumes old.left new.left (front ++ 10 ∷ []) → IsNext old new next
next_is Line line front old new e other holds h c = (subst (λ (l : List ℕ). length l ≤ 8388608) (sym (e ∙ holds.0)) holds.1, takes new.line front old.left new.left (e ∙ holds.0) h c)
next_is TooLong line front old new e other holds h c = (front, holds, takes front front old.left new.left refl h c)
next_is NoMemory line front old new e other holds h c = (front, takes front front old.left new.left refl h c)
next_is End line front old new e other holds h c = absurd (other refl)

pub found_fits : (ready piece later : List ℕ) → Some (piece, later) ≡ parts_at 10 ready → length piece + 1 ≤ length ready
found_fits ready piece later e =
    let whole = (parts_take 10 ready (piece, later) (sym e)).0 in
    omega (arith, ap length whole ∙ length-append piece (10 ∷ later))

-- what was taken with the newline that was found
found_consumed : (so_far : NextLine) (line piece later : List ℕ) (mid beyond : Option (List ℕ)) (ready rest : List ℕ) (old new : Lined) → (r : HasRead so_far line old.left mid)
    → Keeps mid (prepend_known ready beyond) → parts_at 10 ready ≡ Some (piece, later) → rest ≡ drop (length piece + 1) ready → new.left ≡ prepend_known rest beyond
    → Consumes old.left new.left ((r.front ++ piece) ++ 10 ∷ [])
found_consumed so_far line piece later mid beyond ready rest old new r kept at left back =
    let parts = parts_take 10 ready (piece, later) at in
    let whole : ready ≡ (piece ++ 10 ∷ []) ++ later = parts.0 ∙ sym (append_assoc piece (10 ∷ []) later) in
    let count : length (piece ++ 10 ∷ []) ≡ length piece + 1 = omega (arith, length-append piece (10 ∷ [])) in
    let behind_it : rest ≡ later = left ∙ ap (drop (length piece + 1)) whole ∙ drop_at (piece ++ 10 ∷ []) later (length piece + 1) count in
    let two = Consumes-trans old.left (prepend_known ready beyond) (prepend_known rest beyond) r.front (piece ++ 10 ∷ []) (Consumes-kept old.left mid (prepend_known ready beyond) r.front r.consumed kept)
    (taken beyond ready (piece ++ 10 ∷ []) rest (whole ∙ ap (λ (l : List ℕ). (piece ++ 10 ∷ []) ++ l) (sym behind_it))) in
    rw back (subst (λ (l : List ℕ). Consumes old.left (prepend_known rest beyond) l) (sym (append_assoc r.front piece (10 ∷ []))) two)

pub line_found : (so_far next : NextLine) (line line' piece later : List ℕ) (mid beyond : Option (List ℕ)) (ready rest : List ℕ) (old new : Lined)
    → HasRead so_far line old.left mid → Keeps mid (prepend_known ready beyond) → parts_at 10 ready ≡ Some (piece, later) → rest ≡ drop (length piece + 1) ready
    → ((front : List ℕ) → Holds so_far line front → Holds next line' (front ++ piece)) → (next ≡ End → ⊥) → new.line ≡ line' → new.left ≡ prepend_known rest beyond
    → IsNext old new next
line_found so_far next line line' piece later mid beyond ready rest old new r kept at left holds other same back =
    let parts = parts_take 10 ready (piece, later) at in
    next_is next line' (r.front ++ piece) old new same other (holds r.front r.holds) (HasNo-append 10 r.front piece r.none parts.1)
    (found_consumed so_far line piece later mid beyond ready rest old new r kept at left back)

takes_last : (line front : List ℕ) (old new : Option (List ℕ)) → line ≡ front → HasNo 10 front → (front ≡ [] → ⊥) → Consumes old new front → IsAtEnd new → TakesLine line old new
takes_last line front None new e h some c end = tt
takes_last line front (Some xs) None e h some c end = absurd c
takes_last line front (Some xs) (Some ys) e h some c end =
    ap lines_of (c ∙ ap (λ (l : List ℕ). front ++ l) end ∙ append-nil front) ∙ last_line_is front h some
    ∙ ap (λ (l : List ℕ). l ∷ []) (sym e) ∙ ap (λ (ls : List (List ℕ)). line ∷ ls) (sym (ap lines_of end ∙ lines_of-nil))

nothing_left : (old new : Option (List ℕ)) (front : List ℕ) → Consumes old new front → front ≡ [] → IsAtEnd new → IsAtEnd old
nothing_left None new front c e end = tt
nothing_left (Some xs) None front c e end = absurd c
nothing_left (Some xs) (Some ys) front c e end = c ∙ ap (λ (l : List ℕ). l ++ ys) e ∙ end

pub line_ends : (so_far : NextLine) (line : List ℕ) (mid : Option (List ℕ)) (old new : Lined) → HasRead so_far line old.left mid → Keeps mid new.left → IsAtEnd new.left → new.line ≡ line → IsNext old new so_far
line_ends Line line mid old new r kept end e =
    let c = Consumes-kept old.left mid new.left r.front r.consumed kept in
    (subst (λ (l : List ℕ). length l ≤ 8388608) (sym (e ∙ r.holds.0)) r.holds.1, takes_last new.line r.front old.left new.left (e ∙ r.holds.0) r.none r.begun c end)
line_ends TooLong line mid old new r kept end e =
    (r.front, r.holds, takes_last r.front r.front old.left new.left refl r.none r.begun (Consumes-kept old.left mid new.left r.front r.consumed kept) end)
line_ends NoMemory line mid old new r kept end e =
    (r.front, takes_last r.front r.front old.left new.left refl r.none r.begun (Consumes-kept old.left mid new.left r.front r.consumed kept) end)
line_ends End line mid old new r kept end e = (nothing_left old.left new.left r.front (Consumes-kept old.left mid new.left r.front r.consumed kept) r.holds.1 end, end)

-- ---- where no more is read of a line than is held

begins : (line : List ℕ) (old new : Option (List ℕ)) → TakesLine line old new → BeginsWith line old
begins line None new t = tt
begins line (Some xs) None t = absurd t
begins line (Some xs) (Some ys) t = (lines_of ys, t)

takes_whole : (front : List ℕ) (old new : Option (List ℕ)) → Consumes old new (front ++ 10 ∷ []) → TakesWhole old new
takes_whole front None new c = tt
takes_whole front (Some xs) None c = absurd c
takes_whole front (Some xs) (Some ys) c = (front ++ 10 ∷ [], c, inr (front, refl))

whole_held : (next : NextLine) (front : List ℕ) (old new : Lined) → IsNext old new next → Consumes old.left new.left (front ++ 10 ∷ []) → IsNextHeld old new (whole_line next)
whole_held Line front old new i c = (i.0, i.1, takes_whole front old.left new.left c)
whole_held TooLong front old new i c = (i.0, i.1, begins i.0 old.left new.left i.2)
whole_held NoMemory front old new i c = tt
whole_held End front old new i c = i

pub held_found : (so_far next : NextLine) (line line' piece later : List ℕ) (mid beyond : Option (List ℕ)) (ready rest : List ℕ) (old new : Lined)
    → HasRead so_far line old.left mid → Keeps mid (prepend_known ready beyond) → parts_at 10 ready ≡ Some (piece, later) → rest ≡ drop (length piece + 1) ready
    → ((front : List ℕ) → Holds so_far line front → Holds next line' (front ++ piece)) → (next ≡ End → ⊥) → new.line ≡ line' → new.left ≡ prepend_known rest beyond
    → IsNextHeld old new (whole_line next)
held_found so_far next line line' piece later mid beyond ready rest old new r kept at left holds other same back =
    whole_held next (r.front ++ piece) old new (line_found so_far next line line' piece later mid beyond ready rest old new r kept at left holds other same back)
    (found_consumed so_far line piece later mid beyond ready rest old new r kept at left back)

unended : (line front : List ℕ) (old new : Option (List ℕ)) → line ≡ front → Consumes old new front → IsAtEnd new → IsUnended line old
unended line front None new e c end = tt
unended line front (Some xs) None e c end = absurd c
unended line front (Some xs) (Some ys) e c end = c ∙ ap (λ (l : List ℕ). front ++ l) end ∙ append-nil front ∙ sym e

pub held_ends : (so_far : NextLine) (line : List ℕ) (mid : Option (List ℕ)) (old new : Lined) → HasRead so_far line old.left mid → Keeps mid new.left → IsAtEnd new.left → new.line ≡ line
    → IsNextHeld old new (last_line so_far)
held_ends Line line mid old new r kept end e =
    let i = line_ends Line line mid old new r kept end e in
    (i.0, i.1, unended new.line r.front old.left new.left (e ∙ r.holds.0) (Consumes-kept old.left mid new.left r.front r.consumed kept) end)
held_ends TooLong line mid old new r kept end e =
    let i = line_ends TooLong line mid old new r kept end e in
    (i.0, i.1, begins i.0 old.left new.left i.2)
held_ends NoMemory line mid old new r kept end e = tt
held_ends End line mid old new r kept end e = line_ends End line mid old new r kept end e

-- the first line of a text that begins so
pub record BeginsBy (front : List ℕ) (lines : List (List ℕ)) : Type 0 where
  pub line : List ℕ
  pub rest : List (List ℕ)
  pub is : lines ≡ line ∷ rest
  pub long : length front ≤ length line

with_begins : (c : ℕ) (cs : List ℕ) (lines : List (List ℕ)) → BeginsBy cs lines → BeginsBy (c ∷ cs) (with_first c lines)
with_begins c cs lines b = record { line = c ∷ b.line; rest = b.rest; is = ap (with_first c) b.is; long = omega (arith, b.long) }

one_begins : (c : ℕ) (lines : List (List ℕ)) → BeginsBy (c ∷ []) (with_first c lines)
one_begins c [] = record { line = c ∷ []; rest = []; is = refl; long = omega arith }
one_begins c (l ∷ ls) = record { line = c ∷ l; rest = ls; is = refl; long = omega arith }

front_begins : (front ys : List ℕ) → HasNo 10 front → (front ≡ [] → ⊥) → BeginsBy front (lines_of (front ++ ys))
front_begins [] ys h some = absurd (some refl)
front_begins (c ∷ []) ys h some = subst (BeginsBy (c ∷ [])) (sym (lines_of-other c ys h.0)) (one_begins c (lines_of ys))
front_begins (c ∷ d ∷ ds) ys h some =
    subst (BeginsBy (c ∷ d ∷ ds)) (sym (lines_of-other c (d ∷ ds ++ ys) h.0)) (with_begins c (d ∷ ds) (lines_of (d ∷ ds ++ ys)) (front_begins (d ∷ ds) ys h.1 (λ e. cc)))

long_begins : (front : List ℕ) (old new : Option (List ℕ)) → HasNo 10 front → (front ≡ [] → ⊥) → 8388608 < length front → Consumes old new front
    → (line : List ℕ) × (8388608 < length line) × BeginsWith line old
long_begins front None new h some long c = (front, long, tt)
long_begins front (Some xs) None h some long c = absurd c
long_begins front (Some xs) (Some ys) h some long c =
    let b = front_begins front ys h some in
    (b.line, omega (arith, long, b.long), (b.rest, ap lines_of c ∙ b.is))

pub held_lost : (next : NextLine) (line : List ℕ) (left : Option (List ℕ)) (old new : Lined) → (next ≡ TooLong) ⊎ (next ≡ NoMemory) → HasRead next line old.left left → new.left ≡ left
    → IsNextHeld old new (last_line next)
held_lost TooLong line left old new lost r same = long_begins r.front old.left left r.none r.begun r.holds r.consumed
held_lost NoMemory line left old new lost r same = tt
held_lost Line line left old new (inl lost) r same = absurd cc
held_lost Line line left old new (inr lost) r same = absurd cc
held_lost End line left old new (inl lost) r same = absurd cc
held_lost End line left old new (inr lost) r same = absurd cc
