-- What each table holds.
use Rattle.std.proofs.Common.{◌≡◌, ℕ, zero, suc, ◌+◌, ◌<◌, List, [], ◌∷◌, length, map, get_or, refl, ap, ◌∙◌, arith}
use Rattle.lsm_codec.specs.declared.byte_tables.TheConstants.{TABLE_0, TABLE_1, TABLE_2, TABLE_3, TABLE_4, TABLE_5, TABLE_6, TABLE_7}
use Rattle.std.proofs.lemmas.List.{get_or-map}
use Rattle.lsm_codec.specs.Turns.{shift, turns}
use Rattle.lsm_codec.proofs.Shifts.{turns-turns}

-- the values of f from start on
abbrev pub tabulate : (ℕ → ℕ) → ℕ → ℕ → List ℕ
tabulate f start zero = []
tabulate f start (suc count) = f start ∷ tabulate f (suc start) count

pub get_or-tabulate : (f : ℕ → ℕ) (start count i : ℕ) → i < count
    → get_or (tabulate f start count) i 0 ≡ f (start + i)
get_or-tabulate f start zero i h = absurd (omega arith)
get_or-tabulate f start (suc count) zero h =
    let e : start ≡ start + 0 = omega arith in
    ap f e
get_or-tabulate f start (suc count) (suc i) h =
    let e : suc start + i ≡ start + suc i = omega arith in
    get_or-tabulate f (suc start) count i (omega arith) ∙ ap f e

pub lt_len : (i : ℕ) (xs : List ℕ) → i < 256 → length xs ≡ 256 → i < length xs
lt_len i xs h e = omega arith

-- a table made of the one before it
next : (before after : List ℕ) → after ≡ map (turns 8) before → (i count : ℕ) → i < length before → get_or before i 0 ≡ turns count i → get_or after i 0 ≡ turns (count + 8) i
next before after made i count h e =
    ap (λ (xs : List ℕ). get_or xs i 0) made ∙ get_or-map (turns 8) before i 0 0 h ∙ ap (turns 8) e ∙ turns-turns 8 count i

table_0-is : TABLE_0 ≡ tabulate (turns 8) 0 256
unfolding turns shift
table_0-is = refl

pub table_0 : (i : ℕ) → i < 256 → get_or TABLE_0 i 0 ≡ turns 8 i
table_0 i h =
    let e : 0 + i ≡ i = omega arith in
    ap (λ (xs : List ℕ). get_or xs i 0) table_0-is ∙ get_or-tabulate (turns 8) 0 256 i h ∙ ap (turns 8) e

table_1-is : TABLE_1 ≡ map (turns 8) TABLE_0
unfolding turns shift
table_1-is = refl

pub table_1 : (i : ℕ) → i < 256 → get_or TABLE_1 i 0 ≡ turns 16 i
table_1 i h = next TABLE_0 TABLE_1 table_1-is i 8 (lt_len i TABLE_0 h refl) (table_0 i h)

table_2-is : TABLE_2 ≡ map (turns 8) TABLE_1
unfolding turns shift
table_2-is = refl

pub table_2 : (i : ℕ) → i < 256 → get_or TABLE_2 i 0 ≡ turns 24 i
table_2 i h = next TABLE_1 TABLE_2 table_2-is i 16 (lt_len i TABLE_1 h refl) (table_1 i h)

table_3-is : TABLE_3 ≡ map (turns 8) TABLE_2
unfolding turns shift
table_3-is = refl

pub table_3 : (i : ℕ) → i < 256 → get_or TABLE_3 i 0 ≡ turns 32 i
table_3 i h = next TABLE_2 TABLE_3 table_3-is i 24 (lt_len i TABLE_2 h refl) (table_2 i h)

table_4-is : TABLE_4 ≡ map (turns 8) TABLE_3
unfolding turns shift
table_4-is = refl

pub table_4 : (i : ℕ) → i < 256 → get_or TABLE_4 i 0 ≡ turns 40 i
table_4 i h = next TABLE_3 TABLE_4 table_4-is i 32 (lt_len i TABLE_3 h refl) (table_3 i h)

table_5-is : TABLE_5 ≡ map (turns 8) TABLE_4
unfolding turns shift
table_5-is = refl

pub table_5 : (i : ℕ) → i < 256 → get_or TABLE_5 i 0 ≡ turns 48 i
table_5 i h = next TABLE_4 TABLE_5 table_5-is i 40 (lt_len i TABLE_4 h refl) (table_4 i h)

table_6-is : TABLE_6 ≡ map (turns 8) TABLE_5
unfolding turns shift
table_6-is = refl

pub table_6 : (i : ℕ) → i < 256 → get_or TABLE_6 i 0 ≡ turns 56 i
table_6 i h = next TABLE_5 TABLE_6 table_6-is i 48 (lt_len i TABLE_5 h refl) (table_5 i h)

table_7-is : TABLE_7 ≡ map (turns 8) TABLE_6
unfolding turns shift
table_7-is = refl

pub table_7 : (i : ℕ) → i < 256 → get_or TABLE_7 i 0 ≡ turns 64 i
table_7 i h = next TABLE_6 TABLE_7 table_7-is i 56 (lt_len i TABLE_6 h refl) (table_6 i h)
