-- What each of the tables that skip 32 bytes holds.
use Rattle.std.proofs.Common.{◌≡◌, ℕ, ◌+◌, ◌<◌, List, length, map, get_or, refl, ap, ◌∙◌, arith}
use Rattle.lsm_codec.specs.declared.byte_tables.TheConstants.{TABLE_7}
use Rattle.lsm_codec.specs.declared.stride_tables.TheConstants.{SKIP_0, SKIP_1, SKIP_2, SKIP_3, SKIP_4, SKIP_5, SKIP_6, SKIP_7}
use Rattle.std.proofs.lemmas.List.{get_or-map}
use Rattle.lsm_codec.specs.Turns.{shift, turns}
use Rattle.lsm_codec.proofs.Shifts.{turns-turns}
use Rattle.lsm_codec.proofs.TableFacts.{lt_len, table_7}

-- a table made of the one before it by more turns
next : (more : ℕ) (before after : List ℕ) → after ≡ map (turns more) before → (i count : ℕ) → i < length before → get_or before i 0 ≡ turns count i → get_or after i 0 ≡ turns (count + more) i
next more before after made i count h e =
    ap (λ (xs : List ℕ). get_or xs i 0) made ∙ get_or-map (turns more) before i 0 0 h ∙ ap (turns more) e ∙ turns-turns more count i

skip_0-is : SKIP_0 ≡ map (turns 136) TABLE_7
unfolding turns shift
skip_0-is = refl

pub skip_0 : (i : ℕ) → i < 256 → get_or SKIP_0 i 0 ≡ turns 200 i
skip_0 i h = next 136 TABLE_7 SKIP_0 skip_0-is i 64 (lt_len i TABLE_7 h refl) (table_7 i h)

skip_1-is : SKIP_1 ≡ map (turns 8) SKIP_0
unfolding turns shift
skip_1-is = refl

pub skip_1 : (i : ℕ) → i < 256 → get_or SKIP_1 i 0 ≡ turns 208 i
skip_1 i h = next 8 SKIP_0 SKIP_1 skip_1-is i 200 (lt_len i SKIP_0 h refl) (skip_0 i h)

skip_2-is : SKIP_2 ≡ map (turns 8) SKIP_1
unfolding turns shift
skip_2-is = refl

pub skip_2 : (i : ℕ) → i < 256 → get_or SKIP_2 i 0 ≡ turns 216 i
skip_2 i h = next 8 SKIP_1 SKIP_2 skip_2-is i 208 (lt_len i SKIP_1 h refl) (skip_1 i h)

skip_3-is : SKIP_3 ≡ map (turns 8) SKIP_2
unfolding turns shift
skip_3-is = refl

pub skip_3 : (i : ℕ) → i < 256 → get_or SKIP_3 i 0 ≡ turns 224 i
skip_3 i h = next 8 SKIP_2 SKIP_3 skip_3-is i 216 (lt_len i SKIP_2 h refl) (skip_2 i h)

skip_4-is : SKIP_4 ≡ map (turns 8) SKIP_3
unfolding turns shift
skip_4-is = refl

pub skip_4 : (i : ℕ) → i < 256 → get_or SKIP_4 i 0 ≡ turns 232 i
skip_4 i h = next 8 SKIP_3 SKIP_4 skip_4-is i 224 (lt_len i SKIP_3 h refl) (skip_3 i h)

skip_5-is : SKIP_5 ≡ map (turns 8) SKIP_4
unfolding turns shift
skip_5-is = refl

pub skip_5 : (i : ℕ) → i < 256 → get_or SKIP_5 i 0 ≡ turns 240 i
skip_5 i h = next 8 SKIP_4 SKIP_5 skip_5-is i 232 (lt_len i SKIP_4 h refl) (skip_4 i h)

skip_6-is : SKIP_6 ≡ map (turns 8) SKIP_5
unfolding turns shift
skip_6-is = refl

pub skip_6 : (i : ℕ) → i < 256 → get_or SKIP_6 i 0 ≡ turns 248 i
skip_6 i h = next 8 SKIP_5 SKIP_6 skip_6-is i 240 (lt_len i SKIP_5 h refl) (skip_5 i h)

skip_7-is : SKIP_7 ≡ map (turns 8) SKIP_6
unfolding turns shift
skip_7-is = refl

pub skip_7 : (i : ℕ) → i < 256 → get_or SKIP_7 i 0 ≡ turns 256 i
skip_7 i h = next 8 SKIP_6 SKIP_7 skip_7-is i 248 (lt_len i SKIP_6 h refl) (skip_6 i h)
