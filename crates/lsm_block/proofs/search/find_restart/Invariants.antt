use Rattle.std.proofs.Common.{◌≡◌, [], ◌-◌, ◌/◌, ◌<◌, ◌≤◌, ℕ, List, true, false, length, drop}
use Rattle.std.specs.Prelude.{◌⊎◌}
use Rattle.lsm_codec.specs.Entries.{Entry}
use Rattle.lsm_block.specs.Seeking.{readable, not_below, word_of, ArePartsOf, starts_below}
use Rattle.lsm_codec.specs.KeyRef.{key_of}
use Rattle.lsm_block.proofs.search.find_restart.Given as goal

abbrev pub invariant-loop-low : goal.invariant-loop-low
invariant-loop-low l =
    (l.low ≤ l.high) × (l.high < length l.offsets / 4)
    × ((es : List Entry) → ArePartsOf l.text l.offsets es → not_below (key_of l.key) (readable (length l.text) [] (drop (word_of l.offsets l.low) l.text)) ≡ not_below (key_of l.key) es)
    × ((es : List Entry) → ArePartsOf l.text l.offsets es → (i : ℕ) → l.high < i → i < length l.offsets / 4 → starts_below l.text (word_of l.offsets i) (key_of l.key) ≡ false)
    × ((l.low ≡ 0) ⊎ (starts_below l.text (word_of l.offsets l.low) (key_of l.key) ≡ true))

abbrev pub decreases-loop-low : goal.decreases-loop-low
decreases-loop-low l = l.high - l.low
