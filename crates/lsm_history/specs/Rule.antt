-- The rule of a history's table: one seat knows all of it, and others remember what it was (this
-- project's rule).
use Rattle.std.specs.Prelude.{◌≡◌, ℕ, true, false, [], ◌++◌}
use mathlib.Core.Option.{Option, none, some}
use lib.ListN.{get_elem?}
use Rattle.atomic_table.specs.Table.{State, Step, Me}
use Rattle.lsm_history.specs.declared.history.History.{History}
use Rattle.lsm_history.specs.declared.view.View.{View}
use Rattle.lsm_history.specs.History.{IsLater}

abbrev pub nothing : History
nothing = record { marker = record {}; entries = []; editions = [] }

-- the seat that knows all
abbrev pub knowing : History → View
knowing h = record { keeps = true; seen = h; asked = nothing }

-- a seat that remembers this much
abbrev pub remembering : History → View
remembering h = record { keeps = false; seen = h; asked = nothing }

-- the first seat, with what the second one remembers, to be compared
abbrev pub asking : View → View → View
asking v w = record v { asked = w.seen }

-- entries came in front
abbrev pub with_entries : History → History → History
with_entries h new = record h { entries = new.entries ++ h.entries }

-- editions came in front
abbrev pub with_editions : History → History → History
with_editions h new = record h { editions = new.editions ++ h.editions }

-- entries and editions came in front of the old ones, or none did
abbrev pub GoesOn : History → History → Type 0
GoesOn now old = IsLater now.entries old.entries × IsLater now.editions old.editions

-- what the seat `by` knows, where the seat `seat` knows all
abbrev pub Fits : ℕ → History → ℕ → View → Type 0
Fits seat all by v = (v.keeps ≡ true → (by ≡ seat) × (v.seen ≡ all)) × GoesOn all v.seen
    × GoesOn all v.asked

-- one seat at most knows all, and what each other one remembers stands at the end of it
abbrev pub IsKept : State History View → Type 0
IsKept s = (seat : ℕ) × (all : History)
    × ((by : ℕ) (v : View) → get_elem? s.views by ≡ some v → Fits seat all by v)

abbrev pub Told : (History → History → History) → Option History → History → Me History View
    → Type 0
Told with none h after = ⊥
Told with (some new) h after = after.0 ≡ knowing (with h new)

-- the entries that the step was told of came in front
abbrev pub Grown : Step History → Me History View → ℕ → Me History View → Type 0
Grown s before found after = Told with_entries s.said before.0.seen after × (after.1 ≡ before.1)

-- the editions that the step was told of came in front
abbrev pub Listed : Step History → Me History View → ℕ → Me History View → Type 0
Listed s before found after = Told with_editions s.said before.0.seen after × (after.1 ≡ before.1)

-- what was to be compared stands at the end of all
abbrev pub Compared : Step History → Me History View → ℕ → Me History View → Type 0
Compared s before found after =
    (after.0 ≡ knowing before.0.seen) × (after.1 ≡ before.1) × GoesOn before.0.seen before.0.asked
