-- What the calls of a database answer, by one relation each (this project's rule).
use Rattle.std.specs.Prelude.{ℕ, List, Result, IfErr, IfOk}
use Rattle.std.specs.Option.{option_map}
use Rattle.lsm_shelf.specs.Asked.{Asked}
use Rattle.lsm_shelf.specs.declared.shelf_fault.ShelfFault.{ShelfFault}
use Rattle.lsm_table.specs.declared.read_fault.ReadFault.{ReadFault}
use Rattle.lsm_batch.specs.declared.write.Write.{Write}
use Rattle.lsm_state.specs.declared.ingest.Ingested.{Ingested}
use Rattle.lsm_state.specs.declared.state_fault.StateFault.{StateFault}
use Rattle.lsm_database.specs.declared.found.Found.{Found}
use Rattle.lsm_database.specs.declared.found.Found.TheVariants as found
use Rattle.lsm_database.specs.declared.wanted.Wanted.{Wanted}
use Rattle.lsm_database.specs.declared.wanted.Wanted.TheVariants as wanted
use Rattle.lsm_database.specs.Databases.{ComesIn, Finds, IsUnread, Seen, Shows}
use Rattle.lsm_database.specs.Databases.{StaysOut}

abbrev pub AnswersWrite : (Asked → ShelfFault → Type 0) → List Write → Result Ingested StateFault
    → Seen → Seen → Type 0
AnswersWrite Refused ws r d e =
    IfOk r (λ i. ComesIn ws i d e) × IfErr r (λ f. StaysOut Refused ws f d e)

-- just what was wanted of a key was found: its value, or the pairs from it on
abbrev pub FindsWanted : Type 0 → List ℕ → Wanted → Found → Seen → Seen → Type 0
FindsWanted Honest key wanted.Value (found.Value v) d e =
    Finds Honest key (option_map (λ b. b.items) v) d e
FindsWanted Honest key (wanted.Pairs limit) (found.Pairs v) d e =
    Shows Honest key limit v.items d e
FindsWanted Honest key wanted.Value (found.Pairs v) d e = ⊥
FindsWanted Honest key (wanted.Pairs limit) (found.Value v) d e = ⊥

abbrev pub AnswersRead : Type 0 → (Asked → ShelfFault → Type 0) → List ℕ → Wanted
    → Result Found ReadFault → Seen → Seen → Type 0
AnswersRead Honest Refused key w r d e =
    IfOk r (λ f. FindsWanted Honest key w f d e)
    × IfErr r (λ f. IsUnread Honest Refused f d e)
