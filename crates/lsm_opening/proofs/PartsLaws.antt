-- Parts that were just made.
use Rattle.std.proofs.Common.{◌≡◌, List, subst}
use Rattle.atomic_table.specs.Seated.{TableId}
use Rattle.lsm_pins.specs.Known.{Known}
use Rattle.lsm_state.specs.declared.options.Options.{Options}
use Rattle.lsm_opening.specs.Parts.{AreNew}

-- of the board of the name
pub new_on : (board other : TableId) (o : Options) (publisher : Known) (pinners : List Known) → board ≡ other → AreNew board o publisher pinners → AreNew other o publisher pinners
new_on board other o publisher pinners same new = subst (λ (b : TableId). AreNew b o publisher pinners) same new
