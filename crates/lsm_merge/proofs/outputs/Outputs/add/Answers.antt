use Rattle.std.proofs.Common.{◌≡◌, ℕ, ◌∷◌, ◌∙◌, ap}
use Rattle.lsm_merge.specs.Outputs.{Made}
use Rattle.lsm_merge.proofs.Tickets.{asks_once}
use Rattle.lsm_merge.proofs.outputs.Outputs.add.Goals as goal

pub returns-in_err-begin-clause-asked : goal.returns-in_err-begin-clause-asked
returns-in_err-begin-clause-asked g c =
    let own : c.self.inside.ticket ≡ c.args.self.now.ticket = ap (λ (m : Made). m.ticket) c.self.view_is in
    asks_once c.args.self.now.ticket (g.D.NumberSource.asked c.args.numbers.now) (g.D.NumberSource.asked c.begin.new.numbers)
    (c.begin.ensures.asked ∙ ap (λ (t : ℕ). t ∷ g.D.NumberSource.asked c.args.numbers.now) own)

pub returns-clause-asked : goal.returns-clause-asked
returns-clause-asked g c =
    let own : c.self.inside.ticket ≡ c.args.self.now.ticket = ap (λ (m : Made). m.ticket) c.self.view_is in
    asks_once c.args.self.now.ticket (g.D.NumberSource.asked c.args.numbers.now) (g.D.NumberSource.asked c.begin.new.numbers)
    (c.begin.ensures.asked ∙ ap (λ (t : ℕ). t ∷ g.D.NumberSource.asked c.args.numbers.now) own)
