use Rattle.std.proofs.Common.{◌≤◌, ◌-◌, ℕ, List, length, take, drop, ap, sym, subst, ◌∙◌}
use Rattle.lsm_lines.specs.Reading.{ReadAhead}
use Rattle.lsm_lines.proofs.AheadLaws.{passed}
use Rattle.lsm_lines.proofs.ahead.Ahead.pass.Goals as goal

pub returns : goal.returns
returns g c =
    let a = c.self.inside in
    let few : c.args.count ≤ length (take (a.end - a.start) (drop a.start a.buffer.items)) = subst (λ (r : ReadAhead). c.args.count ≤ length r.ready) (sym c.self.view_is) c.requires in
    let with : List ℕ → ReadAhead = λ l. record { ready = l; behind = g.I.Read.remaining a.input } in
    let less : ReadAhead → ReadAhead = λ r. record { ready = drop c.args.count r.ready; behind = r.behind } in
    ap with (passed a.buffer.items a.start a.end c.args.count few) ∙ ap less c.self.view_is
