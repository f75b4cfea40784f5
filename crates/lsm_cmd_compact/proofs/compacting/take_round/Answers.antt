use Rattle.std.proofs.Common.{◌≡◌, length, refl, sym, ap, inr, ◌∙◌}
use Rattle.std.proofs.lemmas.Result.{err_from_is_err_and}
use Rattle.lsm_cmd_compact.proofs.RoundLaws.{faultless_round, faulty_round, round_of}
use Rattle.lsm_cmd_compact.proofs.compacting.take_round.Goals as goal

pub returns-in_err-judge_ends-clause-refused : goal.returns-in_err-judge_ends-clause-refused
returns-in_err-judge_ends-clause-refused g c =
    let p = err_from_is_err_and c.from_residual.result c.from_residual.ensures.1 in
    let Refused = g.S.Shelf.refuses g.N.Naming.place in
    let Honest = g.S.Shelf.honest in
    let keeps = g.K.Invariant.keeps in
    let place = g.N.Naming.place in
    let workers = c.args.options.now.workers in
    let picks = c.args.picks.now in
    let was = c.args.shelf.now in
    let is = c.forks.new.shelf in
    let ended = c.in-Ok-run_all in
    let count : length ended.ends.items ≡ workers = ap length (sym c.deref.ensures.value)
    ∙ c.deref.ensures.len ∙ ended.ensures.len ∙ c.in-Ok.ensures.count in
    let round = round_of Refused Honest keeps place workers picks was is c.in-Ok.shelves.items
    ended.ends.items c.in-Ok.ensures.just
    c.in-Ok.ensures.counts c.in-Ok.ensures.new count ended.ensures.ends ended.ensures.ended in
    rw (p.1, p.2) (inr (faulty_round Refused Honest keeps place workers picks was is
    ended.ends.items c.deref.result.now _ c.in_err-judge_ends.field-0.0
    c.deref.ensures.value round refl c.in_err-judge_ends.ensures.first))

pub returns-clause-round : goal.returns-clause-round
returns-clause-round g c =
    let Refused = g.S.Shelf.refuses g.N.Naming.place in
    let Honest = g.S.Shelf.honest in
    let keeps = g.K.Invariant.keeps in
    let place = g.N.Naming.place in
    let workers = c.args.options.now.workers in
    let picks = c.args.picks.now in
    let was = c.args.shelf.now in
    let is = c.forks.new.shelf in
    let ended = c.in-Ok-run_all in
    let count : length ended.ends.items ≡ workers = ap length (sym c.deref.ensures.value)
    ∙ c.deref.ensures.len ∙ ended.ensures.len ∙ c.in-Ok.ensures.count in
    let round = round_of Refused Honest keeps place workers picks was is c.in-Ok.shelves.items
    ended.ends.items c.in-Ok.ensures.just
    c.in-Ok.ensures.counts c.in-Ok.ensures.new count ended.ensures.ends ended.ensures.ended in
    faultless_round Refused Honest keeps place workers picks was is ended.ends.items
    c.deref.result.now c.deref.ensures.value round
    c.in_ok-judge_ends.ensures.faultless
