use Rattle.std.proofs.Common.{ap, ◌∙◌}
use Rattle.std.specs.Option.{option_to_list}
use Rattle.lsm_lines.specs.Gathering.{Pending}
use Rattle.lsm_lines.proofs.GatherLaws.{gathered_none, stopped_of}
use Rattle.lsm_lines.proofs.batch_reader.BatchReader.fill.Goals as goal

pub returns-then-not-put_held-clause-ends : goal.returns-then-not-put_held-clause-ends
returns-then-not-put_held-clause-ends g c =
    (c.args.self.now.left, c.args.self.now.held, gathered_none c.args.self.now.form c.args.self.now.last c.args.self.now.left c.args.self.now.held c.put_held.new.buffer (c.put_held.ensures.refused c.if-not-put_held.true))

pub returns-in-Stopped-clause-ends : goal.returns-in-Stopped-clause-ends
returns-in-Stopped-clause-ends g c =
    let filled = c.in-Stopped.ensures in
    let put = c.put_held.ensures.put c.if-not-put_held.false in
    let v : Pending = record { form = c.self.inside.form; last = c.self.inside.last; held = option_to_list c.self.inside.held; left = c.self.inside.lines.left } in
    stopped_of v c.args.self.now c.self.view_is c.fill.new.buffer c.put_held.new.buffer filled.0 c.in-Stopped.fault (put ∙ ap option_to_list c.take-held.ensures.value) filled.1 filled.2
