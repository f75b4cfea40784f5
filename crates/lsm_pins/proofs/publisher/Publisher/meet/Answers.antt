use Rattle.std.proofs.Common.{◌≡◌, Some, rules}
use Rattle.lsm_pins.proofs.SlotLemmas.{in_use-has_id}
use Rattle.lsm_pins.proofs.ViewLemmas.{met_in_use}
use Rattle.lsm_pins.proofs.publisher.Publisher.meet.Goals as goal

pub returns-clause-in_use : goal.returns-clause-in_use
returns-clause-in_use c =
    let i = c.in-Some.id in
    let s = c.in-Some.slot in
    let v0 = c.args.pinner.now.knows in
    let p2 = c.copy-told.new.self.knows in
    let held : v0.held ≡ Some (i, s) = search rules in
    let seen = c.copy-seen.ensures in
    let noted = c.take.ensures in
    let told = c.copy-told.ensures in
    let in_use = met_in_use v0 c.copy-seen.new.self.knows c.copy-seen.result.me.0 c.args.self.now.knows c.take.new.self.knows p2 c.copy-told.result.me.0 c.take-2.new.self.knows i s
    held (seen.earlier i s held) seen.copy.0 seen.same noted.noted noted.below told.copy.0 told.told told.same c.take-2.ensures.told c.check.ensures.known in
    in_use-has_id p2.records s i in_use
