use Rattle.std.proofs.Common.{◌+◌}
use Rattle.lsm_journal.proofs.Recording.{grown_recorded, leads_fit, leads_own, started_recorded}
use Rattle.lsm_journal.proofs.journal.Journal.send.Goals as goal

pub start-requires-clause-keys : goal.start-requires-clause-keys
start-requires-clause-keys g c κs within = leads_fit c.changed_tables.ensures c.args.self.now c.args.change.now c.args.after.now c.args.next c.last-fits.ensures.fits c.requires.leads

pub returns-in_ok-start-clause-recorded : goal.returns-in_ok-start-clause-recorded
returns-in_ok-start-clause-recorded g c =
    let r = c.in_ok-start.ensures.rolls in
    started_recorded c.args.self.now _ c.args.next _ c.args.after.now (c.args.next + 1) (leads_own c.args.self.now c.args.change.now c.args.after.now c.args.next c.requires.leads) r.held r.spelled

pub returns-in_ok-append-clause-recorded : goal.returns-in_ok-append-clause-recorded
returns-in_ok-append-clause-recorded g c =
    let r = c.in_ok-append.ensures.grows in
    grown_recorded c.changed_tables.ensures c.args.self.now _ c.args.change.now c.args.after.now c.args.next c.last-fits.ensures.fits c.requires.leads r.held r.spelled
