use Rattle.std.proofs.Common.{refl}
use Rattle.lsm_cmd_shell.proofs.replying.obey.Goals as goal

pub returns-in-Do : goal.returns-in-Do
returns-in-Do g c = let r = c.answer.ensures in (r.0, rw c.in-Do.is (refl, (r.1, r.2, r.3)), r.4)

pub returns-in-Put : goal.returns-in-Put
returns-in-Put g c = let r = c.put.ensures in (r.0, rw c.in-Put.is r.1, r.2)

pub returns-in-Scan : goal.returns-in-Scan
returns-in-Scan g c = let r = c.say_scan.ensures c.args.desk.now in (r.0, rw c.in-Scan.is (refl, r.1), r.2)

pub returns-in-Begin : goal.returns-in-Begin
returns-in-Begin g c = let r = c.begin.ensures in (r.0, rw c.in-Begin.is (refl, r.1), r.2)

pub returns-in-Commit : goal.returns-in-Commit
returns-in-Commit g c = let r = c.commit.ensures in (r.0, rw c.in-Commit.is r.1, r.2)

pub returns-in-Abort : goal.returns-in-Abort
returns-in-Abort g c = let r = c.abort.ensures in (r.0, rw c.in-Abort.is (refl, r.1), r.2)

pub returns-in-Compact : goal.returns-in-Compact
returns-in-Compact g c = let r = c.compact.ensures in (r.0, rw c.in-Compact.is (refl, r.1), r.2)

pub returns-in-Help : goal.returns-in-Help
returns-in-Help g c = (_, rw c.in-Help.is (refl, refl), c.say.ensures)
