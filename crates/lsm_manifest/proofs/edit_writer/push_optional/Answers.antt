use Rattle.lsm_manifest.specs.LentView.{lent_field}
use Rattle.lsm_manifest.proofs.EditWriterLaws.{adds_none, ok_one}
use Rattle.lsm_manifest.proofs.edit_writer.push_optional.Goals as goal

pub returns-in-Some-clause-ok : goal.returns-in-Some-clause-ok
returns-in-Some-clause-ok c = rw c.in-Some.is (ok_one c.push.result c.args.out.now.items (lent_field c.in-Some.field) c.push.new.out.items c.push.ensures.ok c.push.ensures.spelled)

pub returns-in-None-clause-ok : goal.returns-in-None-clause-ok
returns-in-None-clause-ok c = rw c.in-None.is (adds_none c.args.out.now.items)
