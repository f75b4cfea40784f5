use Rattle.std.proofs.Common.{refl}
use Rattle.lsm_opening.proofs.TidyLaws.{obsolete_manifest, obsolete_other}
use Rattle.lsm_opening.proofs.obsolete.is_obsolete.Goals as goal

pub returns-in-Some : goal.returns-in-Some
returns-in-Some c = obsolete_manifest _ c.in-Some.number c.args.manifest c.args.name.now refl c.in-Some.ensures.only

pub returns : goal.returns
returns c = obsolete_other c.is_temporary.result c.args.manifest c.args.name.now c.in_default.ensures.found c.is_temporary.ensures.yes c.is_temporary.ensures.no
