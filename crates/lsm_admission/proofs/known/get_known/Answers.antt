use Rattle.std.specs.Option.{option_map}
use Rattle.lsm_shelf.specs.Refusals.{MemoryRefuses}
use Rattle.lsm_admission.proofs.KnownKept.{moved_ok, moved_err}
use Rattle.lsm_admission.proofs.known.get_known.Goals as goal

pub returns-clause-answered : goal.returns-clause-answered
returns-clause-answered g c = moved_ok c.get_unjudged-answer.result.0 (option_map (λ b. b.items))
    g.K.KnownTables.images c.args.user.now _ _ _ _ c.of-known.ensures c.into_shelf.ensures
    c.get_unjudged-answer.ensures.answered

pub returns-clause-refused : goal.returns-clause-refused
returns-clause-refused g c = moved_err c.get_unjudged-answer.result.0 g.K.KnownTables.images
    (λ asked. MemoryRefuses asked) _ _ _ _ c.of-known.ensures c.into_shelf.ensures
    c.get_unjudged-answer.ensures.refused
