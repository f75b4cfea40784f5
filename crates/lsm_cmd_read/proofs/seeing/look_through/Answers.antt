use Rattle.std.proofs.Common.{ℕ, List, Option, inl}
use Rattle.lsm_directory.proofs.CallerLemmas.{keeps_same}
use Rattle.lsm_cmd_read.proofs.SeenLaws.{holds_on, looks_none, noted_done, stopped_behind}
use Rattle.lsm_cmd_read.proofs.seeing.look_through.Goals as goal

pub returns-in-Ok-clause-whole : goal.returns-in-Ok-clause-whole
returns-in-Ok-clause-whole g c = holds_on c.begin_seen.result.0 _ c.in-Ok.ensures.whole

pub returns-in-Ok-clause-done : goal.returns-in-Ok-clause-done
returns-in-Ok-clause-done g c =
    noted_done c.begin_seen.result.0 c.args.seen.rest (g.E.Write.contents c.args.err.now)
    (g.E.Write.contents c.tell_ends.new.err) _ c.tell_ends.ensures.quiet c.begin_seen.ensures.done

pub returns-in-Ok-clause-refused : goal.returns-in-Ok-clause-refused
returns-in-Ok-clause-refused g c =
    stopped_behind c.begin_seen.result.0 _ _ _ c.in-Ok.ensures.whole c.begin_seen.ensures.refused

pub returns-in-Err-clause-refused : goal.returns-in-Err-clause-refused
returns-in-Err-clause-refused g c =
    let r = c.in-Err.ensures.refused in
    inl (r.0, r.1, r.2, keeps_same (g.O.Write.contents c.args.out.now))

pub returns-in-Err-clause-looks : goal.returns-in-Err-clause-looks
returns-in-Err-clause-looks g c = looks_none (g.S.Shelf.told c.args.shelf)
