use Rattle.std.proofs.Common.{◌≡◌, ◌+◌, ◌*◌, arith, vec_len}
use Rattle.std.proofs.lemmas.List.Elements.{All-push, All-same}
use Rattle.lsm_channels.specs.Serving.{IsFresh}
use Rattle.lsm_shelf.proofs.CallerLemmas.{forked_then}
use Rattle.lsm_store.proofs.CallerLemmas.{forked_times, forking_then}
use Rattle.lsm_channels.proofs.ForkLaws.{one_more_session}
use Rattle.lsm_channels.proofs.opened.man.Goals as goal

pub loop-reader-preserved : goal.loop-reader-preserved
loop-reader-preserved g c =
    let fresh = IsFresh g.K.Invariant.keeps in
    let longer = c.in_ok-push.ensures.len in
    let more : 2 * vec_len c.push.new.self ≡ 2 * vec_len c.loop-reader.sessions + 2 = omega arith in
    record {
      fresh = All-same fresh _ _ c.in_ok-push.ensures.items (All-push fresh _ c.in_ok-session.session c.loop-reader.invariant.fresh c.in_ok-session.ensures.fresh);
      own = one_more_session g.N.Naming.place c.args.shelf.now.forks
          (vec_len c.loop-reader.sessions) c.loop-reader.shelf.forks (vec_len c.push.new.self)
          c.loop-reader.sessions.items c.push.new.self.items c.in_ok-session.session
          c.loop-reader.invariant.own c.in_ok-session.ensures.own c.loop-reader.invariant.told.forks
          longer c.in_ok-push.ensures.items;
      told = forking_then (2 * vec_len c.loop-reader.sessions) 2 _ _ _ _ more
          c.loop-reader.invariant.told c.in_ok-session.ensures.told;
    }

pub returns-in_err-session-clause-forked : goal.returns-in_err-session-clause-forked
returns-in_err-session-clause-forked g c = forked_then _ _ _
    (forked_times (2 * vec_len c.loop-reader.sessions) _ _ c.loop-reader.invariant.told)
    c.man_one.ensures.forked

pub returns-in_err-push-clause-forked : goal.returns-in_err-push-clause-forked
returns-in_err-push-clause-forked g c = forked_then _ _ _
    (forked_times (2 * vec_len c.loop-reader.sessions) _ _ c.loop-reader.invariant.told)
    c.man_one.ensures.forked
