use Rattle.std.proofs.Common.{List, ap, ◌∙◌, inl, inr, refl, subst, sym, arith}
use Rattle.lsm_codec.specs.Entries.{Entry}
use Rattle.lsm_state.specs.Held.{Held}
use Rattle.lsm_store.specs.Compacting.{IsSeated}
use Rattle.lsm_database.specs.Keeping.{HasComeTo}
use Rattle.lsm_database.proofs.ForkLaws.{at_most_more, beside_of, counted_then, gives_then}
use Rattle.lsm_database.proofs.ForkLaws.{some_then_at_most}
use Rattle.lsm_shelf.proofs.CallerLemmas.{untold_of}
use Rattle.lsm_database.proofs.KeepingLaws.{come_seated}
use Rattle.lsm_database.proofs.running.run_state.Goals as goal

pub of-store-requires-clause-kept : goal.of-store-requires-clause-kept
of-store-requires-clause-kept g c κs within = λ h seated.
    come_seated (g.S.Shelf.refuses g.N.Naming.place) g.S.Shelf.honest g.A.Asking.asks
    g.A.Asking.found h (subst (λ (s : Held). IsSeated s h) (sym c.requires.found) seated)

pub run_in_store-run-requires-clause-asks : goal.run_in_store-run-requires-clause-asks
run_in_store-run-requires-clause-asks g c κs within = λ ws may. c.requires.asks ws
    (subst (λ (es : List Entry). g.P.Program.asks c.args.program g.S.Shelf.honest es ws)
    c.requires.known may)

pub run_in_store-run-requires-clause-found : goal.run_in_store-run-requires-clause-found
run_in_store-run-requires-clause-found g c κs within =
    c.requires.known ∙ ap (λ (h : Held). h.history) (sym c.requires.found)

-- the workers' and the own fork were refused
-- the program's forks
pub run_in_store-run-requires-clause-untold : goal.run_in_store-run-requires-clause-untold
run_in_store-run-requires-clause-untold g c κs within = (
  untold_of c.in-Ok.shelves.own _ _ c.in-Ok.ensures.own,
  untold_of c.in-Ok-cache_over.blocks _ _ c.in-Ok-cache_over.ensures.fork,
)

pub returns-in-Err-clause-refused : goal.returns-in-Err-clause-refused
returns-in-Err-clause-refused g c = inr (
  c.in-Err.fault,
  c.of_shelf.ensures,
  c.in-Err.ensures.cause,
  (at_most_more _ _ _ _ (omega arith) c.in-Err.ensures.fewer, c.in-Err.ensures.counts),
)

-- or that of the cache
pub returns-in-Err-cache_over-clause-refused : goal.returns-in-Err-cache_over-clause-refused
returns-in-Err-cache_over-clause-refused g c = inr (
  c.in-Err-cache_over.fault,
  c.of_shelf-in-Err-cache_over.ensures,
  c.in-Err-cache_over.ensures.cause,
  (
    some_then_at_most _ _ _ _ _ _ (omega arith) c.in-Ok.ensures.just
        c.in-Err-cache_over.ensures.fewer,
    counted_then c.in-Err-cache_over.fault _ _ _ c.in-Ok.ensures.counts
        c.in-Err-cache_over.ensures.counts,
  ),
)

pub returns-in-Some-clause-said : goal.returns-in-Some-clause-said
returns-in-Some-clause-said g c =
    let said = c.in-Some.ensures.said in
    let program = c.args.program in
    let answer = c.in-Some.run'.0 in (
      said.0,
      said.1,
      subst (λ (es : List Entry). g.P.Program.says program g.S.Shelf.honest es said.0 answer)
          c.requires.known said.2,
    )

pub returns-in-Some-clause-ended : goal.returns-in-Some-clause-ended
returns-in-Some-clause-ended g c =
    let Refused = g.S.Shelf.refuses g.N.Naming.place in
    let honest = g.S.Shelf.honest in
    beside_of honest Refused (HasComeTo Refused honest g.A.Asking.asks g.A.Asking.found)
    c.in-Ok.shelves.shelves.items _ c.in-Some.run'.1.items c.in-Ok.ensures.new
    c.in-Some.ensures.ended

pub returns-in-Some-clause-just : goal.returns-in-Some-clause-just
returns-in-Some-clause-just g c =
    gives_then _ _ _ _ _ _ (omega arith) c.in-Ok.ensures.just c.in-Ok.ensures.counts
    c.in-Ok-cache_over.ensures.just c.in-Ok-cache_over.ensures.counts

pub returns-clause-refused : goal.returns-clause-refused
returns-clause-refused g c = inl (
  refl,
  gives_then _ _ _ _ _ _ (omega arith) c.in-Ok.ensures.just c.in-Ok.ensures.counts
      c.in-Ok-cache_over.ensures.just c.in-Ok-cache_over.ensures.counts,
)
