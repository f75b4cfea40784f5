use Rattle.std.proofs.Common.{Bool, List, Option, ap, ◌∙◌, subst}
use Rattle.lsm_shelf.specs.Told.{Told}
use Rattle.lsm_store.specs.Sweeping.{IsBroughtBack}
use Rattle.lsm_store.specs.Working.{AreReturned, Given, HasGathered, given_each}
use Rattle.lsm_store.specs.declared.picks.Picks.{Picks}
use Rattle.lsm_store.specs.declared.picks.Picks.TheVariants.{Joining}
use Rattle.lsm_store.proofs.background_workers.fn.run_beside.scope.Goals as goal

-- the last shelf gave both forks before its worker was started
pub returns : goal.returns
returns g c =
    let honest = g.S.Shelf.honest in
    let Refused = g.S.Shelf.refuses g.N.Naming.place in
    let keeps = g.K.Invariant.keeps in
    let lent = c.fork_last-fork.new.shelves.items in
    let joins = ap (λ (p : Picks). given_each p c.captures.background.now.bell.to_the_end lent)
    c.requires.joining in
    let stays = ap (λ (b : Bool). given_each Joining b lent) c.requires.bell in
    record {
      answer = (search);
      len = c.join_all-returned.ensures.len ∙ c.start_all-threads.ensures.len
          ∙ c.fork_last-fork.ensures.len ∙ c.fork_last-broom.ensures.len;
      ends = c.join_all-returned.ensures.ends;
      beside = record {
        lent = lent;
        broom = c.fork_last-broom.result;
        fork = c.fork_last-fork.result;
        forks = record {
          mid = c.fork_last-broom.new.shelves.items;
          once = c.fork_last-broom.ensures.lent;
          again = c.fork_last-fork.ensures.lent;
        };
        each = subst (λ (gs : List Given). AreReturned honest Refused keeps gs
            c.join_all-returned.result.items) (c.start_all-threads.ensures.given ∙ joins ∙ stays)
            c.join_all-returned.ensures.returned;
        gathers = subst (λ (s : Option Told). HasGathered honest Refused keeps s
            c.join_gathering-gathered.result) c.start_gathering-gatherer.ensures.given
            c.join_gathering-gathered.ensures.returned;
        sweeps = subst (λ (s : Option Told). IsBroughtBack Refused keeps s c.join.result)
            c.start-sweeper.ensures.given c.join.ensures;
      };
      gathered = c.join_gathering-gathered.ensures.end;
      back = tt;
    }
