use Rattle.std.specs.Option.{option_map}
use Rattle.std.proofs.Common.{subst, sym}
use Rattle.lsm_state.specs.Held.{Held}
use Rattle.lsm_database.specs.Keeping.{HasComeTo}
use Rattle.lsm_database.proofs.KeepingLaws.{came_in}
use Rattle.lsm_database.proofs.DatabaseLaws.{finds, unread}
use Rattle.lsm_database.proofs.handle.Handle.get.Goals as goal

pub returns-clause-found : goal.returns-clause-found
returns-clause-found g c = finds g.S.Shelf.honest c.deref_mut.result.now.state c.args.self.now.memory _ c.args.self.now.shelf c.args.self.now.blocks c.find_in.new.blocks c.find_in.ensures.lent c.find_in.ensures.told
    c.args.key.now (λ v. option_map (λ b. b.items) v) c.find_in.result c.find_in.ensures.answer

pub returns-clause-refused : goal.returns-clause-refused
returns-clause-refused g c = unread g.S.Shelf.honest c.deref_mut.result.now.state c.args.self.now.memory _ c.args.self.now.shelf c.args.self.now.blocks c.find_in.new.blocks c.find_in.ensures.lent c.find_in.ensures.told
    (g.S.Shelf.refuses g.N.Naming.place) c.find_in.result c.find_in.ensures.sound c.find_in.ensures.refused c.find_in.ensures.cause

pub invariant_of-deref_mut : goal.invariant_of-deref_mut
invariant_of-deref_mut g c = record {
  kept = subst
      (λ (h : Held). ∥ HasComeTo (g.S.Shelf.refuses g.N.Naming.place) g.S.Shelf.honest
      g.A.Asking.asks g.A.Asking.found h ∥₁)
      (sym c.find_in.ensures.same) c.deref_mut.result.now.kept;
}

pub invariant_of-self : goal.invariant_of-self
invariant_of-self g c = record {
  asked = came_in (g.S.Shelf.refuses g.N.Naming.place) g.S.Shelf.honest g.A.Asking.asks
      g.A.Asking.found c.deref_mut.result.now.state _ c.find_in.ensures.lent.known
      c.deref_mut.result.now.kept;
}
