use Rattle.std.proofs.Common.{◌≡◌, ℕ, suc, ◌+◌, ◌≤◌, false, refl, sym, ◌∙◌, ap, subst, inl, inr, Err, arith}
use Rattle.std.specs.Prelude.{List, ◌⊎◌}
use Rattle.lsm_codec.specs.Entries.{Entry}
use Rattle.lsm_shelf.specs.Asked.{Put}
use Rattle.lsm_shelf.specs.Refusals.{IsWantOr}
use Rattle.lsm_shelf.specs.declared.shelf_fault.ShelfFault.{ShelfFault}
use Rattle.lsm_shelf.specs.Told.{Told, Becomes, putting}
use Rattle.lsm_version.specs.Versions.{Levels}
use Rattle.lsm_block.specs.declared.build_fault.BuildFault.{BuildFault}
use Rattle.lsm_batch.specs.Images.{IsImage, IsPutAs, IsPutRefusal}
use Rattle.lsm_batch.specs.Batches.{entries_from}
use Rattle.lsm_batch.specs.declared.write.Write.{Write}
use Rattle.lsm_state.specs.Asked.{OnShelf, PutRefused}
use Rattle.lsm_state.specs.Held.{Held}
use Rattle.lsm_state.specs.Ingesting.{FailsToBuild, FailsToPut, entries_of, of_build, with_number}
use Rattle.lsm_state.specs.Options.{sizes_of}
use Rattle.lsm_state.specs.declared.state_fault.StateFault.{StateFault}
use Rattle.lsm_state.specs.declared.state_fault.StateFault.TheVariants.{Shelf}
use Rattle.lsm_state.proofs.AskedLaws.{build_asked}
use Rattle.lsm_state.proofs.ChangeLaws.{lawful_spent}
use Rattle.lsm_state.proofs.IngestLaws.{build_refused, built_as, err_is, next_of, passes, table_put}
use Rattle.lsm_state.proofs.state.State.put_batch.Goals as goal

pub invariant_of-self : goal.invariant_of-self
invariant_of-self g c =
    let h : Held = record { options = c.self.inside.options; slots = c.self.inside.slots; snapshots = c.self.inside.snapshots; next = c.self.inside.next; next_ticket = c.self.inside.next_ticket; live = c.self.inside.live; journal = c.self.inside.journal; halted = c.self.inside.halted; pinners = c.self.inside.pinners.items; history = c.self.inside.keeper.entries } in
    let going : h.halted ≡ false = ap (λ (x : Held). x.halted) c.self.view_is ∙ c.requires.welcome.takes.0 in
    let more : h.next ≤ c.self.inside.next + 1 = omega arith in
    (lawful_spent g.S.Shelf.honest g.N.Boarded.board h (c.self.inside.next + 1) c.self.inside.halted c.self.invariant.0 going more, c.self.invariant.1)

pub invariant_of-self-2 : goal.invariant_of-self-2
invariant_of-self-2 g c =
    let h : Held = record { options = c.self.inside.options; slots = c.self.inside.slots; snapshots = c.self.inside.snapshots; next = c.self.inside.next; next_ticket = c.self.inside.next_ticket; live = c.self.inside.live; journal = c.self.inside.journal; halted = c.self.inside.halted; pinners = c.self.inside.pinners.items; history = c.self.inside.keeper.entries } in
    let going : h.halted ≡ false = ap (λ (x : Held). x.halted) c.self.view_is ∙ c.requires.welcome.takes.0 in
    let more : h.next ≤ c.self.inside.next + 1 = omega arith in
    (lawful_spent g.S.Shelf.honest g.N.Boarded.board h (c.self.inside.next + 1) c.self.inside.halted c.self.invariant.0 going more, c.self.invariant.1)

pub returns-in_err-image-clause-refused : goal.returns-in_err-image-clause-refused
returns-in_err-image-clause-refused g c =
    let h : Held = c.args.self.now in
    let ws : List Write = c.args.batch.now in
    let was : Told = c.args.shelf.now in
    let f : BuildFault = c.in_err-image.field-0.0 in
    let last : c.last-first.result ≡ c.args.self.now.slots.version.last = c.last-first.ensures.last
    ∙ (ap (λ (v : Levels). v.last) c.version.ensures.version ∙ ap (λ (x : Held). x.slots.version.last) c.self.view_is) in
    let sizes : c.sizes.result ≡ sizes_of c.args.self.now.options = c.sizes.ensures ∙ ap (λ (x : Held). sizes_of x.options) c.self.view_is in
    err_is (λ (e : StateFault). FailsToBuild h h ws e was was ⊎ FailsToPut h h ws e was was) c.from_residual.result (of_build f) c.from_residual.ensures.1
    (inl (
      refl,
      build_refused (sizes_of h.options) (entries_of h ws) f
          (λ e. passes h ws c.sizes.result c.last-first.result sizes last (c.in_err-image.ensures.large (ap (λ (x : BuildFault). Err x) e))),
      refl,
    ))

pub returns-in_err-image-clause-asked : goal.returns-in_err-image-clause-asked
returns-in_err-image-clause-asked g c =
    let R : ShelfFault → Type 0 = PutRefused (g.S.Shelf.refuses g.N.Naming.place) c.args.self.now c.args.batch.now in
    err_is (OnShelf R) c.from_residual.result (of_build c.in_err-image.field-0.0) c.from_residual.ensures.1 (build_asked R c.in_err-image.field-0.0)

pub returns-in_err-table-clause-refused : goal.returns-in_err-table-clause-refused
returns-in_err-table-clause-refused g c =
    let h : Held = c.args.self.now in
    let ws : List Write = c.args.batch.now in
    let was : Told = c.args.shelf.now in
    let is : Told = c.put.new.shelf in
    let last : c.last-first.result ≡ c.args.self.now.slots.version.last = c.last-first.ensures.last
    ∙ (ap (λ (v : Levels). v.last) c.version.ensures.version ∙ ap (λ (x : Held). x.slots.version.last) c.self.view_is) in
    let sizes : c.sizes.result ≡ sizes_of c.args.self.now.options = c.sizes.ensures ∙ ap (λ (x : Held). sizes_of x.options) c.self.view_is in
    let bytes = built_as h ws c.sizes.result c.last-first.result c.in_ok-image.image.bytes sizes last c.in_ok-image.ensures.bytes in
    let number = ap (λ (x : Held). x.next) c.self.view_is in
    let next = next_of c.self.inside.next h.next number in
    let y : Held = record { options = c.self.inside.options; slots = c.self.inside.slots; snapshots = c.self.inside.snapshots; next = c.self.inside.next + 1; next_ticket = c.self.inside.next_ticket; live = c.self.inside.live; journal = c.self.inside.journal; halted = c.self.inside.halted; pinners = c.self.inside.pinners.items; history = c.self.inside.keeper.entries } in
    let rest : y ≡ with_number h y.slots = ap (λ (n : ℕ). record y { next = n }) next ∙ ap (λ (x : Held). record x { slots = y.slots; next = suc h.next }) c.self.view_is in
    let fault : ShelfFault = c.in_err-table.field-0.0 in
    let put = subst (λ (n : ℕ). IsPutRefusal n c.in_ok-image.image.bytes fault was is) number c.in_err-table.ensures.refused in
    err_is (λ (e : StateFault). FailsToBuild h y ws e was is ⊎ FailsToPut h y ws e was is) c.from_residual-in_err-table.result (Shelf fault) c.from_residual-in_err-table.ensures.1
    (inr (rest, subst (λ (b : List ℕ). IsPutRefusal h.next b fault was is) bytes put))

pub returns-in_err-table-clause-asked : goal.returns-in_err-table-clause-asked
returns-in_err-table-clause-asked g c =
    let h : Held = c.args.self.now in
    let last : c.last-first.result ≡ c.args.self.now.slots.version.last = c.last-first.ensures.last
    ∙ (ap (λ (v : Levels). v.last) c.version.ensures.version ∙ ap (λ (x : Held). x.slots.version.last) c.self.view_is) in
    let sizes : c.sizes.result ≡ sizes_of c.args.self.now.options = c.sizes.ensures ∙ ap (λ (x : Held). sizes_of x.options) c.self.view_is in
    let bytes = built_as h c.args.batch.now c.sizes.result c.last-first.result c.in_ok-image.image.bytes sizes last c.in_ok-image.ensures.bytes in
    let number = ap (λ (x : Held). x.next) c.self.view_is in
    let R : ShelfFault → Type 0 = PutRefused (g.S.Shelf.refuses g.N.Naming.place) h c.args.batch.now in
    let fault : ShelfFault = c.in_err-table.field-0.0 in
    let asked = subst (λ (n : ℕ). IsWantOr (g.S.Shelf.refuses g.N.Naming.place (Put n c.in_ok-image.image.bytes)) fault) number c.in_err-table.ensures.asked in
    err_is (OnShelf R) c.from_residual-in_err-table.result (Shelf fault) c.from_residual-in_err-table.ensures.1
    (subst (λ (b : List ℕ). IsWantOr (g.S.Shelf.refuses g.N.Naming.place (Put h.next b)) fault) bytes asked)

pub returns-clause-table : goal.returns-clause-table
returns-clause-table g c =
    let h : Held = c.args.self.now in
    let last : c.last-first.result ≡ c.args.self.now.slots.version.last = c.last-first.ensures.last
    ∙ (ap (λ (v : Levels). v.last) c.version.ensures.version ∙ ap (λ (x : Held). x.slots.version.last) c.self.view_is) in
    let image = subst (λ (n : ℕ). IsImage (entries_from n c.args.batch.now) c.in_ok-image.image) (next_of c.last-first.result h.slots.version.last last) c.in_ok-image.ensures.image in
    let es : List Entry = entries_of h c.args.batch.now in
    let put = subst (λ (n : ℕ). IsPutAs c.in_ok-image.image n c.in_ok-table.table) (ap (λ (x : Held). x.next) c.self.view_is) c.in_ok-table.ensures.table in
    table_put c.tables_are_whole.ensures c.entries_are.ensures.same es c.in_ok-image.image h.next c.in_ok-table.table image put

pub returns-clause-told : goal.returns-clause-told
returns-clause-told g c =
    let was : Told = c.args.shelf.now in
    let is : Told = c.put.new.shelf in
    let told = subst (λ (n : ℕ). Becomes (putting n c.in_ok-image.image.bytes was) is) (ap (λ (x : Held). x.next) c.self.view_is) c.in_ok-table.ensures.told in
    subst (λ (b : List ℕ). Becomes (putting c.args.self.now.next b was) is) (sym c.in_ok-table.ensures.table.image) told

pub returns-clause-bytes : goal.returns-clause-bytes
returns-clause-bytes g c =
    let h : Held = c.args.self.now in
    let last : c.last-first.result ≡ c.args.self.now.slots.version.last = c.last-first.ensures.last
    ∙ (ap (λ (v : Levels). v.last) c.version.ensures.version ∙ ap (λ (x : Held). x.slots.version.last) c.self.view_is) in
    let sizes : c.sizes.result ≡ sizes_of c.args.self.now.options = c.sizes.ensures ∙ ap (λ (x : Held). sizes_of x.options) c.self.view_is in
    c.in_ok-table.ensures.table.image ∙ built_as h c.args.batch.now c.sizes.result c.last-first.result c.in_ok-image.image.bytes sizes last c.in_ok-image.ensures.bytes
