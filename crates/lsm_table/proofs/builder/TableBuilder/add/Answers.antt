use Rattle.std.proofs.Common.{◌≡◌, ◌++◌, ◌∷◌, [], sym, ap, ◌∙◌, subst, arith}
use Rattle.lsm_codec.specs.Entries.{Entry}
use Rattle.lsm_block.specs.Block.{Ascends}
use Rattle.lsm_block.specs.Building.{Building}
use Rattle.lsm_table.specs.TableBuilding.{PassesLimit}
use Rattle.lsm_table.specs.TableMaking.{Making, entries_made, Made}
use Rattle.lsm_table.proofs.MakingLaws.{building}
use Rattle.lsm_table.proofs.SettleLaws.{making, made_itself, made_seen}
use Rattle.lsm_table.proofs.StepLaws.{taken_ascends, adding, passes, passes_not, on_err, on_ok_by, on_err_by, either_made}
use Rattle.lsm_table.proofs.builder.TableBuilder.add.Goals as goal

pub invariant_of-self-in_err-has_room : goal.invariant_of-self-in_err-has_room
invariant_of-self-in_err-has_room c =
    let i = c.self.inside in
    let es = entries_made i.front.items i.index.entries i.taken.entries in
    made_itself i.options es c.settle.new.front.items c.settle.new.taken c.settle.new.index (c.in_ok-settle.ensures.ok es c.self.invariant)

pub returns-in_err-has_room-clause-err : goal.returns-in_err-has_room-clause-err
returns-in_err-has_room-clause-err c =
    let i = c.self.inside in
    let es = entries_made i.front.items i.index.entries i.taken.entries in
    on_err c.from_residual-in_err-has_room.result _ (made_seen i.options es c.settle.new.front.items c.settle.new.taken c.settle.new.index (c.in_ok-settle.ensures.ok es c.self.invariant) ∙ c.self.view_is)

pub invariant_of-self-then-not-branch : goal.invariant_of-self-then-not-branch
invariant_of-self-then-not-branch c =
    let i = c.self.inside in
    let es = entries_made i.front.items i.index.entries i.taken.entries in
    made_itself i.options es c.settle.new.front.items c.settle.new.taken c.settle.new.index (c.in_ok-settle.ensures.ok es c.self.invariant)

pub returns-then-not-branch-clause-err : goal.returns-then-not-branch-clause-err
returns-then-not-branch-clause-err c =
    let i = c.self.inside in
    let es = entries_made i.front.items i.index.entries i.taken.entries in
    made_seen i.options es c.settle.new.front.items c.settle.new.taken c.settle.new.index (c.in_ok-settle.ensures.ok es c.self.invariant) ∙ c.self.view_is

pub returns-then-not-branch-clause-large : goal.returns-then-not-branch-clause-large
returns-then-not-branch-clause-large c is =
    let i = c.self.inside in
    let es = entries_made i.front.items i.index.entries i.taken.entries in
    let e : Entry = record { user = c.args.user.now; seq = c.args.seq; kind = c.args.kind; value = c.args.value.now } in
    let all = passes i.options es c.settle.new.front.items c.settle.new.taken c.settle.new.index c.len-offset.result e (c.in_ok-settle.ensures.ok es c.self.invariant) c.in_ok-settle.ensures.not_full (omega (arith, c.len-offset.ensures)) (c.in_ok-has_room.ensures.no c.if-not-branch.true) in
    subst (λ (x : Making). PassesLimit x.options x.entries e) c.self.view_is all

pub add-requires : goal.add-requires
add-requires c =
    let i = c.self.inside in
    let es = entries_made i.front.items i.index.entries i.taken.entries in
    let e : Entry = record { user = c.args.user.now; seq = c.args.seq; kind = c.args.kind; value = c.args.value.now } in
    let a = subst (λ (x : Making). Ascends (x.entries ++ e ∷ [])) (sym c.self.view_is) c.requires.ascends in
    record { ascends = taken_ascends i.options es c.settle.new.front.items c.settle.new.taken c.settle.new.index e (c.in_ok-settle.ensures.ok es c.self.invariant) a }

pub invariant_of-self-2 : goal.invariant_of-self-2
invariant_of-self-2 c =
    let i = c.self.inside in
    let es = entries_made i.front.items i.index.entries i.taken.entries in
    let e : Entry = record { user = c.args.user.now; seq = c.args.seq; kind = c.args.kind; value = c.args.value.now } in
    let a = subst (λ (x : Making). Ascends (x.entries ++ e ∷ [])) (sym c.self.view_is) c.requires.ascends in
    either_made c.add.result i.options es c.settle.new.front.items c.settle.new.taken c.settle.new.index c.add.new.self c.len-offset.result e (c.in_ok-settle.ensures.ok es c.self.invariant) c.in_ok-settle.ensures.not_full a
    (c.in_ok-has_room.ensures.yes c.if-not-branch.false) (omega (arith, c.len-offset.ensures)) c.add.ensures.ok c.add.ensures.err

pub returns-clause-ok : goal.returns-clause-ok
returns-clause-ok c =
    let i = c.self.inside in
    let es = entries_made i.front.items i.index.entries i.taken.entries in
    let e : Entry = record { user = c.args.user.now; seq = c.args.seq; kind = c.args.kind; value = c.args.value.now } in
    let a = subst (λ (x : Making). Ascends (x.entries ++ e ∷ [])) (sym c.self.view_is) c.requires.ascends in
    let front = c.settle.new.front.items in
    let index = c.settle.new.index in
    on_ok_by c.add.result (c.add.new.self ≡ building c.settle.new.taken.interval (c.settle.new.taken.entries ++ e ∷ [])) _ c.add.ensures.ok
    (λ is. made_seen i.options (es ++ e ∷ []) front c.add.new.self index
    (adding i.options es front c.settle.new.taken index c.add.new.self c.len-offset.result e (c.in_ok-settle.ensures.ok es c.self.invariant) c.in_ok-settle.ensures.not_full a
    (c.in_ok-has_room.ensures.yes c.if-not-branch.false) (omega (arith, c.len-offset.ensures)) is)
    ∙ ap (λ (x : Making). making x.options (x.entries ++ e ∷ [])) c.self.view_is)

pub returns-clause-err : goal.returns-clause-err
returns-clause-err c =
    let i = c.self.inside in
    let es = entries_made i.front.items i.index.entries i.taken.entries in
    let front = c.settle.new.front.items in
    let index = c.settle.new.index in
    on_err_by c.add.result (c.add.new.self ≡ c.settle.new.taken) _ c.add.ensures.err
    (λ is. made_seen i.options es front c.add.new.self index (subst (λ (b : Building). Made i.options es front b index) (sym is) (c.in_ok-settle.ensures.ok es c.self.invariant)) ∙ c.self.view_is)

pub returns-clause-fits : goal.returns-clause-fits
returns-clause-fits c =
    let i = c.self.inside in
    let es = entries_made i.front.items i.index.entries i.taken.entries in
    let e : Entry = record { user = c.args.user.now; seq = c.args.seq; kind = c.args.kind; value = c.args.value.now } in
    on_ok_by c.add.result (c.add.new.self ≡ building c.settle.new.taken.interval (c.settle.new.taken.entries ++ e ∷ [])) _ c.add.ensures.ok
    (λ is. subst (λ (x : Making). PassesLimit x.options x.entries e → ⊥) c.self.view_is
    (passes_not i.options es c.settle.new.front.items c.settle.new.taken c.settle.new.index c.len-offset.result e (c.in_ok-settle.ensures.ok es c.self.invariant) c.in_ok-settle.ensures.not_full (omega (arith, c.len-offset.ensures))
    (c.in_ok-has_room.ensures.yes c.if-not-branch.false)))
