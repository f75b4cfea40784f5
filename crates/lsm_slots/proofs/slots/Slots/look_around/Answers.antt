use Rattle.std.proofs.Common.{◌≡◌, ◌+◌, ◌∙◌, ◌<◌, length, true, false, sym, subst, arith}
use Rattle.lsm_slots.specs.Slots.{MayFree, Slotted}
use Rattle.lsm_slots.proofs.SlotLaws.{AreGone, gone_all, gone_looked, gone_none, gone_passed}
use Rattle.lsm_slots.proofs.slots.Slots.look_around.Goals as goal
use Rattle.lsm_slots.proofs.slots.Slots.look_around.Goals.{then-may_free, else-may_free}

pub loop-slot-init : goal.loop-slot-init
loop-slot-init g c = gone_none c.args.self.now

pub may_free-requires-after_bounds : goal.may_free-requires-after_bounds
may_free-requires-after_bounds g c κs within =
    let same = c.loop-slot.invariant.looked.length in
    let n = c.count-slot-end.ensures in
    let lt = c.loop-slot-test.true in
    omega arith

pub loop-slot-preserved : goal.loop-slot-preserved
loop-slot-preserved g c =
    let s : Slotted = c.args.self.now in
    let slot = c.loop-slot.slot in
    let n = c.count-slot-end.ensures in
    let test = c.loop-slot-test.true in
    let lt : slot < length s.epochs = omega arith in
    elim c.if-may_free.branch [
      | then-may_free w ↦ subst (λ (v : Slotted). AreGone s v (slot + 1)) (sym w.self-is)
          (gone_looked s c.loop-slot.self w.look.new.self slot lt c.loop-slot.invariant (c.may_free.ensures.0 w.if-may_free.true) w.look.ensures.looked w.look.ensures.looks w.look.ensures.others)
      | else-may_free w ↦ (
          let none : MayFree c.loop-slot.self slot → ⊥ = λ m. (let yes : c.may_free.result ≡ true = c.may_free.ensures.1 m in let no : c.may_free.result ≡ false = w.if-may_free.false in let both : true ≡ false = sym yes ∙ no in cc) in
          subst (λ (v : Slotted). AreGone s v (slot + 1)) (sym w.self-is) (gone_passed s c.loop-slot.self slot lt c.loop-slot.invariant none))
    ]

pub returns-clause-looks : goal.returns-clause-looks
returns-clause-looks g c = (let n = c.count-slot-end.ensures in let past = c.loop-slot-test.false in gone_all c.args.self.now c.loop-slot.self c.loop-slot.slot (omega arith) c.loop-slot.invariant)
