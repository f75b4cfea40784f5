use Rattle.std.proofs.Common.{◌≡◌, ◌≤◌, ℕ, arith}
use Rattle.lsm_state.specs.declared.state_fault.StateFault.{StateFault}
use Rattle.lsm_state.specs.declared.state_fault.StateFault.TheVariants.{Conflict}
use Rattle.lsm_state.proofs.ReserveLaws.{range_refused}
use Rattle.lsm_state.proofs.state.State.plan_over.Goals as goal

pub returns-in_default : goal.returns-in_default
returns-in_default g c =
    let e : StateFault = c.in-Err.fault in
    let low : c.level.result ≤ 5 =
    (let same = c.level.ensures in let most = c.requires.level in omega arith) in
    let other : (n : ℕ) → e ≡ Conflict n → ⊥ = c.in_default.not-Conflict in
    record {
      planned = λ y. tt;
      stands = tt;
      clear = tt;
      refused =
          range_refused g.S.Shelf.honest c.args.self.now _ _ _ e low c.in-Err.ensures.unspent other
          c.in-Err.ensures.refused;
    }
