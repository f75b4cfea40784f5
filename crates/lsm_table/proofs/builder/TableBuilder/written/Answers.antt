use Rattle.std.proofs.Common.{◌≡◌, ◌+◌, ℕ, length, ap, subst, arith}
use Rattle.lsm_block.specs.Building.{block_bytes}
use Rattle.lsm_table.specs.TableBuilding.{written_bytes}
use Rattle.lsm_table.specs.TableMaking.{Making, entries_made}
use Rattle.lsm_table.proofs.MakingLaws.{written_full}
use Rattle.lsm_table.proofs.SettleLaws.{full_is}
use Rattle.lsm_table.proofs.builder.TableBuilder.written.Goals as goal

pub returns-else-open-self : goal.returns-else-open-self
returns-else-open-self c =
    let i = c.self.inside in
    let es = entries_made i.front.items i.index.entries i.taken.entries in
    let full = full_is i.options es i.front.items i.taken i.index c.size_estimate-open.result c.self.invariant c.size_estimate-open.ensures c.if-open-self.false in
    let size : length (block_bytes i.taken.interval i.taken.entries) ≡ length (block_bytes i.options.restart_interval i.taken.entries) = ap (λ (n : ℕ). length (block_bytes n i.taken.entries)) c.self.invariant.taken_by in
    let all = written_full i.options es i.front.items i.taken i.index c.self.invariant full in
    subst (λ (x : Making). c.len-else-open-self.result + c.size_estimate-open.result + 5 ≡ length (written_bytes x.options x.entries)) c.self.view_is
    (omega (arith, all, size, c.size_estimate-open.ensures, c.len-else-open-self.ensures))
