use Rattle.std.proofs.Common.{◌≡◌, Bool, true, false, Some, ap, ◌∙◌}
use Rattle.std.specs.Prelude.{◌&&◌, nat_le}
use Rattle.std.specs.Ordering.{is_eq}
use Rattle.lsm_merge.specs.Remembered.{order_to}
use Rattle.lsm_merge.proofs.StreamLaws.{shadows_some}
use Rattle.lsm_merge.proofs.stream.shadows_by.Goals as goal

pub returns-then-is_eq : goal.returns-then-is_eq
returns-then-is_eq c = λ user kind key e.
    let at : Some c.in-Some.order ≡ order_to user key.user = cc (c.in-Some.is, e) in
    let same : true ≡ is_eq c.in-Some.order = cc (c.is_eq.ensures, c.if-is_eq.true) in
    ap (λ (b : Bool). b && nat_le c.args.seq c.args.floor) same ∙ shadows_some c.in-Some.order c.args.floor c.args.seq user kind key at

pub returns-else-is_eq : goal.returns-else-is_eq
returns-else-is_eq c = λ user kind key e.
    let at : Some c.in-Some.order ≡ order_to user key.user = cc (c.in-Some.is, e) in
    let other : false ≡ is_eq c.in-Some.order = cc (c.is_eq.ensures, c.if-is_eq.false) in
    let no : c.is_eq.result ≡ false = cc c.if-is_eq.false in
    no ∙ ap (λ (b : Bool). b && nat_le c.args.seq c.args.floor) other ∙ shadows_some c.in-Some.order c.args.floor c.args.seq user kind key at
