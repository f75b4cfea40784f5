use Rattle.std.proofs.Common.{◌≡◌, subst}
use Rattle.lsm_codec.specs.KeyRef.{key_of}
use Rattle.lsm_merge.specs.Cuts.{closes}
use Rattle.lsm_merge.specs.Outputs.{Unfinished}
use Rattle.lsm_merge.specs.Work.{finished}
use Rattle.lsm_merge.proofs.Begun.{closes_some}
use Rattle.lsm_merge.proofs.output.Output.closes.Goals as goal

pub returns : goal.returns
unfolding finished
returns c =
    let all = closes_some (finished c.self.inside.table.options) c.args.target c.self.inside.table.entries (key_of c.last_key.result) c.args.user.now c.last_key.ensures.key in
    subst (λ (o : Unfinished). c.may_close.result ≡ closes (finished o.options) c.args.target o.entries c.args.user.now) c.self.view_is
    (cc (c.may_close.ensures, c.written.ensures, all))
