use Rattle.std.proofs.Common.{refl}
use Rattle.lsm_codec.specs.KeyRef.{key_of}
use Rattle.lsm_block.specs.Block.{entry_of}
use Rattle.lsm_merge.specs.Outputs.{entries_of_last}
use Rattle.lsm_merge.specs.PutBefore.{IsClosing, IsTime}
use Rattle.lsm_merge.proofs.PutBefore.{one_when}
use Rattle.lsm_merge.proofs.PutLaws.{on_err}
use Rattle.lsm_merge.proofs.outputs.Outputs.take.Goals as goal

pub returns-clause-stands : goal.returns-clause-stands
returns-clause-stands g c =
    let m = c.args.self.now in
    let e = entry_of (key_of c.args.key.now) c.args.value.now in
    on_err c.place.result
    (one_when m.options m.options (entries_of_last m.last) (IsClosing m e.user) (IsTime m c.args.kept e) m.put c.place.new.self.put c.args.shelf.now c.place.new.shelf refl
    (λ closing. (c.if-not-kept.false, closing)))
    c.place.ensures.stands
