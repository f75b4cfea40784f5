use Rattle.std.proofs.Common.{◌≡◌, ◌∙◌, Some, [], sym, subst}
use Rattle.lsm_codec.specs.KeyRef.{key_of}
use Rattle.lsm_block.specs.Block.{entry_of}
use Rattle.lsm_model.specs.Streams.{is_shadowed}
use Rattle.lsm_iterators.specs.Heads.{first_of, key_in}
use Rattle.lsm_merge.specs.Remembered.{Streaming}
use Rattle.lsm_merge.proofs.StreamLaws.{order_at}
use Rattle.lsm_merge.proofs.stream.Stream.shadows.Goals as goal

pub returns : goal.returns
returns g c = λ h.
    let walk = c.self.inside.walk in
    let key = key_of c.args.key.now in
    let there = subst (λ (s : Streaming). Some key ≡ key_in (first_of s.left.placed)) (sym c.self.view_is) h in
    subst (λ (s : Streaming). c.shadows_by.result ≡ is_shadowed c.args.floor s.before (entry_of key [])) c.self.view_is
    (c.shadows_by.ensures walk.passed c.self.inside.kind key (c.self.invariant.1 ∙ order_at walk.passed walk.left.placed key there))
