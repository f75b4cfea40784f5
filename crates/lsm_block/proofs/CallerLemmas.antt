-- What proofs of the crates above cite of the words in `specs/`.
pub use Rattle.lsm_codec.proofs.CallerLemmas.{IsBytes-after}
pub use Rattle.lsm_block.proofs.EntryLaws.{IsBytes-take, IsBytes-drop, IsBytes-front}
pub use Rattle.lsm_block.proofs.BlockLaws.{block_takes, block_again}
pub use Rattle.lsm_block.proofs.BuildLaws.{ascends-push, block_built}
pub use Rattle.lsm_block.proofs.OrderLaws.{below-nothing, below-step, below-stop, ascends-tail}
pub use Rattle.lsm_block.proofs.HeldLaws.{held_is, held_block}
