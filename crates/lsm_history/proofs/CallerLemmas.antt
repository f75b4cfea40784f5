-- What proofs above may cite: laws of histories that go on from others.
pub use Rattle.lsm_history.proofs.Laters.{later_more, later_none, later_same, later_trans}
