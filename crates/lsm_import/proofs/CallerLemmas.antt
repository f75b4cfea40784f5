-- What proofs of the crates above cite beside the public contracts.
pub use Rattle.lsm_import.proofs.MadeLaws.{Law, answers_from, only_puts, puts_none, puts_then}
pub use Rattle.lsm_import.proofs.MadeLaws.{writes_came}
pub use Rattle.lsm_import.proofs.LogLaws.{logs_into}
