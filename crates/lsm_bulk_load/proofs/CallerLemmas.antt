-- What proofs of the crates above cite beside the public contracts.
pub use Rattle.lsm_bulk_load.proofs.EndingLaws.{reserves_still}
pub use Rattle.lsm_bulk_load.proofs.KeepingLaws.{come_compacting, come_ingests, come_learning, come_taken}
pub use Rattle.lsm_bulk_load.proofs.LoadLaws.{came_more, came_none}
pub use Rattle.lsm_bulk_load.proofs.MarkLaws.{even_first, even_out, fact_out, kept_compacting, kept_learning, kept_seated}
