-- What proofs of the crates above cite beside the public contracts: what is recorded as the next number rises, the keys of a recorded
-- version, what holds of a database that was found, and which calls changed what lies on the shelf.
pub use Rattle.lsm_journal.proofs.Recording.{later, recorded_fit}
pub use Rattle.lsm_journal.proofs.Finding.{found_below, found_recorded, found_without_room}
pub use Rattle.lsm_journal.proofs.Made.{create_refused_made, created_made, find_refused_made, found_made, sent_made}
