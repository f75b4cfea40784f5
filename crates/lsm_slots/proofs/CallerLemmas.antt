-- What proofs above may cite: elements of slots by their places.
pub use Rattle.lsm_slots.proofs.Elements.{set_else, set_found, set_here}
