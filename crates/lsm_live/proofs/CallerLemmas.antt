-- What proofs above may cite: elements by their indices, live jobs as the plain machine has them, live results as it installs them, and reservations.
pub use Rattle.lsm_live.proofs.Elements.{each_more, has_at}
pub use Rattle.lsm_live.proofs.Handing.{result_booked, result_is, result_ticket}
pub use Rattle.lsm_live.proofs.Machine.{live_has, live_says, lives_added, lives_booked, lives_without}
pub use Rattle.lsm_live.proofs.Reservations.{reserved_has}
