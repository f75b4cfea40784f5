-- What public clauses cite, and so what a caller reads
pub mod HeldManifest
pub mod Recorded
pub mod Difference
pub mod Writing
pub mod Sending
pub mod Recovering
pub mod RecoverFault
pub mod OpenFault
pub mod Finding
