mod Elements
mod Tickets
mod Indices
mod Machine
mod Handing
mod Reservations
mod Results
mod Alone
mod Standing
pub mod CallerLemmas
