pub mod DatabaseLaws
mod ForkLaws
pub mod KeepingLaws
pub mod PairLaws
pub mod RunLaws
pub mod Sending
