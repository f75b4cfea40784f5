pub mod PairLaws
mod RunLaws
