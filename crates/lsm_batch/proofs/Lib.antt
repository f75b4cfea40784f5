mod BatchLaws
mod LimitLaws
mod LastLaws
pub mod CallerLemmas
