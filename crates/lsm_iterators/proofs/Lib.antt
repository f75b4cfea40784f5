mod FrontLaws
mod WalkLaws
pub mod SeekLaws
mod RunLaws
mod TreeLaws
mod ShownLaws
mod FollowedLaws
mod Joining
mod AgeLaws
pub mod CallerLemmas
