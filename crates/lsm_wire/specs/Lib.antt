-- What comes over a wire, and what goes
pub mod Happenings
-- Conversations over it
pub mod Conversing
