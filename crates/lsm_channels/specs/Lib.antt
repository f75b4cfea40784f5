-- What a session is seen as, and what it answers
pub mod Served
pub mod Seen
pub mod Pinning
pub mod Reading
pub mod Scanning
pub mod Writing
pub mod Snapshots
pub mod Counting
pub mod Collecting
pub mod Compacting
pub mod Answered
pub mod Telling
pub mod Answering
-- What the lock keeps, and how channels are served
pub mod Keeping
pub mod Serving
-- How a database is opened
pub mod Starting
pub mod OpeningFault
pub mod Opening
-- What private functions cite alone
pub mod Refusing
pub mod Refusal
pub mod Stepping
