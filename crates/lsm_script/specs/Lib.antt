-- What public clauses cite, and so what a caller reads
pub mod CommandFault
pub mod Replies
pub mod Scripts
pub mod Steps
pub mod History
pub mod Drawing
pub mod Words
pub mod CommandLine
pub mod RefusalText
pub mod ReplyText
