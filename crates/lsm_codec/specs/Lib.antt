-- What public clauses cite, and so what a caller reads
pub mod Fault
pub mod Gives
pub mod Lists
pub mod Varint
pub mod Keys
pub mod Entries
pub mod KeyRef
pub mod Crc
pub mod Mask
-- What private functions and proofs cite alone
pub mod Turns
pub mod Words
