pub use Rattle.lsm_shelf.specs.ShelfFault
pub use Rattle.lsm_shelf.specs.Told
-- What public clauses cite, and so what a caller reads
pub mod Options
pub mod Fault
pub mod Reading
pub mod Handle
pub mod Footer
pub mod StoredBlock
pub mod Table
pub mod TableReading
pub mod TableBuilding
pub mod TableMaking
pub mod HeldTable
pub mod Registry
pub mod TableImage
pub mod ReadFault
pub mod Found
pub mod Searching
-- What crates above cite alone
pub mod OpenTable
-- What private functions and proofs cite alone
pub mod Judging
