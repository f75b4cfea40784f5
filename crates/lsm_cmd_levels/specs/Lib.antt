-- What public clauses cite, and so what a caller reads
pub mod Sums
pub mod Listing
pub mod Totals
pub mod Reaching
pub mod Dues
pub mod Lines
pub mod Axis
pub mod Drawing
pub mod Layout
