-- What public clauses cite, and so what a caller reads
pub mod LogFault
pub mod Log
pub mod LogReading
pub mod LogView
pub mod LogWriting
pub mod EditFault
pub mod Last
pub mod Edit
pub mod EditReading
pub mod EditView
pub mod EditFit
pub mod EditWriting
pub mod ReplayFault
pub mod Replay
pub mod FileOrder
pub mod HeldLevel
pub mod Shape
pub mod Manifest
pub mod WholeEdit
-- What private functions and proofs cite alone
pub mod DraftView
pub mod LentView
pub mod Standing
pub mod LastValues
pub mod Level
