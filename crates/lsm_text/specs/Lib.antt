-- What public clauses cite, and so what a caller reads
pub mod Numbers
pub mod EntryList
pub mod EntryReading
pub mod EntryPrinting
pub mod Printing
pub mod Spelling
pub mod SyntaxFault
pub mod BatchText
pub mod EntryView
pub mod ReaderView
pub mod Fault
pub mod FaultText
pub mod ManifestPrinting
