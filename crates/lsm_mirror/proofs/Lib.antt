pub mod ToldLaws
pub mod StoredLaws
pub mod ReceiptLaws
