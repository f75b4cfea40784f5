pub mod ByteLaws
pub mod FieldLaws
pub mod ItemLaws
pub mod RequestLaws
pub mod OpeningLaws
pub mod HeldLaws
