pub mod BlocksLaws
pub mod AheadLaws
pub mod OpeningLaws
pub mod CursorLaws
pub mod GettingLaws
pub mod AdvanceLaws
pub mod StepLaws
