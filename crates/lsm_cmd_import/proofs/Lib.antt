pub mod MadeLaws
pub mod RunLaws
