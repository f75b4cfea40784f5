pub mod LooksLaws
pub mod TableLaws
pub mod ViewLaws
pub mod PlacedLaws
pub mod VersionLaws
