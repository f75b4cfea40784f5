pub mod AheadLaws
pub mod LineLaws
pub mod BufferLaws
pub mod GatherLaws
pub mod ObjectLaws
pub mod CutLaws
pub mod PassLaws
pub mod CallerLemmas
