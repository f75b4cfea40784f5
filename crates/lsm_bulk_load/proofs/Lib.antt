pub mod MarkLaws
pub mod LoadLaws
pub mod KeepingLaws
pub mod EndingLaws
pub mod AnswerLaws
pub mod CallerLemmas
