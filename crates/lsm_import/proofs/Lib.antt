pub mod AnswerLaws
pub mod CopyLaws
pub mod LogLaws
pub mod StandingLaws
pub mod MadeLaws
pub mod CallerLemmas
