mod AnswerLaws
mod MakingLaws
mod ManifestLaws
mod PlayOutcomes
mod StatusLaws
