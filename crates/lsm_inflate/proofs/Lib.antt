mod PlainReading
mod StepLaws
mod StoredLaws
mod FillingLaws
mod DataLaws
mod TableLaws
mod LoopLaws
mod AnswerLaws
