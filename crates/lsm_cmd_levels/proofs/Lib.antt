mod LoopLaws
mod TotalLaws
mod ListingLaws
mod SpanLaws
mod DueLaws
mod DrawingLaws
mod ShowLaws
mod ScoreLaws
