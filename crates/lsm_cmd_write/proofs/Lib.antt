mod WritingOutcomes
mod Numbers
mod SpareFiles
mod SpareLaws
mod RunLaws
mod QuickOutcomes
