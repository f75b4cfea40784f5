mod Quiet
mod RoundLaws
mod CompactOutcomes
mod RunLaws
