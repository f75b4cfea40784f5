-- What proofs of the crates above cite beside the public contracts.
pub use Rattle.lsm_text.proofs.PartLaws.{HasNo, HasNo-append, lines_of-nil, parts_again, parts_none, parts_take}
pub use Rattle.lsm_text.proofs.SpellingLaws.{spelled-is, word_clear, word_one, word_some}
pub use Rattle.lsm_text.proofs.ListLaws.{is_less, list_bad, list_takes}
pub use Rattle.lsm_text.proofs.EntryPieces.{list_none, list_one, list_split}
pub use Rattle.lsm_text.proofs.PrinterLaws.{Printed, err_finish, on_err, printed_ends, printed_more, printed_none, printed_stops}
pub use Rattle.lsm_text.proofs.BatchLaws.{goes_on, next_is}
pub use Rattle.lsm_text.proofs.OneBatch.{lines_one}
