-- What a caller's proof cites: of places and footers, of tables and what they name, of a search, of
-- what opening reads, of a shelf's calls.
pub use Rattle.lsm_table.proofs.HandleLaws.{handle_takes, handle_again}
pub use Rattle.lsm_table.proofs.FooterLaws.{footer_takes, footer_again, ends}
pub use Rattle.lsm_table.proofs.ReadingLaws.{done, ok_is, guard_ok}
pub use Rattle.lsm_table.proofs.KeyOrder.{key_cmp_total}
pub use Rattle.lsm_table.proofs.IndexLaws.{data_ascends}
pub use Rattle.lsm_table.proofs.HeldTableLaws.{table_held, named, names_none, names_part, names_all}
pub use Rattle.lsm_table.proofs.SearchLaws.{either_bool, below-nothing}
pub use Rattle.lsm_table.proofs.GetLaws.{sought_first, below_append, below_skip, found_at}
pub use Rattle.lsm_table.proofs.OpenLaws.{opening_again, opened_names, named_again, named_there, memory_only}
pub use Rattle.lsm_table.proofs.Telling.{becomes_same, becomes_then, counted_later, read_counted_later}
