-- What proofs above may cite: depths of files, files that are named, and scans from a user key on.
pub use Rattle.lsm_query.proofs.DepthOrder.{less_shallower, shallower_less}
pub use Rattle.lsm_query.proofs.NamedFiles.{names_as}
pub use Rattle.lsm_iterators.proofs.CallerLemmas.{past_all}
pub use Rattle.lsm_query.proofs.ScanLaws.{past_scan}
pub use Rattle.lsm_query.proofs.PastScans.{past_pairs, some_scan}
