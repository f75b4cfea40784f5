-- Of each key that is written, its last write: in the words of `lsm_batch`.
pub use Rattle.lsm_batch.specs.LastWrites.{KeepsLast, last_write, write_at}
