-- What proofs of the crates above cite of the words in `specs/`.
pub use Rattle.lsm_codec.proofs.Lists.{all_at, any_at, any_says, contains_from, contains_says, filter_has, flat_has, has_cases, has_filter, has_flat, has_left, has_right}
pub use Rattle.lsm_codec.proofs.Varints.{IsBytes, IsBytes-after, Front, done_is, varint_takes, varint_again, is_shortest, shortest-last, shortest-more}
pub use Rattle.lsm_codec.proofs.Keys.{key_from_test, test_from_key, user_le_refl, user_le_trans, user_le_antisym, user_le_total}
pub use Rattle.lsm_codec.proofs.KeyOrder.{slice_cmp-same, key_cmp_total, key_cmp-same, key_cmp-swapped, key_cmp-Equal}
pub use Rattle.lsm_codec.proofs.KeyBytes.{length-key_bytes, take-key_bytes, IsKey-unique}
pub use Rattle.lsm_codec.proofs.InternalKeys.{internal_takes, internal_again, internal_of, internal_long, is_key_at, key_again, key_long, parts_of_key}
pub use Rattle.lsm_codec.proofs.Newest.{IsAllowed, IsNewest, Finds, newest_finds, allowed_says, allowed_from, kind_number_le, same_kind, seq_le, stamp_lt}
