use Rattle.std.proofs.Common.{rules, ap, ◌∙◌, sym}
use Rattle.std.proofs.lemmas.List.Sorted.{IsPartitionPoint-from_clause}
use Rattle.lsm_codec.specs.Keys.{UserKey, user_le}
use Rattle.lsm_merge.proofs.Rising.{at_in_row, ends_before, not_in_row, parted}
use Rattle.lsm_merge.proofs.rows.is_in_row.Goals as goal

pub returns-in-Some : goal.returns-in-Some
returns-in-Some c = λ h.
    let row = c.args.row.now in
    let user = c.args.user.now in
    let first = c.partition_point-first.result in
    c.is_at_most.ensures ∙ ap (λ (low : UserKey). user_le low c.args.user.now) c.as_slice.ensures
    ∙ at_in_row row user first c.in-Some.range.now h c.in-Some.ensures.lookup.3.0 c.in-Some.ensures.lookup.1
    (IsPartitionPoint-from_clause (ends_before user) row first c.partition_point-first.ensures.partitioned (parted row user h) (λ a r q k. search rules))

pub returns-in-None : goal.returns-in-None
returns-in-None c = λ h.
    let row = c.args.row.now in
    let user = c.args.user.now in
    let first = c.partition_point-first.result in
    sym (not_in_row row user first c.in-None.ensures.lookup.3
    (IsPartitionPoint-from_clause (ends_before user) row first c.partition_point-first.ensures.partitioned (parted row user h) (λ a r q k. search rules)))
