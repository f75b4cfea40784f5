use Rattle.std.proofs.Common.{◌∙◌, ap, sym}
use Rattle.std.specs.Ordering.{is_lt}
use Rattle.lsm_codec.specs.KeyRef.{key_of}
use Rattle.lsm_codec.specs.Keys.{InternalKey, key_cmp}
use Rattle.lsm_repair.proofs.MergeLaws.{comes_behind, same_some}
use Rattle.lsm_repair.proofs.merging.comes_last.Goals as goal

pub returns-clause-ascends : goal.returns-clause-ascends
returns-clause-ascends c = λ t value.
    comes_behind c.args.table.now.entries (key_of c.last_key.result) (key_of c.args.key.now) value
    c.last_key.ensures.ascends c.last_key.ensures.key
    (ap is_lt (sym c.compare-order.ensures) ∙ sym c.is_lt.ensures ∙ t)

pub returns-clause-later : goal.returns-clause-later
returns-clause-later c = λ last e.
    c.is_lt.ensures ∙ ap is_lt c.compare-order.ensures
    ∙ ap (λ (k : InternalKey). is_lt (key_cmp k (key_of c.args.key.now)))
    (same_some (key_of c.last_key.result) last (sym c.last_key.ensures.key ∙ e))
