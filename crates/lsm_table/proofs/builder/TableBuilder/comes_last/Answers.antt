use Rattle.std.proofs.Common.{◌≡◌, Option, true, Ordering, sym, ap, ◌∙◌}
use Rattle.std.specs.Ordering.{is_lt}
use Rattle.lsm_codec.specs.Keys.{InternalKey}
use Rattle.lsm_codec.specs.KeyRef.{key_of}
use Rattle.lsm_block.specs.Block.{entry_of}
use Rattle.lsm_block.specs.Building.{after_last, last_key}
use Rattle.lsm_block.proofs.CallerLemmas.{ascends-push}
use Rattle.lsm_table.proofs.builder.TableBuilder.comes_last.Goals as goal

pub returns-in-Some-clause-ascends : goal.returns-in-Some-clause-ascends
returns-in-Some-clause-ascends c is value =
    let key = key_of c.args.key.now in
    let last = rw c.in-Some.is at c.last_key.ensures.key in
    let after : after_last (last_key c.args.self.now.entries) key ≡ true =
    ap (λ (o : Option InternalKey). after_last o key) (sym last) ∙ ap (λ (o : Ordering). is_lt o) (sym c.compare.ensures) ∙ sym c.is_lt.ensures ∙ is in
    ascends-push c.args.self.now.entries (entry_of key value) c.last_key.ensures.ascends after

pub returns-in-None-clause-ascends : goal.returns-in-None-clause-ascends
returns-in-None-clause-ascends c is value =
    let key = key_of c.args.key.now in
    let last = rw c.in-None.is at c.last_key.ensures.key in
    ascends-push c.args.self.now.entries (entry_of key value) c.last_key.ensures.ascends (ap (λ (o : Option InternalKey). after_last o key) (sym last))
