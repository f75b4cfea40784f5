use Rattle.std.proofs.Common.{sym, ap, ◌∙◌, subst}
use Rattle.lsm_codec.specs.KeyRef.{key_of}
use Rattle.lsm_table.specs.Table.{IsImage}
use Rattle.lsm_table.specs.TableMaking.{Making}
use Rattle.lsm_inflate.proofs.FillingLaws.{image_of, no_last, finished_none}
use Rattle.lsm_inflate.proofs.filling.Filling.finish.Goals as goal

pub returns-in_default-last_key-clause-plain : goal.returns-in_default-last_key-clause-plain
returns-in_default-last_key-clause-plain c =
    ap (λ (m : Making). m.entries) (sym c.self.view_is) ∙ no_last c.self.inside.builder.entries (sym c.in_default-last_key.ensures.key)

pub returns-in_default-last_key-clause-bytes : goal.returns-in_default-last_key-clause-bytes
returns-in_default-last_key-clause-bytes c =
    finished_none c.args.self.options c.args.self.entries
    (ap (λ (m : Making). m.entries) (sym c.self.view_is) ∙ no_last c.self.inside.builder.entries (sym c.in_default-last_key.ensures.key))

pub returns-clause-plain : goal.returns-clause-plain
returns-clause-plain c =
    let made : IsImage c.self.inside.builder.entries c.in-Some.smallest c.in_ok-largest.largest c.in_ok-bytes.bytes.items =
    image_of c.self.inside.builder.entries c.in-Some.smallest c.in_ok-largest.largest c.in_ok-bytes.bytes.items (key_of c.in-Some-last_key.last)
    (rw c.in-Some.is at c.self.invariant) (sym c.in-Some-last_key.ensures.key) c.in_ok-largest.ensures c.in_ok-bytes.ensures.table in
    subst (λ (m : Making). IsImage m.entries c.in-Some.smallest c.in_ok-largest.largest c.in_ok-bytes.bytes.items) c.self.view_is made
