use Rattle.std.proofs.Common.{◌-◌, ◌≤◌, ◌^◌, List, length, take, drop, inl, inr, sym, ◌∙◌, ap, subst, ◌≡◌}
use Rattle.std.specs.Prelude.{IfOk, Err}
use Rattle.lsm_codec.specs.KeyRef.{key_of}
use Rattle.lsm_block.specs.declared.build_fault.BuildFault.TheVariants.{TooLarge}
use Rattle.lsm_table.specs.TableBuilding.{groups_by, index_block, table_bytes}
use Rattle.lsm_table.specs.TableMaking.{Making}
use Rattle.lsm_batch.specs.declared.write.Write.{Write}
use Rattle.lsm_batch.specs.Images.{Imaged, IsImage, PassesIn}
use Rattle.lsm_batch.proofs.BatchLaws.{ascends_made, fault_is, made_of, parts_are}
use Rattle.lsm_batch.proofs.batch.Batch.build_run.Goals as goal

pub add_all-requires-clause-ascends : goal.add_all-requires-clause-ascends
add_all-requires-clause-ascends c =
    let ws : List Write = c.args.self.now in
    let xs : List Write = c.as_slice.result.now in
    let one : Write = c.one-item.result in
    let all = parts_are ws xs one (sym (c.as_slice.ensures.value ∙ c.self.view_is)) c.in-len1-up.len_at_least c.one-item.is in
    let made = made_of c.args.options c.args.first ws (take (length xs - 1) (drop 1 xs)) one (key_of c.key_at.result) c.bytes.result.now c.in_ok-table.table all c.key_at.ensures c.bytes.ensures c.in_ok-table.ensures.ok in
    ascends_made c.args.first ws c.args.options _ c.requires.rises made

pub returns-in_err-add_all-clause-large : goal.returns-in_err-add_all-clause-large
returns-in_err-add_all-clause-large c = λ is.
    let ws : List Write = c.args.self.now in
    let xs : List Write = c.as_slice.result.now in
    let one : Write = c.one-item.result in
    let all = parts_are ws xs one (sym (c.as_slice.ensures.value ∙ c.self.view_is)) c.in-len1-up.len_at_least c.one-item.is in
    let made = made_of c.args.options c.args.first ws (take (length xs - 1) (drop 1 xs)) one (key_of c.key_at.result) c.bytes.result.now c.in_ok-table.table all c.key_at.ensures c.bytes.ensures c.in_ok-table.ensures.ok in
    let fault = fault_is c.from_residual-in_err-add_all.result c.in_err-add_all.field-0.0 TooLarge c.from_residual-in_err-add_all.ensures.1 is in
    inl (subst (λ (m : Making). PassesIn m.options m.entries) made (c.in_err-add_all.ensures.large (ap Err fault)))

pub returns-clause-bytes : goal.returns-clause-bytes
returns-clause-bytes c =
    let ws : List Write = c.args.self.now in
    let xs : List Write = c.as_slice.result.now in
    let one : Write = c.one-item.result in
    let all = parts_are ws xs one (sym (c.as_slice.ensures.value ∙ c.self.view_is)) c.in-len1-up.len_at_least c.one-item.is in
    let made = made_of c.args.options c.args.first ws (take (length xs - 1) (drop 1 xs)) one (key_of c.key_at.result) c.bytes.result.now c.in_ok-table.table all c.key_at.ensures c.bytes.ensures c.in_ok-table.ensures.ok in
    subst (λ (m : Making). IfOk c.finish.result (λ (i : Imaged). i.bytes ≡ table_bytes m.options m.entries)) (c.in_ok-add_all.ensures.ok ∙ made) c.finish.ensures.bytes

pub returns-clause-image : goal.returns-clause-image
returns-clause-image c =
    let ws : List Write = c.args.self.now in
    let xs : List Write = c.as_slice.result.now in
    let one : Write = c.one-item.result in
    let all = parts_are ws xs one (sym (c.as_slice.ensures.value ∙ c.self.view_is)) c.in-len1-up.len_at_least c.one-item.is in
    let made = made_of c.args.options c.args.first ws (take (length xs - 1) (drop 1 xs)) one (key_of c.key_at.result) c.bytes.result.now c.in_ok-table.table all c.key_at.ensures c.bytes.ensures c.in_ok-table.ensures.ok in
    subst (λ (m : Making). IfOk c.finish.result (IsImage m.entries)) (c.in_ok-add_all.ensures.ok ∙ made) c.finish.ensures.image

pub returns-clause-large : goal.returns-clause-large
returns-clause-large c = λ is.
    let ws : List Write = c.args.self.now in
    let xs : List Write = c.as_slice.result.now in
    let one : Write = c.one-item.result in
    let all = parts_are ws xs one (sym (c.as_slice.ensures.value ∙ c.self.view_is)) c.in-len1-up.len_at_least c.one-item.is in
    let made = made_of c.args.options c.args.first ws (take (length xs - 1) (drop 1 xs)) one (key_of c.key_at.result) c.bytes.result.now c.in_ok-table.table all c.key_at.ensures c.bytes.ensures c.in_ok-table.ensures.ok in
    inr (subst (λ (m : Making). 2 ^ 32 ≤ length (index_block m.options.restart_interval (groups_by m.options m.entries))) (c.in_ok-add_all.ensures.ok ∙ made) (c.finish.ensures.large is))
