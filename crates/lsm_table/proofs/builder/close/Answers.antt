use Rattle.std.proofs.Common.{◌++◌, ◌^◌, ◌≤◌, [], List, ℕ, length, sym, ap, ◌∙◌, subst, arith}
use Rattle.std.proofs.lemmas.List.{append-nil}
use Rattle.lsm_codec.specs.KeyRef.{key_of}
use Rattle.lsm_codec.specs.Entries.{Entry}
use Rattle.lsm_block.specs.Block.{Ascends}
use Rattle.lsm_block.specs.Building.{block_bytes}
use Rattle.lsm_table.specs.Handle.{handle_text}
use Rattle.lsm_table.proofs.MakingLaws.{building}
use Rattle.lsm_table.proofs.CloseLaws.{one_group, no_group, same_building, added_index}
use Rattle.lsm_table.proofs.builder.close.Goals as goal

pub returns-in_default-clause-block : goal.returns-in_default-clause-block
returns-in_default-clause-block c = (no_group c.args.taken.now.interval 0 c.args.taken.now.entries c.in_default.ensures).block

pub returns-in_default-clause-ok : goal.returns-in_default-clause-ok
returns-in_default-clause-ok c =
    sym (append-nil c.args.front.now.items) ∙ ap (λ (xs : List ℕ). c.args.front.now.items ++ xs) (sym (no_group c.args.taken.now.interval 0 c.args.taken.now.entries c.in_default.ensures).text_is)

pub returns-in_default-clause-cleared : goal.returns-in_default-clause-cleared
returns-in_default-clause-cleared c = same_building c.args.taken.now [] (no_group c.args.taken.now.interval 0 c.args.taken.now.entries c.in_default.ensures).is

pub returns-in_default-clause-indexed : goal.returns-in_default-clause-indexed
returns-in_default-clause-indexed c =
    let n = no_group c.args.taken.now.interval (length c.args.front.now.items) c.args.taken.now.entries c.in_default.ensures in
    same_building c.args.index.now _ (sym (append-nil c.args.index.now.entries) ∙ ap (λ (xs : List Entry). c.args.index.now.entries ++ xs) (sym n.index_is))

pub add-requires : goal.add-requires
add-requires c =
    let text = c.deref.ensures.value ∙ c.in_ok-put.ensures.ok ∙ ap (λ (xs : List ℕ). xs ++ handle_text (record { offset = c.len-start.result; size = c.size_estimate.result })) c.clear.ensures.items in
    let same = added_index c.args.index.now.entries c.args.taken.now.interval c.args.front.now.items c.args.taken.now.entries (key_of c.in-Some.key) c.len-start.result c.size_estimate.result c.deref.result.now c.in-Some.ensures (omega (arith, c.len-start.ensures)) c.size_estimate.ensures text in
    record { ascends = subst Ascends same c.requires }

pub returns-in-Err-clause-large : goal.returns-in-Err-clause-large
returns-in-Err-clause-large c is =
    let text = c.deref.ensures.value ∙ c.in_ok-put.ensures.ok ∙ ap (λ (xs : List ℕ). xs ++ handle_text (record { offset = c.len-start.result; size = c.size_estimate.result })) c.clear.ensures.items in
    let same = added_index c.args.index.now.entries c.args.taken.now.interval c.args.front.now.items c.args.taken.now.entries (key_of c.in-Some.key) c.len-start.result c.size_estimate.result c.deref.result.now c.in-Some.ensures (omega (arith, c.len-start.ensures)) c.size_estimate.ensures text in
    subst (λ (xs : List Entry). 2 ^ 32 ≤ length (block_bytes c.args.index.now.interval xs)) (sym same) (c.in-Err.ensures.large is)

pub returns-clause-ok : goal.returns-clause-ok
returns-clause-ok c =
    c.in_ok-put_block.ensures.ok ∙ ap (λ (xs : List ℕ). c.args.front.now.items ++ xs) (sym (one_group c.args.taken.now.interval 0 c.args.taken.now.entries (key_of c.in-Some.key) c.in-Some.ensures).text_is)

pub returns-clause-indexed : goal.returns-clause-indexed
returns-clause-indexed c =
    let text = c.deref.ensures.value ∙ c.in_ok-put.ensures.ok ∙ ap (λ (xs : List ℕ). xs ++ handle_text (record { offset = c.len-start.result; size = c.size_estimate.result })) c.clear.ensures.items in
    let same = added_index c.args.index.now.entries c.args.taken.now.interval c.args.front.now.items c.args.taken.now.entries (key_of c.in-Some.key) c.len-start.result c.size_estimate.result c.deref.result.now c.in-Some.ensures (omega (arith, c.len-start.ensures)) c.size_estimate.ensures text in
    c.in-Ok.ensures.ok ∙ ap (building c.args.index.now.interval) (sym same)
