use Rattle.std.proofs.Common.{◌≡◌, List, Some, None, refl, sym, subst}
use Rattle.std.specs.Option.{option_map}
use Rattle.lsm_codec.specs.Entries.{Entry}
use Rattle.lsm_codec.specs.KeyRef.{key_of}
use Rattle.lsm_table.specs.Searching.{Sought}
use Rattle.lsm_table.proofs.GetLaws.{sought_first, next_block, next_there, goes_on, get_ended, get_none}
use Rattle.lsm_table.proofs.table.Table.get.Goals as goal

pub loop-here-init : goal.loop-here-init
loop-here-init c =
    let key = key_of c.key_for-key.result in
    let body = c.parts-index.result.0.now in
    let index = c.parts-index.result.1 in
    subst (λ (xs : List Entry). Sought key body xs c.args.self.now) (sym c.in_ok-seek.ensures.found) (sought_first key body index.entries c.args.self.now c.parts-index.ensures)

pub data_block-requires : goal.data_block-requires
data_block-requires c =
    let is : option_map (λ v. v.now) c.in_ok-spelled.field-0 ≡ Some c.in-Some.spelled.now = rw c.in-Some.is refl in
    next_there (key_of c.key_for-key.result) c.parts-index.result.0.now c.parts-index.result.1 c.loop-here.next_block c.next.new.cursor _ c.in-Some.spelled.now c.args.self.now c.loop-here.invariant c.in_ok-spelled.ensures.given is

pub loop-here-preserved : goal.loop-here-preserved
loop-here-preserved c =
    let key = key_of c.key_for-key.result in
    let body = c.parts-index.result.0.now in
    let index = c.parts-index.result.1 in
    let is : option_map (λ v. v.now) c.in_ok-spelled.field-0 ≡ Some c.in-Some.spelled.now = rw c.in-Some.is refl in
    let next = next_block key body index c.loop-here.next_block c.next.new.cursor _ c.in-Some.spelled.now c.data_block.result.entries c.args.self.now c.loop-here.invariant c.in_ok-spelled.ensures.given is c.data_block.ensures in
    goes_on key body key.user c.data_block.result.entries _ c.args.self.now c.in_ok-search_block.field-0 next c.in_ok-search_block.ensures c.in-GoesOn.is

pub returns-in-Ended : goal.returns-in-Ended
returns-in-Ended c =
    let key = key_of c.key_for-key.result in
    let body = c.parts-index.result.0.now in
    let index = c.parts-index.result.1 in
    let is : option_map (λ v. v.now) c.in_ok-spelled.field-0 ≡ Some c.in-Some.spelled.now = rw c.in-Some.is refl in
    let next = next_block key body index c.loop-here.next_block c.next.new.cursor _ c.in-Some.spelled.now c.data_block.result.entries c.args.self.now c.loop-here.invariant c.in_ok-spelled.ensures.given is c.data_block.ensures in
    get_ended c.args.user.now c.args.seq key body index.entries _ c.data_block.result.entries c.args.self.now c.in_ok-search_block.field-0 c.in-Ended.found c.key_for-key.ensures c.parts-index.ensures next c.in_ok-search_block.ensures c.in-Ended.is

pub returns : goal.returns
returns c =
    let key = key_of c.key_for-key.result in
    let body = c.parts-index.result.0.now in
    let index = c.parts-index.result.1 in
    let none : option_map (λ v. v.now) c.in_ok-spelled.field-0 ≡ None = rw c.in_default.is refl in
    get_none c.args.user.now c.args.seq key body index.entries c.args.self.now index c.loop-here.next_block c.next.new.cursor _ c.key_for-key.ensures c.parts-index.ensures c.loop-here.invariant c.in_ok-spelled.ensures.given none
