use Rattle.std.proofs.Common.{◌≡◌, Some, true, take, drop, sym, ap, ◌∙◌, arith}
use Rattle.lsm_codec.specs.Keys.{is_internal}
use Rattle.lsm_block.specs.Reading.{numbers_at}
use Rattle.lsm_block.proofs.PassLaws.{read_alone}
use Rattle.lsm_block.proofs.entry.RawEntry.read_own.Goals as goal

pub returns : goal.returns
returns c =
    let n = c.in_ok-shared in
    let numbered : numbers_at c.args.text.now ≡ Some (n.shared, n.unshared, n.len, n.rest.now) =
    sym n.ensures.reads in
    let own = c.split_at.ensures.front in
    let value = c.split_at-2.ensures.front ∙ ap (take n.len) c.split_at.ensures.back in
    let after = c.split_at-2.ensures.back ∙ ap (drop n.len) c.split_at.ensures.back in
    let internal : is_internal (take n.unshared n.rest.now) ≡ true = ap is_internal (sym own)
    ∙ sym c.is_internal_key.ensures.value ∙ c.if-not-is_internal_key.false in
    record {
      within = omega arith;
      internal = sym c.is_internal_key.ensures.value ∙ c.if-not-is_internal_key.false;
      read = λ before within. rw (own, value, after)
          (read_alone before c.args.text.now n.rest.now n.shared n.unshared n.len numbered within
          (omega arith) internal);
    }
