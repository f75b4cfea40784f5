use Rattle.std.proofs.Common.{refl}
use Rattle.lsm_block.specs.Held.{held}
use Rattle.lsm_table.proofs.StoredBlockLaws.{contents_takes}
use Rattle.lsm_table.proofs.check.judge_opening.Goals as goal

pub returns-clause-opened : goal.returns-clause-opened
returns-clause-opened c =
    let contents = c.in_ok-contents.contents.now in
    let read = rw c.split_at.ensures.front at c.in_ok-contents.ensures in
    record {
      footer = c.in_ok-footer.footer;
      entries = held contents;
      footed = c.in_ok-footer.ensures.reads;
      index_is = refl;
      block = record { contents = contents; held = contents_takes _ c.in_ok-footer.footer.index contents read; block = c.in_ok-check_bytes.ensures.found };
    }
