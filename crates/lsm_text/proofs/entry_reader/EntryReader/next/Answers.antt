use Rattle.std.proofs.Common.{rules}
use Rattle.lsm_text.specs.ReaderView.{before_of}
use Rattle.lsm_text.proofs.ListLaws.{entries_at-end}
use Rattle.lsm_text.proofs.entry_reader.EntryReader.next.Goals as goal

pub returns-then-is_empty-clause-ok : goal.returns-then-is_empty-clause-ok
returns-then-is_empty-clause-ok c =
    entries_at-end c.args.self.now.line (before_of c.args.self.now) c.args.self.now.rest.now (search rules)
