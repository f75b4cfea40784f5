use Rattle.lsm_text.proofs.SequenceLaws.{none_long, sequence_is}
use Rattle.lsm_text.proofs.words.sequence.Goals as goal

pub returns-clause-reads : goal.returns-clause-reads
returns-clause-reads c =
    sequence_is c.args.word.now c.number_in.result c.if-word-gt20.false c.number_in.ensures.some c.number_in.ensures.none

pub returns-then-word-gt20-clause-reads : goal.returns-then-word-gt20-clause-reads
returns-then-word-gt20-clause-reads c = none_long c.args.word.now c.if-word-gt20.true
