use Rattle.lsm_channels.proofs.session.Session.perform.Goals.{in-Write, in-Snapshot, in-Release, in-Compact, in-CompactRange, in-Collect, in-Statistics}
use Rattle.lsm_channels.proofs.session.Session.perform.Goals as goal

pub returns-clause-known : goal.returns-clause-known
returns-clause-known g c = elim c.match-request.branch [
  | in-Write w ↦ rw w.session-is w.write-answer.ensures.known
  | in-Snapshot w ↦ rw w.session-is w.take-answer.ensures.known
  | in-Release w ↦ rw w.session-is w.release-answer.ensures.known
  | in-Compact w ↦ rw w.session-is w.compact-answer.ensures.known
  | in-CompactRange w ↦ rw w.session-is w.compact_range-answer.ensures.known
  | in-Collect w ↦ rw w.session-is w.collect-answer.ensures.known
  | in-Statistics w ↦ rw w.session-is w.tell-answer.ensures.known
]

pub returns-in-Read-clause-unanswered : goal.returns-in-Read-clause-unanswered
returns-in-Read-clause-unanswered g c = rw c.in-Read.is c.read.ensures.unanswered

pub returns-in-Scan-clause-unanswered : goal.returns-in-Scan-clause-unanswered
returns-in-Scan-clause-unanswered g c = rw c.in-Scan.is c.scan.ensures.unanswered

pub returns-clause-answered : goal.returns-clause-answered
returns-clause-answered g c = elim c.match-request.branch [
  | in-Write w ↦ rw (w.session-is, w.answer-is, w.in-Write.is) w.write-answer.ensures.answered
  | in-Snapshot w ↦ rw (w.session-is, w.answer-is, w.in-Snapshot.is) w.take-answer.ensures.answered
  | in-Release w ↦ rw (w.session-is, w.answer-is, w.in-Release.is) w.release-answer.ensures.answered
  | in-Compact w ↦ rw (w.session-is, w.answer-is, w.in-Compact.is) w.compact-answer.ensures.answered
  | in-CompactRange w ↦ rw (w.session-is, w.answer-is, w.in-CompactRange.is) w.compact_range-answer.ensures.answered
  | in-Collect w ↦ rw (w.session-is, w.answer-is, w.in-Collect.is) w.collect-answer.ensures.answered
  | in-Statistics w ↦ rw (w.session-is, w.answer-is, w.in-Statistics.is) w.tell-answer.ensures.answered
]

pub returns-clause-unanswered : goal.returns-clause-unanswered
returns-clause-unanswered g c = elim c.match-request.branch [
  | in-Write w ↦ rw (w.session-is, w.answer-is, w.in-Write.is) w.write-answer.ensures.unanswered
  | in-Snapshot w ↦ rw (w.session-is, w.answer-is, w.in-Snapshot.is) w.take-answer.ensures.unanswered
  | in-Release w ↦ rw (w.session-is, w.answer-is, w.in-Release.is) w.release-answer.ensures.unanswered
  | in-Compact w ↦ rw (w.session-is, w.answer-is, w.in-Compact.is) w.compact-answer.ensures.unanswered
  | in-CompactRange w ↦ rw (w.session-is, w.answer-is, w.in-CompactRange.is) w.compact_range-answer.ensures.unanswered
  | in-Collect w ↦ rw (w.session-is, w.answer-is, w.in-Collect.is) w.collect-answer.ensures.unanswered
  | in-Statistics w ↦ rw (w.session-is, w.answer-is, w.in-Statistics.is) w.tell-answer.ensures.unanswered
]

pub returns-clause-kept : goal.returns-clause-kept
returns-clause-kept g c = elim c.match-request.branch [
  | in-Write w ↦ rw (w.session-is) w.write-answer.ensures.kept
  | in-Snapshot w ↦ rw (w.session-is) w.take-answer.ensures.kept
  | in-Release w ↦ rw (w.session-is) w.release-answer.ensures.kept
  | in-Compact w ↦ rw (w.session-is) w.compact-answer.ensures.kept
  | in-CompactRange w ↦ rw (w.session-is) w.compact_range-answer.ensures.kept
  | in-Collect w ↦ rw (w.session-is) w.collect-answer.ensures.kept
  | in-Statistics w ↦ rw (w.session-is) w.tell-answer.ensures.kept
]
