use Rattle.lsm_journal.proofs.Recording.{torn_recorded, whole_recorded}
use Rattle.lsm_journal.proofs.laws.torn_changes_record_one_of_two.Goals as goal

pub returns-clause-torn : goal.returns-clause-torn
returns-clause-torn c = torn_recorded

pub returns-clause-whole : goal.returns-clause-whole
returns-clause-whole c = λ h d w next m fits leads spelled le. whole_recorded c.changed_tables.ensures h d w next m fits leads spelled le
