use Rattle.lsm_crash.proofs.Asides.{aside_made, aside_synced, aside_removed, aside_folder, aside_lock}
use Rattle.lsm_crash.proofs.laws.calls_of_other_threads_are_aside.Goals as goal

pub returns-clause-made : goal.returns-clause-made
returns-clause-made c = aside_made

pub returns-clause-synced : goal.returns-clause-synced
returns-clause-synced c = aside_synced

pub returns-clause-removed : goal.returns-clause-removed
returns-clause-removed c = aside_removed

pub returns-clause-folder : goal.returns-clause-folder
returns-clause-folder c = aside_folder

pub returns-clause-locked : goal.returns-clause-locked
returns-clause-locked c = aside_lock
