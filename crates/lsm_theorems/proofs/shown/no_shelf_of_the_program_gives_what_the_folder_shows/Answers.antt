use Rattle.std.proofs.Common.{sym, subst}
use Rattle.lsm_shelf.specs.Told.{Place}
use Rattle.lsm_theorems.specs.Stored.{StoredByProgram}
use Rattle.lsm_theorems.proofs.AnyImage.{refuted, stored}
use Rattle.lsm_theorems.proofs.shown.no_shelf_of_the_program_gives_what_the_folder_shows.Goals as goal

pub returns-clause-stored : goal.returns-clause-stored
returns-clause-stored g c = stored

pub returns-clause-refuted : goal.returns-clause-refuted
returns-clause-refuted g c = refuted

pub stores_as_the_program-requires-after_bounds : goal.stores_as_the_program-requires-after_bounds
stores_as_the_program-requires-after_bounds g c κs within = λ path marks number image place limit.
    subst (λ (p : Place). StoredByProgram p number image) (sym place) (stored path marks number image limit)
