use Rattle.std.proofs.Common.{refl}
use Rattle.lsm_table.specs.Registry.{Table}
use Rattle.lsm_repair.specs.Mending.{shape_of}
use Rattle.lsm_repair.proofs.MendLaws.{is_shape, sound_one}
use Rattle.lsm_repair.proofs.laws.mended_is_sound.Goals as goal

pub returns-clause-replayed : goal.returns-clause-replayed
returns-clause-replayed c = λ number last logs image.
    c.whole_edit_replays.ensures.replays (shape_of number image logs last)
    (is_shape number image logs last)

pub returns-clause-sound : goal.returns-clause-sound
returns-clause-sound c = λ number last made image i reached.
    let t : Table = record {
      index = 0;
      number = number;
      smallest = image.smallest;
      largest = image.largest;
      image = image.bytes;
    } in
    let whole = c.tables_are_whole.ensures t i.first i.rest i.front i.last
    (rw i.begins at i.table) (rw i.begins at i.ends) i.smallest_is i.largest_is in
    sound_one number last made image t refl whole (c.whole_tables_fit.ensures 6 t whole)
    (c.entries_are.ensures.same image.bytes made i.table) reached
