use Rattle.std.specs.Arc.{arc_value}
use Rattle.lsm_mirror.specs.Shown.{shown_of}
use Rattle.lsm_cmd_read.proofs.seeing.begin_seen.Given as goal

-- the name stands for what this view shows of the contents of the shelf
abbrev pub ghosts-begin_shown : goal.ghosts-begin_shown
ghosts-begin_shown g a =
    record { shown = shown_of (arc_value a.view); place = (g.S.Shelf.told a.shelf).place }
