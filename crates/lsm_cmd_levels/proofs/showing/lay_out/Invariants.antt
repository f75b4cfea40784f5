use Rattle.std.proofs.Common.{[]}
use Rattle.lsm_cmd_levels.proofs.showing.lay_out.Given as goal

-- the name stands for the contents of the shelf; it has no record
abbrev pub ghosts-read_as : goal.ghosts-read_as
ghosts-read_as g a = record { registry = record { tag = []; buckets = [] }; place = (g.S.Shelf.told a.shelf).place }
