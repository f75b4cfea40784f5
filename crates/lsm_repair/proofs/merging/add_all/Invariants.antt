use Rattle.std.proofs.Common.{◌≡◌, ◌∷◌, length, take, drop}
use Rattle.lsm_codec.specs.Lists.{Has}
use Rattle.lsm_repair.specs.Merging.{AreOrdered, IsTop, IsUnion}
use Rattle.lsm_repair.proofs.merging.add_all.Given as goal

-- the entries so far, each once
abbrev pub invariant-loop-entry : goal.invariant-loop-entry
invariant-loop-entry l = record {
  union : IsUnion (l.one ∷ take l.entry-index l.others) l.table.entries l.totals.last;
  counted : l.totals.count ≡ length l.table.entries;
  top : IsTop l.table.entries l.top;
  among : Has (l.one ∷ take l.entry-index l.others) l.top;
  order : AreOrdered (l.top ∷ drop l.entry-index l.others);
  options : l.table.options ≡ l.fn.table.options;
}
