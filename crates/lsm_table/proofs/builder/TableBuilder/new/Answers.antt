use Rattle.std.proofs.Common.{[]}
use Rattle.lsm_table.proofs.SettleLaws.{made_new, made_itself, made_seen}
use Rattle.lsm_table.proofs.builder.TableBuilder.new.Goals as goal

pub invariant_of-result : goal.invariant_of-result
invariant_of-result c =
    made_itself c.args.options [] c.new.result.items c.new-2.result c.new-3.result (made_new c.args.options c.new.result.items c.new-2.result c.new-3.result c.requires c.new.ensures.items c.new-2.ensures c.new-3.ensures)

pub returns : goal.returns
returns c =
    made_seen c.args.options [] c.new.result.items c.new-2.result c.new-3.result (made_new c.args.options c.new.result.items c.new-2.result c.new-3.result c.requires c.new.ensures.items c.new-2.ensures c.new-3.ensures)
