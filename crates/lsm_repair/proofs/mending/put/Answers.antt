use Rattle.std.proofs.Common.{ap, length}
use Rattle.lsm_repair.proofs.MendLaws.{file_from, puts_one, puts_same, short_from, unput_from}
use Rattle.lsm_repair.proofs.mending.put.Goals as goal

pub returns-clause-file : goal.returns-clause-file
returns-clause-file g c =
    file_from c.file_of.result c.args.number _ c.in-Ok.table.smallest c.in-Ok.table.largest
    c.args.image c.file_of.ensures.file (ap length c.in-Ok.ensures.image) c.in-Ok.ensures.smallest
    c.in-Ok.ensures.largest

pub returns-clause-short : goal.returns-clause-short
returns-clause-short g c =
    short_from c.file_of.result c.in-Ok.table.smallest c.in-Ok.table.largest c.args.image
    c.file_of.ensures.short c.in-Ok.ensures.smallest c.in-Ok.ensures.largest

pub returns-clause-refused : goal.returns-clause-refused
returns-clause-refused g c =
    unput_from (g.S.Shelf.refuses g.N.Naming.place) c.file_of.result c.args.number
    c.in-Ok.table.smallest c.in-Ok.table.largest c.args.image c.file_of.ensures.long
    c.in-Ok.ensures.smallest c.in-Ok.ensures.largest

pub returns-clause-at_most : goal.returns-clause-at_most
returns-clause-at_most g c =
    puts_one c.args.number c.args.image.bytes c.args.shelf.now c.put_alone.new.shelf
    c.in-Ok.ensures.ok

pub returns-in-Err-clause-at_most : goal.returns-in-Err-clause-at_most
returns-in-Err-clause-at_most g c =
    puts_same c.args.number c.args.shelf.now c.put_alone.new.shelf c.in-Err.ensures.err

pub returns-clause-same_list : goal.returns-clause-same_list
returns-clause-same_list g c = c.in-Ok.ensures.ok.listed

pub returns-in-Err-clause-same_list : goal.returns-in-Err-clause-same_list
returns-in-Err-clause-same_list g c = c.in-Err.ensures.err.listed
