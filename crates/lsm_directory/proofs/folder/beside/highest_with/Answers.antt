use Rattle.std.proofs.Common.{refl}
use Rattle.lsm_directory.proofs.BesideLaws.{highest_more, highest_same}
use Rattle.lsm_directory.proofs.folder.beside.highest_with.Goals as goal

pub returns-in-Some : goal.returns-in-Some
returns-in-Some c = λ front h. highest_more front c.args.name.now c.args.highest c.in-Some.number
    c.higher.result h (c.in-Some.ensures.only c.in-Some.number refl) c.in-Some.ensures.found
    c.higher.ensures

pub returns-in-None : goal.returns-in-None
returns-in-None c = λ front h. highest_same front c.args.name.now c.args.highest h
    (λ m g. (let e = c.in-None.ensures.found m g in absurd cc))
