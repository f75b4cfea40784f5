use Rattle.std.proofs.Common.{rules, ◌≡◌, Some, false}
use Rattle.lsm_codec.specs.declared.kind.Kind.TheVariants.{Value}
use Rattle.lsm_model.specs.Merging.{entries_of}
use Rattle.lsm_model.specs.Scanning.{is_head_passed}
use Rattle.lsm_iterators.specs.Heads.{first_of}
use Rattle.lsm_iterators.specs.Shown.{kind_in, left_to_show, showing_of}
use Rattle.lsm_iterators.proofs.ShownLaws.{shows_value}
use Rattle.lsm_iterators.proofs.scan.shown_by.Goals as goal

pub returns-in-Value-clause-ok : goal.returns-in-Value-clause-ok
returns-in-Value-clause-ok g c honest =
    let placed = c.turn_by.new.walk.left.placed in
    let told = c.turn_by.new.walk.passed in
    let kind : Some Value ≡ kind_in (first_of placed) = search rules in
    let fresh : is_head_passed c.args.seq told (entries_of placed) ≡ false = search rules in
    let left : left_to_show c.args.seq told false placed ≡ left_to_show c.args.seq c.args.walk.now.passed c.args.is_done.now c.args.walk.now.left.placed = search rules in
    shows_value c.args.seq told placed (showing_of c.args.seq c.args.walk.now.passed c.args.is_done.now c.args.walk.now.left.placed) kind fresh left
