use Rattle.std.proofs.Common.{◌∷◌, length, ap, sym, ◌∙◌, arith, rules}
use Rattle.std.proofs.lemmas.List.{length-append, take_all, drop_all}
use Rattle.lsm_text.specs.EntryList.{lines_of}
use Rattle.lsm_text.proofs.PartLaws.{parts_take, first_line_is, only_line_is}
use Rattle.lsm_text.proofs.text_parts.first_line.Goals as goal

pub returns-in-Some-clause-lines : goal.returns-in-Some-clause-lines
returns-in-Some-clause-lines c = first_line_is c.args.text.now (c.in-Some.found.0.now, c.in-Some.found.1.now) (sym c.in-Some.ensures)

pub returns-in-Some-clause-shorter : goal.returns-in-Some-clause-shorter
returns-in-Some-clause-shorter c =
    let parts = parts_take 10 c.args.text.now (c.in-Some.found.0.now, c.in-Some.found.1.now) (sym c.in-Some.ensures) in
    omega (arith, ap length parts.0, length-append c.in-Some.found.0.now (10 ∷ c.in-Some.found.1.now))

pub returns-in-None-clause-lines : goal.returns-in-None-clause-lines
unfolding lines_of
returns-in-None-clause-lines c =
    let text = c.args.text.now in
    let front = c.split_at.ensures.front ∙ take_all (length text) text (omega arith) in
    let back = c.split_at.ensures.back ∙ drop_all (length text) text (omega arith) in
    rw (front, back) (only_line_is text (search rules) (sym c.in-None.ensures))
