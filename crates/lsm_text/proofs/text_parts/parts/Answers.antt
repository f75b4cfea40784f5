use Rattle.std.proofs.Common.{ℕ, ◌+◌, ◌-◌, length, take, drop, List, Some, sym, ap, ◌∙◌, arith}
use Rattle.std.proofs.lemmas.List.{take_all, length-drop}
use Rattle.std.proofs.lemmas.Bool.{eq-eqb, eqb-true}
use Rattle.lsm_text.proofs.PartLaws.{parts_found, parts_absent}
use Rattle.lsm_text.proofs.text_parts.parts.Goals as goal

pub returns-in-Some : goal.returns-in-Some
returns-in-Some c =
    let text = c.args.text.now in
    let i = c.in-Some.i in
    let found = c.in-Some.ensures in
    let rest = take_all (length text - (i + 1)) (drop (i + 1) text) (omega (arith, length-drop (i + 1) text)) in
    let there = eqb-true _ _ found.1 in
    ap (λ (xs : List ℕ). Some (take i text, xs)) rest
    ∙ sym (parts_found c.args.separator text i found.0.high (λ k below same. found.0.before k (omega arith) below (eq-eqb _ _ same)) there)

pub returns-in-None : goal.returns-in-None
returns-in-None c =
    let none = c.in-None.ensures in
    sym (parts_absent c.args.separator c.args.text.now (λ k below same. none k (omega arith) below (eq-eqb _ _ same)))
