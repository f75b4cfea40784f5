use Rattle.std.proofs.Common.{ℕ, ◌∷◌, List, sym, ◌∙◌, ap, subst}
use Rattle.lsm_merge.specs.NumberFault.{number_of}
use Rattle.lsm_script.proofs.Sourced.{after_is}
use Rattle.lsm_script.proofs.numbers.NumbersNumberSource.draw.Goals as goal

pub returns-in-Ok-clause-ready : goal.returns-in-Ok-clause-ready
returns-in-Ok-clause-ready g c =
    let source = c.requires.ready.2 in
    let holds = g.M.Noted.holds c.draw-answer.new.arg2 in
    let now = c.args.self.now.answered.now in
    let after = after_is holds c.args.ticket now.drew.numbers now.refused.numbers now.asked.numbers c.draw-answer.result _ c.in-Ok.is
    (source.keeps _ _ c.args.ticket c.draw-answer.result now.drew.numbers now.refused.numbers now.asked.numbers c.ranges.ticket.fits source.fact c.draw-answer.ensures) in (
      c.requires.ready.0,
      c.requires.ready.1,
      record {
        fact = subst (λ (l : List ℕ). holds l c.args.self.now.answered.now.refused.numbers c.with_number.result.numbers) (sym c.with_number-in-Ok.ensures)
            (subst (λ (l : List ℕ). holds (c.in-Ok.number ∷ c.args.self.now.answered.now.drew.numbers) c.args.self.now.answered.now.refused.numbers l) (sym c.with_number.ensures) after);
        keeps = source.keeps;
      },
    )

pub returns-in-Err-clause-ready : goal.returns-in-Err-clause-ready
returns-in-Err-clause-ready g c =
    let source = c.requires.ready.2 in
    let holds = g.M.Noted.holds c.draw-answer.new.arg2 in
    let now = c.args.self.now.answered.now in
    let after = after_is holds c.args.ticket now.drew.numbers now.refused.numbers now.asked.numbers c.draw-answer.result _ c.in-Err.is
    (source.keeps _ _ c.args.ticket c.draw-answer.result now.drew.numbers now.refused.numbers now.asked.numbers c.ranges.ticket.fits source.fact c.draw-answer.ensures) in (
      c.requires.ready.0,
      c.requires.ready.1,
      record {
        fact = subst (λ (l : List ℕ). holds c.args.self.now.answered.now.drew.numbers l c.with_number.result.numbers)
            (sym (c.with_number-in-Err.ensures ∙ ap (λ (n : ℕ). n ∷ c.args.self.now.answered.now.refused.numbers) (c.from.ensures ∙ c.number.ensures)))
            (subst (λ (l : List ℕ). holds c.args.self.now.answered.now.drew.numbers (number_of c.in-Err.fault ∷ c.args.self.now.answered.now.refused.numbers) l) (sym c.with_number.ensures) after.0);
        keeps = source.keeps;
      },
    )

pub returns-in-Err-clause-named : goal.returns-in-Err-clause-named
returns-in-Err-clause-named g c =
    let holds = g.M.Noted.holds c.draw-answer.new.arg2 in
    let now = c.args.self.now.answered.now in
    let source = c.requires.ready.2 in
    let after = after_is holds c.args.ticket now.drew.numbers now.refused.numbers now.asked.numbers c.draw-answer.result _ c.in-Err.is
    (source.keeps _ _ c.args.ticket c.draw-answer.result now.drew.numbers now.refused.numbers now.asked.numbers c.ranges.ticket.fits source.fact c.draw-answer.ensures) in
    after.1
