use Rattle.std.proofs.Common.{ℕ, List, [], sym, subst}
use Rattle.lsm_script.proofs.merging.merge_with.Goals as goal

pub compact-requires-clause-ready : goal.compact-requires-clause-ready
compact-requires-clause-ready g c κs within =
    let n = c.args.numbers.now.answered.now in
    let holds = g.M.Noted.holds c.args.numbers.now.state.now in (
      c.requires.call,
      c.requires.loan,
      record {
        fact = subst (λ (l : List ℕ). holds l n.refused.numbers n.asked.numbers) (sym c.requires.none.0)
            (subst (λ (l : List ℕ). holds [] l n.asked.numbers) (sym c.requires.none.1) (subst (λ (l : List ℕ). holds [] [] l) (sym c.requires.none.2) c.requires.begins));
        keeps = c.requires.keeps;
      },
    )
