use Rattle.std.proofs.Common.{inl, inr}
use Rattle.lsm_crash.proofs.Lives.{ages_born, nothing_born}
use Rattle.lsm_crash.proofs.Quick.{shown_answer, vacant_none}
use Rattle.lsm_crash.proofs.states.quick_answers_give_what_came_in.Goals as goal

pub returns-clause-lives : goal.returns-clause-lives
returns-clause-lives g c =
    λ place lives v es w u d e shape user a was is fair honest i s seven answers sound h q r.
    let b =
    ages_born (Unit {0}) c.changed_tables.ensures g.P.Premise.holds
    c.runs_read_all_that_came.ensures lives v es w u d e
    record {
      settled =
          i;
      shown = s;
      seven = seven;
      answers = λ k. answers;
      sound = λ k l. sound;
    } h in (
      b.0,
      b.1,
      b.2,
      shown_answer (g.S.Finding.keeps place) g.S.Shelf.honest shape user a was is q
          honest e r b.0 b.1 (b.3.sound tt fair) b.3.shown b.3.seven (b.3.answers fair),
    )

pub returns-clause-new : goal.returns-clause-new
returns-clause-new g c = λ place tries lives d e o shape user a was is fair honest vacant h q r.
    elim (nothing_born c.changed_tables.ensures g.P.Premise.holds c.runs_read_all_that_came.ensures
    tries lives d e o vacant h) [
      | inl none ↦
          absurd (vacant_none (g.S.Finding.keeps place) g.S.Shelf.honest shape user a was is q
          honest e r none.2)
      | inr b ↦ (
        b.2,
        b.3,
        b.4,
        shown_answer (g.S.Finding.keeps place) g.S.Shelf.honest shape user a was
            is q honest e r b.2 b.3 (b.5.sound tt fair) b.5.shown b.5.seven (b.5.answers fair),
      )
    ]
