use Rattle.std.proofs.Common.{refl, ap, ◌∷◌, ◌∙◌, List}
use Rattle.lsm_wire.specs.Conversing.{Unheld}
use Rattle.lsm_wire.specs.Happenings.{Happening, Went, unanswered}
use Rattle.lsm_channels.specs.Serving.{Answers}
use Rattle.lsm_channels.proofs.TurnLaws.{called_misfit}
use Rattle.lsm_channels.proofs.channel.take_turn.Goals as goal

pub returns-in-Misfit-clause-turn : goal.returns-in-Misfit-clause-turn
returns-in-Misfit-clause-turn g c =
    called_misfit (Answers g.S.Shelf.honest (g.S.Shelf.refuses g.N.Naming.place) g.K.Invariant.keeps) c.args.session _ _ _ c.in-Misfit.ensures.noted c.call_no_request.ensures.said

pub returns-in-Unheld-clause-turn : goal.returns-in-Unheld-clause-turn
returns-in-Unheld-clause-turn g c =
    Unheld c.say_unanswered-is_taken.result
    (c.say_unanswered-is_taken.ensures.noted ∙ ap (λ (hs : List Happening). Went unanswered c.say_unanswered-is_taken.result ∷ hs) c.in-Unheld.ensures.noted) refl
