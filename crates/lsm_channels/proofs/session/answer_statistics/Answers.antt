use Rattle.std.proofs.Common.{ap, ◌∙◌, inl, inr, refl}
use Rattle.lsm_frames.specs.Answers.{Told}
use Rattle.lsm_state.specs.declared.state_fault.StateFault.TheVariants.{OutOfMemory}
use Rattle.lsm_channels.specs.Answered.{done_frame, refusal_frame}
use Rattle.lsm_channels.specs.Counting.{sizes_of}
use Rattle.lsm_channels.proofs.SessionLaws.{unsaid}
use Rattle.lsm_channels.proofs.session.answer_statistics.Goals as goal

pub returns-in_ok-answer-in-Ok-clause-answered : goal.returns-in_ok-answer-in-Ok-clause-answered
returns-in_ok-answer-in-Ok-clause-answered g c = inl (
  c.in-Ok.last,
  c.in-Ok.files.items,
  c.in-Ok.ensures.listed,
  c.in_ok-answer-in-Ok.ensures ∙ ap (λ ls. done_frame (Told c.in-Ok.last ls)) (c.sizes_of-sizes.ensures ∙ ap sizes_of c.deref.ensures.value),
)

pub returns-in_err-answer-in-Ok-clause-unanswered : goal.returns-in_err-answer-in-Ok-clause-unanswered
returns-in_err-answer-in-Ok-clause-unanswered g c = unsaid c.from_residual.result (refusal_frame OutOfMemory, inr refl)

pub returns-in_err-answer-in-Err-clause-unanswered : goal.returns-in_err-answer-in-Err-clause-unanswered
returns-in_err-answer-in-Err-clause-unanswered g c = unsaid c.from_residual-in_err-answer-in-Err.result (refusal_frame OutOfMemory, inr refl)
