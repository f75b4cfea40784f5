-- What a refusal of an answer means (this project's rule).
use Rattle.lsm_frames.specs.declared.answer_fault.AnswerFault.{AnswerFault}
use Rattle.lsm_frames.specs.declared.answer_fault.AnswerFault.TheVariants as answer
use Rattle.lsm_state.specs.declared.state_fault.StateFault.{StateFault}
use Rattle.lsm_state.specs.declared.state_fault.StateFault.TheVariants.{OutOfMemory, TooLarge}

abbrev pub of_answer : AnswerFault → StateFault
of_answer answer.OutOfMemory = OutOfMemory
of_answer answer.TooLong = TooLarge
