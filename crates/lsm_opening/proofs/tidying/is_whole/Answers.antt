use Rattle.std.proofs.Common.{◌∙◌, refl, sym}
use Rattle.lsm_opening.proofs.TidyLaws.{no_record, not_log, whole_if}
use Rattle.lsm_opening.proofs.tidying.is_whole.Goals as goal

-- without a record
pub returns-then-is_empty : goal.returns-then-is_empty
returns-then-is_empty c =
    no_record c.args.bytes.now c.in-Ok.log.records c.as_slice.result.now c.in-Ok.log.rest c.as_slice.ensures (sym c.is_empty.ensures ∙ c.if-is_empty.true) c.in-Ok.ensures.found c.one_log.ensures

pub returns-else-is_empty : goal.returns-else-is_empty
returns-else-is_empty c =
    whole_if c.args.bytes.now c.in-Ok.log.records c.as_slice.result.now c.in-Ok.log.rest _ c.as_slice.ensures (sym c.is_empty.ensures ∙ c.if-is_empty.false) refl c.in-Ok.ensures.found c.one_log.ensures

-- what is no log is read as none
pub returns-else-is_memory : goal.returns-else-is_memory
returns-else-is_memory c = λ h. not_log c.in-Err.fault _ (sym c.is_memory.ensures ∙ c.if-is_memory.false) (c.in-Err.ensures.only h.0 0 h.2)
