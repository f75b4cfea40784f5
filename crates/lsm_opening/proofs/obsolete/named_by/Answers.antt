use Rattle.lsm_opening.proofs.obsolete.named_by.Goals as goal

-- a name of no manifest
pub returns-in_default : goal.returns-in_default
returns-in_default c = λ h. (let e = c.in_default.ensures.found h.0 h.1 in absurd cc)
