use Rattle.lsm_manifest.specs.declared.edit.Edit.{Edit}
use Rattle.lsm_manifest.specs.Replay.{pointer_in}
use Rattle.lsm_manifest.proofs.LastLaws.{last_by-push}
use Rattle.lsm_manifest.proofs.ReplayLaws.{innocent_push}
use Rattle.lsm_manifest.proofs.ShapeLaws.{innocent_before}
use Rattle.lsm_manifest.proofs.StandingLaws.{stands_snoc, snoc_stands}
use Rattle.lsm_manifest.proofs.shape.one_more_edit.Goals as goal

pub returns-clause-innocent : goal.returns-clause-innocent
returns-clause-innocent c es e = (innocent_before es e, λ h. innocent_push es e h.0 h.1)

pub returns-clause-log : goal.returns-clause-log
returns-clause-log c es e = last_by-push (λ (x : Edit). x.log) es e

pub returns-clause-prev_log : goal.returns-clause-prev_log
returns-clause-prev_log c es e = last_by-push (λ (x : Edit). x.prev_log) es e

pub returns-clause-next : goal.returns-clause-next
returns-clause-next c es e = last_by-push (λ (x : Edit). x.next) es e

pub returns-clause-last : goal.returns-clause-last
returns-clause-last c es e = last_by-push (λ (x : Edit). x.last) es e

pub returns-clause-pointer : goal.returns-clause-pointer
returns-clause-pointer c level es e = last_by-push (λ (x : Edit). pointer_in level x.pointers) es e

pub returns-clause-stands : goal.returns-clause-stands
returns-clause-stands c es e a = (stands_snoc es e a, snoc_stands es e a)
