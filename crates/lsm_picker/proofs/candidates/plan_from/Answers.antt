use Rattle.std.proofs.Common.{sym, subst}
use Rattle.lsm_codec.specs.Keys.{UserKey, UserLe}
use Rattle.lsm_version.specs.Versions.{user_of}
use Rattle.lsm_picker.proofs.LevelFiles.{own_table}
use Rattle.lsm_picker.proofs.Planning.{own_plan}
use Rattle.lsm_picker.proofs.candidates.plan_from.Goals as goal

pub returns-clause-planned : goal.returns-clause-planned
returns-clause-planned g c = λ h.
    let v = c.args.version.now in
    let t = c.args.table.now in
    let from = c.low_of-from.result.now in
    let to = c.high_of-to.result.now in
    let s = c.last-last.ensures.sound h in
    let order : UserLe from to = subst (UserLe from) (sym c.high_of-to.ensures) (subst (λ (k : UserKey). UserLe k (user_of t.largest)) (sym c.low_of-from.ensures) (own_table v c.args.level t s c.requires.stands)) in
    own_plan v c.args.level t from to c.plan_between.result s c.requires.stands c.low_of-from.ensures c.high_of-to.ensures
    c.plan_between.ensures.level (c.plan_between.ensures.none h order) (c.plan_between.ensures.planned h order)
