use Rattle.std.proofs.Common.{◌≡◌, ◌∙◌, List, length, ap, sym, subst, arith}
use Rattle.std.specs.Arc.{arc_value}
use Rattle.std.specs.List.{filter}
use Rattle.std.proofs.lemmas.List.{length-map}
use Rattle.lsm_table.specs.Registry.{Table}
use Rattle.lsm_codec.specs.Lists.{Has}
use Rattle.lsm_codec.proofs.CallerLemmas.{filter_has}
use Rattle.lsm_version.specs.Overlap.{lies_over}
use Rattle.lsm_version.specs.Reads.{IsRising}
use Rattle.std.proofs.lemmas.Result.{IfOk-weaker}
use Rattle.lsm_version.specs.Versions.{Levels, IsSound, AreInOrder, level_in}
use Rattle.lsm_version.proofs.Overlaps.{meets_over, meets_none, version_rises}
use Rattle.lsm_version.proofs.version.Version.overlapping.Goals as goal

pub returns-then-not-is_at_most-clause-level_zero : goal.returns-then-not-is_at_most-clause-level_zero
returns-then-not-is_at_most-clause-level_zero g c = λ zero. c.new.ensures.items ∙ meets_none c.args.from.now c.args.to.now (level_in c.args.self.now.tables c.args.level) (sym c.is_at_most.ensures ∙ c.if-not-is_at_most.true)

pub returns-then-not-is_at_most-clause-tables : goal.returns-then-not-is_at_most-clause-tables
returns-then-not-is_at_most-clause-tables g c = λ h. c.new.ensures.items ∙ meets_none c.args.from.now c.args.to.now (level_in c.args.self.now.tables c.args.level) (sym c.is_at_most.ensures ∙ c.if-not-is_at_most.true)

pub returns-else-level-eq0-clause-tables : goal.returns-else-level-eq0-clause-tables
returns-else-level-eq0-clause-tables g c = λ h.
    let v = c.args.self.now in
    let n = c.args.level in
    let seven = subst (λ (w : Levels). length w.tables ≡ 7) c.self.view_is (length-map (arc_value c.self.inside.levels).items (λ l. l.items) ∙ c.self.invariant.0) in
    let order = subst (λ (w : Levels). AreInOrder w.tables) c.self.view_is c.self.invariant.2 in
    let rises = version_rises v n (subst IsSound c.self.view_is (c.self.invariant.3 h)) order (omega (arith, c.if-level-eq0.false)) (omega arith) in
    IfOk-weaker c.run_over.result _ _
    (λ w e. e ∙ ap (filter (lies_over c.args.from.now c.args.to.now)) c.level-tables.ensures ∙ meets_over c.args.from.now c.args.to.now (level_in v.tables n) (sym c.is_at_most.ensures ∙ c.if-not-is_at_most.false))
    (c.run_over.ensures.tables (subst (λ (ts : List Table). IsRising ts) (sym c.level-tables.ensures) rises))

pub returns-then-not-is_at_most-clause-of_level : goal.returns-then-not-is_at_most-clause-of_level
returns-then-not-is_at_most-clause-of_level g c = λ t h. absurd (subst (λ (us : List Table). Has us t) c.new.ensures.items h)

pub returns-then-level-eq0-clause-of_level : goal.returns-then-level-eq0-clause-of_level
returns-then-level-eq0-clause-of_level g c =
    IfOk-weaker c.each_over.result _ _
    (λ w e t h. subst (λ (us : List Table). Has us t) c.level-tables.ensures (filter_has (lies_over c.args.from.now c.args.to.now) c.level-tables.result.now t (subst (λ (us : List Table). Has us t) e h)).0)
    c.each_over.ensures

pub returns-else-level-eq0-clause-of_level : goal.returns-else-level-eq0-clause-of_level
returns-else-level-eq0-clause-of_level g c =
    IfOk-weaker c.run_over.result _ _ (λ w f t h. subst (λ (us : List Table). Has us t) c.level-tables.ensures (f t h)) c.run_over.ensures.of_level
