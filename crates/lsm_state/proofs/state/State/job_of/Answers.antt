use Rattle.std.proofs.Common.{◌≡◌, ◌∙◌, ap, sym, subst}
use Rattle.lsm_version.specs.FileNumbers.{AreDistinct}
use Rattle.lsm_version.specs.Versions.{IsSound, Levels, numbers_in}
use Rattle.lsm_picker.specs.TablePlans.{TablePlan}
use Rattle.lsm_merge.specs.Work.{Work}
use Rattle.lsm_state.specs.Held.{Held}
use Rattle.lsm_state.proofs.ReserveLaws.{moves_by, ordered, whole_parts}
use Rattle.lsm_state.proofs.state.State.job_of.Goals as goal

pub of-requires-clause-whole : goal.of-requires-clause-whole
of-requires-clause-whole g c κs within honest t h =
    let p : TablePlan = c.args.plan in
    let same : c.version-version.result.now ≡ c.args.self.now.slots.version = c.version-version.ensures.version ∙ ap (λ (x : Held). x.slots.version) c.self.view_is in
    whole_parts c.args.self.now.slots.version p c.into_parts-upper.result.0.items c.into_parts-upper.result.1.items c.into_parts-upper.ensures.upper c.into_parts-upper.ensures.lower c.requires.stands
    (subst IsSound same (c.last.ensures.sound honest)) t h

pub of-requires-clause-moves : goal.of-requires-clause-moves
of-requires-clause-moves g c κs within =
    let w : Work = record { ticket = c.self.inside.next_ticket; level = c.from-level.result; upper = c.into_parts-upper.result.0.items; lower = c.into_parts-upper.result.1.items; low = c.into_parts-upper.result.2.0; high = c.into_parts-upper.result.2.1; floor = c.floor-floor.result; ranges = c.in_ok-ranges.ranges.items; is_move = c.args.is_move; table = c.sizes.result; target_size = c.self.inside.options.target_size } in
    moves_by w c.args.plan c.args.is_move c.into_parts-upper.ensures.upper c.into_parts-upper.ensures.lower c.requires.moves

pub returns-clause-in_order : goal.returns-clause-in_order
returns-clause-in_order g c honest =
    let v : Levels = c.version-version.result.now in
    let same : v ≡ c.args.self.now.slots.version = c.version-version.ensures.version ∙ ap (λ (x : Held). x.slots.version) c.self.view_is in
    let apart : AreDistinct (numbers_in v) = subst (λ (x : Levels). AreDistinct (numbers_in x)) (sym c.version-version.ensures.version) ((c.self.invariant.0.journaled).1).own.numbers in
    ordered c.planned_inputs_stand_in_order.ensures.order c.planned_inputs_stand_in_order.ensures.single c.args.self.now v c.args.plan c.of.result same (c.last.ensures.sound honest) c.last.ensures.order apart
    (c.requires.closed honest) record {
      level = ap (λ (w : Work). w.level) c.of.ensures ∙ (c.from-level.ensures ∙ c.level-2.ensures.level);
      upper = ap (λ (w : Work). w.upper) c.of.ensures ∙ c.into_parts-upper.ensures.upper;
      lower = ap (λ (w : Work). w.lower) c.of.ensures ∙ c.into_parts-upper.ensures.lower;
    }
