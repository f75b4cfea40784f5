use Rattle.std.proofs.Common.{◌≡◌, ℕ, List, [], ◌∷◌, ◌++◌, ◌∙◌, ap, subst}
use Rattle.std.specs.List.Sorted.{IsPermutation}
use Rattle.lsm_codec.specs.Lists.{Has}
use Rattle.lsm_table.specs.Registry.{Table}
use Rattle.lsm_manifest.specs.EditFit.{FitsKey}
use Rattle.lsm_manifest.specs.Replay.{Deletion}
use Rattle.lsm_version.specs.Versions.{IsWhole}
use Rattle.lsm_state.specs.Installing.{deleted_at}
use Rattle.lsm_state.proofs.GatherLaws.{deleted_zero}
use Rattle.lsm_state.proofs.IngestLaws.{added_fits}
use Rattle.lsm_state.proofs.gather.change_to.Goals as goal

pub new-change-requires-clause-deleted : goal.new-change-requires-clause-deleted
new-change-requires-clause-deleted g c κs within =
    deleted_zero c.args.gone.now c.new-deleted.result.items c.push_deleted.new.deleted.items c.new-deleted.ensures.items c.in_ok-push_deleted.ensures

pub new-change-requires-clause-added : goal.new-change-requires-clause-added
new-change-requires-clause-added g c κs within =
    let items : c.push.new.self.items ≡ (0, c.args.table) ∷ [] = c.in_ok-push.ensures.items ∙ ap (λ (xs : List (ℕ × Table)). xs ++ (0, c.args.table) ∷ []) c.new-added.ensures.items in
    let fit = subst (λ (xs : List (ℕ × Table)). (n : ℕ) (u : Table) → Has xs (n, u) → IsWhole u → FitsKey u.smallest × FitsKey u.largest) c.deref.ensures.value c.added_keys_fit.ensures in
    added_fits c.args.table c.push.new.self.items items c.requires fit

pub returns : goal.returns
returns g c =
    let items : c.push.new.self.items ≡ (0, c.args.table) ∷ [] = c.in_ok-push.ensures.items ∙ ap (λ (xs : List (ℕ × Table)). xs ++ (0, c.args.table) ∷ []) c.new-added.ensures.items in
    let gone : c.push_deleted.new.deleted.items ≡ deleted_at 0 c.args.gone.now = c.in_ok-push_deleted.ensures ∙ ap (λ (ds : List Deletion). ds ++ deleted_at 0 c.args.gone.now) c.new-deleted.ensures.items in
    record {
      deleted = subst (λ (ds : List Deletion). IsPermutation ds c.new-change.result.deleted) gone c.new-change.ensures.deleted;
      ordered = (c.last-last.ensures.fits).ordered;
      added = c.new-change.ensures.added ∙ items;
      pointer = c.new-change.ensures.pointer;
      last_is = c.new-change.ensures.last;
    }
