use Rattle.std.proofs.Common.{◌≡◌, ℕ, List, [], ◌∷◌, ◌++◌, ◌∙◌, ap, subst}
use Rattle.std.specs.List.Sorted.{IsPermutation}
use Rattle.lsm_codec.specs.Lists.{Has}
use Rattle.lsm_table.specs.Registry.{Table}
use Rattle.lsm_manifest.specs.EditFit.{FitsKey}
use Rattle.lsm_manifest.specs.Replay.{Deletion}
use Rattle.lsm_version.specs.Versions.{IsWhole}
use Rattle.lsm_state.proofs.IngestLaws.{added_fits, comes_in}
use Rattle.lsm_state.proofs.state.State.bring_in.Goals as goal

pub new-requires-2-clause-added : goal.new-requires-2-clause-added
new-requires-2-clause-added g c κs within =
    let items : c.push.new.self.items ≡ (0, c.args.table) ∷ [] = c.in_ok-push.ensures.items ∙ ap (λ (xs : List (ℕ × Table)). xs ++ (0, c.args.table) ∷ []) c.new-added.ensures.items in
    let fit = subst (λ (xs : List (ℕ × Table)). (n : ℕ) (u : Table) → Has xs (n, u) → IsWhole u → FitsKey u.smallest × FitsKey u.largest) c.deref-2.ensures.value c.added_keys_fit.ensures in
    added_fits c.args.table c.push.new.self.items items c.requires fit

pub returns : goal.returns
returns g c =
    let items : c.push.new.self.items ≡ (0, c.args.table) ∷ [] = c.in_ok-push.ensures.items ∙ ap (λ (xs : List (ℕ × Table)). xs ++ (0, c.args.table) ∷ []) c.new-added.ensures.items in
    let moved = subst (λ (xs : List Deletion). IsPermutation xs c.new-2.result.deleted) c.new.ensures.items c.new-2.ensures.deleted in
    comes_in c.new-2.result c.args.table c.args.last moved (c.new-2.ensures.added ∙ items) c.new-2.ensures.pointer c.new-2.ensures.last
