use Rattle.std.proofs.Common.{rules, ◌≡◌, ◌∙◌, Some, ap, subst, refl}
use Rattle.std.specs.Prelude.{◌&&◌}
use Rattle.std.specs.Ordering.{is_eq, nat_cmp}
use Rattle.std.specs.Cmp.Lexicographic.{slice_cmp}
use Rattle.lsm_codec.specs.KeyRef.{key_of}
use Rattle.lsm_iterators.specs.Heads.{first_of}
use Rattle.lsm_iterators.specs.Walks.{Walking, told_first}
use Rattle.lsm_iterators.specs.declared.walk.FirstKey.{FirstKey}
use Rattle.lsm_iterators.proofs.WalkLaws.{told_by}
use Rattle.lsm_iterators.proofs.walk.Walk.first_key.Goals.{then-self, else-self}
use Rattle.lsm_iterators.proofs.walk.Walk.first_key.Goals as goal

pub returns-after-self-clause-told : goal.returns-after-self-clause-told
returns-after-self-clause-told g c =
    let own = c.self.inside in
    let key = key_of c.in-Some.key in
    let order : c.compare_behind-order.result.0 ≡ slice_cmp nat_cmp own.user.items key.user = search rules in
    let same : c.if-self.is_same ≡ (own.has_user && is_eq (slice_cmp nat_cmp own.user.items key.user)) = elim c.if-self.branch [
      | then-self w ↦ rw w.if-self.true (w.is_same-is ∙ w.is_eq-is_same.ensures ∙ ap is_eq order)
      | else-self w ↦ rw w.if-self.false (w.is_same-is ∙ w.if-self.false)
    ] in
    let first : FirstKey = record { seq = key.seq; kind = key.kind; is_same = c.if-self.is_same } in
    subst (λ (w : Walking). Some first ≡ told_first w.passed (first_of w.left.placed)) c.self.view_is
    (told_by own.has_user own.user.items own.merger.placed key first c.in-Some.ensures.key refl refl same)
