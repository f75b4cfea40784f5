use Rattle.std.proofs.Common.{◌++◌, ◌∙◌, List, ℕ, length, drop, subst, sym, ap, inl, inr}
use Rattle.std.proofs.lemmas.Result.{IfOk-weaker}
use Rattle.lsm_codec.specs.KeyRef.{key_of}
use Rattle.lsm_codec.specs.Keys.{IsKey, InternalKey, key_bytes}
use Rattle.lsm_codec.proofs.CallerLemmas.{key_again}
use Rattle.lsm_block.specs.Held.{Kept, last_of}
use Rattle.lsm_block.specs.Seeking.{readable, not_below}
use Rattle.lsm_block.proofs.KeyLaws.{none_kept, kept_as}
use Rattle.lsm_block.proofs.search.scan_to.Goals as goal

pub scan_on-requires : goal.scan_on-requires
scan_on-requires c = subst (λ (b : List ℕ). Kept (last_of b) b) (sym c.requires) none_kept

pub scan_on-requires-2 : goal.scan_on-requires-2
scan_on-requires-2 c =
    let key = key_of c.args.key.now in
    let there = c.in_ok-push_key.ensures.ok
    ∙ ap (λ (b : List ℕ). b ++ key_bytes key) (c.reserve.ensures.items ∙ c.requires) in
    let is = c.in_ok-push_key.ensures.is_key in
    let kept = kept_as (key_bytes key) (subst (λ (k : InternalKey). IsKey (key_bytes key) k)
    (sym (key_again key is.fits)) is) in
    subst (λ (b : List ℕ). Kept (last_of b) b) (sym there) kept

pub returns-then-offset-start-clause-found : goal.returns-then-offset-start-clause-found
returns-then-offset-start-clause-found c =
    let text = c.args.text.now in
    let old = ap (λ (b : List ℕ). not_below (key_of c.args.key.now)
    (readable (length text) b (drop c.args.start text))) c.requires in
    IfOk-weaker c.scan_on.result _ _ (λ o h. h ∙ old) c.scan_on.ensures.found

pub returns-clause-found : goal.returns-clause-found
returns-clause-found c =
    let key = key_of c.args.key.now in
    let text = c.args.text.now in
    let offset = c.pass_below-offset.result in
    let there = c.in_ok-push_key.ensures.ok
    ∙ ap (λ (b : List ℕ). b ++ key_bytes key) (c.reserve.ensures.items ∙ c.requires) in
    let old = ap (λ (b : List ℕ). not_below key (readable (length text) b (drop offset text))) there
    in
    elim c.pass_below-offset.ensures [
      | inl here ↦ absurd (c.if-offset-start.false here)
      | inr same ↦ IfOk-weaker c.scan_on-2.result _ _ (λ o h. h
          ∙ (old ∙ same)) c.scan_on-2.ensures.found
    ]
