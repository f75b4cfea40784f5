use Rattle.std.proofs.Common.{ℕ, List, sym, ap, ◌∙◌, subst}
use Rattle.lsm_codec.specs.Keys.{IsKey}
use Rattle.lsm_codec.specs.KeyRef.{key_of}
use Rattle.lsm_block.specs.Held.{Position, last_of}
use Rattle.lsm_block.proofs.KeyLaws.{kept_some, kept_none}
use Rattle.lsm_block.proofs.cursor.Cursor.key.Goals as goal

pub returns-in-Ok : goal.returns-in-Ok
returns-in-Ok c =
    let s = c.self.inside in
    kept_some (last_of s.before.items) s.before.items (key_of c.in-Ok.key) c.self.invariant (rw c.deref.ensures.value at c.in-Ok.ensures.found) ∙ ap (λ (p : Position). p.last) c.self.view_is

pub returns-in-Err : goal.returns-in-Err
returns-in-Err c =
    let s = c.self.inside in
    kept_none (last_of s.before.items) s.before.items c.self.invariant
    (λ k h. (let bad = (c.in-Err.ensures.only k (subst (λ (xs : List ℕ). IsKey xs k) (sym c.deref.ensures.value) h)).1 in absurd cc))
    ∙ ap (λ (p : Position). p.last) c.self.view_is
