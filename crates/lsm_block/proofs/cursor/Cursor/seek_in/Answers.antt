use Rattle.std.proofs.Common.{◌≡◌, ℕ, List, Option, None, sym, ap, ◌∙◌, subst}
use Rattle.lsm_codec.specs.Keys.{InternalKey}
use Rattle.lsm_block.specs.Held.{Position, Kept, last_of}
use Rattle.lsm_block.proofs.KeyLaws.{none_kept, no_last}
use Rattle.lsm_block.proofs.cursor.Cursor.seek_in.Goals as goal

pub invariant_of-self-in-Err : goal.invariant_of-self-in-Err
invariant_of-self-in-Err c = subst (λ (b : List ℕ). Kept (last_of b) b) (sym c.clear.ensures.items) none_kept

pub returns-in-Err-clause-err : goal.returns-in-Err-clause-err
returns-in-Err-clause-err c =
    let offset = c.self.inside.offset in
    let front : offset ≡ 0 = ap (λ (p : Position). p.offset) (c.self.view_is ∙ c.restart.ensures) in
    ap (λ (b : List ℕ). record { offset = offset; last = last_of b }) c.clear.ensures.items
    ∙ ap (λ (o : Option InternalKey). record { offset = offset; last = o }) no_last
    ∙ ap (λ (n : ℕ). record { offset = n; last = None }) front
