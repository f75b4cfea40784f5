use Rattle.std.proofs.Common.{◌≡◌, ℕ, List, [], ◌∷◌, ◌++◌, ◌∙◌, ap, inl, inr}
use Rattle.lsm_shelf.proofs.CallerLemmas.{becomes_same}
use Rattle.lsm_merge.proofs.PutLaws.{drew_put, err_if, puts_none, puts_once}
use Rattle.lsm_merge.proofs.putting.put_image.Goals as goal

pub returns-in-Err-push-2-clause-leaves : goal.returns-in-Err-push-2-clause-leaves
returns-in-Err-push-2-clause-leaves g c = λ there.
    let pushed : c.push.new.self.items ≡ c.args.put.now.items ++ c.args.number ∷ [] =
    (let i = c.in-Ok-push.ensures.items in i ∙ ap (λ (l : List ℕ). l ++ c.args.number ∷ []) c.in_ok-reserve.ensures.items) in
    drew_put c.args.put.now.items c.push.new.self.items c.args.number there pushed

pub returns-in_err-reserve-clause-told : goal.returns-in_err-reserve-clause-told
returns-in_err-reserve-clause-told g c =
    puts_none c.args.put.now.items c.reserve.new.self.items c.args.shelf.now c.args.shelf.now c.in_err-reserve.ensures.items (becomes_same c.args.shelf.now)

pub returns-in-Err-clause-told : goal.returns-in-Err-clause-told
returns-in-Err-clause-told g c =
    puts_none c.args.put.now.items c.reserve.new.self.items c.args.shelf.now c.put_alone.new.shelf c.in_ok-reserve.ensures.items c.in-Err.ensures.err

pub returns-in-Ok-push-2-clause-told : goal.returns-in-Ok-push-2-clause-told
returns-in-Ok-push-2-clause-told g c =
    let i = c.in-Ok-push.ensures.items in
    puts_once c.args.put.now.items c.push.new.self.items c.args.number c.args.image.bytes c.args.shelf.now c.put_alone.new.shelf
    (i ∙ ap (λ (l : List ℕ). l ++ c.args.number ∷ []) c.in_ok-reserve.ensures.items) c.in-Ok.ensures.ok

pub returns-in-Err-push-2-clause-told : goal.returns-in-Err-push-2-clause-told
returns-in-Err-push-2-clause-told g c =
    let i = c.in-Ok-push.ensures.items in
    puts_once c.args.put.now.items c.push.new.self.items c.args.number c.args.image.bytes c.args.shelf.now c.put_alone.new.shelf
    (i ∙ ap (λ (l : List ℕ). l ++ c.args.number ∷ []) c.in_ok-reserve.ensures.items) c.in-Ok.ensures.ok

pub returns-in_err-reserve-clause-stands : goal.returns-in_err-reserve-clause-stands
returns-in_err-reserve-clause-stands g c = err_if _ (inl (c.in_err-reserve.ensures.items, becomes_same c.args.shelf.now))

pub returns-in-Err-clause-stands : goal.returns-in-Err-clause-stands
returns-in-Err-clause-stands g c = inl (c.in_ok-reserve.ensures.items, c.in-Err.ensures.err)

pub returns-in-Err-push-2-clause-stands : goal.returns-in-Err-push-2-clause-stands
returns-in-Err-push-2-clause-stands g c =
    let i = c.in-Ok-push.ensures.items in
    inr (i ∙ ap (λ (l : List ℕ). l ++ c.args.number ∷ []) c.in_ok-reserve.ensures.items, c.in-Ok.ensures.ok)
