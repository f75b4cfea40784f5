use Rattle.std.proofs.Common.{◌≡◌, true, false, List, All, sym, ◌∙◌, subst, get_or, take_all, Bor}
use Rattle.std.specs.List.{flat_map, list_any}
use Rattle.std.proofs.lemmas.List.Elements.{All-get_or}
use Rattle.lsm_codec.specs.Keys.{UserKey}
use Rattle.lsm_model.specs.Kept.{covers}
use Rattle.lsm_merge.specs.Rows.{IsRising}
use Rattle.lsm_merge.proofs.Rising.{in_no_row, in_one_row}
use Rattle.lsm_merge.proofs.rows.Rows.covers.Goals as goal

pub returns-then-is_in_row : goal.returns-then-is_in_row
returns-then-is_in_row c =
    let k = c.args.user.now in
    let items = c.deref-row-items.result.now in
    let i = c.loop-row.row-index in
    let row = c.row-item.result in
    let all : All (λ (r : Bor (List (UserKey × UserKey))). IsRising r.now) items =
    subst (λ (rs : List (Bor (List (UserKey × UserKey)))). All (λ (r : Bor (List (UserKey × UserKey))). IsRising r.now) rs) (sym c.deref-row-items.ensures.value) c.self.invariant in
    let rising : IsRising row.now = subst (λ (r : Bor (List (UserKey × UserKey))). IsRising r.now) (sym c.row-item.is)
    (All-get_or (λ (r : Bor (List (UserKey × UserKey))). IsRising r.now) items i row c.loop-row-test.true all) in
    let here : covers (get_or items i row).now k ≡ true = subst (λ (r : Bor (List (UserKey × UserKey))). covers r.now k ≡ true) c.row-item.is (sym (c.is_in_row.ensures rising) ∙ c.if-is_in_row.true) in
    sym (subst (λ (rs : List (UserKey × UserKey)). covers rs k ≡ true) c.self.view_is
    (subst (λ (rs : List (Bor (List (UserKey × UserKey)))). covers (flat_map (λ r. r.now) rs) k ≡ true) c.deref-row-items.ensures.value
    (in_one_row items i row k c.loop-row-test.true here)))

pub returns : goal.returns
returns c =
    let k = c.args.user.now in
    let items = c.deref-row-items.result.now in
    let none : list_any (λ (r : Bor (List (UserKey × UserKey))). covers r.now k) items ≡ false =
    subst (λ (rs : List (Bor (List (UserKey × UserKey)))). list_any (λ r. covers r.now k) rs ≡ false) (take_all c.loop-row.row-index items c.loop-row-test.false) c.loop-row.invariant in
    sym (subst (λ (rs : List (UserKey × UserKey)). covers rs k ≡ false) c.self.view_is
    (subst (λ (rs : List (Bor (List (UserKey × UserKey)))). covers (flat_map (λ r. r.now) rs) k ≡ false) c.deref-row-items.ensures.value
    (in_no_row items k none)))
