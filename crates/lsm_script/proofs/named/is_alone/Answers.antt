use Rattle.std.proofs.Common.{◌≡◌, ◌≢◌, ◌∷◌, ◌∙◌, [], ℕ, List, ap, sym, refl, get_or, rules}
use Rattle.lsm_script.proofs.WordLaws.{blank, one_text}
use Rattle.lsm_script.proofs.named.is_alone.Goals as goal

pub returns-in-len1 : goal.returns-in-len1
returns-in-len1 c =
    let name : (get_or c.args.words.now 0 blank).now ≡ c.args.name.now = search rules in
    (λ h. one_text c.args.words.now c.in-len1.len_at_least c.in-len1.len_below ∙ ap (λ (x : List ℕ). x ∷ []) name, λ h. refl)

pub returns-in_default-2 : goal.returns-in_default-2
returns-in_default-2 c =
    let other : (get_or c.args.words.now 0 blank).now ≢ c.args.name.now = search rules in (
      λ never. absurd (cc),
      λ h. absurd (other (ap (λ (xs : List (List ℕ)). get_or xs 0 []) (sym (one_text c.args.words.now c.in-len1.len_at_least c.in-len1.len_below) ∙ h))),
    )
