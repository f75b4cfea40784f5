use Rattle.std.proofs.Common.{◌≡◌, ◌∷◌, ◌∙◌, [], ℕ, List, ap, codes, get_or, rules}
use Rattle.lsm_text.specs.Spelling.{IsWord}
use Rattle.lsm_text.specs.Numbers.{IsNumberWord}
use Rattle.lsm_script.proofs.WordLaws.{blank, four_texts}
use Rattle.lsm_script.proofs.command_line.range_in.Goals as goal

pub returns-in-Some-3-clause-some : goal.returns-in-Some-3-clause-some
returns-in-Some-3-clause-some c =
    let words = c.args.words.now in
    let name : (get_or words 0 blank).now ≡ codes "reserve" = search rules in
    let level : IsNumberWord 255 (get_or words 1 blank).now c.in-Some.level = search rules in
    let from : IsWord c.args.form (get_or words 2 blank).now c.in-Some-2.from = rw c.in-Some-2.is at c.in_ok-from-in-len4.ensures.only in
    let to : IsWord c.args.form (get_or words 3 blank).now c.in-Some-3.to = rw c.in-Some-3.is at c.in_ok-to-in-len4.ensures.only in (
      (get_or words 1 blank).now,
      (get_or words 2 blank).now,
      (get_or words 3 blank).now,
      four_texts words c.in-len4.len_at_least c.in-len4.len_below
          ∙ ap (λ (x : List ℕ). x ∷ (get_or words 1 blank).now ∷ (get_or words 2 blank).now ∷ (get_or words 3 blank).now ∷ []) name,
      level,
      from,
      to,
    )
