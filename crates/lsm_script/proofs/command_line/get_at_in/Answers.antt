use Rattle.std.proofs.Common.{◌≡◌, ◌∷◌, ◌∙◌, [], ℕ, List, ap, codes, get_or, rules}
use Rattle.lsm_text.specs.Spelling.{IsWord}
use Rattle.lsm_script.specs.CommandLine.{most}
use Rattle.lsm_text.specs.Numbers.{IsNumberWord}
use Rattle.lsm_script.proofs.WordLaws.{blank, three_texts}
use Rattle.lsm_script.proofs.command_line.get_at_in.Goals as goal

pub returns-in-Some-2-clause-some : goal.returns-in-Some-2-clause-some
returns-in-Some-2-clause-some c =
    let words = c.args.words.now in
    let name : (get_or words 0 blank).now ≡ codes "get" = search rules in
    let key : IsWord c.args.form (get_or words 1 blank).now c.in-Some-2.key = rw c.in-Some-2.is at c.in_ok-key-in-len3.ensures.only in
    let id : IsNumberWord most (get_or words 2 blank).now c.in-Some.id = c.in-Some.ensures.some in (
      (get_or words 1 blank).now,
      (get_or words 2 blank).now,
      three_texts words c.in-len3.len_at_least c.in-len3.len_below ∙ ap (λ (x : List ℕ). x ∷ (get_or words 1 blank).now ∷ (get_or words 2 blank).now ∷ []) name,
      key,
      id,
    )
