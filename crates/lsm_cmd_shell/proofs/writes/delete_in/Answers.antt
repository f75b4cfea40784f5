use Rattle.std.proofs.Common.{◌≡◌, ◌∷◌, ◌∙◌, [], ℕ, List, ap, codes, get_or, refl, rules}
use Rattle.lsm_text.specs.Spelling.{IsWord}
use Rattle.lsm_cmd_shell.proofs.WordTexts.{blank, two_texts}
use Rattle.lsm_cmd_shell.proofs.writes.delete_in.Goals as goal

pub returns-in-Some-clause-some : goal.returns-in-Some-clause-some
returns-in-Some-clause-some c =
    let words = c.args.words.now in
    let name : (get_or words 0 blank).now ≡ codes "delete" = search rules in
    let key : IsWord c.args.form (get_or words 1 blank).now c.in-Some.key = rw c.in-Some.is at c.in_ok-key-in-len2.ensures.only in
    record {
      key_word = (get_or words 1 blank).now;
      words_are = two_texts words c.in-len2.len_at_least c.in-len2.len_below ∙ ap (λ (x : List ℕ). x ∷ (get_or words 1 blank).now ∷ []) name;
      key = key;
      none = refl;
    }
