use Rattle.std.proofs.Common.{◌≡◌, ◌∷◌, ◌∙◌, [], ℕ, List, ap, codes, get_or, refl, rules}
use Rattle.lsm_text.specs.Spelling.{IsWord}
use Rattle.lsm_cmd_shell.proofs.WordTexts.{blank, three_texts}
use Rattle.lsm_cmd_shell.proofs.writes.put_in.Goals as goal

pub returns-in-Some-2-clause-some : goal.returns-in-Some-2-clause-some
returns-in-Some-2-clause-some c =
    let words = c.args.words.now in
    let name : (get_or words 0 blank).now ≡ codes "put" = search rules in
    let key : IsWord c.args.form (get_or words 1 blank).now c.in-Some.key = rw c.in-Some.is at c.in_ok-key-in-len3.ensures.only in
    let value : IsWord c.args.form (get_or words 2 blank).now c.in-Some-2.value = rw c.in-Some-2.is at c.in_ok-value-in-len3.ensures.only in
    record {
      key_word = (get_or words 1 blank).now;
      value_word = (get_or words 2 blank).now;
      bytes = c.in-Some-2.value;
      words_are = three_texts words c.in-len3.len_at_least c.in-len3.len_below ∙ ap (λ (x : List ℕ). x ∷ (get_or words 1 blank).now ∷ (get_or words 2 blank).now ∷ []) name;
      key = key;
      value = refl;
      spelled = value;
    }
