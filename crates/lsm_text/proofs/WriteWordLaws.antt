-- Words have neither `=` nor `!`.
use Rattle.std.proofs.Common.{◌≢◌, ℕ, List, [], ◌∷◌}
use Rattle.std.specs.Prelude.{All}
use Rattle.std.proofs.lemmas.List.Elements.{All-head, All-tail}
use Rattle.lsm_text.specs.Spelling.{IsClear, IsWord}
use Rattle.lsm_text.specs.declared.form.Form.{Form}
use Rattle.lsm_text.proofs.PartLaws.{HasNo}
use Rattle.lsm_text.proofs.SpellingLaws.{word_clear}

-- it stands between words, and in none
abbrev pub IsMark : ℕ → Type 0
IsMark separator = (c : ℕ) → IsClear c → c ≢ separator

clear-HasNo : (separator : ℕ) (cs : List ℕ) → IsMark separator → All IsClear cs → HasNo separator cs
clear-HasNo separator [] b h = tt
clear-HasNo separator (c ∷ cs) b h = (b c (All-head IsClear c cs h), clear-HasNo separator cs b (All-tail IsClear c cs h))

pub word-HasNo : (form : Form) (separator : ℕ) (word bytes : List ℕ) → IsMark separator → IsWord form word bytes → HasNo separator word
word-HasNo form separator word bytes b h = clear-HasNo separator word b (word_clear form word bytes h)

pub equals_sign : IsMark 61
equals_sign c h = h.0

pub exclamation : IsMark 33
exclamation c h = h.1
