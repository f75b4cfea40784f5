-- Replies to lines that ask for nothing.
use Rattle.std.proofs.Common.{◌≡◌, ◌≢◌, List, ℕ, codes, refl, sym, ap, ◌∙◌, inl, inr}
use Rattle.std.specs.Prelude.{◌⊎◌}
use Rattle.lsm_text.specs.declared.form.Form.{Form}
use Rattle.lsm_cmd_shell.specs.Asks.{IsAsk}
use Rattle.lsm_cmd_shell.specs.Batching.{Standing, no_memory}
use Rattle.lsm_cmd_shell.specs.MistakeText.{mistake_text}
use Rattle.lsm_cmd_shell.specs.Mistakes.{IsMistake}
use Rattle.lsm_cmd_shell.specs.Said.{Said, failed}
use Rattle.lsm_cmd_shell.specs.Talk.{IsBadLine, IsReplied, Bad, Spent}
use Rattle.lsm_cmd_shell.specs.declared.ask.Ask.{Ask}
use Rattle.lsm_cmd_shell.specs.declared.mistake.Mistake.{Mistake}
use Rattle.lsm_cmd_shell.proofs.OneMistake.{one_mistake}

pub bad_or_spent : (honest : Type 0) (form : Form) (line : List ℕ) (said : Said) (s : Standing) → ((a : Ask) → IsAsk form line a → ⊥) → line ≢ codes "quit" → (IsBadLine form line said ⊎ (said ≡ no_memory))
    → IsReplied honest form line said s s
bad_or_spent honest form line said s none other (inl h) = Bad none other h refl
bad_or_spent honest form line said s none other (inr e) = Spent e refl

pub its_mistake : (form : Form) (line : List ℕ) (m : Mistake) (said : Said) → IsMistake form line m → ((said ≡ failed (mistake_text m)) ⊎ (said ≡ no_memory)) → IsBadLine form line said ⊎ (said ≡ no_memory)
its_mistake form line m said is (inl e) = inl (inl (m, is, e))
its_mistake form line m said is (inr e) = inr e

pub one_reply : (form : Form) (line : List ℕ) (a b : Said) → IsBadLine form line a → IsBadLine form line b → a ≡ b
one_reply form line a b (inl h) (inl k) = h.2 ∙ ap (λ (m : Mistake). failed (mistake_text m)) (one_mistake form line h.0 k.0 h.1 k.1) ∙ sym k.2
one_reply form line a b (inl h) (inr k) = absurd (k.0 h.0 h.1)
one_reply form line a b (inr h) (inl k) = absurd (h.0 k.0 k.1)
one_reply form line a b (inr h) (inr k) = h.1 ∙ sym k.1
