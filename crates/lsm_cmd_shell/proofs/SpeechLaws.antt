-- A refusal, and the system's reason behind it.
use Rattle.std.proofs.Common.{◌≡◌, ◌≢◌, ℕ, ◌-◌, List, [], ◌∷◌, ◌++◌, All, length, take, codes, refl, sym, ap, ◌∙◌, subst, append_assoc, arith, length-append}
use Rattle.std.proofs.lemmas.List.{take_at}
use Rattle.std.proofs.lemmas.List.Elements.{All-cons, All-nil}
use Rattle.lsm_text.proofs.CallerLemmas.{HasNo}
use Rattle.lsm_text.specs.declared.form.Form.{Form}
use Rattle.lsm_script.specs.RefusalText.{refused_text}
use Rattle.lsm_script.specs.ReplyText.{reply_text}
use Rattle.lsm_script.specs.declared.command_fault.CommandFault.{CommandFault}
use Rattle.lsm_script.specs.declared.reply.Reply.TheVariants.{Refused}
use Rattle.lsm_cmd_shell.specs.Reasoned.{reasoned_text}

pub all_others : (text : List ℕ) → HasNo 10 text → All (λ c. c ≢ 10) text
all_others [] h = All-nil (λ c. c ≢ 10)
all_others (c ∷ cs) h = All-cons (λ x. x ≢ 10) c cs h.0 (all_others cs h.1)

without_last : (xs : List ℕ) (x : ℕ) → take (length (xs ++ x ∷ []) - 1) (xs ++ x ∷ []) ≡ xs
without_last xs x = take_at xs (x ∷ []) (length (xs ++ x ∷ []) - 1) (omega (arith, length-append xs (x ∷ [])))

refused_line : (form : Form) (fault : CommandFault) → reply_text form (Refused fault) ≡ refused_text fault ++ (10 ∷ [])
unfolding reply_text
refused_line form fault = refl

-- the newline of a refusal goes
pub refused_open : (old mid new : List ℕ) (n : ℕ) (form : Form) (fault : CommandFault) → mid ≡ old ++ reply_text form (Refused fault) → n ≡ length mid → new ≡ take (n - 1) mid
    → new ≡ old ++ refused_text fault
refused_open old mid new n form fault m count rest =
    let line : mid ≡ (old ++ refused_text fault) ++ (10 ∷ []) =
    m ∙ ap (λ (l : List ℕ). old ++ l) (refused_line form fault) ∙ sym (append_assoc old (refused_text fault) (10 ∷ [])) in
    rest ∙ ap (λ k. take (k - 1) mid) count ∙ ap (λ (l : List ℕ). take (length l - 1) l) line ∙ without_last (old ++ refused_text fault) 10

pub reasoned : (old front : List ℕ) (fault : CommandFault) (reason : List ℕ) → front ≡ old ++ refused_text fault
    → ((front ++ codes ": ") ++ reason) ++ (10 ∷ []) ≡ old ++ reasoned_text fault reason
reasoned old front fault reason e = rw e (simp append_assoc)
