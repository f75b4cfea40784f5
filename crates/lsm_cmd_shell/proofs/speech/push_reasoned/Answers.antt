use Rattle.std.proofs.Common.{◌≡◌, ◌++◌, ◌∷◌, [], List, ℕ, ap, ◌∙◌}
use Rattle.lsm_script.specs.RefusalText.{refused_text}
use Rattle.lsm_cmd_shell.proofs.SpeechLaws.{reasoned, refused_open}
use Rattle.lsm_cmd_shell.proofs.speech.push_reasoned.Goals as goal

pub returns : goal.returns
returns c =
    let front : c.pop.new.self.items ≡ c.args.text.now.items ++ refused_text c.args.fault =
    refused_open c.args.text.now.items c.push_reply.new.out.items c.pop.new.self.items c.push_reply.new.out.len c.args.form c.args.fault c.in_ok-push_reply.ensures
    c.push_reply.new.out.ok.0 c.pop.ensures.rest in
    c.in_ok-push.ensures.items
    ∙ ap (λ (l : List ℕ). l ++ (10 ∷ [])) (c.in_ok-extend_from_slice-2.ensures.items ∙ ap (λ (l : List ℕ). l ++ c.args.reason.now) c.in_ok-extend_from_slice.ensures.items)
    ∙ reasoned c.args.text.now.items c.pop.new.self.items c.args.fault c.args.reason.now front
