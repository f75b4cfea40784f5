use Rattle.std.proofs.Common.{◌≡◌, ◌∷◌, [], ◌++◌, ℕ, List, ap, ◌∙◌}
use Rattle.json.specs.Print.{print}
use Rattle.lsm_cmd_read.proofs.JsonLaws.{line_written, written}
use Rattle.lsm_cmd_read.proofs.json_lines.append_json.Goals as goal

pub returns : goal.returns
returns c =
    let user = c.args.user.now in
    let value = c.args.value.now in
    let last = c.end_object.new.self in
    let tokens =
    written user value _ _ _ _ last.tokens c.new-writer.ensures.tokens
    c.in_ok-begin_object.ensures.ok c.in_ok-write_member.ensures.written
    c.in_ok-write_member-2.ensures.written c.in_ok-end_object.ensures.ok
    in
    let before : last.before ≡ c.args.out.items =
    c.in_ok-end_object.ensures.room.0 ∙ c.write_member-2.ensures.before
    ∙ c.write_member.ensures.before ∙ c.in_ok-begin_object.ensures.room.0
    ∙ c.new-writer.ensures.before
    in
    c.in_ok-push.ensures.items ∙ ap (λ (xs : List ℕ). xs ++ (10 ∷ []))
    c.into_inner-line.ensures.items
    ∙ ap (λ (b : List ℕ). (b ++ print last.tokens) ++ (10 ∷ [])) before
    ∙ line_written c.args.out.items user value last.tokens tokens
