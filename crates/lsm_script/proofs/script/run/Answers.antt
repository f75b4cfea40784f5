use Rattle.std.proofs.Common.{◌≡◌, List, sym, subst}
use Rattle.lsm_script.specs.History.{History, IsAnswered, IsOf, history_of}
use Rattle.lsm_script.specs.Scripts.{AreReplies}
use Rattle.lsm_script.specs.Steps.{IsStep, OnDesk, Stage, stage, stage_of}
use Rattle.lsm_script.specs.declared.reply.Reply.{Reply}
use Rattle.lsm_script.proofs.Histories.{script_history}
use Rattle.lsm_script.proofs.script.run.Goals as goal

pub returns : goal.returns
returns g c =
    let H = g.S.Shelf.honest in
    let commands = c.args.commands.now in
    let start = c.args.state in
    let told = c.args.shelf.now in
    let replies = c.answer_all.new.replies.items in
    let end : Stage = stage c.answer_all.new.state c.answer_all.new.desk c.answer_all.new.shelf in
    let steps : AreReplies (IsStep H) commands replies (stage_of start told) end =
    subst (λ (d : OnDesk). AreReplies (IsStep H) commands replies (stage start d told) end) c.in-Ok.ensures.clear c.answer_all.ensures.replies
    in
    record {
      replies = (end.jobs, end.results, subst (λ (l : List Reply). AreReplies (IsStep H) commands l (stage_of start told) end) (sym c.of.ensures) steps);
      history = subst (λ (l : List Reply). (t : History) × AreReplies (IsAnswered H) commands l (history_of start) t × IsOf H t end.state) (sym c.of.ensures)
          (script_history H start commands replies told end c.options-options.ensures.law.law c.runs_read_all_that_came.ensures steps);
      err = tt;
    }
