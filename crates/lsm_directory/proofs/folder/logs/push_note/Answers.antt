use Rattle.std.proofs.Common.{◌++◌, ◌∙◌, ℕ, List, ap}
use Rattle.std.specs.Prelude.{codes, decimal, string_bytes}
use Rattle.lsm_directory.specs.Logs.{note_line}
use Rattle.lsm_directory.proofs.LogLaws.{words_joined}
use Rattle.lsm_directory.proofs.folder.logs.push_note.Goals as goal

pub returns : goal.returns
unfolding note_line
returns c =
    c.in_ok-extend_from_slice.ensures.items ∙ ap (λ (t : List ℕ). t ++ codes " bytes are not read\n") c.in_ok-push_file.ensures
    ∙ words_joined c.args.out.now.items (codes "note: ") (string_bytes c.args.file.now.name) (codes " is not flushed: its ") (decimal c.args.file.now.size) (codes " bytes are not read\n")
