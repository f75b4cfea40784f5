use Rattle.std.proofs.lemmas.Str.{IsUtf8-from_ascii}
use Rattle.lsm_storage.specs.FileNames.{current_text}
use Rattle.lsm_storage.proofs.Padding.{current_text-is_ascii}
use Rattle.lsm_storage.proofs.file.file_names.manifest_in.Goals as goal

-- the line of a manifest is text
pub returns-in-Err : goal.returns-in-Err
returns-in-Err c = λ n. ((λ none. cc), (λ small is. absurd (c.in-Err.ensures.cases.0 (rw is (IsUtf8-from_ascii (current_text n) (current_text-is_ascii n small))))))
