use Rattle.lsm_cmd_shell.proofs.wrong_word.is_text_write.Goals as goal

pub returns-in-Hex : goal.returns-in-Hex
returns-in-Hex c = rw c.in-Hex.is c.is_write_of_text.ensures
