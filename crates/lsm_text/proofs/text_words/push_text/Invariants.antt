use Rattle.std.proofs.Common.{◌≡◌, ◌++◌, take}
use Rattle.std.specs.List.{flat_map}
use Rattle.lsm_text.specs.Spelling.{spelled_byte}
use Rattle.lsm_text.proofs.text_words.push_text.Given as goal

abbrev pub invariant-loop-byte : goal.invariant-loop-byte
invariant-loop-byte l = l.out.items ≡ l.initial.out.items ++ flat_map spelled_byte (take l.byte-index l.bytes)
