use Rattle.std.proofs.Common.{◌≡◌}
use Rattle.std.specs.Prelude.{Ok}
use Rattle.lsm_directory.proofs.NameNumberLaws.{number_found, number_only, plus_is_none}
use Rattle.lsm_directory.proofs.folder.file_names.number_in.Goals as goal

pub returns-then-begins_with_plus-clause-found : goal.returns-then-begins_with_plus-clause-found
returns-then-begins_with_plus-clause-found c = λ n (numeral, value, small).
    absurd (plus_is_none c.args.digits.now numeral (rw c.if-begins_with_plus.true at c.begins_with_plus.ensures))

pub returns-in-Ok-clause-only : goal.returns-in-Ok-clause-only
returns-in-Ok-clause-only c = λ n is.
    let read : c.parse.result ≡ Ok n = cc in
    number_only c.args.digits.now n c.parse.result (rw c.if-begins_with_plus.false at c.begins_with_plus.ensures) c.parse.ensures.value.0 read

pub returns-in-Ok-clause-found : goal.returns-in-Ok-clause-found
returns-in-Ok-clause-found c = λ n (numeral, value, small).
    let read = number_found c.args.digits.now n c.parse.result c.parse.ensures.value.0 numeral value small in
    cc

pub returns-in-Err-clause-found : goal.returns-in-Err-clause-found
returns-in-Err-clause-found c = λ n (numeral, value, small).
    let read = number_found c.args.digits.now n c.parse.result c.parse.ensures.value.0 numeral value small in
    cc
