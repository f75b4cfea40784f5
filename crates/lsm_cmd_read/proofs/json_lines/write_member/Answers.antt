use Rattle.std.proofs.Common.{◌∙◌}
use Rattle.lsm_cmd_read.proofs.JsonLaws.{coded_written, plain_written}
use Rattle.lsm_cmd_read.proofs.json_lines.write_member.Goals as goal

pub returns-in-Ok-clause-written : goal.returns-in-Ok-clause-written
returns-in-Ok-clause-written c =
    plain_written c.write_text.result _ _ c.args.name.now c.args.other.now c.args.bytes.now
    c.in-Ok.text.now c.in-Ok.ensures.cases.1 c.in-Ok.ensures.cases.0
    c.write_text.ensures.written

pub returns-in_ok-encode-in-Err-clause-written : goal.returns-in_ok-encode-in-Err-clause-written
returns-in_ok-encode-in-Err-clause-written c =
    coded_written c.write_text-in-Err.result _ _ c.args.name.now c.args.other.now c.args.bytes.now
    c.as_str.result.now c.in-Err.ensures.cases.0
    (c.as_str.ensures.value ∙ c.in_ok-encode-in-Err.ensures.text)
    c.write_text-in-Err.ensures.written
