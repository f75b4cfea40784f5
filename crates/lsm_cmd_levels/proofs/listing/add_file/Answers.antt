use Rattle.std.specs.Prelude.{string_bytes}
use Rattle.lsm_cmd_levels.proofs.ListingLaws.{left_out}
use Rattle.lsm_cmd_levels.proofs.listing.add_file.Goals as goal

pub returns-in-Err-clause-added : goal.returns-in-Err-clause-added
returns-in-Err-clause-added g c =
    left_out c.without_size.result c.in-Err.fault (string_bytes c.args.name) c.as_str.result.now c.as_str-in-Err.result.now _ _ _ c.as_str.ensures.value c.as_str-in-Err.ensures.value
    c.without_size.ensures.without c.in-Err.ensures.noted
