use Rattle.std.specs.Option.{option_map}
use Rattle.lsm_codec.specs.KeyRef.{key_of}
use Rattle.lsm_iterators.specs.Heads.{user_named}
use Rattle.lsm_iterators.proofs.FrontLaws.{common_none_first, common_none_second}
use Rattle.lsm_iterators.proofs.front.judged.Goals as goal

pub returns-in-None-default-clause-all : goal.returns-in-None-default-clause-all
returns-in-None-default-clause-all c = rw c.in-None-default.is-0 (common_none_first (user_named (option_map key_of c.args.other)))

pub returns-in-Some-None-clause-all : goal.returns-in-Some-None-clause-all
returns-in-Some-None-clause-all c = rw c.in-Some-None.is-1 (common_none_second (user_named (option_map key_of c.args.own)))
