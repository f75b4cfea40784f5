use Rattle.std.proofs.Common.{List, ℕ, Option, None}
use Rattle.lsm_journal.proofs.Loops.{keys_are}
use Rattle.lsm_journal.proofs.written.keys_of.Goals as goal

pub returns : goal.returns
returns g c =
    keys_are {A = Option (List ℕ)} None c.args.version.now.pointers _ _ _ _ _ _ _ c.requires c.in_ok-key_0.ensures c.in_ok-key_1.ensures c.in_ok-key_2.ensures c.in_ok-key_3.ensures c.in_ok-key_4.ensures c.in_ok-key_5.ensures c.in_ok-key_6.ensures
