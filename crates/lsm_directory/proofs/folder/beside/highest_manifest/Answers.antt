use Rattle.std.proofs.Common.{map, take, string_bytes, subst}
use Rattle.lsm_directory.specs.Beside.{IsHighestManifest}
use Rattle.lsm_directory.proofs.BesideLaws.{all_names, highest_none, next_name}
use Rattle.lsm_directory.proofs.folder.beside.highest_manifest.Goals as goal

pub loop-name-init : goal.loop-name-init
loop-name-init c = highest_none

pub loop-name-preserved : goal.loop-name-preserved
loop-name-preserved c =
    subst (λ ns. IsHighestManifest ns c.highest_with-highest.result)
    (next_name string_bytes c.args.names.now c.loop-name.name-index c.name-item.result
    c.as_str.result.now c.loop-name-test.true c.name-item.is c.as_str.ensures.value)
    (c.highest_with-highest.ensures
    (map string_bytes (take c.loop-name.name-index c.args.names.now)) c.loop-name.invariant)

pub returns : goal.returns
returns c = subst (λ ns. IsHighestManifest ns c.loop-name.highest)
    (all_names string_bytes c.args.names.now c.loop-name.name-index c.loop-name-test.false)
    c.loop-name.invariant
