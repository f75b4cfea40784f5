use Rattle.std.proofs.Common.{refl}
use Rattle.lsm_import.proofs.CopyLaws.{other_keys}
use Rattle.lsm_import.proofs.copying.plain_of.Goals as goal

pub returns-then-not-has_keys-clause-refused : goal.returns-then-not-has_keys-clause-refused
returns-then-not-has_keys-clause-refused c =
    let found = rw c.in-Ok-Some.field-0-is at c.in-Ok-Some.ensures.found in (
      refl,
      other_keys c.args.packed.now c.args.file.now found.0 c.in-Ok-Some.plain found.1 found.2
          c.if-not-has_keys.ensures,
    )
