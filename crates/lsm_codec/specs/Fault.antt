-- The numbers and names of refusals in docs/FORMATS.md (this project's rule).
use Rattle.std.specs.Prelude.{ℕ, List, codes}
use Rattle.lsm_codec.specs.declared.fault.CodecFault.{CodecFault}
use Rattle.lsm_codec.specs.declared.fault.CodecFault.TheVariants.{Cut, TooBig, ShortKey, BadKind}

abbrev pub number_of : CodecFault → ℕ
number_of Cut = 2
number_of TooBig = 3
number_of ShortKey = 4
number_of (BadKind kind) = 5

abbrev pub name_of : CodecFault → List ℕ
name_of Cut = codes "Cut"
name_of TooBig = codes "TooBig"
name_of ShortKey = codes "ShortKey"
name_of (BadKind kind) = codes "BadKind"
