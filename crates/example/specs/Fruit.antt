-- Three entries as a table has them: keys ascend, and of one key the newest entry comes first.
use Rattle.std.specs.Prelude.{List, [], ◌∷◌, codes}
use Rattle.lsm_codec.specs.Entries.{Entry}
use Rattle.lsm_codec.specs.declared.kind.Kind.TheVariants.{Value, Deletion}

abbrev pub fruit : List Entry
fruit =
    record { user = codes "apple"; seq = 3; kind = Value; value = codes "red" }
    ∷ record { user = codes "apple"; seq = 1; kind = Value; value = codes "green" }
    ∷ record { user = codes "cherry"; seq = 2; kind = Deletion; value = [] }
    ∷ []
