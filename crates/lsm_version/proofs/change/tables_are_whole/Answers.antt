use Rattle.std.proofs.Common.{◌≡◌, List, [], ◌∷◌, ◌++◌, refl, sym, subst}
use Rattle.lsm_codec.specs.Keys.{IsKey}
use Rattle.lsm_codec.specs.Entries.{Entry, internal_key}
use Rattle.lsm_table.specs.Registry.{Table}
use Rattle.lsm_table.specs.Table.{IsTable}
use Rattle.lsm_table.proofs.CallerLemmas.{table_held}
use Rattle.lsm_model.specs.Ranges.{Range}
use Rattle.lsm_model.specs.Checking.{IsRangeOf}
use Rattle.lsm_version.specs.Versions.{IsWhole}
use Rattle.lsm_version.proofs.Ascending.{table_ascends}
use Rattle.lsm_version.proofs.change.tables_are_whole.Goals as goal

is_whole : (t : Table) (e : Entry) (rest front : List Entry) (l : Entry) → IsTable t.image (e ∷ rest) → e ∷ rest ≡ front ++ l ∷ [] → IsKey t.smallest (internal_key e) → IsKey t.largest (internal_key l) → IsWhole t
is_whole t e rest front l table parts first last =
    let r : Range = record { smallest = internal_key e; largest = internal_key l } in
    record {
      range = r;
      table = subst (λ (es : List Entry). IsTable t.image es) (sym (table_held t.image (e ∷ rest) table)) table;
      smallest = first;
      largest = last;
      entries = subst (λ (es : List Entry). IsRangeOf es r) (sym (table_held t.image (e ∷ rest) table))
          (record { ascending = table_ascends t.image (e ∷ rest) table; first = (e, rest, refl, refl); last = (front, l, parts, refl) });
    }

pub returns : goal.returns
returns c t e rest front l table parts first last = is_whole t e rest front l table parts first last
