-- Tables that are opened as the sources of a merge.
use Rattle.std.proofs.Common.{List, [], ◌∷◌, map, refl, inl, inr}
use Rattle.std.specs.List.{All}
use Rattle.std.proofs.lemmas.List.Elements.{All-nil, All-cons}
use Rattle.lsm_table.specs.Registry.{Table, image_of}
use Rattle.lsm_iterators.specs.Runs.{HasEntries}
use Rattle.lsm_version.specs.Versions.{AreWhole, IsWhole}

pub has_entries : (t : Table) → IsWhole t → HasEntries t.image
has_entries t w = record { table = w.table; some = λ e. absurd (cc (e, w.entries.first.2)) }

pub have_entries : (ts : List Table) → AreWhole ts → All HasEntries (map image_of ts)
have_entries [] w = All-nil HasEntries
have_entries (t ∷ ts) w = All-cons HasEntries t.image (map image_of ts) (has_entries t (w t (inl refl))) (have_entries ts (λ u h. w u (inr h)))
