-- What a mirror shows instead of what lies on a shelf (this project's rule).
use Rattle.std.specs.Prelude.{◌≡◌, ◌≢◌, ◌⊎◌, ℕ, Bool, true, false, List, Option, Some, None}
use Rattle.std.specs.Prelude.{Result, Ok, Err, IfSome}
use Rattle.std.specs.Option.{option_map}
use Rattle.lsm_shelf.specs.Told.{Told}
use Rattle.lsm_table.specs.declared.table_options.TableOptions.{TableOptions}
use Rattle.lsm_inflate.specs.PackedReading.{inflated_at}
use Rattle.lsm_inflate.specs.declared.inflate_fault.InflateFault.{InflateFault}
use Rattle.lsm_mirror.specs.declared.view.View.{View}
use Rattle.lsm_mirror.specs.declared.view.MadeTable.{MadeTable}

pub record Shown : Type 0 where
  -- the bytes that are shown instead of the manifest's
  pub manifest : List ℕ
  -- number and image of a table that lies nowhere
  pub made : Option (ℕ × List ℕ)
  -- whether the tables are shown as plain ones
  pub inflates : Bool

abbrev pub made_of : Option MadeTable → Option (ℕ × List ℕ)
made_of made = option_map (λ m. (m.number, m.image.items)) made

abbrev pub shown_of : View → Shown
shown_of view = record {
  manifest = view.manifest.items;
  made = made_of view.made;
  inflates = view.inflates;
}

-- ---- tables

-- LevelDB's usual options of tables
abbrev pub usual : TableOptions
usual = record { block_size = 4096; restart_interval = 16 }

abbrev pub plain_or : List ℕ → Result (Option (List ℕ)) InflateFault → List ℕ
plain_or packed (Ok (Some plain)) = plain
plain_or packed (Ok None) = packed
plain_or packed (Err fault) = packed

-- the image of the plain table of these bytes, or the bytes themselves where there is none
abbrev pub plain_image : List ℕ → List ℕ
plain_image packed = plain_or packed (inflated_at usual packed)

-- A plain table is made of the bytes.
abbrev pub IsMadePlain : List ℕ → Type 0
IsMadePlain packed = inflated_at usual packed ≡ Ok (Some (plain_image packed))

-- what is shown of a table with this image
abbrev pub shown_image : Bool → List ℕ → List ℕ
shown_image true packed = plain_image packed
shown_image false packed = packed

-- It is shown: of one that is shown plain, a plain table is made.
abbrev pub CanBeShown : Bool → List ℕ → Type 0
CanBeShown true packed = IsMadePlain packed
CanBeShown false packed = Unit {0}

-- it is not the number of the table that lies nowhere
abbrev pub IsBeside : Option (ℕ × List ℕ) → ℕ → Type 0
IsBeside made number = IfSome made (λ m. m.0 ≢ number)

-- The image is shown under the number: it is the table that lies nowhere, or what is shown of one
-- that lies below.
abbrev pub IsShown : (Below : ℕ → List ℕ → Type 0) → Shown → ℕ → List ℕ → Type 0
IsShown Below shown number image = (shown.made ≡ Some (number, image))
    ⊎ (IsBeside shown.made number × (packed : List ℕ) × Below number packed
    × CanBeShown shown.inflates packed × (image ≡ shown_image shown.inflates packed))

-- ---- what was told

-- where a manifest was found, its bytes are those that are shown
abbrev pub shown_found : List ℕ → Option (ℕ × List ℕ) → Option (ℕ × List ℕ)
shown_found manifest found = option_map (λ m. (m.0, manifest)) found

abbrev pub shown_sent : List ℕ → Option (ℕ × List ℕ) → List ℕ → List ℕ
shown_sent manifest (Some m) sent = manifest
shown_sent manifest None sent = sent

-- What was told of a shelf, as it is shown.
abbrev pub shown_told : Shown → Told → Told
shown_told shown t = record t {
  sent = shown_sent shown.manifest t.found t.sent;
  found = shown_found shown.manifest t.found;
}
