-- The ranges of options (this project's rule).
use Rattle.std.specs.Prelude.{◌+◌, ◌≤◌}
use Rattle.lsm_table.specs.Options.{AreInRange}
use Rattle.lsm_journal.specs.declared.manifest_limit.ManifestLimit.{ManifestLimit}
use Rattle.lsm_table.specs.declared.table_options.TableOptions.{TableOptions}
use Rattle.lsm_state.specs.declared.options.Options.{Options}

-- the sizes that tables are written with
abbrev pub sizes_of : Options → TableOptions
sizes_of o = record { block_size = o.block_size; restart_interval = o.restart_interval }

-- from how many bytes on a new manifest is due
abbrev pub limit_of : Options → ManifestLimit
limit_of o = record { bytes = o.manifest_limit; grows = o.manifest_grows }

pub record HasSizes (o : Options) : Type 0 where
  pub target_least : 1024 ≤ o.target_size
  pub target_most : o.target_size ≤ 67108864
  pub cache_least : 1 ≤ o.cache_blocks
  pub cache_most : o.cache_blocks ≤ 4096
  pub manifest_least : 64 ≤ o.manifest_limit
  pub manifest_most : o.manifest_limit ≤ 536870912

-- the board has a slot for each reader, and two more
pub record SeatsReaders (o : Options) : Type 0 where
  pub readers_least : 1 ≤ o.readers
  pub readers_most : o.readers ≤ 62
  pub versions_least : 3 ≤ o.versions
  pub versions_most : o.versions ≤ 64
  pub enough : o.readers + 2 ≤ o.versions

pub record Fits (o : Options) : Type 0 where
  pub sizes : AreInRange (sizes_of o)
  pub others : HasSizes o
  pub seats : SeatsReaders o
