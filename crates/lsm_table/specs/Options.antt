-- The sizes that a table is written with.
use Rattle.std.specs.Prelude.{◌≤◌}
use Rattle.lsm_table.specs.declared.table_options.TableOptions.{TableOptions}

-- The ranges of the options: this project's rule.
pub record AreInRange (options : TableOptions) : Type 0 where
  pub block_size_least : 64 ≤ options.block_size
  pub block_size_most : options.block_size ≤ 1048576
  pub restart_interval_least : 1 ≤ options.restart_interval
  pub restart_interval_most : options.restart_interval ≤ 128
