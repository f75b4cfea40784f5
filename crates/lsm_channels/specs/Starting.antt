-- The options of a database that is served (this project's rule).
use Rattle.std.specs.Prelude.{ℕ, ◌/◌, max}
use Rattle.lsm_state.specs.declared.options.Options.{Options}
use Rattle.lsm_opening.specs.Parts.{usual}

-- the usual options, with a reader for each channel; their caches hold 2,048 blocks together, but
-- 64 each at least
abbrev pub options_for : ℕ → Options
options_for channels = record usual {
  readers = channels;
  cache_blocks = max (2048 / channels) 64;
}
