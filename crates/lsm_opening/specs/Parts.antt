-- What a state is made with (this project's rule).
use Rattle.std.specs.Prelude.{◌≡◌, false, true, List, length}
use Rattle.atomic_table.specs.Seated.{TableId}
use Rattle.boxcar.specs.Table.{Shelves}
use Rattle.lsm_history.specs.declared.new_history.NewHistory.{NewHistory}
use Rattle.lsm_pins.specs.Known.{Known}
use Rattle.lsm_state.specs.Making.{IsNewBoard, IsNewHistory}
use Rattle.lsm_state.specs.Options.{Fits}
use Rattle.lsm_state.specs.declared.options.Options.{Options}

-- LevelDB's sizes, 64 slots, 4 readers with caches of 512 blocks, and manifests of 64 KiB, or of
-- twice what a whole one has
abbrev pub usual : Options
usual = record {
  block_size = 4096;
  restart_interval = 16;
  target_size = 2097152;
  versions = 64;
  readers = 4;
  cache_blocks = 512;
  manifest_limit = 65536;
  manifest_grows = true;
}

-- what scripts are played with: caches of 64 blocks, and manifests of 1 MiB
abbrev pub plain : Options
plain = record usual { cache_blocks = 64; manifest_limit = 1048576; manifest_grows = false }

-- What contracts see of parts that have no name yet: the options that they fit, and for what a
-- name of theirs will stand.
pub record Made : Type 0 where
  pub options : Options
  pub registry : Shelves
  pub board : TableId
  pub history : TableId

-- The name of this registry, this board and this history stands for the parts, which fit these
-- options.
pub record AreOf (o : Options) (registry : Shelves) (board history : TableId) (p : Made)
    : Type 0 where
  pub options : p.options ≡ o
  pub registry_is : p.registry ≡ registry
  pub board_is : p.board ≡ board
  pub history_is : p.history ≡ history

-- The options are in range, and these are the ends of this board, just made for them: a pinner for
-- each reader.
pub record AreNew (board : TableId) (o : Options) (publisher : Known) (pinners : List Known)
    : Type 0 where
  pub fits : Fits o
  pub made : IsNewBoard board o publisher pinners
  pub seats : length pinners ≡ o.readers

-- They are, and the history is this one, into which nothing came.
pub record AreNamed (board history : TableId) (o : Options) (publisher : Known)
    (pinners : List Known) (past : NewHistory) : Type 0 where
  pub new : AreNew board o publisher pinners
  pub none : IsNewHistory history past
