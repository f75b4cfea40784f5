-- What a merge of a job comes to.
use Rattle.std.specs.Prelude.{List, [], None}
use Rattle.lsm_codec.specs.Entries.{Entry}
use Rattle.lsm_table.specs.Registry.{Table}
use Rattle.lsm_model.specs.Files.{all_entries}
use Rattle.lsm_model.specs.Streams.{IsMerge}
use Rattle.lsm_merge.specs.Dropping.{IsMerged}
use Rattle.lsm_merge.specs.Outputs.{Made}
use Rattle.lsm_merge.specs.Work.{Work, contents_of, finished, job_of}

-- nothing was made yet of a job
abbrev pub nothing_of : Work → Made
nothing_of w = record {
  ticket = w.ticket;
  options = w.table;
  target = w.target_size;
  tables = [];
  put = [];
  last = None;
}

-- The tables hold the kept entries of the job's inputs, merged and cut.
pub record AreMergedOf (w : Work) (tables : List Table) : Type 0 where
  pub merged : List Entry
  pub merges : IsMerge merged (all_entries (job_of w).inputs)
  pub is : IsMerged w.floor w.ranges (finished w.table) w.target_size merged (contents_of tables)
