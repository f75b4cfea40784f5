-- The refusals of a batch: their numbers and names (this project's rule).
use Rattle.std.specs.Prelude.{ℕ, List, codes}
use Rattle.lsm_batch.specs.declared.batch_fault.BatchFault.{BatchFault}
use Rattle.lsm_batch.specs.declared.batch_fault.BatchFault.TheVariants.{EmptyBatch, KeyOrder}
use Rattle.lsm_batch.specs.declared.batch_fault.BatchFault.TheVariants.{TooLarge}

abbrev pub number_of : BatchFault → ℕ
number_of EmptyBatch = 37
number_of (KeyOrder _) = 38
number_of TooLarge = 39

abbrev pub name_of : BatchFault → List ℕ
name_of EmptyBatch = codes "EmptyBatch"
name_of (KeyOrder _) = codes "KeyOrder"
name_of TooLarge = codes "TooLarge"
