-- The words that name benchmarks. They are those of LevelDB's `benchmarks/db_bench.cc`.
use Rattle.std.specs.Prelude.{ℕ, List, codes}
use Rattle.lsm_requests.specs.declared.benchmark.Benchmark.{Benchmark}
use Rattle.lsm_requests.specs.declared.benchmark.Benchmark.TheVariants as benchmark

abbrev pub benchmark_word : Benchmark → List ℕ
benchmark_word benchmark.FillBatch = codes "fillbatch"
benchmark_word benchmark.FillRandom = codes "fillrandom"
benchmark_word benchmark.Overwrite = codes "overwrite"
benchmark_word benchmark.ReadRandom = codes "readrandom"
benchmark_word benchmark.ReadWhileWriting = codes "readwhilewriting"
benchmark_word benchmark.ReadSeq = codes "readseq"
benchmark_word benchmark.Compact = codes "compact"
