-- The benchmarks that a word names.
use Rattle.std.specs.Prelude.{◌≡◌, ◌≢◌, ℕ, List, [], map}
use Rattle.std.specs.List.{join_with_byte}
use Rattle.lsm_requests.specs.Benchmarks.{benchmark_word}
use Rattle.lsm_requests.specs.declared.benchmark.Benchmark.{Benchmark}

-- The word is the names of the benchmarks, of which there are some, joined by commas (44).
abbrev pub AreBenchmarks : List ℕ → List Benchmark → Type 0
AreBenchmarks word benchmarks =
    (benchmarks ≢ []) × (word ≡ join_with_byte 44 (map benchmark_word benchmarks))
