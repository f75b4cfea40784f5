-- Names of benchmarks, joined by commas.
use Rattle.std.proofs.Common.{◌≡◌, ◌≢◌, ℕ, Bool, true, false, List, [], ◌∷◌, ◌++◌, map, Some, None, refl, sym, ap, ◌∙◌, subst, append_assoc, codes, eq-eqb, inl, inr}
use Rattle.std.specs.Prelude.{◌==◌, cond}
use Rattle.std.specs.List.{join_with_byte}
use Rattle.std.proofs.lemmas.Bool.{cases_eq, ne_eqb}
use Rattle.lsm_grammar.specs.BenchmarkList.{AreBenchmarks}
use Rattle.lsm_requests.specs.Benchmarks.{benchmark_word}
use Rattle.lsm_text.specs.EntryReading.{parts_at}
use Rattle.lsm_requests.specs.declared.benchmark.Benchmark.{Benchmark}
use Rattle.lsm_requests.specs.declared.benchmark.Benchmark.TheVariants as benchmark
use Rattle.lsm_text.proofs.CallerLemmas.{HasNo, parts_again, parts_none, parts_take}

-- no name has a comma

no_comma : List ℕ → Bool
no_comma [] = true
no_comma (c ∷ cs) = cond (c == 44) false (no_comma cs)

clear_of : (xs : List ℕ) → no_comma xs ≡ true → HasNo 44 xs
unfolding no_comma
clear_of [] none = tt
clear_of (c ∷ cs) none = elim (cases_eq c 44) [
  | inl same ↦
      let test : (c == 44) ≡ true = eq-eqb c 44 same in
      let bad : false ≡ true = rw test at none in absurd cc
  | inr other ↦
      let test : (c == 44) ≡ false = ne_eqb c 44 other in
      (other, clear_of cs (rw test at none))
]

name_clear : (b : Benchmark) → HasNo 44 (benchmark_word b)
unfolding no_comma
name_clear benchmark.FillBatch = clear_of (codes "fillbatch") refl
name_clear benchmark.FillRandom = clear_of (codes "fillrandom") refl
name_clear benchmark.Overwrite = clear_of (codes "overwrite") refl
name_clear benchmark.ReadRandom = clear_of (codes "readrandom") refl
name_clear benchmark.ReadWhileWriting = clear_of (codes "readwhilewriting") refl
name_clear benchmark.ReadSeq = clear_of (codes "readseq") refl
name_clear benchmark.Compact = clear_of (codes "compact") refl

-- ---- one more name in front

pub one_more : (b : Benchmark) (bs : List Benchmark) (after : List ℕ) → AreBenchmarks after bs
    → AreBenchmarks (benchmark_word b ++ (44 ∷ after)) (b ∷ bs)
one_more b [] after are = absurd (are.0 refl)
one_more b (c ∷ cs) after are = (λ e. cc, ap (λ (xs : List ℕ). benchmark_word b ++ (44 ∷ xs)) are.1)

pub just_one : (b : Benchmark) → AreBenchmarks (benchmark_word b) (b ∷ [])
just_one b = (λ e. cc, refl)

-- the first of them, where there is a comma, and where there is none
pub record IsFirst (name after : List ℕ) : Type 0 where
  pub first : Benchmark
  pub left : List Benchmark
  pub named : benchmark_word first ≡ name
  pub are : AreBenchmarks after left

same_parts : (p q : List ℕ × List ℕ) → Some p ≡ Some q → p ≡ q
same_parts p q e = cc

pub cut : (word : List ℕ) (p : List ℕ × List ℕ) (bs : List Benchmark) → parts_at 44 word ≡ Some p → AreBenchmarks word bs → IsFirst p.0 p.1
cut word p [] found are = absurd (are.0 refl)
cut word p (b ∷ []) found are =
    let none : parts_at 44 word ≡ None = ap (parts_at 44) are.1 ∙ parts_none 44 (benchmark_word b) (name_clear b) in
    let bad : Some p ≡ None = sym found ∙ none in absurd cc
cut word p (b ∷ c ∷ cs) found are =
    let after = join_with_byte 44 (map benchmark_word (c ∷ cs)) in
    let again : parts_at 44 word ≡ Some (benchmark_word b, after) = ap (parts_at 44) are.1 ∙ parts_again 44 (benchmark_word b) after (name_clear b) in
    let same : p ≡ (benchmark_word b, after) = same_parts p (benchmark_word b, after) (sym found ∙ again) in
    record { first = b; left = c ∷ cs; named = sym (ap (λ (q : List ℕ × List ℕ). q.0) same); are = (λ e. cc, ap (λ (q : List ℕ × List ℕ). q.1) same) }

pub last : (word : List ℕ) (bs : List Benchmark) → parts_at 44 word ≡ None → AreBenchmarks word bs
    → (b : Benchmark) × (benchmark_word b ≡ word)
last word [] none are = absurd (are.0 refl)
last word (b ∷ []) none are = (b, sym are.1)
last word (b ∷ c ∷ cs) none are =
    let after = join_with_byte 44 (map benchmark_word (c ∷ cs)) in
    let again : parts_at 44 word ≡ Some (benchmark_word b, after) = ap (parts_at 44) are.1 ∙ parts_again 44 (benchmark_word b) after (name_clear b) in
    let bad : None ≡ Some (benchmark_word b, after) = sym none ∙ again in absurd cc

-- ---- a loop over the names of a word

-- of a word these names are read, and the rest is left
pub record HasNamed (word : List ℕ) (found : List Benchmark) (rest : List ℕ) : Type 0 where
  pub more : (bs : List Benchmark) → AreBenchmarks rest bs → AreBenchmarks word (found ++ bs)
  pub back : (bs : List Benchmark) → AreBenchmarks word bs → (left : List Benchmark) × AreBenchmarks rest left

pub named_none : (word : List ℕ) → HasNamed word [] word
named_none word = record { more = λ bs are. are; back = λ bs are. (bs, are) }

pub named_more : (word : List ℕ) (found : List Benchmark) (rest name after : List ℕ) (b : Benchmark) → HasNamed word found rest
    → Some (name, after) ≡ parts_at 44 rest → benchmark_word b ≡ name → HasNamed word (found ++ b ∷ []) after
named_more word found rest name after b has parted is = record {
  more = λ bs are.
      let front : benchmark_word b ++ (44 ∷ after) ≡ name ++ (44 ∷ after) = ap (λ (xs : List ℕ). xs ++ (44 ∷ after)) is in
      let whole : benchmark_word b ++ (44 ∷ after) ≡ rest = front ∙ sym (parts_take 44 rest (name, after) (sym parted)).0 in
      subst (λ (xs : List Benchmark). AreBenchmarks word xs) (sym (append_assoc found (b ∷ []) bs))
      (has.more (b ∷ bs) (subst (λ (xs : List ℕ). AreBenchmarks xs (b ∷ bs)) whole (one_more b bs after are)));
  back = λ bs are. let left = has.back bs are in let first = cut rest (name, after) left.0 (sym parted) left.1 in (first.left, first.are);
}

pub named_all : (word : List ℕ) (found : List Benchmark) (rest : List ℕ) (b : Benchmark) → HasNamed word found rest → benchmark_word b ≡ rest
    → AreBenchmarks word (found ++ b ∷ [])
named_all word found rest b has name = has.more (b ∷ []) (subst (λ (xs : List ℕ). AreBenchmarks xs (b ∷ [])) name (just_one b))

-- another name is none of them

pub bad_first : (word : List ℕ) (found : List Benchmark) (rest name after : List ℕ) → HasNamed word found rest
    → Some (name, after) ≡ parts_at 44 rest → ((b : Benchmark) → benchmark_word b ≢ name) → (bs : List Benchmark) → AreBenchmarks word bs → ⊥
bad_first word found rest name after has parted none bs are =
    let left = has.back bs are in let first = cut rest (name, after) left.0 (sym parted) left.1 in none first.first first.named

pub bad_last : (word : List ℕ) (found : List Benchmark) (rest : List ℕ) → HasNamed word found rest → None ≡ parts_at 44 rest
    → ((b : Benchmark) → benchmark_word b ≢ rest) → (bs : List Benchmark) → AreBenchmarks word bs → ⊥
bad_last word found rest has parted none bs are =
    let left = has.back bs are in let b = last rest left.0 (sym parted) left.1 in none b.0 b.1
