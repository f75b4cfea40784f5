-- Which names are of logs that LevelDB reads.
use Rattle.std.proofs.Common.{◌≡◌, ℕ, ◌+◌, ◌<◌, ◌≤◌, List, [], ◌∷◌, ◌++◌, length, get_or, take, map}
use Rattle.std.proofs.Common.{refl, sym, ap, ◌∙◌, subst, inl, inr, arith, Bool, true, false}
use Rattle.std.specs.Prelude.{◌↔◌, ◌⊎◌, MatchBool}
use Rattle.std.specs.List.Sorted.{IsStrictlyIncreasing}
use Rattle.lsm_codec.specs.Lists.{Has}
use Rattle.lsm_manifest.proofs.CallerLemmas.{has_snoc, snoc_has}
use Rattle.lsm_opening.specs.Names.{Among, IsManifestName}
use Rattle.lsm_opening.proofs.CallerLemmas.{all_names, next_name}
use Rattle.lsm_repair.specs.UnsureLogs.{AddsNumber, AreLogs, AreNumbers, IsLater, IsLogToRead}
use Rattle.lsm_repair.specs.UnsureLogs.{IsSure}
use Rattle.lsm_repair.specs.declared.old_logs.OldLogs.{OldLogs}
use Rattle.lsm_repair.proofs.FreeLaws.{among_front, among_last, among_split}

pub numbers_none : (logs : OldLogs) → AreNumbers logs [] []
numbers_none logs = λ n. ((λ h. absurd h), (λ h. absurd h.1))

pub number_added : (logs : OldLogs) (name : List ℕ) (ns : List ℕ) (m : ℕ) → IsLogToRead logs m name
    → ((n : ℕ) → IsLogToRead logs n name → n ≡ m) → AddsNumber logs name ns (ns ++ m ∷ [])
number_added logs name ns m is one = λ n. (
  (λ h. elim (has_snoc ns m n h) [
    | inl k ↦ inl k
    | inr e ↦ inr (subst (λ (k : ℕ). IsLogToRead logs k name) e is)
  ]),
  (λ h. snoc_has ns m n (elim h [ inl k ↦ inl k | inr k ↦ inr (sym (one n k)) ])),
)

pub number_not_added : (logs : OldLogs) (name : List ℕ) (ns : List ℕ)
    → ((n : ℕ) → IsLogToRead logs n name → ⊥) → AddsNumber logs name ns ns
number_not_added logs name ns none =
    λ n. ((λ h. inl h), (λ h. elim h [ inl k ↦ k | inr k ↦ absurd (none n k) ]))

all_more : (logs : OldLogs) (front : List (List ℕ)) (name : List ℕ) (ns ms : List ℕ)
    → AreNumbers logs front ns → AddsNumber logs name ns ms
    → AreNumbers logs (front ++ name ∷ []) ms
all_more logs front name ns ms are adds = λ n. (
  (λ h. elim ((adds n).0 h) [
    | inl k ↦ among_front front name (IsLogToRead logs n) ((are n).0 k)
    | inr k ↦ among_last front name (IsLogToRead logs n) k
  ]),
  (λ h. (adds n).1 (elim (among_split front name (IsLogToRead logs n) h) [
    | inl k ↦ inl ((are n).1 k)
    | inr k ↦ inr k
  ])),
)

pub numbers_more : {X : Type 0} (text : X → List ℕ) (logs : OldLogs) (xs : List X) (i : ℕ) (x : X)
    (word : List ℕ) (ns ms : List ℕ) → i < length xs → x ≡ get_or xs i x → word ≡ text x
    → AreNumbers logs (map text (take i xs)) ns → AddsNumber logs word ns ms
    → AreNumbers logs (map text (take (i + 1) xs)) ms
numbers_more text logs xs i x word ns ms lt is spelled are adds =
    subst (λ (names : List (List ℕ)). AreNumbers logs names ms)
    (next_name text xs i x word lt is spelled)
    (all_more logs (map text (take i xs)) word ns ms are adds)

pub numbers_all : {X : Type 0} (text : X → List ℕ) (logs : OldLogs) (xs : List X) (i : ℕ)
    (ns : List ℕ) → length xs ≤ i → AreNumbers logs (map text (take i xs)) ns
    → AreNumbers logs (map text xs) ns
numbers_all text logs xs i ns done are =
    subst (λ (names : List (List ℕ)). AreNumbers logs names ns) (all_names text xs i done) are

pub logs_are : (logs : OldLogs) (names : List (List ℕ)) (ns ms : List ℕ) → IsStrictlyIncreasing ms
    → ((n : ℕ) → Has ms n ↔ Has ns n) → AreNumbers logs names ns → AreLogs logs names ms
logs_are logs names ns ms up same are = record {
  ascending = up;
  all = λ n. ((λ h. (are n).0 ((same n).0 h)), (λ h. (same n).1 ((are n).1 h)));
}

-- ---- later manifests

pub not_later : (number other : ℕ) (name : List ℕ) → other ≤ number
    → ((n : ℕ) → IsManifestName n name → n ≡ other) → IsLater number name → ⊥
not_later number other name low one (m, named, above) =
    let same : m ≡ other = one m named in
    absurd (omega (arith, low, above, same))

pub none_more : {X : Type 0} (text : X → List ℕ) (P : List ℕ → Type 0) (xs : List X) (i : ℕ) (x : X)
    (word : List ℕ) → i < length xs → x ≡ get_or xs i x → word ≡ text x
    → (Among (map text (take i xs)) P → ⊥) → (P word → ⊥)
    → Among (map text (take (i + 1) xs)) P → ⊥
none_more text P xs i x word lt is spelled none this =
    subst (λ (names : List (List ℕ)). Among names P → ⊥)
    (next_name text xs i x word lt is spelled)
    (λ h. elim (among_split (map text (take i xs)) word P h) [
      | inl k ↦ none k
      | inr k ↦ this k
    ])

pub none_all : {X : Type 0} (text : X → List ℕ) (P : List ℕ → Type 0) (xs : List X) (i : ℕ)
    → length xs ≤ i → (Among (map text (take i xs)) P → ⊥) → Among (map text xs) P → ⊥
none_all text P xs i done none =
    subst (λ (names : List (List ℕ)). Among names P → ⊥) (all_names text xs i done) none

pub sure_by : (whole : Bool) (logs : OldLogs) (names : List (List ℕ)) → logs.is_whole ≡ whole
    → (Among names (IsLater logs.manifest) → ⊥)
    → MatchBool whole (IsSure logs names) (IsSure logs names → ⊥)
sure_by true logs names is none = record { whole = is; latest = none }
sure_by false logs names is none = λ h.
    (let e : false ≡ true = sym is ∙ h.whole in absurd cc)
