-- What names say of what lies beside the tables, one after another; and what is told of that.
use Rattle.std.proofs.Common.{◌≡◌, ℕ, ◌+◌, ◌<◌, ◌≤◌, max, List, [], ◌∷◌, ◌++◌, length, suc, zero}
use Rattle.std.proofs.Common.{get_or, take, map, Option, Some, None, refl, sym, ap, ◌∙◌, subst}
use Rattle.std.proofs.Common.{append_assoc, inl, inr, arith}
use Rattle.std.specs.Prelude.{◌⊎◌, MatchOption, OnOk, Result, Ok, Err, codes}
use Rattle.std.proofs.lemmas.List.{map_more, take_all}
use Rattle.lsm_codec.specs.Lists.{Has}
use Rattle.lsm_codec.proofs.CallerLemmas.{has_cases, has_left, has_right}
use Rattle.lsm_directory.specs.Beside.{Among, IsHighestManifest, IsManifestName, IsOfRocksDb}
use Rattle.lsm_directory.specs.Beside.{beside_text, later_text, later_than, rocksdb_text}
use Rattle.lsm_directory.specs.FileNames.{IsNumberBehind}
use Rattle.lsm_directory.specs.declared.folder.beside.Beside.{Beside}

-- ---- names so far

at_has : {X Y : Type 0} (text : X → Y) (xs : List X) (i : ℕ) (x : X) → i < length xs
    → x ≡ get_or xs i x → Has (map text xs) (text x)
at_has text [] i x inside is = absurd (omega (arith, inside))
at_has text (y ∷ xs) zero x inside is = inl (ap text (sym is))
at_has text (y ∷ xs) (suc i) x inside is = inr (at_has text xs i x (omega (arith, inside)) is)

pub among_at : {X : Type 0} (text : X → List ℕ) (P : List ℕ → Type 0) (xs : List X) (i : ℕ) (x : X)
    (word : List ℕ) → i < length xs → x ≡ get_or xs i x
    → word ≡ text x → P word → Among (map text xs) P
among_at text P xs i x word inside is spelled says =
    (text x, at_has text xs i x inside is, subst P spelled says)

-- the next one
pub next_name : {X : Type 0} (text : X → List ℕ) (xs : List X) (i : ℕ) (x : X) (word : List ℕ)
    → i < length xs → x ≡ get_or xs i x → word ≡ text x
    → map text (take i xs) ++ word ∷ [] ≡ map text (take (i + 1) xs)
next_name text xs i x word inside is spelled =
    ap (λ w. map text (take i xs) ++ w ∷ []) (spelled ∙ ap text is)
    ∙ sym (map_more text xs i x inside)

pub all_names : {X : Type 0} (text : X → List ℕ) (xs : List X) (i : ℕ) → length xs ≤ i
    → map text (take i xs) ≡ map text xs
all_names text xs i all = ap (map text) (take_all i xs all)

split : (front : List (List ℕ)) (word name : List ℕ) (P : List ℕ → Type 0)
    → Has front name ⊎ Has (word ∷ []) name → P name → Among front P ⊎ P word
split front word name P (inl has) says = inl (name, has, says)
split front word name P (inr (inl same)) says = inr (subst P (sym same) says)
split front word name P (inr (inr none)) says = absurd none

among_split : (front : List (List ℕ)) (word : List ℕ) (P : List ℕ → Type 0)
    → Among (front ++ word ∷ []) P → Among front P ⊎ P word
among_split front word P (name, has, says) =
    split front word name P (has_cases front (word ∷ []) name has) says

among_front : (front : List (List ℕ)) (word : List ℕ) (P : List ℕ → Type 0) → Among front P
    → Among (front ++ word ∷ []) P
among_front front word P (name, has, says) = (name, has_left front (word ∷ []) name has, says)

among_last : (front : List (List ℕ)) (word : List ℕ) (P : List ℕ → Type 0) → P word
    → Among (front ++ word ∷ []) P
among_last front word P says = (word, has_right front (word ∷ []) word (inl refl), says)

neither : {A B : Type 0} → A ⊎ B → (A → ⊥) → (B → ⊥) → ⊥
neither (inl a) first second = first a
neither (inr b) first second = second b

-- ---- none

pub none_more : {X : Type 0} (text : X → List ℕ) (P : List ℕ → Type 0) (xs : List X) (i : ℕ) (x : X)
    (word : List ℕ) → i < length xs → x ≡ get_or xs i x
    → word ≡ text x → (Among (map text (take i xs)) P → ⊥) → (P word → ⊥)
    → Among (map text (take (i + 1) xs)) P → ⊥
none_more text P xs i x word inside is spelled none other h =
    neither (among_split (map text (take i xs)) word P
    (subst (λ (ns : List (List ℕ)). Among ns P)
    (sym (next_name text xs i x word inside is spelled)) h)) none other

pub none_all : {X : Type 0} (text : X → List ℕ) (P : List ℕ → Type 0) (xs : List X) (i : ℕ)
    → length xs ≤ i → (Among (map text (take i xs)) P → ⊥)
    → Among (map text xs) P → ⊥
none_all text P xs i all none h =
    none (subst (λ (ns : List (List ℕ)). Among ns P) (sym (all_names text xs i all)) h)

-- ---- the highest manifest

pub highest_none : IsHighestManifest [] None
highest_none = λ m h. absurd h.1

at_most : (front : List (List ℕ)) (word : List ℕ) (n m : ℕ)
    → ((k : ℕ) → Among front (IsManifestName k) → k ≤ n)
    → Among front (IsManifestName m) ⊎ IsManifestName m word → (IsManifestName m word → m ≤ n)
    → m ≤ n
at_most front word n m most (inl h) last = most m h
at_most front word n m most (inr h) last = last h

max_is : (a b : ℕ) → (max a b ≡ a) ⊎ (max a b ≡ b)
max_is a b = grind arith

higher_one : (front : List (List ℕ)) (word : List ℕ) (known k n : ℕ)
    → Among front (IsManifestName known) → IsManifestName k word → n ≡ max known k
    → Among (front ++ word ∷ []) (IsManifestName n)
higher_one front word known k n high says is = elim (max_is known k) [
  | inl first ↦ subst (λ m. Among (front ++ word ∷ []) (IsManifestName m)) (sym (is ∙ first))
      (among_front front word (IsManifestName known) high)
  | inr second ↦ subst (λ m. Among (front ++ word ∷ []) (IsManifestName m)) (sym (is ∙ second))
      (among_last front word (IsManifestName k) says)
]

-- no manifest has this name
pub highest_same : (front : List (List ℕ)) (word : List ℕ) (o : Option ℕ)
    → IsHighestManifest front o → ((m : ℕ) → IsManifestName m word → ⊥)
    → IsHighestManifest (front ++ word ∷ []) o
highest_same front word None none other =
    λ m h. neither (among_split front word (IsManifestName m) h) (none m) (other m)
highest_same front word (Some n) high other = (
  among_front front word (IsManifestName n) high.0,
  λ m h. at_most front word n m high.1 (among_split front word (IsManifestName m) h)
      (λ g. absurd (other m g)),
)

-- the manifest of this name has the number k
pub highest_more : (front : List (List ℕ)) (word : List ℕ) (o : Option ℕ) (k n : ℕ)
    → IsHighestManifest front o → IsManifestName k word
    → ((m : ℕ) → IsManifestName m word → Some k ≡ Some m)
    → MatchOption o (n ≡ k) (λ known. n ≡ max known k)
    → IsHighestManifest (front ++ word ∷ []) (Some n)
highest_more front word None k n none says only is = (
  subst (λ m. Among (front ++ word ∷ []) (IsManifestName m)) (sym is)
      (among_last front word (IsManifestName k) says),
  λ m h. at_most front word n m (λ j g. absurd (none j g))
      (among_split front word (IsManifestName m) h)
      (λ g. (let e = only m g in let same : k ≡ m = cc in omega (arith, is, same))),
)
highest_more front word (Some known) k n high says only is = (
  higher_one front word known k n high.0 says is,
  λ m h. at_most front word n m (λ j g. (let below = high.1 j g in omega (arith, is, below)))
      (among_split front word (IsManifestName m) h)
      (λ g. (let e = only m g in let same : k ≡ m = cc in omega (arith, is, same))),
)

-- ---- RocksDB

pub not_of_rocksdb : (name : List ℕ) → (name ≡ codes "IDENTITY" → ⊥)
    → ((n : ℕ) → IsNumberBehind (codes "OPTIONS-") name n → ⊥) → IsOfRocksDb name → ⊥
not_of_rocksdb name other numbered (inl same) = other same
not_of_rocksdb name other numbered (inr (n, is)) = numbered n is

-- ---- notes

pub later_joined : (text before name between last behind : List ℕ)
    → ((((text ++ before) ++ name) ++ between) ++ last) ++ behind ≡ text ++
    (before ++ (name ++ (between ++ (last ++ behind))))
later_joined text before name between last behind = simp append_assoc refl

-- both notes, one behind the other
pub both_noted : {T E : Type 0} (r : Result T E) (number : ℕ) (beside : Beside)
    (old mid new : List ℕ) → mid ≡ old ++ later_text number (later_than number beside.manifest)
    → OnOk r (new ≡ mid ++ rocksdb_text beside.rocksdb)
    → OnOk r (new ≡ old ++ beside_text number beside)
unfolding beside_text
both_noted (Ok x) number beside old mid new first second =
    second ∙ ap (λ (t : List ℕ). t ++ rocksdb_text beside.rocksdb) first
    ∙ append_assoc old (later_text number (later_than number beside.manifest))
    (rocksdb_text beside.rocksdb)
both_noted (Err e) number beside old mid new first second = tt
