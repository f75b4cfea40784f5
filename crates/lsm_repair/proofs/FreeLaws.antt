-- A number above those of all files.
use Rattle.std.proofs.Common.{◌≡◌, ℕ, zero, suc, ◌+◌, ◌<◌, ◌≤◌, List, [], ◌∷◌, ◌++◌, length, get_or}
use Rattle.std.proofs.Common.{map, max, refl, sym, ap, ◌∙◌, subst, inl, inr, arith}
use Rattle.std.proofs.Common.{◌≢◌, Option, None, Some}
use Rattle.std.specs.Prelude.{◌⊎◌, IfNone}
use Rattle.lsm_codec.specs.Lists.{Has}
use Rattle.lsm_codec.proofs.CallerLemmas.{has_cases, has_left, has_right}
use Rattle.lsm_directory.specs.FileNames.{IsFileName}
use Rattle.lsm_directory.specs.declared.folder.file_kind.FileKind.{FileKind}
use Rattle.lsm_directory.specs.declared.folder.file_kind.FileKind.TheVariants.{Table, OldTable}
use Rattle.lsm_directory.specs.declared.folder.file_kind.FileKind.TheVariants.{Manifest, Temporary}
use Rattle.lsm_directory.specs.declared.folder.file_kind.FileKind.TheVariants.{Log, Current, Lock}
use Rattle.lsm_directory.specs.declared.folder.file_kind.FileKind.TheVariants.{Other}
use Rattle.lsm_opening.specs.Names.{Among, IsLeastUnused, IsNumbered}
use Rattle.lsm_opening.proofs.CallerLemmas.{kind_is}

at_has : {X Y : Type 0} (text : X → Y) (xs : List X) (i : ℕ) (x : X) → i < length xs
    → x ≡ get_or xs i x → Has (map text xs) (text x)
at_has text [] i x inside is = absurd (omega (arith, inside))
at_has text (y ∷ xs) zero x inside is = inl (ap text (sym is))
at_has text (y ∷ xs) (suc i) x inside is = inr (at_has text xs i x (omega (arith, inside)) is)

pub among_at : {X : Type 0} (text : X → List ℕ) (P : List ℕ → Type 0) (xs : List X) (i : ℕ) (x : X)
    (word : List ℕ) → i < length xs → x ≡ get_or xs i x → word ≡ text x → P word
    → Among (map text xs) P
among_at text P xs i x word inside is spelled says =
    (text x, at_has text xs i x inside is, subst P spelled says)

-- ---- names that grow by one

split : (front : List (List ℕ)) (word name : List ℕ) (P : List ℕ → Type 0)
    → Has front name ⊎ Has (word ∷ []) name → P name → Among front P ⊎ P word
split front word name P (inl has) says = inl (name, has, says)
split front word name P (inr (inl same)) says = inr (subst P (sym same) says)
split front word name P (inr (inr none)) says = absurd none

pub among_split : (front : List (List ℕ)) (word : List ℕ) (P : List ℕ → Type 0)
    → Among (front ++ word ∷ []) P → Among front P ⊎ P word
among_split front word P (name, has, says) =
    split front word name P (has_cases front (word ∷ []) name has) says

pub among_front : (front : List (List ℕ)) (word : List ℕ) (P : List ℕ → Type 0)
    → Among front P → Among (front ++ word ∷ []) P
among_front front word P (name, has, says) = (name, has_left front (word ∷ []) name has, says)

pub among_last : (front : List (List ℕ)) (word : List ℕ) (P : List ℕ → Type 0) → P word
    → Among (front ++ word ∷ []) P
among_last front word P says = (word, has_right front (word ∷ []) word (inl refl), says)

-- ---- the least number that is above all

pub unused_none : IsLeastUnused [] 1
unused_none =
    (record { from_one = omega arith; above = λ m h. absurd h.1 }, λ m h. h.from_one)

above_split : (front : List (List ℕ)) (word : List ℕ) (n m : ℕ)
    → ((k : ℕ) → Among front (IsNumbered k) → k < n)
    → Among front (IsNumbered m) ⊎ IsNumbered m word → (IsNumbered m word → m < n) → m < n
above_split front word n m above (inl h) last = above m h
above_split front word n m above (inr h) last = last h

-- the file of this name has no number
pub unused_same : (front : List (List ℕ)) (word : List ℕ) (n : ℕ) → IsLeastUnused front n
    → ((m : ℕ) → IsNumbered m word → m < n) → IsLeastUnused (front ++ word ∷ []) n
unused_same front word n least last = (
  record {
    from_one = least.0.from_one;
    above = λ m h. above_split front word n m least.0.above
        (among_split front word (IsNumbered m) h) (last m);
  },
  λ m h. least.1 m (record {
    from_one = h.from_one;
    above = λ k g. h.above k (among_front front word (IsNumbered k) g);
  }),
)

-- the number of this name is k
pub unused_more : (front : List (List ℕ)) (word : List ℕ) (n k next : ℕ) → IsLeastUnused front n
    → IsNumbered k word → ((m : ℕ) → IsNumbered m word → Some k ≡ Some m)
    → next ≡ max n (k + 1) → IsLeastUnused (front ++ word ∷ []) next
unused_more front word n k next least says only is =
    let from : 1 ≤ n = least.0.from_one in
    let higher : (m : ℕ) → m < n → m < next = λ m h. omega (arith, is, h) in
    let its : (m : ℕ) → IsNumbered m word → m < next =
    λ m h. (let same : k ≡ m = (let e = only m h in cc) in omega (arith, is, same)) in (
      record {
        from_one = omega (arith, is, from);
        above = λ m h. above_split front word next m
            (λ j g. higher j (least.0.above j g)) (among_split front word (IsNumbered m) h)
            (its m);
      },
      λ m h. (
          let before : n ≤ m = least.1 m (record {
            from_one = h.from_one;
            above = λ j g. h.above j (among_front front word (IsNumbered j) g);
          }) in
          let here : k < m = h.above k (among_last front word (IsNumbered k) says) in
          omega (arith, is, before, here)
          ),
    )

pub if_none : {X : Type 0} (o : Option X) (P : Type 0) → P → IfNone o P
if_none None P p = p
if_none (Some x) P p = tt

-- ---- which file a name is of

known_or : (found kind : FileKind) (name : List ℕ) → (found ≢ Other → IsFileName name found)
    → (found ≡ Other → (other : FileKind) → IsFileName name other → ⊥) → IsFileName name kind
    → IsFileName name found
known_or (Table n) kind name known other is = known (λ e. cc)
known_or (OldTable n) kind name known other is = known (λ e. cc)
known_or (Manifest n) kind name known other is = known (λ e. cc)
known_or (Temporary n) kind name known other is = known (λ e. cc)
known_or (Log n) kind name known other is = known (λ e. cc)
known_or Current kind name known other is = known (λ e. cc)
known_or Lock kind name known other is = known (λ e. cc)
known_or Other kind name known other is = absurd (other refl kind is)

pub kind_found : (found kind : FileKind) (name : List ℕ) → (found ≢ Other → IsFileName name found)
    → (found ≡ Other → (other : FileKind) → IsFileName name other → ⊥) → IsFileName name kind
    → found ≡ kind
kind_found found kind name known other is =
    sym (kind_is name found (known_or found kind name known other is)) ∙ kind_is name kind is
