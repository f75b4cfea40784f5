-- The least size of files, and the sums of a folder.
use Rattle.std.proofs.Common.{◌≡◌, ◌⊎◌, ℕ, ◌+◌, ◌<◌, ◌≤◌, Bool, List, [], ◌∷◌, ◌++◌, Option, Some, None, length, get_or, take, min, cond, refl, sym, ap, ◌∙◌, subst, inl, inr, arith}
use Rattle.std.specs.Prelude.{string_bytes}
use Rattle.std.specs.List.{count_by, sum_by}
use Rattle.std.proofs.Math.Nat.{min-le_left, min-le_right}
use Rattle.std.proofs.lemmas.List.{take_more, take_all}
use Rattle.std.proofs.lemmas.List.Sums.{sum_by-append}
use Rattle.lsm_codec.specs.Lists.{Has}
use Rattle.lsm_codec.proofs.CallerLemmas.{has_cases, has_left, has_right}
use Rattle.lsm_manifest.specs.declared.file_meta.FileMeta.{FileMeta}
use Rattle.lsm_directory.specs.declared.folder.file_kind.FileKind.{FileKind}
use Rattle.lsm_directory.specs.declared.folder.folder_file.FolderFile.{FolderFile}
use Rattle.lsm_cmd_levels.specs.Totals.{AreKinds, AreSums, IsIn, IsKind, IsLeast, is_beside, is_manifest, is_table, lesser}
use Rattle.lsm_cmd_levels.specs.declared.folder_sums.FolderSums.{FolderSums}

-- ---- the least size

min_cases : (n m : ℕ) → (min n m ≡ n) ⊎ (min n m ≡ m)
min_cases n m = grind arith

-- of what one of two holds
pub least_either : (P Q R : FileMeta → Type 0) (a b : Option ℕ) → ((f : FileMeta) → R f → P f ⊎ Q f) → ((f : FileMeta) → P f → R f) → ((f : FileMeta) → Q f → R f)
    → IsLeast P a → IsLeast Q b → IsLeast R (lesser a b)
least_either P Q R None None cases left right p q = λ f r. (elim (cases f r) [ inl h ↦ p f h | inr h ↦ q f h ])
least_either P Q R None (Some m) cases left right p ((f, h, e), least) = ((f, right f h, e), λ g r. (elim (cases g r) [ inl k ↦ absurd (p g k) | inr k ↦ least g k ]))
least_either P Q R (Some n) None cases left right ((f, h, e), least) q = ((f, left f h, e), λ g r. (elim (cases g r) [ inl k ↦ least g k | inr k ↦ absurd (q g k) ]))
least_either P Q R (Some n) (Some m) cases left right ((f, h, e), first) ((g, k, d), second) =
    let low = min-le_left n m in
    let high = min-le_right n m in (
      elim (min_cases n m) as (λ _. (x : FileMeta) × R x × (x.size ≡ min n m)) [
        | inl is ↦ (f, left f h, e ∙ sym is)
        | inr is ↦ (g, right g k, d ∙ sym is)
      ],
      λ x r. (elim (cases x r) as (λ _. min n m ≤ x.size) [
        | inl s ↦ (let le = first x s in omega (arith, le, low))
        | inr s ↦ (let le = second x s in omega (arith, le, high))
      ]),
    )

-- of one file
least_one : (x : FileMeta) → IsLeast (Has (x ∷ [])) (Some x.size)
least_one x = ((x, inl refl, refl), λ f h. (elim h as (λ _. x.size ≤ f.size) [ inl e ↦ (let same : x.size ≡ f.size = ap (λ (y : FileMeta). y.size) e in omega (arith, same)) | inr none ↦ absurd none ]))

pub least_none : IsLeast (Has []) None
least_none = λ f h. absurd h

pub least_more : (fs : List FileMeta) (i : ℕ) (x : FileMeta) (old new : Option ℕ) → i < length fs → x ≡ get_or fs i x → new ≡ lesser old (Some x.size)
    → IsLeast (Has (take i fs)) old → IsLeast (Has (take (i + 1) fs)) new
least_more fs i x old new lt at is so_far =
    let parts : take (i + 1) fs ≡ take i fs ++ x ∷ [] = take_more fs i x lt ∙ ap (λ (y : FileMeta). take i fs ++ y ∷ []) (sym at) in
    subst (λ (ys : List FileMeta). IsLeast (Has ys) new) (sym parts)
    (subst (IsLeast (Has (take i fs ++ x ∷ []))) (sym is)
    (least_either (Has (take i fs)) (Has (x ∷ [])) (Has (take i fs ++ x ∷ [])) old (Some x.size) (has_cases (take i fs) (x ∷ [])) (has_left (take i fs) (x ∷ []))
    (has_right (take i fs) (x ∷ [])) so_far (least_one x)))

pub least_all : (fs : List FileMeta) (i : ℕ) (least : Option ℕ) → length fs ≤ i → IsLeast (Has (take i fs)) least → IsLeast (Has fs) least
least_all fs i least past so_far = subst (λ (ys : List FileMeta). IsLeast (Has ys) least) (take_all i fs past) so_far

in_cases : (xs : List (List FileMeta)) (fs : List FileMeta) (f : FileMeta) → IsIn (xs ++ fs ∷ []) f → IsIn xs f ⊎ Has fs f
in_cases xs fs f (gs, level, has) = elim (has_cases xs (fs ∷ []) gs level) [
  | inl h ↦ inl (gs, h, has)
  | inr (inl e) ↦ inr (subst (λ (ys : List FileMeta). Has ys f) (sym e) has)
  | inr (inr none) ↦ absurd none
]

pub least_nowhere : IsLeast (IsIn []) None
least_nowhere = λ f h. absurd h.1

pub least_deeper : (xs : List (List FileMeta)) (i : ℕ) (fs : List FileMeta) (old one new : Option ℕ) → i < length xs → fs ≡ get_or xs i fs → IsLeast (Has fs) one
    → new ≡ lesser old one → IsLeast (IsIn (take i xs)) old → IsLeast (IsIn (take (i + 1) xs)) new
least_deeper xs i fs old one new lt at own is so_far =
    let parts : take (i + 1) xs ≡ take i xs ++ fs ∷ [] = take_more xs i fs lt ∙ ap (λ (y : List FileMeta). take i xs ++ y ∷ []) (sym at) in
    subst (λ (ys : List (List FileMeta)). IsLeast (IsIn ys) new) (sym parts)
    (subst (IsLeast (IsIn (take i xs ++ fs ∷ []))) (sym is)
    (least_either (IsIn (take i xs)) (Has fs) (IsIn (take i xs ++ fs ∷ [])) old one (in_cases (take i xs) fs) (λ f h. (h.0, has_left (take i xs) (fs ∷ []) h.0 h.1, h.2))
    (λ f h. (fs, has_right (take i xs) (fs ∷ []) fs (inl refl), h)) so_far own))

pub least_anywhere : (xs : List (List FileMeta)) (i : ℕ) (least : Option ℕ) → length xs ≤ i → IsLeast (IsIn (take i xs)) least → IsLeast (IsIn xs) least
least_anywhere xs i least past so_far = subst (λ (ys : List (List FileMeta)). IsLeast (IsIn ys) least) (take_all i xs past) so_far

-- ---- a folder

kinds_more : (files : List FolderFile) (kinds : List FileKind) (file : FolderFile) (kind : FileKind) → AreKinds files kinds → IsKind (string_bytes file.name) kind
    → AreKinds (files ++ file ∷ []) (kinds ++ kind ∷ [])
kinds_more [] kinds file kind is own = (kind, [], ap (λ (ks : List FileKind). ks ++ kind ∷ []) is, own, refl)
kinds_more (x ∷ xs) kinds file kind (first, rest, is, one, more) own =
    (first, rest ++ kind ∷ [], ap (λ (ks : List FileKind). ks ++ kind ∷ []) is, one, kinds_more xs rest file kind more own)

count_more : (p : FileKind → Bool) (kinds : List FileKind) (kind : FileKind) (old new : ℕ) → old ≡ count_by p kinds → new ≡ old + cond (p kind) 1 0 → new ≡ count_by p (kinds ++ kind ∷ [])
count_more p kinds kind old new so_far is =
    let whole : count_by p (kinds ++ kind ∷ []) ≡ count_by p kinds + (0 + cond (p kind) 1 0) = sum_by-append (λ (k : FileKind). cond (p k) 1 0) kinds (kind ∷ []) in
    omega (arith, whole, so_far, is)

bytes_more : (files : List FolderFile) (file : FolderFile) (old new : ℕ) → old ≡ sum_by (λ (f : FolderFile). f.size) files → new ≡ old + file.size
    → new ≡ sum_by (λ (f : FolderFile). f.size) (files ++ file ∷ [])
bytes_more files file old new so_far is =
    let whole : sum_by (λ (f : FolderFile). f.size) (files ++ file ∷ []) ≡ sum_by (λ (f : FolderFile). f.size) files + (0 + file.size) = sum_by-append (λ (f : FolderFile). f.size) files (file ∷ []) in
    omega (arith, whole, so_far, is)

pub sums_more : (files : List FolderFile) (i : ℕ) (file : FolderFile) (kind : FileKind) (old new : FolderSums) → i < length files → file ≡ get_or files i file
    → IsKind (string_bytes file.name) kind → new.tables ≡ old.tables + cond (is_table kind) 1 0 → new.manifests ≡ old.manifests + cond (is_manifest kind) 1 0
    → new.others ≡ old.others + cond (is_beside kind) 1 0 → new.bytes ≡ old.bytes + file.size → AreSums (take i files) old → AreSums (take (i + 1) files) new
sums_more files i file kind old new lt at own tables manifests others bytes s =
    let parts : take (i + 1) files ≡ take i files ++ file ∷ [] = take_more files i file lt ∙ ap (λ (y : FolderFile). take i files ++ y ∷ []) (sym at) in
    subst (λ (fs : List FolderFile). AreSums fs new) (sym parts) record {
      kinds = s.kinds ++ kind ∷ [];
      each = kinds_more (take i files) s.kinds file kind s.each own;
      tables = count_more is_table s.kinds kind old.tables new.tables s.tables tables;
      manifests = count_more is_manifest s.kinds kind old.manifests new.manifests s.manifests manifests;
      others = count_more is_beside s.kinds kind old.others new.others s.others others;
      bytes = bytes_more (take i files) file old.bytes new.bytes s.bytes bytes;
    }

pub sums_all : (files : List FolderFile) (i : ℕ) (sums : FolderSums) → length files ≤ i → AreSums (take i files) sums → AreSums files sums
sums_all files i sums past s = subst (λ (fs : List FolderFile). AreSums fs sums) (take_all i files past) s
