-- The names of a database's files are different.
use Rattle.std.proofs.Common.{◌≡◌, ℕ, zero, suc, ◌<◌, ◌^◌, List, [], ◌∷◌, ◌++◌, length, refl, sym, ◌∙◌, ap, subst, arith}
use Rattle.std.specs.Prelude.{codes, decimal, replicate, get_or, ◌-◌}
use Rattle.std.specs.Char.{digit_value}
use Rattle.std.specs.Str.Parse.{AllDigits, digits_value}
use Rattle.std.proofs.lemmas.Fmt.{decimal_is_IsNumeral}
use Rattle.std.proofs.lemmas.List.{append_cancel_left, append_cancel_right}
use Rattle.lsm_storage.specs.FileNames.{padded, table_name, manifest_name, temporary_name, current_text}
use Rattle.lsm_crash.specs.Known.{current_name}

-- ---- numbers with zeros in front

digits_value-zeros : (k : ℕ) (ds : List ℕ) → digits_value 10 (replicate k 48 ++ ds) ≡ digits_value 10 ds
digits_value-zeros zero ds = refl
digits_value-zeros (suc k) ds = digits_value-zeros k ds

digits_value-padded : (n : ℕ) → n < 2 ^ 64 → digits_value 10 (padded n) ≡ n
digits_value-padded n small = digits_value-zeros (6 - length (decimal n)) (decimal n) ∙ (decimal_is_IsNumeral n small).1

padded_injective : (a b : ℕ) → a < 2 ^ 64 → b < 2 ^ 64 → padded a ≡ padded b → a ≡ b
padded_injective a b p q e = sym (digits_value-padded a p) ∙ (ap (digits_value 10) e ∙ digits_value-padded b q)

all_digits-zeros : (k : ℕ) (ds : List ℕ) → AllDigits 10 ds → AllDigits 10 (replicate k 48 ++ ds)
all_digits-zeros zero ds h = h
all_digits-zeros (suc k) ds h = (omega arith, all_digits-zeros k ds h)

all_digits-padded : (n : ℕ) → n < 2 ^ 64 → AllDigits 10 (padded n)
all_digits-padded n small = all_digits-zeros (6 - length (decimal n)) (decimal n) (decimal_is_IsNumeral n small).0.1

-- ---- first and last bytes

abbrev first : List ℕ → ℕ
first xs = get_or xs 0 0

-- digits, and then a point, begin with no M
not_m : (ds rest : List ℕ) → AllDigits 10 ds → first (ds ++ 46 ∷ rest) ≡ 77 → ⊥
not_m [] rest h e = absurd (omega (arith, e))
not_m (c ∷ cs) rest h e =
    let same : c ≡ 77 = e in
    let digit : 22 < 10 = subst (λ x. digit_value x < 10) same h.0 in
    absurd (omega arith)

abbrev last_from : ℕ → List ℕ → ℕ
last_from d [] = d
last_from d (x ∷ xs) = last_from x xs

last_append : (d : ℕ) (xs : List ℕ) (y : ℕ) (ys : List ℕ) → last_from d (xs ++ y ∷ ys) ≡ last_from y ys
last_append d [] y ys = refl
last_append d (x ∷ xs) y ys = last_append x xs y ys

less_apart : (a b x y : ℕ) → a ≡ x → b ≡ y → x < y → a ≡ b → ⊥
less_apart a b x y p q l e = absurd (omega arith)

table_last : (n : ℕ) → last_from 0 (table_name n) ≡ 98
table_last n = last_append 0 (padded n) 46 (108 ∷ 100 ∷ 98 ∷ [])

temporary_last : (n : ℕ) → last_from 0 (temporary_name n) ≡ 112
temporary_last n = last_append 0 (padded n) 46 (100 ∷ 98 ∷ 116 ∷ 109 ∷ 112 ∷ [])

-- ---- names

pub tables_apart : (a b : ℕ) → a < 2 ^ 64 → b < 2 ^ 64 → table_name a ≡ table_name b → a ≡ b
tables_apart a b p q e = padded_injective a b p q (append_cancel_right (padded a) (padded b) (codes ".ldb") e)

pub manifests_apart : (a b : ℕ) → a < 2 ^ 64 → b < 2 ^ 64 → manifest_name a ≡ manifest_name b → a ≡ b
manifests_apart a b p q e = padded_injective a b p q (append_cancel_left (codes "MANIFEST-") (padded a) (padded b) e)

pub texts_apart : (a b : ℕ) → a < 2 ^ 64 → b < 2 ^ 64 → current_text a ≡ current_text b → a ≡ b
texts_apart a b p q e = manifests_apart a b p q (append_cancel_right (manifest_name a) (manifest_name b) (10 ∷ []) e)

pub table_current : (a : ℕ) → table_name a ≡ current_name → ⊥
table_current a e = less_apart (last_from 0 current_name) (last_from 0 (table_name a)) 84 98 refl (table_last a) (omega arith) (sym (ap (last_from 0) e))

pub temporary_current : (a : ℕ) → temporary_name a ≡ current_name → ⊥
temporary_current a e = less_apart (last_from 0 current_name) (last_from 0 (temporary_name a)) 84 112 refl (temporary_last a) (omega arith) (sym (ap (last_from 0) e))

pub table_temporary : (a b : ℕ) → table_name a ≡ temporary_name b → ⊥
table_temporary a b e = less_apart (last_from 0 (table_name a)) (last_from 0 (temporary_name b)) 98 112 (table_last a) (temporary_last b) (omega arith) (ap (last_from 0) e)

pub manifest_current : (a : ℕ) → manifest_name a ≡ current_name → ⊥
manifest_current a e = less_apart (first current_name) (first (manifest_name a)) 67 77 refl refl (omega arith) (sym (ap first e))

pub table_manifest : (a b : ℕ) → a < 2 ^ 64 → table_name a ≡ manifest_name b → ⊥
table_manifest a b p e = not_m (padded a) (108 ∷ 100 ∷ 98 ∷ []) (all_digits-padded a p) (ap first e)

pub temporary_manifest : (a b : ℕ) → a < 2 ^ 64 → temporary_name a ≡ manifest_name b → ⊥
temporary_manifest a b p e = not_m (padded a) (100 ∷ 98 ∷ 116 ∷ 109 ∷ 112 ∷ []) (all_digits-padded a p) (ap first e)

-- the lock file's

pub lock_current : codes "LOCK" ≡ current_name → ⊥
lock_current e = less_apart (first current_name) (first (codes "LOCK")) 67 76 refl refl (omega arith) (sym (ap first e))

pub lock_manifest : (a : ℕ) → codes "LOCK" ≡ manifest_name a → ⊥
lock_manifest a e = less_apart (first (codes "LOCK")) (first (manifest_name a)) 76 77 refl refl (omega arith) (ap first e)

pub lock_table : (a : ℕ) → codes "LOCK" ≡ table_name a → ⊥
lock_table a e = less_apart (last_from 0 (codes "LOCK")) (last_from 0 (table_name a)) 75 98 refl (table_last a) (omega arith) (ap (last_from 0) e)

pub lock_temporary : (a : ℕ) → codes "LOCK" ≡ temporary_name a → ⊥
lock_temporary a e = less_apart (last_from 0 (codes "LOCK")) (last_from 0 (temporary_name a)) 75 112 refl (temporary_last a) (omega arith) (ap (last_from 0) e)
