-- A shelf that keeps any image keeps the tables of no shape with a file: zeros are no table.
use Rattle.std.proofs.Common.{◌≡◌, ℕ, zero, suc, List, [], ◌∷◌, ◌++◌, length, refl, sym, ap, subst}
use Rattle.std.proofs.Common.{inl, inr, arith}
use Rattle.lsm_codec.specs.Entries.{Entry}
use Rattle.lsm_codec.specs.Lists.{Has}
use Rattle.lsm_codec.proofs.CallerLemmas.{has_right}
use Rattle.lsm_manifest.specs.FileOrder.{TableFile}
use Rattle.lsm_manifest.specs.Shape.{Form}
use Rattle.lsm_table.specs.Footer.{magic}
use Rattle.lsm_table.specs.HeldTable.{entries_in}
use Rattle.lsm_table.specs.Table.{IsTable}
use Rattle.lsm_verify.specs.Loading.{all_files}
use Rattle.lsm_admission.specs.Keeping.{KeepsTables}

abbrev zeros : ℕ → List ℕ
zeros zero = []
zeros (suc n) = 0 ∷ zeros n

zeros_length : (n : ℕ) → length (zeros n) ≡ n
zeros_length zero = refl
zeros_length (suc n) = ap suc (zeros_length n)

zeros_only : (n m : ℕ) → Has (zeros n) (suc m) → ⊥
zeros_only zero m h = absurd h
zeros_only (suc n) m (inl e) = let bad : zero ≡ suc m = e in absurd (omega arith)
zeros_only (suc n) m (inr h) = zeros_only n m h

-- a table ends with the magic number
no_table : (n : ℕ) (es : List Entry) → IsTable (zeros n) es → ⊥
no_table n es t =
    let f = t.footed in
    let first : Has magic 87 = inl refl in
    let footed : Has t.footer_text 87 = subst (λ (b : List ℕ). Has b 87) (sym f.bytes_are)
    (has_right f.metaindex_text (f.index_text ++ (f.padding ++ magic)) 87
    (has_right f.index_text (f.padding ++ magic) 87 (has_right f.padding magic 87 first))) in
    zeros_only n 86 (subst (λ (b : List ℕ). Has b 87) (sym t.bytes_are)
    (has_right t.body t.footer_text 87 footed))

pub no_file : (shape : Form) (file : TableFile) → Has (all_files shape.levels) file
    → KeepsTables (λ number image. Unit {0}) shape → ⊥
no_file shape file h k = no_table file.size (entries_in (zeros file.size))
    (k.images file (zeros file.size) h tt (zeros_length file.size)).table
