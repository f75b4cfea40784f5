-- The order of deletions.
use Rattle.std.proofs.Common.{◌≡◌, Bool, refl, sym, ap}
use Rattle.std.specs.Ordering.{nat_cmp, is_lt, ordering_then}
use Rattle.std.specs.Cmp.{IsTotalOrder, IsStrictWeakOrder}
use Rattle.std.specs.declared.cmp.Ordering.{Ordering}
use Rattle.std.specs.declared.cmp.Ordering.TheVariants.{Less, Equal, Greater}
use Rattle.std.proofs.lemmas.Cmp.{nat_cmp_total, on_total, then_total}
use Rattle.std.proofs.lemmas.List.Sorted.{ranks_by}
use Rattle.lsm_codec.specs.Keys.{then_by}
use Rattle.lsm_manifest.specs.declared.parts.DeletedFile.{DeletedFile}
use Rattle.lsm_manifest.specs.EditWriting.{deleted_cmp}

pub levels_then_numbers : (a b : Ordering) → ordering_then a b ≡ then_by a b
levels_then_numbers Less b = refl
levels_then_numbers Equal b = refl
levels_then_numbers Greater b = refl

abbrev both : DeletedFile → DeletedFile → Ordering
both d f = ordering_then (nat_cmp d.level f.level) (nat_cmp d.number f.number)

both_total : IsTotalOrder both
both_total = then_total (on_total (λ (d : DeletedFile). d.level) nat_cmp_total) (on_total (λ (d : DeletedFile). d.number) nat_cmp_total)

abbrev pub deleted_lt : DeletedFile → DeletedFile → Bool
deleted_lt d f = is_lt (both d f)

pub deleted_ranks : IsStrictWeakOrder deleted_lt
deleted_ranks = ranks_by both_total (λ (d : DeletedFile). d)

pub same_lt : (d f : DeletedFile) → is_lt (deleted_cmp d f) ≡ deleted_lt d f
same_lt d f = ap is_lt (sym (levels_then_numbers (nat_cmp d.level f.level) (nat_cmp d.number f.number)))
