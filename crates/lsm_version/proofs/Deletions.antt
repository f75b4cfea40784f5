-- A version that loses files stays sound.
use Rattle.std.proofs.Common.{ℕ, zero, suc, ◌≤◌, List, [], ◌∷◌, inl, inr, arith}
use Rattle.std.specs.Prelude.{Option}
use Rattle.lsm_codec.specs.Lists.{Has}
use Rattle.lsm_codec.proofs.CallerLemmas.{filter_has}
use Rattle.lsm_table.specs.Registry.{Table}
use Rattle.lsm_model.specs.Files.{File}
use Rattle.lsm_version.specs.Versions.{Levels, IsSound, files, level_in}
use Rattle.lsm_version.specs.Changes.{is_kept, level_after, levels_after, changed}
use Rattle.lsm_version.proofs.ChangedFiles.{changed_has}
use Rattle.lsm_version.proofs.Parts.{lawful_part}

level_part : (deleted : List ℕ) (m : ℕ) (ts : List Table) (t : Table) → Has (level_after deleted [] m ts) t → Has ts t
unfolding level_after
level_part deleted m ts t h = (filter_has (is_kept deleted) ts t h).0

levels_part : (deleted : List ℕ) (m n : ℕ) (levels : List (List Table)) (t : Table) → Has (level_in (levels_after deleted [] m levels) n) t → Has (level_in levels n) t
levels_part deleted m n [] t h = absurd h
levels_part deleted m zero (ts ∷ levels) t h = level_part deleted m ts t h
levels_part deleted m (suc n) (ts ∷ levels) t h = levels_part deleted (suc m) n levels t h

files_part : (deleted : List ℕ) (pointer : Option (ℕ × List ℕ)) (last : ℕ) (v : Levels) (F : File) → Has (files (changed deleted [] pointer last v)) F → Has (files v) F
files_part deleted pointer last v F h = elim (changed_has deleted [] pointer last v F h) [ inl s ↦ s.0 | inr a ↦ absurd a ]

pub deleted_sound : (deleted : List ℕ) (pointer : Option (ℕ × List ℕ)) (last : ℕ) (v : Levels) → IsSound v → v.last ≤ last → IsSound (changed deleted [] pointer last v)
unfolding changed
deleted_sound deleted pointer last v s le = record {
  lawful = lawful_part (files v) (files (changed deleted [] pointer last v)) (files_part deleted pointer last v) s.lawful;
  tables = λ n t h. s.tables n t (levels_part deleted 0 n v.tables t h);
  reached = λ F e h k. (let low = s.reached F e (files_part deleted pointer last v F h) k in omega arith);
}
