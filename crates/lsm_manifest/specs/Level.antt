-- The files of one level, out of the files that stand.
use Rattle.std.specs.Prelude.{ℕ, Bool, ◌==◌, if◌then◌else◌, List, map, Option, Some, None}
use Rattle.std.specs.List.{filter_map, IsDistinct}
use Rattle.std.specs.BTreeMap as tree
use Rattle.lsm_manifest.specs.declared.file_meta.FileMeta.{FileMeta}
use Rattle.lsm_manifest.specs.declared.parts.AddedFile.{AddedFile}
use Rattle.lsm_manifest.specs.declared.standing.Standing.{Standing}

abbrev pub on_level : ℕ → AddedFile → Option FileMeta
on_level level a = if a.level == level then Some a.file else None

unfoldable pub level_of : ℕ → List AddedFile → List FileMeta
level_of level xs = filter_map (on_level level) xs

abbrev pub all_of : Standing → List AddedFile
all_of s = map (λ a. a.now) (tree.values s.files)

-- one number
abbrev pub same_number : FileMeta → FileMeta → Bool
same_number f g = f.number == g.number

-- No two files have one number.
abbrev pub HaveOwnNumbers : List FileMeta → Type 0
HaveOwnNumbers files = IsDistinct same_number files
