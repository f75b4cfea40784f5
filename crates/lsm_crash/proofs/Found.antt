-- The version that is opened is the one that was found.
use Rattle.std.proofs.Common.{◌≡◌, ℕ, ◌+◌, ◌≤◌, List, [], ◌∷◌, ◌++◌, length, refl, sym, ◌∙◌, ap, subst, inl, arith, Some}
use Rattle.std.specs.Prelude.{◌↔◌}
use Rattle.lsm_codec.specs.Lists.{Has}
use Rattle.lsm_codec.proofs.CallerLemmas.{has_right}
use Rattle.lsm_storage.specs.FileNames.{table_name, manifest_name, current_text}
use Rattle.lsm_manifest.specs.FileOrder.{TableFile}
use Rattle.lsm_table.specs.Registry.{Table}
use Rattle.lsm_model.specs.Files.{File}
use Rattle.lsm_version.specs.Versions.{Levels, file_of, files, level_in, numbers_in}
use Rattle.lsm_version.proofs.CallerLemmas.{file_in, in_files, inside}
use Rattle.lsm_journal.specs.Recorded.{IsFileAt, meta_of}
use Rattle.lsm_state.specs.Held.{Held}
use Rattle.lsm_crash.specs.Disk.{Disk, Shows}
use Rattle.lsm_crash.specs.Crash.{Found, IsFresh}
use Rattle.lsm_crash.specs.Versions.{ComesTo}
use Rattle.lsm_crash.specs.Known.{IsSettled, World, current_name}
use Rattle.lsm_crash.specs.States.{Describes, Finds, HasTables, Shown}
use Rattle.lsm_crash.specs.Database.{Opens}
use Rattle.lsm_crash.proofs.Names.{texts_apart}
use Rattle.lsm_crash.proofs.Standing.{stands_shows}
use Rattle.lsm_crash.proofs.Forms.{recorded_describes}
use Rattle.lsm_crash.proofs.Opening.{shows_one}
use Rattle.lsm_journal.specs.declared.manifest_limit.ManifestLimit.{ManifestLimit}

fresh_shows : (found : Found) (d : Disk) (q bytes : List ℕ) → IsFresh found d → found q ≡ Some bytes → Shows d q bytes
fresh_shows found d q bytes fresh is = (let s = fresh.some q bytes is in (s.0, s.1, s.2))

-- what was found is shown once the folder is used again
pub found_shown : (v : Levels) (found : Found) (d : Disk) → Finds v found → IsFresh found d → Shown v d
found_shown v found d f fresh = record {
  manifest = f.manifest;
  bytes = f.bytes;
  shape = f.shape;
  small = f.small;
  current = fresh_shows found d current_name (current_text f.manifest) fresh f.current;
  its = fresh_shows found d (manifest_name f.manifest) f.bytes fresh f.its;
  comes = f.comes;
  describes = f.describes;
  tables = λ level t h. fresh_shows found d (table_name t.number) t.image fresh (f.tables level t h);
}

-- and so is what is durable
pub settled_shown : (v : Levels) (w : World) (d : Disk) → IsSettled d w → Describes w.version v → HasTables w.tables v → Shown v d
settled_shown v w d i a has = record {
  manifest = w.manifest;
  bytes = w.bytes;
  shape = w.version;
  small = i.small;
  current = stands_shows d current_name (current_text w.manifest) i.sound i.current;
  its = stands_shows d (manifest_name w.manifest) w.bytes i.sound i.its;
  comes = i.comes;
  describes = a;
  tables = λ level t h. stands_shows d (table_name t.number) t.image i.sound (i.tables t.number t.image (has level t h)).1;
}

abbrev file : (level number : ℕ) (smallest largest image : List ℕ) → File
file level number smallest largest image = file_of level record { index = 0; number = number; smallest = smallest; largest = largest; image = image }

pub same_file : (level : ℕ) (t u : Table) → t.number ≡ u.number → t.smallest ≡ u.smallest → t.largest ≡ u.largest → t.image ≡ u.image → file_of level t ≡ file_of level u
same_file level t u n s l i = ap (λ x. file level x t.smallest t.largest t.image) n ∙ (ap (λ x. file level u.number x t.largest t.image) s ∙ (ap (λ x. file level u.number u.smallest x t.image) l ∙ ap (λ x. file level u.number u.smallest u.largest x) i))

-- versions of one shape, whose tables have the same images, have the same files
one_way : (u v : Levels) → length u.tables ≡ 7 → ((level : ℕ) (f : TableFile) → level ≤ 6 → IsFileAt u level f → IsFileAt v level f)
    → ((level other : ℕ) (t s : Table) → Has (level_in u.tables level) t → Has (level_in v.tables other) s → t.number ≡ s.number → t.image ≡ s.image)
    → (F : File) → Has (files u) F → Has (files v) F
one_way u v seven to images F h =
    let at = file_in 0 u.tables F h in
    let level = at.0 in
    let t = at.1 in
    let le : level ≤ 6 = (let lt = inside u.tables level t at.2 in omega arith) in
    let s = to level (meta_of t) le (t, at.2, refl) in
    let number : t.number ≡ s.0.number = ap (λ (f : TableFile). f.number) (sym s.2) in
    let same : file_of (0 + level) t ≡ file_of (0 + level) s.0 = same_file (0 + level) t s.0 number (ap (λ (f : TableFile). f.smallest) (sym s.2)) (ap (λ (f : TableFile). f.largest) (sym s.2)) (images level level t s.0 at.2 s.1 number) in
    subst (Has (files v)) (sym same ∙ at.3) (in_files 0 v.tables level s.0 s.1)

module _ (honest : Type 0) (limit : ManifestLimit) (h : Held) (d : Disk) (v : Levels) (f : Shown v d) (p : Opens honest limit h d) (seven : length v.tables ≡ 7) where
  number_is : f.manifest ≡ p.begun.before.number
  number_is = texts_apart f.manifest p.begun.before.number f.small
      (let a = p.begun.found.least.0.1 p.begun.before.number (has_right (p.begun.found.listed ++ numbers_in h.slots.version) (p.begun.before.number ∷ []) p.begun.before.number (inl refl)) in let b = p.begun.after in let c = p.begun.fits in omega arith)
      (shows_one d current_name (current_text f.manifest) (current_text p.begun.before.number) f.current p.current)

  bytes_are : f.bytes ≡ p.begun.before.bytes
  bytes_are = shows_one d (manifest_name f.manifest) f.bytes p.begun.before.bytes f.its (subst (λ n. Shows d (manifest_name n) p.begun.before.bytes) (sym number_is) p.manifest)

  opened : Describes f.shape h.slots.version
  opened = recorded_describes p.begun.rest p.begun.before h.slots.version p.begun.found.shape.next f.shape p.begun.found.loaded.recorded (subst (λ b. ComesTo b f.shape) bytes_are f.comes)

  pub opened_last : v.last ≡ h.slots.version.last
  opened_last = sym f.describes.last ∙ opened.last

  images : (level other : ℕ) (t s : Table) → Has (level_in v.tables level) t → Has (level_in h.slots.version.tables other) s → t.number ≡ s.number → t.image ≡ s.image
  images level other t s a b number = shows_one d (table_name t.number) t.image s.image (f.tables level t a) (subst (λ n. Shows d (table_name n) s.image) (sym number) (p.images other s b))

  pub opened_same : (F : File) → Has (files v) F ↔ Has (files h.slots.version) F
  opened_same F = (
    one_way v h.slots.version seven (λ level x le k. (opened.files level x le).0 ((f.describes.files level x le).1 k)) images F,
    one_way h.slots.version v p.begun.found.loaded.recorded.own.seven (λ level x le k. (f.describes.files level x le).0 ((opened.files level x le).1 k)) (λ level other t s a b number. sym (images other level s t b a (sym number))) F,
  )
