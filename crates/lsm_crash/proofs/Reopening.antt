-- A database is opened again without a crash, where a call on its folder was refused.
use Rattle.std.proofs.Common.{◌≡◌, ℕ, ◌<◌, ◌^◌, List, [], ◌∷◌, ◌++◌, refl, ◌∙◌, ap, inl, arith, Some}
use Rattle.atomic_table.specs.Seated.{TableId}
use Rattle.lsm_codec.specs.Lists.{Has}
use Rattle.lsm_codec.proofs.CallerLemmas.{has_left, has_right}
use Rattle.lsm_storage.specs.FileNames.{table_name}
use Rattle.lsm_storage.specs.Plans.{start_plan}
use Rattle.lsm_table.specs.Registry.{Table}
use Rattle.lsm_version.specs.Versions.{numbers_in}
use Rattle.lsm_journal.specs.HeldManifest.{HeldManifest}
use Rattle.lsm_state.specs.Held.{Held, IsLawfulState}
use Rattle.lsm_crash.specs.Disk.{Disk, Shows}
use Rattle.lsm_crash.specs.Versions.{ComesTo, Version}
use Rattle.lsm_crash.specs.Known.{IsHeld, IsSettled, Known}
use Rattle.lsm_crash.specs.Operations.{MayStart, started}
use Rattle.lsm_crash.specs.Among.{DoneDropping}
use Rattle.lsm_crash.specs.States.{Describes, HasTables, IsWorldOf}
use Rattle.lsm_crash.specs.Database.{Opens, only_of, opened_world}
use Rattle.lsm_crash.proofs.Standing.{stands_shows}
use Rattle.lsm_crash.proofs.Dropping.{follow_done}
use Rattle.lsm_crash.proofs.Calls.{read_manifest}
use Rattle.lsm_crash.proofs.Forms.{recorded_describes, table_named}
use Rattle.lsm_crash.proofs.Deeds.{are_there}
use Rattle.lsm_crash.proofs.Opening.{number_in, only_has, only_less, settled_fewer, shows_one}
use Rattle.lsm_journal.specs.declared.manifest_limit.ManifestLimit.{ManifestLimit}

module _ (honest : Type 0) (board : TableId) (limit : ManifestLimit) (h : Held) (d : Disk) (known : Known)
    (v : Version) (l : IsLawfulState honest board h) (i : IsHeld d known)
    (p : Opens honest limit h d) (to : ComesTo h.journal.bytes v) where
  number_is : h.journal.number ≡ p.begun.number
  number_is = ap (λ (j : HeldManifest). j.number) p.begun.rolls.held

  small : p.begun.number < 2 ^ 64
  small = (let a = p.begun.after in let b = p.begun.fits in omega arith)

  above_version : (n : ℕ) → Has (numbers_in h.slots.version) n → n < p.begun.number
  above_version n k = p.begun.found.least.0.1 n (has_left (p.begun.found.listed ++ numbers_in h.slots.version) (p.begun.before.number ∷ []) n (has_right p.begun.found.listed (numbers_in h.slots.version) n k))

  -- the version that is read is one that is known
  read : (s : Version) × Has known.versions s × ComesTo p.begun.before.bytes s
  read = read_manifest d d d known p.begun.before.number p.begun.before.bytes i
      (let a = p.begun.found.least.0.1 p.begun.before.number (has_right (p.begun.found.listed ++ numbers_in h.slots.version) (p.begun.before.number ∷ []) p.begun.before.number (inl refl)) in let b = small in omega arith)
      (refl, p.current) (refl, p.manifest)

  read_describes : Describes read.0 h.slots.version
  read_describes = recorded_describes p.begun.rest p.begun.before h.slots.version p.begun.found.shape.next read.0 p.begun.found.loaded.recorded read.2

  image_at : (t : Table) → (k : (image : List ℕ) × (known.tables t.number ≡ Some image)) → Shows d (table_name t.number) t.image → known.tables t.number ≡ Some t.image
  image_at t k s = (let at = i.tables t.number k.0 k.1 in k.1 ∙ ap Some (shows_one d (table_name t.number) k.0 t.image (stands_shows d (table_name t.number) k.0 i.sound at.1) s))

  -- the tables of what is opened are counted on
  pub reopened_has : HasTables known.tables h.slots.version
  reopened_has level t k =
      image_at t (i.there read.0 read.1 t.number
      (table_named read.0 h.slots.version level t read_describes
      p.begun.found.loaded.recorded.own.seven k)) (p.images level t k)

  only_tables : HasTables (only_of (numbers_in h.slots.version) known.tables) h.slots.version
  only_tables level t k =
      only_has (numbers_in h.slots.version) known.tables t.number
      (number_in h.slots.version level t k) ∙ reopened_has level t k

  new_describes : Describes v h.slots.version
  new_describes = recorded_describes l.journaled.0 h.journal h.slots.version h.next v l.journaled.1 to

  pub reopened_world : IsWorldOf h (opened_world h v (started known h.journal.number h.journal.bytes v))
  reopened_world = record {
    manifest = refl;
    bytes = refl;
    tables = only_tables;
    below = λ n image k. (let lt = above_version n (only_less (numbers_in h.slots.version) known.tables n image k).0 in let a = p.begun.after in omega arith);
    own = (let e = number_is in let a = p.begun.after in omega arith);
    fits = p.begun.fits;
  }

  pub reopened_version : (s : Version) × Has known.versions s × Describes s h.slots.version
  reopened_version = (read.0, read.1, read_describes)

  module _ (above : (m : ℕ) → Has known.manifests m → m < h.journal.number) where
    may : MayStart known h.journal.number h.journal.bytes v
    may = record {
      small = (let a = number_is in let b = small in omega arith);
      other = λ k. (let lt = above h.journal.number k in omega arith);
      comes = to;
      there = are_there v h.slots.version known.tables new_describes reopened_has;
    }

    pub reopened_settled : (e : Disk)
        → DoneDropping known.tables h.journal.number (start_plan h.journal.number h.journal.bytes) d
        e
        → IsSettled e (opened_world h v (started known h.journal.number h.journal.bytes v))
    reopened_settled e done =
        settled_fewer e (started known h.journal.number h.journal.bytes v)
        (only_of (numbers_in h.slots.version) known.tables)
        (follow_done known h.journal.number h.journal.bytes v may d e i done)
        (λ n image k. (only_less (numbers_in h.slots.version) known.tables n image k).1)
        (are_there v h.slots.version (only_of (numbers_in h.slots.version) known.tables)
        new_describes only_tables)
