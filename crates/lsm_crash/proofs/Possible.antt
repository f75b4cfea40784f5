-- What the calls of a database ask for can be answered Ok on a disk, so the premises of the laws of runs can be met.
use Rattle.std.proofs.Common.{◌≡◌, ℕ, ◌+◌, ◌<◌, ◌^◌, Bool, true, false, List, [], ◌∷◌, length, map, refl, sym, ◌∙◌, ap, subst, inl, arith, Some, None}
use Rattle.std.specs.Prelude.{if◌then◌else◌}
use Rattle.atomic_table.specs.Seated.{TableId}
use Rattle.lsm_storage.specs.FileNames.{table_name, manifest_name, temporary_name, current_text}
use Rattle.lsm_storage.specs.Plans.{append_plan, put_plan, remove_plan, start_plan}
use Rattle.lsm_shelf.specs.Asked as shelf
use Rattle.lsm_shelf.specs.Asked.{Asked, AppendManifest, Remove as RemoveTable}
use Rattle.lsm_shelf.specs.Told.{Told, finding}
use Rattle.lsm_version.specs.Versions.{Levels}
use Rattle.lsm_batch.specs.declared.write.Write.{Write}
use Rattle.lsm_journal.specs.Difference.{Difference, changed_by}
use Rattle.lsm_journal.specs.Sending.{started_by}
use Rattle.lsm_journal.specs.Writing.{change_edit, record_of, version_edit}
use Rattle.lsm_journal.specs.HeldManifest.{is_at_limit}
use Rattle.lsm_state.specs.Asked.{changes_by}
use Rattle.lsm_state.specs.Held.{Held}
use Rattle.lsm_state.specs.Ingesting.{coming_in, last_of, with_number, with_slots}
use Rattle.lsm_state.specs.declared.ingest.Ingested.{Ingested}
use Rattle.lsm_crash.specs.Disk.{Disk, Shows, empty_disk, filled, moved, named, with_file, with_names}
use Rattle.lsm_crash.specs.Versions.{ComesTo, Tables, Version}
use Rattle.lsm_crash.specs.Known.{Is, IsSettled, World, current_name, nothing}
use Rattle.lsm_crash.specs.Operations.{Allows, Put, Remove, after, started}
use Rattle.lsm_crash.specs.Among.{DoneAmong, DoneDropping}
use Rattle.lsm_crash.specs.Refusing.{ReadsShown}
use Rattle.lsm_crash.specs.States.{IsWorldOf, Shown}
use Rattle.lsm_crash.specs.Database.{AllDone, Answered, Asks, Collect, Deed, Follows, Gather, HasMade, Ingest, Install, IsMade, IsReady, IsState, Opens, SmallRun, Works, after_all, operations, plans_of}
use Rattle.lsm_crash.proofs.Names.{table_current, table_manifest, table_temporary}
use Rattle.lsm_crash.proofs.Disks.{named_else, some_is}
use Rattle.lsm_crash.proofs.Standing.{at_writes, sure}
use Rattle.lsm_crash.proofs.Calls.{no_gap}
use Rattle.lsm_crash.proofs.Instances.{append_can, crash_can, empty_vacant, put_can, remove_can, start_can}
use Rattle.lsm_crash.proofs.Dropping.{no_drop}
use Rattle.lsm_crash.proofs.Runs.{plan_settled}
use Rattle.lsm_crash.proofs.Asking.{collect_asks, create_asks, gather_asks, ingest_asks, install_asks, open_asks}
use Rattle.lsm_crash.proofs.Worlds.{TablesChange, none_or}
use Rattle.lsm_crash.proofs.Making.{made_settled, made_world, making_done}
use Rattle.lsm_crash.proofs.Turning.{rest_leaves, works_keep}
use Rattle.lsm_journal.specs.declared.manifest_limit.ManifestLimit.{ManifestLimit}

-- these can be done, one after another, from this disk
abbrev pub Can : World → Version → List Asked → Disk → Type 0
Can w v asks d = (e : Disk) × AllDone w (operations v asks) (after_all w (operations v asks)) d e

-- the write of a manifest
module _ (h : Held) (c : Difference) (v : Version) (w : World) (d : Disk) (i : IsSettled d w) where
  write_at : (b : Bool) → Can w v ((if b then started_by (changed_by c h.slots.version) h.next h.journal else AppendManifest (record_of h.journal.bytes (change_edit h.journal c h.next))) ∷ []) d
  write_at true =
      let r = start_can w.tables h.next (record_of [] (version_edit h.journal (changed_by c h.slots.version) (h.next + 1))) d in (
        r.0,
        (
          r.0,
          no_drop w.tables h.next
              (start_plan h.next
              (record_of [] (version_edit h.journal (changed_by c h.slots.version) (h.next + 1)))) d r.0
              r.1,
          (refl, no_gap w.tables r.0),
        ),
      )
  write_at false =
      let M = manifest_name w.manifest in
      let now = sure (Is i.its.0 w.bytes) d M i.its.1 (d.names M) (d.names, i.sound.now, refl) in
      let r = append_can w.tables w.manifest (record_of h.journal.bytes (change_edit h.journal c h.next)) d now.0 now.1 in (
        r.0,
        (
          r.0,
          no_drop w.tables w.manifest
              (append_plan w.manifest (record_of h.journal.bytes (change_edit h.journal c h.next))) d
              r.0 r.1,
          (refl, no_gap w.tables r.0),
        ),
      )

  pub write_can : Can w v (changes_by h c ∷ []) d
  write_can = write_at (is_at_limit h.journal)

pub removes_can : (v : Version) (ns : List ℕ) (w : World) (d : Disk) → Can w v (map RemoveTable ns) d
removes_can v [] w d = (d, (refl, no_gap w.tables d))
removes_can v (n ∷ ns) w d =
    let r = remove_can (after w (Remove n)).tables n d in
    let s = removes_can v ns (after w (Remove n)) r.0 in
    (s.0, (r.0, no_drop (after w (Remove n)).tables w.manifest (remove_plan n) d r.0 r.1, s.1))

module _ (honest : Type 0) (board : TableId) (old new : Held) (w : World) (v : Version) (d : Disk) (i : IsSettled d w) (o : IsWorldOf old w) (free : d.names (table_name old.next) ≡ None) where
  -- a table is put, and the manifest written
  coming_can : (image : List ℕ) (h : Held) (c : Difference) → Can w v (shelf.Put old.next image ∷ changes_by h c ∷ []) d
  coming_can image h c =
      let may : Allows w (Put old.next image) = ((let f = o.fits in omega arith), none_or (w.tables old.next) (λ other k. (let lt = o.below old.next other k in omega arith))) in
      let p = put_can (after w (Put old.next image)).tables old.next image d free in
      let change =
      write_can h c v (after w (Put old.next image)) p.0
      (plan_settled d p.0 w (Put old.next image) i may p.1) in (
        change.0,
        (
          p.0,
          no_drop (after w (Put old.next image)).tables w.manifest
              (put_plan old.next image) d p.0 p.1,
          change.1,
        ),
      )

  pub deed_can : (deed : Deed) (asks : List Asked) → Asks honest old new deed asks → Can w v asks d
  deed_can (Ingest ws r) asks a =
      subst (λ xs. Can w v xs d) (sym (ingest_asks old new ws r a.0 a.1 a.3 asks a.4)) (coming_can a.3.table.image (with_number old a.3.slots) (coming_in a.3.table (last_of old ws)))
  deed_can (Gather number) asks a =
      subst (λ xs. Can w v xs d) (sym (gather_asks honest old new number a.0 a.1 a.2 asks a.3)) (coming_can a.2.table.image (with_number old a.2.slots) a.2.change)
  deed_can (Install done) asks a = subst (λ xs. Can w v xs d) (sym (install_asks old new done a.0 a.1 a.3 asks a.4)) (write_can (with_slots old a.3.slots) a.3.change v w d i)
  deed_can (Collect removed) asks a = subst (λ xs. Can w v xs d) (sym (collect_asks new removed a.0 a.1 a.5 asks a.6)) (removes_can v removed w d)

  pub works_can : (deed : Deed) (asks : List Asked) → IsState honest board new → Asks honest old new deed asks → IsReady honest deed w → ComesTo new.journal.bytes v → Follows honest old new (Answered deed)
      → (u : World) × (e : Disk) × Works honest board old new (Answered deed ∷ []) w u d e
  works_can deed asks l a ready to f =
      let r = deed_can deed asks a in
      let u = after_all w (operations v asks) in
      (u, r.0, (new, u, r.0, l, (v, asks, a, ready, to, r.1), f, (refl, refl, no_gap u.tables r.0)))

-- ---- openings, and a new database

pub opened_can : (honest : Type 0) (limit : ManifestLimit) (h : Held) (d : Disk) (p : Opens honest limit h d)
    (asks : List Asked) → HasMade asks p.was p.is → (tables : Tables) → (e : Disk)
    × DoneDropping tables h.journal.number (plans_of p.begun.before.number asks) d e
opened_can honest limit h d p asks made tables =
    let start = start_can tables h.journal.number h.journal.bytes d in
    subst
    (λ xs. (e : Disk)
    × DoneDropping tables h.journal.number (plans_of p.begun.before.number xs) d e)
    (sym (open_asks honest limit h d p asks made)) (
      start.0,
      no_drop tables h.journal.number (start_plan h.journal.number h.journal.bytes) d
          start.0 start.1,
    )

-- a manifest is started, and a name that had no file has none
pub start_free : (tables : Tables) (d : Disk) (number : ℕ) (bytes q : List ℕ) → d.names q ≡ None → (manifest_name number ≡ q → ⊥) → (temporary_name number ≡ q → ⊥) → (current_name ≡ q → ⊥)
    → (e : Disk) × DoneAmong tables (start_plan number bytes) d e × (e.names q ≡ None)
start_free tables d number bytes q free m t c =
    let M = manifest_name number in
    let T = temporary_name number in
    let text = current_text number in
    let d1 = with_file M bytes d in
    let a1 = at_writes d d1 M bytes (inl refl) in
    let d2 = filled a1.0 (d1.bytes a1.0) (length (d1.bytes a1.0)) d1 in
    let d3 : Disk = record d2 { past = d2.names ∷ [] } in
    let d4 = with_file T text d3 in
    let a4 = at_writes d3 d4 T text (inl refl) in
    let d5 = filled a4.0 (d4.bytes a4.0) (length (d4.bytes a4.0)) d4 in
    let d6 = with_names (moved d5.names T current_name a4.0) d5 in
    let d7 : Disk = record d6 { past = d6.names ∷ [] } in
    let names = named_else (named d5.names current_name (Some a4.0)) T None q t
    ∙ (named_else d5.names current_name (Some a4.0) q c ∙ (named_else d3.names T (Some d3.next) q t ∙ (named_else d.names M (Some d.next) q m ∙ free))) in
    (d7, (d, no_gap tables d, (d1, inl refl, (d1, no_gap tables d1, (d2, (a1.0, a1.1.names, refl), (d2, no_gap tables d2, (d3, refl, (d3, no_gap tables d3, (d4, inl refl, (d4, no_gap tables d4, (d5, (a4.0, a4.1.names, refl), (d5, no_gap tables d5, (d6, (a4.0, a4.1.names, refl), (d6, no_gap tables d6, (d7, refl, no_gap tables d7)))))))))))))), names)

-- ---- a new database, an ingest, and a crash behind it

pub small_run : TablesChange → (honest : Type 0) (board : TableId) (h new : Held) (m : IsMade h) (first asks : List Asked) (ws : List Write) (r : Ingested) (v s : Version)
    → IsState honest board h → IsState honest board new → HasMade first m.was m.now → ComesTo h.journal.bytes v → Asks honest h new (Ingest ws r) asks → ComesTo new.journal.bytes s
    → Follows honest h new (Answered (Ingest ws r)) → SmallRun honest board h new v first m.number (Ingest ws r)
small_run law honest board h new m first asks ws r v s l ln made to a later f =
    let q = table_name h.next in
    let small : m.number < 2 ^ 64 = (let x = m.fits in omega arith) in
    let number : h.journal.number ≡ m.number = ap (λ (x : Held). x.journal.number) m.is in
    let start = start_free nothing.tables empty_disk h.journal.number h.journal.bytes q refl (λ e. table_manifest h.next h.journal.number (let n : h.next ≡ m.number + 1 = ap (λ (x : Held). x.next) m.is in let x = m.fits in omega arith) (sym e))
    (λ e. table_temporary h.next h.journal.number (sym e)) (λ e. table_current h.next (sym e)) in
    let done = subst (λ xs. DoneAmong nothing.tables (plans_of m.number xs) empty_disk start.0) (sym (create_asks h m first made)) start.1 in
    let w = started nothing h.journal.number h.journal.bytes v in
    let i = made_settled honest board h v l.0 m to empty_disk start.0 empty_vacant (making_done h m first made empty_disk start.0 done) in
    let o = made_world honest board h v l.0 m to in
    let works = works_can honest board h new w s start.0 i o start.2 (Ingest ws r) asks ln a tt later f in
    let crash = crash_can works.1 (works_keep law honest board (Answered (Ingest ws r) ∷ []) h new w works.0 start.0 works.1 l i o works.2).0.sound in
    record {
      made = start.0;
      world = works.0;
      now = works.1;
      found = crash.0;
      start = done;
      works = works.2;
      left = crash.2;
      finds = rest_leaves law honest board (Answered (Ingest ws r) ∷ []) h new w works.0 start.0 works.1 crash.0 l i o works.2 crash.2;
    }

-- ---- a shelf that holds just what the folder shows

pub given_shows : (v : Levels) (d : Disk) (was : Told) → (s : Shown v d) → ReadsShown (λ number image. Shows d (table_name number) image) v d was (finding s.manifest s.bytes was)
given_shows v d was s = record {
  small = λ number bytes b. subst (λ n. n < 2 ^ 64) (some_is s.manifest number b.manifest) s.small;
  current = λ number bytes b. subst (λ n. Shows d current_name (current_text n)) (some_is s.manifest number b.manifest) s.current;
  manifest = λ number bytes b. subst (λ n. Shows d (manifest_name n) bytes) (some_is s.manifest number b.manifest) (subst (λ bs. Shows d (manifest_name s.manifest) bs) b.sent s.its);
  images = λ level t image has held. held;
}
