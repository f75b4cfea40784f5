-- What a database keeps of the version that its folder shows.
use Rattle.std.proofs.Common.{◌≡◌, ℕ, ◌<◌, ◌^◌, List, [], ◌∷◌, length, map, refl, sym, ◌∙◌, subst}
use Rattle.std.proofs.Common.{inl, inr, Some, None}
use Rattle.std.specs.Prelude.{Option}
use Rattle.atomic_table.specs.Seated.{TableId}
use Rattle.lsm_codec.proofs.CallerLemmas.{flat_has}
use Rattle.lsm_storage.specs.FileNames.{table_name, manifest_name, current_text}
use Rattle.lsm_shelf.specs.Asked.{Asked}
use Rattle.lsm_shelf.specs.Asked as shelf
use Rattle.lsm_model.specs.Files.{File, all_entries}
use Rattle.lsm_version.specs.Versions.{IsSound, Levels, files}
use Rattle.lsm_state.specs.Held.{Held}
use Rattle.lsm_crash.specs.Disk.{Disk, Shows}
use Rattle.lsm_crash.specs.Crash.{Found, IsLeft}
use Rattle.lsm_crash.specs.Versions.{ComesTo, Version}
use Rattle.lsm_crash.specs.Known.{IsHeld, IsSettled, IsVacant, Known, World, current_name, known_of}
use Rattle.lsm_crash.specs.Known.{nothing}
use Rattle.lsm_crash.specs.Operations.{Append, Operation, Put, Remove, Start, after}
use Rattle.lsm_crash.specs.Among.{Does}
use Rattle.lsm_crash.specs.States.{Describes, IsWorldOf, Shown}
use Rattle.lsm_crash.specs.Database.{Asks, Collect, Deed, Gather, Ingest, Install, IsCut, IsMade}
use Rattle.lsm_crash.specs.Database.{IsReady, IsState, Opens, Turn, Works, operations}
use Rattle.lsm_crash.specs.Lives.{Ages, Answers, FromNothing, Life}
use Rattle.lsm_crash.specs.Kept.{AreKept, IsCounted, IsKept, KeepsEach, KeepsFound, KeepsShown}
use Rattle.lsm_crash.specs.Kept.{KeepsWritten}
use Rattle.lsm_crash.proofs.Names.{texts_apart}
use Rattle.lsm_crash.proofs.Held.{only, settled_held}
use Rattle.lsm_crash.proofs.Histories.{one_version}
use Rattle.lsm_crash.proofs.Forms.{recorded_describes}
use Rattle.lsm_crash.proofs.Asking.{collect_asks, gather_asks, ingest_asks, install_asks}
use Rattle.lsm_crash.proofs.Asking.{ready_tables}
use Rattle.lsm_crash.proofs.Worlds.{Changes, TablesChange, gather_is, ingest_is, install_changes}
use Rattle.lsm_crash.proofs.Worlds.{install_turned}
use Rattle.lsm_crash.proofs.Turning.{cut_known, describes, works_keep}
use Rattle.lsm_crash.proofs.Opening.{shows_one}
use Rattle.lsm_crash.proofs.Making.{no_table, no_tables}
use Rattle.lsm_crash.proofs.Reopening.{reopened_has}
use Rattle.lsm_crash.proofs.Answering.{ReadsAll}
use Rattle.lsm_crash.proofs.Soundness.{deed_whole, sound_state, works_whole}
use Rattle.lsm_crash.proofs.Lives.{ages_sound, from_nothing}
use Rattle.lsm_crash.proofs.Keeping.{counted_kept, shape_of, version_kept}
use Rattle.lsm_crash.proofs.Lasting.{held_shown, left_found}
use Rattle.lsm_journal.specs.declared.manifest_limit.ManifestLimit.{ManifestLimit}

-- the manifest that is shown comes to one shape
pub shown_shape : (v : Levels) (d : Disk) (s : Shown v d) (number : ℕ) (bytes : List ℕ)
    (x : Version) → number < 2 ^ 64 → Shows d current_name (current_text number) → Shows d
    (manifest_name number) bytes → ComesTo bytes x → s.shape ≡ x
shown_shape v d s number bytes x small current its comes =
    let same_number : s.manifest ≡ number =
    texts_apart s.manifest number s.small small
    (shows_one d current_name (current_text s.manifest) (current_text number) s.current current)
    in
    let same_bytes : s.bytes ≡ bytes =
    shows_one d (manifest_name s.manifest) s.bytes bytes s.its
    (subst (λ n. Shows d (manifest_name n) bytes) (sym same_number) its) in
    one_version bytes s.shape x (subst (λ b. ComesTo b s.shape) same_bytes s.comes) comes

-- a sound version that the folder shows
pub sound_shown : (v : Levels) (d : Disk) → IsSound v → Shown v d → KeepsShown d
sound_shown v d sound s number bytes x small current its comes =
    subst (λ y. IsKept (λ n image. Shows d (table_name n) image) y)
    (shown_shape v d s number bytes x small current its comes)
    (version_kept v s.shape sound (shape_of s.bytes s.shape s.comes) s.describes
    (λ n image. Shows d (table_name n) image)
    (λ level t image h k. shows_one d (table_name t.number) image t.image k (s.tables level t h))
    s.tables)

-- where there is no `CURRENT` no manifest is shown
vacant_shown : (d : Disk) → IsVacant d → KeepsShown d
vacant_shown d vacant number bytes v small current its comes =
    absurd (none_is current.0 (sym
    (vacant.none (d.names current_name) (d.names, vacant.sound.now, refl)) ∙ current.1))
  where
    none_is : (i : ℕ) → None ≡ Some i → ⊥
    none_is i e = cc

-- ---- a state

pub world_kept : (honest : Type 0) (board : TableId) (h : Held) (w : World) → IsState honest board h
    → IsSound h.slots.version → IsWorldOf h w → ComesTo w.bytes w.version
    → IsKept (IsCounted w.tables) w.version
world_kept honest board h w l sound o comes =
    counted_kept h.slots.version w.bytes w.version w.tables sound comes
    (describes honest board h w l.0 o comes) o.tables

-- what is new in the manifest describes the version
new_describes : (honest : Type 0) (board : TableId) (h : Held) (v : Version)
    → IsState honest board h → ComesTo h.journal.bytes v → Describes v h.slots.version
new_describes honest board h v l to =
    recorded_describes l.0.journaled.0 h.journal h.slots.version h.next v l.0.journaled.1 to

-- the first manifest
pub made_kept : (honest : Type 0) (board : TableId) (h : Held) (v : Version) → honest
    → IsState honest board h → IsMade h → ComesTo h.journal.bytes v
    → IsKept (IsCounted nothing.tables) v
made_kept honest board h v fair l m to =
    counted_kept h.slots.version h.journal.bytes v nothing.tables
    (sound_state honest board h fair l (λ level t k.
    absurd (no_tables honest board h v l.0 m to level t k)))
    to (new_describes honest board h v l to) (no_table honest board h v l.0 m to)

-- that of an opening
pub opened_kept : (honest : Type 0) (board : TableId) (limit : ManifestLimit) (h : Held) (d : Disk)
    (known : Known) (v : Version) → honest → IsState honest board h → IsHeld d known → Opens honest
    limit h d → ComesTo h.journal.bytes v → IsKept (IsCounted known.tables) v
opened_kept honest board limit h d known v fair l i p to =
    counted_kept h.slots.version h.journal.bytes v known.tables
    (sound_state honest board h fair l (p.begun.found.loaded.sound fair).tables)
    to (new_describes honest board h v l to) (reopened_has honest board limit h d known v l.0 i p
    to)

-- ---- what a call writes

changes_written : (x : World) (new : Held) (v : Version) (o : Operation) → IsSound new.slots.version
    → Describes v new.slots.version → ComesTo new.journal.bytes v → Changes x new v o
    → KeepsWritten x o
changes_written x new v o sound d to c = by o c.version
  where
    kept : IsKept (IsCounted x.tables) v
    kept = counted_kept new.slots.version new.journal.bytes v x.tables sound to d c.has

    by : (o : Operation) → (after x o).version ≡ v → KeepsWritten x o
    by (Put number image) e = tt
    by (Remove number) e = tt
    by (Append text s) e = subst (λ y. IsKept (IsCounted x.tables) y) (sym e) kept
    by (Start number bytes s) e = subst (λ y. IsKept (IsCounted x.tables) y) (sym e) kept

removes_written : (v : Version) (ns : List ℕ) (w : World)
    → KeepsEach w (map Does (operations v (map shelf.Remove ns)))
removes_written v [] w = tt
removes_written v (n ∷ ns) w = (tt, removes_written v ns (after w (Remove n)))

module _ (law : TablesChange) (honest : Type 0) (board : TableId) (fair : honest) where
  module _ (old new : Held) (w : World) (v : Version) (lo : IsState honest board old)
      (ln : IsState honest board new) (o : IsWorldOf old w) (comes : ComesTo w.bytes w.version)
      (to : ComesTo new.journal.bytes v) (sound : IsSound new.slots.version) where
    abbrev Good : List Operation → Type 0
    Good os = KeepsEach w (map Does os)

    written : (x : World) (o : Operation) → Changes x new v o → KeepsWritten x o
    written x o c = changes_written x new v o sound (new_describes honest board new v ln to) to c

    written_at : (deed : Deed) (asks : List Asked) → Asks honest old new deed asks
        → IsReady honest deed w → Good (operations v asks)
    written_at (Ingest ws r) asks a ready =
        let i = ingest_is law honest board old new w v lo.0 ln.0 o comes to ws r a.0 a.1 a.2 a.3 in
        let one : Good (Put old.next i.image ∷ i.o ∷ []) =
        (tt, (written (after w (Put old.next i.image)) i.o i.changes, tt)) in
        subst (λ xs. Good (operations v xs)) (sym (ingest_asks old new ws r a.0 a.1 a.3 asks a.4))
        (subst Good (sym i.is) one)
    written_at (Gather number) asks a ready =
        let i = gather_is law honest board old new w v lo.0 ln.0 o comes to number a.0 a.1 a.2 in
        let one : Good (Put old.next i.image ∷ i.o ∷ []) =
        (tt, (written (after w (Put old.next i.image)) i.o i.changes, tt)) in
        subst (λ xs. Good (operations v xs)) (sym
        (gather_asks honest old new number a.0 a.1 a.2 asks a.3)) (subst Good (sym i.is) one)
    written_at (Install done) asks a ready =
        let t =
        install_turned law honest board old new w v lo.0 ln.0 o comes to done a.0 a.1 a.2 a.3
        (ready_tables honest board old w done lo.0 o a.2 ready) in
        let c =
        install_changes law honest board old new w v lo.0 ln.0 o comes to done a.0 a.1 a.2 a.3
        (ready_tables honest board old w done lo.0 o a.2 ready) in
        let one : Good (t.o ∷ []) = (written w t.o c, tt) in
        subst (λ xs. Good (operations v xs)) (sym (install_asks old new done a.0 a.1 a.3 asks a.4))
        (subst Good (sym t.is) one)
    written_at (Collect removed) asks a ready =
        subst (λ xs. Good (operations v xs)) (sym (collect_asks new removed a.0 a.1 a.5 asks a.6))
        (removes_written v removed w)

  pub deed_sound : (old new : Held) (deed : Deed) (asks : List Asked) (w : World)
      → IsState honest board old → IsState honest board new → Asks honest old new deed asks
      → IsReady honest deed w → IsSound old.slots.version → IsSound new.slots.version
  deed_sound old new deed asks w lo ln a ready sound =
      sound_state honest board new fair ln (deed_whole law honest board fair old new deed asks w lo
      ln a ready sound.tables)

  pub deed_written : (old new : Held) (deed : Deed) (asks : List Asked) (w : World) (v : Version)
      → IsState honest board old → IsState honest board new → IsSound old.slots.version
      → IsWorldOf old w → ComesTo w.bytes w.version
      → Asks honest old new deed asks → IsReady honest deed w → ComesTo new.journal.bytes v
      → KeepsEach w (map Does (operations v asks)) × IsSound new.slots.version
  deed_written old new deed asks w v lo ln sound o comes a ready to =
      let s = deed_sound old new deed asks w lo ln a ready sound in
      (written_at old new w v lo ln o comes to s deed asks a ready, s)

  -- ---- runs

  works_sound : (turns : List Turn) (old now : Held) (w u : World) (d e : Disk)
      → IsState honest board old → IsSound old.slots.version → IsSettled d w → IsWorldOf old w
      → Works honest board old now turns w u d e → IsSound now.slots.version
  works_sound turns old now w u d e l sound i o h =
      sound_state honest board now fair (works_keep law honest board turns old now w u d e l i o
      h).2 (works_whole law honest board fair turns old now w u d e l i o h sound.tables)

  pub works_kept : (turns : List Turn) (old now : Held) (w u : World) (d e : Disk)
      → IsState honest board old → IsSound old.slots.version → IsSettled d w → IsWorldOf old w
      → Works honest board old now turns w u d e
      → KeepsShown e × ((found : Found) → IsLeft e found → KeepsFound found)
  works_kept turns old now w u d e l sound i o h =
      let r = works_keep law honest board turns old now w u d e l i o h in
      let held = settled_held e u r.0 in
      let kept : AreKept (known_of u) = only u.version (λ v. IsKept (IsCounted u.tables) v)
      (world_kept honest board now u r.2 (works_sound turns old now w u d e l sound i o h) r.1
      r.0.comes) in (
        held_shown e (known_of u) held kept,
        λ found left. left_found e (known_of u) found held kept
            left,
      )

  -- where a call is cut
  cut_are_kept : (now new : Held) (deed : Deed) (u : World) (known : Known) (m e : Disk)
      → IsState honest board now → IsSound now.slots.version → IsSettled m u → IsWorldOf now u
      → IsCut honest board now new deed u known m e
      → IsHeld e known × AreKept known
  cut_are_kept now new deed u known m e l sound i o c =
      let k = cut_known law honest board now new deed u known m e l i o c in
      let own : Describes u.version now.slots.version =
      describes honest board now u l.0 o i.comes in
      let its : Describes c.0 new.slots.version = new_describes honest board new c.0 c.2 c.5 in
      let later = deed_sound now new deed c.1 u l c.2 c.3 c.4 sound in (
        k.0,
        λ s at. elim (k.1.each s at) [
          | inl was ↦
              subst (λ y. IsKept (IsCounted known.tables) y) (sym was.0)
              (counted_kept now.slots.version u.bytes u.version known.tables sound i.comes own
              was.1)
          | inr is ↦
              subst (λ y. IsKept (IsCounted known.tables) y) (sym is.0)
              (counted_kept new.slots.version new.journal.bytes c.0 known.tables later c.5 its is.1)
        ],
      )

  pub cut_shown : (turns : List Turn) (old now new : Held) (deed : Deed) (w u : World)
      (known : Known) (d mid e : Disk) → IsState honest board old → IsSound old.slots.version →
      IsSettled d w → IsWorldOf old w → Works honest board old now turns w u d mid
      → IsCut honest board now new deed u known mid e
      → KeepsShown e × ((found : Found) → IsLeft e found → KeepsFound found)
  cut_shown turns old now new deed w u known d mid e l sound i o h c =
      let r = works_keep law honest board turns old now w u d mid l i o h in
      let k =
      cut_are_kept now new deed u known mid e r.2
      (works_sound turns old now w u d mid l sound i o h) r.0 r.1 c in
      (held_shown e known k.0 k.1, λ found left. left_found e known found k.0 k.1 left)

-- ---- lives

-- a version answers as its own entries do
own_answers : (v : Levels) → IsSound v → Answers v (all_entries (files v))
own_answers v sound = record {
  reads = λ k. refl;
  upto = λ e h.
      (let r = flat_has (λ (F : File). F.entries) (files v) e h in sound.reached r.0 e r.1 r.2);
}

pub lives_kept : (law : TablesChange) (honest : Type 0) (all : ReadsAll honest) (fair : honest)
    (lives : List Life) (v : Levels) (w u : World) (d e : Disk) → IsSettled d w → Shown v d → length
    v.tables ≡ 7 → IsSound v → Ages honest lives w d u e → KeepsShown e
lives_kept law honest all fair lives v w u d e i s seven sound h =
    let r =
    ages_sound law honest all lives v (all_entries (files v)) w u d e i s seven
    (λ k. own_answers v sound) (λ k. sound) h in
    sound_shown r.0 e (r.5 fair) r.3

pub nothing_kept : (law : TablesChange) (honest : Type 0) (all : ReadsAll honest) (fair : honest)
    (tries : List Held) (lives : List Life) (d e : Disk) (o : Option World) → IsVacant d →
    FromNothing honest tries lives d o e → KeepsShown e
nothing_kept law honest all fair tries lives d e o vacant h =
    elim (from_nothing law honest all tries lives d e o vacant h) [
      | inl none ↦ vacant_shown e none.2
      | inr r ↦ sound_shown r.3.0 e (r.3.5 fair) r.3.3
    ]
