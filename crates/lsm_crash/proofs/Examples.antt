-- Runs and lives that meet the premises of the laws: each turn, each way to end a life, two lives, and the first life.
use Rattle.std.proofs.Common.{◌≡◌, ℕ, ◌+◌, ◌<◌, ◌^◌, false, List, [], ◌∷◌, ◌++◌, length, map, refl, sym, ap, subst, inl, inr, arith, Some, None}
use Rattle.std.specs.Prelude.{Ok}
use Rattle.std.proofs.lemmas.List.{append-nil}
use Rattle.atomic_table.specs.Seated.{TableId}
use Rattle.lsm_codec.specs.Lists.{Has}
use Rattle.lsm_folder.specs.Calls.{folder_synced, made as made_file, synced}
use Rattle.lsm_folder.specs.declared.folder_fault.FolderFault.TheVariants as folder
use Rattle.lsm_storage.specs.FileNames.{table_name}
use Rattle.lsm_storage.specs.Plans.{put_plan, start_plan}
use Rattle.lsm_shelf.specs.Asked.{Asked, Put as PutTable, Remove as RemoveTable, StartManifest}
use Rattle.lsm_shelf.specs.declared.shelf_fault.ShelfFault.TheVariants as shelf_fault
use Rattle.lsm_shelf.specs.Told.{Told, Becomes}
use Rattle.lsm_batch.specs.declared.write.Write.{Write}
use Rattle.lsm_live.specs.Booked.{live_of}
use Rattle.lsm_live.proofs.CallerLemmas.{live_has}
use Rattle.lsm_merge.specs.Work.{Done}
use Rattle.lsm_state.specs.Asked.{changes_by}
use Rattle.lsm_state.specs.Collecting.{IsCollectRefusal}
use Rattle.lsm_state.specs.Gathering.{IsGatherRefusal}
use Rattle.lsm_state.specs.Held.{Held}
use Rattle.lsm_state.specs.Ingesting.{IsIngestRefusal, IsWelcome, Ingests, coming_in, last_of, table_bytes_of, with_number, with_slots}
use Rattle.lsm_state.specs.Installing.{IsInstallRefusal}
use Rattle.lsm_state.specs.declared.gather_fault.GatherFault.{GatherFault}
use Rattle.lsm_state.specs.declared.ingest.Ingested.{Ingested}
use Rattle.lsm_state.specs.declared.state_fault.StateFault.{StateFault}
use Rattle.lsm_crash.specs.Disk.{Disk, Step, empty_disk, filled, with_file}
use Rattle.lsm_crash.specs.Crash.{IsFresh, IsLeft}
use Rattle.lsm_crash.specs.Versions.{ComesTo, Version}
use Rattle.lsm_crash.specs.Known.{IsHeld, IsSettled, Known, World, known_of, nothing, world_of}
use Rattle.lsm_crash.specs.Operations.{Append, Operation, Put, Remove, Start, after, either}
use Rattle.lsm_crash.specs.Operations.{started, starting}
use Rattle.lsm_crash.specs.Among.{CutAmong, CutDropping, CutOf, DoneDropping, FailsAmong, IsGap}
use Rattle.lsm_crash.specs.Among.{counting, failed}
use Rattle.lsm_crash.specs.States.{IsWorldOf}
use Rattle.lsm_crash.specs.Database.{AllCut, AllDone, AllFail, Answered, Asks, Builds, Collect, Deed, Follows, Gather, HasMade, Ingest, Install, IsCut, IsDrawn, IsMade, IsReady, IsState, Looks, Opens, Refused, Refuses, Works, after_all, opened_world, operations, plans_of}
use Rattle.lsm_crash.specs.Lives.{Begins, Crashed, FromNothing, Lived, MakesCut, SmallAges, Struck, Worked}
use Rattle.lsm_crash.proofs.Names.{table_current, table_manifest, table_temporary}
use Rattle.lsm_crash.proofs.Disks.{none_is}
use Rattle.lsm_crash.proofs.Standing.{at_makes}
use Rattle.lsm_crash.proofs.Held.{settled_held, surely_recovers}
use Rattle.lsm_crash.proofs.Tables.{put_stands}
use Rattle.lsm_crash.proofs.Asides.{aside_folder, aside_made, aside_synced}
use Rattle.lsm_crash.proofs.Histories.{crashed}
use Rattle.lsm_crash.proofs.Dropping.{no_drop}
use Rattle.lsm_crash.proofs.Runs.{cut_held}
use Rattle.lsm_crash.proofs.Calls.{no_gap}
use Rattle.lsm_crash.proofs.Instances.{crash_can, empty_vacant, put_can}
use Rattle.lsm_crash.proofs.Asking.{collect_err_made, create_made, ingest_err_made, ingest_made, open_asks, open_made}
use Rattle.lsm_crash.proofs.Forms.{recorded_comes}
use Rattle.lsm_crash.proofs.Refusals.{gather_made_err}
use Rattle.lsm_crash.proofs.Worlds.{TablesChange}
use Rattle.lsm_crash.proofs.Making.{made_settled, made_world}
use Rattle.lsm_crash.proofs.Opening.{opening_allowed, opening_done, opening_settled, opening_world}
use Rattle.lsm_crash.proofs.Turning.{cut_known, works_keep}
use Rattle.lsm_crash.proofs.Possible.{Can, deed_can, opened_can, removes_can, start_free, works_can}
use Rattle.lsm_journal.specs.declared.manifest_limit.ManifestLimit.{ManifestLimit}

-- ---- operations that are refused, or cut

-- any operation can be refused so that the database goes on
fails_can : (w : World) (o : Operation) (d : Disk) → FailsAmong w o d d
fails_can w (Put number image) d = (d, no_gap w.tables d, inl refl)
fails_can w (Remove number) d = (d, no_gap (after w (Remove number)).tables d, inl refl)
fails_can w (Append text version) d = (d, no_gap w.tables d, inl refl)
fails_can w (Start number bytes version) d = (d, no_gap w.tables d, inl refl)

-- behind those that are Ok
pub all_fail : (os next : List Operation) (w u : World) (d e : Disk) → AllDone w os u d e → (x : World) × (m : Disk) × AllFail w os next x d m
all_fail [] [] w u d e h = (w, e, (refl, h.1))
all_fail [] (o ∷ next) w u d e h = (failed w o, d, (fails_can w o d, refl))
all_fail (o ∷ os) next w u d e h = (let r = all_fail os next (after w o) u h.0 e h.2 in (r.0, r.1, (h.0, h.1, r.2)))

-- cut in its first call, which has not acted
cut_first : (w : World) (o : Operation) (d : Disk) → CutOf w o d d
cut_first w (Put number image) d =
    (let t = (after w (Put number image)).tables in
    inl (d, no_gap t d, inr (inl (folder.Failed, d, inl refl, no_gap t d))))
cut_first w (Remove number) d =
    (let t = (after w (Remove number)).tables in
    inl (d, no_gap t d, inr (inl (folder.Failed, d, inl refl, no_gap t d))))
cut_first w (Append text version) d =
    (let t = w.tables in inl (d, no_gap t d, inr (inl (folder.Failed, d, inl refl, no_gap t d))))
cut_first w (Start number bytes version) d =
    (let t = w.tables in inl (d, no_gap t d, inr (inl (folder.Failed, d, inl refl, no_gap t d))))

all_first : (os : List Operation) (w : World) (d : Disk) → (known : Known) × AllCut w os known d d
all_first [] w d = (known_of w, (refl, no_gap w.tables d))
all_first (o ∷ os) w d = (either w o, inl (cut_first w o d, refl))

-- all were done, and the answer did not come
all_last : (os : List Operation) (w u : World) (d e : Disk) → AllDone w os u d e → (known : Known) × AllCut w os known d e
all_last [] w u d e h = (known_of w, (refl, h.1))
all_last (o ∷ os) w u d e h = (let r = all_last os (after w o) u h.0 e h.2 in (r.0, inr (h.0, h.1, r.1)))

-- a crash, after which the folder is used again
crashed_can : (known : Known) (d : Disk) → IsHeld d known → known.may_miss ≡ false → (u : World) × (e : Disk) × Crashed known d u e
crashed_can known d held sure =
    let c = crash_can d held.sound in
    let r = surely_recovers d known c.0 sure held c.2 in
    (world_of known c.0 r, c.1, (c.0, c.2, c.3, record { small = r.small; current = r.current; its = r.its; comes = r.comes; tables = refl }))

-- what a state's manifest comes to
state_comes : (honest : Type 0) (board : TableId) (h : Held) → IsState honest board h → (v : Version) × ComesTo h.journal.bytes v
state_comes honest board h l = recorded_comes l.0.journaled.0 h.journal h.slots.version h.next l.0.journaled.1

-- the calls of an ingest
asked : (honest : Type 0) (old new : Held) (ws : List Write) (r : Ingested) (was is : Told) → IsWelcome old ws → Ingests old new ws r was is → (asks : List Asked) × Asks honest old new (Ingest ws r) asks
asked honest old new ws r was is welcome i = (PutTable old.next i.table.image ∷ changes_by (with_number old i.slots) (coming_in i.table (last_of old ws)) ∷ [], (was, is, welcome, i, ingest_made old new ws r was is i))

-- ---- each turn

module _ (honest : Type 0) (board : TableId) where
  pub looks_can : (h : Held) (w : World) (d : Disk) → IsState honest board h → h.halted ≡ false → h.next < 2 ^ 64 → Works honest board h h (Looks ∷ []) w w d d
  looks_can h w d l going fits = (
    h,
    w,
    d,
    l,
    (record { version = refl; journal = refl; going = going; next = omega arith; fits = fits }, refl, no_gap w.tables d),
    ([], λ es. refl, refl),
    (refl, refl, no_gap w.tables d),
  )

  pub builds_can : (h : Held) (number : ℕ) (image : List ℕ) (w : World) (d : Disk) → IsState honest board h → IsSettled d w → IsWorldOf h w → IsDrawn h number → w.tables number ≡ None → d.names (table_name number) ≡ None
      → (e : Disk) × Works honest board h h (Builds number image ∷ []) w (counting number image w) d e
  builds_can h number image w d l i o drawn none free =
      let lt = l.0.law.books.drawn_below (live_of drawn.0) number (live_has h.live drawn.0 drawn.1) drawn.2 in
      let small : number < 2 ^ 64 = (let f = o.fits in omega arith) in
      let below : (n : ℕ) (bytes : List ℕ) → w.tables n ≡ Some bytes → n < 2 ^ 64 = λ n bytes k. (i.tables n bytes k).0 in
      let q = table_name number in
      let d1 = with_file q image d in
      let a1 = at_makes d d1 q image (free, refl) in
      let d2 = filled a1.0 (d1.bytes a1.0) (length (d1.bytes a1.0)) d1 in
      let d3 : Disk = record d2 { past = d2.names ∷ [] } in
      let s1 : Step d (made_file q image (Ok tt)) d1 = (free, refl) in
      let s2 : Step d1 (synced q (Ok tt)) d2 = (a1.0, a1.1.names, refl) in
      let s3 : Step d2 (folder_synced (Ok tt)) d3 = refl in
      let gap : IsGap w.tables d d3 = (
        made_file q image (Ok tt) ∷ synced q (Ok tt) ∷ folder_synced (Ok tt) ∷ [],
        (aside_made w.tables number image (Ok tt) below small none, (d1, s1, (aside_synced w.tables number (Ok tt) below small none, (d2, s2, (aside_folder w.tables (Ok tt), (d3, s3, refl)))))),
      ) in
      let u = counting number image w in (
        d3,
        (
          h,
          u,
          d3,
          l,
          (refl, drawn, refl, (d3, gap, put_stands d d1 d1 d2 d2 d3 q image [] [] i.sound s1 refl s2 refl s3, no_gap u.tables d3)),
          tt,
          (refl, refl, no_gap u.tables d3),
        ),
      )

  -- a refused call, where what was answered Ok before can be
  refused_can : (old new : Held) (deed : Deed) (asks next : List Asked) (w : World) (d : Disk) → IsState honest board new → Refuses honest old new deed asks next → new.halted ≡ false → Follows honest old new (Refused deed) → Can w w.version asks d
      → (u : World) × (e : Disk) × Works honest board old new (Refused deed ∷ []) w u d e
  refused_can old new deed asks next w d l x going f can =
      let r = all_fail (operations w.version asks) (operations w.version next) w (after_all w (operations w.version asks)) d can.0 can.1 in
      (r.0, r.1, (new, r.0, r.1, l, (asks, next, x, going, r.2), f, (refl, refl, no_gap r.0.tables r.1)))

  pub refused_ingest : (old new : Held) (ws : List Write) (answer : Ingested) (fault : StateFault) (was is : Told) (w : World) (d : Disk) → IsState honest board new → IsSettled d w → IsWorldOf old w → d.names (table_name old.next) ≡ None
      → IsIngestRefusal old new ws fault was is → new.halted ≡ false → Follows honest old new (Refused (Ingest ws answer)) → (u : World) × (e : Disk) × Works honest board old new (Refused (Ingest ws answer) ∷ []) w u d e
  refused_ingest old new ws answer fault was is w d l i o free x going f =
      let image = table_bytes_of old ws in
      let p = put_can (after w (Put old.next image)).tables old.next image d free in
      elim (ingest_err_made old new ws fault was is x) [
        | inl none ↦ refused_can old new (Ingest ws answer) [] [] w d l (fault, was, is, x, none, inl refl) going f (d, (refl, no_gap w.tables d))
        | inr put ↦ refused_can old new (Ingest ws answer) (PutTable old.next image ∷ []) [] w d l
            (fault, was, is, x, put, inl refl) going f (
              p.0,
              (
                p.0,
                no_drop (after w (Put old.next image)).tables w.manifest
                    (put_plan old.next image) d p.0 p.1,
                (refl, no_gap (after w (Put old.next image)).tables p.0),
              ),
            )
      ]

  pub refused_gather : (old new : Held) (number : ℕ) (fault : GatherFault) (was is : Told) (w : World) (d : Disk) → IsState honest board new → IsSettled d w → IsWorldOf old w → d.names (table_name old.next) ≡ None
      → IsGatherRefusal honest old new fault was is → new.halted ≡ false → Follows honest old new (Refused (Gather number)) → (u : World) × (e : Disk) × Works honest board old new (Refused (Gather number) ∷ []) w u d e
  refused_gather old new number fault was is w d l i o free x going f = elim (gather_made_err honest old new fault was is x) [
    | inl none ↦ refused_can old new (Gather number) [] [] w d l (fault, was, is, x, none, inl refl) going f (d, (refl, no_gap w.tables d))
    | inr put ↦ (
        let p = put_can (after w (Put old.next put.image)).tables old.next put.image d free in
        refused_can old new (Gather number) (PutTable old.next put.image ∷ []) [] w d l
        (fault, was, is, x, put.made, inl refl) going f (
          p.0,
          (
            p.0,
            no_drop (after w (Put old.next put.image)).tables w.manifest
                (put_plan old.next put.image) d p.0 p.1,
            (refl, no_gap (after w (Put old.next put.image)).tables p.0),
          ),
        ))
  ]

  pub refused_install : (old new : Held) (done : Done) (fault : StateFault) (was is : Told) (w : World) (d : Disk) → IsState honest board new → IsInstallRefusal old new done fault was is → Becomes was is → new.halted ≡ false → Follows honest old new (Refused (Install done))
      → (u : World) × (e : Disk) × Works honest board old new (Refused (Install done) ∷ []) w u d e
  refused_install old new done fault was is w d l x same going f = refused_can old new (Install done) [] [] w d l (fault, was, is, x, same, same.made, inl refl) going f (d, (refl, no_gap w.tables d))

  -- the last removal of a refused collect may have come to the device, or not
  pub refused_collect : (old new : Held) (removed : List ℕ) (fault : StateFault) (was is : Told) (w : World) (d : Disk) → IsState honest board new → new ≡ with_slots old new.slots → IsCollectRefusal old new fault removed was is
      → ((asks : List Asked) (number : ℕ) → HasMade asks was is → Has asks (RemoveTable number) → number < 2 ^ 64) → new.halted ≡ false → Follows honest old new (Refused (Collect removed))
      → (u : World) × (e : Disk) × Works honest board old new (Refused (Collect removed) ∷ []) w u d e
  refused_collect old new removed fault was is w d l same x small going f =
      let can = removes_can w.version removed w d in
      elim (collect_err_made old new fault removed was is x) [
        | inl told ↦ refused_can old new (Collect removed) (map RemoveTable removed) [] w d l (fault, was, is, same, x, inl told, inl refl, λ n h. small (map RemoveTable removed) n told (subst (λ xs. Has xs (RemoveTable n)) (append-nil (map RemoveTable removed)) h)) going f can
        | inr (n, free, told) ↦ refused_can old new (Collect removed) (map RemoveTable removed) (RemoveTable n ∷ []) w d l (fault, was, is, same, x, inr told, inr (shelf_fault.Device, inr (n, free, refl)), λ m h. small (map RemoveTable removed ++ RemoveTable n ∷ []) m told h) going f can
      ]

  -- ---- an ingest that is cut, in its first call of the folder or behind its last

  pub cut_can : (old new : Held) (deed : Deed) (asks : List Asked) (w : World) (v : Version) (d : Disk) → IsState honest board new → Asks honest old new deed asks → IsReady honest deed w → ComesTo new.journal.bytes v → Follows honest old new (Answered deed)
      → (known : Known) × IsCut honest board old new deed w known d d
  cut_can old new deed asks w v d l a ready to f = (let r = all_first (operations v asks) w d in (r.0, (v, asks, l, a, ready, to, f, r.1)))

  pub ingest_cut : (old new : Held) (ws : List Write) (r : Ingested) (was is : Told) (w : World) (d : Disk) → IsState honest board new → IsSettled d w → IsWorldOf old w → d.names (table_name old.next) ≡ None
      → IsWelcome old ws → Ingests old new ws r was is → Follows honest old new (Answered (Ingest ws r))
      → (known : Known) × (all : Known) × (e : Disk) × IsCut honest board old new (Ingest ws r) w known d d × IsCut honest board old new (Ingest ws r) w all d e
  ingest_cut old new ws r was is w d l i o free welcome came f =
      let v = state_comes honest board new l in
      let a = asked honest old new ws r was is welcome came in
      let can = deed_can honest board old new w v.0 d i o free (Ingest ws r) a.0 a.1 in
      let first = cut_can old new (Ingest ws r) a.0 w v.0 d l a.1 tt v.1 f in
      let last = all_last (operations v.0 a.0) w (after_all w (operations v.0 a.0)) d can.0 can.1 in
      (first.0, last.0, can.0, first.1, (v.0, a.0, l, a.1, tt, v.1, f, last.1))

-- ---- a life that is cut in a call, and one more

-- an opening after which a table has no file yet
begins_can : (honest : Type 0) (limit : ManifestLimit) (h : Held) (w : World) (d : Disk) (p : Opens honest limit h d) (asks : List Asked) (n : ℕ) → HasMade asks p.was p.is → d.names (table_name n) ≡ None → n < 2 ^ 64
    → (m : Disk) × DoneDropping w.tables h.journal.number (plans_of p.begun.before.number asks) d m
    × (m.names (table_name n) ≡ None)
begins_can honest limit h w d p asks n made free small =
    let start = start_free w.tables d h.journal.number h.journal.bytes (table_name n) free (λ e. table_manifest n h.journal.number small (sym e)) (λ e. table_temporary n h.journal.number (sym e)) (λ e. table_current n (sym e)) in
    let done =
    no_drop w.tables h.journal.number (start_plan h.journal.number h.journal.bytes) d start.0
    start.1 in (
      start.0,
      subst
          (λ xs. DoneDropping w.tables h.journal.number (plans_of p.begun.before.number xs) d start.0)
          (sym (open_asks honest limit h d p asks made)) done,
      start.2,
    )

-- an opening, whatever is there
opens_can : (honest : Type 0) (board : TableId) (limit : ManifestLimit) (h : Held) (w : World) (d : Disk) (p : Opens honest limit h d) → IsState honest board h → (u : World) × (m : Disk) × Begins honest board limit h w u d m
opens_can honest board limit h w d p l =
    let asks = StartManifest h.journal.number h.journal.bytes ∷ [] in
    let made = open_made honest limit h d p in
    let v = state_comes honest board h l in
    let can = opened_can honest limit h d p asks made w.tables in
    (opened_world h v.0 w, can.0, (v.0, asks, l, p, made, v.1, can.1, refl))

module _ (law : TablesChange) (honest : Type 0) (board : TableId) (limit : ManifestLimit) (h now new : Held) (ws xs : List Write) (r s : Ingested) (w : World) (d : Disk) where
  pub small_ages : (was is then so : Told) → IsState honest board h → IsState honest board now → IsState honest board new → IsSettled d w → d.names (table_name h.next) ≡ None → Opens honest limit h d
      → IsWelcome h ws → Ingests h now ws r was is → Follows honest h now (Answered (Ingest ws r)) → IsWelcome now xs → Ingests now new xs s then so → Follows honest now new (Answered (Ingest xs s))
      → SmallAges honest board limit (Struck h now new (Answered (Ingest ws r) ∷ []) (Ingest xs s)) w d
  small_ages was is then so l ln lx i free p hw hi fa nw ni fb =
      let first = StartManifest h.journal.number h.journal.bytes ∷ [] in
      let made = open_made honest limit h d p in
      let v = state_comes honest board h l in
      let x = state_comes honest board now ln in
      let y = state_comes honest board new lx in
      let a = asked honest h now ws r was is hw hi in
      let b = asked honest now new xs s then so nw ni in
      let begun = begins_can honest limit h w d p first h.next made free (let f = p.begun.fits in omega arith) in
      let u = opened_world h v.0 w in
      let settled = opening_settled honest board limit h d w v.0 l.0 i p v.1 begun.0 (opening_done honest limit h d p first made w.tables begun.0 begun.1) in
      let world = opening_world honest board limit h d w v.0 l.0 i p v.1 in
      let works = works_can honest board h now u x.0 begun.0 settled world begun.2 (Ingest ws r) a.0 ln a.1 tt x.1 fa in
      let kept = works_keep law honest board (Answered (Ingest ws r) ∷ []) h now u works.0 begun.0 works.1 l settled world works.2 in
      let cut = cut_can honest board now new (Ingest xs s) b.0 works.0 y.0 works.1 lx b.1 tt y.1 fb in
      let held = cut_known law honest board now new (Ingest xs s) works.0 cut.0 works.1 works.1 kept.2 kept.0 kept.1 cut.1 in
      let crash = crashed_can cut.0 works.1 held.0 held.1.sure_of in
      let lived : Lived honest board limit (Struck h now new (Answered (Ingest ws r) ∷ []) (Ingest xs s)) w d crash.0 crash.1 = (u, works.0, begun.0, works.1, cut.0, works.1, (v.0, first, l, p, made, v.1, begun.1, refl {a = u}), works.2, cut.1, crash.2) in
      record {
        world = crash.0;
        left = crash.1;
        lived = lived;
        again = λ other more g q lg.
            (let m = opens_can honest other more g crash.0 crash.1 q lg in
            (m.0, m.1, (board, limit, crash.0, crash.1, lived, (other, more, m.0, m.1, (m.0, m.1, m.2, (refl, refl, no_gap m.0.tables m.1)), (refl, refl)))));
        cut = λ other more g q lg.
            (let z = state_comes honest other g lg in
            let o = Start g.journal.number g.journal.bytes z.0 in
            let alive = crashed works.1 crash.1 cut.0 crash.2.0 crash.0 held.0 crash.2.1 crash.2.2 crash.2.3 in
            let c : CutDropping crash.0.tables g.journal.number
            (start_plan g.journal.number g.journal.bytes) crash.1 crash.1 =
            cut_first crash.0 o crash.1 in
            let m = crashed_can (either crash.0 o) crash.1 (cut_held crash.1 crash.1 crash.0 o alive (opening_allowed honest other more g crash.1 crash.0 z.0 lg.0 alive q z.1) c) refl in
            (m.0, m.1, (board, limit, crash.0, crash.1, lived, (other, more, m.0, m.1, (either crash.0 o, crash.1, (z.0, StartManifest g.journal.number g.journal.bytes ∷ [], lg, q, open_made honest more g crash.1 q, z.1, c, refl), m.2), (refl, refl)))));
      }

-- ---- from an empty folder

empty_left : IsLeft empty_disk (λ name. None)
empty_left = record { each = λ name. (None, (empty_disk.names, inl refl, refl), tt) }

empty_fresh : IsFresh (λ name. None) empty_disk
empty_fresh = record {
  none = λ name e. refl;
  some = λ name bytes e. absurd (let f : None ≡ Some bytes = e in cc);
  only = refl;
  below = λ name i e. absurd (none_is i e);
  one = λ p q i e f. absurd (none_is i e);
}

module _ (honest : Type 0) (board : TableId) (h : Held) (m : IsMade h) (l : IsState honest board h) where
  abbrev first : List Asked
  first = StartManifest h.journal.number h.journal.bytes ∷ []

  made : HasMade first m.was m.now
  made = create_made h m

  v : (v : Version) × ComesTo h.journal.bytes v
  v = state_comes honest board h l

  w : World
  w = started nothing h.journal.number h.journal.bytes v.0

  -- a crash in its first call, which has not acted
  unmade_can : (d : Disk) → MakesCut honest board h (starting nothing h.journal.number v.0) d d
  unmade_can d =
      let cut : CutAmong nothing.tables (start_plan h.journal.number h.journal.bytes) d d = (d, no_gap nothing.tables d, inr (inl (folder.Failed, d, inl refl, no_gap nothing.tables d))) in
      (v.0, first, l, m, made, v.1, cut, refl)

  pub first_lives : TablesChange → (new : Held) (ws : List Write) (r : Ingested) (was is : Told) → IsState honest board new → IsWelcome h ws → Ingests h new ws r was is → Follows honest h new (Answered (Ingest ws r))
      → (u : World) × (e : Disk) × FromNothing honest (h ∷ []) (Worked h new (Answered (Ingest ws r) ∷ []) ∷ []) empty_disk (Some u) e
  unfolding w
  first_lives law new ws r was is ln welcome came f =
      let q = table_name h.next in
      let small : h.next < 2 ^ 64 = (let n : h.next ≡ m.number + 1 = ap (λ (x : Held). x.next) m.is in let x = m.fits in omega arith) in
      let start = start_free nothing.tables empty_disk h.journal.number h.journal.bytes q refl (λ e. table_manifest h.next h.journal.number small (sym e)) (λ e. table_temporary h.next h.journal.number (sym e)) (λ e. table_current h.next (sym e)) in
      let i = made_settled honest board h v.0 l.0 m v.1 empty_disk start.0 empty_vacant start.1 in
      let o = made_world honest board h v.0 l.0 m v.1 in
      let s = state_comes honest board new ln in
      let a = asked honest h new ws r was is welcome came in
      let works = works_can honest board h new w s.0 start.0 i o start.2 (Ingest ws r) a.0 ln a.1 tt s.1 f in
      let kept = works_keep law honest board (Answered (Ingest ws r) ∷ []) h new w works.0 start.0 works.1 l i o works.2 in
      let crash = crashed_can (known_of works.0) works.1 (settled_held works.1 works.0 kept.0) refl in (
        crash.0,
        crash.1,
        (
          board,
          starting nothing h.journal.number v.0,
          empty_disk,
          empty_disk,
          unmade_can empty_disk,
          ((λ name. None), empty_left, empty_fresh, refl),
          (board, crash.0, crash.1, crash.0, (w, works.0, start.0, works.1, (v.0, first, l, m, made, v.1, start.1, refl), works.2, crash.2), (refl, refl), refl),
        ),
      )
