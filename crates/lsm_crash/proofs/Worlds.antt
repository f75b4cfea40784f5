-- What is counted on after each call of a database.
use Rattle.std.proofs.Common.{◌≡◌, ℕ, suc, ◌+◌, ◌<◌, ◌≤◌, ◌^◌, Bool, true, false, List, [], ◌∷◌, length, map, refl, sym, ◌∙◌, ap, subst, inl, inr, ◌⊎◌, arith, Option, Some, None}
use Rattle.std.specs.Prelude.{◌↔◌, ◌==◌, not, if◌then◌else◌}
use Rattle.std.proofs.lemmas.Bool.{cases_lt, eq-eqb}
use Rattle.atomic_table.specs.Seated.{TableId}
use Rattle.lsm_codec.specs.Entries.{Entry}
use Rattle.lsm_codec.specs.Lists.{Has}
use Rattle.lsm_codec.proofs.CallerLemmas.{any_at, filter_has}
use Rattle.lsm_shelf.specs.Told.{Told}
use Rattle.lsm_shelf.specs.Asked.{Asked}
use Rattle.lsm_shelf.specs.Asked as shelf
use Rattle.lsm_table.specs.Registry.{Table}
use Rattle.lsm_version.specs.Versions.{Levels, file_of, files, level_in}
use Rattle.lsm_version.specs.Changes.{changed}
use Rattle.lsm_version.proofs.CallerLemmas.{in_files, inside}
use Rattle.lsm_batch.specs.declared.write.Write.{Write}
use Rattle.lsm_journal.specs.HeldManifest.{HeldManifest, is_at_limit}
use Rattle.lsm_journal.specs.Difference.{Difference, changed_by, deleted_numbers}
use Rattle.lsm_journal.specs.Recorded.{IsRecorded}
use Rattle.lsm_live.specs.Booked.{live_of}
use Rattle.lsm_live.proofs.CallerLemmas.{live_has}
use Rattle.lsm_merge.specs.Work.{Done}
use Rattle.lsm_slots.specs.Slots.{AreSlots, Slotted, current_slot}
use Rattle.lsm_state.specs.Asked.{changes_by}
use Rattle.lsm_state.specs.Changing.{ChangesVersion}
use Rattle.lsm_state.specs.Collecting.{AreCollected, HasLookedAround, is_in}
use Rattle.lsm_state.specs.Gathering.{Gathers}
use Rattle.lsm_state.specs.Held.{Held, IsLawfulState}
use Rattle.lsm_state.specs.Ingesting.{HasNumbers, Ingests, IsWelcome, coming_in, entries_of, last_of, with_number, with_slots}
use Rattle.lsm_state.specs.Installing.{Installed, MayInstall, added_at}
use Rattle.lsm_state.specs.declared.ingest.Ingested.{Ingested}
use Rattle.lsm_crash.specs.Versions.{ComesTo, Tables, Version}
use Rattle.lsm_crash.specs.Known.{World}
use Rattle.lsm_crash.specs.Operations.{Allows, Operation, Put, Remove, after, sure}
use Rattle.lsm_crash.specs.Among.{counting, failed}
use Rattle.lsm_crash.specs.States.{Describes, HasTables, IsWorldOf}
use Rattle.lsm_crash.specs.Database.{AllowsAll, Asks, Collect, Deed, Gather, Ingest, Install, IsDrawn, IsReady, IsState, Stays, after_all, operations}
use Rattle.lsm_crash.proofs.Tables.{set_cases}
use Rattle.lsm_crash.proofs.Forms.{named_table, recorded_describes}
use Rattle.lsm_crash.proofs.Deeds.{Rises, Turned, rises, turned}
use Rattle.lsm_crash.proofs.Asking.{collect_asks, gather_asks, ingest_asks, install_asks, ready_tables}

-- what a change says of tables (a law of versions)
abbrev pub TablesChange : Type 0
TablesChange = (deleted : List ℕ) (added : List (ℕ × Table)) (pointer : Option (ℕ × List ℕ)) (last : ℕ) (v : Levels) (n : ℕ) (t : Table) → n < length v.tables
    → (Has (level_in (changed deleted added pointer last v).tables n) t ↔ ((Has (level_in v.tables n) t × (Has deleted t.number → ⊥)) ⊎ Has added (n, t)))

pub from_either : TablesChange → (d : Difference) (u : Levels) (n : ℕ) (t : Table) → length u.tables ≡ 7 → length (changed_by d u).tables ≡ 7 → Has (level_in (changed_by d u).tables n) t
    → Has (level_in u.tables n) t ⊎ Has d.added (n, t)
from_either law d u n t seven seven' h =
    let lt = inside (changed_by d u).tables n t h in
    elim ((law (deleted_numbers d) d.added d.pointer d.last u n t (omega arith)).0 h) [ inl k ↦ inl k.0 | inr added ↦ inr added ]

pub going_recorded : (honest : Type 0) (board : TableId) (h : Held) → IsLawfulState honest board h → h.halted ≡ false → IsRecorded 0 h.journal h.slots.version h.next
going_recorded honest board h l going = subst (λ r. IsRecorded r h.journal h.slots.version h.next) (l.journaled.2 going) l.journaled.1

-- ---- a change of the version

-- The operation turns the manifest to that of the new state; the tables of its version are there.
pub record Changes (x : World) (new : Held) (v : Version) (o : Operation) : Type 0 where
  pub allowed : Allows x o
  pub fails : failed x o ≡ x
  pub sure_are : sure x o ≡ x.tables
  pub version : (after x o).version ≡ v
  pub has : HasTables x.tables new.slots.version
  pub world : IsWorldOf new (after x o)

-- between the states: with these tables, from this next number on
module _ (honest : Type 0) (board : TableId) (mid new : Held) (d : Difference) (out : Option ℕ) (coming : List Entry) (n0 : ℕ) (x : World) (v : Version) (was is : Told)
    (ln : IsLawfulState honest board new) (before : IsRecorded 0 mid.journal mid.slots.version n0)
    (number : x.manifest ≡ mid.journal.number) (text : x.bytes ≡ mid.journal.bytes) (comes : ComesTo x.bytes x.version) (to : ComesTo new.journal.bytes v)
    (has : HasTables x.tables new.slots.version) (below : (n : ℕ) (image : List ℕ) → x.tables n ≡ Some image → n < mid.next)
    (own : mid.journal.number < mid.next) (small : mid.next < 2 ^ 64) (room : is_at_limit mid.journal ≡ true → mid.next + 1 < 2 ^ 64)
    (c : ChangesVersion mid new d out coming was is) where
  abbrev W : Levels
  W = changed_by d mid.slots.version

  behind : IsRecorded ln.journaled.0 new.journal W new.next
  behind = subst (λ (u : Levels). IsRecorded ln.journaled.0 new.journal u new.next) c.published.version_is ln.journaled.1

  has_w : HasTables x.tables W
  has_w = subst (λ (u : Levels). HasTables x.tables u) c.published.version_is has

  pub change_turned : Turned x new.journal v (changes_by mid d)
  change_turned = turned mid.journal new.journal mid.slots.version W d mid.next new.next n0 ln.journaled.0 new.next x v was is before behind number text comes has_w own small to c.sends

  change_rises : Rises mid.journal new.journal mid.next new.next
  change_rises = rises mid.journal new.journal mid.slots.version W d mid.next new.next n0 ln.journaled.0 new.next x v was is before behind number text comes has_w own small to room c.sends

  pub change_changes : Changes x new v change_turned.o
  change_changes = (let t = change_turned in let r = change_rises in record {
    allowed = t.allowed;
    fails = t.fails;
    sure_are = t.sure_are;
    version = t.version;
    has = has;
    world = record {
      manifest = t.manifest;
      bytes = t.bytes;
      tables = λ level u h. ap (λ (f : Tables). f u.number) t.tables ∙ has level u h;
      below = λ n image k. (let lt = below n image (ap (λ (f : Tables). f n) (sym t.tables) ∙ k) in let le = r.next_le in omega arith);
      own = r.own;
      fits = r.fits;
    };
  })

-- ---- a table that comes in

pub none_or : (o : Option (List ℕ)) → ((image : List ℕ) → o ≡ Some image → ⊥) → o ≡ None
none_or None h = refl
none_or (Some image) h = absurd (h image refl)

-- A table is put, and then the manifest turned.
pub record Coming (old new : Held) (w : World) (v : Version) (os : List Operation) : Type 0 where
  pub image : List ℕ
  pub o : Operation
  pub is : os ≡ Put old.next image ∷ o ∷ []
  pub put : Allows w (Put old.next image)
  pub has : HasTables (after w (Put old.next image)).tables old.slots.version
  pub changes : Changes (after w (Put old.next image)) new v o

needs_one : (b : Bool) → 1 ≤ (if b then 2 else 1)
needs_one true = omega arith
needs_one false = omega arith

needs_two : (b : Bool) (next : ℕ) → b ≡ true → next + (if b then 2 else 1) < 2 ^ 64 → suc next + 1 < 2 ^ 64
needs_two true next e lt = omega arith
needs_two false next e lt = absurd cc

table_is : (a b : ℕ × Table) → a ≡ b → a.1 ≡ b.1
table_is a b e = ap (λ (p : ℕ × Table). p.1) e

module _ (law : TablesChange) (honest : Type 0) (board : TableId) (old new : Held) (w : World) (v : Version) (lo : IsLawfulState honest board old) (ln : IsLawfulState honest board new)
    (o : IsWorldOf old w) (comes : ComesTo w.bytes w.version) (to : ComesTo new.journal.bytes v) where
  -- what an ingest and a gather have in common
  record Brings (table : Table) (slots : Slotted) (d : Difference) (coming : List Entry) (mid is : Told) : Type 0 where
    going : old.halted ≡ false
    numbers : HasNumbers old
    version : slots.version ≡ old.slots.version
    number_is : table.number ≡ old.next
    added : (level : ℕ) (t : Table) → Has d.added (level, t) → table ≡ t
    changes : ChangesVersion (with_number old slots) new d None coming mid is

  module _ (table : Table) (slots : Slotted) (d : Difference) (coming : List Entry) (mid is : Told) (i : Brings table slots d coming mid is) where
    abbrev P : Operation
    P = Put old.next table.image

    abbrev x : World
    x = after w P

    before : IsRecorded 0 old.journal slots.version old.next
    before = subst (λ (u : Levels). IsRecorded 0 old.journal u old.next) (sym i.version) (going_recorded honest board old lo i.going)

    old_has : HasTables x.tables old.slots.version
    old_has level t h = elim (set_cases w.tables old.next (Some table.image) t.number) [
      | inl e ↦ (let lt = o.below t.number t.image (o.tables level t h) in let same = e.0 in absurd (omega arith))
      | inr e ↦ e.1 ∙ o.tables level t h
    ]

    table_has : (t : Table) → table ≡ t → x.tables t.number ≡ Some t.image
    table_has t e = elim (set_cases w.tables old.next (Some table.image) t.number) [
      | inl h ↦ h.1 ∙ ap (λ (u : Table). Some u.image) e
      | inr h ↦ absurd (h.0 (sym (ap (λ (u : Table). u.number) e) ∙ i.number_is))
    ]

    new_at : (level : ℕ) (t : Table) → Has (level_in (changed_by d slots.version).tables level) t → x.tables t.number ≡ Some t.image
    new_at level t h =
        let seven : length slots.version.tables ≡ 7 = before.own.seven in
        let seven' : length (changed_by d slots.version).tables ≡ 7 = ap (λ (u : Levels). length u.tables) (sym i.changes.published.version_is) ∙ ln.journaled.1.own.seven in
        elim (from_either law d slots.version level t seven seven' h) [
          | inl k ↦ old_has level t (subst (λ (u : Levels). Has (level_in u.tables level) t) i.version k)
          | inr added ↦ table_has t (i.added level t added)
        ]

    new_has : HasTables x.tables new.slots.version
    new_has level t h = new_at level t (subst (λ (u : Levels). Has (level_in u.tables level) t) i.changes.published.version_is h)

    below : (n : ℕ) (image : List ℕ) → x.tables n ≡ Some image → n < suc old.next
    below n image k = elim (set_cases w.tables old.next (Some table.image) n) [
      | inl e ↦ (let same = e.0 in omega arith)
      | inr e ↦ (let lt = o.below n image (sym e.1 ∙ k) in omega arith)
    ]

    small : suc old.next < 2 ^ 64
    small = (let a = i.numbers in let b = needs_one (is_at_limit old.journal) in omega arith)

    own : old.journal.number < suc old.next
    own = (let a = o.own in omega arith)

    room : is_at_limit old.journal ≡ true → suc old.next + 1 < 2 ^ 64
    room e = needs_two (is_at_limit old.journal) old.next e i.numbers

    abbrev T : Turned x new.journal v (changes_by (with_number old slots) d)
    T = change_turned honest board (with_number old slots) new d None coming old.next x v mid is ln before o.manifest o.bytes comes to new_has below own small room i.changes

    coming_is : Coming old new w v (operations v (shelf.Put old.next table.image ∷ changes_by (with_number old slots) d ∷ []))
    coming_is = record {
      image = table.image;
      o = T.o;
      is = ap (λ os. P ∷ os) T.is;
      put = ((let a = o.fits in omega arith), none_or (w.tables old.next) (λ image k. (let lt = o.below old.next image k in omega arith)));
      has = old_has;
      changes = change_changes honest board (with_number old slots) new d None coming old.next x v mid is ln before o.manifest o.bytes comes to new_has below own small room i.changes;
    }

  one_added : (table : Table) (level : ℕ) (t : Table) → Has {X = ℕ × Table} ((0, table) ∷ []) (level, t) → table ≡ t
  one_added table level t (inl e) = table_is (0, table) (level, t) e
  one_added table level t (inr none) = absurd none

  pub ingest_is : (ws : List Write) (r : Ingested) (was is : Told) → IsWelcome old ws → (i : Ingests old new ws r was is) → Coming old new w v (operations v (shelf.Put old.next i.table.image ∷ changes_by (with_number old i.slots) (coming_in i.table (last_of old ws)) ∷ []))
  ingest_is ws r was is welcome i = coming_is i.table i.slots (coming_in i.table (last_of old ws)) (entries_of old ws) i.mid is record {
    going = welcome.takes.0;
    numbers = welcome.numbers;
    version = i.sought.looked.version;
    number_is = i.is_table.number_is;
    added = one_added i.table;
    changes = i.changes;
  }

  pub gather_is : (number : ℕ) (was is : Told) → (i : Gathers honest old new number was is) → Coming old new w v (operations v (shelf.Put old.next i.table.image ∷ changes_by (with_number old i.slots) i.change ∷ []))
  gather_is number was is i = coming_is i.table i.slots i.change [] i.mid is record {
    going = i.going_on;
    numbers = i.numbers;
    version = i.sought.looked.version;
    number_is = i.is_table.number_is;
    added = λ level t h. one_added i.table level t (subst (λ (xs : List (ℕ × Table)). Has xs (level, t)) i.its.added h);
    changes = i.changes;
  }

  -- ---- an install

  module _ (done : Done) (was is : Told) (may : MayInstall old done) (i : Installed old new done was is) (ready : (t : Table) → Has done.outputs t → w.tables t.number ≡ Some t.image) where
    recorded : IsRecorded 0 old.journal i.slots.version old.next
    recorded = subst (λ (u : Levels). IsRecorded 0 old.journal u old.next) (sym i.sought.looked.version) (going_recorded honest board old lo may.going)

    in_added : (level n : ℕ) (ts : List Table) (t : Table) → Has (added_at level ts) (n, t) → Has ts t
    in_added level n [] t h = absurd h
    in_added level n (u ∷ ts) t (inl e) = inl (table_is (level, u) (n, t) e)
    in_added level n (u ∷ ts) t (inr h) = inr (in_added level n ts t h)

    installed_at : (level : ℕ) (t : Table) → Has (level_in (changed_by i.change i.slots.version).tables level) t → w.tables t.number ≡ Some t.image
    installed_at level t h =
        let seven : length i.slots.version.tables ≡ 7 = recorded.own.seven in
        let seven' : length (changed_by i.change i.slots.version).tables ≡ 7 = ap (λ (u : Levels). length u.tables) (sym i.changes.published.version_is) ∙ ln.journaled.1.own.seven in
        elim (from_either law i.change i.slots.version level t seven seven' h) [
          | inl k ↦ o.tables level t (subst (λ (u : Levels). Has (level_in u.tables level) t) i.sought.looked.version k)
          | inr added ↦ ready t (in_added (suc done.work.level) level done.outputs t (subst (λ (xs : List (ℕ × Table)). Has xs (level, t)) i.its.added added))
        ]

    installed_has : HasTables w.tables new.slots.version
    installed_has level t h = installed_at level t (subst (λ (u : Levels). Has (level_in u.tables level) t) i.changes.published.version_is h)

    spare : is_at_limit old.journal ≡ true → old.next + 1 < 2 ^ 64
    spare e = elim (cases_lt (old.next + 1) (2 ^ 64)) [
      | inl lt ↦ lt
      | inr le ↦ (let a = o.fits in absurd (may.number (e, omega arith)))
    ]

    pub install_turned : Turned w new.journal v (changes_by (with_slots old i.slots) i.change)
    install_turned = change_turned honest board (with_slots old i.slots) new i.change (Some done.work.ticket) [] old.next w v was is ln recorded o.manifest o.bytes comes to installed_has o.below o.own o.fits spare i.changes

    pub install_changes : Changes w new v install_turned.o
    unfolding install_turned change_turned
    install_changes = change_changes honest board (with_slots old i.slots) new i.change (Some done.work.ticket) [] old.next w v was is ln recorded o.manifest o.bytes comes to installed_has o.below o.own o.fits spare i.changes

-- ---- a collect

-- Tables of these numbers may be gone, and all else is as before.
pub record Fewer (w u : World) (ns : List ℕ) : Type 0 where
  pub manifest : u.manifest ≡ w.manifest
  pub bytes : u.bytes ≡ w.bytes
  pub version : u.version ≡ w.version
  pub less : (n : ℕ) (image : List ℕ) → u.tables n ≡ Some image → w.tables n ≡ Some image
  pub more : (n : ℕ) (image : List ℕ) → w.tables n ≡ Some image → (Has ns n → ⊥) → u.tables n ≡ Some image

pub fewer_same : (w : World) (ns : List ℕ) → Fewer w w ns
fewer_same w ns = record { manifest = refl; bytes = refl; version = refl; less = λ n image k. k; more = λ n image k none. k }

some_none : {P : Type 0} (image : List ℕ) → None ≡ Some image → P
some_none image e = absurd (let f : None ≡ Some image = e in cc)

pub fewer_one : (w : World) (n : ℕ) (ns : List ℕ) → Fewer w (after w (Remove n)) (n ∷ ns)
fewer_one w n ns = record {
  manifest = refl;
  bytes = refl;
  version = refl;
  less = λ m image k. elim (set_cases w.tables n None m) [ inl e ↦ some_none image (sym e.1 ∙ k) | inr e ↦ sym e.1 ∙ k ];
  more = λ m image k none. elim (set_cases w.tables n None m) [ inl e ↦ absurd (none (inl (sym e.0))) | inr e ↦ e.1 ∙ k ];
}

pub fewer_more : (w x u : World) (n : ℕ) (ns : List ℕ) → Fewer w x (n ∷ []) → Fewer x u ns → Fewer w u (n ∷ ns)
fewer_more w x u n ns a b = record {
  manifest = b.manifest ∙ a.manifest;
  bytes = b.bytes ∙ a.bytes;
  version = b.version ∙ a.version;
  less = λ m image k. a.less m image (b.less m image k);
  more = λ m image k none. b.more m image (a.more m image k (λ h. elim h [ inl e ↦ none (inl e) | inr other ↦ other ])) (λ h. none (inr h));
}

-- numbers that may be removed
abbrev pub AreOut : World → List ℕ → Type 0
AreOut w ns = (n : ℕ) → Has ns n → Allows w (Remove n)

pub removes_allowed : (v : Version) (ns : List ℕ) (w : World) → AreOut w ns → AllowsAll w (operations v (map shelf.Remove ns))
removes_allowed v [] w out = tt
removes_allowed v (n ∷ ns) w out = (out n (inl refl), removes_allowed v ns (after w (Remove n)) (λ m h. out m (inr h)))

pub removes_fewer : (v : Version) (ns : List ℕ) (w : World) → Fewer w (after_all w (operations v (map shelf.Remove ns))) ns
removes_fewer v [] w = fewer_same w []
removes_fewer v (n ∷ ns) w = fewer_more w (after w (Remove n)) (after_all (after w (Remove n)) (operations v (map shelf.Remove ns))) n ns (fewer_one w n []) (removes_fewer v ns (after w (Remove n)))

pub not_both : (b : Bool) → not b ≡ true → b ≡ true → ⊥
not_both true h k = cc
not_both false h k = cc

pub has_file : (v : Levels) (level : ℕ) (t : Table) → Has (level_in v.tables level) t → Has (files v) (file_of level t)
has_file v level t h = (let e : 0 + level ≡ level = omega arith in subst (λ (m : ℕ). Has (files v) (file_of m t)) e (in_files 0 v.tables level t h))

-- no table of the current version is removed
pub removed_out : (h : Held) (removed : List ℕ) (was is : Told) → AreSlots h.slots → AreCollected h removed was is → (level : ℕ) (t : Table) → Has (level_in h.slots.version.tables level) t → Has removed t.number → ⊥
removed_out h removed was is s c level t at gone =
    let f = filter_has (λ n. not (is_in c.kept n)) c.listed t.number (subst (λ ns. Has ns t.number) c.removed_are gone) in
    let file = has_file h.slots.version level t at in
    let kept : Has c.kept t.number = (c.kept_are t.number).1 (inl (current_slot h.slots, record { id = h.slots.board.knows.id; version = h.slots.version; pins = s.pins }, file_of level t, s.current, file, refl)) in
    not_both (is_in c.kept t.number) f.1 (any_at (λ m. m == t.number) c.kept t.number kept (eq-eqb t.number t.number refl))

pub fewer_world : (h : Held) (w u : World) (ns : List ℕ) → IsWorldOf h w → ((level : ℕ) (t : Table) → Has (level_in h.slots.version.tables level) t → Has ns t.number → ⊥) → Fewer w u ns → IsWorldOf h u
fewer_world h w u ns o out f = record {
  manifest = f.manifest ∙ o.manifest;
  bytes = f.bytes ∙ o.bytes;
  tables = λ level t k. f.more t.number t.image (o.tables level t k) (out level t k);
  below = λ n image k. o.below n image (f.less n image k);
  own = o.own;
  fits = o.fits;
}

-- ---- other slots, other numbers

pub stays_world : (old new : Held) (u : World) → Stays old new → u.manifest ≡ old.journal.number → u.bytes ≡ old.journal.bytes → HasTables u.tables old.slots.version
    → ((n : ℕ) (image : List ℕ) → u.tables n ≡ Some image → n < new.next) → old.journal.number < old.next → IsWorldOf new u
stays_world old new u s number text has below own = record {
  manifest = number ∙ ap (λ (j : HeldManifest). j.number) (sym s.journal);
  bytes = text ∙ ap (λ (j : HeldManifest). j.bytes) (sym s.journal);
  tables = subst (λ (v : Levels). HasTables u.tables v) (sym s.version) has;
  below = below;
  own = (let e = ap (λ (j : HeldManifest). j.number) s.journal in let le = s.next in omega arith);
  fits = s.fits;
}

-- ---- a worker's table

pub drawn_world : (honest : Type 0) (board : TableId) (h : Held) (w : World) (number : ℕ) (image : List ℕ) → IsLawfulState honest board h → IsWorldOf h w → IsDrawn h number → IsWorldOf h (counting number image w)
drawn_world honest board h w number image l o drawn = record {
  manifest = o.manifest;
  bytes = o.bytes;
  tables = λ level t k. elim (set_cases w.tables number (Some image) t.number) [
    | inl e ↦ absurd (l.law.books.drawn_fresh (live_of drawn.0) number (file_of level t) (live_has h.live drawn.0 drawn.1) drawn.2 (has_file h.slots.version level t k) e.0)
    | inr e ↦ e.1 ∙ o.tables level t k
  ];
  below = λ n img k. elim (set_cases w.tables number (Some image) n) [
    | inl e ↦ subst (λ m. m < h.next) (sym e.0) (l.law.books.drawn_below (live_of drawn.0) number (live_has h.live drawn.0 drawn.1) drawn.2)
    | inr e ↦ o.below n img (sym e.1 ∙ k)
  ];
  own = o.own;
  fits = o.fits;
}

-- ---- every call

module _ (law : TablesChange) (honest : Type 0) (board : TableId) (old new : Held) (w : World) (v : Version) (lo : IsState honest board old) (ln : IsState honest board new)
    (o : IsWorldOf old w) (comes : ComesTo w.bytes w.version) (to : ComesTo new.journal.bytes v) where
  describes : Describes w.version old.slots.version
  describes = recorded_describes lo.0.journaled.0 old.journal old.slots.version old.next w.version lo.0.journaled.1 (subst (λ b. ComesTo b w.version) o.bytes comes)

  -- what a collect removes is none of the version's
  pub collect_out : (removed : List ℕ) (was is : Told) → HasLookedAround old new → AreCollected new removed was is → (level : ℕ) (t : Table) → Has (level_in old.slots.version.tables level) t → Has removed t.number → ⊥
  collect_out removed was is looked c level t h = removed_out new removed was is ln.1 c level t (subst (λ (u : Levels). Has (level_in u.tables level) t) (sym looked.looked.version) h)

  pub collect_may : (removed : List ℕ) (was is : Told) → HasLookedAround old new → AreCollected new removed was is → ((n : ℕ) → Has removed n → n < 2 ^ 64) → AreOut w removed
  collect_may removed was is looked c small n h = (
    small n h,
    λ named. (
        let t = named_table w.version old.slots.version n describes named in
        collect_out removed was is looked c t.0 t.1 t.2 (subst (Has removed) (sym t.3) h)),
  )

  pub collect_world : (removed : List ℕ) (was is : Told) → HasLookedAround old new → new ≡ with_slots old new.slots → AreCollected new removed was is → IsWorldOf new (after_all w (operations v (map shelf.Remove removed)))
  collect_world removed was is looked same c =
      let u = after_all w (operations v (map shelf.Remove removed)) in
      let f = fewer_world old w u removed o (collect_out removed was is looked c) (removes_fewer v removed w) in
      subst (λ (h : Held). IsWorldOf h u) (sym same) record {
        manifest = f.manifest;
        bytes = f.bytes;
        tables = subst (λ (x : Levels). HasTables u.tables x) (sym looked.looked.version) f.tables;
        below = f.below;
        own = f.own;
        fits = f.fits;
      }

  abbrev Good : List Operation → Type 0
  Good os = AllowsAll w os × IsWorldOf new (after_all w os)

  pub allowed_at : (deed : Deed) (asks : List Asked) → Asks honest old new deed asks → IsReady honest deed w → AllowsAll w (operations v asks) × IsWorldOf new (after_all w (operations v asks))
  allowed_at (Ingest ws r) asks a ready =
      let i = ingest_is law honest board old new w v lo.0 ln.0 o comes to ws r a.0 a.1 a.2 a.3 in
      let one : Good (Put old.next i.image ∷ i.o ∷ []) = ((i.put, (i.changes.allowed, tt)), i.changes.world) in
      subst (λ xs. Good (operations v xs)) (sym (ingest_asks old new ws r a.0 a.1 a.3 asks a.4)) (subst Good (sym i.is) one)
  allowed_at (Gather number) asks a ready =
      let i = gather_is law honest board old new w v lo.0 ln.0 o comes to number a.0 a.1 a.2 in
      let one : Good (Put old.next i.image ∷ i.o ∷ []) = ((i.put, (i.changes.allowed, tt)), i.changes.world) in
      subst (λ xs. Good (operations v xs)) (sym (gather_asks honest old new number a.0 a.1 a.2 asks a.3)) (subst Good (sym i.is) one)
  allowed_at (Install done) asks a ready =
      let t = install_turned law honest board old new w v lo.0 ln.0 o comes to done a.0 a.1 a.2 a.3 (ready_tables honest board old w done lo.0 o a.2 ready) in
      let c = install_changes law honest board old new w v lo.0 ln.0 o comes to done a.0 a.1 a.2 a.3 (ready_tables honest board old w done lo.0 o a.2 ready) in
      let one : Good (t.o ∷ []) = ((c.allowed, tt), c.world) in
      subst (λ xs. Good (operations v xs)) (sym (install_asks old new done a.0 a.1 a.3 asks a.4)) (subst Good (sym t.is) one)
  allowed_at (Collect removed) asks a ready =
      let one : Good (operations v (map shelf.Remove removed)) = (removes_allowed v removed w (collect_may removed a.0 a.1 a.3 a.5 ready), collect_world removed a.0 a.1 a.3 a.4 a.5) in
      subst (λ xs. Good (operations v xs)) (sym (collect_asks new removed a.0 a.1 a.5 asks a.6)) one

pub deed_allowed : TablesChange → (honest : Type 0) (board : TableId) (old new : Held) (deed : Deed) (asks : List Asked) (w : World) (v : Version) → IsState honest board old → IsState honest board new → IsWorldOf old w → ComesTo w.bytes w.version
    → Asks honest old new deed asks → IsReady honest deed w → ComesTo new.journal.bytes v → AllowsAll w (operations v asks) × IsWorldOf new (after_all w (operations v asks))
deed_allowed law honest board old new deed asks w v lo ln o comes a ready to = allowed_at law honest board old new w v lo ln o comes to deed asks a ready
