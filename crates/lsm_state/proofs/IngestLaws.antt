-- What an ingest leaves of the law of a state, and that it is the machine's event.
use Rattle.std.proofs.Common.{◌≡◌, ℕ, zero, suc, ◌+◌, ◌<◌, ◌≤◌, ◌↔◌, ◌==◌, Bool, true, false, cond, Option, None, List, [], ◌∷◌, ◌++◌, length, refl, sym, ◌∙◌, ap, subst, inl, inr, arith}
use Rattle.std.specs.Prelude.{◌⊎◌, Result, Ok, Err, IfErr}
use Rattle.std.specs.Result.{IsErrAnd}
use Rattle.std.specs.List.{All}
use Rattle.std.specs.List.Sorted.{IsPermutation}
use Rattle.atomic_table.specs.Seated.{TableId}
use Rattle.std.proofs.lemmas.List.Elements.{All-from_recursion}
use Rattle.std.proofs.lemmas.List.Sorted.{length_permutation}
use Rattle.lsm_codec.specs.Lists.{Has}
use Rattle.lsm_codec.specs.Keys.{IsKey}
use Rattle.lsm_codec.specs.Entries.{Entry, internal_key}
use Rattle.lsm_model.specs.Files.{File, Fits, all_entries}
use Rattle.lsm_model.proofs.CallerLemmas.{all_has, has_all}
use Rattle.lsm_shelf.specs.Told.{Told, Becomes, putting}
use Rattle.lsm_table.specs.HeldTable.{entries_in}
use Rattle.lsm_table.specs.Registry.{Table}
use Rattle.lsm_table.specs.Table.{IsTable}
use Rattle.lsm_table.specs.TableBuilding.{table_bytes}
use Rattle.lsm_table.specs.declared.table_options.TableOptions.{TableOptions}
use Rattle.lsm_manifest.specs.EditFit.{FitsKey}
use Rattle.lsm_manifest.specs.Replay.{Deletion}
use Rattle.lsm_version.specs.Changes.{added_files, changed}
use Rattle.lsm_version.specs.FileNumbers.{AreDistinct}
use Rattle.lsm_version.specs.Versions.{IsWhole, Levels, file_of, files, files_from, files_of, level_in}
use Rattle.lsm_model.specs.Law.{Law}
use Rattle.lsm_model.specs.Plain.{Plain, Spends}
use Rattle.lsm_model.specs.Plain as machine
use Rattle.lsm_model.specs.Runs.{Agrees, Ingest}
use Rattle.lsm_slots.specs.Slots.{Slotted}
use Rattle.lsm_live.specs.Booked.{Booked}
use Rattle.lsm_journal.specs.Difference.{Difference, FitsComing, Suits, changed_by}
use Rattle.lsm_block.specs.declared.build_fault.BuildFault.{BuildFault}
use Rattle.lsm_block.specs.declared.build_fault.BuildFault.TheVariants as block
use Rattle.lsm_batch.specs.declared.batch_fault.BatchFault.{BatchFault}
use Rattle.lsm_batch.specs.declared.batch_fault.BatchFault.TheVariants as batch
use Rattle.lsm_batch.specs.declared.write.Write.{Write}
use Rattle.lsm_batch.specs.Batches.{IsBatchRefusal, entries_from}
use Rattle.lsm_batch.specs.Images.{Imaged, IsImage, IsPutAs, PassesTable}
use Rattle.lsm_state.specs.Held.{HasInputs, Held, IsLawfulState, plain}
use Rattle.lsm_state.specs.Options.{sizes_of}
use Rattle.lsm_state.specs.Collecting.{SameCounts}
use Rattle.lsm_state.specs.Changing.{ChangesVersion, HasSlot, IsChangeRefusal, Sought, plain_after}
use Rattle.lsm_state.specs.Ingesting.{FailsToBuild, FailsToPut, IsBuildRefusal, IsEarlyRefusal, IsIngestRefusal, IsPutFault, IsTableOf, IsWelcome, coming_in, entries_of, last_of, of_batch, of_build, table_bytes_of, with_number, with_slots}
use Rattle.lsm_state.specs.declared.state_fault.StateFault.{StateFault}
use Rattle.lsm_state.specs.declared.state_fault.StateFault.TheVariants.{OutOfMemory, Shelf, Read, BadLevel, EmptyBatch, KeyOrder, TooLarge, LevelZeroFull, SequencesSpent, Halted, UnknownSnapshot, Conflict, UnknownTicket, NumbersSpent, Stale, SlotsHeld, VersionsSpent, PinsSpent}
use Rattle.lsm_state.proofs.Inputs.{TablesChange, inputs_stay}
use Rattle.lsm_state.proofs.ChangeLaws.{change_spends, last_after, looked_plain, next_rises}
use Rattle.lsm_state.proofs.StateLaws.{agreed, stepped}

-- laws of versions
abbrev pub ChangesFiles : Type 0
ChangesFiles = (deleted : List ℕ) (added : List (ℕ × Table)) (pointer : Option (ℕ × List ℕ)) (last : ℕ) (v : Levels) (F : File) → length v.tables ≡ 7 → All (λ a. a.0 ≤ 6) added
    → (Has (files (changed deleted added pointer last v)) F ↔ ((Has (files v) F × (Has deleted F.number → ⊥)) ⊎ Has (added_files added) F))

abbrev pub FitsTables : Type 0
FitsTables = (n : ℕ) (t : Table) → IsWhole t → Fits (file_of n t)

-- ---- sequences

pub above_last : (seq : ℕ) (ws : List Write) (e : Entry) → Has (entries_from (suc seq) ws) e → seq < e.seq
above_last seq [] e h = absurd h
above_last seq (w ∷ ws) e (inl is) = (let same = ap (λ (x : Entry). x.seq) is in omega arith)
above_last seq (w ∷ ws) e (inr h) = (let r = above_last (suc seq) ws e h in omega arith)

pub upto_last : (seq : ℕ) (ws : List Write) (e : Entry) → Has (entries_from (suc seq) ws) e → e.seq ≤ seq + length ws
upto_last seq [] e h = absurd h
upto_last seq (w ∷ ws) e (inl is) = (let same = ap (λ (x : Entry). x.seq) is in let more = length_more w ws in omega arith)
  where
    length_more : (x : Write) (xs : List Write) → length (x ∷ xs) ≡ length xs + 1
    length_more x xs = omega arith
upto_last seq (w ∷ ws) e (inr h) = (let r = upto_last (suc seq) ws e h in omega arith)

pub next_of : (a b : ℕ) → a ≡ b → a + 1 ≡ suc b
next_of a b same = omega arith

-- ---- the machine's event

level_zero : (t : Table) → All (λ (a : ℕ × Table). a.0 ≤ 6) ((0, t) ∷ [])
level_zero t = All-from_recursion (λ (a : ℕ × Table). a.0 ≤ 6) ((0, t) ∷ []) (omega arith, tt)

-- what the machine has once the table came in, with this next number
abbrev pub grown : Held → Table → ℕ → ℕ → Plain
grown h t last next = record (plain h) { files = files (changed_by (coming_in t last) h.slots.version); last = last; next = next }

pub event_of : ChangesFiles → FitsTables → (h : Held) (ws : List Write) (t : Table) (next : ℕ) → length h.slots.version.tables ≡ 7 → IsTableOf (entries_of h ws) h.next t → h.next < next
    → machine.Ingests (plain h) (entries_of h ws) (grown h t (last_of h ws) next)
event_of law fit h ws t next seven is more = record {
  file = file_of 0 t;
  files = files (changed_by (coming_in t (last_of h ws)) h.slots.version);
  last = last_of h ws;
  next = next;
  is = refl;
  level = refl;
  fits = fit 0 t is.whole;
  entries = is.entries;
  above = λ e k. above_last h.slots.version.last ws e k;
  upto = λ e k. upto_last h.slots.version.last ws e k;
  grows = omega arith;
  drawn = (let n = is.number_is in omega arith);
  passed = (let n = is.number_is in omega arith);
  from = λ F k. elim ((law [] ((0, t) ∷ []) None (last_of h ws) h.slots.version F seven (level_zero t)).0 k) [
    | inl old ↦ inr old.0
    | inr new ↦ elim new [ inl e ↦ inl e | inr none ↦ absurd none ]
  ];
  stays = λ F k. (law [] ((0, t) ∷ []) None (last_of h ws) h.slots.version F seven (level_zero t)).1 (inl (k, λ none. none));
  added = (law [] ((0, t) ∷ []) None (last_of h ws) h.slots.version (file_of 0 t) seven (level_zero t)).1 (inr (inl refl));
}

-- the law of the machine's state after the change
pub law_grown : ChangesFiles → FitsTables → (honest : Type 0) (h x : Held) (ws : List Write) (t : Table) (d : Difference) → length h.slots.version.tables ≡ 7 → IsTableOf (entries_of h ws) h.next t
    → Law honest (plain h) → x ≡ with_number h x.slots → x.slots.version ≡ h.slots.version → d ≡ coming_in t (last_of h ws) → Law honest (plain_after x d None)
law_grown law fit honest h x ws t d seven is l same version change =
    let p : Plain = grown h t (last_of h ws) (suc h.next) in
    let after : Law honest p = stepped honest (plain h) (Ingest (entries_of h ws)) p l (event_of law fit h ws t (suc h.next) seven is (omega arith)) in
    subst (λ (e : Difference). Law honest (plain_after x e None)) (sym change)
    (subst (λ (y : Held). Law honest (plain_after y (coming_in t (last_of h ws)) None)) (sym same)
    (subst (λ (v : Levels). Law honest (record p { files = files (changed_by (coming_in t (last_of h ws)) v) })) (sym version) after))

-- the history after the change: the batch's entries came in front
pub agrees_grown : ChangesFiles → FitsTables → (honest : Type 0) (board : TableId) (h x : Held) (ws : List Write) (t : Table) (d : Difference) (coming : List Entry) → length h.slots.version.tables ≡ 7
    → IsTableOf (entries_of h ws) h.next t → IsLawfulState honest board h → x ≡ with_number h x.slots → x.slots.version ≡ h.slots.version → d ≡ coming_in t (last_of h ws) → coming ≡ entries_of h ws
    → honest → Agrees (plain_after x d None) (coming ++ x.history)
agrees_grown law fit honest board h x ws t d coming seven is l same version change came y =
    let p : Plain = grown h t (last_of h ws) (suc h.next) in
    let es : List Entry = entries_of h ws ++ h.history in
    let after : Agrees p es = agreed honest (plain h) (Ingest (entries_of h ws)) p h.history l.law (event_of law fit h ws t (suc h.next) seven is (omega arith)) l.agrees y in
    let all : coming ++ x.history ≡ es = ap (λ (xs : List Entry). xs ++ x.history) came ∙ ap (λ (z : Held). entries_of h ws ++ z.history) same in
    subst (λ (xs : List Entry). Agrees (plain_after x d None) xs) (sym all)
    (subst (λ (e : Difference). Agrees (plain_after x e None) es) (sym change)
    (subst (λ (z : Held). Agrees (plain_after z (coming_in t (last_of h ws)) None) es) (sym same)
    (subst (λ (v : Levels). Agrees (record p { files = files (changed_by (coming_in t (last_of h ws)) v) }) es) (sym version) after)))

-- ---- the table of a batch

-- laws of tables
abbrev pub TablesAreWhole : Type 0
TablesAreWhole = (t : Table) (e : Entry) (rest : List Entry) (front : List Entry) (l : Entry) → IsTable t.image (e ∷ rest) → e ∷ rest ≡ front ++ l ∷ []
    → IsKey t.smallest (internal_key e) → IsKey t.largest (internal_key l) → IsWhole t

abbrev pub EntriesAreSame : Type 0
EntriesAreSame = (bytes : List ℕ) (es : List Entry) → IsTable bytes es → entries_in bytes ≡ es

pub table_put : TablesAreWhole → EntriesAreSame → (es : List Entry) (i : Imaged) (number : ℕ) (t : Table) → IsImage es i → IsPutAs i number t → IsTableOf es number t
table_put law same es i number t im p =
    let table : IsTable t.image es = subst (λ (bytes : List ℕ). IsTable bytes es) (sym p.image) im.table in
    record {
      whole = law t im.first im.rest im.front im.last (subst (λ (xs : List Entry). IsTable t.image xs) im.begins table) (sym im.begins ∙ im.ends)
          (subst (λ (k : List ℕ). IsKey k (internal_key im.first)) (sym p.smallest) im.smallest_is) (subst (λ (k : List ℕ). IsKey k (internal_key im.last)) (sym p.largest) im.largest_is);
      entries = same t.image es table;
      number_is = p.number_is;
    }

-- a table of the batch would pass a limit
pub passes : (h : Held) (ws : List Write) (o : TableOptions) (last : ℕ) → o ≡ sizes_of h.options → last ≡ h.slots.version.last → PassesTable o (entries_from (last + 1) ws)
    → PassesTable (sizes_of h.options) (entries_of h ws)
passes h ws o last sizes same p =
    subst (λ (q : TableOptions). PassesTable q (entries_of h ws)) sizes (subst (λ (n : ℕ). PassesTable o (entries_from n ws)) (next_of last h.slots.version.last same) p)

-- the bytes are those of the batch's table
pub built_as : (h : Held) (ws : List Write) (o : TableOptions) (last : ℕ) (bytes : List ℕ) → o ≡ sizes_of h.options → last ≡ h.slots.version.last → bytes ≡ table_bytes o (entries_from (last + 1) ws)
    → bytes ≡ table_bytes (sizes_of h.options) (entries_of h ws)
built_as h ws o last bytes sizes same is =
    let at : table_bytes o (entries_from (last + 1) ws) ≡ table_bytes (sizes_of h.options) (entries_from (last + 1) ws) = ap (λ (q : TableOptions). table_bytes q (entries_from (last + 1) ws)) sizes in
    let next : table_bytes (sizes_of h.options) (entries_from (last + 1) ws) ≡ table_bytes (sizes_of h.options) (entries_of h ws) =
    ap (λ (n : ℕ). table_bytes (sizes_of h.options) (entries_from n ws)) (next_of last h.slots.version.last same) in
    is ∙ (at ∙ next)

-- ---- the change

pub added_fits : (t : Table) (items : List (ℕ × Table)) → items ≡ (0, t) ∷ [] → IsWhole t → ((n : ℕ) (u : Table) → Has items (n, u) → IsWhole u → FitsKey u.smallest × FitsKey u.largest)
    → All FitsComing items
added_fits t items is whole fit =
    let keys : FitsKey t.smallest × FitsKey t.largest = fit 0 t (subst (λ (xs : List (ℕ × Table)). Has xs (0, t)) (sym is) (inl refl)) whole in
    subst (λ (xs : List (ℕ × Table)). All FitsComing xs) (sym is) (All-from_recursion FitsComing ((0, t) ∷ []) ((omega arith, keys.0, keys.1), tt))

none_moved : (ds : List Deletion) → IsPermutation [] ds → ds ≡ []
none_moved [] p = refl
none_moved (x ∷ ds) p = (let same = length_permutation [] (x ∷ ds) p in absurd (omega arith))

pub comes_in : (d : Difference) (t : Table) (last : ℕ) → IsPermutation [] d.deleted → d.added ≡ (0, t) ∷ [] → d.pointer ≡ None → d.last ≡ last → d ≡ coming_in t last
comes_in d t last moved added pointer is =
    ap (λ (xs : List Deletion). record d { deleted = xs }) (none_moved d.deleted moved)
    ∙ (ap (λ (xs : List (ℕ × Table)). record d { deleted = []; added = xs }) added
    ∙ (ap (λ (p : Option (ℕ × List ℕ)). record d { deleted = []; added = (0, t) ∷ []; pointer = p }) pointer
    ∙ ap (λ (n : ℕ). coming_in t n) is))

-- ---- what a change asks

pub level_has : (levels : List (List Table)) (from n : ℕ) (t : Table) → Has (level_in levels n) t → (F : File) × Has (files_from from levels) F × (F.number ≡ t.number)
level_has [] from n t h = absurd h
level_has (ts ∷ levels) from zero t h = (let r = here ts from t h in (r.0, left (files_of from ts) (files_from (suc from) levels) r.0 r.1, r.2))
  where
    here : (us : List Table) (level : ℕ) (u : Table) → Has us u → (F : File) × Has (files_of level us) F × (F.number ≡ u.number)
    here [] level u k = absurd k
    here (x ∷ us) level u (inl e) = (file_of level x, inl refl, ap (λ (y : Table). y.number) e)
    here (x ∷ us) level u (inr k) = (let r = here us level u k in (r.0, inr r.1, r.2))

    left : (xs ys : List File) (F : File) → Has xs F → Has (xs ++ ys) F
    left [] ys F k = absurd k
    left (z ∷ xs) ys F (inl e) = inl e
    left (z ∷ xs) ys F (inr k) = inr (left xs ys F k)
level_has (ts ∷ levels) from (suc n) t h = (let r = level_has levels (suc from) n t h in (r.0, right (files_of from ts) (files_from (suc from) levels) r.0 r.1, r.2))
  where
    right : (xs ys : List File) (F : File) → Has ys F → Has (xs ++ ys) F
    right [] ys F k = k
    right (z ∷ xs) ys F k = inr (right xs ys F k)

pub one_apart : (n : ℕ) → AreDistinct (n ∷ [])
one_apart n m = go (n == m)
  where
    go : (b : Bool) → 0 + cond b 1 0 ≤ 1
    go true = omega arith
    go false = omega arith

pub suits_grown : (honest : Type 0) (h x : Held) (es : List Entry) (t : Table) (last : ℕ) (d : Difference) → IsTableOf es h.next t → Law honest (plain h) → x.slots.version ≡ h.slots.version
    → d ≡ coming_in t last → Suits d x.slots.version
suits_grown honest h x es t last d is l version change =
    subst (λ (e : Difference). Suits e x.slots.version) (sym change)
    (subst (λ (v : Levels). Suits (coming_in t last) v) (sym version) record {
      there = λ y k. absurd k;
      apart = one_apart t.number;
      fresh = λ n m u v hu hv kept e. elim hu [
        | inl same ↦ (
            let f = level_has h.slots.version.tables 0 m v hv in
            let lt = l.books.below_next f.0 f.1 in
            let number = ap (λ (a : ℕ × Table). a.1.number) same in
            let mine = is.number_is in
            let its = f.2 in
            absurd (omega arith))
        | inr none ↦ absurd none
      ];
    })

-- the inputs of live jobs stay
pub inputs_grown : TablesChange → (honest : Type 0) (board : TableId) (h x : Held) (t : Table) (last : ℕ) (d : Difference) → IsLawfulState honest board h → x ≡ with_number h x.slots
    → x.slots.version ≡ h.slots.version → d ≡ coming_in t last → (b : Booked) → Has x.live b → HasInputs (changed_by d x.slots.version) b.work
inputs_grown law honest board h x t last d l same version change b k =
    let live : x.live ≡ h.live = ap (λ (y : Held). y.live) same in
    subst (λ (e : Difference). HasInputs (changed_by e x.slots.version) b.work) (sym change)
    (subst (λ (v : Levels). HasInputs (changed_by (coming_in t last) v) b.work) (sym version)
    (inputs_stay law (coming_in t last) h.slots.version b.work (l.inputs b (subst (λ (bs : List Booked). Has bs b) live k)) (λ u a none. none)))

-- ---- what a change leaves

-- the state after the change is the machine's after its event
pub event_after : ChangesFiles → FitsTables → (h x y : Held) (ws : List Write) (t : Table) (d : Difference) (coming : List Entry) (was is : Told) → length h.slots.version.tables ≡ 7 → IsTableOf (entries_of h ws) h.next t
    → x ≡ with_number h x.slots → x.slots.version ≡ h.slots.version → d ≡ coming_in t (last_of h ws) → ChangesVersion x y d None coming was is
    → machine.Ingests (plain h) (entries_of h ws) (plain y)
event_after law fit h x y ws t d coming was is seven table same version change c =
    let d' : Difference = coming_in t (last_of h ws) in
    let next : x.next ≡ suc h.next = ap (λ (z : Held). z.next) same in
    let rises = next_rises d (changed_by d x.slots.version) x.next y.next x.journal y.journal was is c.sends in
    let more : h.next < y.next = omega arith in
    let w : y.slots.version ≡ changed_by d' h.slots.version = c.published.version_is ∙ (ap (λ (e : Difference). changed_by e x.slots.version) change ∙ ap (λ (v : Levels). changed_by d' v) version) in
    let at : plain y ≡ grown h t (last_of h ws) y.next =
    ap plain c.rest
    ∙ (ap (λ (z : Held). plain (record z { slots = y.slots; next = y.next; live = z.live; journal = y.journal })) same
    ∙ (ap (λ (v : Levels). record (plain h) { files = files v; last = v.last; next = y.next }) w
    ∙ ap (λ (n : ℕ). record (grown h t (last_of h ws) y.next) { last = n }) (last_after d' h.slots.version))) in
    subst (λ (p : Plain). machine.Ingests (plain h) (entries_of h ws) p) (sym at) (event_of law fit h ws t y.next seven table more)

-- the entries of the files gain just those of the batch
pub entries_gained : (s : Plain) (es : List Entry) (p : Plain) → machine.Ingests s es p → (e : Entry) → Has (all_entries p.files) e ↔ (Has es e ⊎ Has (all_entries s.files) e)
entries_gained s es p i e = subst (λ (q : Plain). Has (all_entries q.files) e ↔ (Has es e ⊎ Has (all_entries s.files) e)) (sym i.is) (gained, kept)
  where
    gained : Has (all_entries i.files) e → Has es e ⊎ Has (all_entries s.files) e
    gained h = (let r = all_has i.files e h in elim (i.from r.0 r.1) [
      | inl new ↦ inl (subst (λ (l : List Entry). Has l e) i.entries (subst (λ (F : File). Has F.entries e) (sym new) r.2))
      | inr old ↦ inr (has_all s.files r.0 e old r.2)
    ])

    kept : Has es e ⊎ Has (all_entries s.files) e → Has (all_entries i.files) e
    kept (inl h) = has_all i.files i.file e i.added (subst (λ (l : List Entry). Has l e) (sym i.entries) h)
    kept (inr h) = (let r = all_has s.files e h in has_all i.files r.0 e (i.stays r.0 r.1) r.2)

-- ---- what the parts of an ingest leave

-- a slot was found, and then the number was spent
pub numbered : (h m x : Held) → m ≡ with_slots h m.slots → x ≡ record m { next = suc m.next } → x ≡ with_number h x.slots
numbered h m x looked put = put ∙ (ap (λ (z : Held). record z { next = suc z.next }) looked ∙ ap (λ (s : Slotted). with_number h s) (sym (ap (λ (z : Held). z.slots) put)))

pub version_stays : (h m x : Held) → Sought h.slots m.slots → x ≡ record m { next = suc m.next } → x.slots.version ≡ h.slots.version
version_stays h m x sought put = ap (λ (z : Held). z.slots.version) put ∙ sought.looked.version

pub table_of : (h m : Held) (ws : List Write) (t : Table) → m ≡ with_slots h m.slots → Sought h.slots m.slots → IsTableOf (entries_of m ws) m.next t → IsTableOf (entries_of h ws) h.next t
table_of h m ws t looked sought is =
    subst (λ (n : ℕ). IsTableOf (entries_of h ws) n t) (ap (λ (z : Held). z.next) looked)
    (subst (λ (v : Levels). IsTableOf (entries_from (suc v.last) ws) m.next t) sought.looked.version is)

pub change_of : (h : Held) (ws : List Write) (t : Table) (d : Difference) (before count : ℕ) → d ≡ coming_in t (before + count) → before ≡ h.slots.version.last → count ≡ length ws → d ≡ coming_in t (last_of h ws)
change_of h ws t d before count is last counted = (let sums : before + count ≡ last_of h ws = omega arith in is ∙ ap (λ (n : ℕ). coming_in t n) sums)

-- ---- refusals

pub err_is : {A : Type 0} (P : StateFault → Type 0) (r : Result A StateFault) (f : StateFault) → IsErrAnd r (λ e. e ≡ f) → P f → IfErr r P
err_is P (Ok x) f h k = tt
err_is P (Err e) f h k = subst P (sym h) k

-- the table was not built
pub build_refused : (o : TableOptions) (es : List Entry) (f : BuildFault) → (f ≡ block.TooLarge → PassesTable o es) → IsBuildRefusal o es (of_build f)
build_refused o es block.OutOfMemory large = tt
build_refused o es block.TooLarge large = large refl

-- the batch is none
pub batch_refused : (h : Held) (ws : List Write) (f : BatchFault) → h.halted ≡ false → IsBatchRefusal ws f → IsEarlyRefusal h ws (of_batch f)
batch_refused h ws batch.EmptyBatch going p = (going, p)
batch_refused h ws (batch.KeyOrder n) going p = (going, p)
batch_refused h ws batch.TooLarge going p = (going, p)

pub refused_put : (h m y : Held) (ws : List Write) (e : StateFault) (was is : Told) → IsWelcome h ws → Sought h.slots m.slots → m ≡ with_slots h m.slots → HasSlot m.slots
    → y.slots ≡ m.slots → FailsToBuild m y ws e was is ⊎ FailsToPut m y ws e was is → IsIngestRefusal h y ws e was is
refused_put h m y ws e was is welcome sought looked room slots fails =
    inr (
      welcome,
      inr (
        subst (λ (s : Slotted). Sought h.slots s) (sym slots) sought,
        subst HasSlot (sym slots) room,
        elim (subst (λ (z : Held). FailsToBuild z y ws e was is ⊎ FailsToPut z y ws e was is) looked fails) [
          | inl built ↦ inl (built.0, subst (λ (v : Levels). IsBuildRefusal (sizes_of h.options) (entries_from (suc v.last) ws) e) sought.looked.version built.1, built.2)
          | inr put ↦ inr (inl (put.0, subst (λ (v : Levels). IsPutFault h.next (table_bytes (sizes_of h.options) (entries_from (suc v.last) ws)) e was is) sought.looked.version put.1))
        ],
      ),
    )

-- no refused change moves a slot
pub slots_stay : (x y : Held) (e : StateFault) (was is : Told) → IsChangeRefusal x y e was is → y.slots ≡ x.slots
slots_stay x y OutOfMemory was is p = ap (λ (z : Held). z.slots) p.0
slots_stay x y (Shelf fault) was is p = ap (λ (z : Held). z.slots) p.0
slots_stay x y (Read fault) was is p = absurd p
slots_stay x y (BadLevel level) was is p = absurd p
slots_stay x y EmptyBatch was is p = absurd p
slots_stay x y (KeyOrder place) was is p = absurd p
slots_stay x y TooLarge was is p = absurd p
slots_stay x y LevelZeroFull was is p = absurd p
slots_stay x y SequencesSpent was is p = absurd p
slots_stay x y Halted was is p = absurd p
slots_stay x y (UnknownSnapshot id) was is p = absurd p
slots_stay x y (Conflict id) was is p = absurd p
slots_stay x y (UnknownTicket id) was is p = absurd p
slots_stay x y NumbersSpent was is p = absurd p
slots_stay x y Stale was is p = absurd p
slots_stay x y SlotsHeld was is p = absurd p
slots_stay x y VersionsSpent was is p = absurd p
slots_stay x y PinsSpent was is p = absurd p

-- slots were looked at before the put
put_as : (h m : Held) (ws : List Write) (t : Table) (was mid : Told) → m ≡ with_slots h m.slots → m.slots.version ≡ h.slots.version → t.image ≡ table_bytes_of m ws
    → Becomes (putting m.next t.image was) mid → Becomes (putting h.next (table_bytes_of h ws) was) mid
put_as h m ws t was mid looked version bytes told =
    subst (λ (v : Levels). Becomes (putting h.next (table_bytes (sizes_of h.options) (entries_from (suc v.last) ws)) was) mid) version
    (subst (λ (z : Held). Becomes (putting z.next (table_bytes (sizes_of z.options) (entries_of m ws)) was) mid) looked
    (subst (λ (image : List ℕ). Becomes (putting m.next image was) mid) bytes told))

pub refused_change : (h m x y : Held) (ws : List Write) (t : Table) (e : StateFault) (was mid is : Told) → IsWelcome h ws → Sought h.slots m.slots → m ≡ with_slots h m.slots → HasSlot m.slots
    → x ≡ record m { next = suc m.next } → t.image ≡ table_bytes_of m ws → Becomes (putting m.next t.image was) mid → SameCounts was mid → IsChangeRefusal x y e mid is → Becomes mid is → IsIngestRefusal h y ws e was is
refused_change h m x y ws t e was mid is welcome sought looked room put bytes told counts fails unsent =
    let slots : y.slots ≡ m.slots = slots_stay x y e mid is fails ∙ ap (λ (z : Held). z.slots) put in
    let spent : x ≡ with_number h y.slots = put ∙ (ap (λ (z : Held). record z { next = suc z.next }) looked ∙ ap (λ (s : Slotted). with_number h s) (sym slots)) in
    inr (
      welcome,
      inr (
        subst (λ (s : Slotted). Sought h.slots s) (sym slots) sought,
        subst HasSlot (sym slots) room,
        inr (inr (mid, put_as h m ws t was mid looked sought.looked.version bytes told, counts, subst (λ (z : Held). IsChangeRefusal z y e mid is) spent fails, unsent)),
      ),
    )

-- ---- a refusal is the machine's event of numbers spent

pub slots_spend : (h y : Held) (s : Slotted) → Sought h.slots s → y ≡ with_slots h s → Spends (plain h) (plain y)
slots_spend h y s sought is = (h.next, omega arith, ap plain is ∙ looked_plain h s sought.looked)

pub number_spends : (h y : Held) (s : Slotted) → Sought h.slots s → y ≡ with_number h s → Spends (plain h) (plain y)
number_spends h y s sought is =
    (suc h.next, omega arith, ap plain is ∙ ap (λ (v : Levels). let t : Plain = record (plain h) { files = files v; last = v.last; next = suc h.next } in t) sought.looked.version)

pub put_spends : (h m y : Held) (ws : List Write) (e : StateFault) (was is : Told) → Sought h.slots m.slots → m ≡ with_slots h m.slots → y.slots ≡ m.slots
    → FailsToBuild m y ws e was is ⊎ FailsToPut m y ws e was is → Spends (plain h) (plain y)
put_spends h m y ws e was is sought looked slots fails =
    let found : Sought h.slots y.slots = subst (λ (s : Slotted). Sought h.slots s) (sym slots) sought in
    elim fails [
      | inl built ↦ slots_spend h y y.slots found (built.0 ∙ ap (λ (z : Held). with_slots z y.slots) looked)
      | inr put ↦ number_spends h y y.slots found (put.0 ∙ ap (λ (z : Held). with_number z y.slots) looked)
    ]

pub numbered_spends : (h m x : Held) → Sought h.slots m.slots → m ≡ with_slots h m.slots → x ≡ record m { next = suc m.next } → Spends (plain h) (plain x)
numbered_spends h m x sought looked put =
    number_spends h x x.slots (subst (λ (s : Slotted). Sought h.slots s) (sym (ap (λ (z : Held). z.slots) put)) sought) (numbered h m x looked put)

pub change_spent : (h m x y : Held) (e : StateFault) (was is : Told) → Sought h.slots m.slots → m ≡ with_slots h m.slots → x ≡ record m { next = suc m.next } → IsChangeRefusal x y e was is
    → Spends (plain h) (plain y)
change_spent h m x y e was is sought looked put r =
    let spent = numbered_spends h m x sought looked put in
    let change = change_spends x y e was is r in
    let first : h.next ≤ spent.0 = spent.1 in
    let here : x.next ≡ spent.0 = ap (λ (p : Plain). p.next) spent.2 in
    let more : x.next ≤ change.0 = change.1 in
    (change.0, omega arith, change.2 ∙ ap (λ (p : Plain). let t : Plain = record p { next = change.0 } in t) spent.2)
