-- What a gather leaves of the law of a state, and that it is the machine's event.
use Rattle.std.proofs.Common.{◌≡◌, ℕ, suc, ◌+◌, ◌<◌, ◌≤◌, ◌==◌, Bool, true, false, not, None, List, [], ◌∷◌, ◌++◌, length, map, refl, sym, ◌∙◌, ap, subst, inl, inr, arith, ◌⊎◌, ◌↔◌, All, nat_le}
use Rattle.std.specs.Prelude.{Result, Ok, Err, IfErr, ◌^◌, if◌then◌else◌}
use Rattle.std.specs.List.{filter, list_any}
use Rattle.std.proofs.lemmas.Bool.{and_parts, cases_Bool, both_ways, eqb-true, eq-eqb, leb-true, leb-false}
use Rattle.std.proofs.lemmas.List.Elements.{All-from_recursion}
use Rattle.std.proofs.lemmas.List.Sorted.{IsPermutation-sym}
use Rattle.atomic_table.specs.Seated.{TableId}
use Rattle.lsm_codec.specs.Entries.{Entry, answer}
use Rattle.lsm_codec.specs.Keys.{UserKey}
use Rattle.lsm_codec.specs.Lists.{Has}
use Rattle.lsm_codec.proofs.CallerLemmas.{any_at, any_says, filter_has, has_filter}
use Rattle.lsm_shelf.specs.Asked.{Asked}
use Rattle.lsm_shelf.specs.Told.{Told, Becomes, putting}
use Rattle.lsm_shelf.specs.declared.shelf_fault.ShelfFault.{ShelfFault}
use Rattle.lsm_shelf.proofs.CallerLemmas.{want_more}
use Rattle.lsm_table.specs.Registry.{Table}
use Rattle.lsm_table.specs.declared.table_options.TableOptions.{TableOptions}
use Rattle.lsm_manifest.specs.EditFit.{FitsDeleted}
use Rattle.lsm_manifest.specs.Replay.{Deletion}
use Rattle.lsm_model.specs.Files.{File, all_entries}
use Rattle.lsm_model.specs.Jobs.{is_input}
use Rattle.lsm_model.specs.Law.{Law}
use Rattle.lsm_model.specs.Plain.{IsReadable, Live, Plain, Spends, is_among}
use Rattle.lsm_model.specs.Plain as machine
use Rattle.lsm_model.specs.Runs.{Agrees, Gather}
use Rattle.lsm_version.specs.Changes.{added_files}
use Rattle.lsm_version.specs.Versions.{IsSound, IsWhole, Levels, file_of, files, files_of, level_in}
use Rattle.lsm_version.proofs.CallerLemmas.{file_in, files_has, has_files, level_of_files, of_level}
use Rattle.lsm_picker.specs.Gathering.{newest}
use Rattle.lsm_picker.specs.Gathering as picker
use Rattle.lsm_picker.specs.Reservations.{Reserved, has_input, is_taken, reserved_of}
use Rattle.lsm_merge.specs.Work.{job_of}
use Rattle.lsm_live.specs.Booked.{Booked, lives_of}
use Rattle.lsm_live.specs.Reserving.{reserved_jobs}
use Rattle.lsm_live.proofs.CallerLemmas.{live_says, reserved_has}
use Rattle.lsm_slots.specs.Slots.{Slotted}
use Rattle.lsm_journal.specs.HeldManifest.{is_at_limit}
use Rattle.lsm_journal.specs.Difference.{Difference, Suits, changed_by, deleted_numbers}
use Rattle.lsm_state.specs.Asked.{ChangeRefused, OnShelf}
use Rattle.lsm_state.specs.Changing.{ChangesVersion, HasSlot, IsChangeRefusal, Sought, plain_after}
use Rattle.lsm_state.specs.Gathering.{GatherRefused, Gathers, HasNoneToGather, IsGatherChange, IsGatherRefusal, IsGathered, IsGatheredIn, IsGathering, IsRefusedIn, IsToGather, IsUngathered, MayGather, gathered}
use Rattle.lsm_state.specs.Held.{HasInputs, Held, IsLawfulState, plain}
use Rattle.lsm_state.specs.Ingesting.{HasNumbers, with_number, with_slots}
use Rattle.lsm_state.specs.Installing.{SameAnswers, deleted_at}
use Rattle.lsm_state.specs.Options.{sizes_of}
use Rattle.lsm_state.specs.declared.gather_fault.GatherFault.{GatherFault}
use Rattle.lsm_state.specs.declared.gather_fault.GatherFault.TheVariants as fault
use Rattle.lsm_state.specs.declared.state_fault.StateFault.{StateFault}
use Rattle.lsm_state.specs.declared.state_fault.StateFault.TheVariants.{OutOfMemory, Shelf, Read, BadLevel, EmptyBatch, KeyOrder, TooLarge, LevelZeroFull, SequencesSpent, Halted, UnknownSnapshot, Conflict, UnknownTicket, NumbersSpent, Stale, SlotsHeld, VersionsSpent, PinsSpent}
use Rattle.lsm_state.proofs.AskedLaws.{change_alike}
use Rattle.lsm_state.proofs.ChangeLaws.{change_spends, looked_plain, next_rises}
use Rattle.lsm_state.proofs.IngestLaws.{FitsTables, level_has, one_apart}
use Rattle.lsm_state.proofs.Inputs.{TablesChange, inputs_stay}
use Rattle.lsm_state.proofs.InstallLaws.{FilesChange, all_from, at_gone, changed_plain, gone_at, input_file, moved_has}
use Rattle.lsm_state.proofs.Numbers.{has_map, map_has}
use Rattle.lsm_state.proofs.StateLaws.{agreed, stepped}

-- ---- what is gathered

-- a gathered table stands at level 0, and has the least number or a greater one
pub newest_says : (n : ℕ) (ts : List Table) (t : Table) → Has (newest n ts) t → Has ts t × (n ≤ t.number)
newest_says n ts t k = (let r = filter_has (λ (u : Table). nat_le n u.number) ts t k in (r.0, leb-true n t.number r.1))

says_newest : (n : ℕ) (ts : List Table) (t : Table) → Has ts t → n ≤ t.number → Has (newest n ts) t
says_newest n ts t k le = has_filter (λ (u : Table). nat_le n u.number) ts t k (test (nat_le n t.number) refl)
  where
    test : (b : Bool) → nat_le n t.number ≡ b → nat_le n t.number ≡ true
    test true e = e
    test false e = (let lt = leb-false n t.number e in absurd (omega arith))

pub two_at_least : (h : Held) (least : ℕ) → IsToGather h least → 0 < length (gathered h least)
two_at_least h least r = (let two = subst (λ (n : ℕ). 2 ≤ length (newest n (level_in h.slots.version.tables 0))) r.its r.can.two in omega arith)

pub whole_newest : (n : ℕ) (v : Levels) (t : Table) → IsSound v → Has (newest n (level_in v.tables 0)) t → IsWhole t
whole_newest n v t sound k = sound.tables 0 t (newest_says n (level_in v.tables 0) t k).0

pub number_left : (h : Held) → HasNumbers h → h.next + 1 < 2 ^ 64
number_left h n = go (is_at_limit h.journal) n
  where
    go : (b : Bool) → h.next + (if b then 2 else 1) < 2 ^ 64 → h.next + 1 < 2 ^ 64
    go true k = omega arith
    go false k = k

pub numbers_left : (h x : Held) → HasNumbers h → x ≡ record h { next = suc h.next } → is_at_limit x.journal ≡ true → x.next + 1 < 2 ^ 64
numbers_left h x n same limit = go (is_at_limit h.journal) refl n
  where
    at : is_at_limit h.journal ≡ true
    at = ap (λ (z : Held). is_at_limit z.journal) (sym same) ∙ limit

    next : x.next ≡ suc h.next
    next = ap (λ (z : Held). z.next) same

    go : (b : Bool) → is_at_limit h.journal ≡ b → h.next + (if b then 2 else 1) < 2 ^ 64 → x.next + 1 < 2 ^ 64
    go true e k = (let more = next in omega (arith, more, k))
    go false e k = absurd (cc (at, e))

-- no live job has a gathered table as an input
free_of : (h : Held) (least : ℕ) (t : Table) (b : Booked) (F : File) → IsToGather h least → Has (gathered h least) t → Has h.live b → Has (job_of b.work).inputs F → F.number ≡ t.number → ⊥
free_of h least t b F r k live input same =
    let own = newest_says least (level_in h.slots.version.tables 0) t k in
    let le : r.oldest.number ≤ t.number = (let a = r.its in let c = own.1 in omega arith) in
    let may = r.can.all t own.0 le in
    let clear = (and_parts (picker.is_small h.options.target_size t) (not (is_taken (reserved_jobs h.live) t)) may).1 in
    let job : Reserved = reserved_of (job_of b.work) in
    let has : has_input job t.number ≡ true = any_at (λ (n : ℕ). n == t.number) job.inputs F.number (has_map (λ (G : File). G.number) (job_of b.work).inputs F input) (eq-eqb F.number t.number same) in
    let taken : is_taken (reserved_jobs h.live) t ≡ true = any_at (λ (x : Reserved). has_input x t.number) (reserved_jobs h.live) job (reserved_has h.live b live) has in
    absurd (cc (clear, taken))

-- ---- deleted numbers

pub deleted_zero : (gone : List Table) (none all : List Deletion) → none ≡ [] → all ≡ none ++ deleted_at 0 gone → All FitsDeleted all
deleted_zero gone none all empty is = all_from FitsDeleted all (λ x k.
    (let r = gone_at 0 gone x (subst (λ (ds : List Deletion). Has ds x) (is ∙ ap (λ (ds : List Deletion). ds ++ deleted_at 0 gone) empty) k) in let same = r.2 in omega arith))

gone_number : (gone : List Table) (t : Table) (last : ℕ) (c : Difference) → IsGatherChange gone t last c → (n : ℕ) → Has (deleted_numbers c) n → (u : Table) × Has gone u × (u.number ≡ n)
gone_number gone t last c i n k =
    let x = map_has (λ (y : Deletion). y.number) c.deleted n k in
    let back : Has (deleted_at 0 gone) x.0 = moved_has c.deleted (deleted_at 0 gone) x.0 (IsPermutation-sym (deleted_at 0 gone) c.deleted i.deleted) x.1 in
    let r = gone_at 0 gone x.0 back in
    (r.0, r.1, r.3 ∙ x.2)

number_gone : (gone : List Table) (t : Table) (last : ℕ) (c : Difference) → IsGatherChange gone t last c → (u : Table) → Has gone u → Has (deleted_numbers c) u.number
number_gone gone t last c i u k =
    let r = at_gone 0 gone u k in
    subst (λ (n : ℕ). Has (deleted_numbers c) n) r.2 (has_map (λ (y : Deletion). y.number) c.deleted r.0 (moved_has (deleted_at 0 gone) c.deleted r.0 i.deleted r.1))

not_among : (gone : List Table) (t : Table) (last : ℕ) (c : Difference) → IsGatherChange gone t last c → (F : File) → (Has (deleted_numbers c) F.number → ⊥) → is_among (files_of 0 gone) F ≡ false
not_among gone t last c i F none = elim (cases_Bool (is_among (files_of 0 gone) F)) [
  | inl is ↦ (
      let g = any_says (λ (G : File). G.number == F.number) (files_of 0 gone) is in
      let u = files_has 0 gone g.0 g.1 in
      let same : u.0.number ≡ F.number = ap (λ (G : File). G.number) u.2 ∙ eqb-true g.0.number F.number g.2 in
      absurd (none (subst (λ (n : ℕ). Has (deleted_numbers c) n) same (number_gone gone t last c i u.0 u.1))))
  | inr other ↦ other
]

no_number : (gone : List Table) (t : Table) (last : ℕ) (c : Difference) → IsGatherChange gone t last c → (F : File) → is_among (files_of 0 gone) F ≡ false → Has (deleted_numbers c) F.number → ⊥
no_number gone t last c i F other k =
    let u = gone_number gone t last c i F.number k in
    both_ways (is_among (files_of 0 gone) F) other (any_at (λ (G : File). G.number == F.number) (files_of 0 gone) (file_of 0 u.0) (has_files 0 gone u.0 u.1) (eq-eqb u.0.number F.number u.2))

-- ---- the machine's event

-- what the machine has after the change, with this next number
abbrev pub gathered_plain : Held → Difference → ℕ → Plain
gathered_plain h c next = record (plain h) { files = files (changed_by c h.slots.version); next = next }

pub gather_event : FilesChange → FitsTables → (honest : Type 0) (h : Held) (least : ℕ) (t : Table) (c : Difference) (next : ℕ) → length h.slots.version.tables ≡ 7 → IsToGather h least
    → IsGathered honest (gathered h least) (sizes_of h.options) h.next t → IsGatherChange (gathered h least) t h.slots.version.last c → h.next < next
    → machine.Gathers honest (plain h) (gathered_plain h c next)
gather_event law fit honest h least t c next seven rule is i more = record {
  gone = files_of 0 gone;
  file = file_of 0 t;
  files = files (changed_by c v);
  next = next;
  is = refl;
  were = λ F k. (let u = files_has 0 gone F k in (
    of_level v.tables 0 F (subst (λ (G : File). Has (files_of 0 (level_in v.tables 0)) G) u.2 (has_files 0 (level_in v.tables 0) u.0 (newest_says least (level_in v.tables 0) u.0 u.1).0)),
    level_of_files 0 gone F k,
  ));
  newest = λ F G k level other g. older F G k level other g;
  unused = λ a F k g. unused a F k g;
  level = refl;
  fits = fit 0 t is.whole;
  entries = is.entries;
  drawn = (let n = is.number_is in omega arith);
  passed = (let n = is.number_is in omega arith);
  from = λ F k. elim ((says F).0 k) [
    | inl s ↦ inr (s.0, not_among gone t v.last c i F s.1)
    | inr a ↦ elim (subst (λ (ts : List (ℕ × Table)). Has (added_files ts) F) i.added a) [ inl e ↦ inl e | inr none ↦ absurd none ]
  ];
  stays = λ F k other. (says F).1 (inl (k, no_number gone t v.last c i F other));
  added = (says (file_of 0 t)).1 (inr (subst (λ (ts : List (ℕ × Table)). Has (added_files ts) (file_of 0 t)) (sym i.added) (inl refl)));
}
  where
    v : Levels
    v = h.slots.version

    gone : List Table
    gone = gathered h least

    six : All (λ (a : ℕ × Table). a.0 ≤ 6) c.added
    six = subst (λ (coming : List (ℕ × Table)). All (λ (a : ℕ × Table). a.0 ≤ 6) coming) (sym i.added) (All-from_recursion (λ (a : ℕ × Table). a.0 ≤ 6) ((0, t) ∷ []) (omega arith, tt))

    says : (F : File) → (Has (files (changed_by c v)) F ↔ ((Has (files v) F × (Has (deleted_numbers c) F.number → ⊥)) ⊎ Has (added_files c.added) F))
    says F = law (deleted_numbers c) c.added c.pointer c.last v F seven six

    older : (F G : File) → Has (files v) F → F.level ≡ 0 → is_among (files_of 0 gone) F ≡ false → Has (files_of 0 gone) G → F.number < G.number
    older F G k level other g =
        let f = file_in 0 v.tables F k in
        let u = files_has 0 gone G g in
        let number : f.1.number ≡ F.number = ap (λ (X : File). X.number) f.3 in
        let greater : u.0.number ≡ G.number = ap (λ (X : File). X.number) u.2 in
        let least_of = (newest_says least (level_in v.tables 0) u.0 u.1).1 in
        let at : f.0 ≡ 0 = (let l = ap (λ (X : File). X.level) f.3 in omega arith) in
        let here : Has (level_in v.tables 0) f.1 = subst (λ (n : ℕ). Has (level_in v.tables n) f.1) at f.2 in
        elim (cases_Bool (nat_le least f.1.number)) [
          | inl le ↦ (
              let among : is_among (files_of 0 gone) F ≡ true =
              any_at (λ (X : File). X.number == F.number) (files_of 0 gone) (file_of 0 f.1) (has_files 0 gone f.1 (says_newest least (level_in v.tables 0) f.1 here (leb-true least f.1.number le))) (eq-eqb f.1.number F.number number) in
              absurd (cc (among, other)))
          | inr lt ↦ (let less = leb-false least f.1.number lt in omega arith)
        ]

    unused : (a : Live) (F : File) → Has (lives_of h.live) a → Has (files_of 0 gone) F → is_input a.job F ≡ false
    unused a F k g =
        let b = live_says h.live a k in
        let u = files_has 0 gone F g in
        elim (cases_Bool (is_input a.job F)) [
          | inl is ↦ (
              let x = any_says (λ (G : File). G.number == F.number) a.job.inputs is in
              let input : Has (job_of b.0.work).inputs x.0 = subst (λ (l : Live). Has l.job.inputs x.0) (sym b.2) x.1 in
              absurd (free_of h least u.0 b.0 x.0 rule u.1 b.1 input (eqb-true x.0.number F.number x.2 ∙ sym (ap (λ (X : File). X.number) u.2))))
          | inr other ↦ other
        ]

-- the state whose number is spent, after the change
after_is : (h x : Held) (c : Difference) → x ≡ record h { next = suc h.next } → c.last ≡ h.slots.version.last → plain_after x c None ≡ gathered_plain h c (suc h.next)
after_is h x c same last =
    ap (λ (z : Held). plain_after z c None) same
    ∙ ap (λ (n : ℕ). let p : Plain = record (plain h) { files = files (changed_by c h.slots.version); last = n; next = suc h.next } in p) last

pub law_gathered : FilesChange → FitsTables → (honest : Type 0) (h x : Held) (least : ℕ) (t : Table) (c : Difference) → length h.slots.version.tables ≡ 7 → IsToGather h least
    → IsGathered honest (gathered h least) (sizes_of h.options) h.next t → IsGatherChange (gathered h least) t h.slots.version.last c → Law honest (plain h) → x ≡ record h { next = suc h.next }
    → Law honest (plain_after x c None)
law_gathered law fit honest h x least t c seven rule is i l same =
    subst (Law honest) (sym (after_is h x c same i.last_is))
    (stepped honest (plain h) Gather (gathered_plain h c (suc h.next)) l (gather_event law fit honest h least t c (suc h.next) seven rule is i (omega arith)))

pub agrees_gathered : FilesChange → FitsTables → (honest : Type 0) (board : TableId) (h x : Held) (least : ℕ) (t : Table) (c : Difference) (coming : List Entry) → length h.slots.version.tables ≡ 7 → IsToGather h least
    → IsGathered honest (gathered h least) (sizes_of h.options) h.next t → IsGatherChange (gathered h least) t h.slots.version.last c → IsLawfulState honest board h → x ≡ record h { next = suc h.next }
    → coming ≡ [] → honest → Agrees (plain_after x c None) (coming ++ x.history)
agrees_gathered law fit honest board h x least t c coming seven rule is i l same none y =
    let all : coming ++ x.history ≡ h.history = ap (λ (es : List Entry). es ++ x.history) none ∙ ap (λ (z : Held). z.history) same in
    subst (λ (p : Plain). Agrees p (coming ++ x.history)) (sym (after_is h x c same i.last_is))
    (subst (λ (es : List Entry). Agrees (gathered_plain h c (suc h.next)) es) (sym all)
    (agreed honest (plain h) Gather (gathered_plain h c (suc h.next)) h.history l.law (gather_event law fit honest h least t c (suc h.next) seven rule is i (omega arith)) l.agrees y))

-- ---- what the change asks for

pub suits_gathered : (honest : Type 0) (h x : Held) (least : ℕ) (t : Table) (c : Difference) → IsGathered honest (gathered h least) (sizes_of h.options) h.next t
    → IsGatherChange (gathered h least) t h.slots.version.last c → Law honest (plain h) → x ≡ record h { next = suc h.next } → Suits c x.slots.version
suits_gathered honest h x least t c is i l same =
    subst (Suits c) (sym (ap (λ (z : Held). z.slots.version) same)) record {
      there = λ y k. (
          let back : Has (deleted_at 0 (gathered h least)) y = moved_has c.deleted (deleted_at 0 (gathered h least)) y (IsPermutation-sym (deleted_at 0 (gathered h least)) c.deleted i.deleted) k in
          let r = gone_at 0 (gathered h least) y back in
          (r.0, subst (λ (n : ℕ). Has (level_in h.slots.version.tables n) r.0) (sym r.2) (newest_says least (level_in h.slots.version.tables 0) r.0 r.1).0, r.3));
      apart = subst (λ (ts : List (ℕ × Table)). Rattle.lsm_version.specs.FileNumbers.AreDistinct (map (λ (a : ℕ × Table). a.1.number) ts)) (sym i.added) (one_apart t.number);
      fresh = λ n m u w hu hw stays e. elim (subst (λ (ts : List (ℕ × Table)). Has ts (n, u)) i.added hu) [
        | inl eq ↦ (
            let f = level_has h.slots.version.tables 0 m w hw in
            let lt = l.books.below_next f.0 f.1 in
            let number = ap (λ (a : ℕ × Table). a.1.number) eq in
            let mine = is.number_is in
            let its = f.2 in
            absurd (omega arith))
        | inr none ↦ absurd none
      ];
    }

pub whole_gathered : (honest : Type 0) (gone : List Table) (sizes : TableOptions) (number last : ℕ) (t : Table) (c : Difference) → IsGathered honest gone sizes number t → IsGatherChange gone t last c
    → honest → (n : ℕ) (u : Table) → Has c.added (n, u) → IsWhole u
whole_gathered honest gone sizes number last t c is i y n u k = elim (subst (λ (ts : List (ℕ × Table)). Has ts (n, u)) i.added k) [
  | inl eq ↦ subst IsWhole (ap (λ (a : ℕ × Table). a.1) eq) is.whole
  | inr none ↦ absurd none
]

pub inputs_gathered : TablesChange → (honest : Type 0) (board : TableId) (h x : Held) (least : ℕ) (t : Table) (c : Difference) → IsToGather h least
    → IsGatherChange (gathered h least) t h.slots.version.last c → IsLawfulState honest board h → x ≡ record h { next = suc h.next } → (b : Booked) → Has x.live b
    → HasInputs (changed_by c x.slots.version) b.work
inputs_gathered law honest board h x least t c rule i l same b k =
    let live : Has h.live b = subst (λ (z : Held). Has z.live b) same k in
    subst (λ (z : Held). HasInputs (changed_by c z.slots.version) b.work) (sym same)
    (inputs_stay law c h.slots.version b.work (l.inputs b live) (λ u a gone.
    (let w = gone_number (gathered h least) t h.slots.version.last c i u.number gone in
    let F = input_file b.work u a in
    free_of h least w.0 b F.0 rule w.1 live F.1 (F.2 ∙ sym w.2))))

-- ---- what the change leaves

pub event_gathered : FilesChange → FitsTables → (honest : Type 0) (h x y : Held) (least : ℕ) (t : Table) (c : Difference) (coming : List Entry) (was is : Told) → length h.slots.version.tables ≡ 7 → IsToGather h least
    → IsGathered honest (gathered h least) (sizes_of h.options) h.next t → IsGatherChange (gathered h least) t h.slots.version.last c → x ≡ record h { next = suc h.next }
    → ChangesVersion x y c None coming was is → IsGathering honest h y
event_gathered law fit honest h x y least t c coming was is seven rule g i same k =
    let rises = next_rises c (changed_by c x.slots.version) x.next y.next x.journal y.journal was is k.sends in
    let next : x.next ≡ suc h.next = ap (λ (z : Held). z.next) same in
    let more : h.next < y.next = omega arith in
    let at : plain y ≡ gathered_plain h c y.next =
    changed_plain x y c None coming was is k ∙ ap (λ (p : Plain). let q : Plain = record p { next = y.next } in q) (after_is h x c same i.last_is) in
    subst (λ (p : Plain). machine.Gathers honest (plain h) p) (sym at) (gather_event law fit honest h least t c y.next seven rule g i more)

pub answers_gathered : (honest : Type 0) (h y : Held) → ((k : UserKey) (q : ℕ) → answer (all_entries (plain y).files) k q ≡ answer (all_entries (plain h).files) k q) → SameAnswers h y
answers_gathered honest h y same k q r = same k q

-- ---- looks came before

pub may_looked : (h m : Held) (least : ℕ) → m ≡ with_slots h m.slots → m.slots.version ≡ h.slots.version → MayGather h least → MayGather m least
may_looked h m least looked version may =
    subst (λ (z : Held). MayGather z least) (sym looked) record {
      going = may.going;
      rule = subst (λ (v : Levels). picker.IsToGather v (reserved_jobs h.live) h.options.target_size least) (sym version) may.rule;
      numbers = may.numbers;
    }

-- the gathered tables are the same ones
same_gathered : (h m : Held) (least : ℕ) → m.slots.version ≡ h.slots.version → gathered m least ≡ gathered h least
same_gathered h m least version = ap (λ (v : Levels). newest least (level_in v.tables 0)) version

is_gathered_looked : (honest : Type 0) (h m : Held) (least : ℕ) (t : Table) → m ≡ with_slots h m.slots → m.slots.version ≡ h.slots.version
    → IsGathered honest (gathered m least) (sizes_of m.options) m.next t → IsGathered honest (gathered h least) (sizes_of h.options) h.next t
is_gathered_looked honest h m least t looked version is =
    subst (λ (ts : List Table). IsGathered honest ts (sizes_of h.options) h.next t) (same_gathered h m least version)
    (subst (λ (z : Held). IsGathered honest (gathered m least) (sizes_of z.options) z.next t) looked is)

change_looked : (h m : Held) (least : ℕ) (t : Table) (c : Difference) → m.slots.version ≡ h.slots.version → IsGatherChange (gathered m least) t m.slots.version.last c
    → IsGatherChange (gathered h least) t h.slots.version.last c
change_looked h m least t c version i =
    subst (λ (v : Levels). IsGatherChange (newest least (level_in v.tables 0)) t v.last c) version i

spent_looked : (h m : Held) → m ≡ with_slots h m.slots → record m { next = suc m.next } ≡ with_number h m.slots
spent_looked h m looked = ap (λ (z : Held). let x : Held = record z { next = suc z.next } in x) looked

pub gathers_looked : (honest : Type 0) (h m y : Held) (least number : ℕ) (was is : Told) → number ≡ h.next → MayGather h least → m ≡ with_slots h m.slots → Sought h.slots m.slots
    → IsGatheredIn honest m y least was is → Gathers honest h y number was is
gathers_looked honest h m y least number was is number_is may looked sought g = record {
  number_is = number_is;
  going_on = may.going;
  numbers = may.numbers;
  least = least;
  rule = may.rule;
  slots = m.slots;
  sought = sought;
  table = g.0;
  is_table = is_gathered_looked honest h m least g.0 looked sought.looked.version g.3;
  mid = g.1;
  put = subst (λ (n : ℕ). Becomes (putting n g.0.image was) g.1) (ap (λ (z : Held). z.next) looked) g.4;
  change = g.2;
  its = change_looked h m least g.0 g.2 sought.looked.version g.5;
  changes = subst (λ (z : Held). ChangesVersion z y g.2 None [] g.1 is) (spent_looked h m looked) g.6;
  counts = g.7;
}

pub gathering_looked : (honest : Type 0) (h m y : Held) → m ≡ with_slots h m.slots → Sought h.slots m.slots → IsGathering honest m y → IsGathering honest h y
gathering_looked honest h m y looked sought e = subst (λ (p : Plain). machine.Gathers honest p (plain y)) (ap plain looked ∙ looked_plain h m.slots sought.looked) e

pub spends_looked : (h m y : Held) → m ≡ with_slots h m.slots → Sought h.slots m.slots → Spends (plain m) (plain y) → Spends (plain h) (plain y)
spends_looked h m y looked sought s = subst (λ (p : Plain). Spends p (plain y)) (ap plain looked ∙ looked_plain h m.slots sought.looked) s

-- ---- refusals

-- a refusal of the state that is not the shelf's
pub state_asked : (Refused : Asked → ShelfFault → Type 0) (h : Held) (e : StateFault) (P : StateFault → Type 0) → ((f : ShelfFault) → P (Shelf f) → GatherRefused Refused h (fault.State (Shelf f))) → P e → GatherRefused Refused h (fault.State e)
state_asked Refused h OutOfMemory P f p = tt
state_asked Refused h (Shelf x) P f p = f x p
state_asked Refused h (Read x) P f p = tt
state_asked Refused h (BadLevel n) P f p = tt
state_asked Refused h EmptyBatch P f p = tt
state_asked Refused h (KeyOrder n) P f p = tt
state_asked Refused h TooLarge P f p = tt
state_asked Refused h LevelZeroFull P f p = tt
state_asked Refused h SequencesSpent P f p = tt
state_asked Refused h Halted P f p = tt
state_asked Refused h (UnknownSnapshot n) P f p = tt
state_asked Refused h (Conflict n) P f p = tt
state_asked Refused h (UnknownTicket n) P f p = tt
state_asked Refused h NumbersSpent P f p = tt
state_asked Refused h Stale P f p = tt
state_asked Refused h SlotsHeld P f p = tt
state_asked Refused h VersionsSpent P f p = tt
state_asked Refused h PinsSpent P f p = tt

pub spent_once : (h x : Held) → x ≡ record h { next = suc h.next } → Spends (plain h) (plain x)
spent_once h x same = (suc h.next, omega arith, ap plain same)

pub spent_more : (h x y : Held) (e : StateFault) (was is : Told) → x ≡ record h { next = suc h.next } → IsChangeRefusal x y e was is → Spends (plain h) (plain y)
spent_more h x y e was is same r =
    let change = change_spends x y e was is r in
    let here : x.next ≡ suc h.next = ap (λ (z : Held). z.next) same in
    let more : x.next ≤ change.0 = change.1 in
    (change.0, omega arith, change.2 ∙ ap (λ (p : Plain). let t : Plain = record p { next = change.0 } in t) (ap plain same))

pub spent_as : (h x y : Held) → x ≡ record h { next = suc h.next } → y.slots ≡ x.slots → x ≡ with_number h y.slots
spent_as h x y same slots = same ∙ ap (λ (s : Slotted). with_number h s) (sym (slots ∙ ap (λ (z : Held). z.slots) same))

pub asked_change : (Refused : Asked → ShelfFault → Type 0) (h x : Held) (least : ℕ) (t : Table) (c : Difference) (e : StateFault) → IsGatherChange (gathered h least) t h.slots.version.last c → x ≡ record h { next = suc h.next }
    → OnShelf (ChangeRefused Refused x c) e → GatherRefused Refused h (fault.State e)
asked_change Refused h x least t c e i same k =
    state_asked Refused h e (OnShelf (ChangeRefused Refused x c)) (λ f q. want_more (ChangeRefused Refused x c)
    (λ (g : ShelfFault). (n : ℕ) × (u : Table) × (d : Difference) × IsGatherChange (gathered h n) u h.slots.version.last d × ChangeRefused Refused (record h { next = suc h.next }) d g)
    (λ g r. (least, t, c, i, subst (λ (z : Held). ChangeRefused Refused z c g) same r)) f q) k

pub refused_looked : (honest : Type 0) (h m y : Held) (least : ℕ) (e : GatherFault) (was is : Told) → MayGather h least → m ≡ with_slots h m.slots → Sought h.slots m.slots → HasSlot m.slots → y.slots ≡ m.slots
    → IsRefusedIn honest m y least e was is → IsGatherRefusal honest h y e was is
refused_looked honest h m y least e was is may looked sought room slots r =
    inr (least, may, inr (subst (λ (s : Slotted). Sought h.slots s) (sym slots) sought, subst HasSlot (sym slots) room, go e r))
  where
    version : m.slots.version ≡ h.slots.version
    version = sought.looked.version

    spent : with_number m y.slots ≡ with_number h y.slots
    spent = ap (λ (z : Held). with_number z y.slots) looked

    go : (x : GatherFault) → IsRefusedIn honest m y least x was is → IsRefusedIn honest h y least x was is
    go (fault.State x) (inl k) = inl (k.0, k.1 ∙ ap (λ (z : Held). with_slots z y.slots) looked, k.2)
    go (fault.State x) (inr k) = inr (
      k.0,
      k.1,
      is_gathered_looked honest h m least k.0 looked version k.2,
      subst (λ (n : ℕ). Becomes (putting n k.0.image was) k.1) (ap (λ (z : Held). z.next) looked) k.3,
      subst (λ (z : Held). IsChangeRefusal z y x k.1 is) spent k.4,
      k.5,
    )
    go (fault.Merge x) (inl k) = inl (
      k.0 ∙ spent,
      subst (λ (ts : List Table). IsUngathered honest ts (sizes_of h.options) h.next x was is) (same_gathered h m least version)
          (subst (λ (z : Held). IsUngathered honest (gathered m least) (sizes_of z.options) z.next x was is) looked k.1),
    )
    go (fault.Merge x) (inr k) = absurd k

-- which call the shelf refused
pub asked_looked : (Refused : Asked → ShelfFault → Type 0) (h m : Held) (e : GatherFault) → m ≡ with_slots h m.slots → m.slots.version ≡ h.slots.version → GatherRefused Refused m e → GatherRefused Refused h e
asked_looked Refused h m (fault.State (Shelf f)) looked version k =
    want_more
    (λ (g : ShelfFault). (least : ℕ) × (t : Table) × (c : Difference) × IsGatherChange (gathered m least) t m.slots.version.last c × ChangeRefused Refused (record m { next = suc m.next }) c g)
    (λ (g : ShelfFault). (least : ℕ) × (t : Table) × (c : Difference) × IsGatherChange (gathered h least) t h.slots.version.last c × ChangeRefused Refused (record h { next = suc h.next }) c g)
    (λ g r. (
      r.0,
      r.1,
      r.2,
      change_looked h m r.0 r.1 r.2 version r.3,
      change_alike Refused h (record m { next = suc m.next }) (suc h.next) r.2 r.2 g version (ap (λ (z : Held). suc z.next) looked) (ap (λ (z : Held). z.journal) looked) refl r.4,
    )) f k
asked_looked Refused h m (fault.State OutOfMemory) looked version k = tt
asked_looked Refused h m (fault.State (Read f)) looked version k = tt
asked_looked Refused h m (fault.State (BadLevel n)) looked version k = tt
asked_looked Refused h m (fault.State EmptyBatch) looked version k = tt
asked_looked Refused h m (fault.State (KeyOrder n)) looked version k = tt
asked_looked Refused h m (fault.State TooLarge) looked version k = tt
asked_looked Refused h m (fault.State LevelZeroFull) looked version k = tt
asked_looked Refused h m (fault.State SequencesSpent) looked version k = tt
asked_looked Refused h m (fault.State Halted) looked version k = tt
asked_looked Refused h m (fault.State (UnknownSnapshot n)) looked version k = tt
asked_looked Refused h m (fault.State (Conflict n)) looked version k = tt
asked_looked Refused h m (fault.State (UnknownTicket n)) looked version k = tt
asked_looked Refused h m (fault.State NumbersSpent) looked version k = tt
asked_looked Refused h m (fault.State Stale) looked version k = tt
asked_looked Refused h m (fault.State SlotsHeld) looked version k = tt
asked_looked Refused h m (fault.State VersionsSpent) looked version k = tt
asked_looked Refused h m (fault.State PinsSpent) looked version k = tt
asked_looked Refused h m (fault.Merge x) looked version k = subst (λ (z : Held). Rattle.lsm_merge.specs.Causes.NamesRefused Refused (sizes_of z.options) x) looked k

pub fault_is : {A : Type 0} (P : GatherFault → Type 0) (r : Result A GatherFault) (f : GatherFault) → Rattle.std.specs.Result.IsErrAnd r (λ e. e ≡ f) → P f → IfErr r P
fault_is P (Ok x) f h k = tt
fault_is P (Err e) f h k = subst P (sym h) k

-- no refused change moves a slot
pub change_slots : (x y : Held) (e : StateFault) (was is : Told) → IsChangeRefusal x y e was is → y.slots ≡ x.slots
change_slots x y e was is p = Rattle.lsm_state.proofs.IngestLaws.slots_stay x y e was is p

-- where files may be gathered by the rule, there are some to be gathered
pub may_not_none : (h : Held) (n : ℕ) → MayGather h n → HasNoneToGather h → ⊥
may_not_none h n may none = none may.rule.crowded may.rule.oldest may.rule.here may.rule.can
