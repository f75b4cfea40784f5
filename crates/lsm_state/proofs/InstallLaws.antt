-- What an install leaves of the law of a state, and what its change of the version is to the plain machine.
use Rattle.std.proofs.Common.{◌≡◌, ℕ, zero, suc, ◌+◌, ◌<◌, ◌≤◌, Bool, true, false, cond, not, ◌==◌, Option, Some, List, [], ◌∷◌, ◌++◌, length, map, refl, sym, ◌∙◌, ap, subst, inl, inr, arith, ◌⊎◌, ◌↔◌, All}
use Rattle.std.specs.Prelude.{MatchBool}
use Rattle.std.specs.List.Sorted.{IsPermutation}
use Rattle.std.proofs.lemmas.Bool.{cases_Bool, both_ways, eqb-true, eq-eqb}
use Rattle.std.proofs.lemmas.List.Elements.{All-nil, All-cons}
use Rattle.std.proofs.lemmas.List.Sorted.{Contains-permutation, IsPermutation-sym}
use Rattle.std.proofs.lemmas.List.Sums.{sum_by-cons}
use Rattle.atomic_table.specs.Seated.{TableId}
use Rattle.lsm_codec.specs.Entries.{Entry, answer}
use Rattle.lsm_codec.specs.Keys.{UserKey}
use Rattle.lsm_codec.specs.Lists.{Has}
use Rattle.lsm_codec.proofs.CallerLemmas.{any_at, any_says, contains_from, contains_says, has_cases, has_left, has_right}
use Rattle.lsm_shelf.specs.Told.{Told}
use Rattle.lsm_table.specs.Registry.{Table}
use Rattle.lsm_model.specs.Files.{File, all_entries}
use Rattle.lsm_model.specs.Jobs.{Changed, Shares, is_input}
use Rattle.lsm_manifest.specs.EditFit.{FitsDeleted, FitsKey}
use Rattle.lsm_manifest.specs.Replay.{Deletion}
use Rattle.lsm_model.specs.Law.{Law}
use Rattle.lsm_model.specs.Plain.{Installs, IsReadable, Live, Plain, Spends, without_job}
use Rattle.lsm_model.specs.Runs.{Agrees, Install, Run, Spend}
use Rattle.lsm_model.proofs.CallerLemmas.{install_same, left_job}
use Rattle.lsm_version.specs.Changes.{added_files, changed}
use Rattle.lsm_version.specs.FileNumbers.{AreDistinct, times}
use Rattle.lsm_version.specs.Versions.{IsWhole, Levels, file_of, files, files_of, level_in}
use Rattle.lsm_merge.specs.Work.{Done, IsFinished, IsMade, Work, job_of}
use Rattle.lsm_live.specs.Booked.{AreIncreasing, Booked, live_of, lives_of, without}
use Rattle.lsm_live.specs.Results.{IsLiveResult, outs_of}
use Rattle.lsm_live.proofs.CallerLemmas.{live_has, lives_without, result_booked, result_is, result_ticket}
use Rattle.lsm_journal.specs.Difference.{Difference, FitsComing, Suits, changed_by, deleted_numbers}
use Rattle.lsm_journal.specs.HeldManifest.{is_at_limit}
use Rattle.lsm_journal.specs.Sending.{Grows, RollsOver}
use Rattle.lsm_journal.specs.Writing.{change_edit}
use Rattle.lsm_journal.proofs.CallerLemmas.{recorded_fit}
use Rattle.lsm_slots.specs.Slots.{Looked, Slotted}
use Rattle.lsm_state.specs.Held.{HasInputs, Held, IsLawfulState, plain}
use Rattle.lsm_state.specs.Changing.{ChangesVersion, HasSlot, IsChangeRefusal, IsSlotRefusal, Sought, live_after, plain_after}
use Rattle.lsm_state.specs.Installing.{IsInstallChange, IsInstalling, IsPutIn, IsRefusedLater, Installed, SameAnswers, added_at, deleted_at, inputs_gone}
use Rattle.lsm_state.specs.declared.state_fault.StateFault.{StateFault}
use Rattle.lsm_state.specs.declared.state_fault.StateFault.TheVariants.{OutOfMemory, Shelf, Read, BadLevel, EmptyBatch, KeyOrder, TooLarge, LevelZeroFull, SequencesSpent, Halted, UnknownSnapshot, Conflict, UnknownTicket, NumbersSpent, Stale, SlotsHeld, VersionsSpent, PinsSpent}
use Rattle.lsm_state.proofs.Inputs.{TablesChange, inputs_stay}
use Rattle.lsm_state.proofs.ChangeLaws.{change_spends, looked_plain}
use Rattle.lsm_state.proofs.Numbers.{has_map, map_has}
use Rattle.lsm_state.proofs.StateLaws.{agreed, stepped}

-- which files a changed version has (a law of versions)
abbrev pub FilesChange : Type 0
FilesChange = (deleted : List ℕ) (added : List (ℕ × Table)) (pointer : Option (ℕ × List ℕ)) (last : ℕ) (v : Levels) (F : File) → length v.tables ≡ 7 → All (λ a. a.0 ≤ 6) added
    → (Has (files (changed deleted added pointer last v)) F ↔ ((Has (files v) F × (Has deleted F.number → ⊥)) ⊎ Has (added_files added) F))

-- ---- lists

pub moved_has : {X : Type 0} (xs ys : List X) (x : X) → IsPermutation xs ys → Has xs x → Has ys x
moved_has xs ys x p h = contains_says ys x (Contains-permutation xs ys x p (contains_from xs x h))

pub all_from : {X : Type 0} (P : X → Type 0) (xs : List X) → ((x : X) → Has xs x → P x) → All P xs
all_from P [] each = All-nil P
all_from P (x ∷ xs) each = All-cons P x xs (each x (inl refl)) (all_from P xs (λ y h. each y (inr h)))

pub gone_at : (level : ℕ) (ts : List Table) (x : Deletion) → Has (deleted_at level ts) x → (t : Table) × Has ts t × (x.level ≡ level) × (t.number ≡ x.number)
gone_at level [] x h = absurd h
gone_at level (t ∷ ts) x (inl e) = (t, inl refl, ap (λ (y : Deletion). y.level) (sym e), ap (λ (y : Deletion). y.number) e)
gone_at level (t ∷ ts) x (inr h) = (let r = gone_at level ts x h in (r.0, inr r.1, r.2, r.3))

pub at_gone : (level : ℕ) (ts : List Table) (t : Table) → Has ts t → (x : Deletion) × Has (deleted_at level ts) x × (x.number ≡ t.number)
at_gone level [] t h = absurd h
at_gone level (u ∷ ts) t (inl e) = (record { level = level; number = u.number }, inl refl, ap (λ (y : Table). y.number) e)
at_gone level (u ∷ ts) t (inr h) = (let r = at_gone level ts t h in (r.0, inr r.1, r.2))

pub file_table : (level : ℕ) (ts : List Table) (F : File) → Has (files_of level ts) F → (t : Table) × Has ts t × (file_of level t ≡ F)
file_table level [] F h = absurd h
file_table level (t ∷ ts) F (inl e) = (t, inl refl, e)
file_table level (t ∷ ts) F (inr h) = (let r = file_table level ts F h in (r.0, inr r.1, r.2))

table_file : (level : ℕ) (ts : List Table) (t : Table) → Has ts t → Has (files_of level ts) (file_of level t)
table_file level [] t h = absurd h
table_file level (u ∷ ts) t (inl e) = inl (ap (file_of level) e)
table_file level (u ∷ ts) t (inr h) = inr (table_file level ts t h)

placed_says : (level : ℕ) (ts : List Table) (n : ℕ) (t : Table) → Has (added_at level ts) (n, t) → (n ≡ level) × Has ts t
placed_says level [] n t h = absurd h
placed_says level (u ∷ ts) n t (inl e) = (ap (λ (a : ℕ × Table). a.0) (sym e), inl (ap (λ (a : ℕ × Table). a.1) e))
placed_says level (u ∷ ts) n t (inr h) = (let r = placed_says level ts n t h in (r.0, inr r.1))

placed_files : (level : ℕ) (ts : List Table) → added_files (added_at level ts) ≡ files_of level ts
placed_files level [] = refl
placed_files level (t ∷ ts) = ap (λ (Fs : List File). file_of level t ∷ Fs) (placed_files level ts)

placed_numbers : (level : ℕ) (ts : List Table) → map (λ (a : ℕ × Table). a.1.number) (added_at level ts) ≡ map (λ (t : Table). t.number) ts
placed_numbers level [] = refl
placed_numbers level (t ∷ ts) = ap (λ (ns : List ℕ). t.number ∷ ns) (placed_numbers level ts)

low_levels : (level : ℕ) (ts : List Table) → level ≤ 6 → All (λ (a : ℕ × Table). a.0 ≤ 6) (added_at level ts)
low_levels level [] six = All-nil (λ (a : ℕ × Table). a.0 ≤ 6)
low_levels level (t ∷ ts) six = All-cons (λ (a : ℕ × Table). a.0 ≤ 6) (level, t) (added_at level ts) six (low_levels level ts six)

-- ---- distinct numbers

none_above : (n : ℕ) (xs : List ℕ) → ((m : ℕ) → Has xs m → n < m) → times n xs ≡ 0
none_above n [] h = refl
none_above n (a ∷ xs) h =
    let off : (a == n) ≡ false = elim (cases_Bool (a == n)) [ inl t ↦ (let lt = h a (inl refl) in let same = eqb-true a n t in absurd (omega arith)) | inr f ↦ f ] in
    let first : times n (a ∷ xs) ≡ 0 + times n xs = sum_by-cons (λ m. cond (m == n) 1 0) a xs ∙ ap (λ (b : Bool). cond b 1 0 + times n xs) off in
    let rest : times n xs ≡ 0 = none_above n xs (λ m k. h m (inr k)) in
    omega arith

one_at_most : (n a : ℕ) (xs : List ℕ) (b : Bool) → (a == n) ≡ b → ((m : ℕ) → Has xs m → a < m) → times n xs ≤ 1 → times n (a ∷ xs) ≤ 1
one_at_most n a xs true e above rest =
    let same = eqb-true a n e in
    let zeros = none_above n xs (λ m k. (let lt = above m k in omega arith)) in
    let more : times n (a ∷ xs) ≡ 1 + times n xs = sum_by-cons (λ m. cond (m == n) 1 0) a xs ∙ ap (λ (b : Bool). cond b 1 0 + times n xs) e in
    omega arith
one_at_most n a xs false e above rest =
    let more : times n (a ∷ xs) ≡ 0 + times n xs = sum_by-cons (λ m. cond (m == n) 1 0) a xs ∙ ap (λ (b : Bool). cond b 1 0 + times n xs) e in
    omega arith

distinct_from : (xs : List ℕ) → AreIncreasing xs → AreDistinct xs
distinct_from [] up n = omega arith
distinct_from (a ∷ xs) up n = one_at_most n a xs (a == n) refl up.0 (distinct_from xs up.1 n)

-- ---- inputs, by their numbers

-- a deleted number is an input's, and each input's is deleted
deleted_says : (d : Done) (last : ℕ) (c : Difference) → IsInstallChange d last c → (n : ℕ) → Has (deleted_numbers c) n → (t : Table) × Has (d.work.upper ++ d.work.lower) t × (t.number ≡ n)
deleted_says d last c i n h =
    let x = map_has (λ (y : Deletion). y.number) c.deleted n h in
    let back : Has (inputs_gone d.work) x.0 = moved_has c.deleted (inputs_gone d.work) x.0 (IsPermutation-sym (inputs_gone d.work) c.deleted i.deleted) x.1 in
    elim (has_cases (deleted_at d.work.level d.work.upper) (deleted_at (suc d.work.level) d.work.lower) x.0 back) [
      | inl up ↦ (let r = gone_at d.work.level d.work.upper x.0 up in (r.0, has_left d.work.upper d.work.lower r.0 r.1, r.3 ∙ x.2))
      | inr down ↦ (let r = gone_at (suc d.work.level) d.work.lower x.0 down in (r.0, has_right d.work.upper d.work.lower r.0 r.1, r.3 ∙ x.2))
    ]

deleted_from : (d : Done) (last : ℕ) (c : Difference) → IsInstallChange d last c → (t : Table) → Has (d.work.upper ++ d.work.lower) t → Has (deleted_numbers c) t.number
deleted_from d last c i t h = elim (has_cases d.work.upper d.work.lower t h) [
  | inl up ↦ (let r = at_gone d.work.level d.work.upper t up in go r.0 (has_left (deleted_at d.work.level d.work.upper) (deleted_at (suc d.work.level) d.work.lower) r.0 r.1) r.2)
  | inr down ↦ (let r = at_gone (suc d.work.level) d.work.lower t down in go r.0 (has_right (deleted_at d.work.level d.work.upper) (deleted_at (suc d.work.level) d.work.lower) r.0 r.1) r.2)
]
  where
    go : (x : Deletion) → Has (inputs_gone d.work) x → x.number ≡ t.number → Has (deleted_numbers c) t.number
    go x k e = subst (λ (n : ℕ). Has (deleted_numbers c) n) e (has_map (λ (y : Deletion). y.number) c.deleted x (moved_has (inputs_gone d.work) c.deleted x i.deleted k))

-- the file of an input
pub input_file : (w : Work) (t : Table) → Has (w.upper ++ w.lower) t → (F : File) × Has (job_of w).inputs F × (F.number ≡ t.number)
input_file w t h = elim (has_cases w.upper w.lower t h) [
  | inl up ↦ (file_of w.level t, has_left (files_of w.level w.upper) (files_of (suc w.level) w.lower) (file_of w.level t) (table_file w.level w.upper t up), refl)
  | inr down ↦ (file_of (suc w.level) t, has_right (files_of w.level w.upper) (files_of (suc w.level) w.lower) (file_of (suc w.level) t) (table_file (suc w.level) w.lower t down), refl)
]

input_table : (w : Work) (F : File) → Has (job_of w).inputs F → (t : Table) × Has (w.upper ++ w.lower) t × (t.number ≡ F.number)
input_table w F h = elim (has_cases (files_of w.level w.upper) (files_of (suc w.level) w.lower) F h) [
  | inl up ↦ (let r = file_table w.level w.upper F up in (r.0, has_left w.upper w.lower r.0 r.1, ap (λ (G : File). G.number) r.2))
  | inr down ↦ (let r = file_table (suc w.level) w.lower F down in (r.0, has_right w.upper w.lower r.0 r.1, ap (λ (G : File). G.number) r.2))
]

not_input : (d : Done) (last : ℕ) (c : Difference) → IsInstallChange d last c → (F : File) → (Has (deleted_numbers c) F.number → ⊥) → is_input (job_of d.work) F ≡ false
not_input d last c i F none = elim (cases_Bool (is_input (job_of d.work) F)) [
  | inl is ↦ (
      let g = any_says (λ (G : File). G.number == F.number) (job_of d.work).inputs is in
      let t = input_table d.work g.0 g.1 in
      absurd (none (subst (λ (n : ℕ). Has (deleted_numbers c) n) (t.2 ∙ eqb-true g.0.number F.number g.2) (deleted_from d last c i t.0 t.1))))
  | inr other ↦ other
]

no_number : (d : Done) (last : ℕ) (c : Difference) → IsInstallChange d last c → (F : File) → is_input (job_of d.work) F ≡ false → Has (deleted_numbers c) F.number → ⊥
no_number d last c i F other h =
    let t = deleted_says d last c i F.number h in
    let g = input_file d.work t.0 t.1 in
    both_ways (is_input (job_of d.work) F) other (any_at (λ (G : File). G.number == F.number) (job_of d.work).inputs g.0 g.1 (eq-eqb g.0.number F.number (g.2 ∙ t.2)))

-- the change of the version is the machine's
pub install_changes : FilesChange → (v : Levels) (d : Done) (last : ℕ) (c : Difference) → length v.tables ≡ 7 → d.work.level ≤ 5 → IsInstallChange d last c
    → Changed (files v) (job_of d.work) (outs_of d) (files (changed_by c v))
install_changes law v d last c seven low i = record {
  from = λ F h. elim ((says F).0 h) [
    | inl s ↦ inr (s.0, not_input d last c i F s.1)
    | inr a ↦ inl (subst (λ (Fs : List File). Has Fs F) coming a)
  ];
  stays = λ F h other. (says F).1 (inl (h, no_number d last c i F other));
  added = λ F h. (says F).1 (inr (subst (λ (Fs : List File). Has Fs F) (sym coming) h));
}
  where
    coming : added_files c.added ≡ outs_of d
    coming = ap added_files i.added ∙ placed_files (suc d.work.level) d.outputs

    six : All (λ (a : ℕ × Table). a.0 ≤ 6) c.added
    six = subst (λ (coming : List (ℕ × Table)). All (λ (a : ℕ × Table). a.0 ≤ 6) coming) (sym i.added) (low_levels (suc d.work.level) d.outputs (omega arith))

    says : (F : File) → (Has (files (changed_by c v)) F ↔ ((Has (files v) F × (Has (deleted_numbers c) F.number → ⊥)) ⊎ Has (added_files c.added) F))
    says F = law (deleted_numbers c) c.added c.pointer c.last v F seven six

-- ---- the parts of a change

pub deleted_levels : (level : ℕ) (upper lower : List Table) (none first both : List Deletion) → level ≤ 5 → none ≡ [] → first ≡ none ++ deleted_at level upper
    → both ≡ first ++ deleted_at (level + 1) lower → All FitsDeleted both
deleted_levels level upper lower none first both low empty one two = all_from FitsDeleted both (λ x h. elim (has_cases (deleted_at level upper) (deleted_at (level + 1) lower) x (subst (λ (g : List Deletion). Has g x) parts h)) [
  | inl up ↦ (let r = gone_at level upper x up in let same = r.2 in omega arith)
  | inr down ↦ (let r = gone_at (level + 1) lower x down in let same = r.2 in omega arith)
])
  where
    parts : both ≡ deleted_at level upper ++ deleted_at (level + 1) lower
    parts = two ∙ ap (λ (g : List Deletion). g ++ deleted_at (level + 1) lower) (one ∙ ap (λ (g : List Deletion). g ++ deleted_at level upper) empty)

-- the keys of an output fit: a moved table is an input, and a table that was put is whole
output_fits : (honest : Type 0) (d : Done) → IsFinished honest d → ((t : Table) → Has d.work.upper t → FitsKey t.smallest × FitsKey t.largest)
    → (t : Table) → Has d.outputs t → (IsWhole t → FitsKey t.smallest × FitsKey t.largest) → FitsKey t.smallest × FitsKey t.largest
output_fits honest d f keys t h fit = go d.work.is_move refl f.made
  where
    go : (move : Bool) → d.work.is_move ≡ move → IsMade honest d move → FitsKey t.smallest × FitsKey t.largest
    go true is m = elim (subst (λ (ts : List Table). Has ts t) m.3 h) [
      | inl e ↦ keys t (subst (λ (ts : List Table). Has ts t) (sym m.1) (inl e))
      | inr none ↦ absurd none
    ]
    go false is m = fit (f.put_whole is t h)

pub added_levels : (honest : Type 0) (d : Done) (level : ℕ) (outputs : List Table) (added : List (ℕ × Table)) → level ≤ 5 → outputs ≡ d.outputs → IsFinished honest d
    → ((t : Table) → Has d.work.upper t → FitsKey t.smallest × FitsKey t.largest) → ((n : ℕ) (t : Table) → Has added (n, t) → IsWhole t → FitsKey t.smallest × FitsKey t.largest)
    → added ≡ added_at (level + 1) outputs → All FitsComing added
added_levels honest d level outputs added low same f keys fit is = all_from FitsComing added (λ a h.
    let p = placed_says (level + 1) outputs a.0 a.1 (subst (λ (coming : List (ℕ × Table)). Has coming (a.0, a.1)) is h) in
    let at = p.0 in
    let k = output_fits honest d f keys a.1 (subst (λ (ts : List Table). Has ts a.1) same p.1) (fit a.0 a.1 h) in
    (omega arith, k.0, k.1))

-- ---- the event

after_is : (h : Held) (d : Done) (c : Difference) → IsInstallChange d h.slots.version.last c
    → plain_after h c (Some d.work.ticket) ≡ record (plain h) { files = files (changed_by c h.slots.version); live = without_job d.work.ticket (lives_of h.live) }
after_is h d c i =
    let p : Plain = plain h in
    ap (λ (n : ℕ). let t : Plain = record p { files = files (changed_by c h.slots.version); last = n; live = lives_of (without d.work.ticket h.live) } in t) i.last_is
    ∙ ap (λ (ls : List Live). let t : Plain = record p { files = files (changed_by c h.slots.version); live = ls } in t) (lives_without d.work.ticket h.live)

pub installs : FilesChange → (honest : Type 0) (h : Held) (d : Done) (c : Difference) (b : Booked) → length h.slots.version.tables ≡ 7 → IsLiveResult h.live d b → IsFinished honest d
    → IsInstallChange d h.slots.version.last c → Installs honest (plain h) d.work.ticket (plain_after h c (Some d.work.ticket))
installs law honest h d c b seven r f i = record {
  one = live_of b;
  was_live = live_has h.live b r.is_live;
  its = result_ticket h.live d b r;
  outs = outs_of d;
  booked = result_booked honest h.live d b r f;
  result = λ y. result_is honest h.live d b r f y;
  files = files (changed_by c h.slots.version);
  is = after_is h d c i;
  changed = subst (λ (w : Work). Changed (files h.slots.version) (job_of w) (outs_of d) (files (changed_by c h.slots.version))) (sym (r.awaits).work)
      (install_changes law h.slots.version d h.slots.version.last c seven f.low i);
}

pub law_installed : FilesChange → (honest : Type 0) (board : TableId) (h : Held) (d : Done) (c : Difference) (b : Booked) → IsLawfulState honest board h → length h.slots.version.tables ≡ 7
    → IsLiveResult h.live d b → IsFinished honest d → IsInstallChange d h.slots.version.last c → Law honest (plain_after h c (Some d.work.ticket))
law_installed law honest board h d c b l seven r f i =
    stepped honest (plain h) (Install d.work.ticket) (plain_after h c (Some d.work.ticket)) l.law (installs law honest h d c b seven r f i)

-- nothing came into the history
pub agrees_installed : FilesChange → (honest : Type 0) (board : TableId) (h : Held) (d : Done) (c : Difference) (b : Booked) (coming : List Entry) → IsLawfulState honest board h → length h.slots.version.tables ≡ 7
    → IsLiveResult h.live d b → IsFinished honest d → IsInstallChange d h.slots.version.last c → coming ≡ [] → honest → Agrees (plain_after h c (Some d.work.ticket)) (coming ++ h.history)
agrees_installed law honest board h d c b coming l seven r f i none y =
    subst (λ (xs : List Entry). Agrees (plain_after h c (Some d.work.ticket)) (xs ++ h.history)) (sym none)
    (agreed honest (plain h) (Install d.work.ticket) (plain_after h c (Some d.work.ticket)) h.history l.law (installs law honest h d c b seven r f i) l.agrees y)

pub same_installed : FilesChange → (honest : Type 0) (board : TableId) (h : Held) (d : Done) (c : Difference) (b : Booked) → IsLawfulState honest board h → length h.slots.version.tables ≡ 7
    → IsLiveResult h.live d b → IsFinished honest d → IsInstallChange d h.slots.version.last c → honest → (k : UserKey) (q : ℕ) → IsReadable (plain h) q
    → answer (all_entries (files (changed_by c h.slots.version))) k q ≡ answer (all_entries (files h.slots.version)) k q
same_installed law honest board h d c b l seven r f i y k q readable =
    install_same honest (plain h) d.work.ticket (plain_after h c (Some d.work.ticket)) (l.law).books ((l.law).meaning y) y (installs law honest h d c b seven r f i) k q readable

-- ---- what the change asks for

-- the version has the result's inputs
result_inputs : (honest : Type 0) (board : TableId) (h : Held) (d : Done) (b : Booked) → IsLawfulState honest board h → IsLiveResult h.live d b → HasInputs h.slots.version d.work
result_inputs honest board h d b l r = subst (HasInputs h.slots.version) (r.awaits).work (l.inputs b r.is_live)

pub input_keys : (honest : Type 0) (board : TableId) (h : Held) (d : Done) (b : Booked) → IsLawfulState honest board h → IsLiveResult h.live d b
    → (t : Table) → Has d.work.upper t → FitsKey t.smallest × FitsKey t.largest
input_keys honest board h d b l r t k =
    (recorded_fit (l.journaled).0 h.journal h.slots.version h.next (l.journaled).1).tables d.work.level t ((result_inputs honest board h d b l r).upper t k)

rising_at : (honest : Type 0) (d : Done) → AreIncreasing d.put → (move : Bool) → IsMade honest d move → AreIncreasing (map (λ (t : Table). t.number) d.outputs)
rising_at honest d up true m = subst (λ (ts : List Table). AreIncreasing (map (λ (t : Table). t.number) ts)) (sym m.3) (λ n k. absurd k, tt)
rising_at honest d up false m = subst AreIncreasing (sym m.0) up

-- where the number of an output is from: it was drawn, or is the one input's
output_from : (honest : Type 0) (d : Done) (b : Booked) → ((n : ℕ) → Has d.put n → Has b.drawn n) → (move : Bool) → IsMade honest d move → (t : Table) → Has d.outputs t
    → Has b.drawn t.number ⊎ Has (d.work.upper ++ d.work.lower) t
output_from honest d b drew true m t h = elim (subst (λ (ts : List Table). Has ts t) m.3 h) [
  | inl e ↦ inr (has_left d.work.upper d.work.lower t (subst (λ (ts : List Table). Has ts t) (sym m.1) (inl e)))
  | inr none ↦ absurd none
]
output_from honest d b drew false m t h = inl (drew t.number (subst (λ (ns : List ℕ). Has ns t.number) m.0 (has_map (λ (u : Table). u.number) d.outputs t h)))

pub in_files : (tables : List (List Table)) (from n : ℕ) (t : Table) → Has (level_in tables n) t → (F : File) × Has (Rattle.lsm_version.specs.Versions.files_from from tables) F × (F.number ≡ t.number)
in_files [] from n t h = absurd h
in_files (ts ∷ tables) from zero t h = (file_of from t, has_left (files_of from ts) (Rattle.lsm_version.specs.Versions.files_from (suc from) tables) (file_of from t) (table_file from ts t h), refl)
in_files (ts ∷ tables) from (suc n) t h = (let r = in_files tables (suc from) n t h in (r.0, has_right (files_of from ts) (Rattle.lsm_version.specs.Versions.files_from (suc from) tables) r.0 r.1, r.2))

pub suits_installed : (honest : Type 0) (board : TableId) (h : Held) (d : Done) (c : Difference) (b : Booked) → IsLawfulState honest board h → IsLiveResult h.live d b → IsFinished honest d
    → IsInstallChange d h.slots.version.last c → Suits c h.slots.version
suits_installed honest board h d c b l r f i = record {
  there = λ x k. elim (has_cases (deleted_at d.work.level d.work.upper) (deleted_at (suc d.work.level) d.work.lower) x (back x k)) [
    | inl up ↦ (let t = gone_at d.work.level d.work.upper x up in (t.0, subst (λ (n : ℕ). Has (level_in h.slots.version.tables n) t.0) (sym t.2) (inputs.upper t.0 t.1), t.3))
    | inr down ↦ (let t = gone_at (suc d.work.level) d.work.lower x down in (t.0, subst (λ (n : ℕ). Has (level_in h.slots.version.tables n) t.0) (sym t.2) (inputs.lower t.0 t.1), t.3))
  ];
  apart = subst AreDistinct (sym (ap (map (λ (a : ℕ × Table). a.1.number)) i.added ∙ placed_numbers (suc d.work.level) d.outputs))
      (distinct_from (map (λ (t : Table). t.number) d.outputs) (rising_at honest d r.rising d.work.is_move f.made));
  fresh = λ n m t u k hu stays same. elim (output_from honest d b (r.awaits).drew d.work.is_move f.made t (placed_says (suc d.work.level) d.outputs n t (subst (λ (coming : List (ℕ × Table)). Has coming (n, t)) i.added k)).1) [
    | inl drawn ↦ (let g = in_files h.slots.version.tables 0 m u hu in ((l.law).books).drawn_fresh (live_of b) t.number g.0 (live_has h.live b r.is_live) drawn g.1 (g.2 ∙ same))
    | inr input ↦ stays (subst (λ (x : ℕ). Has (deleted_numbers c) x) (sym same) (deleted_from d h.slots.version.last c i t input))
  ];
}
  where
    inputs : HasInputs h.slots.version d.work
    inputs = result_inputs honest board h d b l r

    back : (x : Deletion) → Has c.deleted x → Has (inputs_gone d.work) x
    back x k = moved_has c.deleted (inputs_gone d.work) x (IsPermutation-sym (inputs_gone d.work) c.deleted i.deleted) k

pub whole_installed : (honest : Type 0) (d : Done) (last : ℕ) (c : Difference) → IsFinished honest d → IsInstallChange d last c → honest → (n : ℕ) (t : Table) → Has c.added (n, t) → IsWhole t
whole_installed honest d last c f i y n t k = f.whole y t (placed_says (suc d.work.level) d.outputs n t (subst (λ (coming : List (ℕ × Table)). Has coming (n, t)) i.added k)).1

-- the inputs of all other live jobs stay
pub inputs_installed : TablesChange → (honest : Type 0) (board : TableId) (h : Held) (d : Done) (c : Difference) (b : Booked) → IsLawfulState honest board h → IsLiveResult h.live d b
    → IsInstallChange d h.slots.version.last c → (other : Booked) → Has (live_after (Some d.work.ticket) h.live) other → HasInputs (changed_by c h.slots.version) other.work
inputs_installed law honest board h d c b l r i other k =
    let left = left_job d.work.ticket (lives_of h.live) (live_of other)
    (subst (λ (ls : List Live). Has ls (live_of other)) (lives_without d.work.ticket h.live) (live_has (without d.work.ticket h.live) other k)) in
    let here : Has h.live other = (Rattle.lsm_codec.proofs.CallerLemmas.filter_has (λ (x : Booked). not (x.work.ticket == d.work.ticket)) h.live other k).0 in
    inputs_stay law c h.slots.version other.work (l.inputs other here) (λ t ht gone.
    let s = deleted_says d h.slots.version.last c i t.number gone in
    let F = input_file d.work s.0 s.1 in
    let G = input_file other.work t ht in
    let share : Shares (job_of b.work) (job_of other.work) =
    (F.0, G.0, subst (λ (w : Work). Has (job_of w).inputs F.0) (sym (r.awaits).work) F.1, G.1, F.2 ∙ (s.2 ∙ sym G.2)) in
    ((l.law).books).clear (live_of b) (live_of other) (live_has h.live b r.is_live) left.0 (λ e. left.1 (sym e ∙ result_ticket h.live d b r)) (inl share))

-- ---- after the change

last_after : (d : Difference) (v : Levels) → (changed_by d v).last ≡ d.last
unfolding changed
last_after d v = refl

sends_on : (b : Bool) (A B : Type 0) (next after : ℕ) → MatchBool b ((after ≡ next + 1) × A) ((after ≡ next) × B) → next ≤ after
sends_on true A B next after m = (let e = m.0 in omega arith)
sends_on false A B next after m = (let e = m.0 in omega arith)

pub changed_plain : (old new : Held) (c : Difference) (out : Option ℕ) (coming : List Entry) (was is : Told) → ChangesVersion old new c out coming was is → plain new ≡ record (plain_after old c out) { next = new.next }
changed_plain old new c out coming was is k =
    let p : Plain = plain_after old c out in
    ap plain k.rest
    ∙ (ap (λ (v : Levels). let t : Plain = record p { files = files v; last = v.last; next = new.next } in t) (k.published).version_is
    ∙ ap (λ (n : ℕ). let t : Plain = record p { last = n; next = new.next } in t) (last_after c old.slots.version))

pub installing : (honest : Type 0) (old new : Held) (c : Difference) (ticket : ℕ) (coming : List Entry) (was is : Told) → Installs honest (plain old) ticket (plain_after old c (Some ticket)) → ChangesVersion old new c (Some ticket) coming was is
    → IsInstalling honest old ticket new
installing honest old new c ticket coming was is i k = (
  plain_after old c (Some ticket),
  i,
  (
    plain new,
    (new.next, sends_on (is_at_limit old.journal) (RollsOver (changed_by c old.slots.version) old.next old.journal new.journal was is) (Grows (change_edit old.journal c old.next) old.journal new.journal was is) old.next new.next k.sends, changed_plain old new c (Some ticket) coming was is k),
    refl,
  ),
)

pub answers_of : (old new : Held) (c : Difference) (out : Option ℕ) (coming : List Entry) (was is : Told) → ChangesVersion old new c out coming was is
    → ((k : UserKey) (q : ℕ) → IsReadable (plain old) q → answer (all_entries (files (changed_by c old.slots.version))) k q ≡ answer (all_entries (files old.slots.version)) k q) → SameAnswers old new
answers_of old new c out coming was is x same k q r = ap (λ (v : Levels). answer (all_entries (files v)) k q) (x.published).version_is ∙ same k q r

-- ---- looks came before

pub installed_looked : (old mid new : Held) (d : Done) (was is : Told) → mid ≡ record old { slots = mid.slots } → Sought old.slots mid.slots → IsPutIn mid new d was is → Installed old new d was is
installed_looked old mid new d was is same k p = record {
  slots = mid.slots;
  sought = k;
  change = p.0;
  its = subst (λ (n : ℕ). IsInstallChange d n p.0) (ap (λ (v : Levels). v.last) (k.looked).version) p.1;
  changes = subst (λ (h : Held). ChangesVersion h new p.0 (Some d.work.ticket) [] was is) same p.2;
}

pub installing_looked : (honest : Type 0) (old mid new : Held) (ticket : ℕ) → mid ≡ record old { slots = mid.slots } → Looked old.slots mid.slots → IsInstalling honest mid ticket new → IsInstalling honest old ticket new
installing_looked honest old mid new ticket same k r = subst (λ (p : Plain). Run honest p (Install ticket ∷ Spend ∷ []) (plain new)) (ap plain same ∙ looked_plain old mid.slots k) r

pub answers_looked : (old mid new : Held) → mid ≡ record old { slots = mid.slots } → Looked old.slots mid.slots → SameAnswers mid new → SameAnswers old new
answers_looked old mid new same k x key q r =
    x key q (subst (λ (p : Plain). IsReadable p q) (sym (ap plain same ∙ looked_plain old mid.slots k)) r)
    ∙ ap (λ (v : Levels). answer (all_entries (files v)) key q) k.version

-- a refusal is the machine's event of numbers spent
pub looked_spends : (old mid : Held) → mid ≡ record old { slots = mid.slots } → Looked old.slots mid.slots → Spends (plain old) (plain mid)
looked_spends old mid same k = (old.next, omega arith, ap plain same ∙ looked_plain old mid.slots k)

pub later_spends : (old mid new : Held) (e : StateFault) (was is : Told) → mid ≡ record old { slots = mid.slots } → Looked old.slots mid.slots → IsChangeRefusal mid new e was is → Spends (plain old) (plain new)
later_spends old mid new e was is same k r = subst (λ (p : Plain). Spends p (plain new)) (ap plain same ∙ looked_plain old mid.slots k) (change_spends mid new e was is r)

-- a refusal after looks
pub later_refused : (old mid new : Held) (e : StateFault) (was is : Told) → mid ≡ record old { slots = mid.slots } → Sought old.slots mid.slots → HasSlot mid.slots → IsChangeRefusal mid new e was is
    → Sought old.slots new.slots × IsRefusedLater old new e was is
later_refused old mid new OutOfMemory was is same k room r = (
  subst (λ (s : Slotted). Sought old.slots s) (sym (ap (λ (h : Held). h.slots) r.0)) k,
  (subst (λ (h : Held). h ≡ record old { slots = h.slots }) (sym r.0) same, r.1, subst HasSlot (sym (ap (λ (h : Held). h.slots) r.0)) room),
)
later_refused old mid new (Shelf fault) was is same k room r = (
    let stays : new.slots ≡ mid.slots = ap (λ (h : Held). h.slots) r.0 in
    let was_mid : mid ≡ record old { slots = new.slots } = same ∙ ap (λ (s : Slotted). let t : Held = record old { slots = s } in t) (sym stays) in
    let left : IsChangeRefusal (record old { slots = new.slots }) new (Shelf fault) was is = subst (λ (h : Held). IsChangeRefusal h new (Shelf fault) was is) was_mid r in
    (subst (λ (s : Slotted). Sought old.slots s) (sym stays) k, (left.0, left.1, left.2, subst HasSlot (sym stays) room)))
later_refused old mid new (Read fault) was is same k room r = absurd r
later_refused old mid new (BadLevel n) was is same k room r = absurd r
later_refused old mid new EmptyBatch was is same k room r = absurd r
later_refused old mid new (KeyOrder n) was is same k room r = absurd r
later_refused old mid new TooLarge was is same k room r = absurd r
later_refused old mid new LevelZeroFull was is same k room r = absurd r
later_refused old mid new SequencesSpent was is same k room r = absurd r
later_refused old mid new Halted was is same k room r = absurd r
later_refused old mid new (UnknownSnapshot n) was is same k room r = absurd r
later_refused old mid new (Conflict n) was is same k room r = absurd r
later_refused old mid new (UnknownTicket n) was is same k room r = absurd r
later_refused old mid new NumbersSpent was is same k room r = absurd r
later_refused old mid new Stale was is same k room r = absurd r
later_refused old mid new SlotsHeld was is same k room r = absurd r
later_refused old mid new VersionsSpent was is same k room r = absurd r
later_refused old mid new PinsSpent was is same k room r = absurd r

-- a refusal by the look for a slot
pub slot_refused : (old mid : Held) (e : StateFault) (was is : Told) → mid ≡ record old { slots = mid.slots } → IsSlotRefusal old.slots mid.slots e → is ≡ was → IsRefusedLater old mid e was is
slot_refused old mid SlotsHeld was is same k quiet = (k, same, quiet)
slot_refused old mid VersionsSpent was is same k quiet = (k, same, quiet)
slot_refused old mid OutOfMemory was is same k quiet = absurd k
slot_refused old mid (Shelf fault) was is same k quiet = absurd k
slot_refused old mid (Read fault) was is same k quiet = absurd k
slot_refused old mid (BadLevel n) was is same k quiet = absurd k
slot_refused old mid EmptyBatch was is same k quiet = absurd k
slot_refused old mid (KeyOrder n) was is same k quiet = absurd k
slot_refused old mid TooLarge was is same k quiet = absurd k
slot_refused old mid LevelZeroFull was is same k quiet = absurd k
slot_refused old mid SequencesSpent was is same k quiet = absurd k
slot_refused old mid Halted was is same k quiet = absurd k
slot_refused old mid (UnknownSnapshot n) was is same k quiet = absurd k
slot_refused old mid (Conflict n) was is same k quiet = absurd k
slot_refused old mid (UnknownTicket n) was is same k quiet = absurd k
slot_refused old mid NumbersSpent was is same k quiet = absurd k
slot_refused old mid Stale was is same k quiet = absurd k
slot_refused old mid PinsSpent was is same k quiet = absurd k
