-- The inputs of a job as runs, one after another.
use Rattle.std.proofs.Common.{◌≡◌, ◌≢◌, ℕ, ◌+◌, ◌<◌, ◌≤◌, List, [], ◌∷◌, ◌++◌, map, length, take, All, refl, sym, ◌∙◌, ap, subst, inl, inr, arith, append_assoc}
use Rattle.std.specs.List.{flat_map}
use Rattle.std.proofs.lemmas.List.{append-nil, take_more}
use Rattle.std.proofs.lemmas.List.Elements.{All-nil, All-cons}
use Rattle.lsm_codec.specs.Lists.{Has}
use Rattle.lsm_codec.specs.Entries.{Entry}
use Rattle.lsm_codec.proofs.CallerLemmas.{has_left, has_right}
use Rattle.lsm_shelf.specs.Told.{Told}
use Rattle.lsm_shelf.specs.declared.shelf_fault.ShelfFault.TheVariants as shelf
use Rattle.lsm_table.specs.Registry.{Table, image_of}
use Rattle.lsm_table.specs.ReadFault.{ReadCounted, IsMemoryOrShelf}
use Rattle.lsm_table.specs.declared.table_fault.TableFault.TheVariants as table
use Rattle.lsm_table.specs.declared.read_fault.ReadFault.{ReadFault}
use Rattle.lsm_table.specs.declared.read_fault.ReadFault.TheVariants as read
use Rattle.lsm_model.specs.Files.{File, all_entries}
use Rattle.lsm_model.specs.Merging.{AreOrdered, IsOrdered, IsSorted, Placed, entries_of, placed_at, merge_all}
use Rattle.lsm_model.specs.Streams.{IsAscending, IsMerge}
use Rattle.lsm_model.proofs.CallerLemmas.{ascending_sorted, entry_placed, placed_entry, sorted_ordered}
use Rattle.lsm_iterators.specs.Runs.{HasEntries, Left, files_at}
use Rattle.lsm_version.specs.Versions.{IsWhole, files_of}
use Rattle.lsm_merge.specs.declared.merge_fault.InputFault.TheVariants.{Read, OutOfOrder}
use Rattle.lsm_merge.specs.declared.merge_fault.OutputFault.TheVariants.{TooLarge, Shelf}
use Rattle.lsm_merge.specs.declared.merge_fault.MergeFault.{MergeFault}
use Rattle.lsm_merge.specs.declared.merge_fault.MergeFault.TheVariants.{OutOfMemory, ReadFailed, PutFailed, UnknownTicket, NumbersSpent}
use Rattle.lsm_merge.specs.Causes.{HasCause}
use Rattle.lsm_merge.specs.InputOrder.{HasTwins, StandInOrder}
use Rattle.lsm_merge.proofs.Twins.{KeepsAlike, lists_have_no_twins, lists_have_twins, ordered_more}
use Rattle.lsm_merge.specs.Inputs.{AreInputs, IsReadable, entries_of_tables, files_in, input_numbers, numbers_of, streams}
use Rattle.lsm_merge.specs.MergeFault.{of_read}
use Rattle.lsm_merge.specs.Work.{Work, job_of}

-- ---- faults of reading

pub readable_of : (n : ℕ) (f : ReadFault) → IsMemoryOrShelf f → IsReadable (of_read n f)
readable_of n (read.Shelf shelf.OutOfMemory) h = tt
readable_of n (read.Shelf shelf.Device) h = tt
readable_of n (read.Shelf shelf.Missing) h = tt
readable_of n (read.Shelf (shelf.Taken m)) h = tt
readable_of n (read.Table table.OutOfMemory) h = tt
readable_of n (read.Table table.BadRestarts) h = absurd h
readable_of n (read.Table (table.BadEntry o)) h = absurd h
readable_of n (read.Table (table.OutOfOrder o)) h = absurd h
readable_of n (read.Table table.ShortFile) h = absurd h
readable_of n (read.Table table.BadMagic) h = absurd h
readable_of n (read.Table table.BadHandle) h = absurd h
readable_of n (read.Table (table.BadChecksum o)) h = absurd h
readable_of n (read.Table (table.Compressed k)) h = absurd h
readable_of n (read.Table (table.BadBlockType k)) h = absurd h
readable_of n (read.Table table.BadIndex) h = absurd h

pub cause_of_read : (inputs : List ℕ) (n : ℕ) (f : ReadFault) (t u : Told) → Has inputs n → ReadCounted f t u → HasCause inputs (of_read n f) t u
cause_of_read inputs n (read.Shelf shelf.OutOfMemory) t u i h = tt
cause_of_read inputs n (read.Shelf shelf.Device) t u i h = (i, (h, tt))
cause_of_read inputs n (read.Shelf shelf.Missing) t u i h = (i, (h, tt))
cause_of_read inputs n (read.Shelf (shelf.Taken m)) t u i h = (i, (h, tt))
cause_of_read inputs n (read.Table table.OutOfMemory) t u i h = tt
cause_of_read inputs n (read.Table table.BadRestarts) t u i h = (i, (h, tt))
cause_of_read inputs n (read.Table (table.BadEntry o)) t u i h = (i, (h, tt))
cause_of_read inputs n (read.Table (table.OutOfOrder o)) t u i h = (i, (h, tt))
cause_of_read inputs n (read.Table table.ShortFile) t u i h = (i, (h, tt))
cause_of_read inputs n (read.Table table.BadMagic) t u i h = (i, (h, tt))
cause_of_read inputs n (read.Table table.BadHandle) t u i h = (i, (h, tt))
cause_of_read inputs n (read.Table (table.BadChecksum o)) t u i h = (i, (h, tt))
cause_of_read inputs n (read.Table (table.Compressed k)) t u i h = (i, (h, tt))
cause_of_read inputs n (read.Table (table.BadBlockType k)) t u i h = (i, (h, tt))
cause_of_read inputs n (read.Table table.BadIndex) t u i h = (i, (h, tt))

pub cause_more : (a b : List ℕ) (e : MergeFault) (t u : Told) → ((n : ℕ) → Has a n → Has b n) → HasCause a e t u → HasCause b e t u
cause_more a b OutOfMemory t u f h = tt
cause_more a b (ReadFailed n (Read g)) t u f h = (f n h.0, h.1)
cause_more a b (ReadFailed n OutOfOrder) t u f h = f n h
cause_more a b (PutFailed n TooLarge) t u f h = tt
cause_more a b (PutFailed n (Shelf g)) t u f h = h
cause_more a b (UnknownTicket k) t u f h = tt
cause_more a b NumbersSpent t u f h = tt

-- ---- tables

filled : (es : List Entry) (e : Entry) (rest : List Entry) → es ≡ e ∷ rest → es ≢ []
filled es e rest is h = absurd (cc (is, h))

whole_has : (t : Table) → IsWhole t → HasEntries t.image
whole_has t w = record { table = w.table; some = filled _ ((w.entries).first).0 ((w.entries).first).1 ((w.entries).first).2 }

pub all_whole : (ts : List Table) → ((t : Table) → Has ts t → IsWhole t) → All HasEntries (map image_of ts)
all_whole [] f = All-nil HasEntries
all_whole (t ∷ ts) f = All-cons HasEntries t.image (map image_of ts) (whole_has t (f t (inl refl))) (all_whole ts (λ u h. f u (inr h)))

-- ---- runs

pub entries_placed : (place : ℕ) (es : List Entry) → entries_of (placed_at place es) ≡ es
entries_placed place [] = refl
entries_placed place (e ∷ es) = ap (λ (l : List Entry). e ∷ l) (entries_placed place es)

entries_both : (a b : List Placed) → entries_of (a ++ b) ≡ entries_of a ++ entries_of b
entries_both [] b = refl
entries_both (p ∷ a) b = ap (λ (l : List Entry). p.1 ∷ l) (entries_both a b)

pub streams_snoc : (rs : List Left) (r : Left) → streams (rs ++ r ∷ []) ≡ streams rs ++ entries_of r.placed
streams_snoc [] r = entries_both r.placed [] ∙ nothing (entries_of r.placed)
  where
    nothing : (es : List Entry) → es ++ [] ≡ es
    nothing [] = refl
    nothing (e ∷ es) = ap (λ (l : List Entry). e ∷ l) (nothing es)
streams_snoc (q ∷ rs) r =
    entries_both q.placed (flat_map (λ (u : Left). u.placed) (rs ++ r ∷ []))
    ∙ ap (λ (l : List Entry). entries_of q.placed ++ l) (streams_snoc rs r)
    ∙ sym (append_assoc (entries_of q.placed) (streams rs) (entries_of r.placed))
    ∙ ap (λ (l : List Entry). l ++ entries_of r.placed) (sym (entries_both q.placed (flat_map (λ (u : Left). u.placed) rs)))

numbers_both : (a b : List (ℕ × ℕ)) → map (λ (f : ℕ × ℕ). f.1) (a ++ b) ≡ map (λ (f : ℕ × ℕ). f.1) a ++ map (λ (f : ℕ × ℕ). f.1) b
numbers_both [] b = refl
numbers_both (p ∷ a) b = ap (λ (l : List ℕ). p.1 ∷ l) (numbers_both a b)

pub files_snoc : (rs : List Left) (r : Left) → files_in (rs ++ r ∷ []) ≡ files_in rs ++ map (λ (f : ℕ × ℕ). f.1) r.files
files_snoc [] r = numbers_both r.files [] ∙ nothing (map (λ (f : ℕ × ℕ). f.1) r.files)
  where
    nothing : (es : List ℕ) → es ++ [] ≡ es
    nothing [] = refl
    nothing (e ∷ es) = ap (λ (l : List ℕ). e ∷ l) (nothing es)
files_snoc (q ∷ rs) r =
    numbers_both q.files (flat_map (λ (u : Left). u.files) (rs ++ r ∷ []))
    ∙ ap (λ (l : List ℕ). map (λ (f : ℕ × ℕ). f.1) q.files ++ l) (files_snoc rs r)
    ∙ sym (append_assoc (map (λ (f : ℕ × ℕ). f.1) q.files) (files_in rs) (map (λ (f : ℕ × ℕ). f.1) r.files))
    ∙ ap (λ (l : List ℕ). l ++ map (λ (f : ℕ × ℕ). f.1) r.files) (sym (numbers_both q.files (flat_map (λ (u : Left). u.files) rs)))

pub numbers_at : (place : ℕ) (ns : List ℕ) → map (λ (f : ℕ × ℕ). f.1) (files_at place ns) ≡ ns
numbers_at place [] = refl
numbers_at place (n ∷ ns) = ap (λ (l : List ℕ). n ∷ l) (numbers_at place ns)

-- a run more
pub run_pushed : (rs : List Left) (r : Left) (place : ℕ) (ts : List Table) (rs' : List Left) → rs' ≡ rs ++ r ∷ [] → r.placed ≡ placed_at place (entries_of_tables ts)
    → streams rs' ≡ streams rs ++ entries_of_tables ts
run_pushed rs r place ts rs' e h =
    ap streams e ∙ streams_snoc rs r ∙ ap (λ (l : List Entry). streams rs ++ l) (ap entries_of h ∙ entries_placed place (entries_of_tables ts))

pub run_files : (rs : List Left) (r : Left) (place : ℕ) (ts : List Table) (rs' : List Left) → rs' ≡ rs ++ r ∷ [] → r.files ≡ files_at place (numbers_of ts)
    → files_in rs' ≡ files_in rs ++ numbers_of ts
run_files rs r place ts rs' e h =
    ap files_in e ∙ files_snoc rs r ∙ ap (λ (l : List ℕ). files_in rs ++ l) (ap (map (λ (f : ℕ × ℕ). f.1)) h ∙ numbers_at place (numbers_of ts))

-- one table more
pub tables_then : (a b : List Table) → entries_of_tables (a ++ b) ≡ entries_of_tables a ++ entries_of_tables b
tables_then [] b = refl
tables_then (t ∷ a) b =
    ap (λ (l : List Entry). Rattle.lsm_table.specs.HeldTable.entries_in t.image ++ l) (tables_then a b)
    ∙ sym (append_assoc (Rattle.lsm_table.specs.HeldTable.entries_in t.image) (entries_of_tables a) (entries_of_tables b))

pub numbers_then : (a b : List Table) → numbers_of (a ++ b) ≡ numbers_of a ++ numbers_of b
numbers_then [] b = refl
numbers_then (t ∷ a) b = ap (λ (l : List ℕ). t.number ∷ l) (numbers_then a b)

-- ---- all inputs

files_entries : (level : ℕ) (ts : List Table) → all_entries (files_of level ts) ≡ entries_of_tables ts
files_entries level [] = refl
files_entries level (t ∷ ts) = ap (λ (l : List Entry). Rattle.lsm_table.specs.HeldTable.entries_in t.image ++ l) (files_entries level ts)

both_entries : (a b : List File) → all_entries (a ++ b) ≡ all_entries a ++ all_entries b
both_entries [] b = refl
both_entries (F ∷ a) b = ap (λ (l : List Entry). F.entries ++ l) (both_entries a b) ∙ sym (append_assoc F.entries (all_entries a) (all_entries b))

pub inputs_are : (w : Work) → all_entries (job_of w).inputs ≡ entries_of_tables w.upper ++ entries_of_tables w.lower
inputs_are w =
    both_entries (files_of w.level w.upper) (files_of (Rattle.std.proofs.Common.suc w.level) w.lower)
    ∙ ap (λ (l : List Entry). l ++ all_entries (files_of (Rattle.std.proofs.Common.suc w.level) w.lower)) (files_entries w.level w.upper)
    ∙ ap (λ (l : List Entry). entries_of_tables w.upper ++ l) (files_entries (Rattle.std.proofs.Common.suc w.level) w.lower)

numbered : (files : List (ℕ × ℕ)) (f : ℕ × ℕ) → Has files f → Has (map (λ (g : ℕ × ℕ). g.1) files) f.1
numbered [] f h = absurd h
numbered (g ∷ files) f (inl e) = inl (ap (λ (k : ℕ × ℕ). k.1) e)
numbered (g ∷ files) f (inr h) = inr (numbered files f h)

pub files_are_inputs : (files : List (ℕ × ℕ)) (rs : List Left) (inputs : List ℕ) → files ≡ flat_map (λ (r : Left). r.files) rs → files_in rs ≡ inputs → AreInputs files inputs
files_are_inputs files rs inputs e i f h = subst (λ (l : List ℕ). Has l f.1) i (subst (λ (l : List (ℕ × ℕ)). Has (map (λ (g : ℕ × ℕ). g.1) l) f.1) e (numbered files f h))

-- the law of merges
abbrev pub MergesAre : Type 0
MergesAre = (ls : List (List Placed)) → IsAscending (entries_of (merge_all ls)) → IsMerge (entries_of (merge_all ls)) (entries_of (flat_map (λ l. l) ls))

flat_placed : (rs : List Left) → flat_map (λ (l : List Placed). l) (map (λ (r : Left). r.placed) rs) ≡ flat_map (λ (r : Left). r.placed) rs
flat_placed [] = refl
flat_placed (r ∷ rs) = ap (λ (l : List Placed). r.placed ++ l) (flat_placed rs)

pub merger_merges : MergesAre → (w : Work) (placed : List Placed) (rs : List Left) → placed ≡ merge_all (map (λ (r : Left). r.placed) rs)
    → streams rs ≡ entries_of_tables w.upper ++ entries_of_tables w.lower → IsAscending (entries_of placed) → IsMerge (entries_of placed) (all_entries (job_of w).inputs)
merger_merges law w placed rs e s a =
    subst (λ (ps : List Placed). IsMerge (entries_of ps) (all_entries (job_of w).inputs)) (sym e)
    (subst (IsMerge (entries_of (merge_all (map (λ (r : Left). r.placed) rs)))) (ap entries_of (flat_placed rs) ∙ s ∙ sym (inputs_are w))
    (law (map (λ (r : Left). r.placed) rs) (subst (λ (ps : List Placed). IsAscending (entries_of ps)) e a)))

-- an input of the upper or of the lower ones is an input
pub upper_has : (w : Work) (n : ℕ) → Has (numbers_of w.upper) n → Has (input_numbers w) n
upper_has w n h = has_left (numbers_of w.upper) (numbers_of w.lower) n h

pub lower_has : (w : Work) (n : ℕ) → Has (numbers_of w.lower) n → Has (input_numbers w) n
lower_has w n h = has_right (numbers_of w.upper) (numbers_of w.lower) n h

pub reading_of : (n : ℕ) (f : ReadFault) → Rattle.lsm_merge.specs.Inputs.IsOfReading (of_read n f)
reading_of n (read.Shelf shelf.OutOfMemory) = tt
reading_of n (read.Shelf shelf.Device) = tt
reading_of n (read.Shelf shelf.Missing) = tt
reading_of n (read.Shelf (shelf.Taken m)) = tt
reading_of n (read.Table table.OutOfMemory) = tt
reading_of n (read.Table table.BadRestarts) = tt
reading_of n (read.Table (table.BadEntry o)) = tt
reading_of n (read.Table (table.OutOfOrder o)) = tt
reading_of n (read.Table table.ShortFile) = tt
reading_of n (read.Table table.BadMagic) = tt
reading_of n (read.Table table.BadHandle) = tt
reading_of n (read.Table (table.BadChecksum o)) = tt
reading_of n (read.Table (table.Compressed k)) = tt
reading_of n (read.Table (table.BadBlockType k)) = tt
reading_of n (read.Table table.BadIndex) = tt

-- ---- one table after another

has_index : (ts : List Table) (i : ℕ) (x : Table) → i < length ts → x ≡ Rattle.std.proofs.Common.get_or ts i x → Has ts x
has_index [] i x h e = absurd (omega arith)
has_index (t ∷ ts) Rattle.std.proofs.Common.zero x h e = inl (sym e)
has_index (t ∷ ts) (Rattle.std.proofs.Common.suc i) x h e = inr (has_index ts i x (omega arith) e)

has_number : (ts : List Table) (t : Table) → Has ts t → Has (numbers_of ts) t.number
has_number [] t h = absurd h
has_number (u ∷ ts) t (inl e) = inl (ap (λ (v : Table). v.number) e)
has_number (u ∷ ts) t (inr h) = inr (has_number ts t h)

pub whole_one : (ts : List Table) (i : ℕ) (x : Table) (l : List Table) → i < length ts → x ≡ Rattle.std.proofs.Common.get_or ts i x → l ≡ x ∷ []
    → ((t : Table) → Has ts t → IsWhole t) → (t : Table) → Has l t → IsWhole t
whole_one ts i x l h e is f t k = go (subst (λ (m : List Table). Has m t) is k)
  where
    go : Has (x ∷ []) t → IsWhole t
    go (inl same) = subst IsWhole same (f x (has_index ts i x h e))
    go (inr none) = absurd none

pub number_one : (ts : List Table) (i : ℕ) (x : Table) (l : List Table) → i < length ts → x ≡ Rattle.std.proofs.Common.get_or ts i x → l ≡ x ∷ []
    → (n : ℕ) → Has (numbers_of l) n → Has (numbers_of ts) n
number_one ts i x l h e is n k = go (subst (λ (m : List Table). Has (numbers_of m) n) is k)
  where
    go : Has (numbers_of (x ∷ [])) n → Has (numbers_of ts) n
    go (inl same) = subst (Has (numbers_of ts)) same (has_number ts x (has_index ts i x h e))
    go (inr none) = absurd none

pub streams_all : (rs0 rs1 rs2 : List Left) (u0 u l0 l : List Table) → rs0 ≡ [] → streams rs1 ≡ streams rs0 ++ entries_of_tables u0 → streams rs2 ≡ streams rs1 ++ entries_of_tables l0
    → u0 ≡ u → l0 ≡ l → streams rs2 ≡ entries_of_tables u ++ entries_of_tables l
streams_all rs0 rs1 rs2 u0 u l0 l none p q eu el =
    q ∙ ap (λ (s : List Entry). s ++ entries_of_tables l0) (p ∙ ap (λ (r : List Left). streams r ++ entries_of_tables u0) none)
    ∙ ap (λ (t : List Table). entries_of_tables t ++ entries_of_tables l0) eu ∙ ap (λ (t : List Table). entries_of_tables u ++ entries_of_tables t) el

pub files_all : (rs0 rs1 rs2 : List Left) (u0 u l0 l : List Table) → rs0 ≡ [] → files_in rs1 ≡ files_in rs0 ++ numbers_of u0 → files_in rs2 ≡ files_in rs1 ++ numbers_of l0
    → u0 ≡ u → l0 ≡ l → files_in rs2 ≡ numbers_of u ++ numbers_of l
files_all rs0 rs1 rs2 u0 u l0 l none p q eu el =
    q ∙ ap (λ (s : List ℕ). s ++ numbers_of l0) (p ∙ ap (λ (r : List Left). files_in r ++ numbers_of u0) none)
    ∙ ap (λ (t : List Table). numbers_of t ++ numbers_of l0) eu ∙ ap (λ (t : List Table). numbers_of u ++ numbers_of t) el

-- ---- order

pub runs_ordered : (rs : List Left) (r : Left) (place : ℕ) (es : List Entry) (rs' : List Left) → rs' ≡ rs ++ r ∷ [] → r.placed ≡ placed_at place es → IsSorted es
    → AreOrdered (map (λ (l : Left). l.placed) rs) → AreOrdered (map (λ (l : Left). l.placed) rs')
runs_ordered rs r place es rs' e p s a =
    subst (λ (ls : List Left). AreOrdered (map (λ (l : Left). l.placed) ls)) (sym e)
    (subst AreOrdered (sym (placed_snoc rs))
    (ordered_more (map (λ (l : Left). l.placed) rs) r.placed a (subst IsOrdered (sym p) (sorted_ordered place es s))))
  where
    placed_snoc : (qs : List Left) → map (λ (l : Left). l.placed) (qs ++ r ∷ []) ≡ map (λ (l : Left). l.placed) qs ++ r.placed ∷ []
    placed_snoc [] = refl
    placed_snoc (q ∷ qs) = ap (λ (ls : List (List Placed)). q.placed ∷ ls) (placed_snoc qs)

-- the entries of one whole table are sorted
pub one_sorted : (ts : List Table) (i : ℕ) (x : Table) (l : List Table) → i < length ts → x ≡ Rattle.std.proofs.Common.get_or ts i x → l ≡ x ∷ []
    → ((t : Table) → Has ts t → IsWhole t) → IsSorted (entries_of_tables l)
one_sorted ts i x l h e is f =
    subst (λ (m : List Table). IsSorted (entries_of_tables m)) (sym is)
    (subst IsSorted (sym (append-nil (Rattle.lsm_table.specs.HeldTable.entries_in x.image)))
    (ascending_sorted (Rattle.lsm_table.specs.HeldTable.entries_in x.image) ((f x (has_index ts i x h e)).entries).ascending))

-- the law of merges: their entries are those of the lists
abbrev pub MergesHave : Type 0
MergesHave = (ls : List (List Placed)) (p : Placed) → Has (merge_all ls) p → Has (flat_map (λ l. l) ls) p

inputs_of : (w : Work) (rs : List Left) → streams rs ≡ entries_of_tables w.upper ++ entries_of_tables w.lower
    → entries_of (flat_map (λ (l : List Placed). l) (map (λ (r : Left). r.placed) rs)) ≡ all_entries (job_of w).inputs
inputs_of w rs s = ap entries_of (flat_placed rs) ∙ s ∙ sym (inputs_are w)

pub merger_from : MergesHave → (w : Work) (placed : List Placed) (rs : List Left) → placed ≡ merge_all (map (λ (r : Left). r.placed) rs)
    → streams rs ≡ entries_of_tables w.upper ++ entries_of_tables w.lower → (e : Entry) → Has (entries_of placed) e → Has (all_entries (job_of w).inputs) e
merger_from law w placed rs m s e h =
    let ls = map (λ (r : Left). r.placed) rs in
    let p = entry_placed (merge_all ls) e (subst (λ (ps : List Placed). Has (entries_of ps) e) m h) in
    subst (λ (es : List Entry). Has es e) (inputs_of w rs s)
    (subst (Has (entries_of (flat_map (λ (l : List Placed). l) ls))) p.2 (placed_entry (flat_map (λ (l : List Placed). l) ls) p.0 (law ls p.0 p.1)))

-- the law of merges: of ordered lists they are sorted
abbrev pub MergesSort : Type 0
MergesSort = (ls : List (List Placed)) → AreOrdered ls → IsSorted (entries_of (merge_all ls))

pub merger_twins : KeepsAlike → MergesSort → (w : Work) (placed : List Placed) (rs : List Left) → placed ≡ merge_all (map (λ (r : Left). r.placed) rs)
    → streams rs ≡ entries_of_tables w.upper ++ entries_of_tables w.lower → AreOrdered (map (λ (r : Left). r.placed) rs)
    → (IsAscending (entries_of placed) → ⊥) → HasTwins (all_entries (job_of w).inputs)
merger_twins alike sort w placed rs m s o n =
    let ls = map (λ (r : Left). r.placed) rs in
    subst HasTwins (inputs_of w rs s)
    (lists_have_twins alike ls o (sort ls o) (subst (λ (ps : List Placed). IsAscending (entries_of ps) → ⊥) m n))

pub merger_apart : KeepsAlike → (w : Work) (placed : List Placed) (rs : List Left) → placed ≡ merge_all (map (λ (r : Left). r.placed) rs)
    → streams rs ≡ entries_of_tables w.upper ++ entries_of_tables w.lower → AreOrdered (map (λ (r : Left). r.placed) rs)
    → IsAscending (entries_of placed) → HasTwins (all_entries (job_of w).inputs) → ⊥
merger_apart alike w placed rs m s o a h =
    lists_have_no_twins alike (map (λ (r : Left). r.placed) rs) o (subst (λ (ps : List Placed). IsAscending (entries_of ps)) m a) (subst HasTwins (sym (inputs_of w rs s)) h)

-- the runs of both levels
pub runs_all : (w : Work) (u l : List Table) (rs0 rs1 rs2 : List Left) → StandInOrder w → u ≡ w.upper → l ≡ w.lower → rs0 ≡ []
    → ((1 ≤ w.level → IsSorted (entries_of_tables u)) → AreOrdered (map (λ (r : Left). r.placed) rs0) → AreOrdered (map (λ (r : Left). r.placed) rs1))
    → (IsSorted (entries_of_tables l) → AreOrdered (map (λ (r : Left). r.placed) rs1) → AreOrdered (map (λ (r : Left). r.placed) rs2))
    → AreOrdered (map (λ (r : Left). r.placed) rs2)
runs_all w u l rs0 rs1 rs2 o eu el none up low =
    low (subst (λ (ts : List Table). IsSorted (entries_of_tables ts)) (sym el) (subst IsSorted (files_entries (Rattle.std.proofs.Common.suc w.level) w.lower) o.lower))
    (up (λ h. subst (λ (ts : List Table). IsSorted (entries_of_tables ts)) (sym eu) (subst IsSorted (files_entries w.level w.upper) (o.upper h)))
    (subst (λ (rs : List Left). AreOrdered (map (λ (r : Left). r.placed) rs)) (sym none) tt))

-- one table more of a list
next_of : (ts : List Table) (i : ℕ) (x : Table) → i < length ts → x ≡ Rattle.std.proofs.Common.get_or ts i x → take (i + 1) ts ≡ take i ts ++ x ∷ []
next_of ts i x h e = take_more ts i x h ∙ ap (λ (t : Table). take i ts ++ t ∷ []) (sym e)

pub entries_more : (ts : List Table) (i : ℕ) (x : Table) (l : List Table) (first old new : List Entry) → i < length ts → x ≡ Rattle.std.proofs.Common.get_or ts i x → l ≡ x ∷ []
    → old ≡ first ++ entries_of_tables (take i ts) → new ≡ old ++ entries_of_tables l → new ≡ first ++ entries_of_tables (take (i + 1) ts)
entries_more ts i x l first old new h e is p q =
    q ∙ ap (λ (es : List Entry). es ++ entries_of_tables l) p ∙ append_assoc first (entries_of_tables (take i ts)) (entries_of_tables l)
    ∙ ap (λ (es : List Entry). first ++ es) (ap (λ (m : List Table). entries_of_tables (take i ts) ++ entries_of_tables m) is ∙ sym (tables_then (take i ts) (x ∷ [])) ∙ ap entries_of_tables (sym (next_of ts i x h e)))

pub files_more : (ts : List Table) (i : ℕ) (x : Table) (l : List Table) (first old new : List ℕ) → i < length ts → x ≡ Rattle.std.proofs.Common.get_or ts i x → l ≡ x ∷ []
    → old ≡ first ++ numbers_of (take i ts) → new ≡ old ++ numbers_of l → new ≡ first ++ numbers_of (take (i + 1) ts)
files_more ts i x l first old new h e is p q =
    q ∙ ap (λ (es : List ℕ). es ++ numbers_of l) p ∙ append_assoc first (numbers_of (take i ts)) (numbers_of l)
    ∙ ap (λ (es : List ℕ). first ++ es) (ap (λ (m : List Table). numbers_of (take i ts) ++ numbers_of m) is ∙ sym (numbers_then (take i ts) (x ∷ [])) ∙ ap numbers_of (sym (next_of ts i x h e)))
