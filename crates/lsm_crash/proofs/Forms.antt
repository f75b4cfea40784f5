-- The shape to which the manifest of a state comes.
use Rattle.std.proofs.Common.{◌≡◌, ℕ, zero, suc, ◌≤◌, List, [], ◌∷◌, length, get_or, map, refl, sym, ◌∙◌, ap, subst, inl, inr, ◌⊎◌, arith, Some}
use Rattle.std.specs.List.{AllByRecursion}
use Rattle.std.specs.List.Sorted.{IsStrictlySortedBy}
use Rattle.std.specs.Ordering.{nat_cmp, ordering_then, ordering_reverse}
use Rattle.std.specs.Cmp.Lexicographic.{slice_cmp}
use Rattle.std.specs.declared.cmp.Ordering.{Ordering}
use Rattle.std.specs.declared.cmp.Ordering.TheVariants.{Less, Equal, Greater}
use Rattle.std.proofs.lemmas.Map.Lookups.{exact_unsigned}
use Rattle.lsm_codec.specs.Lists.{Has}
use Rattle.lsm_manifest.specs.EditFit.{Change}
use Rattle.lsm_manifest.specs.FileOrder.{TableFile, file_cmp, packed_part, user_part}
use Rattle.lsm_manifest.specs.Replay.{FileAt, Stands}
use Rattle.lsm_manifest.specs.Shape.{Form, IsReplayed}
use Rattle.lsm_manifest.specs.WholeEdit.{placed_at}
use Rattle.lsm_manifest.proofs.CallerLemmas.{file_total, one_file_a_number, one_manifest}
use Rattle.lsm_table.specs.Registry.{Table}
use Rattle.lsm_version.specs.Versions.{Levels, level_in}
use Rattle.lsm_version.proofs.CallerLemmas.{inside}
use Rattle.lsm_journal.specs.HeldManifest.{HeldManifest}
use Rattle.lsm_journal.specs.Recorded.{IsFileAt, IsRecorded, meta_of}
use Rattle.lsm_journal.specs.Recorded as recorded
use Rattle.lsm_crash.specs.Versions.{ComesTo, IsNamed, Version}
use Rattle.lsm_crash.specs.States.{Describes}

-- ---- files in order

pick : Ordering → TableFile → TableFile → List TableFile → List TableFile → List TableFile
pick Less f g gs rest = f ∷ g ∷ gs
pick Equal f g gs rest = g ∷ gs
pick Greater f g gs rest = g ∷ rest

insert : TableFile → List TableFile → List TableFile
insert f [] = f ∷ []
insert f (g ∷ gs) = pick (file_cmp f g) f g gs (insert f gs)

sorted : List TableFile → List TableFile
sorted [] = []
sorted (f ∷ fs) = insert f (sorted fs)

insert_all : (P : TableFile → Type 0) (f : TableFile) (gs : List TableFile) → P f → AllByRecursion P gs → AllByRecursion P (insert f gs)
unfolding insert pick
insert_all P f [] p all = (p, tt)
insert_all P f (g ∷ gs) p all = by (file_cmp f g) (insert_all P f gs p all.1)
  where
    by : (o : Ordering) → AllByRecursion P (insert f gs) → AllByRecursion P (pick o f g gs (insert f gs))
    by Less rest = (p, all)
    by Equal rest = all
    by Greater rest = (all.0, rest)

below_all : (f g : TableFile) (gs : List TableFile) → file_cmp f g ≡ Less → AllByRecursion (λ y. file_cmp g y ≡ Less) gs → AllByRecursion (λ y. file_cmp f y ≡ Less) gs
below_all f g [] less all = tt
below_all f g (y ∷ gs) less all = (file_total.trans f g y less all.0, below_all f g gs less all.1)

insert_up : (f : TableFile) (gs : List TableFile) → IsStrictlySortedBy file_cmp gs → IsStrictlySortedBy file_cmp (insert f gs)
unfolding insert pick IsStrictlySortedBy
insert_up f [] up = (tt, tt)
insert_up f (g ∷ gs) up = by (file_cmp f g) refl (insert_up f gs up.1)
  where
    by : (o : Ordering) → file_cmp f g ≡ o → IsStrictlySortedBy file_cmp (insert f gs) → IsStrictlySortedBy file_cmp (pick o f g gs (insert f gs))
    by Less e rest = ((e, below_all f g gs e up.0), up)
    by Equal e rest = up
    by Greater e rest = (insert_all (λ y. file_cmp g y ≡ Less) f gs (file_total.antisymm g f ∙ ap ordering_reverse e) up.0, rest)

insert_has : (f : TableFile) (gs : List TableFile) (x : TableFile) → Has (insert f gs) x → (f ≡ x) ⊎ Has gs x
unfolding insert pick
insert_has f [] x h = elim h [ inl e ↦ inl e | inr none ↦ absurd none ]
insert_has f (g ∷ gs) x h = by (file_cmp f g) (insert_has f gs x) h
  where
    by : (o : Ordering) → (Has (insert f gs) x → (f ≡ x) ⊎ Has gs x) → Has (pick o f g gs (insert f gs)) x → (f ≡ x) ⊎ Has (g ∷ gs) x
    by Less rest k = k
    by Equal rest k = inr k
    by Greater rest k = elim k [ inl e ↦ inr (inl e) | inr later ↦ elim (rest later) [ inl e ↦ inl e | inr r ↦ inr (inr r) ] ]

number_of : (u p : Ordering) (a b : ℕ) → ordering_then u (ordering_then p (nat_cmp a b)) ≡ Equal → a ≡ b
number_of Less p a b e = absurd cc
number_of Greater p a b e = absurd cc
number_of Equal Less a b e = absurd cc
number_of Equal Greater a b e = absurd cc
number_of Equal Equal a b e = exact_unsigned a b e

has_insert : (f : TableFile) (gs : List TableFile) (x : TableFile) → ((g : TableFile) → Has gs g → f.number ≡ g.number → f ≡ g) → (f ≡ x) ⊎ Has gs x → Has (insert f gs) x
unfolding insert pick
has_insert f [] x one h = elim h [ inl e ↦ inl e | inr none ↦ absurd none ]
has_insert f (g ∷ gs) x one h = by (file_cmp f g) refl (has_insert f gs x (λ y k. one y (inr k)))
  where
    by : (o : Ordering) → file_cmp f g ≡ o → ((f ≡ x) ⊎ Has gs x → Has (insert f gs) x) → Has (pick o f g gs (insert f gs)) x
    by Less e rest = h
    by Equal e rest =
        let number : f.number ≡ g.number = number_of (slice_cmp nat_cmp (user_part f.smallest) (user_part g.smallest)) (nat_cmp (packed_part g.smallest) (packed_part f.smallest)) f.number g.number e in
        elim h [ inl same ↦ inl (sym (one g (inl refl) number) ∙ same) | inr k ↦ k ]
    by Greater e rest = elim h [ inl same ↦ inr (rest (inl same)) | inr k ↦ elim k [ inl here ↦ inl here | inr later ↦ inr (rest (inr later)) ] ]

sorted_up : (fs : List TableFile) → IsStrictlySortedBy file_cmp (sorted fs)
unfolding sorted IsStrictlySortedBy
sorted_up [] = tt
sorted_up (f ∷ fs) = insert_up f (sorted fs) (sorted_up fs)

sorted_has : (fs : List TableFile) (x : TableFile) → Has (sorted fs) x → Has fs x
unfolding sorted
sorted_has [] x h = h
sorted_has (f ∷ fs) x h = elim (insert_has f (sorted fs) x h) [ inl e ↦ inl e | inr k ↦ inr (sorted_has fs x k) ]

has_sorted : (fs : List TableFile) (x : TableFile) → ((f g : TableFile) → Has fs f → Has fs g → f.number ≡ g.number → f ≡ g) → Has fs x → Has (sorted fs) x
unfolding sorted
has_sorted [] x one h = h
has_sorted (f ∷ fs) x one h = has_insert f (sorted fs) x (λ g k e. one f g (inl refl) (inr (sorted_has fs g k)) e)
    (elim h as (λ _. (f ≡ x) ⊎ Has (sorted fs) x) [ inl e ↦ inl e | inr k ↦ inr (has_sorted fs x (λ a b l m. one a b (inr l) (inr m)) k) ])

-- ---- the files of levels

abbrev level_of : List Table → List TableFile
level_of ts = sorted (map meta_of ts)

levels_of : (tables : List (List Table)) (level : ℕ) → get_or (map level_of tables) level [] ≡ level_of (level_in tables level)
unfolding sorted
levels_of [] level = refl
levels_of (ts ∷ tables) zero = refl
levels_of (ts ∷ tables) (suc level) = levels_of tables level

as_many : (tables : List (List Table)) → length (map level_of tables) ≡ length tables
as_many [] = refl
as_many (ts ∷ tables) = ap suc (as_many tables)

meta_has : (ts : List Table) (file : TableFile) → Has (map meta_of ts) file → (t : Table) × Has ts t × (meta_of t ≡ file)
meta_has [] file h = absurd h
meta_has (t ∷ ts) file (inl e) = (t, inl refl, e)
meta_has (t ∷ ts) file (inr h) = (let r = meta_has ts file h in (r.0, inr r.1, r.2))

has_meta : (ts : List Table) (t : Table) → Has ts t → Has (map meta_of ts) (meta_of t)
has_meta [] t h = absurd h
has_meta (u ∷ ts) t (inl e) = inl (ap meta_of e)
has_meta (u ∷ ts) t (inr h) = inr (has_meta ts t h)

abbrev form_of : (v : Levels) (log prev_log next : ℕ) → Form
form_of v log prev_log next = record { levels = map level_of v.tables; pointers = v.pointers; log = log; prev_log = prev_log; next = next; last = v.last }

form_replays : (edits : List Change) (v : Levels) (log prev_log next : ℕ) → recorded.ComesTo edits v log prev_log next → recorded.HasOwnNumbers v → IsReplayed edits (form_of v log prev_log next)
form_replays edits v log prev_log next c own = record {
  innocent = c.standing.innocent;
  seven = as_many v.tables ∙ own.seven;
  seven_pointers = own.seven_pointers;
  numbers = one_file_a_number edits c.standing.innocent;
  levels = λ level le. record {
    files = λ file. (λ h. to_stands level file (sorted_has (map meta_of (level_in v.tables level)) file (subst (λ fs. Has fs file) (levels_of v.tables level) h)), λ st. from_stands level file st);
    ordered = subst (IsStrictlySortedBy file_cmp) (sym (levels_of v.tables level)) (sorted_up (map meta_of (level_in v.tables level)));
  };
  pointers = c.standing.pointers;
  log = c.log_is;
  prev_log = c.prev_log_is;
  next = c.next_is;
  last = c.last_is;
}
  where
    to_stands : (level : ℕ) (file : TableFile) → Has (map meta_of (level_in v.tables level)) file → Stands edits (placed_at level file)
    to_stands level file h = (c.standing.files level file).0 (meta_has (level_in v.tables level) file h)

    one : (level : ℕ) (f g : TableFile) → Has (map meta_of (level_in v.tables level)) f → Has (map meta_of (level_in v.tables level)) g → f.number ≡ g.number → f ≡ g
    one level f g h k e = ap (λ (a : FileAt). a.file) (one_file_a_number edits c.standing.innocent (placed_at level f) (placed_at level g) (to_stands level f h) (to_stands level g k) e)

    from_stands : (level : ℕ) (file : TableFile) → Stands edits (placed_at level file) → Has (get_or (map level_of v.tables) level []) file
    from_stands level file st =
        let at = (c.standing.files level file).1 st in
        let here : Has (map meta_of (level_in v.tables level)) file = subst (Has (map meta_of (level_in v.tables level))) at.2 (has_meta (level_in v.tables level) at.0 at.1) in
        subst (λ fs. Has fs file) (sym (levels_of v.tables level)) (has_sorted (map meta_of (level_in v.tables level)) file (one level) here)

-- the manifest of what is recorded comes to a shape
pub recorded_comes : (rest : ℕ) (h : HeldManifest) (v : Levels) (next : ℕ) → IsRecorded rest h v next → (shape : Version) × ComesTo h.bytes shape
recorded_comes rest h v next r = (
  form_of v h.log h.prev_log r.written,
  record { edits = r.edits; rest = rest; manifest = r.manifest; replayed = form_replays r.edits v h.log h.prev_log r.written r.comes r.own },
)

last_is : (a b : ℕ) → Some a ≡ Some b → a ≡ b
last_is a b e = cc

-- and to no other but one that describes the version
pub recorded_describes : (rest : ℕ) (h : HeldManifest) (v : Levels) (next : ℕ) (shape : Version) → IsRecorded rest h v next → ComesTo h.bytes shape → Describes shape v
recorded_describes rest h v next shape r c =
    let same = (one_manifest h.bytes c.edits r.edits c.rest rest c.manifest r.manifest).0 in
    let replayed : IsReplayed r.edits shape = subst (λ (es : List Change). IsReplayed es shape) same c.replayed in
    record {
      files = λ level file le. (
        λ k. (r.comes.standing.files level file).1 (((replayed.levels level le).files file).0 k),
        λ k. ((replayed.levels level le).files file).1 ((r.comes.standing.files level file).0 k),
      );
      pointers = λ level le. replayed.pointers level le ∙ sym (r.comes.standing.pointers level le);
      last = last_is shape.last v.last (sym replayed.last ∙ r.comes.last_is);
    }

-- what the shape names is a table's number
pub named_table : (shape : Version) (v : Levels) (number : ℕ) → Describes shape v → IsNamed shape number → (level : ℕ) × (t : Table) × Has (level_in v.tables level) t × (t.number ≡ number)
named_table shape v number d n =
    let at = (d.files n.0 n.1 n.2).0 n.3 in
    (n.0, at.0, at.1, ap (λ (f : TableFile). f.number) at.2 ∙ n.4)

pub table_named : (shape : Version) (v : Levels) (level : ℕ) (t : Table) → Describes shape v → length v.tables ≡ 7 → Has (level_in v.tables level) t → IsNamed shape t.number
table_named shape v level t d seven h =
    let lt = inside v.tables level t h in
    let le : level ≤ 6 = omega arith in
    (level, meta_of t, le, (d.files level (meta_of t) le).1 (t, h, refl), refl)
