-- Tables that are those of the files of a shape are a sound version.
use Rattle.std.proofs.Common.{◌≡◌, ℕ, zero, suc, ◌+◌, ◌≤◌, ◌==◌, Bool, true, cond, List, [], ◌∷◌}
use Rattle.std.proofs.Common.{◌++◌, length, get_or, Option, refl, sym, ◌∙◌, ap, subst, inl, inr}
use Rattle.std.proofs.Common.{arith}
use Rattle.std.specs.Prelude.{◌⊎◌}
use Rattle.std.proofs.lemmas.Bool.{eq-eqb}
use Rattle.lsm_codec.specs.Lists.{Has}
use Rattle.lsm_codec.specs.Keys.{InternalKey, IsKey}
use Rattle.lsm_codec.proofs.CallerLemmas.{IsKey-unique}
use Rattle.lsm_table.specs.Registry.{Table}
use Rattle.lsm_table.specs.HeldTable.{entries_in}
use Rattle.lsm_manifest.specs.FileOrder.{TableFile}
use Rattle.lsm_verify.specs.CheckedFiles.{IsFileOf}
use Rattle.lsm_version.specs.FileNumbers.{file_numbers, numbers_of, times, AreDistinct}
use Rattle.lsm_model.specs.Files.{File, InOrder, Fits}
use Rattle.lsm_verify.specs.LevelLayouts.{AreLevelsWhole, AreRangesOf, LieInOrder, MeetNowhere}
use Rattle.lsm_verify.specs.Settled.{KeepsAge}
use Rattle.lsm_verify.specs.Loading.{AreFilesOf, AreLevelsOf, placed_levels}
use Rattle.lsm_model.specs.Ranges.{Range, EachPair, KeyLe, MeetInKeys, ShareUsers}
use Rattle.lsm_version.specs.Versions.{AreWhole, IsSound, IsWhole, file_of, files_of, files_from}
use Rattle.lsm_version.specs.Versions.{level_in}
use Rattle.lsm_model.proofs.CallerLemmas.{entries_in_order, key_le_user}
use Rattle.lsm_version.proofs.CallerLemmas.{all_has, file_in, in_files, table_fits, inside}
use Rattle.lsm_admission.proofs.Numbers.{one_more}

whole_in : (levels : List (List Table)) (n : ℕ) → AreLevelsWhole levels
    → AreWhole (level_in levels n)
whole_in [] n a = λ t h. absurd h
whole_in (ts ∷ levels) zero a = a.0
whole_in (ts ∷ levels) (suc n) a = whole_in levels n a.1

same_length : (last : ℕ) (shape : List (List TableFile)) (levels : List (List Table))
    → AreLevelsOf last shape levels → length levels ≡ length shape
same_length last [] [] a = refl
same_length last [] (ts ∷ levels) a = absurd a
same_length last (fs ∷ shape) [] a = absurd a
same_length last (fs ∷ shape) (ts ∷ levels) a = ap suc (same_length last shape levels a.1)

-- ---- tables in place are those that were read

pub level_placed : (read : List (List Table)) (n : ℕ) (t : Table)
    → Has (level_in (placed_levels read) n) t → Has (level_in read n) t
level_placed [] n t h = absurd h
level_placed (ts ∷ read) zero t h = elim (all_has ts [] t h) [ inl a ↦ a | inr b ↦ absurd b ]
level_placed (ts ∷ read) (suc n) t h = level_placed read n t h

pub files_read : (read : List (List Table)) (F : File) → Has (files_from 0 (placed_levels read)) F
    → Has (files_from 0 read) F
files_read read F h = let r = file_in 0 (placed_levels read) F h in subst (Has (files_from 0 read))
    r.3 (in_files 0 read r.0 r.1 (level_placed read r.0 r.1 r.2))

-- ---- each table is a file's

abbrev pub FileFor : ℕ → List TableFile → Table → Type 0
FileFor last files t = (f : TableFile) × Has files f × IsFileOf last f t

file_for : (last : ℕ) (files : List TableFile) (ts : List Table) → AreFilesOf last files ts
    → (t : Table) → Has ts t → FileFor last files t
file_for last [] [] a t h = absurd h
file_for last [] (u ∷ ts) a t h = absurd a
file_for last (f ∷ files) [] a t h = absurd h
file_for last (f ∷ files) (u ∷ ts) a t (inl e) = (f, inl refl, subst (IsFileOf last f) e a.0)
file_for last (f ∷ files) (u ∷ ts) a t (inr h) = (let r = file_for last files ts a.1 t h
    in (r.0, inr r.1, r.2))

level_for : (last : ℕ) (shape : List (List TableFile)) (read : List (List Table))
    → AreLevelsOf last shape read → (n : ℕ) (t : Table) → Has (level_in read n) t
    → FileFor last (get_or shape n []) t
level_for last [] [] a n t h = absurd h
level_for last [] (ts ∷ read) a n t h = absurd a
level_for last (fs ∷ shape) [] a n t h = absurd h
level_for last (fs ∷ shape) (ts ∷ read) a zero t h = file_for last fs ts a.0 t h
level_for last (fs ∷ shape) (ts ∷ read) a (suc n) t h = level_for last shape read a.1 n t h

pub whole_of : (last : ℕ) (f : TableFile) (t : Table) → IsFileOf last f t → IsWhole t
whole_of last f t i = record {
  range = i.image.spanned.range;
  table = i.image.table;
  smallest = subst (λ (b : List ℕ). IsKey b i.image.spanned.range.smallest) (sym i.smallest)
      i.image.spanned.first;
  largest = subst (λ (b : List ℕ). IsKey b i.image.spanned.range.largest) (sym i.largest)
      i.image.spanned.end;
  entries = i.image.spanned.spans;
}

levels_each : (levels : List (List Table)) → ((n : ℕ) (t : Table) → Has (level_in levels n) t
    → IsWhole t) → AreLevelsWhole levels
levels_each [] f = tt
levels_each (ts ∷ levels) f = (λ t h. f zero t h, levels_each levels (λ n t h. f (suc n) t h))

pub placed_whole : (last : ℕ) (shape : List (List TableFile)) (read : List (List Table))
    → AreLevelsOf last shape read → AreLevelsWhole (placed_levels read)
placed_whole last shape read a =
    levels_each (placed_levels read)
    (λ n t h. (let r = level_for last shape read a n t (level_placed read n t h) in whole_of
    last r.0 t r.2))

-- ---- no two files have one number

stands : (n : ℕ) (ns : List ℕ) → Has ns n → 1 ≤ times n ns
stands n [] h = absurd h
stands n (a ∷ ns) (inl e) =
    let here : (a == n) ≡ true = eq-eqb a n e in
    let more : times n (a ∷ ns) ≡ 1 + times n ns = one_more n a ns
    ∙ ap (λ (b : Bool). cond b 1 0 + times n ns) here in omega arith
stands n (a ∷ ns) (inr h) = let more = one_more n a ns in let rest = stands n ns h in omega arith

numbers : List File → List ℕ
numbers [] = []
numbers (F ∷ Fs) = F.number ∷ numbers Fs

numbers-append : (Fs Gs : List File) → numbers (Fs ++ Gs) ≡ numbers Fs ++ numbers Gs
unfolding numbers
numbers-append [] Gs = refl
numbers-append (F ∷ Fs) Gs = ap (λ (ns : List ℕ). F.number ∷ ns) (numbers-append Fs Gs)

has_number : (Fs : List File) (F : File) → Has Fs F → Has (numbers Fs) F.number
unfolding numbers
has_number [] F h = absurd h
has_number (G ∷ Fs) F (inl e) = inl (ap (λ (X : File). X.number) e)
has_number (G ∷ Fs) F (inr h) = inr (has_number Fs F h)

pub twice : (n a : ℕ) (ns : List ℕ) → AreDistinct (a ∷ ns) → a ≡ n → Has ns n → ⊥
twice n a ns d e h =
    let here : (a == n) ≡ true = eq-eqb a n e in
    let more : times n (a ∷ ns) ≡ 1 + times n ns = one_more n a ns
    ∙ ap (λ (b : Bool). cond b 1 0 + times n ns) here in
    let rest = stands n ns h in let few = d n in absurd (omega arith)

pub distinct_rest : (a : ℕ) (ns : List ℕ) → AreDistinct (a ∷ ns) → AreDistinct ns
distinct_rest a ns d n = let more = one_more n a ns in let few = d n in omega arith

one_file : (Fs : List File) → AreDistinct (numbers Fs) → (F G : File) → Has Fs F → Has Fs G
    → F.number ≡ G.number → F ≡ G
unfolding numbers
one_file [] d F G hF hG e = absurd hF
one_file (X ∷ Fs) d F G (inl a) (inl b) e = sym a ∙ b
one_file (X ∷ Fs) d F G (inl a) (inr h) e = absurd (twice G.number X.number (numbers Fs) d
    (ap (λ (Z : File). Z.number) a ∙ e) (has_number Fs G h))
one_file (X ∷ Fs) d F G (inr h) (inl b) e = absurd (twice F.number X.number (numbers Fs) d
    (ap (λ (Z : File). Z.number) b ∙ sym e) (has_number Fs F h))
one_file (X ∷ Fs) d F G (inr h) (inr k) e = one_file Fs (distinct_rest X.number (numbers Fs) d) F G
    h k e

level_numbers : (last m : ℕ) (files : List TableFile) (ts : List Table) → AreFilesOf last files ts
    → numbers (files_of m ts) ≡ file_numbers files
unfolding numbers
level_numbers last m [] [] a = refl
level_numbers last m [] (t ∷ ts) a = absurd a
level_numbers last m (f ∷ files) [] a = absurd a
level_numbers last m (f ∷ files) (t ∷ ts) a = ap (λ (n : ℕ). n ∷ numbers (files_of m ts))
    a.0.number ∙ ap (λ (ns : List ℕ). f.number ∷ ns) (level_numbers last m files ts a.1)

all_numbers : (last m : ℕ) (shape : List (List TableFile)) (read : List (List Table))
    → AreLevelsOf last shape read → numbers (files_from m read) ≡ numbers_of shape
unfolding numbers
all_numbers last m [] [] a = refl
all_numbers last m [] (ts ∷ read) a = absurd a
all_numbers last m (fs ∷ shape) [] a = absurd a
all_numbers last m (fs ∷ shape) (ts ∷ read) a =
    numbers-append (files_of m ts) (files_from (suc m) read)
    ∙ ap (λ (ns : List ℕ). ns ++ numbers (files_from (suc m) read)) (level_numbers last m fs ts a.0)
    ∙ ap (λ (ns : List ℕ). file_numbers fs ++ ns) (all_numbers last (suc m) shape read a.1)

pub one_number : (last : ℕ) (shape : List (List TableFile)) (read : List (List Table))
    → AreLevelsOf last shape read → AreDistinct (numbers_of shape)
    → (F G : File) → Has (files_from 0 read) F → Has (files_from 0 read) G → F.number ≡ G.number
    → F ≡ G
one_number last shape read a d = one_file (files_from 0 read)
    (subst AreDistinct (sym (all_numbers last 0 shape read a)) d)

-- ---- files of a level in order

range_in : (ts : List Table) (rs : List Range) → AreRangesOf ts rs → (t : Table) → Has ts t
    → (r : Range) × Has rs r × IsKey t.smallest r.smallest × IsKey t.largest r.largest
range_in [] rs a t h = absurd h
range_in (u ∷ ts) [] a t h = absurd a
range_in (u ∷ ts) (r ∷ rs) a t (inl e) = (
  r,
  inl refl,
  subst (λ (x : Table). IsKey x.smallest r.smallest) e a.0,
  subst
      (λ (x : Table). IsKey x.largest r.largest) e a.1,
)
range_in (u ∷ ts) (r ∷ rs) a t (inr h) = (let s = range_in ts rs a.2 t h
    in (s.0, inr s.1, s.2, s.3))

-- the tables' ranges have no internal key in common
record Clear (t u : Table) : Type 0 where
  r : Range
  s : Range
  small : IsKey t.smallest r.smallest
  large : IsKey t.largest r.largest
  other_small : IsKey u.smallest s.smallest
  other_large : IsKey u.largest s.largest
  none : MeetInKeys r s → ⊥

clear_keys : (t u : Table) (r s : Range) → IsKey t.smallest r.smallest → IsKey t.largest r.largest
    → IsKey u.smallest s.smallest → IsKey u.largest s.largest → (MeetInKeys r s → ⊥) → Clear t u
clear_keys t u r s a b c d none = record {
  r = r;
  s = s;
  small = a;
  large = b;
  other_small = c;
  other_large = d;
  none = none;
}

pair_clear : (ts : List Table) (rs : List Range) → AreRangesOf ts rs
    → EachPair (λ a b. MeetInKeys a b → ⊥) rs → (t u : Table) → Has ts t → Has ts u → (t ≡ u)
    ⊎ (Clear t u ⊎ Clear u t)
pair_clear [] rs a p t u ht hu = absurd ht
pair_clear (x ∷ ts) [] a p t u ht hu = absurd a
pair_clear (x ∷ ts) (r ∷ rs) a p t u (inl e) (inl f) = inl (sym e ∙ f)
pair_clear (x ∷ ts) (r ∷ rs) a p t u (inl e) (inr h) =
    let s = range_in ts rs a.2 u h in inr
    (inl (subst (λ (y : Table). Clear y u) e (clear_keys x u r s.0 a.0 a.1 s.2 s.3
    (p.0 s.0 s.1))))
pair_clear (x ∷ ts) (r ∷ rs) a p t u (inr h) (inl f) =
    let s = range_in ts rs a.2 t h in inr
    (inr (subst (λ (y : Table). Clear y t) f (clear_keys x t r s.0 a.0 a.1 s.2 s.3
    (p.0 s.0 s.1))))
pair_clear (x ∷ ts) (r ∷ rs) a p t u (inr h) (inr k) = pair_clear ts rs a.2 p.1 t u h k

each_clear : (rs : List Range) → EachPair (λ a b. ShareUsers a b → ⊥) rs
    → EachPair (λ a b. MeetInKeys a b → ⊥) rs
each_clear [] p = tt
each_clear (a ∷ rs) p = (
  λ b h m. p.0 b h (
    key_le_user a.smallest b.largest m.0,
    key_le_user
        b.smallest a.largest m.1,
  ),
  each_clear rs p.1,
)

meet_nowhere : (ts : List Table) → MeetNowhere ts → (rs : List Range) × AreRangesOf ts rs
    × EachPair (λ a b. MeetInKeys a b → ⊥) rs
meet_nowhere ts (inl l) = (l.0, l.1, l.2.0)
meet_nowhere ts (inr l) = (l.0, l.1, each_clear l.0 l.2)

-- whole tables whose ranges are clear of one another are files in order
clear_in_order : (m n : ℕ) (t u : Table) → IsWhole t → IsWhole u → Clear t u
    → InOrder (file_of m t) (file_of n u)
clear_in_order m n t u wt wu c = entries_in_order (entries_in t.image) (entries_in u.image)
    wt.range wu.range wt.entries wu.entries (λ k. c.none (
      subst (λ (a : InternalKey). KeyLe a c.s.largest) (IsKey-unique t.smallest wt.range.smallest
          c.r.smallest wt.smallest c.small)
          (subst (λ (b : InternalKey). KeyLe wt.range.smallest b)
          (IsKey-unique u.largest wu.range.largest c.s.largest wu.largest c.other_large) k.0),
      subst (λ (a : InternalKey). KeyLe a c.r.largest) (IsKey-unique u.smallest wu.range.smallest
          c.s.smallest wu.smallest c.other_small)
          (subst (λ (b : InternalKey). KeyLe wu.range.smallest b)
          (IsKey-unique t.largest wt.range.largest c.r.largest wt.largest c.large) k.1),
    ))

other_way : (F G : File) → InOrder F G → InOrder G F
other_way F G (inl a) = inr a
other_way F G (inr a) = inl a

-- ---- the law of the version

pub length-placed : (read : List (List Table)) → length (placed_levels read) ≡ length read
length-placed [] = refl
length-placed (ts ∷ read) = ap suc (length-placed read)

ordered_files : (levels : List (List Table)) → length levels ≡ 7 → LieInOrder levels
    → ((n : ℕ) (t : Table) → Has (level_in levels n) t → IsWhole t) → (F G : File)
    → Has (files_from 0 levels) F → Has (files_from 0 levels) G
    → F.level ≡ G.level → 1 ≤ F.level → (F.number ≡ G.number → ⊥) → InOrder F G
ordered_files levels seven order whole F G hF hG same pos ne =
    let f = file_in 0 levels F hF in
    let g = file_in 0 levels G hG in
    let lf : f.0 ≡ F.level = (let e = ap (λ (D : File). D.level) f.3 in omega arith) in
    let lg : g.0 ≡ f.0 = (let e = ap (λ (D : File). D.level) g.3 in omega arith) in
    let there : Has (level_in levels f.0) g.1 = subst (λ (n : ℕ). Has (level_in levels n) g.1) lg
    g.2 in
    let most : f.0 ≤ 6 = (let lt = inside levels f.0 f.1 f.2 in omega arith) in
    let lies = meet_nowhere (level_in levels f.0) (order f.0 (omega arith) most) in
    let wf = whole f.0 f.1 f.2 in
    let wg = whole g.0 g.1 g.2 in
    subst (λ (D : File). InOrder D G) f.3 (subst (λ (D : File). InOrder (file_of (0 + f.0) f.1) D)
    g.3 (
    elim (pair_clear (level_in levels f.0) lies.0 lies.1 lies.2 f.1 g.1 f.2 there) [
      | inl e ↦ absurd (ne (ap (λ (D : File). D.number) (sym f.3) ∙ ap (λ (t : Table). t.number) e
          ∙ ap (λ (D : File). D.number) g.3))
      | inr o ↦ elim o [
        | inl c ↦ clear_in_order (0 + f.0) (0 + g.0) f.1 g.1 wf wg c
        | inr c ↦ other_way (file_of (0 + g.0) g.1) (file_of (0 + f.0) f.1)
            (clear_in_order (0 + g.0) (0 + f.0) g.1 f.1 wg wf c)
      ]
    ]
    ))

pub placed_tables : (last : ℕ) (shape : List (List TableFile)) (read : List (List Table))
    → AreLevelsOf last shape read → (n : ℕ) (t : Table) → Has (level_in (placed_levels read) n) t
    → IsWhole t
placed_tables last shape read a n t h = whole_in (placed_levels read) n
    (placed_whole last shape read a) t h

pub files_fit : (last : ℕ) (shape : List (List TableFile)) (read : List (List Table))
    → AreLevelsOf last shape read → (F : File) → Has (files_from 0 (placed_levels read)) F → Fits F
files_fit last shape read a F h = let r = file_in 0 (placed_levels read) F h in subst Fits r.3
    (table_fits (0 + r.0) r.1 (placed_tables last shape read a r.0 r.1 r.2))

pub sound_version : (last : ℕ) (shape : List (List TableFile)) (read : List (List Table))
    (pointers : List (Option (List ℕ))) → length shape ≡ 7 → AreLevelsOf last shape read
    → AreDistinct (numbers_of shape) → LieInOrder (placed_levels read)
    → KeepsAge (files_from 0 (placed_levels read))
    → IsSound (record { tables = placed_levels read; pointers = pointers; last = last })
sound_version last shape read pointers seven a d apart ages =
    let levels : List (List Table) = placed_levels read in
    let long : length levels ≡ 7 = length-placed read ∙ same_length last shape read a ∙ seven in
    let whole : (n : ℕ) (t : Table) → Has (level_in levels n) t → IsWhole t = placed_tables last
    shape read a in
    record {
      lawful = record {
        fits = files_fit last shape read a;
        numbers = λ F G hF hG e. one_number last shape read a d F G (files_read read F hF)
            (files_read read G hG) e;
        in_order = ordered_files levels long apart whole;
        depth = ages;
      };
      tables = whole;
      reached = λ F e hF he.
          let r = file_in 0 read F (files_read read F hF) in
          let f = level_for last shape read a r.0 r.1 r.2 in
          f.2.image.spanned.reached e (subst (λ (X : File). Has X.entries e) (sym r.3) he);
    }
