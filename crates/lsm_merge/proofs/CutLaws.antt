-- Tables whose contents stand in the cut are pieces as an install wants them.
use Rattle.std.proofs.Common.{◌≡◌, ℕ, suc, false, List, [], ◌∷◌, ◌++◌, refl, sym, ◌∙◌, ap, subst, inl, inr}
use Rattle.std.specs.List.{flat_map}
use Rattle.lsm_codec.specs.Lists.{Has}
use Rattle.lsm_codec.specs.Keys.{InternalKey, IsKey}
use Rattle.lsm_codec.specs.Entries.{Entry}
use Rattle.lsm_codec.proofs.CallerLemmas.{take-key_bytes}
use Rattle.lsm_table.specs.Registry.{Table}
use Rattle.lsm_table.specs.HeldTable.{entries_in}
use Rattle.lsm_table.specs.declared.table_options.TableOptions.{TableOptions}
use Rattle.lsm_model.specs.Files.{File, all_entries}
use Rattle.lsm_model.specs.Kept.{kept_entries}
use Rattle.lsm_model.specs.Streams.{CutAtKeys, Ends, IsCut, NumbersRise}
use Rattle.lsm_version.specs.Versions.{IsWhole, file_of, files_of, user_of}
use Rattle.lsm_merge.specs.Compacting.{AreMergedOf}
use Rattle.lsm_merge.specs.Cuts.{AreRightCuts, IsCutBy}
use Rattle.lsm_merge.specs.Outputs.{AreGood, Made}
use Rattle.lsm_merge.specs.Work.{AreKept, IsBuilt, IsFinished, IsMade, IsWork, Work, contents_of, finished}

user_of_key : (bytes : List ℕ) (key : InternalKey) → IsKey bytes key → user_of bytes ≡ key.user
user_of_key bytes key k = ap user_of k.bytes_are ∙ take-key_bytes key

low_is : (t : Table) (w : IsWhole t) → user_of t.smallest ≡ (((w.entries).first).0).user
low_is t w = user_of_key t.smallest (w.range).smallest w.smallest ∙ sym (ap (λ (k : InternalKey). k.user) ((w.entries).first).3)

high_is : (t : Table) (w : IsWhole t) → user_of t.largest ≡ (((w.entries).last).1).user
high_is t w = user_of_key t.largest (w.range).largest w.largest ∙ sym (ap (λ (k : InternalKey). k.user) ((w.entries).last).3)

ends_of : (level : ℕ) (t : Table) → IsWhole t → Ends (file_of level t)
ends_of level t w = record {
  first = (((w.entries).first).0, ((w.entries).first).1, ((w.entries).first).2, sym (low_is t w));
  last = (((w.entries).last).0, ((w.entries).last).1, ((w.entries).last).2, sym (high_is t w));
}

all_ends : (level : ℕ) (ts : List Table) → ((t : Table) → Has ts t → IsWhole t) → (F : File) → Has (files_of level ts) F → Ends F
all_ends level [] f F h = absurd h
all_ends level (t ∷ ts) f F (inl e) = subst Ends e (ends_of level t (f t (inl refl)))
all_ends level (t ∷ ts) f F (inr h) = all_ends level ts (λ u k. f u (inr k)) F h

all_at_level : (level : ℕ) (ts : List Table) (F : File) → Has (files_of level ts) F → F.level ≡ level
all_at_level level [] F h = absurd h
all_at_level level (t ∷ ts) F (inl e) = sym (ap (λ (G : File). G.level) e)
all_at_level level (t ∷ ts) F (inr h) = all_at_level level ts F h

all_contents : (level : ℕ) (ts : List Table) → all_entries (files_of level ts) ≡ flat_map (λ (o : List Entry). o) (contents_of ts)
all_contents level [] = refl
all_contents level (t ∷ ts) = ap (λ (l : List Entry). entries_in t.image ++ l) (all_contents level ts)

at_keys : (size : List Entry → ℕ) (target level : ℕ) (ts : List Table) → ((t : Table) → Has ts t → IsWhole t) → AreRightCuts size target (contents_of ts) → CutAtKeys (files_of level ts)
at_keys size target level [] f r = tt
at_keys size target level (t ∷ []) f r = tt
at_keys size target level (t ∷ u ∷ ts) f r = (
  λ same.
      let wt = f t (inl refl) in
      let wu = f u (inr (inl refl)) in
      (r.0 ((wt.entries).last).0 ((wt.entries).last).1 ((wu.entries).first).0 ((wu.entries).first).1 ((wt.entries).last).2 ((wu.entries).first).2).0
      (sym (high_is t wt) ∙ same ∙ low_is u wu),
  at_keys size target level (u ∷ ts) (λ v k. f v (inr k)) r.1,
)

pub cut_files : (size : List Entry → ℕ) (target level : ℕ) (es : List Entry) (ts : List Table) → ((t : Table) → Has ts t → IsWhole t) → IsCutBy size target es (contents_of ts)
    → NumbersRise (files_of level ts) → IsCut level es (files_of level ts)
cut_files size target level es ts f c rise = record {
  whole = all_contents level ts ∙ c.whole;
  levels = all_at_level level ts;
  ends = all_ends level ts f;
  cuts = at_keys size target level ts f c.right_cuts;
  rising = rise;
}

-- a merge's result is that of a finished job
pub merged_kept : (w : Work) (ts : List Table) → ((t : Table) → Has ts t → IsWhole t) → AreMergedOf w ts → AreKept w ts
merged_kept w ts f a = record {
  merged = a.merged;
  merges = a.merges;
  cut = cut_files (finished w.table) w.target_size (suc w.level) (kept_entries a.merged w.floor w.ranges) ts f (a.is).cuts;
  sizes = (a.is).cuts;
}

pub merge_finished : (Honest : Type 0) (w : Work) (m : Made) → IsWork Honest w → w.is_move ≡ false → AreGood m → m.options ≡ w.table → (Honest → AreMergedOf w m.tables)
    → IsFinished Honest (record { work = w; outputs = m.tables; put = m.put })
merge_finished Honest w m work move good sizes kept = record {
  low = work.low;
  whole = λ honest. good.whole;
  put_whole = λ other. good.whole;
  built = λ other t h. subst (λ (o : TableOptions). IsBuilt o t) sizes (good.built t h);
  made = subst (IsMade Honest (record { work = w; outputs = m.tables; put = m.put })) (sym move) (good.numbers, λ honest. merged_kept w m.tables good.whole (kept honest));
}
