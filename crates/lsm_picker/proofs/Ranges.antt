-- The ranges of the files below a level, level by level.
use Rattle.std.proofs.Common.{◌≡◌, ℕ, suc, ◌+◌, ◌<◌, ◌≤◌, List, [], ◌∷◌, ◌++◌, length, refl, sym, ap, subst, inl, inr, arith}
use Rattle.std.proofs.lemmas.Bool.{cases_lt}
use Rattle.lsm_codec.specs.Keys.{UserKey}
use Rattle.lsm_codec.specs.Lists.{Has}
use Rattle.lsm_codec.proofs.CallerLemmas.{has_cases, has_left, has_right}
use Rattle.lsm_table.specs.Registry.{Table}
use Rattle.lsm_model.specs.Files.{File}
use Rattle.lsm_version.specs.Versions.{Levels, file_of, files, level_in, user_of}
use Rattle.lsm_picker.specs.RangesBelow.{AreRangesBelow, ranges_of}
use Rattle.lsm_picker.proofs.LevelFiles.{files_in, in_files, level_below}

range_has : (ts : List Table) (t : Table) → Has ts t → Has (ranges_of ts) (user_of t.smallest, user_of t.largest)
range_has [] t h = absurd h
range_has (u ∷ ts) t (inl e) = inl (ap (λ (x : Table). (user_of x.smallest, user_of x.largest)) e)
range_has (u ∷ ts) t (inr h) = inr (range_has ts t h)

has_range : (ts : List Table) (r : UserKey × UserKey) → Has (ranges_of ts) r → (t : Table) × Has ts t × ((user_of t.smallest, user_of t.largest) ≡ r)
has_range [] r h = absurd h
has_range (u ∷ ts) r (inl e) = (u, inl refl, e)
has_range (u ∷ ts) r (inr h) = (let k = has_range ts r h in (k.0, inr k.1, k.2))

-- the ranges of the files two or more levels below, and above the end
pub record AreRangesTo (v : Levels) (level end : ℕ) (ranges : List (UserKey × UserKey)) : Type 0 where
  pub deep : suc (suc level) ≤ end
  pub all : (F : File) → Has (files v) F → suc (suc level) ≤ F.level → F.level < end → Has ranges (F.low, F.high)
  pub only : (r : UserKey × UserKey) → Has ranges r → (F : File) × Has (files v) F × (suc (suc level) ≤ F.level) × ((F.low, F.high) ≡ r)

pub ranges_more : (v : Levels) (level end : ℕ) (old new : List (UserKey × UserKey)) → new ≡ old ++ ranges_of (level_in v.tables end) → AreRangesTo v level end old → AreRangesTo v level (end + 1) new
ranges_more v level end old new is a = record {
  deep = (let d = a.deep in omega arith);
  all = λ F h low lt. subst (λ (rs : List (UserKey × UserKey)). Has rs (F.low, F.high)) (sym is) (elim (cases_lt F.level end) [
    | inl less ↦ has_left old (ranges_of (level_in v.tables end)) (F.low, F.high) (a.all F h low less)
    | inr more ↦ (let k = files_in v end F h (omega arith) in
        has_right old (ranges_of (level_in v.tables end)) (F.low, F.high) (subst (λ (G : File). Has (ranges_of (level_in v.tables end)) (G.low, G.high)) k.2 (range_has (level_in v.tables end) k.0 k.1)))
  ]);
  only = λ r h. elim (has_cases old (ranges_of (level_in v.tables end)) r (subst (λ (rs : List (UserKey × UserKey)). Has rs r) is h)) [
    | inl before ↦ a.only r before
    | inr here ↦ (let k = has_range (level_in v.tables end) r here in (file_of end k.0, in_files v end k.0 k.1, a.deep, k.2))
  ];
}

pub ranges_done : (v : Levels) (level end : ℕ) (ranges : List (UserKey × UserKey)) → length v.tables ≡ 7 → 7 ≤ end → AreRangesTo v level end ranges → AreRangesBelow v level ranges
ranges_done v level end ranges seven past a = record { all = λ F h low. a.all F h low (let lt = level_below v F h in omega arith); only = a.only }
