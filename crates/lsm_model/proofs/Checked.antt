-- What is judged of the tables of all levels makes a lawful version.
use Rattle.std.proofs.Common.{◌≡◌, zero, suc, ℕ, ◌+◌, ◌≤◌, List, [], ◌∷◌, refl, sym, ◌∙◌, ap, subst, inl, inr, arith}
use Rattle.std.specs.Prelude.{◌⊎◌}
use Rattle.lsm_codec.specs.Keys.{InternalKey}
use Rattle.lsm_codec.specs.Lists.{Has}
use Rattle.lsm_codec.proofs.CallerLemmas.{has_cases}
use Rattle.lsm_model.specs.Checking.{Listed, IsRangeOf, ranges_of, file_at, files_at, files_from, level_in, IsJudged}
use Rattle.lsm_model.specs.Files.{File, InOrder, Fits, IsLawful}
use Rattle.lsm_model.specs.Merging.{Placed}
use Rattle.lsm_model.specs.Ranges.{Range, EachPair, MeetInKeys}
use Rattle.lsm_model.proofs.Cuts.{ends_fits}
use Rattle.lsm_model.proofs.InOrders.{entries_in_order}

-- the file of a table whose range is that of its entries
pub file_fits : (level : ℕ) (t : Listed) → IsRangeOf t.entries t.range → Fits (file_at level t)
file_fits level t r = ends_fits (file_at level t) record {
  first = (r.first.0, r.first.1, r.first.2, ap (λ (k : InternalKey). k.user) r.first.3);
  last = (r.last.0, r.last.1, r.last.2, ap (λ (k : InternalKey). k.user) r.last.3);
} r.ascending

files_at_has : (level : ℕ) (ts : List Listed) (F : File) → Has (files_at level ts) F → (t : Listed) × Has ts t × (file_at level t ≡ F)
files_at_has level [] F h = absurd h
files_at_has level (t ∷ ts) F (inl e) = (t, inl refl, e)
files_at_has level (t ∷ ts) F (inr h) = (let r = files_at_has level ts F h in (r.0, inr r.1, r.2))

-- where a file comes from
pub file_from : (m : ℕ) (levels : List (List Listed)) (F : File) → Has (files_from m levels) F
    → (n : ℕ) × (t : Listed) × Has (level_in levels n) t × (file_at (m + n) t ≡ F)
file_from m [] F h = absurd h
file_from m (ts ∷ levels) F h = elim (has_cases (files_at m ts) (files_from (suc m) levels) F h) [
  | inl a ↦ (let r = files_at_has m ts F a in
      let here : m + 0 ≡ m = omega arith in
      (zero, r.0, r.1, ap (λ (n : ℕ). file_at n r.0) here ∙ r.2))
  | inr b ↦ (let r = file_from (suc m) levels F b in
      let there : m + suc r.0 ≡ suc m + r.0 = omega arith in
      (suc r.0, r.1, r.2, ap (λ (n : ℕ). file_at n r.1) there ∙ r.3))
]

-- two tables of a list, one way round or the other
pair_of : (P : Range → Range → Type 0) (ts : List Listed) → EachPair P (ranges_of ts) → (a b : Listed) → Has ts a → Has ts b
    → (a ≡ b) ⊎ (P a.range b.range ⊎ P b.range a.range)
pair_of P [] p a b ha hb = absurd ha
pair_of P (t ∷ ts) p a b (inl e) (inl f) = inl (sym e ∙ f)
pair_of P (t ∷ ts) p a b (inl e) (inr h) = inr (inl (subst (λ (x : Listed). P x.range b.range) e (p.0 b.range (range_in ts b h))))
  where
    range_in : (us : List Listed) (u : Listed) → Has us u → Has (ranges_of us) u.range
    range_in [] u k = absurd k
    range_in (v ∷ us) u (inl s) = inl (ap (λ (x : Listed). x.range) s)
    range_in (v ∷ us) u (inr k) = inr (range_in us u k)
pair_of P (t ∷ ts) p a b (inr h) (inl f) = inr (inr (subst (λ (x : Listed). P x.range a.range) f (p.0 a.range (range_in ts a h))))
  where
    range_in : (us : List Listed) (u : Listed) → Has us u → Has (ranges_of us) u.range
    range_in [] u k = absurd k
    range_in (v ∷ us) u (inl s) = inl (ap (λ (x : Listed). x.range) s)
    range_in (v ∷ us) u (inr k) = inr (range_in us u k)
pair_of P (t ∷ ts) p a b (inr h) (inr k) = pair_of P ts p.1 a b h k

-- ranges without a common internal key are those of files in order
pub ranges_in_order : (m n : ℕ) (a b : Listed) → IsRangeOf a.entries a.range → IsRangeOf b.entries b.range → (MeetInKeys a.range b.range → ⊥) → InOrder (file_at m a) (file_at n b)
ranges_in_order m n a b ra rb none = entries_in_order a.entries b.entries a.range b.range ra rb none

pub judged_lawful : (levels : List (List Listed)) (depth : File → ℕ) (placed : List Placed) → IsJudged levels depth placed → IsLawful (files_from 0 levels)
judged_lawful levels depth placed j = record {
  fits = λ F h. (let r = file_from 0 levels F h in subst Fits r.3 (file_fits (0 + r.0) r.1 (j.ranges r.0 r.1 r.2)));
  numbers = j.numbers;
  in_order = λ F G hF hG same pos ne. in_order F G (file_from 0 levels F hF) (file_from 0 levels G hG) same pos ne;
  depth = λ F G x y hF hG s kx ky same. j.ages (depth F, x) (depth G, y) (j.all F x hF kx) (j.all G y hG ky) same (j.depths F G hF hG s);
}
  where
    in_order : (F G : File) → ((n : ℕ) × (t : Listed) × Has (level_in levels n) t × (file_at (0 + n) t ≡ F)) → ((n : ℕ) × (t : Listed) × Has (level_in levels n) t × (file_at (0 + n) t ≡ G))
        → F.level ≡ G.level → 1 ≤ F.level → (F.number ≡ G.number → ⊥) → InOrder F G
    in_order F G f g same pos ne =
        let lf : f.0 ≡ F.level = (let e = ap (λ (D : File). D.level) f.3 in omega arith) in
        let lg : g.0 ≡ G.level = (let e = ap (λ (D : File). D.level) g.3 in omega arith) in
        let level : g.0 ≡ f.0 = omega arith in
        let there : Has (level_in levels f.0) g.1 = subst (λ (n : ℕ). Has (level_in levels n) g.1) level g.2 in
        elim (pair_of (λ a b. MeetInKeys a b → ⊥) (level_in levels f.0) (j.apart f.0 (omega arith)) f.1 g.1 f.2 there) [
          | inl e ↦ absurd (ne (ap (λ (D : File). D.number) (sym f.3) ∙ ap (λ (t : Listed). t.number) e ∙ ap (λ (D : File). D.number) g.3))
          | inr o ↦ elim o [
            | inl p ↦ moved p
            | inr p ↦ moved (λ m. p (m.1, m.0))
          ]
        ]
      where
        moved : (MeetInKeys f.1.range g.1.range → ⊥) → InOrder F G
        moved p = subst (λ (D : File). InOrder D G) f.3 (subst (λ (D : File). InOrder (file_at (0 + f.0) f.1) D) g.3
            (ranges_in_order (0 + f.0) (0 + g.0) f.1 g.1 (j.ranges f.0 f.1 f.2) (j.ranges g.0 g.1 g.2) p))
