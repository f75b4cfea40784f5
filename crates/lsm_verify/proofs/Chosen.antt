-- The tables that a check looks at a second time.
use Rattle.std.proofs.Common.{◌≡◌, ℕ, zero, suc, ◌==◌, List, [], ◌∷◌, length, refl, sym, ◌∙◌, ap, subst, inl, inr}
use Rattle.std.specs.Prelude.{◌==◌}
use Rattle.std.specs.List.{filter}
use Rattle.std.proofs.lemmas.Bool.{eqb-true}
use Rattle.std.proofs.lemmas.List.{length-map}
use Rattle.lsm_codec.specs.Lists.{Has}
use Rattle.lsm_codec.proofs.CallerLemmas.{filter_has, any_says}
use Rattle.lsm_table.specs.Registry.{Table}
use Rattle.lsm_version.specs.Reads.{IsSoundLevel}
use Rattle.lsm_query.specs.Runs.{AreMergeable, IsNumberIn}
use Rattle.lsm_verify.specs.Chosen.{is_among, chosen}
use Rattle.lsm_version.specs.Versions.{files_from, level_in}
use Rattle.lsm_version.proofs.CallerLemmas.{each_after, each_filter, sound_part}
use Rattle.lsm_verify.specs.Settled.{AreUnsettled, IsOneUnsettled}

pub level_in-chosen : (numbers : List ℕ) (levels : List (List Table)) (n : ℕ) → level_in (chosen numbers levels) n ≡ filter (is_among numbers) (level_in levels n)
level_in-chosen numbers [] n = refl
level_in-chosen numbers (ts ∷ levels) zero = refl
level_in-chosen numbers (ts ∷ levels) (suc n) = level_in-chosen numbers levels n

pub length-chosen : (numbers : List ℕ) (levels : List (List Table)) → length (chosen numbers levels) ≡ length levels
length-chosen numbers levels = length-map levels (λ ts. filter (is_among numbers) ts)

pub chosen_mergeable : (numbers : List ℕ) (levels : List (List Table)) → AreMergeable levels → AreMergeable (chosen numbers levels)
chosen_mergeable numbers levels m = record {
  whole = λ n t h. m.whole n t (filter_has (is_among numbers) (level_in levels n) t (subst (λ (ts : List Table). Has ts t) (level_in-chosen numbers levels n) h)).0;
  deeper = λ n pos. subst (IsSoundLevel n) (sym (level_in-chosen numbers levels n))
      (sound_part n (level_in levels n) (filter (is_among numbers) (level_in levels n)) (λ t h. (filter_has (is_among numbers) (level_in levels n) t h).0)
      (each_filter (is_among numbers) (level_in levels n) (each_after (level_in levels n) (m.deeper n pos).order)) (m.deeper n pos));
}

-- the tables that are looked at are those of files that are not settled
pub chosen_unsettled : (numbers : List ℕ) (levels some : List (List Table)) (n : ℕ) → AreUnsettled (files_from 0 levels) numbers → some ≡ chosen numbers levels → IsNumberIn some n
    → IsOneUnsettled (files_from 0 levels) n
chosen_unsettled numbers levels some n un is (level, (t, h, same)) =
    let there : Has (filter (is_among numbers) (level_in levels level)) t = subst (λ (ts : List Table). Has ts t) (ap (λ (ls : List (List Table)). level_in ls level) is ∙ level_in-chosen numbers levels level) h in
    let among = any_says (λ m. m == t.number) numbers (filter_has (is_among numbers) (level_in levels level) t there).1 in
    let number : among.0 ≡ n = eqb-true among.0 t.number among.2 ∙ same in
    elim (un.said among.0 among.1) [
      | inl none ↦ absurd none
      | inr (F, G, both, u, one) ↦ (F, G, both.0, both.1, u, elim one [ inl e ↦ inl (sym number ∙ e) | inr e ↦ inr (sym number ∙ e) ])
    ]
