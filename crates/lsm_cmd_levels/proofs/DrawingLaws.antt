-- Bars one after another, and the heights of levels.
use Rattle.std.proofs.Common.{◌≡◌, ℕ, suc, ◌+◌, ◌<◌, ◌≤◌, List, ◌++◌, Option, length, get_or}
use Rattle.std.proofs.Common.{drop, refl, sym, ap, ◌∙◌, subst, append_assoc, append-nil, arith}
use Rattle.std.proofs.lemmas.List.{drop_more, drop_all}
use Rattle.lsm_manifest.specs.declared.file_meta.FileMeta.{FileMeta}
use Rattle.lsm_manifest.specs.declared.shape.Shape.{Shape}
use Rattle.lsm_text.specs.declared.form.Form.{Form}
use Rattle.lsm_cmd_levels.specs.Drawing.{bar, bars_from, height_of, top_of}
use Rattle.lsm_cmd_levels.specs.Axis.{room}
use Rattle.lsm_cmd_levels.specs.Sums.{files_at}
use Rattle.lsm_cmd_levels.specs.declared.due.Due.{Due}

module _ (form : Form) (s : Shape) (due : Option Due) (level : ℕ) where
  pub bars_more : (fs : List FileMeta) (i : ℕ) (x : FileMeta) (before after whole : List ℕ) → i < length fs → x ≡ get_or fs i x
      → before ++ bars_from form s due level i (drop i fs) ≡ whole → after ≡ before ++ bar form s due level i x → after ++ bars_from form s due level (i + 1) (drop (i + 1) fs) ≡ whole
  unfolding bars_from
  bars_more fs i x before after whole lt is so_far added =
      let one : suc i ≡ i + 1 = omega arith in
      let later : List ℕ = bars_from form s due level (suc i) (drop (i + 1) fs) in
      let next : bars_from form s due level i (drop i fs) ≡ bar form s due level i x ++ later =
      ap (bars_from form s due level i) (drop_more fs i x lt) ∙ ap (λ (y : FileMeta). bar form s due level i y ++ later) (sym is) in
      ap (λ (k : ℕ). after ++ bars_from form s due level k (drop (i + 1) fs)) (sym one) ∙ ap (λ (t : List ℕ). t ++ later) added ∙ append_assoc before (bar form s due level i x) later
      ∙ ap (λ (t : List ℕ). before ++ t) (sym next) ∙ so_far

  pub bars_all : (fs : List FileMeta) (i : ℕ) (text whole : List ℕ) → length fs ≤ i → text ++ bars_from form s due level i (drop i fs) ≡ whole → text ≡ whole
  unfolding bars_from
  bars_all fs i text whole past so_far = sym (ap (λ (gs : List FileMeta). text ++ bars_from form s due level i gs) (drop_all i fs past) ∙ append-nil text) ∙ so_far

pub top_more : (s : Shape) (n before after one : ℕ) → before ≡ top_of s n → one ≡ height_of n (length (files_at s n)) → after ≡ before + one → after ≡ top_of s (n + 1)
unfolding top_of
top_more s n before after one so_far is added =
    let next : n + 1 ≡ suc n = omega arith in
    subst (λ m. after ≡ top_of s m) (sym next) (added ∙ ap (λ (k : ℕ). k + one) so_far ∙ ap (λ (k : ℕ). top_of s n + k) is)

pub top_none : (s : Shape) → 0 ≡ top_of s 0
unfolding top_of
top_none s = refl

-- there is room
pub room_some : (s : Shape) (n : ℕ) → n ≡ room s → 0 < n
unfolding room
room_some s n is = omega (arith, is)
