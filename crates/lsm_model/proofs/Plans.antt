-- The job of a closed plan is open.
use Rattle.std.proofs.Common.{◌≡◌, ℕ, suc, ◌≤◌, ◌<◌, true, false, List, sym, ◌∙◌, ap, subst, inl, inr, arith}
use Rattle.std.specs.Prelude.{◌⊎◌, ◌&&◌}
use Rattle.std.proofs.lemmas.Bool.{both_ways, and_from}
use Rattle.lsm_codec.specs.Entries.{Entry}
use Rattle.lsm_codec.specs.Keys.{UserKey, UserLe, user_le}
use Rattle.lsm_codec.specs.Lists.{Has}
use Rattle.lsm_codec.proofs.CallerLemmas.{user_le_trans, user_le_total, any_at, has_left, has_right, has_cases}
use Rattle.lsm_model.specs.Files.{File, Meets, Fits, IsLawful}
use Rattle.lsm_model.specs.Jobs.{Job, is_input, IsOpenIn}
use Rattle.lsm_model.specs.Kept.{covers}
use Rattle.lsm_model.specs.Plans.{IsLinked, starting, meeting, Plan, IsClosed, IsJobOf}
use Rattle.lsm_model.proofs.Installs.{input_from}
use Rattle.lsm_model.proofs.Beside.{share_meets}

pub linked_in : (v : List File) (level : ℕ) (Start : File → Type 0) (F : File) → IsLinked v level Start F → Has v F × (F.level ≡ level)
linked_in v level Start F (starting _ h at s) = (h, at)
linked_in v level Start F (meeting E _ l h at m) = (h, at)

pub low_high : (F : File) → Fits F → UserLe F.low F.high
low_high F fit = (let e = fit.first in subst (λ (k : UserKey). UserLe k F.high) e.2 (fit.below e.0 e.1))

-- a file g of the level that reaches down to a linked one, and ends before the range begins, is
-- linked
pub linked_left : (v : List File) (level : ℕ) (from to : UserKey) (g : File) → UserLe g.low g.high → Has v g → g.level ≡ level → UserLe g.high from
    → (w : File) → IsLinked v level (λ G. Meets G from to) w → UserLe w.low g.high → IsLinked v level (λ G. Meets G from to) g
linked_left v level from to g own hg at before w (starting _ h e s) le =
    meeting w g (starting w h e s) hg at (user_le_trans g.low g.high w.high own (user_le_trans g.high from w.high before s.1), le)
linked_left v level from to g own hg at before w (meeting F _ l h e m) le = elim (user_le_total F.low g.high) [
  | inl under ↦ linked_left v level from to g own hg at before F l under
  | inr over ↦ meeting w g (meeting F w l h e m) hg at (user_le_trans g.low g.high w.high own (user_le_trans g.high F.low w.high over m.1), le)
]

pub linked_right : (v : List File) (level : ℕ) (from to : UserKey) (g : File) → UserLe g.low g.high → Has v g → g.level ≡ level → UserLe to g.low
    → (w : File) → IsLinked v level (λ G. Meets G from to) w → UserLe g.low w.high → IsLinked v level (λ G. Meets G from to) g
linked_right v level from to g own hg at after w (starting _ h e s) le =
    meeting w g (starting w h e s) hg at (le, user_le_trans w.low g.low g.high (user_le_trans w.low to g.low s.0 after) own)
linked_right v level from to g own hg at after w (meeting F _ l h e m) le = elim (user_le_total g.low F.high) [
  | inl under ↦ linked_right v level from to g own hg at after F l under
  | inr over ↦ meeting w g (meeting F w l h e m) hg at (le, user_le_trans w.low g.low g.high (user_le_trans w.low F.high g.low m.0 over) own)
]

-- a file of the output level that meets the hull of a closed plan is one of its lower inputs
hull_closed : (v : List File) (Start : File → Type 0) (plan : Plan) → IsLawful v → IsClosed v Start plan
    → (g : File) → Has v g → g.level ≡ suc plan.level → Meets g plan.low plan.high → Has plan.lower g
hull_closed v Start plan l c g hg at m = c.lower_all g linked
  where
    own : UserLe g.low g.high
    own = low_high g (l.fits g hg)

    Near : File → Type 0
    Near G = Meets G c.from c.to

    order : UserLe c.from c.to
    order = (let e = c.range.least in let F = e.0 in user_le_trans c.from F.low c.to (c.range.above F e.1)
        (user_le_trans F.low F.high c.to (low_high F (l.fits F (linked_in v plan.level Start F (c.upper_from F e.1)).0)) (c.range.below F e.1)))

    left : UserLe g.high c.from → IsLinked v (suc plan.level) (λ G. Meets G c.from c.to) g
    left before = (let e = c.hull.least in let F = e.0 in
        let reach : UserLe F.low g.high = subst (λ (k : UserKey). UserLe k g.high) (sym e.2) m.1 in
        elim (has_cases plan.upper plan.lower F e.1) [
          | inl up ↦ starting g hg at (user_le_trans g.low g.high c.to own (user_le_trans g.high c.from c.to before order), user_le_trans c.from F.low g.high (c.range.above F up) reach)
          | inr down ↦ linked_left v (suc plan.level) c.from c.to g own hg at before F (c.lower_from F down) reach
        ])

    right : UserLe c.to g.low → IsLinked v (suc plan.level) (λ G. Meets G c.from c.to) g
    right after = (let e = c.hull.greatest in let F = e.0 in
        let reach : UserLe g.low F.high = subst (UserLe g.low) (sym e.2) m.0 in
        elim (has_cases plan.upper plan.lower F e.1) [
          | inl up ↦ starting g hg at (user_le_trans g.low F.high c.to reach (c.range.below F up), user_le_trans c.from c.to g.high order (user_le_trans c.to g.low g.high after own))
          | inr down ↦ linked_right v (suc plan.level) c.from c.to g own hg at after F (c.lower_from F down) reach
        ])

    linked : IsLinked v (suc plan.level) (λ G. Meets G c.from c.to) g
    linked = elim (user_le_total c.from g.high) [
      | inl over ↦ elim (user_le_total g.low c.to) [ inl under ↦ starting g hg at (under, over) | inr after ↦ right after ]
      | inr before ↦ left before
    ]

pub plan_opens : (v : List File) (Start : File → Type 0) (plan : Plan) (job : Job) → IsLawful v → IsClosed v Start plan → IsJobOf v plan job → IsOpenIn v job
plan_opens v Start plan job l c j = record {
  inputs = λ F h. (in_version F (is_of F h)).0;
  levels = λ F h. elim (is_of F h) [ inl up ↦ inl (upper_level F up ∙ sym j.level) | inr down ↦ inr (lower_level F down ∙ ap suc (sym j.level)) ];
  hull = λ F h. (let r = subst (λ fs. Has fs F) j.inputs h in
      (subst (λ (k : UserKey). UserLe k F.low) (sym j.low) (c.hull.above F r), subst (UserLe F.high) (sym j.high) (c.hull.below F r)));
  alone = λ F h at m. subst (λ fs. Has fs F) (sym j.inputs) (has_right plan.upper plan.lower F
      (hull_closed v Start plan l c F h (at ∙ ap suc j.level) (subst (UserLe F.low) j.high m.0, subst (λ (k : UserKey). UserLe k F.high) j.low m.1)));
  newer = λ F G x y h at out hG kx ky same. newer F G x y h (at ∙ j.level) out (is_of G hG) kx ky same;
  below = λ F G x y h at hG kx ky same. covered F x y h (subst (λ (n : ℕ). suc (suc n) ≤ F.level) j.level at) kx same;
}
  where
    is_of : (F : File) → Has job.inputs F → Has plan.upper F ⊎ Has plan.lower F
    is_of F h = has_cases plan.upper plan.lower F (subst (λ fs. Has fs F) j.inputs h)

    upper_level : (F : File) → Has plan.upper F → F.level ≡ plan.level
    upper_level F h = (linked_in v plan.level Start F (c.upper_from F h)).1

    lower_level : (F : File) → Has plan.lower F → F.level ≡ suc plan.level
    lower_level F h = (linked_in v (suc plan.level) (λ G. Meets G c.from c.to) F (c.lower_from F h)).1

    in_version : (F : File) → Has plan.upper F ⊎ Has plan.lower F → Has v F × Unit {0}
    in_version F (inl h) = ((linked_in v plan.level Start F (c.upper_from F h)).0, tt)
    in_version F (inr h) = ((linked_in v (suc plan.level) (λ G. Meets G c.from c.to) F (c.lower_from F h)).0, tt)

    newer : (F G : File) (x y : Entry) → Has v F → F.level ≡ plan.level → is_input job F ≡ false → Has plan.upper G ⊎ Has plan.lower G
        → Has F.entries x → Has G.entries y → x.user ≡ y.user → y.seq < x.seq
    newer F G x y h at out (inl up) kx ky same =
        let up_in = c.upper_from G up in
        let F_up : Has plan.upper F = c.upper_all F (meeting G F up_in h at (share_meets F G x y (l.fits F h) (l.fits G (linked_in v plan.level Start G up_in).0) kx ky same)) in
        absurd (both_ways (is_input job F) out (input_from job F (subst (λ fs. Has fs F) (sym j.inputs) (has_left plan.upper plan.lower F F_up))))
    newer F G x y h at out (inr down) kx ky same =
        let level = lower_level G down in
        l.depth F G x y h (in_version G (inr down)).0 (inl (omega arith)) kx ky same

    covered : (F : File) (x y : Entry) → Has v F → suc (suc plan.level) ≤ F.level → Has F.entries x → x.user ≡ y.user → covers job.ranges y.user ≡ true
    covered F x y h at kx same =
        let fit = l.fits F h in
        any_at (λ (r : UserKey × UserKey). user_le r.0 y.user && user_le y.user r.1) job.ranges (F.low, F.high) (j.ranges F h at)
        (and_from (user_le F.low y.user) (user_le y.user F.high) (subst (UserLe F.low) same (fit.above x kx)) (subst (λ (k : UserKey). UserLe k F.high) same (fit.below x kx)))
