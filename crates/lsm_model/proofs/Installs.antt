-- An install keeps the version lawful, every answer from the floor on, and the other jobs open.
use Rattle.std.proofs.Common.{◌≡◌, ℕ, suc, ◌≤◌, ◌<◌, ◌==◌, true, false, List, refl, sym, ◌∙◌, subst, inl, inr, arith}
use Rattle.std.specs.Prelude.{◌⊎◌}
use Rattle.std.proofs.lemmas.Bool.{eqb-true, eq-eqb, cases_Bool, cases_order, cases_lt, cases_eq, both_ways}
use Rattle.lsm_codec.specs.Entries.{Entry, stamp, answer}
use Rattle.lsm_codec.specs.Keys.{UserKey, UserLe}
use Rattle.lsm_codec.specs.Lists.{Has}
use Rattle.lsm_codec.proofs.CallerLemmas.{user_le_trans, any_at, any_says, has_flat, flat_has, stamp_lt}
use Rattle.lsm_model.specs.Files.{File, all_entries, Meets, OneEach, Fits, InOrder, Shallower, IsLawful}
use Rattle.lsm_model.specs.Jobs.{Job, is_input, Conflicts, IsOpenIn, AreOutputs, Changed}
use Rattle.lsm_model.specs.Kept.{covers, kept_entries}
use Rattle.lsm_model.proofs.Beside.{apart_in_order, in_order_distinct, meets_at}
use Rattle.lsm_model.proofs.Drops.{drops_answer}
use Rattle.lsm_model.proofs.Kept.{Merges, merges_drops}

-- an entry of all files is one of a file
pub all_has : (v : List File) (e : Entry) → Has (all_entries v) e → (F : File) × Has v F × Has F.entries e
all_has v e h = flat_has (λ (F : File). F.entries) v e h

pub has_all : (v : List File) (F : File) (e : Entry) → Has v F → Has F.entries e → Has (all_entries v) e
has_all v F e h k = has_flat (λ (G : File). G.entries) v F e h k

-- a file of the version that is an input by its number is an input
pub input_says : (v : List File) (job : Job) (F : File) → ((G H : File) → Has v G → Has v H → G.number ≡ H.number → G ≡ H)
    → ((G : File) → Has job.inputs G → Has v G) → Has v F → is_input job F ≡ true → Has job.inputs F
input_says v job F numbers inputs h t =
    let r = any_says (λ (G : File). G.number == F.number) job.inputs t in
    subst (Has job.inputs) (numbers r.0 F (inputs r.0 r.1) h (eqb-true (r.0).number F.number r.2)) r.1

pub input_from : (job : Job) (F : File) → Has job.inputs F → is_input job F ≡ true
input_from job F h = any_at (λ (G : File). G.number == F.number) job.inputs F h (eq-eqb F.number F.number refl)

-- an input's entries lie within the hull
pub in_hull : (v : List File) (job : Job) (F : File) (e : Entry) → ((G : File) → Has v G → Fits G) → IsOpenIn v job → Has job.inputs F → Has F.entries e
    → UserLe job.low e.user × UserLe e.user job.high
in_hull v job F e fits o h k =
    let fit = fits F (o.inputs F h) in
    let range = o.hull F h in
    (user_le_trans job.low F.low e.user range.0 (fit.above e k), user_le_trans e.user F.high job.high (fit.below e k) range.1)

-- a file of the output level that has an input's key is an input
pub same_level_input : (v : List File) (job : Job) (F G : File) (x y : Entry) → ((H : File) → Has v H → Fits H) → IsOpenIn v job
    → Has v F → F.level ≡ suc job.level → Has job.inputs G → Has F.entries x → Has G.entries y → x.user ≡ y.user → Has job.inputs F
same_level_input v job F G x y fits o hF at hG kx ky same =
    let hull = in_hull v job G y fits o hG ky in
    let fit = fits F hF in
    o.alone F hF at (meets_at F job.low job.high y.user (subst (UserLe F.low) same (fit.above x kx)) (subst (λ (k : UserKey). UserLe k F.high) same (fit.below x kx)) hull.0 hull.1)

-- what stays outside the inputs is newer than an input of its key that no range covers
outside_newer : (v : List File) (job : Job) → IsLawful v → IsOpenIn v job → (F G : File) (x y : Entry)
    → Has v F → is_input job F ≡ false → Has job.inputs G → Has F.entries x → Has G.entries y → x.user ≡ y.user → covers job.ranges y.user ≡ false → y.seq < x.seq
outside_newer v job l o F G x y hF out hG kx ky same bare =
    elim (cases_lt F.level job.level) [
      | inl above ↦ l.depth F G x y hF (o.inputs G hG) (inl (elim (o.levels G hG) [ inl e ↦ omega arith | inr e ↦ omega arith ])) kx ky same
      | inr rest ↦ elim (cases_eq F.level job.level) [
        | inl at ↦ o.newer F G x y hF at out hG kx ky same
        | inr far ↦ elim (cases_eq F.level (suc job.level)) [
          | inl at ↦ absurd (both_ways (is_input job F) out (input_from job F (same_level_input v job F G x y l.fits o hF at hG kx ky same)))
          | inr beyond ↦ absurd (both_ways (covers job.ranges y.user) bare (o.below F G x y hF (omega arith) hG kx ky same))
        ]
      ]
    ]

pub install_merges : (v : List File) (job : Job) (outs w : List File) → IsLawful v → IsOpenIn v job
    → AreOutputs v job (kept_entries (all_entries job.inputs) job.floor job.ranges) outs → Changed v job outs w → Merges (all_entries v) (all_entries w) (all_entries job.inputs) job.floor job.ranges
install_merges v job outs w l o p c = record {
  inputs = λ e h. (let r = all_has job.inputs e h in has_all v r.0 e (o.inputs r.0 r.1) r.2);
  left = λ e h. (let r = all_has v e h in elim (cases_Bool (is_input job r.0)) [
    | inl t ↦ inl (has_all job.inputs r.0 e (input_says v job r.0 l.numbers o.inputs r.1 t) r.2)
    | inr t ↦ inr (has_all w r.0 e (c.stays r.0 r.1 t) r.2)
  ]);
  added = λ e h. (let r = all_has outs e (p.to e h) in has_all w r.0 e (c.added r.0 r.1) r.2);
  from = λ e h. (let r = all_has w e h in elim (c.from r.0 r.1) [
    | inl out ↦ inl (p.from r.0 e out r.2)
    | inr rest ↦ inr (has_all v r.0 e rest.0 r.2, outside r.0 e rest.0 rest.1 r.2)
  ]);
}
  where
    outside : (F : File) (e : Entry) → Has v F → is_input job F ≡ false → Has F.entries e → (x : Entry) → Has (all_entries job.inputs) x → e.user ≡ x.user → covers job.ranges x.user ≡ false → x.seq < e.seq
    outside F e h out k x hx same bare = (let r = all_has job.inputs x hx in outside_newer v job l o F r.0 e x h out r.1 k r.2 same bare)

lower_stamp : (x y : Entry) → y.seq < x.seq → stamp x ≡ stamp y → ⊥
lower_stamp x y h e = (let lt = stamp_lt y x h in omega arith)

pub one_each : (v : List File) → IsLawful v → OneEach (all_entries v)
one_each v l x y hx hy key same = at (all_has v x hx) (all_has v y hy)
  where
    lower : (F G : File) → Has v F → Has F.entries x → Has v G → Has G.entries y → Shallower F G → ⊥
    lower F G hF kx hG ky s = lower_stamp x y (l.depth F G x y hF hG s kx ky key) same

    upper : (F G : File) → Has v F → Has F.entries x → Has v G → Has G.entries y → Shallower G F → ⊥
    upper F G hF kx hG ky s = lower_stamp y x (l.depth G F y x hG hF s ky kx (sym key)) (sym same)

    apart : (F G : File) → Has v F → Has F.entries x → Has v G → Has G.entries y → (F.number ≡ G.number → ⊥) → ⊥
    apart F G hF kx hG ky ne = elim (cases_order F.level G.level) [
      | inl e ↦ elim (cases_lt 0 F.level) [
        | inl pos ↦ in_order_distinct F G x y (l.fits F hF) (l.fits G hG) (l.in_order F G hF hG e pos ne) kx ky key same
        | inr none ↦ elim (cases_order F.number G.number) [
          | inl n ↦ ne n
          | inr o ↦ elim o [
            | inl lt ↦ upper F G hF kx hG ky (inr (omega arith, omega arith, lt))
            | inr gt ↦ lower F G hF kx hG ky (inr (omega arith, omega arith, gt))
          ]
        ]
      ]
      | inr o ↦ elim o [
        | inl lt ↦ lower F G hF kx hG ky (inl lt)
        | inr gt ↦ upper F G hF kx hG ky (inl gt)
      ]
    ]

    at : (F : File) × Has v F × Has F.entries x → (G : File) × Has v G × Has G.entries y → x ≡ y
    at F G = elim (cases_eq (F.0).number (G.0).number) [
      | inl e ↦ (let f = l.numbers F.0 G.0 F.1 G.1 e in
          (l.fits F.0 F.1).one_each x y F.2 (subst (λ (H : File). Has H.entries y) (sym f) G.2) key same)
      | inr ne ↦ absurd (apart F.0 G.0 F.1 F.2 G.1 G.2 ne)
    ]

-- an installed merge changes no answer from the job's floor on
pub install_answers : (v : List File) (job : Job) (outs w : List File) → IsLawful v → IsOpenIn v job
    → AreOutputs v job (kept_entries (all_entries job.inputs) job.floor job.ranges) outs → Changed v job outs w
    → (k : UserKey) (s : ℕ) → job.floor ≤ s → answer (all_entries w) k s ≡ answer (all_entries v) k s
install_answers v job outs w l o p c k s le =
    drops_answer (all_entries v) (all_entries w) job.floor s k (one_each v l) (merges_drops (all_entries v) (all_entries w) (all_entries job.inputs) job.floor job.ranges (install_merges v job outs w l o p c)) le

-- what an output has of a key, an input has
output_from : (v : List File) (job : Job) (K : List Entry) (outs : List File) → ((e : Entry) → Has K e → Has (all_entries job.inputs) e) → AreOutputs v job K outs
    → (F : File) (e : Entry) → Has outs F → Has F.entries e → (G : File) × Has job.inputs G × Has G.entries e
output_from v job K outs part p F e h k = all_has job.inputs e (part e (p.from F e h k))

-- an output lies within the hull
pub output_in_hull : (v : List File) (job : Job) (K : List Entry) (outs : List File) → ((F : File) → Has v F → Fits F) → IsOpenIn v job
    → ((e : Entry) → Has K e → Has (all_entries job.inputs) e) → AreOutputs v job K outs → (F : File) → Has outs F → UserLe job.low F.low × UserLe F.high job.high
output_in_hull v job K outs fits o part p F h =
    let fit = p.fits F h in
    let a = output_from v job K outs part p F (fit.first).0 h (fit.first).1 in
    let b = output_from v job K outs part p F (fit.last).0 h (fit.last).1 in (
      subst (UserLe job.low) (fit.first).2 (in_hull v job a.0 (fit.first).0 fits o a.1 a.2).0,
      subst (λ (k : UserKey). UserLe k job.high) (fit.last).2 (in_hull v job b.0 (fit.last).0 fits o b.1 b.2).1,
    )

-- what meets an output meets the hull
meets_hull : (job : Job) (F G : File) → UserLe job.low F.low × UserLe F.high job.high → Meets G F.low F.high → Meets G job.low job.high
meets_hull job F G hull m = (user_le_trans G.low F.high job.high m.0 hull.1, user_le_trans job.low F.low G.high hull.0 m.1)

pub install_lawful : (v : List File) (job : Job) (K : List Entry) (outs w : List File) → IsLawful v → IsOpenIn v job
    → ((e : Entry) → Has K e → Has (all_entries job.inputs) e) → AreOutputs v job K outs → Changed v job outs w → IsLawful w
install_lawful v job K outs w l o part p c = record {
  fits = fits;
  numbers = λ F G hF hG e. numbers F G (c.from F hF) (c.from G hG) e;
  in_order = λ F G hF hG e pos ne. in_order F G (c.from F hF) (c.from G hG) e ne pos;
  depth = λ F G x y hF hG s kx ky same. depth F G x y (c.from F hF) (c.from G hG) s kx ky same;
}
  where
    Case : File → Type 0
    Case F = Has outs F ⊎ (Has v F × (is_input job F ≡ false))

    fits : (F : File) → Has w F → Fits F
    fits F h = elim (c.from F h) [ inl out ↦ p.fits F out | inr rest ↦ l.fits F rest.0 ]

    numbers : (F G : File) → Has outs F ⊎ (Has v F × (is_input job F ≡ false)) → Has outs G ⊎ (Has v G × (is_input job G ≡ false)) → F.number ≡ G.number → F ≡ G
    numbers F G (inl a) (inl b) e = p.numbers F G a b e
    numbers F G (inl a) (inr b) e = absurd (p.fresh F G a b.0 b.1 e)
    numbers F G (inr a) (inl b) e = absurd (p.fresh G F b a.0 a.1 (sym e))
    numbers F G (inr a) (inr b) e = l.numbers F G a.0 b.0 e

    -- a file that stays at the output level does not meet an output
    clear : (F G : File) → Has outs F → Has v G → is_input job G ≡ false → F.level ≡ G.level → Meets G F.low F.high → ⊥
    clear F G a b out e m =
        let at : G.level ≡ suc job.level = sym e ∙ p.levels F a in
        both_ways (is_input job G) out (input_from job G (o.alone G b at (meets_hull job F G (output_in_hull v job K outs l.fits o part p F a) m)))

    in_order : (F G : File) → Has outs F ⊎ (Has v F × (is_input job F ≡ false)) → Has outs G ⊎ (Has v G × (is_input job G ≡ false)) → F.level ≡ G.level → (F.number ≡ G.number → ⊥) → 1 ≤ F.level → InOrder F G
    in_order F G (inl a) (inl b) e ne pos = apart_in_order F G (p.fits F a) (p.fits G b) (p.apart F G a b ne)
    in_order F G (inl a) (inr b) e ne pos = apart_in_order F G (p.fits F a) (l.fits G b.0) (λ m. clear F G a b.0 b.1 e (m.1, m.0))
    in_order F G (inr a) (inl b) e ne pos = apart_in_order F G (l.fits F a.0) (p.fits G b) (λ m. clear G F b a.0 a.1 (sym e) m)
    in_order F G (inr a) (inr b) e ne pos = l.in_order F G a.0 b.0 e pos ne

    depth : (F G : File) (x y : Entry) → Has outs F ⊎ (Has v F × (is_input job F ≡ false)) → Has outs G ⊎ (Has v G × (is_input job G ≡ false)) → Shallower F G → Has F.entries x → Has G.entries y → x.user ≡ y.user → y.seq < x.seq
    depth F G x y (inl a) (inl b) s kx ky same =
        let fl = p.levels F a in
        let gl = p.levels G b in
        absurd (elim s [ inl lt ↦ omega arith | inr z ↦ (let zero_level = z.0 in omega arith) ])
    depth F G x y (inl a) (inr b) s kx ky same =
        let fl = p.levels F a in
        let r = output_from v job K outs part p F x a kx in
        let lt : r.0.level < G.level = elim s [ inl lt ↦ elim (o.levels r.0 r.1) [ inl e ↦ omega arith | inr e ↦ omega arith ] | inr z ↦ (let zero_level = z.0 in absurd (omega arith)) ] in
        l.depth r.0 G x y (o.inputs r.0 r.1) b.0 (inl lt) r.2 ky same
    depth F G x y (inr a) (inl b) s kx ky same =
        let gl = p.levels G b in
        let r = output_from v job K outs part p G y b ky in
        let le : F.level ≤ job.level = elim s [ inl lt ↦ omega arith | inr z ↦ (let zero_level = z.1 in absurd (omega arith)) ] in
        elim (cases_eq F.level job.level) [
          | inl e ↦ o.newer F r.0 x y a.0 e a.1 r.1 kx r.2 same
          | inr ne ↦ l.depth F r.0 x y a.0 (o.inputs r.0 r.1) (inl (elim (o.levels r.0 r.1) [ inl e ↦ omega arith | inr e ↦ omega arith ])) kx r.2 same
        ]
    depth F G x y (inr a) (inr b) s kx ky same = l.depth F G x y a.0 b.0 s kx ky same

-- a job that does not conflict stays open
pub install_keeps_open : (v : List File) (job other : Job) (K : List Entry) (outs w : List File) → IsLawful v → IsOpenIn v job → IsOpenIn v other
    → (Conflicts job other → ⊥) → ((e : Entry) → Has K e → Has (all_entries job.inputs) e) → AreOutputs v job K outs → Changed v job outs w → IsOpenIn w other
install_keeps_open v job other K outs w l o q none part p c = record {
  inputs = inputs;
  levels = q.levels;
  hull = q.hull;
  alone = λ F hF at m. alone F (c.from F hF) at m;
  newer = λ F G x y hF at out hG kx ky same. newer F G x y (c.from F hF) at out hG kx ky same;
  below = λ F G x y hF at hG kx ky same. below F G x y (c.from F hF) at hG kx ky same;
}
  where
    not_shared : (F : File) → Has job.inputs F → Has other.inputs F → ⊥
    not_shared F a b = none (inl (F, F, a, b, refl))

    inputs : (F : File) → Has other.inputs F → Has w F
    inputs F h = elim (cases_Bool (is_input job F)) [
      | inl t ↦ absurd (not_shared F (input_says v job F l.numbers o.inputs (q.inputs F h) t) h)
      | inr t ↦ c.stays F (q.inputs F h) t
    ]

    alone : (F : File) → Has outs F ⊎ (Has v F × (is_input job F ≡ false)) → F.level ≡ suc other.level → Meets F other.low other.high → Has other.inputs F
    alone F (inr rest) at m = q.alone F rest.0 at m
    alone F (inl out) at m =
        let fl = p.levels F out in
        let same : job.level ≡ other.level = omega arith in
        let hull = output_in_hull v job K outs l.fits o part p F out in
        absurd (none (inr (same, user_le_trans job.low F.low other.high hull.0 m.0, user_le_trans other.low F.high job.high m.1 hull.1)))

    newer : (F G : File) (x y : Entry) → Has outs F ⊎ (Has v F × (is_input job F ≡ false)) → F.level ≡ other.level → is_input other F ≡ false → Has other.inputs G
        → Has F.entries x → Has G.entries y → x.user ≡ y.user → y.seq < x.seq
    newer F G x y (inr rest) at out hG kx ky same = q.newer F G x y rest.0 at out hG kx ky same
    newer F G x y (inl put) at out hG kx ky same =
        let fl = p.levels F put in
        let r = output_from v job K outs part p F x put kx in
        elim (q.levels G hG) [
          | inl e ↦ absurd (not_shared G (same_level_input v job G r.0 y x l.fits o (q.inputs G hG) (omega arith) r.1 ky r.2 (sym same)) hG)
          | inr e ↦ l.depth r.0 G x y (o.inputs r.0 r.1) (q.inputs G hG) (inl (elim (o.levels r.0 r.1) [ inl f ↦ omega arith | inr f ↦ omega arith ])) r.2 ky same
        ]

    below : (F G : File) (x y : Entry) → Has outs F ⊎ (Has v F × (is_input job F ≡ false)) → suc (suc other.level) ≤ F.level → Has other.inputs G
        → Has F.entries x → Has G.entries y → x.user ≡ y.user → covers other.ranges y.user ≡ true
    below F G x y (inr rest) at hG kx ky same = q.below F G x y rest.0 at hG kx ky same
    below F G x y (inl put) at hG kx ky same =
        let fl = p.levels F put in
        let r = output_from v job K outs part p F x put kx in
        elim (cases_lt r.0.level (suc (suc other.level))) [
          | inl lt ↦ absurd (not_shared r.0 r.1 (same_level_input v other r.0 G x y l.fits q (o.inputs r.0 r.1)
              (elim (o.levels r.0 r.1) [ inl f ↦ omega arith | inr f ↦ omega arith ]) hG r.2 ky same))
          | inr ge ↦ q.below r.0 G x y (o.inputs r.0 r.1) ge hG r.2 ky same
        ]
