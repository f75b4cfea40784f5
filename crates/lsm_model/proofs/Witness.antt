-- A version, a job and its install, and an ingest, so small that all is in sight.
use Rattle.std.proofs.Common.{◌≡◌, ℕ, suc, ◌-◌, ◌≤◌, false, List, [], ◌∷◌, refl, sym, ◌∙◌, ap, subst, inl, inr, arith}
use Rattle.lsm_codec.specs.declared.kind.Kind.TheVariants.{Value}
use Rattle.lsm_codec.specs.Lists.{Has}
use Rattle.lsm_codec.specs.Keys.{UserKey, UserLe}
use Rattle.lsm_codec.specs.Entries.{Entry}
use Rattle.lsm_codec.proofs.CallerLemmas.{user_le_refl}
use Rattle.lsm_model.specs.Files.{File, Before, InOrder, IsAhead, Meets, Fits, IsLawful, Shallower, all_entries}
use Rattle.lsm_model.specs.Jobs.{Job, AreOutputs, Changed, Gains, IsOpenIn, is_input}
use Rattle.lsm_model.specs.Kept.{kept_entries}
use Rattle.lsm_model.specs.Plans.{IsLinked, starting, meeting, Plan, IsClosed, IsJobOf, Spans}
use Rattle.lsm_model.proofs.Plans.{plan_opens}

-- every entry is of the empty user key
abbrev entry : ℕ → Entry
entry s = record { user = []; seq = s; kind = Value; value = [] }

abbrev file : ℕ → ℕ → ℕ → File
file level number seq = record { level = level; number = number; low = []; high = []; entries = entry seq ∷ [] }

le : UserLe [] []
le = user_le_refl []

fits : (level number seq : ℕ) → Fits (file level number seq)
fits level number seq = record {
  above = λ e h. at e h (λ k. UserLe [] k) le;
  below = λ e h. at e h (λ k. UserLe k []) le;
  first = (entry seq, inl refl, refl);
  last = (entry seq, inl refl, refl);
  one_each = λ x y hx hy same stamps. one x y hx hy;
}
  where
    at : (e : Entry) → Has (entry seq ∷ []) e → (P : UserKey → Type 0) → P [] → P e.user
    at e (inl s) P p = subst (λ (x : Entry). P x.user) s p
    at e (inr h) P p = absurd h

    one : (x y : Entry) → Has (entry seq ∷ []) x → Has (entry seq ∷ []) y → x ≡ y
    one x y (inl a) (inl b) = sym a ∙ b
    one x y (inl a) (inr h) = absurd h
    one x y (inr h) k = absurd h

-- ---- a file on each of three levels, the newest above

abbrev row : ℕ → File
row level = file level (3 - level) (3 - level)

abbrev three : List File
three = row 0 ∷ row 1 ∷ row 2 ∷ []

record IsRow (F : File) : Type 0 where
  level : ℕ
  least : level ≤ 2
  is : row level ≡ F

row_of : (F : File) → Has three F → IsRow F
row_of F (inl e) = record { level = 0; least = omega arith; is = e }
row_of F (inr (inl e)) = record { level = 1; least = omega arith; is = e }
row_of F (inr (inr (inl e))) = record { level = 2; least = omega arith; is = e }
row_of F (inr (inr (inr h))) = absurd h

level_is : (F : File) (r : IsRow F) → F.level ≡ r.level
level_is F r = ap (λ (G : File). G.level) (sym r.is)

number_is : (F : File) (r : IsRow F) → F.number ≡ 3 - r.level
number_is F r = ap (λ (G : File). G.number) (sym r.is)

seq_is : (F : File) (r : IsRow F) (e : Entry) → Has F.entries e → e.seq ≡ 3 - r.level
seq_is F r e h = go (subst (λ (G : File). Has G.entries e) (sym r.is) h)
  where
    go : Has (entry (3 - r.level) ∷ []) e → e.seq ≡ 3 - r.level
    go (inl s) = ap (λ (x : Entry). x.seq) (sym s)
    go (inr k) = absurd k

-- a file of the three is that of its level
at_level : (n : ℕ) (F : File) → Has three F → F.level ≡ n → row n ≡ F
at_level n F h e = (let r = row_of F h in ap row (sym (sym (level_is F r) ∙ e)) ∙ r.is)

lawful : IsLawful three
lawful = record {
  fits = λ F h. (let r = row_of F h in subst Fits r.is (row_fits r.level));
  numbers = λ F G hF hG e. same F G (row_of F hF) (row_of G hG) e;
  in_order = λ F G hF hG at pos ne. absurd (ne (let r = row_of F hF in let s = row_of G hG in
      let a = level_is F r in let b = level_is G s in let c = number_is F r in let d = number_is G s in omega arith));
  depth = λ F G x y hF hG s kx ky u. (let r = row_of F hF in let q = row_of G hG in
      let a = level_is F r in let b = level_is G q in let c = seq_is F r x kx in let d = seq_is G q y ky in
      let lr = r.least in let lq = q.least in let m = number_is F r in let n = number_is G q in
      elim s [ inl lt ↦ omega arith | inr o ↦ (let f = o.0 in let g = o.1 in let lt = o.2 in absurd (omega arith)) ]);
}
  where
    row_fits : (level : ℕ) → Fits (row level)
    row_fits level = fits level (3 - level) (3 - level)

    same : (F G : File) → IsRow F → IsRow G → F.number ≡ G.number → F ≡ G
    same F G r s e =
        let c = number_is F r in let d = number_is G s in let lr = r.least in let ls = s.least in
        let levels : r.level ≡ s.level = omega arith in
        sym r.is ∙ ap row levels ∙ s.is

-- ---- a plan from the uppermost file, and its job

abbrev plan : Plan
plan = record { level = 0; upper = row 0 ∷ []; lower = row 1 ∷ []; low = []; high = [] }

abbrev job : Job
job = record { ticket = 0; level = 0; inputs = row 0 ∷ row 1 ∷ []; low = []; high = []; floor = 3; ranges = ([], []) ∷ []; is_move = false }

has_row0 : Has three (row 0)
has_row0 = inl refl

has_row1 : Has three (row 1)
has_row1 = inr (inl refl)

has_row2 : Has three (row 2)
has_row2 = inr (inr (inl refl))

-- what is linked at a level is the level's file
linked : (n : ℕ) (Start : File → Type 0) (F : File) → IsLinked three n Start F → Has (row n ∷ []) F
linked n Start F (starting _ h at s) = inl (at_level n F h at)
linked n Start F (meeting E _ l h at m) = inl (at_level n F h at)

one_spans : (n : ℕ) → Spans (row n ∷ []) [] []
one_spans n = record {
  above = λ F h. elim h [ inl e ↦ subst (λ (G : File). UserLe [] G.low) e le | inr k ↦ absurd k ];
  below = λ F h. elim h [ inl e ↦ subst (λ (G : File). UserLe G.high []) e le | inr k ↦ absurd k ];
  least = (row n, inl refl, refl);
  greatest = (row n, inl refl, refl);
}

two_spans : Spans (row 0 ∷ row 1 ∷ []) [] []
two_spans = record {
  above = λ F h. elim h [ inl e ↦ subst (λ (G : File). UserLe [] G.low) e le | inr k ↦ (one_spans 1).above F k ];
  below = λ F h. elim h [ inl e ↦ subst (λ (G : File). UserLe G.high []) e le | inr k ↦ (one_spans 1).below F k ];
  least = (row 0, inl refl, refl);
  greatest = (row 0, inl refl, refl);
}

closed : IsClosed three (Has (row 0 ∷ [])) plan
closed = record {
  upper_from = λ F h. elim h [
    | inl e ↦ subst (IsLinked three 0 (Has (row 0 ∷ []))) e (starting (row 0) has_row0 refl (inl refl))
    | inr k ↦ absurd k
  ];
  upper_all = λ F l. linked 0 (Has (row 0 ∷ [])) F l;
  from = [];
  to = [];
  range = one_spans 0;
  lower_from = λ F h. elim h [
    | inl e ↦ subst (IsLinked three 1 (λ G. Meets G [] [])) e (starting (row 1) has_row1 refl (le, le))
    | inr k ↦ absurd k
  ];
  lower_all = λ F l. linked 1 (λ G. Meets G [] []) F l;
  hull = two_spans;
}

two_below : (F : File) → Has three F → suc (suc 0) ≤ F.level → row 2 ≡ F
two_below F h low = (let r = row_of F h in let a = level_is F r in let b = r.least in at_level 2 F h (omega arith))

of_plan : IsJobOf three plan job
of_plan = record {
  level = refl;
  inputs = refl;
  low = refl;
  high = refl;
  ranges = λ F h low. inl (ap (λ (G : File). (G.low, G.high)) (two_below F h low));
  ranges_from = λ r h. elim h [ inl e ↦ (row 2, has_row2, omega arith, e) | inr k ↦ absurd k ];
}

open_job : IsOpenIn three job
open_job = plan_opens three (Has (row 0 ∷ [])) plan job lawful closed of_plan

-- ---- what the job keeps, and its install

abbrev outs : List File
outs = file 1 4 3 ∷ []

abbrev after : List File
after = file 1 4 3 ∷ row 2 ∷ []

kept : kept_entries (all_entries job.inputs) job.floor job.ranges ≡ entry 3 ∷ []
kept = refl

outputs : AreOutputs three job (kept_entries (all_entries job.inputs) job.floor job.ranges) outs
outputs = subst (λ (K : List Entry). AreOutputs three job K outs) (sym kept) (record {
  holds = record {
    levels = λ F h. one F h (λ G. G.level ≡ 1) refl;
    fits = λ F h. one F h Fits (fits 1 4 3);
    from = λ F e h k. (subst (λ (G : File). Has G.entries e) (sym (only F h)) k);
    to = λ e h. elim h [ inl s ↦ inl s | inr k ↦ absurd k ];
    apart = λ F G hF hG ne. absurd (ne (ap (λ (D : File). D.number) (sym (only F hF) ∙ only G hG)));
    numbers = λ F G hF hG e. sym (only F hF) ∙ only G hG;
  };
  fresh = λ F G hF hG keeps e. (let r = row_of G hG in let n = number_is G r in let o = ap (λ (D : File). D.number) (only F hF) in absurd (omega arith));
})
  where
    only : (F : File) → Has outs F → file 1 4 3 ≡ F
    only F (inl e) = e
    only F (inr h) = absurd h

    one : (F : File) → Has outs F → (P : File → Type 0) → P (file 1 4 3) → P F
    one F h P p = subst P (only F h) p

installed : Changed three job outs after
installed = record {
  from = λ F h. elim h [
    | inl e ↦ inl (inl e)
    | inr k ↦ elim k [ inl e ↦ inr (subst (λ (G : File). Has three G × (is_input job G ≡ false)) e (has_row2, refl)) | inr n ↦ absurd n ]
  ];
  stays = λ F h keeps. stays F h keeps;
  added = λ F h. elim h [ inl e ↦ inl e | inr k ↦ absurd k ];
}
  where
    stays : (F : File) → Has three F → is_input job F ≡ false → Has after F
    stays F (inl e) keeps = absurd (cc (subst (λ (G : File). is_input job G ≡ false) (sym e) keeps))
    stays F (inr (inl e)) keeps = absurd (cc (subst (λ (G : File). is_input job G ≡ false) (sym e) keeps))
    stays F (inr (inr (inl e))) keeps = inr (inl e)
    stays F (inr (inr (inr h))) keeps = absurd h

-- ---- an ingest

gains : Gains three 3 (file 0 4 4) (file 0 4 4 ∷ three)
gains = record {
  level = refl;
  fits = fits 0 4 4;
  above = λ e h. elim h [ inl s ↦ (let q = ap (λ (x : Entry). x.seq) s in omega arith) | inr k ↦ absurd k ];
  greatest = λ F h. (let r = row_of F h in let n = number_is F r in omega arith);
  from = λ F h. h;
  stays = λ F h. inr h;
  added = inl refl;
}

reached : (F : File) (e : Entry) → Has three F → Has F.entries e → e.seq ≤ 3
reached F e h k = (let r = row_of F h in let s = seq_is F r e k in omega arith)

pub an_install : (v : List File) × (starts : List File) × (plan : Plan) × (job : Job) × (outs : List File) × (w : List File) × IsLawful v × IsClosed v (Has starts) plan
    × IsJobOf v plan job × IsOpenIn v job × AreOutputs v job (kept_entries (all_entries job.inputs) job.floor job.ranges) outs × Changed v job outs w
an_install = (three, row 0 ∷ [], plan, job, outs, after, lawful, closed, of_plan, open_job, outputs, installed)

pub an_ingest : (v : List File) × (last : ℕ) × (file : File) × (w : List File) × IsLawful v × ((F : File) (e : Entry) → Has v F → Has F.entries e → e.seq ≤ last) × Gains v last file w
an_ingest = (three, 3, file 0 4 4, file 0 4 4 ∷ three, lawful, reached, gains)

-- ---- two files of level 1, of which the second goes on with the user key of the first

abbrev two : List File
two = file 1 1 2 ∷ file 1 2 1 ∷ []

two_level : (F : File) → Has two F → F.level ≡ 1
two_level F (inl e) = sym (ap (λ (D : File). D.level) e)
two_level F (inr (inl e)) = sym (ap (λ (D : File). D.level) e)
two_level F (inr (inr h)) = absurd h

two_fits : (F : File) → Has two F → Fits F
two_fits F (inl e) = subst Fits e (fits 1 1 2)
two_fits F (inr (inl e)) = subst Fits e (fits 1 2 1)
two_fits F (inr (inr h)) = absurd h

two_numbers : (F G : File) → Has two F → Has two G → F.number ≡ G.number → F ≡ G
two_numbers F G (inl p) (inl q) n = sym p ∙ q
two_numbers F G (inl p) (inr (inl q)) n = absurd (omega (arith, ap (λ (D : File). D.number) p, ap (λ (D : File). D.number) q, n))
two_numbers F G (inr (inl p)) (inl q) n = absurd (omega (arith, ap (λ (D : File). D.number) p, ap (λ (D : File). D.number) q, n))
two_numbers F G (inr (inl p)) (inr (inl q)) n = sym p ∙ q
two_numbers F G (inr (inr h)) k n = absurd h
two_numbers F G (inl p) (inr (inr h)) n = absurd h
two_numbers F G (inr (inl p)) (inr (inr h)) n = absurd h

newer_first : (x y : Entry) → Has (entry 2 ∷ []) x → Has (entry 1 ∷ []) y → Before x y
newer_first x y (inl a) (inl b) = subst (λ (z : Entry). Before z y) a (subst (λ (z : Entry). Before (entry 2) z) b refl)
newer_first x y (inl a) (inr h) = absurd h
newer_first x y (inr h) k = absurd h

first_ahead : (F G : File) → file 1 1 2 ≡ F → file 1 2 1 ≡ G → IsAhead F G
first_ahead F G p q x y hx hy = newer_first x y (subst (λ (D : File). Has D.entries x) (sym p) hx) (subst (λ (D : File). Has D.entries y) (sym q) hy)

two_in_order : (F G : File) → Has two F → Has two G → (F.number ≡ G.number → ⊥) → InOrder F G
two_in_order F G (inl p) (inl q) ne = absurd (ne (ap (λ (D : File). D.number) (sym p ∙ q)))
two_in_order F G (inl p) (inr (inl q)) ne = inl (first_ahead F G p q)
two_in_order F G (inr (inl p)) (inl q) ne = inr (first_ahead G F q p)
two_in_order F G (inr (inl p)) (inr (inl q)) ne = absurd (ne (ap (λ (D : File). D.number) (sym p ∙ q)))
two_in_order F G (inr (inr h)) k ne = absurd h
two_in_order F G (inl p) (inr (inr h)) ne = absurd h
two_in_order F G (inr (inl p)) (inr (inr h)) ne = absurd h

none_shallower : (F G : File) → Has two F → Has two G → Shallower F G → ⊥
none_shallower F G hF hG (inl less) = omega (arith, less, two_level F hF, two_level G hG)
none_shallower F G hF hG (inr s) = omega (arith, s.0, two_level F hF)

two_lawful : IsLawful two
two_lawful = record {
  fits = two_fits;
  numbers = two_numbers;
  in_order = λ F G hF hG same pos ne. two_in_order F G hF hG ne;
  depth = λ F G x y hF hG s hx hy same. absurd (none_shallower F G hF hG s);
}

pub a_wide_level : (v : List File) × (F : File) × (G : File) × IsLawful v × Has v F × Has v G × (F.number ≡ G.number → ⊥) × (F.level ≡ G.level) × (1 ≤ F.level) × (F.high ≡ G.low)
a_wide_level = (two, file 1 1 2, file 1 2 1, two_lawful, inl refl, inr (inl refl), (λ n. omega (arith, n)), refl, omega arith, refl)
