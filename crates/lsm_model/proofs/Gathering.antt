-- Gathering keeps the law of the store, and changes no answer.
use Rattle.std.proofs.Common.{◌≡◌, ℕ, ◌≤◌, ◌<◌, ◌==◌, true, false, sym, ◌∙◌, ap, subst, inl, inr, arith, ◌⊎◌}
use Rattle.std.proofs.lemmas.Bool.{cases_Bool, eqb-true, both_ways}
use Rattle.lsm_codec.specs.Lists.{Has}
use Rattle.lsm_codec.specs.Keys.{UserKey}
use Rattle.lsm_codec.specs.Entries.{Entry, answer}
use Rattle.lsm_codec.proofs.CallerLemmas.{any_says}
use Rattle.lsm_model.specs.Files.{File, all_entries, Fits, InOrder, IsLawful, Shallower}
use Rattle.lsm_model.specs.Jobs.{is_input, IsOpenIn}
use Rattle.lsm_model.specs.Plain.{Live, Plain, Gathers, is_among}
use Rattle.lsm_model.specs.Law.{Books, Law, Meaning}
use Rattle.lsm_model.proofs.Drops.{same_answer}
use Rattle.lsm_model.proofs.Installs.{all_has, has_all, input_from, one_each}

-- where a file after a gathering is from
abbrev Source : (H : Type 0) (s t : Plain) → Gathers H s t → File → Type 0
Source H s t g F = (g.file ≡ F) ⊎ (Has s.files F × (is_among g.gone F ≡ false))

-- a file of the version that is gone by its number is gone
gone_says : (H : Type 0) (s t : Plain) → Books s → (g : Gathers H s t) → (F : File) → Has s.files F → is_among g.gone F ≡ true → Has g.gone F
gone_says H s t b g F h among =
    let r = any_says (λ (G : File). G.number == F.number) g.gone among in
    subst (Has g.gone) (b.numbers r.0 F (g.were r.0 r.1).0 h (eqb-true (r.0).number F.number r.2)) r.1

-- an input of a live job stays
input_stays : (H : Type 0) (s t : Plain) → Books s → (g : Gathers H s t) → (a : Live) (F : File) → Has s.live a → Has a.job.inputs F → is_among g.gone F ≡ false
input_stays H s t b g a F live k = elim (cases_Bool (is_among g.gone F)) [
  | inl among ↦ absurd (both_ways (is_input a.job F) (g.unused a F live (gone_says H s t b g F (b.inputs a F live k) among)) (input_from a.job F k))
  | inr keeps ↦ keeps
]

pub gather_books : (H : Type 0) (s t : Plain) → Books s → Gathers H s t → Books t
gather_books H s t b g = subst Books (sym g.is) record {
  numbers = λ F G hF hG e. numbers F G (g.from F hF) (g.from G hG) e;
  below_next = λ F h. elim (g.from F h) [
    | inl new ↦ subst (λ (D : File). D.number < g.next) new g.passed
    | inr old ↦ (let lt = b.below_next F old.0 in let d = g.drawn in let p = g.passed in omega arith)
  ];
  drawn_below = λ a n h k. (let lt = b.drawn_below a n h k in let d = g.drawn in let p = g.passed in omega arith);
  drawn_fresh = λ a n F h k hF e. elim (g.from F hF) [
    | inl new ↦ (let lt = b.drawn_below a n h k in let d = g.drawn in let q = ap (λ (D : File). D.number) new in omega arith)
    | inr old ↦ b.drawn_fresh a n F h k old.0 e
  ];
  drawn_apart = b.drawn_apart;
  inputs = λ a F h k. g.stays F (b.inputs a F h k) (input_stays H s t b g a F h k);
  levels = b.levels;
  tickets = b.tickets;
  one_each = b.one_each;
  clear = b.clear;
  floors = b.floors;
  rising = b.rising;
  ids = b.ids;
  snapshots = b.snapshots;
}
  where
    numbers : (F G : File) → Source H s t g F → Source H s t g G → F.number ≡ G.number → F ≡ G
    numbers F G (inl x) (inl y) e = sym x ∙ y
    numbers F G (inl x) (inr y) e = (let n = ap (λ (D : File). D.number) x in let lt = b.below_next G y.0 in let d = g.drawn in absurd (omega arith))
    numbers F G (inr x) (inl y) e = (let n = ap (λ (D : File). D.number) y in let lt = b.below_next F x.0 in let d = g.drawn in absurd (omega arith))
    numbers F G (inr x) (inr y) e = b.numbers F G x.0 y.0 e

-- ---- under the premise

-- the file's entries are those of files that are gone
gone_has : (H : Type 0) (s t : Plain) → H → (g : Gathers H s t) → (e : Entry) → Has g.file.entries e → (F : File) × Has g.gone F × Has F.entries e
gone_has H s t honest g e h = all_has g.gone e ((g.entries honest e).0 h)

gather_lawful : (H : Type 0) (s t : Plain) → Books s → IsLawful s.files → H → (g : Gathers H s t) → IsLawful g.files
gather_lawful H s t b l honest g = record {
  fits = λ F h. elim (g.from F h) [ inl new ↦ subst Fits new g.fits | inr old ↦ l.fits F old.0 ];
  numbers = subst (λ (u : Plain). (F G : File) → Has u.files F → Has u.files G → F.number ≡ G.number → F ≡ G) g.is (gather_books H s t b g).numbers;
  in_order = λ F G hF hG e pos ne. in_order F G (g.from F hF) (g.from G hG) e pos ne;
  depth = λ F G x y hF hG over kx ky same. depth F G x y (g.from F hF) (g.from G hG) over kx ky same;
}
  where
    is_level : (F : File) → g.file ≡ F → F.level ≡ 0
    is_level F e = ap (λ (D : File). D.level) (sym e) ∙ g.level

    number : (F : File) → g.file ≡ F → g.file.number ≡ F.number
    number F e = ap (λ (D : File). D.number) e

    in_order : (F G : File) → Source H s t g F → Source H s t g G → F.level ≡ G.level → 1 ≤ F.level → (F.number ≡ G.number → ⊥) → InOrder F G
    in_order F G (inl x) y e pos ne = (let z = is_level F x in absurd (omega arith))
    in_order F G (inr x) (inl y) e pos ne = (let z = is_level G y in absurd (omega arith))
    in_order F G (inr x) (inr y) e pos ne = l.in_order F G x.0 y.0 e pos ne

    depth : (F G : File) (x y : Entry) → Source H s t g F → Source H s t g G → Shallower F G → Has F.entries x → Has G.entries y → x.user ≡ y.user → y.seq < x.seq
    depth F G x y (inl f) (inl o) over kx ky same =
        let zf = is_level F f in
        let zg = is_level G o in
        let n = number F f in
        let m = number G o in
        absurd (elim over [ inl lt ↦ omega arith | inr deep ↦ (let gt = deep.2 in omega arith) ])
    depth F G x y (inr f) (inl o) over kx ky same =
        let zg = is_level G o in
        let m = number G o in
        let lt = b.below_next F f.0 in
        let d = g.drawn in
        absurd (elim over [ inl less ↦ omega arith | inr deep ↦ (let gt = deep.2 in omega arith) ])
    depth F G x y (inl f) (inr o) over kx ky same =
        let zf = is_level F f in
        let r = gone_has H s t honest g x (subst (λ (D : File). Has D.entries x) (sym f) kx) in
        let was = g.were r.0 r.1 in
        let at = was.1 in
        let above : Shallower r.0 G = elim over [
          | inl lt ↦ inl (omega arith)
          | inr deep ↦ inr (at, deep.1, g.newest G r.0 o.0 deep.1 o.1 r.1)
        ] in
        l.depth r.0 G x y was.0 o.0 above r.2 ky same
    depth F G x y (inr f) (inr o) over kx ky same = l.depth F G x y f.0 o.0 over kx ky same

gather_keeps_open : (H : Type 0) (s t : Plain) → Books s → H → (g : Gathers H s t) → (a : Live) → Has s.live a → IsOpenIn s.files a.job → IsOpenIn g.files a.job
gather_keeps_open H s t b honest g a live o = record {
  inputs = λ F h. g.stays F (o.inputs F h) (input_stays H s t b g a F live h);
  levels = o.levels;
  hull = o.hull;
  alone = λ F h at m. elim (g.from F h) [ inl new ↦ (let z = is_level F new in absurd (omega arith)) | inr old ↦ o.alone F old.0 at m ];
  newer = λ F G x y h at out hG kx ky same. elim (g.from F h) [
    | inl new ↦ (
        let z = is_level F new in
        let r = gone_has H s t honest g x (subst (λ (D : File). Has D.entries x) (sym new) kx) in
        let was = g.were r.0 r.1 in
        let zr = was.1 in
        o.newer r.0 G x y was.0 (omega arith) (g.unused a r.0 live r.1) hG r.2 ky same)
    | inr old ↦ o.newer F G x y old.0 at out hG kx ky same
  ];
  below = λ F G x y h at hG kx ky same. elim (g.from F h) [
    | inl new ↦ (let z = is_level F new in absurd (omega arith))
    | inr old ↦ o.below F G x y old.0 at hG kx ky same
  ];
}
  where
    is_level : (F : File) → g.file ≡ F → F.level ≡ 0
    is_level F e = ap (λ (D : File). D.level) (sym e) ∙ g.level

-- all entries are there before and after
gather_within : (H : Type 0) (s t : Plain) → H → (g : Gathers H s t) → (e : Entry) → Has (all_entries g.files) e → Has (all_entries s.files) e
gather_within H s t honest g e h = (let r = all_has g.files e h in elim (g.from r.0 r.1) [
  | inl new ↦ (let z = gone_has H s t honest g e (subst (λ (D : File). Has D.entries e) (sym new) r.2) in has_all s.files z.0 e (g.were z.0 z.1).0 z.2)
  | inr old ↦ has_all s.files r.0 e old.0 r.2
])

gather_keeps : (H : Type 0) (s t : Plain) → Books s → H → (g : Gathers H s t) → (e : Entry) → Has (all_entries s.files) e → Has (all_entries g.files) e
gather_keeps H s t b honest g e h = (let r = all_has s.files e h in elim (cases_Bool (is_among g.gone r.0)) [
  | inl among ↦ has_all g.files g.file e g.added ((g.entries honest e).1 (has_all g.gone r.0 e (gone_says H s t b g r.0 r.1 among) r.2))
  | inr keeps ↦ has_all g.files r.0 e (g.stays r.0 r.1 keeps) r.2
])

pub gather_meaning : (H : Type 0) (s t : Plain) → Books s → Meaning s → H → Gathers H s t → Meaning t
gather_meaning H s t b m honest g = subst Meaning (sym g.is) record {
  lawful = gather_lawful H s t b m.lawful honest g;
  reached = λ e h. m.reached e (gather_within H s t honest g e h);
  are_open = λ a h. gather_keeps_open H s t b honest g a h (m.are_open a h);
}

-- gathering changes no answer at any sequence
pub gather_same : (H : Type 0) (s t : Plain) → Books s → Meaning s → H → Gathers H s t
    → (k : UserKey) (q : ℕ) → answer (all_entries t.files) k q ≡ answer (all_entries s.files) k q
gather_same H s t b m honest g k q = ap (λ (u : Plain). answer (all_entries u.files) k q) g.is
    ∙ same_answer (all_entries s.files) (all_entries g.files) k q (one_each s.files m.lawful) (gather_within H s t honest g) (gather_keeps H s t b honest g)

pub gather_law : (H : Type 0) (s t : Plain) → Law H s → Gathers H s t → Law H t
gather_law H s t l g = record {
  books = gather_books H s t l.books g;
  meaning = λ honest. gather_meaning H s t l.books (l.meaning honest) honest g;
}
