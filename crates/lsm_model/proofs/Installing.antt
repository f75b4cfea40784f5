-- An install keeps the law of the store, and changes no answer.
use Rattle.std.proofs.Common.{◌≡◌, ℕ, suc, ◌≤◌, false, List, refl, sym, ◌∙◌, ap, subst, inl, inr, arith, ◌⊎◌}
use Rattle.std.proofs.lemmas.Bool.{cases_Bool, both_ways}
use Rattle.lsm_codec.specs.Lists.{Has}
use Rattle.lsm_codec.specs.Keys.{UserKey}
use Rattle.lsm_codec.specs.Entries.{Entry, answer}
use Rattle.lsm_model.specs.Files.{File, all_entries}
use Rattle.lsm_model.specs.Kept.{kept_entries}
use Rattle.lsm_model.specs.Jobs.{is_input, AreOutputs, Changed, FloorHolds, IsMove, IsOpenIn}
use Rattle.lsm_model.proofs.Cuts.{finished_holds, rising_numbers}
use Rattle.lsm_model.proofs.Installs.{all_has, has_all, input_from, input_says, install_answers, install_keeps_open, install_lawful}
use Rattle.lsm_model.proofs.Kept.{kept_says}
use Rattle.lsm_model.proofs.Moves.{move_answers, move_outputs}
use Rattle.lsm_model.specs.Plain.{Live, Plain, Installs, IsBooked, IsReadable, IsResult, without_job}
use Rattle.lsm_model.specs.Law.{Books, Meaning, Law}
use Rattle.lsm_model.proofs.LiveLists.{left_job}

-- where the number of an output is from: it was drawn, or is an input's
source_of : (s : Plain) (a : Live) (outs : List File) → Books s → Has s.live a → (F : File) → Has outs F → IsBooked a outs
    → Has a.drawn F.number ⊎ ((G : File) × Has a.job.inputs G × Has s.files G × (G.number ≡ F.number))
source_of s a outs b live F h (inl r) = inl (r.1 F h)
source_of s a outs b live F h (inr m) = elim (subst (λ fs. Has fs F) m.2 h) [
  | inl same ↦ (let here : Has a.job.inputs m.0 = subst (λ fs. Has fs m.0) (sym m.1) (inl refl) in
      inr (m.0, here, b.inputs a m.0 live here, ap (λ (D : File). D.number) same))
  | inr none ↦ absurd none
]

outs_numbers : (a : Live) (outs : List File) → IsBooked a outs → (F G : File) → Has outs F → Has outs G → F.number ≡ G.number → F ≡ G
outs_numbers a outs (inl r) F G hF hG e = rising_numbers outs r.0 F G hF hG e
outs_numbers a outs (inr m) F G hF hG e = elim (subst (λ fs. Has fs F) m.2 hF) [
  | inl f ↦ elim (subst (λ fs. Has fs G) m.2 hG) [ inl g ↦ sym f ∙ g | inr none ↦ absurd none ]
  | inr none ↦ absurd none
]

pub install_books : (H : Type 0) (s : Plain) (ticket : ℕ) (t : Plain) → Books s → Installs H s ticket t → Books t
install_books H s ticket t b i = subst Books (sym i.is) record {
  numbers = λ F G hF hG e. numbers F G (i.changed.from F hF) (i.changed.from G hG) e;
  below_next = λ F h. elim (i.changed.from F h) [
    | inl out ↦ elim (source F out) [ inl d ↦ b.drawn_below i.one F.number i.was_live d | inr g ↦ (let lt = b.below_next g.0 g.2 in let e = g.3 in omega arith) ]
    | inr old ↦ b.below_next F old.0
  ];
  drawn_below = λ a n h. b.drawn_below a n (left a h).0;
  drawn_fresh = λ a n F h k hF e. (let f = left a h in elim (i.changed.from F hF) [
    | inl out ↦ elim (source F out) [
      | inl d ↦ f.1 (b.drawn_apart a i.one n f.0 i.was_live k (subst (Has i.one.drawn) e d) ∙ i.its)
      | inr g ↦ b.drawn_fresh a n g.0 f.0 k g.2 (g.3 ∙ e)
    ]
    | inr old ↦ b.drawn_fresh a n F f.0 k old.0 e
  ]);
  drawn_apart = λ a c n ha hc. b.drawn_apart a c n (left a ha).0 (left c hc).0;
  inputs = λ a F h k. (let f = left a h in elim (cases_Bool (is_input i.one.job F)) [
    | inl t ↦ absurd (b.clear i.one a i.was_live f.0 (λ e. f.1 (sym e ∙ i.its))
        (inl (F, F, input_says s.files i.one.job F b.numbers (λ G g. b.inputs i.one G i.was_live g) (b.inputs a F f.0 k) t, k, refl)))
    | inr t ↦ i.changed.stays F (b.inputs a F f.0 k) t
  ]);
  levels = λ a F h. b.levels a F (left a h).0;
  tickets = λ a h. b.tickets a (left a h).0;
  one_each = λ a c ha hc. b.one_each a c (left a ha).0 (left c hc).0;
  clear = λ a c ha hc. b.clear a c (left a ha).0 (left c hc).0;
  floors = λ a h. b.floors a (left a h).0;
  rising = b.rising;
  ids = b.ids;
  snapshots = b.snapshots;
}
  where
    left : (a : Live) → Has (without_job ticket s.live) a → Has s.live a × (a.job.ticket ≡ ticket → ⊥)
    left a h = left_job ticket s.live a h

    source : (F : File) → Has i.outs F → Has i.one.drawn F.number ⊎ ((G : File) × Has i.one.job.inputs G × Has s.files G × (G.number ≡ F.number))
    source F h = source_of s i.one i.outs b i.was_live F h i.booked

    fresh : (F G : File) → Has i.outs F → Has s.files G → is_input i.one.job G ≡ false → F.number ≡ G.number → ⊥
    fresh F G hF hG t e = elim (source F hF) [
      | inl d ↦ b.drawn_fresh i.one F.number G i.was_live d hG (sym e)
      | inr g ↦ both_ways (is_input i.one.job G) t (input_from i.one.job G (subst (Has i.one.job.inputs) (b.numbers g.0 G g.2 hG (g.3 ∙ e)) g.1))
    ]

    numbers : (F G : File) → Has i.outs F ⊎ (Has s.files F × (is_input i.one.job F ≡ false)) → Has i.outs G ⊎ (Has s.files G × (is_input i.one.job G ≡ false)) → F.number ≡ G.number → F ≡ G
    numbers F G (inl x) (inl y) e = outs_numbers i.one i.outs i.booked F G x y e
    numbers F G (inl x) (inr y) e = absurd (fresh F G x y.0 y.1 e)
    numbers F G (inr x) (inl y) e = absurd (fresh G F y x.0 x.1 (sym e))
    numbers F G (inr x) (inr y) e = b.numbers F G x.0 y.0 e

-- ---- under the premise

-- what an install of a live job's result rests on
pub record Rests (s : Plain) (a : Live) (outs files : List File) : Type 0 where
  pub entries : List Entry
  pub part : (e : Entry) → Has entries e → Has (all_entries a.job.inputs) e
  pub outputs : AreOutputs s.files a.job entries outs
  pub same : (k : UserKey) (q : ℕ) → a.job.floor ≤ q → answer (all_entries files) k q ≡ answer (all_entries s.files) k q

rests_move : (s : Plain) (a : Live) (outs files : List File) → Meaning s → Has s.live a → IsMove a.job outs
    → Changed s.files a.job outs files → Rests s a outs files
rests_move s a outs files m h mv c = record {
  entries = all_entries a.job.inputs;
  part = λ e k. k;
  outputs = move_outputs s.files a.job outs m.lawful (m.are_open a h) mv;
  same = λ k q le. move_answers s.files a.job outs files m.lawful (m.are_open a h) (move_outputs s.files a.job outs m.lawful (m.are_open a h) mv) c k q;
}

pub rests : (s : Plain) (a : Live) (outs files : List File) → Books s → Meaning s → Has s.live a → IsBooked a outs → IsResult a.job outs
    → Changed s.files a.job outs files → Rests s a outs files
rests s a outs files b m h (inr mv) r c = rests_move s a outs files m h mv c
rests s a outs files b m h (inl d) (inr mv) c = rests_move s a outs files m h mv c
rests s a outs files b m h (inl d) (inl r) c = record {
  entries = kept_entries (all_entries a.job.inputs) a.job.floor a.job.ranges;
  part = λ e k. (kept_says (all_entries a.job.inputs) a.job.floor a.job.ranges e k).input;
  outputs = outputs;
  same = install_answers s.files a.job outs files m.lawful (m.are_open a h) outputs c;
}
  where
    outputs : AreOutputs s.files a.job (kept_entries (all_entries a.job.inputs) a.job.floor a.job.ranges) outs
    outputs = record {
      holds = finished_holds (suc a.job.level) r.merged (all_entries a.job.inputs) a.job.floor a.job.ranges outs r.merges r.cut;
      fresh = λ F G hF hG t e. b.drawn_fresh a F.number G h (d.1 F hF) hG (sym e);
    }

pub install_meaning : (H : Type 0) (s : Plain) (ticket : ℕ) (t : Plain) → Books s → Meaning s → H → Installs H s ticket t → Meaning t
install_meaning H s ticket t b m honest i = subst Meaning (sym i.is) record {
  lawful = install_lawful s.files i.one.job r.entries i.outs i.files m.lawful mine r.part r.outputs i.changed;
  reached = λ e h. (let q = all_has i.files e h in elim (i.changed.from q.0 q.1) [
    | inl out ↦ (let z = all_has i.one.job.inputs e (r.part e (r.outputs.from q.0 e out q.2)) in m.reached e (has_all s.files z.0 e (mine.inputs z.0 z.1) z.2))
    | inr old ↦ m.reached e (has_all s.files q.0 e old.0 q.2)
  ]);
  are_open = λ a h. (let f = left_job ticket s.live a h in install_keeps_open s.files i.one.job a.job r.entries i.outs i.files m.lawful mine (m.are_open a f.0)
      (b.clear i.one a i.was_live f.0 (λ e. f.1 (sym e ∙ i.its))) r.part r.outputs i.changed);
}
  where
    mine : IsOpenIn s.files i.one.job
    mine = m.are_open i.one i.was_live

    r : Rests s i.one i.outs i.files
    r = rests s i.one i.outs i.files b m i.was_live i.booked (i.result honest) i.changed

-- an install changes no answer at the last sequence or a live snapshot's
pub install_same : (H : Type 0) (s : Plain) (ticket : ℕ) (t : Plain) → Books s → Meaning s → H → Installs H s ticket t
    → (k : UserKey) (q : ℕ) → IsReadable s q → answer (all_entries t.files) k q ≡ answer (all_entries s.files) k q
install_same H s ticket t b m honest i k q readable = ap (λ (u : Plain). answer (all_entries u.files) k q) i.is ∙ r.same k q (elim readable [
  | inl e ↦ (let le = floor.at_last in omega arith)
  | inr p ↦ (let le = floor.at_snapshots p.0 p.1 in let e = p.2 in omega arith)
])
  where
    r : Rests s i.one i.outs i.files
    r = rests s i.one i.outs i.files b m i.was_live i.booked (i.result honest) i.changed

    floor : FloorHolds s.last s.snapshots i.one.job
    floor = b.floors i.one i.was_live

pub install_law : (H : Type 0) (s : Plain) (ticket : ℕ) (t : Plain) → Law H s → Installs H s ticket t → Law H t
install_law H s ticket t l i = record {
  books = install_books H s ticket t l.books i;
  meaning = λ honest. install_meaning H s ticket t l.books (l.meaning honest) honest i;
}
