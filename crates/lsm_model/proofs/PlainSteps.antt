-- Every event but an install keeps the law of the store.
use Rattle.std.proofs.Common.{◌≡◌, ℕ, suc, ◌≤◌, ◌<◌, List, [], ◌∷◌, ◌++◌, refl, sym, ◌∙◌, ap, subst, inl, inr, arith, ◌⊎◌, Bool, true, false, cond, ◌==◌}
use Rattle.lsm_codec.specs.Lists.{Has}
use Rattle.lsm_codec.specs.Entries.{Entry}
use Rattle.lsm_model.specs.Files.{File}
use Rattle.lsm_model.specs.Jobs.{Job, Conflicts, FloorHolds, Gains, IsOpenIn}
use Rattle.lsm_model.specs.Plans.{Plan}
use Rattle.lsm_model.proofs.Ingests.{ingest_keeps_open, ingest_lawful}
use Rattle.lsm_model.proofs.Installs.{all_has, has_all}
use Rattle.lsm_model.proofs.Plans.{plan_opens}
use Rattle.lsm_model.specs.Plain.{Live, Plain, Ingests, TakesSnapshot, Releases, Reserves, Cancels, Draws, Spends, floor_of, without_job, booking, drawing}
use Rattle.lsm_model.specs.Law.{AreRising, Books, Meaning}
use Rattle.lsm_model.proofs.LiveLists.{left_job, left_snapshot, one_more, was_before, booked_is, booked_of, rising_less, rising_more}

pub conflicts_back : (a b : Job) → Conflicts a b → Conflicts b a
conflicts_back a b (inl s) = inl (s.1, s.0, s.3, s.2, sym s.4)
conflicts_back a b (inr m) = inr (sym m.0, m.2, m.1)

-- ---- ingest

pub ingest_books : (s : Plain) (es : List Entry) (t : Plain) → Books s → Ingests s es t → Books t
ingest_books s es t b i = subst Books (sym i.is) record {
  numbers = λ F G hF hG e. numbers F G (i.from F hF) (i.from G hG) e;
  below_next = λ F h. elim (i.from F h) [
    | inl new ↦ subst (λ (D : File). D.number < i.next) new i.passed
    | inr old ↦ (let lt = b.below_next F old in let d = i.drawn in let p = i.passed in omega arith)
  ];
  drawn_below = λ a n h k. (let lt = b.drawn_below a n h k in let d = i.drawn in let p = i.passed in omega arith);
  drawn_fresh = λ a n F h k hF e. elim (i.from F hF) [
    | inl new ↦ (let lt = b.drawn_below a n h k in let d = i.drawn in let q = ap (λ (D : File). D.number) new in omega arith)
    | inr old ↦ b.drawn_fresh a n F h k old e
  ];
  drawn_apart = b.drawn_apart;
  inputs = λ a F h k. i.stays F (b.inputs a F h k);
  levels = b.levels;
  tickets = b.tickets;
  one_each = b.one_each;
  clear = b.clear;
  floors = λ a h. record { at_last = (let le = (b.floors a h).at_last in let g = i.grows in omega arith); at_snapshots = (b.floors a h).at_snapshots };
  rising = b.rising;
  ids = b.ids;
  snapshots = λ p h. (let le = b.snapshots p h in let g = i.grows in omega arith);
}
  where
    numbers : (F G : File) → (i.file ≡ F) ⊎ Has s.files F → (i.file ≡ G) ⊎ Has s.files G → F.number ≡ G.number → F ≡ G
    numbers F G (inl x) (inl y) e = sym x ∙ y
    numbers F G (inl x) (inr y) e = (let n = ap (λ (D : File). D.number) x in let lt = b.below_next G y in let d = i.drawn in absurd (omega arith))
    numbers F G (inr x) (inl y) e = (let n = ap (λ (D : File). D.number) y in let lt = b.below_next F x in let d = i.drawn in absurd (omega arith))
    numbers F G (inr x) (inr y) e = b.numbers F G x y e

pub ingest_gains : (s : Plain) (es : List Entry) (t : Plain) → Books s → (i : Ingests s es t) → Gains s.files s.last i.file i.files
ingest_gains s es t b i = record {
  level = i.level;
  fits = i.fits;
  above = λ e h. i.above e (subst (λ fs. Has fs e) i.entries h);
  greatest = λ F h. (let lt = b.below_next F h in let d = i.drawn in omega arith);
  from = i.from;
  stays = i.stays;
  added = i.added;
}

pub ingest_meaning : (s : Plain) (es : List Entry) (t : Plain) → Books s → Meaning s → Ingests s es t → Meaning t
ingest_meaning s es t b m i = subst Meaning (sym i.is) record {
  lawful = ingest_lawful s.files i.files i.file s.last m.lawful reached gains;
  reached = λ e h. (let r = all_has i.files e h in elim (i.from r.0 r.1) [
    | inl new ↦ i.upto e (subst (λ fs. Has fs e) i.entries (subst (λ (D : File). Has D.entries e) (sym new) r.2))
    | inr old ↦ (let le = reached r.0 e old r.2 in let g = i.grows in omega arith)
  ]);
  are_open = λ a h. ingest_keeps_open s.files i.files i.file s.last a.job (m.are_open a h) reached gains;
}
  where
    reached : (F : File) (e : Entry) → Has s.files F → Has F.entries e → e.seq ≤ s.last
    reached F e h k = m.reached e (has_all s.files F e h k)

    gains : Gains s.files s.last i.file i.files
    gains = ingest_gains s es t b i

-- ---- snapshots

pub snapshot_books : (s t : Plain) → Books s → TakesSnapshot s t → Books t
snapshot_books s t b i = subst Books (sym i) record {
  numbers = b.numbers;
  below_next = b.below_next;
  drawn_below = b.drawn_below;
  drawn_fresh = b.drawn_fresh;
  drawn_apart = b.drawn_apart;
  inputs = b.inputs;
  levels = b.levels;
  tickets = b.tickets;
  one_each = b.one_each;
  clear = b.clear;
  floors = λ a h. record {
    at_last = (b.floors a h).at_last;
    at_snapshots = λ p k. elim (one_more s.snapshots (s.next_id, s.last) p k) [ inl old ↦ (b.floors a h).at_snapshots p old | inr e ↦ subst (λ (q : ℕ × ℕ). a.job.floor ≤ q.1) e (b.floors a h).at_last ];
  };
  rising = rising_more s.snapshots s.next_id s.last b.rising b.ids b.snapshots;
  ids = λ p h. elim (one_more s.snapshots (s.next_id, s.last) p h) [ inl old ↦ (let lt = b.ids p old in omega arith) | inr e ↦ subst (λ (q : ℕ × ℕ). q.0 < suc s.next_id) e (omega arith) ];
  snapshots = λ p h. elim (one_more s.snapshots (s.next_id, s.last) p h) [ inl old ↦ b.snapshots p old | inr e ↦ subst (λ (q : ℕ × ℕ). q.1 ≤ s.last) e (omega arith) ];
}

pub release_books : (s : Plain) (id : ℕ) (t : Plain) → Books s → Releases s id t → Books t
release_books s id t b i = subst Books (sym i) record {
  numbers = b.numbers;
  below_next = b.below_next;
  drawn_below = b.drawn_below;
  drawn_fresh = b.drawn_fresh;
  drawn_apart = b.drawn_apart;
  inputs = b.inputs;
  levels = b.levels;
  tickets = b.tickets;
  one_each = b.one_each;
  clear = b.clear;
  floors = λ a h. record { at_last = (b.floors a h).at_last; at_snapshots = λ p k. (b.floors a h).at_snapshots p (left_snapshot id s.snapshots p k) };
  rising = rising_less id s.snapshots b.rising;
  ids = λ p h. b.ids p (left_snapshot id s.snapshots p h);
  snapshots = λ p h. b.snapshots p (left_snapshot id s.snapshots p h);
}

-- ---- reservations

floor_least : (last : ℕ) (ps : List (ℕ × ℕ)) → AreRising ps → (p : ℕ × ℕ) → Has ps p → floor_of last ps ≤ p.1
floor_least last [] r p h = absurd h
floor_least last (q ∷ ps) r p (inl e) = subst (λ (z : ℕ × ℕ). q.1 ≤ z.1) e (omega arith)
floor_least last (q ∷ ps) r p (inr h) = (r.0 p h).1

floor_last : (last : ℕ) (ps : List (ℕ × ℕ)) → ((p : ℕ × ℕ) → Has ps p → p.1 ≤ last) → floor_of last ps ≤ last
floor_last last [] h = omega arith
floor_last last (q ∷ ps) h = h q (inl refl)

pub floor_holds : (s : Plain) (job : Job) → Books s → job.floor ≡ floor_of s.last s.snapshots → FloorHolds s.last s.snapshots job
floor_holds s job b e = record {
  at_last = subst (λ n. n ≤ s.last) (sym e) (floor_last s.last s.snapshots b.snapshots);
  at_snapshots = λ p h. subst (λ n. n ≤ p.1) (sym e) (floor_least s.last s.snapshots b.rising p h);
}

abbrev pub new_live : Job → Live
new_live job = record { job = job; drawn = [] }

none_drawn : (job : Job) (a : Live) (n : ℕ) → new_live job ≡ a → Has a.drawn n → ⊥
none_drawn job a n e h = subst (λ (b : Live). Has b.drawn n) (sym e) h

pub reserve_books : (H : Type 0) (s : Plain) (plan : Plan) (job : Job) (t : Plain) → Books s → Reserves H s plan job t → Books t
reserve_books H s plan job t b i = subst Books (sym i.is) record {
  numbers = b.numbers;
  below_next = b.below_next;
  drawn_below = λ a n h k. elim (more a h) [ inl old ↦ b.drawn_below a n old k | inr e ↦ absurd (none_drawn job a n e k) ];
  drawn_fresh = λ a n F h k hF e. elim (more a h) [ inl old ↦ b.drawn_fresh a n F old k hF e | inr new ↦ none_drawn job a n new k ];
  drawn_apart = λ a c n ha hc ka kc. elim (more a ha) [
    | inl olda ↦ elim (more c hc) [ inl oldc ↦ b.drawn_apart a c n olda oldc ka kc | inr e ↦ absurd (none_drawn job c n e kc) ]
    | inr e ↦ absurd (none_drawn job a n e ka)
  ];
  inputs = λ a F h k. elim (more a h) [ inl old ↦ b.inputs a F old k | inr e ↦ i.inputs F (subst (λ (d : Live). Has d.job.inputs F) (sym e) k) ];
  levels = λ a F h k. elim (more a h) [ inl old ↦ b.levels a F old k | inr e ↦ subst (λ (d : Live). (F.level ≡ d.job.level) ⊎ (F.level ≡ suc d.job.level)) e (i.levels F (subst (λ (d : Live). Has d.job.inputs F) (sym e) k)) ];
  tickets = λ a h. elim (more a h) [ inl old ↦ (let lt = b.tickets a old in omega arith) | inr e ↦ (let q = ap (λ (d : Live). d.job.ticket) e in let z = i.ticket in omega arith) ];
  one_each = λ a c ha hc e. one a c (more a ha) (more c hc) e;
  clear = λ a c ha hc ne k. clear a c (more a ha) (more c hc) ne k;
  floors = λ a h. elim (more a h) [ inl old ↦ b.floors a old | inr e ↦ subst (λ (d : Live). FloorHolds s.last s.snapshots d.job) e (floor_holds s job b i.floor) ];
  rising = b.rising;
  ids = b.ids;
  snapshots = b.snapshots;
}
  where
    more : (a : Live) → Has (s.live ++ new_live job ∷ []) a → Has s.live a ⊎ (new_live job ≡ a)
    more a h = one_more s.live (new_live job) a h

    one : (a c : Live) → Has s.live a ⊎ (new_live job ≡ a) → Has s.live c ⊎ (new_live job ≡ c) → a.job.ticket ≡ c.job.ticket → a ≡ c
    one a c (inl x) (inl y) e = b.one_each a c x y e
    one a c (inl x) (inr y) e = (let lt = b.tickets a x in let q = ap (λ (d : Live). d.job.ticket) y in let z = i.ticket in absurd (omega arith))
    one a c (inr x) (inl y) e = (let lt = b.tickets c y in let q = ap (λ (d : Live). d.job.ticket) x in let z = i.ticket in absurd (omega arith))
    one a c (inr x) (inr y) e = sym x ∙ y

    clear : (a c : Live) → Has s.live a ⊎ (new_live job ≡ a) → Has s.live c ⊎ (new_live job ≡ c) → (a.job.ticket ≡ c.job.ticket → ⊥) → Conflicts a.job c.job → ⊥
    clear a c (inl x) (inl y) ne k = b.clear a c x y ne k
    clear a c (inl x) (inr y) ne k = i.clear a x (conflicts_back a.job job (subst (λ (d : Live). Conflicts a.job d.job) (sym y) k))
    clear a c (inr x) (inl y) ne k = i.clear c y (subst (λ (d : Live). Conflicts d.job c.job) (sym x) k)
    clear a c (inr x) (inr y) ne k = ne (ap (λ (d : Live). d.job.ticket) (sym x ∙ y))

pub reserve_meaning : (H : Type 0) (s : Plain) (plan : Plan) (job : Job) (t : Plain) → Meaning s → H → Reserves H s plan job t → Meaning t
reserve_meaning H s plan job t m honest i = subst Meaning (sym i.is) record {
  lawful = m.lawful;
  reached = m.reached;
  are_open = λ a h. elim (one_more s.live (new_live job) a h) [
    | inl old ↦ m.are_open a old
    | inr e ↦ subst (λ (b : Live). IsOpenIn s.files b.job) e (let c = i.closed honest in plan_opens s.files (Has c.0) plan job m.lawful c.1 i.is_job)
  ];
}

-- ---- cancel

pub cancel_books : (s : Plain) (ticket : ℕ) (t : Plain) → Books s → Cancels s ticket t → Books t
cancel_books s ticket t b i = subst Books (sym i) record {
  numbers = b.numbers;
  below_next = b.below_next;
  drawn_below = λ a n h. b.drawn_below a n (left a h);
  drawn_fresh = λ a n F h. b.drawn_fresh a n F (left a h);
  drawn_apart = λ a c n ha hc. b.drawn_apart a c n (left a ha) (left c hc);
  inputs = λ a F h. b.inputs a F (left a h);
  levels = λ a F h. b.levels a F (left a h);
  tickets = λ a h. b.tickets a (left a h);
  one_each = λ a c ha hc. b.one_each a c (left a ha) (left c hc);
  clear = λ a c ha hc. b.clear a c (left a ha) (left c hc);
  floors = λ a h. b.floors a (left a h);
  rising = b.rising;
  ids = b.ids;
  snapshots = b.snapshots;
}
  where
    left : (a : Live) → Has (without_job ticket s.live) a → Has s.live a
    left a h = (left_job ticket s.live a h).0

pub cancel_meaning : (s : Plain) (ticket : ℕ) (t : Plain) → Meaning s → Cancels s ticket t → Meaning t
cancel_meaning s ticket t m i = subst Meaning (sym i) record {
  lawful = m.lawful;
  reached = m.reached;
  are_open = λ a h. m.are_open a (left_job ticket s.live a h).0;
}

-- ---- draw

pub draw_books : (s : Plain) (ticket : ℕ) (t : Plain) → Books s → Draws s ticket t → Books t
draw_books s ticket t b i = subst Books (sym i) record {
  numbers = b.numbers;
  below_next = λ F h. (let lt = b.below_next F h in omega arith);
  drawn_below = λ c n h k. (let r = was c h in elim (r.3 n k) [ inl e ↦ (let q = e.0 in omega arith) | inr old ↦ (let lt = b.drawn_below r.0 n r.1 old in omega arith) ]);
  drawn_fresh = λ c n F h k hF e. (let r = was c h in elim (r.3 n k) [ inl new ↦ (let q = new.0 in let lt = b.below_next F hF in omega arith) | inr old ↦ b.drawn_fresh r.0 n F r.1 old hF e ]);
  drawn_apart = λ a c n ha hc ka kc. (let p = was a ha in let q = was c hc in elim (p.3 n ka) [
    | inl e ↦ elim (q.3 n kc) [ inl f ↦ e.1 ∙ sym f.1 | inr old ↦ (let lt = b.drawn_below q.0 n q.1 old in let z = e.0 in absurd (omega arith)) ]
    | inr olda ↦ elim (q.3 n kc) [
      | inl f ↦ (let lt = b.drawn_below p.0 n p.1 olda in let z = f.0 in absurd (omega arith))
      | inr oldc ↦ ap (λ (j : Job). j.ticket) (sym p.2) ∙ (b.drawn_apart p.0 q.0 n p.1 q.1 olda oldc ∙ ap (λ (j : Job). j.ticket) q.2)
    ]
  ]);
  inputs = λ c F h k. (let r = was c h in b.inputs r.0 F r.1 (subst (λ (j : Job). Has j.inputs F) (sym r.2) k));
  levels = λ c F h k. (let r = was c h in subst (λ (j : Job). (F.level ≡ j.level) ⊎ (F.level ≡ suc j.level)) r.2 (b.levels r.0 F r.1 (subst (λ (j : Job). Has j.inputs F) (sym r.2) k)));
  tickets = λ c h. (let r = was c h in subst (λ (j : Job). j.ticket < s.next_ticket) r.2 (b.tickets r.0 r.1));
  one_each = λ a c ha hc e. (let p = was a ha in let q = was c hc in let x = booked_is ticket s.next s.live a ha in let y = booked_is ticket s.next s.live c hc in
      sym x.2 ∙ (ap (booked_of ticket s.next) (b.one_each x.0 y.0 x.1 y.1 (ticket_of x.0 a x.2 ∙ (e ∙ sym (ticket_of y.0 c y.2)))) ∙ y.2));
  clear = λ a c ha hc ne k. (let p = was a ha in let q = was c hc in
      b.clear p.0 q.0 p.1 q.1 (λ e. ne (ap (λ (j : Job). j.ticket) (sym p.2) ∙ (e ∙ ap (λ (j : Job). j.ticket) q.2)))
      (subst (λ (j : Job). Conflicts p.0.job j) (sym q.2) (subst (λ (j : Job). Conflicts j c.job) (sym p.2) k)));
  floors = λ c h. (let r = was c h in subst (FloorHolds s.last s.snapshots) r.2 (b.floors r.0 r.1));
  rising = b.rising;
  ids = b.ids;
  snapshots = b.snapshots;
}
  where
    was : (c : Live) → Has (booking ticket s.next s.live) c
        → (a : Live) × Has s.live a × (a.job ≡ c.job) × ((m : ℕ) → Has c.drawn m → ((s.next ≡ m) × (c.job.ticket ≡ ticket)) ⊎ Has a.drawn m) × ((c ≡ a) ⊎ (c ≡ drawing s.next a))
    was c h = was_before ticket s.next s.live c h

    ticket_of : (x a : Live) → booked_of ticket s.next x ≡ a → x.job.ticket ≡ a.job.ticket
    ticket_of x a e = go (x.job.ticket == ticket) e
      where
        go : (c : Bool) → cond c (drawing s.next x) x ≡ a → x.job.ticket ≡ a.job.ticket
        go true e = ap (λ (l : Live). l.job.ticket) e
        go false e = ap (λ (l : Live). l.job.ticket) e

pub draw_meaning : (s : Plain) (ticket : ℕ) (t : Plain) → Meaning s → Draws s ticket t → Meaning t
draw_meaning s ticket t m i = subst Meaning (sym i) record {
  lawful = m.lawful;
  reached = m.reached;
  are_open = λ b h. (let r = was_before ticket s.next s.live b h in subst (IsOpenIn s.files) r.2 (m.are_open r.0 r.1));
}

-- ---- numbers spent

pub spend_books : (s t : Plain) → Books s → Spends s t → Books t
spend_books s t b i = subst Books (sym i.2) record {
  numbers = b.numbers;
  below_next = λ F h. (let lt = b.below_next F h in let le = i.1 in omega arith);
  drawn_below = λ a n h k. (let lt = b.drawn_below a n h k in let le = i.1 in omega arith);
  drawn_fresh = b.drawn_fresh;
  drawn_apart = b.drawn_apart;
  inputs = b.inputs;
  levels = b.levels;
  tickets = b.tickets;
  one_each = b.one_each;
  clear = b.clear;
  floors = b.floors;
  rising = b.rising;
  ids = b.ids;
  snapshots = b.snapshots;
}
