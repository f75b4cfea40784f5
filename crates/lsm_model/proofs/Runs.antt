-- Over every run: the law holds, and every read that is promised gives what it gives over all that
-- was ingested.
use Rattle.std.proofs.Common.{◌≡◌, ℕ, ◌≤◌, ◌<◌, List, [], ◌∷◌, ◌++◌, Option, Some, None, refl, sym, ◌∙◌, ap, subst, inl, inr, arith, ◌⊎◌}
use Rattle.lsm_codec.specs.Keys.{UserKey}
use Rattle.lsm_codec.specs.Lists.{Has}
use Rattle.lsm_codec.specs.Entries.{Entry, newest, value_in, answer}
use Rattle.lsm_codec.proofs.CallerLemmas.{has_left, has_right, has_cases, IsAllowed, Finds, newest_finds, stamp_lt}
use Rattle.lsm_model.specs.Files.{File, all_entries, OneEach}
use Rattle.lsm_model.specs.Jobs.{Job}
use Rattle.lsm_model.specs.Plans.{Plan}
use Rattle.lsm_model.proofs.Drops.{newest_is, same_answer}
use Rattle.lsm_model.proofs.Installs.{all_has, has_all, one_each}
use Rattle.lsm_model.specs.Plain.{Ingests, IsReadable, Plain, Reserves}
use Rattle.lsm_model.specs.Law.{Books, Law, Meaning}
use Rattle.lsm_model.specs.Runs.{Agrees, Event, Ingest, Snapshot, Release, Reserve, Cancel, Draw, Install, Gather, Spend, Nothing, ReadsAs, Run, Step, ingested}
use Rattle.lsm_model.proofs.LiveLists.{left_snapshot, one_more}
use Rattle.lsm_model.proofs.PlainSteps.{cancel_books, cancel_meaning, draw_books, draw_meaning, ingest_books, ingest_meaning, release_books, reserve_books, reserve_meaning, snapshot_books, spend_books}
use Rattle.lsm_model.proofs.Installing.{install_law, install_same}
use Rattle.lsm_model.proofs.Gathering.{gather_law, gather_same}

reserve_law : (H : Type 0) (s : Plain) (plan : Plan) (job : Job) (t : Plain) → Law H s → Reserves H s plan job t → Law H t
reserve_law H s plan job t l i = record {
  books = reserve_books H s plan job t l.books i;
  meaning = λ h. reserve_meaning H s plan job t (l.meaning h) h i;
}

kept_law : (H : Type 0) (s t : Plain) → Law H s → Books t → (Meaning s → Meaning t) → Law H t
kept_law H s t l b m = record { books = b; meaning = λ h. m (l.meaning h) }

pub step_law : (H : Type 0) (s : Plain) (e : Event) (t : Plain) → Law H s → Step H s e t → Law H t
step_law H s (Ingest es) t l h = kept_law H s t l (ingest_books s es t l.books h) (λ m. ingest_meaning s es t l.books m h)
step_law H s Snapshot t l h = kept_law H s t l (snapshot_books s t l.books h) (λ m. subst Meaning (sym h) record { lawful = m.lawful; reached = m.reached; are_open = m.are_open })
step_law H s (Release id) t l h = kept_law H s t l (release_books s id t l.books h) (λ m. subst Meaning (sym h) record { lawful = m.lawful; reached = m.reached; are_open = m.are_open })
step_law H s (Reserve plan job) t l h = reserve_law H s plan job t l h
step_law H s (Cancel ticket) t l h = kept_law H s t l (cancel_books s ticket t l.books h) (λ m. cancel_meaning s ticket t m h)
step_law H s (Draw ticket) t l h = kept_law H s t l (draw_books s ticket t l.books h) (λ m. draw_meaning s ticket t m h)
step_law H s (Install ticket) t l h = install_law H s ticket t l h
step_law H s Gather t l h = gather_law H s t l h
step_law H s Spend t l h = kept_law H s t l (spend_books s t l.books h) (λ m. subst Meaning (sym h.2) record { lawful = m.lawful; reached = m.reached; are_open = m.are_open })
step_law H s Nothing t l h = subst (Law H) (sym h) l

pub run_law : (H : Type 0) (s : Plain) (es : List Event) (t : Plain) → Law H s → Run H s es t → Law H t
run_law H s [] t l h = subst (Law H) (sym h) l
run_law H s (e ∷ es) t l h = run_law H h.0 es t (step_law H s e h.0 l h.1) h.2

-- newer entries in front: they answer, or what is behind them does
pub front_newest : (new es : List Entry) (k : UserKey) (q : ℕ) → OneEach (new ++ es) → ((x y : Entry) → Has new x → Has es y → y.seq < x.seq) → (o : Option Entry) → Finds new k q o
    → answer (new ++ es) k q ≡ value_in (elim o [ None ↦ newest k q es | Some e ↦ Some e ])
front_newest new es k q one above (Some e) n = ap value_in (newest_is (new ++ es) k q e one record {
  here = has_left new es e n.here;
  allowed = n.allowed;
  most = λ y h a. elim (has_cases new es y h) [ inl f ↦ n.most y f a | inr b ↦ (let lt = stamp_lt y e (above e y n.here b) in omega arith) ];
})
front_newest new es k q one above None none = go (newest k q es) (newest_finds k q es)
  where
    nothing : ((y : Entry) → Has es y → IsAllowed k q y → ⊥) → (p : Option Entry) → Finds (new ++ es) k q p → value_in p ≡ None
    nothing empty None n = refl
    nothing empty (Some z) n = elim (has_cases new es z n.here) [ inl f ↦ absurd (none z f n.allowed) | inr b ↦ absurd (empty z b n.allowed) ]

    go : (p : Option Entry) → Finds es k q p → answer (new ++ es) k q ≡ value_in p
    go None empty = nothing empty (newest k q (new ++ es)) (newest_finds k q (new ++ es))
    go (Some z) m = ap value_in (newest_is (new ++ es) k q z one record {
      here = has_right new es z m.here;
      allowed = m.allowed;
      most = λ y h a. elim (has_cases new es y h) [ inl f ↦ absurd (none y f a) | inr b ↦ m.most y b a ];
    })

-- the same newer entries in front of lists that answer alike
pub front_same : (new es fs : List Entry) (k : UserKey) (q : ℕ) → OneEach (new ++ es) → OneEach (new ++ fs) → ((x y : Entry) → Has new x → Has es y → y.seq < x.seq)
    → ((x y : Entry) → Has new x → Has fs y → y.seq < x.seq) → answer es k q ≡ answer fs k q → answer (new ++ es) k q ≡ answer (new ++ fs) k q
front_same new es fs k q one two a b same = go (newest k q new) (newest_finds k q new)
  where
    go : (o : Option Entry) → Finds new k q o → answer (new ++ es) k q ≡ answer (new ++ fs) k q
    go None n = front_newest new es k q one a None n ∙ (same ∙ sym (front_newest new fs k q two b None n))
    go (Some e) n = front_newest new es k q one a (Some e) n ∙ sym (front_newest new fs k q two b (Some e) n)

-- from its last sequence on a list answers alike at every sequence
pub past_last : (es : List Entry) (last q : ℕ) (k : UserKey) → OneEach es → ((e : Entry) → Has es e → e.seq ≤ last) → last ≤ q → answer es k q ≡ answer es k last
past_last es last q k one upto le = go (newest k last es) (newest_finds k last es)
  where
    at : (y : Entry) → Has es y → IsAllowed k q y → IsAllowed k last y
    at y h a = record { key = a.key; seq = upto y h }

    nothing : ((y : Entry) → Has es y → IsAllowed k last y → ⊥) → (p : Option Entry) → Finds es k q p → value_in p ≡ None
    nothing empty None n = refl
    nothing empty (Some z) n = absurd (empty z n.here (at z n.here n.allowed))

    go : (o : Option Entry) → Finds es k last o → answer es k q ≡ value_in o
    go None none = nothing none (newest k q es) (newest_finds k q es)
    go (Some e) n = ap value_in (newest_is es k q e one record {
      here = n.here;
      allowed = record { key = n.allowed.key; seq = (let s = n.allowed.seq in omega arith) };
      most = λ y h a. n.most y h (at y h a);
    })

one_each_front : (new es : List Entry) → OneEach new → OneEach es → ((x y : Entry) → Has new x → Has es y → y.seq < x.seq) → OneEach (new ++ es)
one_each_front new es one two above x y hx hy key same = elim (has_cases new es x hx) [
  | inl a ↦ elim (has_cases new es y hy) [ inl b ↦ one x y a b key same | inr b ↦ (let lt = stamp_lt y x (above x y a b) in absurd (omega arith)) ]
  | inr a ↦ elim (has_cases new es y hy) [ inl b ↦ (let lt = stamp_lt x y (above y x b a) in absurd (omega arith)) | inr b ↦ two x y a b key same ]
]

ingest_agrees : (s : Plain) (new : List Entry) (t : Plain) (es : List Entry) → Meaning s → Meaning t → Ingests s new t → Agrees s es → Agrees t (new ++ es)
ingest_agrees s new t es l m i a = record {
  upto = λ e h. subst (λ (u : Plain). e.seq ≤ u.last) (sym i.is) (elim (has_cases new es e h) [ inl n ↦ i.upto e n | inr old ↦ (let le = a.upto e old in let g = i.grows in omega arith) ]);
  one = one_new;
  reads = λ k q r. unchanged k q ∙ reads k q (readable q (subst (λ (u : Plain). IsReadable u q) i.is r));
}
  where
    new_one : OneEach new
    new_one = subst OneEach i.entries i.fits.one_each

    over : (x y : Entry) → Has new x → Has es y → y.seq < x.seq
    over x y h k = (let le = a.upto y k in let lt = i.above x h in omega arith)

    over_files : (x y : Entry) → Has new x → Has (all_entries s.files) y → y.seq < x.seq
    over_files x y h k = (let le = l.reached y k in let lt = i.above x h in omega arith)

    one_new : OneEach (new ++ es)
    one_new = one_each_front new es new_one a.one over

    one_files : OneEach (new ++ all_entries s.files)
    one_files = one_each_front new (all_entries s.files) new_one (one_each s.files l.lawful) over_files

    -- the new version has the batch and what was there
    unchanged : (k : UserKey) (q : ℕ) → answer (all_entries t.files) k q ≡ answer (new ++ all_entries s.files) k q
    unchanged k q = ap (λ (u : Plain). answer (all_entries u.files) k q) i.is ∙ same_answer (new ++ all_entries s.files) (all_entries i.files) k q one_files
        (λ e h. (let r = all_has i.files e h in elim (i.from r.0 r.1) [
          | inl f ↦ has_left new (all_entries s.files) e (subst (λ xs. Has xs e) i.entries (subst (λ (D : File). Has D.entries e) (sym f) r.2))
          | inr old ↦ has_right new (all_entries s.files) e (has_all s.files r.0 e old r.2)
        ]))
        (λ e h. elim (has_cases new (all_entries s.files) e h) [
          | inl n ↦ has_all i.files i.file e i.added (subst (λ xs. Has xs e) (sym i.entries) n)
          | inr old ↦ (let r = all_has s.files e old in has_all i.files r.0 e (i.stays r.0 r.1) r.2)
        ])

    -- at a later sequence the old version and the old history answer as at the old last
    readable : (q : ℕ) → (q ≡ i.last) ⊎ ((p : ℕ × ℕ) × Has s.snapshots p × (p.1 ≡ q)) → (s.last ≤ q) ⊎ IsReadable s q
    readable q (inl e) = inl (let g = i.grows in omega arith)
    readable q (inr p) = inr (inr p)

    old_reads : (k : UserKey) (q : ℕ) → (s.last ≤ q) ⊎ IsReadable s q → answer (all_entries s.files) k q ≡ answer es k q
    old_reads k q (inl le) =
        past_last (all_entries s.files) s.last q k (one_each s.files l.lawful) l.reached le ∙ (a.reads k s.last (inl refl) ∙ sym (past_last es s.last q k a.one a.upto le))
    old_reads k q (inr r) = a.reads k q r

    reads : (k : UserKey) (q : ℕ) → (s.last ≤ q) ⊎ IsReadable s q → answer (new ++ all_entries s.files) k q ≡ answer (new ++ es) k q
    reads k q r = front_same new (all_entries s.files) es k q one_files one_new over_files over (old_reads k q r)

pub step_agrees : (H : Type 0) → H → (s : Plain) (e : Event) (t : Plain) (es : List Entry) → Law H s → Step H s e t → Agrees s es → Agrees t (ingested (e ∷ []) es)
step_agrees H y s (Ingest new) t es l h a = ingest_agrees s new t es (l.meaning y) ((step_law H s (Ingest new) t l h).meaning y) h a
step_agrees H y s Snapshot t es l h a = subst (λ (u : Plain). Agrees u es) (sym h) record {
  upto = a.upto;
  one = a.one;
  reads = λ k q r. a.reads k q (elim r [ inl e ↦ inl e | inr p ↦ elim (one_more s.snapshots (s.next_id, s.last) p.0 p.1) [ inl old ↦ inr (p.0, old, p.2) | inr e ↦ inl (sym p.2 ∙ ap (λ (x : ℕ × ℕ). x.1) (sym e)) ] ]);
}
step_agrees H y s (Release id) t es l h a = subst (λ (u : Plain). Agrees u es) (sym h) record {
  upto = a.upto;
  one = a.one;
  reads = λ k q r. a.reads k q (elim r [ inl e ↦ inl e | inr p ↦ inr (p.0, left_snapshot id s.snapshots p.0 p.1, p.2) ]);
}
step_agrees H y s (Reserve plan job) t es l h a = subst (λ (u : Plain). Agrees u es) (sym h.is) record { upto = a.upto; one = a.one; reads = a.reads }
step_agrees H y s (Cancel ticket) t es l h a = subst (λ (u : Plain). Agrees u es) (sym h) record { upto = a.upto; one = a.one; reads = a.reads }
step_agrees H y s (Draw ticket) t es l h a = subst (λ (u : Plain). Agrees u es) (sym h) record { upto = a.upto; one = a.one; reads = a.reads }
step_agrees H y s (Install ticket) t es l h a = record {
  upto = λ e k. subst (λ (u : Plain). e.seq ≤ u.last) (sym h.is) (a.upto e k);
  one = a.one;
  reads = λ k q r. (let old : IsReadable s q = subst (λ (u : Plain). IsReadable u q) h.is r in install_same H s ticket t l.books (l.meaning y) y h k q old ∙ a.reads k q old);
}
step_agrees H y s Gather t es l h a = record {
  upto = λ e k. subst (λ (u : Plain). e.seq ≤ u.last) (sym h.is) (a.upto e k);
  one = a.one;
  reads = λ k q r. (let old : IsReadable s q = subst (λ (u : Plain). IsReadable u q) h.is r in gather_same H s t l.books (l.meaning y) y h k q ∙ a.reads k q old);
}
step_agrees H y s Spend t es l h a = subst (λ (u : Plain). Agrees u es) (sym h.2) record { upto = a.upto; one = a.one; reads = a.reads }
step_agrees H y s Nothing t es l h a = subst (λ (u : Plain). Agrees u es) (sym h) a

ingested_step : (e : Event) (events : List Event) (es : List Entry) → ingested (e ∷ events) es ≡ ingested events (ingested (e ∷ []) es)
ingested_step (Ingest new) events es = refl
ingested_step Snapshot events es = refl
ingested_step (Release id) events es = refl
ingested_step (Reserve plan job) events es = refl
ingested_step (Cancel ticket) events es = refl
ingested_step (Draw ticket) events es = refl
ingested_step (Install ticket) events es = refl
ingested_step Gather events es = refl
ingested_step Spend events es = refl
ingested_step Nothing events es = refl

pub run_agrees : (H : Type 0) → H → (s : Plain) (events : List Event) (t : Plain) (es : List Entry) → Law H s → Run H s events t → Agrees s es → Agrees t (ingested events es)
run_agrees H y s [] t es l h a = subst (λ (u : Plain). Agrees u es) (sym h) a
run_agrees H y s (e ∷ events) t es l h a = subst (Agrees t) (sym (ingested_step e events es))
    (run_agrees H y h.0 events t (ingested (e ∷ []) es) (step_law H s e h.0 l h.1) h.2 (step_agrees H y s e h.0 es l h.1 a))

-- what a lawful store holds is a history of it
pub held_agrees : (H : Type 0) → H → (s : Plain) → Law H s → Agrees s (all_entries s.files)
held_agrees H y s l = record { upto = (l.meaning y).reached; one = one_each s.files (l.meaning y).lawful; reads = λ k q r. refl }

-- a run from a lawful store
pub run_reads : (H : Type 0) → H → (s : Plain) (events : List Event) (t : Plain) → Law H s → Run H s events t → ReadsAs t (ingested events (all_entries s.files))
run_reads H y s events t l r = (run_agrees H y s events t (all_entries s.files) l r (held_agrees H y s l)).reads
