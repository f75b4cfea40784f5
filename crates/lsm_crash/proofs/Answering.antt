-- What reads give after calls of a database, and after a crash.
use Rattle.std.proofs.Common.{◌≡◌, ℕ, ◌<◌, ◌≤◌, Bool, true, false, cond, List, [], ◌∷◌, ◌++◌, Option, None, Some, append_assoc, refl, sym, ◌∙◌, ap, subst, inl, inr, ◌⊎◌, arith}
use Rattle.std.specs.Prelude.{nat_lt, ◌&&◌}
use Rattle.std.specs.Str.{bytes_eq}
use Rattle.std.proofs.lemmas.Bool.{le-leb, ltb-true}
use Rattle.atomic_table.specs.Seated.{TableId}
use Rattle.lsm_codec.specs.Entries.{Entry, answer, first_of_two, is_allowed, newest, stamp, value_in}
use Rattle.lsm_codec.specs.Keys.{UserKey}
use Rattle.lsm_codec.specs.Lists.{Has}
use Rattle.lsm_codec.proofs.CallerLemmas.{Finds, IsAllowed, flat_has, has_cases, has_flat, newest_finds, stamp_lt}
use Rattle.lsm_model.specs.Files.{File, IsLawful, all_entries}
use Rattle.lsm_model.specs.Law.{Law}
use Rattle.lsm_model.specs.Plain.{Plain}
use Rattle.lsm_model.specs.Plain as machine
use Rattle.lsm_model.specs.Runs.{Event, ReadsAs, Run, ingested}
use Rattle.lsm_model.specs.Runs as event
use Rattle.lsm_model.proofs.CallerLemmas.{newest_is, one_each}
use Rattle.lsm_version.specs.Versions.{Levels, files}
use Rattle.lsm_shelf.specs.Asked.{Asked}
use Rattle.lsm_batch.specs.Batches.{entries_from}
use Rattle.lsm_state.specs.Held.{Held, plain}
use Rattle.lsm_state.specs.Ingesting.{entries_of}
use Rattle.lsm_crash.specs.Disk.{Disk}
use Rattle.lsm_crash.specs.Known.{World}
use Rattle.lsm_crash.specs.Database.{Answered, Asks, Builds, Collect, Deed, Follows, Gather, Ingest, Install, IsMade, IsState, Looks, Refused, Turn, Turns, Works}
use Rattle.lsm_crash.specs.Lives.{Answers, brought}

-- all that was ever ingested is read (a law of the plain machine)
abbrev pub ReadsAll : Type 0 → Type 0
ReadsAll honest = (s t : Plain) (events : List Event) → honest → Law honest s → Run honest s events t → ReadsAs t (ingested events (all_entries s.files))

-- ---- entries at the front, above all others

allowed_same : (k : UserKey) (s q : ℕ) (e : Entry) → e.seq ≤ s → s ≤ q → is_allowed k q e ≡ is_allowed k s e
allowed_same k s q e low le = ap (λ b. bytes_eq e.user k && b) (le-leb e.seq q (omega (arith, low, le)) ∙ sym (le-leb e.seq s low))

-- a later sequence shows no more
newest_past : (k : UserKey) (s q : ℕ) (es : List Entry) → ((e : Entry) → Has es e → e.seq ≤ s) → s ≤ q → newest k q es ≡ newest k s es
newest_past k s q [] low le = refl
newest_past k s q (e ∷ es) low le =
    ap (λ b. cond b (Some (first_of_two e (newest k q es))) (newest k q es)) (allowed_same k s q e (low e (inl refl)) le)
    ∙ ap (λ o. cond (is_allowed k s e) (Some (first_of_two e o)) o) (newest_past k s q es (λ x h. low x (inr h)) le)

-- what is newest lies among the entries
newest_in : (k : UserKey) (q : ℕ) (es : List Entry) (o : Option Entry) → newest k q es ≡ o → (f : Entry) → o ≡ Some f → Has es f
newest_in k q es o is f e = (let n = subst (λ x. Finds es k q x) (is ∙ e) (newest_finds k q es) in n.here)

first_above : (e : Entry) (o : Option Entry) → ((f : Entry) → o ≡ Some f → f.seq < e.seq) → first_of_two e o ≡ e
first_above e None above = refl
first_above e (Some f) above = (let lt = stamp_lt f e (above f refl) in go (nat_lt (stamp e) (stamp f)) refl lt)
  where
    go : (b : Bool) → nat_lt (stamp e) (stamp f) ≡ b → stamp f < stamp e → cond b f e ≡ e
    go true t lt = absurd (omega (arith, ltb-true (stamp e) (stamp f) t))
    go false t lt = refl

-- either an entry at the front is newest over both lists, or each list has its own
Front : UserKey → ℕ → List Entry → List Entry → List Entry → Type 0
Front k q ns xs ys = (newest k q (ns ++ xs) ≡ newest k q (ns ++ ys)) ⊎ ((newest k q (ns ++ xs) ≡ newest k q xs) × (newest k q (ns ++ ys) ≡ newest k q ys))

front : (k : UserKey) (q s : ℕ) (ns xs ys : List Entry) → ((e : Entry) → Has ns e → s < e.seq) → ((e : Entry) → Has xs e → e.seq ≤ s) → ((e : Entry) → Has ys e → e.seq ≤ s) → Front k q ns xs ys
unfolding Front
front k q s [] xs ys above low lower = inr (refl, refl)
front k q s (e ∷ ns) xs ys above low lower = by (is_allowed k q e) (front k q s ns xs ys (λ x h. above x (inr h)) low lower)
  where
    own : (zs : List Entry) → ((f : Entry) → Has zs f → f.seq ≤ s) → newest k q (ns ++ zs) ≡ newest k q zs → first_of_two e (newest k q (ns ++ zs)) ≡ e
    own zs small is = first_above e (newest k q (ns ++ zs)) (λ f t. (let a = above e (inl refl) in let b = small f (newest_in k q zs (newest k q zs) refl f (sym is ∙ t)) in omega arith))

    by : (b : Bool) → Front k q ns xs ys
        → (cond b (Some (first_of_two e (newest k q (ns ++ xs)))) (newest k q (ns ++ xs)) ≡ cond b (Some (first_of_two e (newest k q (ns ++ ys)))) (newest k q (ns ++ ys)))
        ⊎ ((cond b (Some (first_of_two e (newest k q (ns ++ xs)))) (newest k q (ns ++ xs)) ≡ newest k q xs) × (cond b (Some (first_of_two e (newest k q (ns ++ ys)))) (newest k q (ns ++ ys)) ≡ newest k q ys))
    by false r = r
    by true (inl same) = inl (ap (λ o. Some (first_of_two e o)) same)
    by true (inr both) = inl (ap Some (own xs low both.0 ∙ sym (own ys lower both.1)))

front_answers : (k : UserKey) (q s : ℕ) (ns xs ys : List Entry) → ((e : Entry) → Has ns e → s < e.seq) → ((e : Entry) → Has xs e → e.seq ≤ s) → ((e : Entry) → Has ys e → e.seq ≤ s) → s ≤ q
    → answer xs k s ≡ answer ys k s → answer (ns ++ xs) k q ≡ answer (ns ++ ys) k q
unfolding Front
front_answers k q s ns xs ys above low lower le same = elim (front k q s ns xs ys above low lower) [
  | inl e ↦ ap value_in e
  | inr both ↦ ap value_in both.0 ∙ (ap value_in (newest_past k s q xs low le) ∙ (same ∙ (ap value_in (sym (newest_past k s q ys lower le)) ∙ ap value_in (sym both.1))))
]

-- ---- the same files

all_in : (u v : List File) → ((F : File) → Has u F → Has v F) → (e : Entry) → Has (all_entries u) e → Has (all_entries v) e
all_in u v to e h = (let r = flat_has (λ (F : File). F.entries) u e h in has_flat (λ (F : File). F.entries) v r.0 e (to r.0 r.1) r.2)

same_newest : (u v : List File) (k : UserKey) (q : ℕ) → IsLawful v → ((F : File) → Has u F → Has v F) → ((F : File) → Has v F → Has u F) → newest k q (all_entries v) ≡ newest k q (all_entries u)
same_newest u v k q l to from = go (newest k q (all_entries u)) refl (newest_finds k q (all_entries u))
  where
    none : ((y : Entry) → Has (all_entries u) y → IsAllowed k q y → ⊥) → (o : Option Entry) → Finds (all_entries v) k q o → o ≡ None
    none miss None n = refl
    none miss (Some f) n = absurd (miss f (all_in v u from f n.here) n.allowed)

    go : (o : Option Entry) → newest k q (all_entries u) ≡ o → Finds (all_entries u) k q o → newest k q (all_entries v) ≡ newest k q (all_entries u)
    go None is n = none n (newest k q (all_entries v)) (newest_finds k q (all_entries v)) ∙ sym is
    go (Some f) is n = newest_is (all_entries v) k q f (one_each v l) record {
      here = all_in u v to f n.here;
      allowed = n.allowed;
      most = λ y h a. n.most y (all_in v u from y h) a;
    } ∙ sym is

-- a version with the same files and the same last sequence gives the same
pub same_answers : (u v : Levels) (es : List Entry) → IsLawful (files v) → ((F : File) → Has (files u) F → Has (files v) F) → ((F : File) → Has (files v) F → Has (files u) F) → u.last ≡ v.last → Answers u es → Answers v es
same_answers u v es l to from last a = record {
  reads = λ k. ap value_in (same_newest (files u) (files v) k v.last l to from) ∙ subst (λ q. answer (all_entries (files u)) k q ≡ answer es k q) last (a.reads k);
  upto = λ e h. subst (λ q. e.seq ≤ q) last (a.upto e h);
}

-- ---- turns

abbrev Gives : Plain → List Entry → Type 0
Gives p es = (k : UserKey) → answer (all_entries p.files) k p.last ≡ answer es k p.last

module _ (honest : Type 0) (all : ReadsAll honest) (board : TableId) (fair : honest) where
  -- nothing came in, and the last sequence is as before
  quiet : (old new : Held) (events : List Event) (es : List Entry) → IsState honest board old → ingested events (all_entries (files old.slots.version)) ≡ all_entries (files old.slots.version) → Run honest (plain old) events (plain new)
      → new.slots.version.last ≡ old.slots.version.last → Answers old.slots.version es → Answers new.slots.version es
  quiet old new events es l none run last a = record {
    reads = λ k. all (plain old) (plain new) events fair l.0.law run k new.slots.version.last (inl refl)
        ∙ (ap (λ xs. answer xs k new.slots.version.last) none ∙ subst (λ q. answer (all_entries (files old.slots.version)) k q ≡ answer es k q) (sym last) (a.reads k));
    upto = λ e h. subst (λ q. e.seq ≤ q) (sym last) (a.upto e h);
  }

  same_plain : (old new : Held) (es : List Entry) → plain new ≡ plain old → Answers old.slots.version es → Answers new.slots.version es
  same_plain old new es same a = record {
    reads = subst (λ p. Gives p es) (sym same) a.reads;
    upto = λ e h. subst (λ q. e.seq ≤ q) (ap (λ (p : Plain). p.last) (sym same)) (a.upto e h);
  }

  ingest : (old new : Held) (ns es : List Entry) → IsState honest board old → machine.Ingests (plain old) ns (plain new) → Answers old.slots.version es → Answers new.slots.version (ns ++ es)
  ingest old new ns es l i a =
      let q = new.slots.version.last in
      let last : q ≡ i.last = ap (λ (p : Plain). p.last) i.is in
      let grows : old.slots.version.last ≤ q = (let g = i.grows in omega arith) in
      record {
        reads = λ k. all (plain old) (plain new) (event.Ingest ns ∷ []) fair l.0.law (plain new, i, refl) k q (inl refl)
            ∙ front_answers k q old.slots.version.last ns (all_entries (files old.slots.version)) es i.above (l.0.law.meaning fair).reached a.upto grows (a.reads k);
        upto = λ e h. elim (has_cases ns es e h) [
          | inl new_one ↦ (let u = i.upto e new_one in omega arith)
          | inr before ↦ (let u = a.upto e before in omega arith)
        ];
      }

  pub deed_reads : (old new : Held) (deed : Deed) (asks : List Asked) (es : List Entry) → IsState honest board old → Asks honest old new deed asks → Follows honest old new (Answered deed) → Answers old.slots.version es
      → Answers new.slots.version (brought (Answered deed ∷ []) ++ es)
  deed_reads old new (Ingest ws r) asks es l t f a =
      subst (λ (ns : List Entry). Answers new.slots.version (ns ++ es)) (ap (λ n. entries_from n ws) (sym t.3.first)) (ingest old new (entries_of old ws) es l f a)
  deed_reads old new (Install done) asks es l t f a =
      quiet old new (event.Install done.work.ticket ∷ event.Spend ∷ []) es l refl f (ap (λ (p : Plain). p.last) f.2.2 ∙ (ap (λ (p : Plain). p.last) f.2.1.2 ∙ ap (λ (p : Plain). p.last) f.1.is)) a
  deed_reads old new (Gather number) asks es l t f a =
      quiet old new (event.Gather ∷ []) es l refl (plain new, f, refl) (ap (λ (p : Plain). p.last) f.is) a
  deed_reads old new (Collect removed) asks es l t f a = same_plain old new es f a

  turn_reads : (old new : Held) (turn : Turn) (w u : World) (d e : Disk) (es : List Entry) → IsState honest board old → Turns honest board old new turn w u d e → Follows honest old new turn → Answers old.slots.version es
      → Answers new.slots.version (brought (turn ∷ []) ++ es)
  turn_reads old new (Answered deed) w u d e es l t f a = deed_reads old new deed t.1 es l t.2 f a
  turn_reads old new (Refused deed) w u d e es l t f a = quiet old new (event.Spend ∷ []) es l refl (plain new, f, refl) (ap (λ (p : Plain). p.last) f.2) a
  turn_reads old new (Builds number image) w u d e es l t f a = subst (λ (h : Held). Answers h.slots.version es) (sym t.0) a
  turn_reads old new Looks w u d e es l t f a = quiet old new f.0 es l (f.1 (all_entries (files old.slots.version))) f.2 (ap (λ (v : Levels). v.last) t.0.version) a

  brought_more : (turn : Turn) (turns : List Turn) (es : List Entry) → brought (turn ∷ turns) ++ es ≡ brought turns ++ (brought (turn ∷ []) ++ es)
  brought_more (Answered (Ingest ws r)) turns es = append_assoc (brought turns) (entries_from r.first ws) es
  brought_more (Answered (Install done)) turns es = refl
  brought_more (Answered (Gather number)) turns es = refl
  brought_more (Answered (Collect removed)) turns es = refl
  brought_more (Refused deed) turns es = refl
  brought_more (Builds number image) turns es = refl
  brought_more Looks turns es = refl

  pub works_read : (turns : List Turn) (old new : Held) (w u : World) (d e : Disk) (es : List Entry) → IsState honest board old → Works honest board old new turns w u d e → Answers old.slots.version es
      → Answers new.slots.version (brought turns ++ es)
  works_read [] old new w u d e es l h a = subst (λ (x : Held). Answers x.slots.version es) (sym h.0) a
  works_read (turn ∷ turns) old new w u d e es l h a =
      subst (Answers new.slots.version) (sym (brought_more turn turns es))
      (works_read turns h.0 new h.1 u h.2 e (brought (turn ∷ []) ++ es) h.3 h.6 (turn_reads old h.0 turn w h.1 d h.2 es l h.4 h.5 a))

-- a new database has nothing to read
pub made_answers : (h : Held) → IsMade h → Answers h.slots.version []
made_answers h m = subst (λ (x : Held). Answers x.slots.version []) (sym m.is) record { reads = λ k. refl; upto = λ e none. absurd none }
