-- Numbers drawn by a merge.
use Rattle.std.proofs.Common.{◌≡◌, ℕ, ◌-◌, ◌^◌, ◌==◌, Bool, true, false, cond, List, [], ◌∷◌, map, refl, sym, ◌∙◌, ap, subst, inl, inr, arith, IfErr, IfOk}
use Rattle.std.specs.Prelude.{Result, Ok, Err}
use Rattle.lsm_codec.specs.Lists.{Has}
use Rattle.lsm_codec.proofs.CallerLemmas.{has_cases}
use Rattle.lsm_shelf.specs.Told.{Told}
use Rattle.lsm_merge.specs.Causes.{AnswersOf, AsksFor, NamesTicket}
use Rattle.lsm_merge.specs.Work.{Done, Work}
use Rattle.lsm_merge.specs.declared.merge_fault.MergeFault.{MergeFault}
use Rattle.lsm_merge.specs.declared.merge_fault.MergeFault.TheVariants.{OutOfMemory, ReadFailed, PutFailed, UnknownTicket, NumbersSpent}
use Rattle.lsm_merge.specs.declared.number_source.NumberFault.TheVariants as numbers
use Rattle.lsm_live.specs.Booked.{Booked, HasTicket, booked, drawing}
use Rattle.lsm_state.specs.Held.{Held}
use Rattle.lsm_script.specs.Drawing.{AreDrawn, ArePairsDrawn, Drawn, DrawsOne, GivesNumber, HasDrawn, Keeps, Source}
use Rattle.lsm_script.specs.Replies.{IsMerged, IsMergedBy, IsNumberCause, IsRefusedBy, IsRefusedMerge}

-- ---- a source of numbers

pub drawn_begins : (start : Held) → Drawn start start [] [] []
drawn_begins start = record { pairs = []; drawn = refl; numbers = refl; tickets = λ p k. absurd k; unknown = λ k. absurd k; spent = λ k. absurd k }

booked_one : (t n : ℕ) (b : Booked) (c : Bool) → (cond c (drawing n b) b).work ≡ b.work
booked_one t n b true = refl
booked_one t n b false = refl

booked_ticket : (t n u : ℕ) (live : List Booked) → HasTicket (booked t n live) u → HasTicket live u
booked_ticket t n u [] (b, h, e) = absurd h
booked_ticket t n u (c ∷ live) (b, inl q, e) = (c, inl refl, sym (ap (λ w. w.ticket) (booked_one t n c (c.work.ticket == t))) ∙ (ap (λ (x : Booked). x.work.ticket) q ∙ e))
booked_ticket t n u (c ∷ live) (b, inr h, e) = (let r = booked_ticket t n u live (b, h, e) in (r.0, inr r.1, r.2))

-- a refusal of this number
refuses : (start x y : Held) (t n : ℕ) (drew refused asked : List ℕ) → Drawn start x drew refused asked → y ≡ x → (45 ≡ n → HasTicket x.live t → ⊥) → (46 ≡ n → x.next ≡ 2 ^ 64 - 1) → Drawn start y drew (n ∷ refused) (t ∷ asked)
refuses start x y t n drew refused asked d e unknown spent = subst (λ (h : Held). Drawn start h drew (n ∷ refused) (t ∷ asked)) (sym e) record {
  pairs = d.pairs;
  drawn = d.drawn;
  numbers = d.numbers;
  tickets = λ p k. inr (d.tickets p k);
  unknown = λ k. elim k [ inl q ↦ (t, inl refl, unknown (sym q)) | inr h ↦ (let r = d.unknown h in (r.0, inr r.1, r.2)) ];
  spent = λ k. elim k [ inl q ↦ spent (sym q) | inr h ↦ d.spent h ];
}

-- each answer of a state keeps it
pub drawn_keeps : (start : Held) → Keeps GivesNumber (Drawn start)
drawn_keeps start x y t (Ok n) drew refused asked lt d g = record {
  pairs = (t, n) ∷ d.pairs;
  drawn = (x, d.drawn, g);
  numbers = ap (λ ns. n ∷ ns) d.numbers;
  tickets = λ p k. elim k [ inl e ↦ inl (ap (λ (q : ℕ × ℕ). q.0) e) | inr h ↦ inr (d.tickets p h) ];
  unknown = λ k. (let r = d.unknown k in (r.0, inr r.1, λ h. r.2 (booked_ticket t n r.0 x.live (subst (λ (z : Held). HasTicket z.live r.0) g.is h))));
  spent = λ k. absurd (g.unspent (g.next ∙ d.spent k));
}
drawn_keeps start x y t (Err (numbers.UnknownTicket u)) drew refused asked lt d g = (refuses start x y t 45 drew refused asked d g.0 (λ q. g.1.1) (λ q. absurd (omega arith)), g.1.0)
drawn_keeps start x y t (Err numbers.NumbersSpent) drew refused asked lt d g = (refuses start x y t 46 drew refused asked d g.0 (λ q. absurd (omega arith)) (λ q. g.1), tt)
drawn_keeps start x y t (Err numbers.OutOfMemory) drew refused asked lt d g = (refuses start x y t 1 drew refused asked d g.0 (λ q. absurd (omega arith)) (λ q. absurd (omega arith)), tt)

-- ---- what a merge drew

asks_all : (t : ℕ) (asked : List ℕ) → AsksFor t [] asked → (u : ℕ) → Has asked u → u ≡ t
asks_all t asked a u h = elim (has_cases a.more [] u (subst (λ ts. Has ts u) a.grown h)) [ inl k ↦ a.each u k | inr k ↦ absurd k ]

pairs_under : (t : ℕ) (ps : List (ℕ × ℕ)) (old new : Held) → ArePairsDrawn ps old new → ((p : ℕ × ℕ) → Has ps p → p.0 ≡ t) → AreDrawn t (map (λ p. p.1) ps) old new
pairs_under t [] old new d all = d
pairs_under t (p ∷ ps) old new d all = (d.0, pairs_under t ps old d.0 d.1 (λ q h. all q (inr h)), subst (λ (u : ℕ). DrawsOne u p.1 d.0 new) (all p (inl refl)) d.2)

drawn_under : (t : ℕ) (start : Held) (s : Source Held) → HasDrawn start s → AsksFor t [] s.asked → AreDrawn t s.drew start s.state
drawn_under t start s d a = subst (λ (l : List ℕ). AreDrawn t l start s.state) d.numbers (pairs_under t d.pairs start s.state d.drawn (λ p h. asks_all t s.asked a p.0 (d.tickets p h)))

number_cause : (t : ℕ) (start : Held) (s : Source Held) (e : MergeFault) → HasDrawn start s → AsksFor t [] s.asked → AnswersOf e [] s.refused → NamesTicket e t → IsNumberCause t s.state e
number_cause t start s OutOfMemory d a w n = tt
number_cause t start s (ReadFailed number f) d a w n = tt
number_cause t start s (PutFailed number f) d a w n = tt
number_cause t start s (UnknownTicket u) d a w n = (n, let r = d.unknown (subst (λ ns. Has ns 45) (sym w) (inl refl)) in subst (λ (v : ℕ). HasTicket s.state.live v → ⊥) (asks_all t s.asked a r.0 r.1) r.2)
number_cause t start s NumbersSpent d a w n = d.spent (subst (λ ns. Has ns 46) (sym w) (inl refl))

pub merged_from : (H : Type 0) (start new : Held) (w : Work) (done : Done) (was is : Told) → IsMergedBy H (Drawn start) w done new was is → IsMerged H w done start new was is
merged_from H start new w done was is m = record { its = m.its; finished = m.finished; drawn = drawn_under w.ticket start _ m.fact m.asks; told = m.told }

pub refused_from : (H : Type 0) (start new : Held) (w : Work) (e : MergeFault) (was is : Told) → IsRefusedBy H (Drawn start) w e new was is → IsRefusedMerge H w e start new was is
refused_from H start new w e was is m = record {
  put = m.put;
  drew = m.drew;
  leaves = m.leaves;
  drawn = drawn_under w.ticket start _ m.fact m.asks;
  told = m.told;
  cause = m.cause;
  number = number_cause w.ticket start _ e m.fact m.asks m.why m.ticket;
  sound = m.sound;
}

-- the same, of what a merge answers

pub all_merged : (H : Type 0) (start new : Held) (w : Work) (r : Result Done MergeFault) (was is : Told) → IfOk r (λ d. IsMergedBy H (Drawn start) w d new was is) → IfOk r (λ d. IsMerged H w d start new was is)
all_merged H start new w (Ok d) was is m = merged_from H start new w d was is m
all_merged H start new w (Err e) was is m = tt

pub all_refused : (H : Type 0) (start new : Held) (w : Work) (r : Result Done MergeFault) (was is : Told) → IfErr r (λ e. IsRefusedBy H (Drawn start) w e new was is) → IfErr r (λ e. IsRefusedMerge H w e start new was is)
all_refused H start new w (Ok d) was is m = tt
all_refused H start new w (Err e) was is m = refused_from H start new w e was is m
