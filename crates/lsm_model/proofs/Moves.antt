-- A move takes its one input to the next level, and changes no answer at all.
use Rattle.std.proofs.Common.{◌≡◌, ℕ, suc, List, [], ◌∷◌, refl, sym, ◌∙◌, ap, subst, inl, inr, arith}
use Rattle.std.proofs.lemmas.Bool.{both_ways, cases_Bool}
use Rattle.lsm_codec.specs.Entries.{Entry, answer}
use Rattle.lsm_codec.specs.Keys.{UserKey}
use Rattle.lsm_codec.specs.Lists.{Has}
use Rattle.lsm_codec.proofs.CallerLemmas.{has_left}
use Rattle.lsm_model.specs.Files.{File, all_entries, Fits, IsLawful}
use Rattle.lsm_model.specs.Jobs.{Job, is_input, IsOpenIn, AreOutputs, Changed, at_level, IsMove}
use Rattle.lsm_model.proofs.Drops.{Drops, drops_answer}
use Rattle.lsm_model.proofs.Installs.{all_has, has_all, input_says, input_from, one_each}

at_level_fits : (n : ℕ) (F : File) → Fits F → Fits (at_level n F)
at_level_fits n F f = record { above = f.above; below = f.below; first = f.first; last = f.last; one_each = f.one_each }

-- the one element of a list of one
one_is : {X : Type 0} (x y : X) → Has (x ∷ []) y → x ≡ y
one_is x y (inl e) = e
one_is x y (inr h) = absurd h

pub move_outputs : (v : List File) (job : Job) (outs : List File) → IsLawful v → IsOpenIn v job → IsMove job outs
    → AreOutputs v job (all_entries job.inputs) outs
move_outputs v job outs l o m = record {
  holds = record {
    levels = λ G h. ap (λ (H : File). H.level) (sym (is_out G h));
    fits = λ G h. subst Fits (is_out G h) (at_level_fits (suc job.level) F (l.fits F (o.inputs F here)));
    from = λ G e h k. has_all job.inputs F e here (subst (λ (H : File). Has H.entries e) (sym (is_out G h)) k);
    to = λ e h. subst (λ fs. Has (all_entries fs) e) (sym m.2) (has_left F.entries [] e (out e (all_has job.inputs e h)));
    apart = λ G H hG hH ne. absurd (ne (ap (λ (D : File). D.number) (sym (is_out G hG) ∙ is_out H hH)));
    numbers = λ G H hG hH e. sym (is_out G hG) ∙ is_out H hH;
  };
  fresh = λ G H hG hH t e. both_ways (is_input job H) t
      (input_from job H (subst (Has job.inputs) (l.numbers F H (o.inputs F here) hH (ap (λ (D : File). D.number) (is_out G hG) ∙ e)) here));
}
  where
    F : File
    F = m.0

    here : Has job.inputs F
    here = subst (λ fs. Has fs F) (sym m.1) (inl refl)

    is_out : (G : File) → Has outs G → at_level (suc job.level) F ≡ G
    is_out G h = one_is (at_level (suc job.level) F) G (subst (λ fs. Has fs G) m.2 h)

    out : (e : Entry) → (G : File) × Has job.inputs G × Has G.entries e → Has F.entries e
    out e r = subst (λ (H : File). Has H.entries e) (sym (one_is F r.0 (subst (λ fs. Has fs r.0) m.1 r.1))) r.2

-- outputs that hold all that the inputs held change no answer
pub move_answers : (v : List File) (job : Job) (outs w : List File) → IsLawful v → IsOpenIn v job
    → AreOutputs v job (all_entries job.inputs) outs → Changed v job outs w → (k : UserKey) (s : ℕ) → answer (all_entries w) k s ≡ answer (all_entries v) k s
move_answers v job outs w l o p c k s = drops_answer (all_entries v) (all_entries w) 0 s k (one_each v l) drops (omega arith)
  where
    within : (e : Entry) → Has (all_entries w) e → Has (all_entries v) e
    within e h = (let r = all_has w e h in elim (c.from r.0 r.1) [
      | inl out ↦ (let q = all_has job.inputs e (p.from r.0 e out r.2) in has_all v q.0 e (o.inputs q.0 q.1) q.2)
      | inr rest ↦ has_all v r.0 e rest.0 r.2
    ])

    left : (e : Entry) → Has (all_entries v) e → Has (all_entries w) e
    left e h = (let r = all_has v e h in elim (cases_Bool (is_input job r.0)) [
      | inl t ↦ (let q = all_has outs e (p.to e (has_all job.inputs r.0 e (input_says v job r.0 l.numbers o.inputs r.1 t) r.2)) in has_all w q.0 e (c.added q.0 q.1) q.2)
      | inr t ↦ has_all w r.0 e (c.stays r.0 r.1 t) r.2
    ])

    drops : Drops (all_entries v) (all_entries w) 0
    drops = record { within = within; lost = λ e h. inl (left e h) }
