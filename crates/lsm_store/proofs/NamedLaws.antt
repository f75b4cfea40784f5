-- Numbers of the plain machine: those of its files, and those that its live jobs drew.
use Rattle.std.proofs.Common.{◌≡◌, ℕ, suc, ◌+◌, ◌<◌, ◌≤◌, Bool, true, false, ◌==◌, cond, List, [], ◌∷◌, ◌++◌, map, refl, sym, ◌∙◌, ap, subst, inl, inr, arith, ◌⊎◌}
use Rattle.lsm_codec.specs.Lists.{Has}
use Rattle.lsm_codec.specs.Entries.{Entry}
use Rattle.lsm_codec.proofs.CallerLemmas.{filter_has, has_cases}
use Rattle.lsm_model.specs.Files.{File}
use Rattle.lsm_model.specs.Jobs.{Job, IsMove, at_level}
use Rattle.lsm_model.specs.Plans.{Plan}
use Rattle.lsm_model.specs.Plain.{Plain, Live, Gathers, Ingests, Installs, Reserves, Draws, IsBooked, booking, drawing, without_job}
use Rattle.lsm_model.specs.Law.{Books, Law}
use Rattle.lsm_model.specs.Runs.{Event, Ingest, Snapshot, Release, Reserve, Cancel, Draw, Install, Gather, Spend, Nothing, Run, Step}
use Rattle.lsm_model.proofs.CallerLemmas.{step_law}

-- a file of the version has the number, or a live job drew it
abbrev pub IsNamed : Plain → ℕ → Type 0
IsNamed s n = ((F : File) × Has s.files F × (F.number ≡ n)) ⊎ ((a : Live) × Has s.live a × Has a.drawn n)

-- the next number does not fall, and of the numbers below it none is named that was not
pub record NamesNoMore (s t : Plain) : Type 0 where
  pub next : s.next ≤ t.next
  pub named : (n : ℕ) → n < s.next → IsNamed t n → IsNamed s n

same : (s t : Plain) → t.next ≡ s.next → ((n : ℕ) → IsNamed t n → IsNamed s n) → NamesNoMore s t
same s t e f = record { next = omega (arith, e); named = λ n lt k. f n k }

named_none : (s : Plain) → NamesNoMore s s
named_none s = same s s refl (λ n k. k)

named_ingest : (s : Plain) (es : List Entry) (t : Plain) → Ingests s es t → NamesNoMore s t
named_ingest s es t i = subst (NamesNoMore s) (sym i.is) record {
  next = (let a = i.drawn in let b = i.passed in omega arith);
  named = λ n lt k. elim k [
    | inl f ↦ elim (i.from f.0 f.1) [
      | inl e ↦ (let number : i.file.number ≡ f.0.number = ap (λ (F : File). F.number) e in let is : f.0.number ≡ n = f.2 in let a = i.drawn in absurd (omega (arith, number, is, a, lt)))
      | inr old ↦ inl (f.0, old, f.2)
    ]
    | inr a ↦ inr a
  ];
}

named_reserve : (H : Type 0) (s : Plain) (plan : Plan) (job : Job) (t : Plain) → Reserves H s plan job t → NamesNoMore s t
named_reserve H s plan job t r = subst (NamesNoMore s) (sym r.is) (same s _ refl (λ n k. elim k [
  | inl f ↦ inl f
  | inr a ↦ elim (has_cases s.live (record { job = job; drawn = [] } ∷ []) a.0 a.1) [
    | inl old ↦ inr (a.0, old, a.2)
    | inr new ↦ elim new [ inl e ↦ absurd (subst (λ (x : Live). Has x.drawn n) (sym e) a.2) | inr none ↦ absurd none ]
  ]
]))

named_less : (s : Plain) (ticket n : ℕ) (a : Live) → Has (without_job ticket s.live) a → Has s.live a
named_less s ticket n a h = (filter_has _ s.live a h).0

named_cancel : (s : Plain) (ticket : ℕ) (t : Plain) → t ≡ record s { live = without_job ticket s.live } → NamesNoMore s t
named_cancel s ticket t e = subst (NamesNoMore s) (sym e) (same s _ refl (λ n k. elim k [
  | inl f ↦ inl f
  | inr a ↦ inr (a.0, named_less s ticket n a.0 a.1, a.2)
]))

drew : (number n : ℕ) (b : Live) (c : Bool) → n < number → Has (cond c (drawing number b) b).drawn n → Has b.drawn n
drew number n b false lt h = h
drew number n b true lt h = elim (has_cases b.drawn (number ∷ []) n h) [
  | inl old ↦ old
  | inr new ↦ elim new [ inl e ↦ absurd (omega (arith, e, lt)) | inr none ↦ absurd none ]
]

booked_from : (ticket number n : ℕ) (live : List Live) (a : Live) → n < number → Has (booking ticket number live) a → Has a.drawn n → (b : Live) × Has live b × Has b.drawn n
booked_from ticket number n [] a lt h k = absurd h
booked_from ticket number n (b ∷ live) a lt (inl e) k = (b, inl refl, drew number n b (b.job.ticket == ticket) lt (subst (λ (x : Live). Has x.drawn n) (sym e) k))
booked_from ticket number n (b ∷ live) a lt (inr h) k = (let r = booked_from ticket number n live a lt h k in (r.0, inr r.1, r.2))

named_draw : (s : Plain) (ticket : ℕ) (t : Plain) → Draws s ticket t → NamesNoMore s t
named_draw s ticket t e = subst (NamesNoMore s) (sym e) record {
  next = omega arith;
  named = λ n lt k. elim k [
    | inl f ↦ inl f
    | inr a ↦ inr (booked_from ticket s.next n s.live a.0 lt a.1 a.2)
  ];
}

outputs_named : (s : Plain) (one : Live) (outs : List File) (F : File) (n : ℕ) → Books s → Has s.live one → IsBooked one outs → Has outs F → F.number ≡ n → IsNamed s n
outputs_named s one outs F n books live (inl put) h e = inr (one, live, subst (λ m. Has one.drawn m) e (put.1 F h))
outputs_named s one outs F n books live (inr m) h e = elim (subst (λ (l : List File). Has l F) m.2 h) [
  | inl is ↦ inl (m.0, books.inputs one m.0 live (subst (λ (l : List File). Has l m.0) (sym m.1) (inl refl)), ap (λ (G : File). G.number) is ∙ e)
  | inr none ↦ absurd none
]

named_install : (H : Type 0) (s : Plain) (ticket : ℕ) (t : Plain) → Books s → Installs H s ticket t → NamesNoMore s t
named_install H s ticket t books i = subst (NamesNoMore s) (sym i.is) (same s _ refl (λ n k. elim k [
  | inl f ↦ elim (i.changed.from f.0 f.1) [
    | inl out ↦ outputs_named s i.one i.outs f.0 n books i.was_live i.booked out f.2
    | inr old ↦ inl (f.0, old.0, f.2)
  ]
  | inr a ↦ inr (a.0, named_less s ticket n a.0 a.1, a.2)
]))

-- the gathered file has a number that was not drawn before
named_gather : (H : Type 0) (s t : Plain) → Gathers H s t → NamesNoMore s t
named_gather H s t g = subst (NamesNoMore s) (sym g.is) record {
  next = (let a = g.drawn in let b = g.passed in omega arith);
  named = λ n lt k. elim k [
    | inl f ↦ elim (g.from f.0 f.1) [
      | inl e ↦ (let number : g.file.number ≡ f.0.number = ap (λ (F : File). F.number) e in let is : f.0.number ≡ n = f.2 in let a = g.drawn in absurd (omega (arith, number, is, a, lt)))
      | inr old ↦ inl (f.0, old.0, f.2)
    ]
    | inr a ↦ inr a
  ];
}

named_step : (H : Type 0) (s : Plain) (e : Event) (t : Plain) → Law H s → Step H s e t → NamesNoMore s t
named_step H s (Ingest es) t l h = named_ingest s es t h
named_step H s Snapshot t l h = subst (NamesNoMore s) (sym h) (same s _ refl (λ n k. k))
named_step H s (Release id) t l h = subst (NamesNoMore s) (sym h) (same s _ refl (λ n k. k))
named_step H s (Reserve plan job) t l h = named_reserve H s plan job t h
named_step H s (Cancel ticket) t l h = named_cancel s ticket t h
named_step H s (Draw ticket) t l h = named_draw s ticket t h
named_step H s (Install ticket) t l h = named_install H s ticket t l.books h
named_step H s Gather t l h = named_gather H s t h
named_step H s Spend t l h = subst (NamesNoMore s) (sym h.2) record { next = h.1; named = λ n lt k. k }
named_step H s Nothing t l h = subst (NamesNoMore s) (sym h) (named_none s)

named_then : (s t u : Plain) → NamesNoMore s t → NamesNoMore t u → NamesNoMore s u
named_then s t u a b = record {
  next = (let x = a.next in let y = b.next in omega arith);
  named = λ n lt k. a.named n lt (b.named n (let x = a.next in omega (arith, lt, x)) k);
}

-- over every run of the machine
pub named_run : (H : Type 0) (s : Plain) (es : List Event) (t : Plain) → Law H s → Run H s es t → NamesNoMore s t
named_run H s [] t l h = subst (NamesNoMore s) (sym h) (named_none s)
named_run H s (e ∷ es) t l h = named_then s h.0 t (named_step H s e h.0 l h.1) (named_run H h.0 es t (step_law H s e h.0 l h.1) h.2)
