-- Lines that come in, batch by batch.
use Rattle.std.proofs.Common.{◌≡◌, ℕ, suc, ◌+◌, ◌*◌, ◌<◌, ◌≤◌, List, [], ◌∷◌, ◌++◌, length, Option, Some, None, refl, sym, ap, ◌∙◌, subst, append_assoc, append-nil, length-append, inl, inr, arith}
use Rattle.std.specs.Prelude.{◌⊎◌, ◌^◌, Bool, IsFalse}
use Rattle.lsm_codec.specs.Entries.{Entry}
use Rattle.lsm_text.specs.EntryList.{lines_of}
use Rattle.lsm_batch.specs.Batches.{entries_from}
use Rattle.lsm_batch.specs.declared.write.Write.{Write}
use Rattle.lsm_lines.specs.Gathering.{Gathers, IsGathered, Pending, Reads, Stops, TakesLines}
use Rattle.lsm_lines.specs.Lines.{SpellWrites}
use Rattle.lsm_lines.specs.Reading.{IsWhole, TakesWhole}
use Rattle.lsm_lines.specs.declared.line_form.LineForm.{LineForm}
use Rattle.lsm_lines.specs.declared.gathered.Gathered.{Gathered}
use Rattle.lsm_lines.specs.declared.gathered.BatchEnd.{BatchEnd}
use Rattle.lsm_lines.specs.declared.gathered.BatchEnd.TheVariants.{Full, End, Stopped}
use Rattle.lsm_lines.specs.declared.write_line_fault.WriteLineFault.{WriteLineFault}
use Rattle.lsm_lines.specs.declared.write_line_fault.WriteLineFault.TheVariants as lines
use Rattle.lsm_lines.proofs.CallerLemmas.{cut_more, cut_none}
use Rattle.lsm_shelf.specs.Asked.{Asked}
use Rattle.lsm_shelf.specs.declared.shelf_fault.ShelfFault.{ShelfFault}
use Rattle.lsm_bulk_load.specs.Coming.{CameIn, ComesNext, all_after, last_after}
use Rattle.lsm_bulk_load.specs.Loading.{BatchCame, IsLoaded, IsNotTaken, IsStopped, KeepsNextOut, Loads, NoneCame, StaysOut, StopsBehind, TakesBatch}
use Rattle.lsm_state.specs.Held.{Held}
use Rattle.lsm_state.specs.declared.state_fault.StateFault.{StateFault}
use Rattle.lsm_bulk_load.specs.Marks.{Marked}
use Rattle.lsm_bulk_load.specs.declared.load_fault.LoadFault.{LoadFault}
use Rattle.lsm_bulk_load.specs.declared.load_fault.LoadFault.TheVariants.{OutOfMemory, Shelf, Line, Ingest, Other, Worker, Due}
use Rattle.lsm_bulk_load.specs.declared.progress.Progress.{Progress}

-- ---- lines, one after another

takes_none : (old : Option (List ℕ)) → TakesLines [] old old
takes_none None = tt
takes_none (Some xs) = refl

takes_then : (a b : List (List ℕ)) (old mid new : Option (List ℕ)) → TakesLines a old mid → TakesLines b mid new → TakesLines (a ++ b) old new
takes_then a b None mid new t u = tt
takes_then a b (Some xs) None new t u = absurd t
takes_then a b (Some xs) (Some ys) None t u = absurd u
takes_then a b (Some xs) (Some ys) (Some zs) t u = t ∙ ap (λ (ls : List (List ℕ)). a ++ ls) u ∙ sym (append_assoc a b (lines_of zs))

spelled_then : (form : LineForm) (ls ms : List (List ℕ)) (ws vs : List Write)
    → SpellWrites form ls ws → SpellWrites form ms vs → SpellWrites form (ls ++ ms) (ws ++ vs)
spelled_then form [] ms [] vs h k = k
spelled_then form [] ms (w ∷ ws) vs h k = absurd h
spelled_then form (l ∷ ls) ms [] vs h k = absurd h
spelled_then form (l ∷ ls) ms (w ∷ ws) vs h k = (h.0, spelled_then form ls ms ws vs h.1 k)

reads_then : (form : LineForm) (old mid new : Option (List ℕ)) (ws vs : List Write)
    → Reads form old mid ws → Reads form mid new vs → Reads form old new (ws ++ vs)
reads_then form old mid new ws vs r s = record {
  lines = r.lines ++ s.lines;
  taken = takes_then r.lines s.lines old mid new r.taken s.taken;
  spelled = spelled_then form r.lines s.lines ws vs r.spelled s.spelled;
}

-- the same form, and the last line may lack its newline in both or in neither
abbrev pub SameForm : Pending → Pending → Type 0
SameForm new old = (new.form ≡ old.form) × (new.last ≡ old.last)

whole_then : (a b : List ℕ) → IsWhole a → IsWhole b → IsWhole (a ++ b)
whole_then a b x (inl none) = subst IsWhole (sym (ap (λ (l : List ℕ). a ++ l) none ∙ append-nil a)) x
whole_then a b x (inr y) = inr (a ++ y.0, ap (λ (l : List ℕ). a ++ l) y.1 ∙ sym (append_assoc a y.0 (10 ∷ [])))

takes_whole_none : (old : Option (List ℕ)) → TakesWhole old old
takes_whole_none None = tt
takes_whole_none (Some xs) = ([], refl, inl refl)

takes_whole_then : (old mid new : Option (List ℕ)) → TakesWhole old mid → TakesWhole mid new → TakesWhole old new
takes_whole_then None mid new t u = tt
takes_whole_then (Some xs) None new t u = absurd t
takes_whole_then (Some xs) (Some ys) None t u = absurd u
takes_whole_then (Some xs) (Some ys) (Some zs) t u =
    (t.0 ++ u.0, t.1 ∙ ap (λ (l : List ℕ). t.0 ++ l) u.1 ∙ sym (append_assoc t.0 u.0 zs), whole_then t.0 u.0 t.2 u.2)

-- what was held back stands in front of what is gathered next
pub gathers_then : (old mid : Pending) (left : Option (List ℕ)) (held ws vs : List Write) → SameForm mid old → Gathers old mid.left mid.held ws → Gathers mid left held vs
    → Gathers old left held (ws ++ vs)
gathers_then old mid left held ws vs form g h = (
  g.0 ++ h.0,
  reads_then old.form old.left mid.left left g.0 h.0 g.1
      (subst (λ (f : LineForm). Reads f mid.left left h.0) form.0 h.1),
  sym (append_assoc old.held g.0 h.0) ∙ ap (λ (l : List Write). l ++ h.0) g.2 ∙ append_assoc ws mid.held h.0
      ∙ ap (λ (l : List Write). ws ++ l) h.2 ∙ sym (append_assoc ws vs held),
  λ whole. takes_whole_then old.left mid.left left (g.3 whole) (h.3 (subst IsFalse (sym form.1) whole)),
)

-- ---- batches, one after another

last_more : (last : ℕ) (bs : List (List Write)) (b : List Write) → last_after last (bs ++ b ∷ []) ≡ last_after last bs + length b
last_more last [] b = refl
last_more last (x ∷ bs) b = last_more (last + length x) bs b

all_more : (last : ℕ) (bs : List (List Write)) (b : List Write) (history : List Entry) → all_after last (bs ++ b ∷ []) history ≡ entries_from (suc (last_after last bs)) b ++ all_after last bs history
all_more last [] b history = refl
all_more last (x ∷ bs) b history = all_more (last + length x) bs b (entries_from (suc last) x ++ history)

pub came_none : (found : Marked) → CameIn found found []
came_none found = record { history = refl; last = refl }

pub came_more : (found was now : Marked) (bs : List (List Write)) (b : List Write) → CameIn found was bs → ComesNext b was now → CameIn found now (bs ++ b ∷ [])
came_more found was now bs b c n = record {
  history = n.history ∙ ap (λ m. entries_from (suc m) b ++ was.history) c.last ∙ ap (λ (es : List Entry). entries_from (suc (last_after found.last bs)) b ++ es) c.history
      ∙ sym (all_more found.last bs b found.history);
  last = n.last ∙ ap (λ m. m + length b) c.last ∙ sym (last_more found.last bs b);
}

-- ---- what is loaded

pub loads_none : (old : Pending) (found : Marked) (p : Progress) → old.held ≡ [] → p.lines ≡ 0 → p.batches ≡ 0 → Loads old old.left old.held found found p
loads_none old found p none lines count = record {
  ws = [];
  batches = [];
  cut = cut_none;
  came = came_none found;
  gathers = ([], record { lines = []; taken = takes_none old.left; spelled = tt }, append-nil old.held, λ whole. takes_whole_none old.left);
  lines = lines;
  count = count;
}

length_more : {X : Type 0} (xs : List X) (x : X) → length (xs ++ x ∷ []) ≡ length xs + 1
length_more xs x = length-append xs (x ∷ [])

pub loads_more : (old mid : Pending) (left : Option (List ℕ)) (held ws : List Write) (found was now : Marked) (p q : Progress) → SameForm mid old
    → Loads old mid.left mid.held found was p → Gathers mid left held ws → NoneCame ws was now p q ⊎ BatchCame ws was now p q → Loads old left held found now q
loads_more old mid left held [] found was now p q form l g (inl none) =
    let whole : l.ws ++ [] ≡ l.ws = append-nil l.ws in
    let same : Loads old left held found was p = record {
      ws = l.ws;
      batches = l.batches;
      cut = l.cut;
      came = l.came;
      gathers = subst (λ (vs : List Write). Gathers old left held vs) whole (gathers_then old mid left held l.ws [] form l.gathers g);
      lines = l.lines;
      count = l.count;
    } in
    subst (λ (r : Progress). Loads old left held found now r) (sym none.2) (subst (λ (h : Marked). Loads old left held found h p) (sym none.1) same)
loads_more old mid left held (w ∷ ws) found was now p q form l g (inl none) = absurd (omega (arith, none.0))
loads_more old mid left held ws found was now p q form l g (inr c) = record {
  ws = l.ws ++ ws;
  batches = l.batches ++ c.batch ∷ [];
  cut = cut_more l.ws l.batches ws c.batch l.cut c.last;
  came = came_more found was now l.batches c.batch l.came c.comes;
  gathers = gathers_then old mid left held l.ws ws form l.gathers g;
  lines = c.lines ∙ ap (λ n. n + length ws) l.lines ∙ sym (length-append l.ws ws);
  count = c.count ∙ ap (λ n. n + 1) l.count ∙ sym (length_more l.batches c.batch);
}

-- ---- the next lines

pub taken_none : (old new : Pending) (r : Gathered) (was : Marked) (p : Progress) → IsGathered old new r → r.lines ≡ 0 → TakesBatch old new was was p p r.end
taken_none old new r was p g none = record {
  ws = g.ws;
  form = g.form;
  last_line = g.last_line;
  few = omega (arith, g.count, none);
  ends = g.ends;
  came = inl (sym g.count ∙ none, refl, refl);
}

pub taken_some : (old new : Pending) (r : Gathered) (was now : Marked) (p q : Progress) → IsGathered old new r → r.lines < 2 ^ 64 → ComesNext r.batch was now
    → q ≡ record { lines = p.lines + r.lines; batches = p.batches + 1 } → TakesBatch old new was now p q r.end
taken_some old new r was now p q g few comes is = record {
  ws = g.ws;
  form = g.form;
  last_line = g.last_line;
  few = omega (arith, g.count, few);
  ends = g.ends;
  came = inr (record {
    batch = r.batch;
    last = g.last;
    comes = comes;
    lines = ap (λ (s : Progress). s.lines) is ∙ ap (λ n. p.lines + n) g.count;
    count = ap (λ (s : Progress). s.batches) is;
  });
}

pub not_taken : (Refused : Asked → ShelfFault → Type 0) (keeps : Held → Type 0) (old new : Pending) (r : Gathered) (was now : Marked) (e : LoadFault) → IsGathered old new r
    → StaysOut Refused keeps r.batch was now e → IsNotTaken Refused keeps old was now e
not_taken Refused keeps old new r was now OutOfMemory g k = absurd k
not_taken Refused keeps old new r was now (Line fault) g k = absurd k
not_taken Refused keeps old new r was now (Ingest fault) g k = (new, r, g, k)
not_taken Refused keeps old new r was now Other g k = (new, r, g, k)
not_taken Refused keeps old new r was now (Shelf fault) g k = absurd k
not_taken Refused keeps old new r was now (Worker fault) g k = absurd k
not_taken Refused keeps old new r was now Due g k = absurd k

-- ---- the end of a load

-- the same lines that were to come, as their parts
same_pending : (old mid : Pending) → SameForm mid old → mid ≡ record { form = old.form; last = old.last; held = mid.held; left = mid.left }
same_pending old mid form =
    ap (λ (f : LineForm). record { form = f; last = mid.last; held = mid.held; left = mid.left })
    form.0
    ∙ ap (λ (b : Bool). record { form = old.form; last = b; held = mid.held; left = mid.left })
    form.1

kept_next_out : (Refused : Asked → ShelfFault → Type 0) (keeps : Held → Type 0) (old mid : Pending) (found was now : Marked) (p : Progress) (fault : StateFault) → SameForm mid old
    → Loads old mid.left mid.held found was p → IsNotTaken Refused keeps mid was now (Ingest fault) → KeepsNextOut Refused keeps old found now p fault
kept_next_out Refused keeps old mid found was now p fault form l k =
    let same : now ≡ was = k.3.0 in
    let here : IsNotTaken Refused keeps mid now now (Ingest fault) = (k.0, k.1, k.2, (refl, k.3.1)) in (
      mid.left,
      mid.held,
      subst (λ (m : Marked). Loads old mid.left mid.held found m p) (sym same) l,
      subst (λ (q : Pending). IsNotTaken Refused keeps q now now (Ingest fault)) (same_pending old mid form) here,
    )

pub stopped_short : (Refused : Asked → ShelfFault → Type 0) (keeps : Held → Type 0) (old mid : Pending) (found was now : Marked) (p : Progress) (e : LoadFault) → SameForm mid old
    → Loads old mid.left mid.held found was p → IsNotTaken Refused keeps mid was now e → IsStopped Refused keeps old found now p e
stopped_short Refused keeps old mid found was now p OutOfMemory form l k =
    (mid.left, mid.held, subst (λ (m : Marked). Loads old mid.left mid.held found m p) (sym k) l)
stopped_short Refused keeps old mid found was now p (Line fault) form l k = absurd k.3
stopped_short Refused keeps old mid found was now p (Ingest fault) form l k = kept_next_out Refused keeps old mid found was now p fault form l k
stopped_short Refused keeps old mid found was now p Other form l k = (was, (mid.left, mid.held, l), k.3)
stopped_short Refused keeps old mid found was now p (Shelf fault) form l k = absurd k.3
stopped_short Refused keeps old mid found was now p (Worker fault) form l k = absurd k.3
stopped_short Refused keeps old mid found was now p Due form l k = absurd k.3

-- one batch more, up to here
pub on : (old mid new : Pending) (left : Option (List ℕ)) (held : List Write) (found was now : Marked) (p q : Progress) (end : BatchEnd) → SameForm mid old
    → Loads old mid.left mid.held found was p → (t : TakesBatch mid new was now p q end) → Gathers mid left held t.ws → Loads old left held found now q
on old mid new left held found was now p q end form l t g = loads_more old mid left held t.ws found was now p q form l g t.came

-- all lines are in
pub ended : (old mid new : Pending) (found was now : Marked) (p q : Progress) → SameForm mid old → Loads old mid.left mid.held found was p → TakesBatch mid new was now p q End
    → IsLoaded old found now q
ended old mid new found was now p q form l t = (t.ends.0, on old mid new t.ends.0 [] found was now p q End form l t t.ends.1, t.ends.2)

-- the next line is no write of a batch
stops_behind : (old mid new : Pending) (found was now : Marked) (p q : Progress) (fault : WriteLineFault) → SameForm mid old → Loads old mid.left mid.held found was p
    → (t : TakesBatch mid new was now p q (Stopped fault)) → (left : Option (List ℕ)) → Gathers mid left [] t.ws → Stops mid.form mid.last left fault
    → (left : Option (List ℕ)) × Loads old left [] found now q × Stops old.form old.last left fault
stops_behind old mid new found was now p q fault form l t left g s = (
  left,
  on old mid new left [] found was now p q (Stopped fault) form l t g,
  subst (λ (b : Bool). Stops old.form b left fault) form.1
      (subst (λ (f : LineForm). Stops f mid.last left fault) form.0 s),
)

pub stopped_behind : (old mid new : Pending) (found was now : Marked) (p q : Progress) (fault : WriteLineFault) → SameForm mid old → Loads old mid.left mid.held found was p
    → TakesBatch mid new was now p q (Stopped fault) → StopsBehind old found now q fault
stopped_behind old mid new found was now p q (lines.BadLine place) form l t = stops_behind old mid new found was now p q (lines.BadLine place) form l t t.ends.0 t.ends.1 t.ends.2
stopped_behind old mid new found was now p q lines.LongLine form l t = stops_behind old mid new found was now p q lines.LongLine form l t t.ends.0 t.ends.1 t.ends.2
stopped_behind old mid new found was now p q lines.LargeWrite form l t = stops_behind old mid new found was now p q lines.LargeWrite form l t t.ends.0 t.ends.1 t.ends.2
stopped_behind old mid new found was now p q lines.NoNewline form l t = stops_behind old mid new found was now p q lines.NoNewline form l t t.ends.0 t.ends.1 t.ends.2
stopped_behind old mid new found was now p q lines.Read form l t = stops_behind old mid new found was now p q lines.Read form l t t.ends.0 t.ends.1 t.ends.2
stopped_behind old mid new found was now p q lines.OutOfMemory form l t =
    (t.ends.0, t.ends.1, on old mid new t.ends.0 t.ends.1 found was now p q (Stopped lines.OutOfMemory) form l t t.ends.2)

-- ---- how much one batch adds

pub counted : (mid new : Pending) (was now : Marked) (p q : Progress) (end : BatchEnd) → TakesBatch mid new was now p q end
    → (q.lines ≤ p.lines + 18446744073709551616) × (q.batches ≤ p.batches + 1)
counted mid new was now p q end t = at t.came
  where
    at : NoneCame t.ws was now p q ⊎ BatchCame t.ws was now p q → (q.lines ≤ p.lines + 18446744073709551616) × (q.batches ≤ p.batches + 1)
    at (inl n) = (omega (arith, ap (λ (s : Progress). s.lines) n.2), omega (arith, ap (λ (s : Progress). s.batches) n.2))
    at (inr c) = (omega (arith, c.lines, t.few), omega (arith, c.count))

-- after one turn more
pub few_lines : (turn p q : ℕ) → p ≤ turn * 18446744073709551616 → q ≤ p + 18446744073709551616 → q ≤ (turn + 1) * 18446744073709551616
few_lines turn p q h k = omega (arith, h, k)

-- there is room for the lines of one turn more
pub room : (turn p : ℕ) → p ≤ turn * 18446744073709551616 → turn < 18446744073709551615 → p + 18446744073709551616 ≤ 340282366920938463463374607431768211456
room turn p h k = omega (arith, h, k)

pub room_of_batches : (turn p : ℕ) → p ≤ turn → turn < 18446744073709551615 → p + 18446744073709551616 ≤ 340282366920938463463374607431768211456
room_of_batches turn p h k = omega (arith, h, k)

-- ---- one turn, by what ended its batch

pub full_on : (old mid new : Pending) (found was now : Marked) (p q : Progress) (end : BatchEnd) → end ≡ Full → SameForm mid old → Loads old mid.left mid.held found was p
    → TakesBatch mid new was now p q end → Loads old new.left new.held found now q × SameForm new old
full_on old mid new found was now p q end is form l t =
    let u = subst (λ (e : BatchEnd). TakesBatch mid new was now p q e) is t in
    (on old mid new new.left new.held found was now p q Full form l u u.ends.0, (u.form ∙ form.0, u.last_line ∙ form.1))

pub end_on : (old mid new : Pending) (found was now : Marked) (p q : Progress) (end : BatchEnd) → end ≡ End → SameForm mid old → Loads old mid.left mid.held found was p
    → TakesBatch mid new was now p q end → IsLoaded old found now q
end_on old mid new found was now p q end is form l t = ended old mid new found was now p q form l (subst (λ (e : BatchEnd). TakesBatch mid new was now p q e) is t)

pub stopped_on : (old mid new : Pending) (found was now : Marked) (p q : Progress) (end : BatchEnd) (fault : WriteLineFault) → end ≡ Stopped fault → SameForm mid old
    → Loads old mid.left mid.held found was p → TakesBatch mid new was now p q end → StopsBehind old found now q fault
stopped_on old mid new found was now p q end fault is form l t =
    stopped_behind old mid new found was now p q fault form l (subst (λ (e : BatchEnd). TakesBatch mid new was now p q e) is t)
