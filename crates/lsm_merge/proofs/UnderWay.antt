-- A merge that is under way: what holds before each step.
use Rattle.std.proofs.Common.{◌≡◌, ℕ, true, false, cond, List, [], ◌∷◌, ◌++◌, Option, Some, None, refl, sym, ◌∙◌, ap, subst, inl, inr}
use Rattle.lsm_codec.specs.Lists.{Has}
use Rattle.lsm_codec.specs.Entries.{Entry}
use Rattle.lsm_shelf.specs.Told.{Told}
use Rattle.lsm_model.specs.Files.{all_entries}
use Rattle.lsm_model.specs.Merging.{Placed, entries_of}
use Rattle.lsm_model.specs.Streams.{IsAscending, IsMerge}
use Rattle.lsm_iterators.specs.Heads.{no_more}
use Rattle.lsm_iterators.specs.Runs.{Left, ReadsNoOther}
use Rattle.lsm_merge.specs.declared.merge_fault.InputFault.TheVariants.{Read, OutOfOrder}
use Rattle.lsm_merge.specs.declared.merge_fault.MergeFault.{MergeFault}
use Rattle.lsm_merge.specs.declared.merge_fault.MergeFault.TheVariants.{OutOfMemory, ReadFailed, PutFailed, UnknownTicket, NumbersSpent}
use Rattle.lsm_merge.specs.Causes.{AnswersOf, AsksFor, DrewMore, Leaves}
use Rattle.lsm_merge.specs.Compacting.{AreMergedOf, nothing_of}
use Rattle.lsm_merge.specs.Dropping.{Follows, IsMerged, IsUpTo, Making, closed, is_kept, placed}
use Rattle.lsm_merge.specs.Inputs.{AreInputs, IsOfReading, IsOrderFault, Stepped, input_numbers}
use Rattle.lsm_merge.specs.Outputs.{AreGood, Goes, IsWrittenBy, Made, PutsMore, PutsTables, SameSizes, Unfinished, drawn_for, drawn_of, entries_of_last, making_of, number_of_last}
use Rattle.lsm_merge.specs.Remembered.{bare}
use Rattle.lsm_merge.specs.Work.{Work, finished, job_of}
use Rattle.lsm_merge.proofs.Tickets.{asks_then}
use Rattle.lsm_merge.proofs.Limited.{over_more, with_next_from, output_from}
use Rattle.lsm_merge.specs.Limits.{IsOverLimit}
use Rattle.lsm_merge.proofs.Dropped.{IsOnTheWay, StreamingKeeps, way_done, way_step}
use Rattle.lsm_merge.proofs.PlaceLaws.{puts_then, sizes_then, tables_then, up_to_taken}

-- ---- refusals

drew_more : (put : List ℕ) (last : Option Unfinished) (drew there : List ℕ) → drew ≡ drawn_for put (number_of_last last) there → DrewMore put drew there
drew_more put None drew there e = inl e
drew_more put (Some o) drew there e = inr (o.number, e)

pub leaves_reading : (e : MergeFault) (m : Made) (drew there : List ℕ) → IsOfReading e → drew ≡ drawn_of m there → Leaves e m.put drew there
leaves_reading OutOfMemory m drew there k d = drew_more m.put m.last drew there d
leaves_reading (ReadFailed n (Read f)) m drew there k d = drew_more m.put m.last drew there d
leaves_reading (ReadFailed n OutOfOrder) m drew there k d = absurd k
leaves_reading (PutFailed n f) m drew there k d = absurd k
leaves_reading (UnknownTicket t) m drew there k d = absurd k
leaves_reading NumbersSpent m drew there k d = absurd k

pub why_reading : (e : MergeFault) (old new : List ℕ) → IsOfReading e → new ≡ old → AnswersOf e old new
why_reading OutOfMemory old new k d = inl d
why_reading (ReadFailed n (Read f)) old new k d = d
why_reading (ReadFailed n OutOfOrder) old new k d = absurd k
why_reading (PutFailed n f) old new k d = absurd k
why_reading (UnknownTicket t) old new k d = absurd k
why_reading NumbersSpent old new k d = absurd k

pub order_reading : (e : MergeFault) → IsOfReading e → IsOrderFault e → ⊥
order_reading OutOfMemory k h = h
order_reading (ReadFailed n (Read f)) k h = h
order_reading (ReadFailed n OutOfOrder) k h = k
order_reading (PutFailed n f) k h = h
order_reading (UnknownTicket t) k h = h
order_reading NumbersSpent k h = h

-- ---- steps

pub some_of : (ps : List Placed) → no_more ps ≡ false → (p : Placed) × (rest : List Placed) × (ps ≡ p ∷ rest)
some_of [] h = absurd (cc h)
some_of (p ∷ ps) h = (p, ps, refl)

pub none_of : (ps : List Placed) → no_more ps ≡ true → ps ≡ []
none_of [] h = refl
none_of (p ∷ ps) h = absurd (cc h)

-- what holds of a merge: by what it was told and drew at its start, and by then
pub record IsUnderWay (Honest : Type 0) (w : Work) (whole : List Entry) (was is : Told) (drew0 drew answers0 answers asked0 asked : List ℕ) (m : Made) (before : Option Entry) (left : Left) : Type 0 where
  pub sizes : SameSizes (nothing_of w) m
  pub good : AreGood m
  pub up : IsUpTo (entries_of_last m.last) before
  pub told : PutsMore [] m.put was is
  pub tables : PutsTables [] m.tables was is
  pub drawn : drew ≡ drawn_of m drew0
  pub answered : answers ≡ answers0
  pub files : AreInputs left.files (input_numbers w)
  pub asks : AsksFor w.ticket asked0 asked
  pub way : Honest → IsOnTheWay w.floor w.ranges (finished w.table) w.target_size whole (making_of m) before (entries_of left.placed)

pub under_step : (Honest : Type 0) (w : Work) (whole : List Entry) (was is is' : Told) (drew0 drew drew' answers0 answers answers' asked0 asked asked' : List ℕ) (m m' : Made) (before before' : Option Entry) (left left' : Left)
    → IsUnderWay Honest w whole was is drew0 drew answers0 answers asked0 asked m before left
    → no_more left.placed ≡ false
    → ((p : Placed) (rest : List Placed) → left.placed ≡ p ∷ rest → Stepped Honest w p rest before before' m m' left')
    → ((there : List ℕ) → drew ≡ drawn_of m there → drew' ≡ drawn_of m' there)
    → answers' ≡ answers → ReadsNoOther left left' → PutsMore m.put m'.put is is' → PutsTables m.tables m'.tables is is' → AsksFor m.ticket asked asked'
    → IsUnderWay Honest w whole was is' drew0 drew' answers0 answers' asked0 asked' m' before' left'
under_step Honest w whole was is is' drew0 drew drew' answers0 answers answers' asked0 asked asked' m m' before before' left left' u more ok drawn answered files told tables later =
    let head = some_of left.placed more in
    let s = ok head.0 head.1 head.2 in
    let e : Entry = (head.0).1 in
    record {
      sizes = sizes_then (nothing_of w) m m' u.sizes (s.goes).sizes;
      good = (s.goes).good;
      up = subst (IsUpTo (entries_of_last m'.last)) (sym s.before_is)
          (subst (λ (k : Making). IsUpTo k.output (Some (bare e))) (sym (s.goes).is)
          (up_to_taken (finished m.options) m.target (making_of m) (is_kept w.floor w.ranges before e) before e u.up s.follows));
      told = puts_then [] m.put m'.put was is is' u.told told;
      tables = tables_then [] m.tables m'.tables was is is' u.tables tables;
      drawn = drawn drew0 u.drawn;
      answered = answered ∙ u.answered;
      files = λ f h. u.files f (files f h);
      asks = asks_then w.ticket asked0 asked asked' u.asks (subst (λ (t : ℕ). AsksFor t asked asked') (u.sizes).ticket later);
      way = λ honest.
          subst (λ (es : List Placed). IsOnTheWay w.floor w.ranges (finished w.table) w.target_size whole (making_of m') before' (entries_of es)) (sym (s.left honest))
          (subst (λ (b : Option Entry). IsOnTheWay w.floor w.ranges (finished w.table) w.target_size whole (making_of m') b (entries_of head.1)) (sym s.before_is)
          (subst (λ (k : Making). IsOnTheWay w.floor w.ranges (finished w.table) w.target_size whole k (Some (bare e)) (entries_of head.1)) (sym (made e s.goes))
          (way_step w.floor w.ranges (finished w.table) w.target_size whole (making_of m) before e (entries_of head.1)
          (subst (λ (es : List Placed). IsOnTheWay w.floor w.ranges (finished w.table) w.target_size whole (making_of m) before (entries_of es)) head.2 (u.way honest))
          s.follows)));
    }
  where
    made : (e : Entry) → Goes m m' (cond (is_kept w.floor w.ranges before e) (placed (finished m.options) m.target (making_of m) e) (making_of m))
        → making_of m' ≡ cond (is_kept w.floor w.ranges before e) (placed (finished w.table) w.target_size (making_of m) e) (making_of m)
    made e g =
        g.is ∙ ap (λ (o : Rattle.lsm_table.specs.declared.table_options.TableOptions.TableOptions). cond (is_kept w.floor w.ranges before e) (placed (finished o) m.target (making_of m) e) (making_of m)) (u.sizes).options
        ∙ ap (λ (n : ℕ). cond (is_kept w.floor w.ranges before e) (placed (finished w.table) n (making_of m) e) (making_of m)) (u.sizes).target

-- ---- the end

last_gone : (options : Rattle.lsm_table.specs.declared.table_options.TableOptions.TableOptions) (last : Option Unfinished) → IsWrittenBy options last → entries_of_last last ≡ [] → last ≡ None
last_gone options None h e = refl
last_gone options (Some o) h e = absurd (h.1 e)

pub none_last : (m n : Made) (outputs : List (List Entry)) → Goes m n (record { outputs = outputs; output = [] }) → n.last ≡ None
none_last m n outputs g = last_gone n.options n.last (g.good).written (ap (λ (k : Making). k.output) g.is)

pub under_done : (Honest : Type 0) (w : Work) (whole : List Entry) (was is : Told) (drew0 drew answers0 answers asked0 asked : List ℕ) (m n : Made) (before : Option Entry) (left : Left)
    → IsUnderWay Honest w whole was is drew0 drew answers0 answers asked0 asked m before left → StreamingKeeps → no_more left.placed ≡ true
    → (Honest → IsAscending whole → IsMerge whole (all_entries (job_of w).inputs))
    → Goes m n (record { outputs = closed (making_of m); output = [] }) → Honest → AreMergedOf w n.tables
under_done Honest w whole was is drew0 drew answers0 answers asked0 asked m n before left u keeps none merges g honest =
    let way = subst (λ (es : List Placed). IsOnTheWay w.floor w.ranges (finished w.table) w.target_size whole (making_of m) before (entries_of es)) (none_of left.placed none) (u.way honest) in
    let done = way_done w.floor w.ranges (finished w.table) w.target_size whole (making_of m) before keeps way in
    record {
      merged = whole;
      merges = merges honest done.ascending;
      is = subst (IsMerged w.floor w.ranges (finished w.table) w.target_size whole) (sym (ap (λ (k : Making). k.outputs) g.is)) done;
    }

-- ---- refusals over an honest shelf

-- an entry that does not follow: the whole does not ascend
pub under_order : (Honest : Type 0) (w : Work) (whole : List Entry) (was is : Told) (drew0 drew answers0 answers asked0 asked : List ℕ) (m : Made) (before : Option Entry) (left : Left)
    → IsUnderWay Honest w whole was is drew0 drew answers0 answers asked0 asked m before left → no_more left.placed ≡ false
    → ((p : Placed) (rest : List Placed) → left.placed ≡ p ∷ rest → Follows before p.1 → ⊥) → Honest → IsAscending whole → ⊥
under_order Honest w whole was is drew0 drew answers0 answers asked0 asked m before left u more late honest up =
    let head = some_of left.placed more in
    let way = subst (λ (es : List Placed). IsOnTheWay w.floor w.ranges (finished w.table) w.target_size whole (making_of m) before (entries_of es)) head.2 (u.way honest) in
    late head.0 head.1 head.2 ((way.back up).0 (head.0).1 (inl refl))

-- an output that cannot be built has entries of the whole
pub under_limit : (Honest : Type 0) (w : Work) (whole es : List Entry) (was is : Told) (drew0 drew answers0 answers asked0 asked : List ℕ) (m : Made) (before : Option Entry) (left : Left)
    → IsUnderWay Honest w whole was is drew0 drew answers0 answers asked0 asked m before left → no_more left.placed ≡ false
    → ((p : Placed) (rest : List Placed) → left.placed ≡ p ∷ rest → IsOverLimit m.options (entries_of_last m.last ++ p.1 ∷ []))
    → Honest → ((e : Entry) → Has whole e → Has es e) → IsOverLimit w.table es
under_limit Honest w whole es was is drew0 drew answers0 answers asked0 asked m before left u more over honest f =
    let head = some_of left.placed more in
    let way = subst (λ (l : List Placed). IsOnTheWay w.floor w.ranges (finished w.table) w.target_size whole (making_of m) before (entries_of l)) head.2 (u.way honest) in
    over_more w.table (entries_of_last m.last ++ (head.0).1 ∷ []) es
    (λ e h. f e (with_next_from w.floor w.ranges (finished w.table) w.target_size whole (making_of m) before (head.0).1 (entries_of head.1) way e h))
    (subst (λ (o : Rattle.lsm_table.specs.declared.table_options.TableOptions.TableOptions). IsOverLimit o (entries_of_last m.last ++ (head.0).1 ∷ [])) (u.sizes).options (over head.0 head.1 head.2))

-- so has the last one
pub under_last : (Honest : Type 0) (w : Work) (whole es : List Entry) (was is : Told) (drew0 drew answers0 answers asked0 asked : List ℕ) (m : Made) (before : Option Entry) (left : Left)
    → IsUnderWay Honest w whole was is drew0 drew answers0 answers asked0 asked m before left
    → Honest → ((e : Entry) → Has whole e → Has es e) → IsOverLimit m.options (entries_of_last m.last) → IsOverLimit w.table es
under_last Honest w whole es was is drew0 drew answers0 answers asked0 asked m before left u honest f over =
    over_more w.table (entries_of_last m.last) es
    (λ e h. f e (output_from w.floor w.ranges (finished w.table) w.target_size whole (making_of m) before (entries_of left.placed) (u.way honest) e h))
    (subst (λ (o : Rattle.lsm_table.specs.declared.table_options.TableOptions.TableOptions). IsOverLimit o (entries_of_last m.last)) (u.sizes).options over)

-- at the end the whole ascends
pub under_ascends : (Honest : Type 0) (w : Work) (whole : List Entry) (was is : Told) (drew0 drew answers0 answers asked0 asked : List ℕ) (m : Made) (before : Option Entry) (left : Left)
    → IsUnderWay Honest w whole was is drew0 drew answers0 answers asked0 asked m before left → no_more left.placed ≡ true → Honest → IsAscending whole
under_ascends Honest w whole was is drew0 drew answers0 answers asked0 asked m before left u none honest =
    let way = subst (λ (es : List Placed). IsOnTheWay w.floor w.ranges (finished w.table) w.target_size whole (making_of m) before (entries_of es)) (none_of left.placed none) (u.way honest) in
    way.ascending (λ x h. absurd h, tt)
