-- Tables that become one.
use Rattle.std.proofs.Common.{◌≡◌, ℕ, ◌<◌, true, false, List, [], ◌∷◌, ◌++◌, length, Option, Some, None, refl, sym, ◌∙◌, ap, subst, inl, inr, arith, append_assoc, append-nil}
use Rattle.lsm_codec.specs.Lists.{Has}
use Rattle.std.specs.Prelude.{Result, Ok, Err, IfOk, OnOk}
use Rattle.lsm_codec.specs.Keys.{InternalKey}
use Rattle.lsm_codec.specs.Entries.{Entry}
use Rattle.lsm_codec.proofs.CallerLemmas.{has_left}
use Rattle.lsm_block.specs.Block.{entry_of}
use Rattle.lsm_block.specs.declared.build_fault.BuildFault.{BuildFault}
use Rattle.lsm_block.specs.declared.build_fault.BuildFault.TheVariants as build
use Rattle.lsm_shelf.specs.Told.{Told, Becomes, putting}
use Rattle.lsm_shelf.proofs.CallerLemmas.{becomes_then}
use Rattle.lsm_table.specs.HeldTable.{entries_in}
use Rattle.lsm_table.specs.Registry.{Table}
use Rattle.lsm_table.specs.TableBuilding.{table_bytes}
use Rattle.lsm_table.specs.declared.table_options.TableOptions.{TableOptions}
use Rattle.lsm_model.specs.Files.{all_entries}
use Rattle.lsm_model.specs.Merging.{Placed, entries_of}
use Rattle.lsm_model.specs.Streams.{IsAscending, IsMerge}
use Rattle.lsm_iterators.specs.Heads.{after_first, first_of, key_in, no_more, value_in}
use Rattle.lsm_iterators.specs.Runs.{Left, ReadsNoOther}
use Rattle.lsm_version.specs.Versions.{IsWhole, files_of}
use Rattle.lsm_merge.specs.declared.merge_fault.MergeFault.{MergeFault}
use Rattle.lsm_merge.specs.declared.merge_fault.MergeFault.TheVariants.{OutOfMemory, ReadFailed, PutFailed, UnknownTicket, NumbersSpent}
use Rattle.lsm_merge.specs.Causes.{AnswersOf, IsUnasked, Leaves}
use Rattle.lsm_merge.specs.Dropping.{AscendingAfter, Follows, IsUpTo}
use Rattle.lsm_merge.specs.Gathering.{HasEachOf, IsInTheMaking, IsOfOneOutput, PutsAtMost, TakesIn, all_of}
use Rattle.lsm_merge.specs.InputOrder.{HasTwins, StandInOrder}
use Rattle.lsm_merge.specs.Inputs.{AreInputs, IsOfReading, IsOrderFault, IsReadable, input_numbers}
use Rattle.lsm_merge.specs.MergeFault.{of_build}
use Rattle.lsm_merge.specs.Outputs.{Unfinished, going}
use Rattle.lsm_merge.specs.PutBefore.{PutsPerhaps}
use Rattle.lsm_merge.specs.Remembered.{bare}
use Rattle.lsm_merge.specs.Work.{Work, job_of}
use Rattle.lsm_merge.proofs.InputLaws.{inputs_are}
use Rattle.lsm_merge.proofs.PlaceLaws.{up_to_pushed}
use Rattle.lsm_merge.proofs.Stepping.{first_entry}
use Rattle.lsm_merge.proofs.UnderWay.{none_of, some_of}

-- ---- answers

pub if_ok : {A E : Type 0} (P Q : A → Type 0) (r : Result A E) → ((a : A) → P a → Q a) → IfOk r P → IfOk r Q
if_ok P Q (Ok x) f h = f x h
if_ok P Q (Err e) f h = tt

pub if_ok_both : {A E : Type 0} (P Q R : A → Type 0) (r : Result A E) → ((a : A) → P a → Q a → R a) → IfOk r P → IfOk r Q → IfOk r R
if_ok_both P Q R (Ok x) f h k = f x h k
if_ok_both P Q R (Err e) f h k = tt

-- ---- refusals

pub one_reading : (number : ℕ) (e : MergeFault) → IsOfReading e → IsOfOneOutput number e
one_reading number OutOfMemory k = tt
one_reading number (ReadFailed n f) k = tt
one_reading number (PutFailed n f) k = absurd k
one_reading number (UnknownTicket t) k = absurd k
one_reading number NumbersSpent k = absurd k

pub one_build : (number : ℕ) (f : BuildFault) → IsOfOneOutput number (of_build number f)
one_build number build.OutOfMemory = tt
one_build number build.TooLarge = refl

pub one_why : (number : ℕ) (put put' : List ℕ) (e : MergeFault) → Leaves e put' (number ∷ going put []) [] → ((answers : List ℕ) → AnswersOf e answers answers) → IsOfOneOutput number e
one_why number put put' OutOfMemory l k = tt
one_why number put put' (ReadFailed n f) l k = tt
one_why number put put' (PutFailed n f) l k = (let same : number ∷ going put [] ≡ n ∷ going put' [] = l in sym cc)
one_why number put put' (UnknownTicket t) l k = absurd (let z = k [] in cc z)
one_why number put put' NumbersSpent l k = absurd (let z = k [] in cc z)

pub readable_unasked : (e : MergeFault) → IsUnasked e → IsReadable e
readable_unasked OutOfMemory k = tt
readable_unasked (ReadFailed n f) k = absurd k
readable_unasked (PutFailed n f) k = tt
readable_unasked (UnknownTicket t) k = tt
readable_unasked NumbersSpent k = tt

pub order_unasked : (e : MergeFault) → IsUnasked e → IsOrderFault e → ⊥
order_unasked OutOfMemory k h = h
order_unasked (ReadFailed n f) k h = k
order_unasked (PutFailed n f) k h = h
order_unasked (UnknownTicket t) k h = h
order_unasked NumbersSpent k h = h

-- ---- what the shelf was told

pub puts_at_most : (number n : ℕ) (sizes : TableOptions) (es : List Entry) (image put put' : List ℕ) (was is : Told) → number ≡ n → image ≡ table_bytes sizes es → PutsPerhaps number image put put' was is
    → PutsAtMost n sizes was is
puts_at_most number n sizes es image put put' was is at same (inl none) = inl none.1
puts_at_most number n sizes es image put put' was is at same (inr one) =
    inr (es, subst (λ (m : ℕ). Becomes (putting m (table_bytes sizes es) was) is) at (subst (λ (i : List ℕ). Becomes (putting number i was) is) same one.1))

pub put_after : (number : ℕ) (image : List ℕ) (a b c : Told) → Becomes a b → Becomes (putting number image b) c → Becomes (putting number image a) c
put_after number image a b c p q = becomes_then (putting number image a) (putting number image b) c
    (record {
      place = p.place;
      faults = p.faults;
      misses = p.misses;
      puts = ap (λ (l : List ℕ). number ∷ l) p.puts;
      gone = p.gone;
      listed = p.listed;
      manifest = p.manifest;
      sent = p.sent;
      found = p.found;
      starts = p.starts;
      written = p.written;
      forks = p.forks;
      made = ap (λ (l : List Rattle.lsm_shelf.specs.Asked.Asked). Rattle.lsm_shelf.specs.Asked.Put number image ∷ l) p.made;
    }) q

pub at_most_after : (number : ℕ) (sizes : TableOptions) (a b c : Told) → Becomes a b → PutsAtMost number sizes b c → PutsAtMost number sizes a c
at_most_after number sizes a b c p (inl q) = inl (becomes_then a b c p q)
at_most_after number sizes a b c p (inr q) = inr (q.0, put_after number (table_bytes sizes q.0) a b c p q.1)

-- ---- one entry more

pub took : {A E : Type 0} (Honest : Type 0) (ps : List Placed) (p : Placed) (rest : List Placed) (o o' : Unfinished) (before' : Option Entry) (left' : Left) (r : Result A E) (k : InternalKey) (v : List ℕ) → ps ≡ p ∷ rest
    → Some k ≡ key_in (first_of ps) → v ≡ value_in (first_of ps) → o' ≡ record o { entries = o.entries ++ entry_of k v ∷ [] }
    → OnOk r (before' ≡ Some (entry_of k [])) → (Honest → OnOk r (left'.placed ≡ after_first ps))
    → OnOk r (TakesIn Honest o.number o.options o.entries p rest o' before' left')
took Honest ps p rest o o' before' left' (Err e) k v is key value grows before_is left = tt
took Honest ps p rest o o' before' left' (Ok x) k v is key value grows before_is left =
    let own : entry_of k v ≡ p.1 = first_entry ps p rest k v is key value in
    record {
      is = grows ∙ ap (λ (e : Entry). record { number = o.number; options = o.options; entries = o.entries ++ e ∷ [] }) own;
      before_is = before_is ∙ ap (λ (e : Entry). Some (bare e)) own;
      left_is = λ honest. left honest ∙ ap after_first is;
    }

all_step : (es : List Entry) (e : Entry) (rs : List Entry) → (es ++ e ∷ []) ++ rs ≡ es ++ e ∷ rs
all_step es e rs = append_assoc es (e ∷ []) rs

pub making_step : (Honest : Type 0) (w : Work) (number : ℕ) (o o' : Unfinished) (before before' : Option Entry) (left left' : Left) (a b c : Told)
    → IsInTheMaking Honest w number o before left a b → no_more left.placed ≡ false
    → ((p : Placed) (rest : List Placed) → left.placed ≡ p ∷ rest → TakesIn Honest o.number o.options o.entries p rest o' before' left')
    → ReadsNoOther left left' → Becomes b c → IsInTheMaking Honest w number o' before' left' a c
making_step Honest w number o o' before before' left left' a b c u more ok files told =
    let head = some_of left.placed more in
    let s = ok head.0 head.1 head.2 in
    let e : Entry = (head.0).1 in
    record {
      number_is = ap (λ (x : Unfinished). x.number) s.is ∙ u.number_is;
      sizes = ap (λ (x : Unfinished). x.options) s.is ∙ u.sizes;
      up = subst (λ (x : Unfinished). IsUpTo x.entries before') (sym s.is) (subst (IsUpTo (o.entries ++ e ∷ [])) (sym s.before_is) (up_to_pushed o.entries e));
      told = becomes_then a b c u.told told;
      files = λ f h. u.files f (files f h);
      merges = λ honest up. subst (λ (l : List Entry). IsMerge l (all_entries (job_of w).inputs)) (sym (same e s honest head.2)) (u.merges honest (subst IsAscending (same e s honest head.2) up));
      order = λ honest stand late. u.order honest stand (λ up. late (subst IsAscending (sym (same e s honest head.2)) up));
      after = λ honest up.
          subst (λ (b0 : Option Entry). AscendingAfter b0 (entries_of left'.placed)) (sym s.before_is)
          (subst (λ (ps : List Placed). AscendingAfter (Some (bare e)) (entries_of ps)) (sym (s.left_is honest))
          (subst (λ (ps : List Placed). AscendingAfter before (entries_of ps)) head.2 (u.after honest (subst IsAscending (same e s honest head.2) up))).1);
    }
  where
    same : {p : Placed} {rest : List Placed} (e : Entry) → TakesIn Honest o.number o.options o.entries p rest o' before' left' → Honest → left.placed ≡ p ∷ rest → all_of o' left' ≡ all_of o left
    same {p} {rest} e s honest is =
        ap (λ (x : Unfinished). x.entries ++ entries_of left'.placed) s.is
        ∙ ap (λ (ps : List Placed). (o.entries ++ p.1 ∷ []) ++ entries_of ps) (s.left_is honest)
        ∙ all_step o.entries p.1 (entries_of rest)
        ∙ ap (λ (ps : List Placed). o.entries ++ entries_of ps) (sym is)

-- ---- the first entry

pub making_begun : (Honest : Type 0) (w : Work) (number : ℕ) (sizes : TableOptions) (o' : Unfinished) (before' : Option Entry) (left left' : Left) (a b c : Told)
    → sizes ≡ w.table → no_more left.placed ≡ false → Becomes a b → AreInputs left.files (input_numbers w)
    → (Honest → IsAscending (entries_of left.placed) → IsMerge (entries_of left.placed) (all_entries (job_of w).inputs))
    → (Honest → StandInOrder w → (IsAscending (entries_of left.placed) → ⊥) → HasTwins (all_entries (job_of w).inputs))
    → ((p : Placed) (rest : List Placed) → left.placed ≡ p ∷ rest → TakesIn Honest number sizes [] p rest o' before' left')
    → ReadsNoOther left left' → Becomes b c → IsInTheMaking Honest w number o' before' left' a c
making_begun Honest w number sizes o' before' left left' a b c range more told inputs merges order ok files then =
    making_step Honest w number (record { number = number; options = sizes; entries = [] }) o' None before' left left' a b c
    (record {
      number_is = refl;
      sizes = range;
      up = λ key h. absurd (cc h);
      told = told;
      files = inputs;
      merges = merges;
      order = order;
      after = λ honest up. (λ e h. tt, up);
    }) more ok files then

-- ---- no entry

pub no_entry_honest : (w : Work) (placed : List Placed) → no_more placed ≡ true → 0 < length w.upper → ((t : Table) → Has w.upper t → IsWhole t)
    → (IsAscending (entries_of placed) → IsMerge (entries_of placed) (all_entries (job_of w).inputs)) → ⊥
no_entry_honest w placed none some whole merges = go w.upper refl some
  where
    go : (ts : List Table) → ts ≡ w.upper → 0 < length ts → ⊥
    go [] is h = absurd (omega arith)
    go (t ∷ ts) is h =
        let r = (whole t (subst (λ (l : List Table). Has l t) is (inl refl))).entries in
        let first = r.first in
        let m = subst (λ (ps : List Placed). IsAscending (entries_of ps) → IsMerge (entries_of ps) (all_entries (job_of w).inputs)) (none_of placed none) merges tt in
        m.to first.0
        (subst (λ (l : List Entry). Has l first.0) (sym (inputs_are w))
        (has_left (Rattle.lsm_merge.specs.Inputs.entries_of_tables w.upper) (Rattle.lsm_merge.specs.Inputs.entries_of_tables w.lower) first.0
        (subst (λ (l : List Table). Has (Rattle.lsm_merge.specs.Inputs.entries_of_tables l) first.0) is
        (has_left (entries_in t.image) (Rattle.lsm_merge.specs.Inputs.entries_of_tables ts) first.0
        (subst (λ (l : List Entry). Has l first.0) (sym first.2) (inl refl))))))

-- ---- the end

pub gathered_all : (Honest : Type 0) (w : Work) (number : ℕ) (o : Unfinished) (before : Option Entry) (left : Left) (a b : Told) (t : Table)
    → IsInTheMaking Honest w number o before left a b → no_more left.placed ≡ true → IsWhole t → entries_in t.image ≡ o.entries → Honest
    → HasEachOf (entries_in t.image) (all_entries (job_of w).inputs)
gathered_all Honest w number o before left a b t u none whole is honest e = (m.from e, m.to e)
  where
    all : all_of o left ≡ entries_in t.image
    all = ap (λ (ps : List Placed). o.entries ++ entries_of ps) (none_of left.placed none) ∙ append-nil o.entries ∙ sym is

    m : IsMerge (entries_in t.image) (all_entries (job_of w).inputs)
    m = subst (λ (l : List Entry). IsMerge l (all_entries (job_of w).inputs)) all (u.merges honest (subst IsAscending (sym all) whole.entries.ascending))

-- ---- out of order

pub order_late : (Honest : Type 0) (w : Work) (number : ℕ) (o : Unfinished) (before : Option Entry) (left : Left) (a b : Told)
    → IsInTheMaking Honest w number o before left a b → no_more left.placed ≡ false
    → ((p : Placed) (rest : List Placed) → left.placed ≡ p ∷ rest → Follows before p.1 → ⊥)
    → Honest → StandInOrder w → HasTwins (all_entries (job_of w).inputs)
order_late Honest w number o before left a b u more late honest stand =
    let head = some_of left.placed more in
    u.order honest stand (λ up. late head.0 head.1 head.2
    ((subst (λ (ps : List Placed). AscendingAfter before (entries_of ps)) head.2 (u.after honest up)).0 (head.0).1 (inl refl)))

-- ---- the tables as a job's inputs

pub inputs_upper : (w : Work) (ts : List Table) → w.level ≡ 0 → w.upper ≡ ts → w.lower ≡ [] → (job_of w).inputs ≡ files_of 0 ts
inputs_upper w ts level upper lower =
    ap (λ (l : List Table). files_of w.level w.upper ++ files_of (Rattle.std.proofs.Common.suc w.level) l) lower
    ∙ append-nil (files_of w.level w.upper) ∙ ap (λ (n : ℕ). files_of n w.upper) level ∙ ap (files_of 0) upper
