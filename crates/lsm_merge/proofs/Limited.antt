-- Outputs that cannot be built.
use Rattle.std.proofs.Common.{◌≡◌, ℕ, ◌≤◌, Bool, true, false, cond, List, [], ◌∷◌, ◌++◌, length, Option, Some, None, refl, sym, ◌∙◌, ap, subst, inl, inr}
use Rattle.std.specs.Prelude.{Result, Ok, Err, IfErr, ◌^◌}
use Rattle.std.specs.List.{flat_map}
use Rattle.lsm_codec.specs.Lists.{Has}
use Rattle.lsm_codec.specs.Keys.{UserKey}
use Rattle.lsm_codec.specs.Entries.{Entry}
use Rattle.lsm_codec.proofs.CallerLemmas.{has_cases, has_left, has_right}
use Rattle.lsm_block.specs.Block.{Ascends}
use Rattle.lsm_block.specs.declared.build_fault.BuildFault.{BuildFault}
use Rattle.lsm_block.specs.declared.build_fault.BuildFault.TheVariants as build
use Rattle.lsm_table.specs.TableBuilding.{PassesLimit, groups_by, index_block}
use Rattle.lsm_table.specs.declared.table_options.TableOptions.{TableOptions}
use Rattle.lsm_model.specs.Streams.{streamed}
use Rattle.lsm_merge.specs.declared.merge_fault.InputFault.TheVariants.{Read, OutOfOrder}
use Rattle.lsm_merge.specs.declared.merge_fault.MergeFault.{MergeFault}
use Rattle.lsm_merge.specs.declared.merge_fault.MergeFault.TheVariants.{OutOfMemory, ReadFailed, PutFailed, UnknownTicket, NumbersSpent}
use Rattle.lsm_merge.specs.Cuts.{cut_on}
use Rattle.lsm_merge.specs.Dropping.{Making}
use Rattle.lsm_merge.specs.Inputs.{IsOfReading}
use Rattle.lsm_merge.specs.Limits.{IsOverLimit, IsSizeFault}
use Rattle.lsm_merge.specs.MergeFault.{of_build}
use Rattle.lsm_merge.proofs.Cutting.{cut_whole}
use Rattle.lsm_merge.proofs.Dropped.{IsOnTheWay}

-- ---- refusals

pub size_of_build : (n : ℕ) (f : BuildFault) (P : Type 0) → (f ≡ build.TooLarge → P) → IsSizeFault (of_build n f) → P
size_of_build n build.OutOfMemory P h s = absurd s
size_of_build n build.TooLarge P h s = h refl

pub no_size_reading : (e : MergeFault) → IsOfReading e → IsSizeFault e → ⊥
no_size_reading OutOfMemory k s = s
no_size_reading (ReadFailed n (Read f)) k s = s
no_size_reading (ReadFailed n OutOfOrder) k s = s
no_size_reading (PutFailed n f) k s = k
no_size_reading (UnknownTicket t) k s = s
no_size_reading NumbersSpent k s = s

-- ---- entries over a limit

pub over_next : (options : TableOptions) (es : List Entry) (e : Entry) → Ascends (es ++ e ∷ []) → PassesLimit options es e → IsOverLimit options (es ++ e ∷ [])
over_next options es e a p = record { some = es ++ e ∷ []; ascends = a; from = λ x h. h; over = inl (es, e, refl, p) }

pub over_first : (options : TableOptions) (e : Entry) → PassesLimit options [] e → IsOverLimit options (e ∷ [])
over_first options e p = over_next options [] e tt p

-- what could not be finished has no table
pub over_whole : {A : Type 0} (options : TableOptions) (es : List Entry) (r : Result A BuildFault) → Ascends es
    → (r ≡ Err build.TooLarge → 2 ^ 32 ≤ length (index_block options.restart_interval (groups_by options es))) → IfErr r (λ e. e ≡ build.TooLarge → IsOverLimit options es)
over_whole options es (Ok x) a h = tt
over_whole options es (Err e) a h = λ is. record { some = es; ascends = a; from = λ x k. k; over = inr (h (ap Err is)) }

pub over_more : (options : TableOptions) (es fs : List Entry) → ((e : Entry) → Has es e → Has fs e) → IsOverLimit options es → IsOverLimit options fs
over_more options es fs f o = record { some = o.some; ascends = o.ascends; from = λ e h. f e (o.from e h); over = o.over }

pub over_pushed : (options : TableOptions) (es : List Entry) (e : Entry) → IsOverLimit options es → IsOverLimit options (es ++ e ∷ [])
over_pushed options es e o = over_more options es (es ++ e ∷ []) (λ x h. has_left es (e ∷ []) x h) o

-- ---- the output in the making is of the whole

pub streamed_from : (floor : ℕ) (ranges : List (UserKey × UserKey)) (before : Option Entry) (es : List Entry) (e : Entry) → Has (streamed floor ranges before es) e → Has es e
streamed_from floor ranges before [] e h = absurd h
streamed_from floor ranges before (x ∷ es) e h = go _ h (streamed_from floor ranges (Some x) es e)
  where
    go : (b : Bool) → Has (cond b (x ∷ streamed floor ranges (Some x) es) (streamed floor ranges (Some x) es)) e → (Has (streamed floor ranges (Some x) es) e → Has es e) → Has (x ∷ es) e
    go true (inl same) rest = inl same
    go true (inr k) rest = inr (rest k)
    go false k rest = inr (rest k)

pub flat_both : (os ps : List (List Entry)) → flat_map (λ (o : List Entry). o) (os ++ ps) ≡ flat_map (λ (o : List Entry). o) os ++ flat_map (λ (o : List Entry). o) ps
flat_both [] ps = refl
flat_both (a ∷ os) ps = ap (λ (l : List Entry). a ++ l) (flat_both os ps) ∙ sym (Rattle.std.proofs.Common.append_assoc a (flat_map (λ (o : List Entry). o) os) (flat_map (λ (o : List Entry). o) ps))

pub output_from : (floor : ℕ) (ranges : List (UserKey × UserKey)) (size : List Entry → ℕ) (target : ℕ) (whole : List Entry) (m : Making) (before : Option Entry) (rest : List Entry)
    → IsOnTheWay floor ranges size target whole m before rest → (e : Entry) → Has m.output e → Has whole e
output_from floor ranges size target whole m before rest w e h =
    streamed_from floor ranges None whole e
    (subst (λ (l : List Entry). Has l e) (sym (flat_both m.outputs (cut_on size target m.output R)) ∙ ap (flat_map (λ (o : List Entry). o)) w.same ∙ cut_whole size target [] (streamed floor ranges None whole))
    (has_right (flat_map (λ (o : List Entry). o) m.outputs) (flat_map (λ (o : List Entry). o) (cut_on size target m.output R)) e
    (subst (λ (l : List Entry). Has l e) (sym (cut_whole size target m.output R)) (has_left m.output R e h))))
  where
    R : List Entry
    R = streamed floor ranges before rest

-- with the entry at hand
pub with_next_from : (floor : ℕ) (ranges : List (UserKey × UserKey)) (size : List Entry → ℕ) (target : ℕ) (whole : List Entry) (m : Making) (before : Option Entry) (x : Entry) (rest : List Entry)
    → IsOnTheWay floor ranges size target whole m before (x ∷ rest) → (e : Entry) → Has (m.output ++ x ∷ []) e → Has whole e
with_next_from floor ranges size target whole m before x rest w e h = elim (has_cases m.output (x ∷ []) e h) [
  | inl k ↦ output_from floor ranges size target whole m before (x ∷ rest) w e k
  | inr k ↦ elim k [ inl same ↦ w.left e (inl same) | inr none ↦ absurd none ]
]
