-- Operations one after another, among calls of other threads.
use Rattle.std.proofs.Common.{◌≡◌, ℕ, ◌<◌, ◌^◌, List, [], ◌∷◌, refl, sym, subst, inl, inr, ◌⊎◌, None}
use Rattle.std.specs.Prelude.{Ok, Err}
use Rattle.lsm_codec.specs.Lists.{Has}
use Rattle.lsm_folder.specs.Calls.{Answer, wrote, synced}
use Rattle.lsm_storage.specs.FileNames.{manifest_name, temporary_name, current_text}
use Rattle.lsm_storage.specs.Plans.{Step as Asked, start_plan, unnamed_plan}
use Rattle.lsm_crash.specs.Disk.{Disk}
use Rattle.lsm_crash.specs.Crash.{Found, IsLeft}
use Rattle.lsm_crash.specs.Versions.{AreThere, Version}
use Rattle.lsm_crash.specs.Known.{IsHeld, IsSettled, IsVacant, Recovers, World, current_name, known_of, nothing}
use Rattle.lsm_crash.specs.Operations.{Allows, Append, MayStart, Operation, Put, Remove, Start, after, either, plan_of, starting}
use Rattle.lsm_crash.specs.Among.{CutAmong, CutOf, Counts, Does, DoneAmong, DoneOf, Event}
use Rattle.lsm_crash.specs.Among.{FailsAmong, Goes, counting, failed}
use Rattle.lsm_crash.proofs.Held.{IsClear, held_recovers, held_wider, only, settled_gap, settled_held, settled_step, surely_recovers, vacant_held}
use Rattle.lsm_crash.proofs.Appending.{append_cut, append_done, append_fails, pair}
use Rattle.lsm_crash.proofs.Tables.{clear_folder, count_settled, put_cut, put_done, put_fails, remove_cut, remove_done, settled_either}
use Rattle.lsm_crash.proofs.Dropping.{done_held, drops_settled}
use Rattle.lsm_crash.proofs.Starting.{clear_m, clear_t, start_cut, start_done}

pub plan_settled : (d e : Disk) (w : World) (o : Operation) → IsSettled d w → Allows w o
    → DoneAmong (after w o).tables (plan_of w o) d e → IsSettled e (after w o)
plan_settled d e w (Put number image) i ok h = put_done w number image ok d e i h
plan_settled d e w (Remove number) i ok h = remove_done w number ok d e i h
plan_settled d e w (Append text v) i ok h = append_done w text v ok d e i h
plan_settled d e w (Start number bytes v) i ok h =
    start_done (known_of w) number bytes v ok d e (settled_held d w i) h

pub done_settled : (d e : Disk) (w : World) (o : Operation) → IsSettled d w → Allows w o
    → DoneOf w o d e → IsSettled e (after w o)
done_settled d e w o i ok (mid, h, drops) =
    drops_settled (after w o) mid e drops (plan_settled d mid w o i ok h)

-- ---- refusals after which the database goes on

-- whatever these calls are answered, they are about other names
abbrev pub AllClear : World → List Asked → Type 0
AllClear w [] = Unit {0}
AllClear w (s ∷ ss) = ((d : Disk) (a : Answer) → IsSettled d w → IsClear (w.manifest ∷ []) w.tables (s a)) × AllClear w ss

pub clear_cut : (w : World) (ss : List Asked) (d e : Disk) → AllClear w ss → IsSettled d w → CutAmong w.tables ss d e → IsSettled e w
clear_cut w [] d e c i h = settled_gap w d e h i
clear_cut w (s ∷ ss) d e c i (m, g, inl same) = subst (λ x. IsSettled x w) (sym same) (settled_gap w d m g i)
clear_cut w (s ∷ ss) d e c i (m, g, inr (inl r)) = (let j = settled_gap w d m g i in settled_gap w r.1 e r.3 (settled_step m r.1 w (s (Err r.0)) (c.0 m (Err r.0) j) r.2 j))
clear_cut w (s ∷ ss) d e c i (m, g, inr (inr r)) = (let j = settled_gap w d m g i in clear_cut w ss r.0 e c.1 (settled_step m r.0 w (s (Ok tt)) (c.0 m (Ok tt) j) r.1 j) r.2)

unnamed_clear : (w : World) (number : ℕ) (bytes : List ℕ) (v : Version) → Allows w (Start number bytes v) → AllClear w (unnamed_plan number bytes)
unnamed_clear w number bytes v ok =
    let k = known_of w in (
      λ d a i. clear_m k number bytes v ok d (wrote (manifest_name number) bytes a) (settled_held d w i) (λ q x. x),
      (
        λ d a i. clear_m k number bytes v ok d (synced (manifest_name number) a) (settled_held d w i) (λ q x. x),
        (
          λ d a i. clear_folder (w.manifest ∷ []) w.tables a,
          (
            λ d a i. clear_t k number bytes v ok (wrote (temporary_name number) (current_text number) a) (λ q x. x),
            (λ d a i. clear_t k number bytes v ok (synced (temporary_name number) a) (λ q x. x), tt),
          ),
        ),
      ),
    )

pub fails_settled : (d e : Disk) (w : World) (o : Operation) → IsSettled d w → Allows w o → FailsAmong w o d e → IsSettled e (failed w o)
fails_settled d e w (Put number image) i ok h = put_fails w number image ok d e i h
fails_settled d e w (Remove number) i ok h = remove_cut w number ok d e i h
fails_settled d e w (Append text v) i ok h = append_fails w text v ok d e i h
fails_settled d e w (Start number bytes v) i ok h = clear_cut w (unnamed_plan number bytes) d e (unnamed_clear w number bytes v ok) i h

-- ---- cut anywhere

pub cut_start : (d : Disk) (w : World) (number : ℕ) (bytes : List ℕ) (v : Version) → Allows w (Start number bytes v) → IsHeld d (known_of w) → IsHeld d (either w (Start number bytes v))
cut_start d w number bytes v ok i = held_wider d (known_of w) (either w (Start number bytes v)) record {
  may_miss = λ e. e;
  manifests = only w.manifest (Has (number ∷ w.manifest ∷ [])) (inr (inl refl));
  small = pair number w.manifest (λ m. m < 2 ^ 64) ok.small (i.small w.manifest (inl refl));
  versions = only w.version (Has (v ∷ w.version ∷ [])) (inr (inl refl));
  tables = λ n image is. is;
  there = pair v w.version (λ u. AreThere u w.tables) ok.there (i.there w.version (inl refl));
} i

pub plan_held : (d e : Disk) (w : World) (o : Operation) → IsSettled d w → Allows w o
    → CutAmong (after w o).tables (plan_of w o) d e → IsHeld e (either w o)
plan_held d e w (Put number image) i ok h =
    settled_either e w w (Put number image) refl refl refl refl refl
    (put_cut w number image ok d e i h)
plan_held d e w (Remove number) i ok h =
    settled_either e w (after w (Remove number)) (Remove number) refl refl refl refl refl
    (remove_cut w number ok d e i h)
plan_held d e w (Append text v) i ok h = append_cut w text v ok d e i h
plan_held d e w (Start number bytes v) i ok h =
    elim (start_cut (known_of w) number bytes v ok d e (settled_held d w i) h) [
      | inl same ↦ cut_start e w number bytes v ok same
      | inr turned ↦ turned.0
    ]

pub cut_held : (d e : Disk) (w : World) (o : Operation) → IsSettled d w → Allows w o → CutOf w o d e
    → IsHeld e (either w o)
cut_held d e w o i ok (inl h) = plan_held d e w o i ok h
cut_held d e w o i ok (inr h) = done_held d e w o i ok (done_settled d e w o i ok h)

-- ---- runs

pub goes_settled : (es : List Event) (d e : Disk) (w u : World) → IsSettled d w → Goes w es u d e → IsSettled e u
goes_settled [] d e w u i h = subst (λ x. IsSettled e x) (sym h.0) (settled_gap w d e h.1 i)
goes_settled (Counts number image ∷ es) d e w u i h = goes_settled es h.1.0 e (counting number image w) u (count_settled h.1.0 w number image h.0 h.1.2 (settled_gap w d h.1.0 h.1.1 i)) h.1.3
goes_settled (Does o ∷ es) d e w u i (ok, (mid, inl r)) = goes_settled es mid e (after w o) u (done_settled d mid w o i ok r.0) r.1
goes_settled (Does o ∷ es) d e w u i (ok, (mid, inr r)) = goes_settled es mid e (failed w o) u (fails_settled d mid w o i ok r.0) r.1

-- the whole theorem
pub crash_recovers : (es : List Event) (o : Operation) (d mid e : Disk) (w u : World)
    (found : Found) → IsSettled d w → Goes w es u d mid → Allows u o → CutOf u o mid e
    → IsLeft e found
    → Recovers (either u o) found
crash_recovers es o d mid e w u found i g ok c l = surely_recovers e (either u o) found refl (cut_held mid e u o (goes_settled es d mid w u i g) ok c) l

-- ---- a new database

pub begin_cut : (number : ℕ) (bytes : List ℕ) (v : Version) (d e : Disk) (found : Found) → IsVacant d → MayStart nothing number bytes v → CutAmong nothing.tables (start_plan number bytes) d e → IsLeft e found
    → (found current_name ≡ None) ⊎ Recovers (starting nothing number v) found
begin_cut number bytes v d e found vacant ok h l = elim (start_cut nothing number bytes v ok d e (vacant_held d vacant) h) [
  | inl same ↦ elim (held_recovers e nothing found same l) [ inl none ↦ inl none.1 | inr r ↦ absurd r.one ]
  | inr turned ↦ elim (held_recovers e (starting nothing number v) found turned.0 l) [ inl none ↦ inl none.1 | inr r ↦ inr r ]
]
