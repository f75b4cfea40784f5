-- What the calls of a shelf leave, by its plans, each answered Ok or refused.
use Rattle.std.proofs.Common.{◌≡◌, ℕ, List, [], ◌∷◌, ◌++◌, refl, sym, ◌∙◌, ap, subst, inl, inr}
use Rattle.std.specs.Prelude.{Ok, Err, None, Result, Some}
use Rattle.std.proofs.lemmas.List.{append_cancel_right}
use Rattle.lsm_folder.specs.Calls.{Call, appended, loaded, made, measured, removed, synced}
use Rattle.lsm_folder.specs.declared.folder_fault.FolderFault.{FolderFault}
use Rattle.lsm_folder.specs.declared.folder_fault.FolderFault.TheVariants as folder
use Rattle.lsm_storage.specs.FileNames.{manifest_name, table_name, temporary_name, current_text}
use Rattle.lsm_storage.specs.FolderFault.{missing_of}
use Rattle.lsm_storage.specs.Plans.{Step as Asked, AppendStopped, CurrentStopped, IsNamedBy}
use Rattle.lsm_storage.specs.Plans.{MeasureStopped, NamesOther, PutStopped, Refused, RemoveStopped}
use Rattle.lsm_storage.specs.Plans.{StartStopped, StartedFrom, append_plan, current_plan}
use Rattle.lsm_storage.specs.Plans.{current_read, done, durable_plan, manifest_measured, start_plan}
use Rattle.lsm_storage.specs.Plans.{unnamed_plan}
use Rattle.lsm_shelf.specs.declared.shelf_fault.ShelfFault.{ShelfFault}
use Rattle.lsm_shelf.specs.declared.shelf_fault.ShelfFault.TheVariants as why
use Rattle.lsm_crash.specs.Disk.{After, Disk, Leaves, Step}
use Rattle.lsm_crash.specs.Versions.{Version}
use Rattle.lsm_crash.specs.Known.{IsHeld, IsSettled, World, current_name}
use Rattle.lsm_crash.specs.Operations.{Allows, Append, Operation, Put, Remove, Start, after, either, plan_of}
use Rattle.lsm_crash.specs.Among.{CutAmong, DoneAmong}
use Rattle.lsm_crash.proofs.Disks.{some_is}
use Rattle.lsm_crash.proofs.Standing.{stands_shows}
use Rattle.lsm_crash.proofs.Held.{settled_aside}
use Rattle.lsm_crash.proofs.Tables.{lessen}
use Rattle.lsm_crash.proofs.Asides.{aside_removed}
use Rattle.lsm_crash.proofs.Calls.{done_after, no_gap, refused_after}
use Rattle.lsm_crash.proofs.Dropping.{drops_settled}
use Rattle.lsm_crash.proofs.Runs.{fails_settled, plan_held, plan_settled}

module _ (s : Disk) (old : List Call) (w : World) (was : Leaves s old (λ d. IsSettled d w)) where
  -- ---- plans

  pub plan_done : (o : Operation) → Allows w o → Leaves s (done (plan_of w o) old) (λ d. IsSettled d (after w o))
  plan_done o ok e h =
      (let r = done_after (after w o).tables (plan_of w o) old s e h in
      plan_settled r.0 e w o (was r.0 r.1) ok r.2)

  pub plan_cut : (o : Operation) (fault : FolderFault) (new : List Call) → Allows w o → Refused (plan_of w o) fault old new → Leaves s new (λ d. IsHeld d (either w o))
  plan_cut o fault new ok r e h =
      (let a = refused_after (after w o).tables (plan_of w o) fault old new s e r h in
      plan_held a.0 e w o (was a.0 a.1) ok a.2)

  -- ---- reads

  pub read_leaves : (name : List ℕ) (answer : Result (List ℕ) FolderFault) → Leaves s (loaded name answer ∷ old) (λ d. IsSettled d w)
  read_leaves name (Ok bytes) e h = subst (λ x. IsSettled x w) (sym h.2.0) (was h.0 h.1)
  read_leaves name (Err fault) e h = subst (λ x. IsSettled x w) (sym h.2) (was h.0 h.1)

  pub measured_leaves : (name : List ℕ) (answer : Result ℕ FolderFault) → Leaves s (measured name answer ∷ old) (λ d. IsSettled d w)
  measured_leaves name answer e h = subst (λ x. IsSettled x w) (sym h.2) (was h.0 h.1)

  same_leaves : (new : List Call) → new ≡ old → Leaves s new (λ d. IsSettled d w)
  same_leaves new is = subst (λ x. Leaves s x (λ d. IsSettled d w)) (sym is) was

  -- ---- a table is put

  pub put_stopped : (number : ℕ) (image : List ℕ) (f : ShelfFault) (new : List Call) → Allows w (Put number image) → PutStopped number image f old new → Leaves s new (λ d. IsSettled d w)
  put_stopped number image f new ok (inl unasked) = same_leaves new unasked.1
  put_stopped number image f new ok (inr (inl large)) = same_leaves new large.0
  put_stopped number image f new ok (inr (inr (inl (fault, is, why)))) = λ e h.
      let a = subst (λ x. After s x e) is h in
      fails_settled a.0 e w (Put number image) (was a.0 a.1) ok (a.0, no_gap w.tables a.0, inr (inl (fault, e, a.2, no_gap w.tables e)))
  put_stopped number image f new ok (inr (inr (inr (fault, mid, answer, r, is, why)))) = λ e h.
      let a = subst (λ x. After s x e) is h in
      let c = refused_after w.tables (durable_plan (table_name number)) fault (made (table_name number) image (Ok tt) ∷ old) mid s a.0 r a.1 in
      let i = was c.1.0 c.1.1 in
      let j = fails_settled c.1.0 a.0 w (Put number image) i ok (c.1.0, no_gap w.tables c.1.0, inr (inr (c.0, c.1.2, c.2))) in
      settled_aside a.0 e w (removed (table_name number) answer) (aside_removed w.tables number answer (λ n img is. (i.tables n img is).0) ok.0 ok.1) a.2 j

  -- ---- a table is removed

  pub remove_stopped : (number : ℕ) (f : ShelfFault) (new : List Call) → Allows w (Remove number) → RemoveStopped number f old new → Leaves s new (λ d. IsSettled d (after w (Remove number)))
  remove_stopped number f new ok (inl unasked) e h = lessen w number ok e (was e (subst (λ x. After s x e) unasked.1 h))
  remove_stopped number f new ok (inr (fault, is, why)) e h =
      let a = subst (λ x. After s x e) is h in
      fails_settled a.0 e w (Remove number) (was a.0 a.1) ok (a.0, no_gap (after w (Remove number)).tables a.0, inr (inl (fault, e, a.2, no_gap (after w (Remove number)).tables e)))

  -- ---- `CURRENT` is read

  current_stopped : (f : ShelfFault) (new : List Call) → CurrentStopped f old new → Leaves s new (λ d. IsSettled d w)
  current_stopped f new (inl (fault, is, why)) = subst (λ x. Leaves s x (λ d. IsSettled d w)) (sym is) (read_leaves current_name (Err fault))
  current_stopped f new (inr (text, is, why)) = subst (λ x. Leaves s x (λ d. IsSettled d w)) (sym is) (read_leaves current_name (Ok text))

  -- where it was read, the manifest that it names is the one that the database means
  text_read : (n : ℕ) (e : Disk) → After s (current_read (Ok (current_text n)) old) e → manifest_name n ≡ manifest_name w.manifest
  text_read n e h =
      let i = was h.0 h.1 in
      let own = stands_shows h.0 current_name (current_text w.manifest) i.sound i.current in
      let shown = h.2.1 in
      let file : shown.0 ≡ own.0 = some_is shown.0 own.0 (sym shown.1 ∙ own.1) in
      let same : current_text n ≡ current_text w.manifest = sym shown.2 ∙ (ap h.0.bytes file ∙ own.2) in
      append_cancel_right (manifest_name n) (manifest_name w.manifest) (10 ∷ []) same

-- ---- a record is appended

module _ (s : Disk) (old : List Call) (w : World) (was : Leaves s old (λ d. IsSettled d w)) where
  read_first : (n : ℕ) → Leaves s (current_read (Ok (current_text n)) old) (λ d. IsSettled d w)
  read_first n = read_leaves s old w was current_name (Ok (current_text n))

  measure : (n len : ℕ) → Leaves s (manifest_measured n len old) (λ d. IsSettled d w)
  measure n len = measured_leaves s (current_read (Ok (current_text n)) old) w (read_first n) (manifest_name n) (Ok len)

  same_name : (n len : ℕ) (e : Disk) → After s (manifest_measured n len old) e → manifest_name n ≡ manifest_name w.manifest
  same_name n len e h = text_read s old w was n h.0 h.1

  pub append_answered : (n len : ℕ) (text : List ℕ) (v : Version) → Allows w (Append text v) → Leaves s (done (append_plan n text) (manifest_measured n len old)) (λ d. IsSettled d (after w (Append text v)))
  append_answered n len text v ok e h =
      let r = done_after w.tables (append_plan n text) (manifest_measured n len old) s e h in
      let name = same_name n len r.0 r.1 in
      plan_settled r.0 e w (Append text v) (measure n len r.0 r.1) ok
      (subst (λ name. DoneAmong w.tables (appended name text ∷ synced name ∷ []) r.0 e) name
      r.2)

  measure_stopped : (f : ShelfFault) (new : List Call) → MeasureStopped f old new → Leaves s new (λ d. IsSettled d w)
  measure_stopped f new (inl c) = current_stopped s old w was f new c
  measure_stopped f new (inr (n, inl unasked)) = subst (λ x. Leaves s x (λ d. IsSettled d w)) (sym unasked.1) (read_first n)
  measure_stopped f new (inr (n, inr (fault, is, why))) =
      subst (λ x. Leaves s x (λ d. IsSettled d w)) (sym is) (measured_leaves s (current_read (Ok (current_text n)) old) w (read_first n) (manifest_name n) (Err fault))

  -- nothing of the record was asked for, or a front of the plan
  still_held : (o : Operation) (new : List Call) → Allows w o → Leaves s new (λ d. IsSettled d w) → Leaves s new (λ d. IsHeld d (either w o))
  still_held o new ok l e h = nothing_done (plan_of w o) e (λ c. plan_held e e w o (l e h) ok c)
    where
      nothing_done : (plan : List Asked) (x : Disk) → (CutAmong (after w o).tables plan x x → IsHeld x (either w o)) → IsHeld x (either w o)
      nothing_done [] x f = f (no_gap (after w o).tables x)
      nothing_done (a ∷ plan) x f = f (x, no_gap (after w o).tables x, inl refl)

  pub append_stopped : (text : List ℕ) (v : Version) (f : ShelfFault) (new : List Call) → Allows w (Append text v) → AppendStopped text f old new → Leaves s new (λ d. IsHeld d (either w (Append text v)))
  append_stopped text v f new ok (inl m) = still_held (Append text v) new ok (measure_stopped f new m)
  append_stopped text v f new ok (inr (inl (n, len, is, why, large))) = still_held (Append text v) new ok (subst (λ x. Leaves s x (λ d. IsSettled d w)) (sym is) (measure n len))
  append_stopped text v f new ok (inr (inr (n, len, le, inl (inl unasked)))) = still_held (Append text v) new ok (subst (λ x. Leaves s x (λ d. IsSettled d w)) (sym unasked.1) (measure n len))
  append_stopped text v f new ok (inr (inr (n, len, le, inl (inr (fault, is, why))))) = λ e h.
      let a = subst (λ x. After s x e) is h in
      let name = same_name n len a.0 a.1 in
      plan_held a.0 e w (Append text v) (measure n len a.0 a.1) ok (
        a.0,
        no_gap w.tables a.0,
        inr
            (inl (
              fault,
              e,
              subst (λ name. Step a.0 (appended name text (Err fault)) e) name a.2,
              no_gap w.tables e,
            )),
      )
  append_stopped text v f new ok (inr (inr (n, len, le, inr (fault, is, why)))) = λ e h.
      let a = subst (λ x. After s x e) is h in
      let b = a.1 in
      let name = same_name n len b.0 b.1 in
      plan_held b.0 e w (Append text v) (measure n len b.0 b.1) ok (
        b.0,
        no_gap w.tables b.0,
        inr (inr (a.0, subst (λ name. Step b.0 (appended name text (Ok tt)) a.0) name b.2, (a.0, no_gap w.tables a.0, inr (inl (fault, e, subst (λ name. Step a.0 (synced name (Err fault)) e) name a.2, no_gap w.tables e))))),
      )

  -- memory was refused
  memory_of : (fault : FolderFault) → why.OutOfMemory ≡ missing_of fault → fault ≡ folder.OutOfMemory
  memory_of folder.OutOfMemory e = refl
  memory_of folder.Failed e = absurd (let x : why.OutOfMemory ≡ why.Device = e in cc)
  memory_of folder.Missing e = absurd (let x : why.OutOfMemory ≡ why.Missing = e in cc)
  memory_of folder.Exists e = absurd (let x : why.OutOfMemory ≡ why.Device = e in cc)

  not_device : why.OutOfMemory ≡ why.Device → ⊥
  not_device e = cc

  pub append_unasked : (text : List ℕ) (v : Version) (new : List Call) → Allows w (Append text v) → AppendStopped text why.OutOfMemory old new → Leaves s new (λ d. IsSettled d w)
  append_unasked text v new ok (inl m) = measure_stopped why.OutOfMemory new m
  append_unasked text v new ok (inr (inl (n, len, is, why, large))) = subst (λ x. Leaves s x (λ d. IsSettled d w)) (sym is) (measure n len)
  append_unasked text v new ok (inr (inr (n, len, le, inl (inl unasked)))) = subst (λ x. Leaves s x (λ d. IsSettled d w)) (sym unasked.1) (measure n len)
  append_unasked text v new ok (inr (inr (n, len, le, inl (inr (fault, is, kind))))) = λ e h.
      let a = subst (λ x. After s x e) is h in
      let name = same_name n len a.0 a.1 in
      let step = subst (λ name. Step a.0 (appended name text (Err fault)) e) name a.2 in
      fails_settled a.0 e w (Append text v) (measure n len a.0 a.1) ok (a.0, no_gap w.tables a.0, subst (λ x. Step a.0 (appended (manifest_name w.manifest) text (Err x)) e) (memory_of fault kind) step)
  append_unasked text v new ok (inr (inr (n, len, le, inr (fault, is, kind)))) = absurd (not_device kind)

-- ---- a manifest is started

refused_behind : (front later : List Asked) (fault : FolderFault) (old new : List Call) → Refused later fault (done front old) new → Refused (front ++ later) fault old new
refused_behind [] later fault old new r = r
refused_behind (a ∷ front) later fault old new r = inr (refused_behind front later fault (a (Ok tt) ∷ old) new r)

module _ (s : Disk) (old : List Call) (w : World) (was : Leaves s old (λ d. IsSettled d w)) (number : ℕ) (bytes : List ℕ) (v : Version) (ok : Allows w (Start number bytes v)) where
  started_from : (answer : Result (List ℕ) FolderFault)
      → Leaves s (done (start_plan number bytes) (current_read answer old))
      (λ d. IsSettled d (after w (Start number bytes v)))
  started_from answer =
      plan_done s (current_read answer old) w (read_leaves s old w was current_name answer)
      (Start number bytes v) ok

  -- the manifest that was followed is another one
  another : (m : ℕ) (answer : Result (List ℕ) FolderFault) → NamesOther number answer
      → IsNamedBy answer (Some m) → m ≡ number → ⊥
  another m (Ok text) other named same = other ((named m).0 refl ∙ ap current_text same)
  another m (Err fault) other named same = absurd (let none = named.1 in cc)

  pub start_answered : (new : List Call) → StartedFrom number bytes old new → Leaves s new (λ d. IsSettled d (after w (Start number bytes v)))
  start_answered new (answer, other, (None, named, is)) =
      subst (λ x. Leaves s x (λ d. IsSettled d (after w (Start number bytes v)))) (sym is)
      (started_from answer)
  start_answered new (answer, other, (Some m, named, (small, (a, is)))) = λ e h.
      let x = subst (λ y. After s y e) is h in
      drops_settled (after w (Start number bytes v)) x.0 e
      (inr (m, small, another m answer other named, a, e, x.2, no_gap w.tables e))
      (started_from answer x.0 x.1)

  -- a front of the plan before `CURRENT` was to have its new text
  unnamed : (answer : Result (List ℕ) FolderFault) (fault : FolderFault) (new : List Call) → Refused (unnamed_plan number bytes) fault (current_read answer old) new → Leaves s new (λ d. IsSettled d w)
  unnamed answer fault new r e h =
      let a = refused_after w.tables (unnamed_plan number bytes) fault (current_read answer old) new s e r h in
      fails_settled a.0 e w (Start number bytes v) (read_leaves s old w was current_name answer a.0 a.1) ok a.2

  pub start_unasked : (new : List Call) → StartStopped number bytes why.OutOfMemory old new → Leaves s new (λ d. IsSettled d w)
  start_unasked new (inl large) = subst (λ x. Leaves s x (λ d. IsSettled d w)) (sym large.0) was
  start_unasked new (inr (inl c)) = current_stopped s old w was why.OutOfMemory new c
  start_unasked new (inr (inr (inl taken))) = subst (λ x. Leaves s x (λ d. IsSettled d w)) (sym taken.0) (read_leaves s old w was current_name (Ok (current_text number)))
  start_unasked new (inr (inr (inr (answer, other, inl none)))) = subst (λ x. Leaves s x (λ d. IsSettled d w)) (sym none.1) (read_leaves s old w was current_name answer)
  start_unasked new (inr (inr (inr (answer, other, inr (inl (fault, r, kind)))))) = unnamed answer fault new r
  start_unasked new (inr (inr (inr (answer, other, inr (inr (fault, r, kind)))))) = absurd (not_device_here kind)
    where
      not_device_here : why.OutOfMemory ≡ why.Device → ⊥
      not_device_here e = cc

  pub start_stopped : (f : ShelfFault) (new : List Call) → StartStopped number bytes f old new → Leaves s new (λ d. IsHeld d (either w (Start number bytes v)))
  start_stopped f new (inl large) = still_held s old w was (Start number bytes v) new ok (subst (λ x. Leaves s x (λ d. IsSettled d w)) (sym large.0) was)
  start_stopped f new (inr (inl c)) = still_held s old w was (Start number bytes v) new ok (current_stopped s old w was f new c)
  start_stopped f new (inr (inr (inl taken))) = still_held s old w was (Start number bytes v) new ok
      (subst (λ x. Leaves s x (λ d. IsSettled d w)) (sym taken.0) (read_leaves s old w was current_name (Ok (current_text number))))
  start_stopped f new (inr (inr (inr (answer, other, inl none)))) = still_held s old w was (Start number bytes v) new ok
      (subst (λ x. Leaves s x (λ d. IsSettled d w)) (sym none.1) (read_leaves s old w was current_name answer))
  start_stopped f new (inr (inr (inr (answer, other, inr (inl (fault, r, kind)))))) = still_held s old w was (Start number bytes v) new ok (unnamed answer fault new r)
  start_stopped f new (inr (inr (inr (answer, other, inr (inr (fault, r, kind)))))) =
      plan_cut s (current_read answer old) w (read_leaves s old w was current_name answer) (Start number bytes v) fault new ok
      (refused_behind (unnamed_plan number bytes) (current_plan (temporary_name number)) fault (current_read answer old) new r)
