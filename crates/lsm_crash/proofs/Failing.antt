-- Calls of a database that are refused: what their shelf was asked for, and what is left.
use Rattle.std.proofs.Common.{◌≡◌, ℕ, suc, ◌+◌, ◌<◌, ◌^◌, Bool, true, false, List, [], ◌∷◌, ◌++◌, length, map, refl, sym, ◌∙◌, ap, subst, inl, inr, ◌⊎◌, arith, Some}
use Rattle.std.specs.Prelude.{◌==◌, ◌↔◌, not, if◌then◌else◌}
use Rattle.std.proofs.lemmas.Bool.{eq-eqb}
use Rattle.atomic_table.specs.Seated.{TableId}
use Rattle.lsm_codec.specs.Lists.{Has}
use Rattle.lsm_codec.proofs.CallerLemmas.{any_at, filter_has, has_cases, has_left, has_right}
use Rattle.lsm_folder.specs.Calls.{Call, synced, wrote}
use Rattle.lsm_storage.specs.FileNames.{current_text, manifest_name, table_name, temporary_name}
use Rattle.lsm_storage.specs.Plans.{unnamed_plan}
use Rattle.lsm_shelf.specs.Told.{Told}
use Rattle.lsm_shelf.specs.Asked.{Asked, AppendManifest, Put as PutTable, Remove as RemoveTable}
use Rattle.lsm_table.specs.Registry.{Table}
use Rattle.lsm_version.specs.Versions.{Levels, level_in}
use Rattle.lsm_batch.specs.declared.write.Write.{Write}
use Rattle.lsm_journal.specs.HeldManifest.{is_at_limit}
use Rattle.lsm_journal.specs.Difference.{Difference, changed_by}
use Rattle.lsm_journal.specs.Sending.{started_by}
use Rattle.lsm_journal.specs.Writing.{change_edit, record_of, version_edit}
use Rattle.lsm_merge.specs.Outputs.{going}
use Rattle.lsm_merge.specs.Work.{Done}
use Rattle.lsm_slots.specs.Slots.{current_slot}
use Rattle.lsm_state.specs.Asked.{changes_by}
use Rattle.lsm_state.specs.Collecting.{IsKeptNumber, StoppedEarly, is_in, outside}
use Rattle.lsm_state.specs.Held.{Held}
use Rattle.lsm_state.specs.Ingesting.{HasNumbers, IsIngestRefusal, IsWelcome, coming_in, last_of, table_bytes_of}
use Rattle.lsm_state.specs.declared.ingest.Ingested.{Ingested}
use Rattle.lsm_state.specs.declared.state_fault.StateFault.{StateFault}
use Rattle.lsm_state.proofs.CallerLemmas.{ingest_refused_made}
use Rattle.lsm_crash.specs.Disk.{Disk}
use Rattle.lsm_crash.specs.Versions.{ComesTo, Version}
use Rattle.lsm_crash.specs.Known.{IsSettled, World, current_name}
use Rattle.lsm_crash.specs.Operations.{Allows, Put, Remove, after}
use Rattle.lsm_crash.specs.Among.{Avoids}
use Rattle.lsm_crash.specs.States.{Describes, HasTables, IsWorldOf}
use Rattle.lsm_crash.specs.Database.{AllFail, Collect, Gather, HasMade, Ingest, Install, IsNextOfGather, IsNextOfIngest, IsState, Refuses, Stays, operations}
use Rattle.lsm_crash.proofs.Names.{manifest_current, manifests_apart, table_manifest, table_temporary, temporary_current, temporary_manifest}
use Rattle.lsm_crash.proofs.Held.{IsClear, settled_gap}
use Rattle.lsm_crash.proofs.Tables.{clear_folder, set_cases}
use Rattle.lsm_crash.proofs.Runs.{AllClear, clear_cut, done_settled, fails_settled}
use Rattle.lsm_crash.proofs.Forms.{named_table, recorded_describes}
use Rattle.lsm_crash.proofs.Refusals.{change_spent, collect_stays, gather_made_err, gather_stays, ingest_stays, install_stays, put_spent}
use Rattle.lsm_crash.proofs.Asking.{only_going}
use Rattle.lsm_crash.proofs.Worlds.{AreOut, Fewer, fewer_more, fewer_one, fewer_same, has_file, none_or, not_both, stays_world}

-- ---- the write of a manifest, refused so that the state goes on, changes nothing that is counted on

module _ (w : World) (number : ℕ) (bytes : List ℕ) (small : number < 2 ^ 64) (other : number ≡ w.manifest → ⊥) where
  clear_m : (d : Disk) (c : Call) → IsSettled d w → ((q : List ℕ) → (manifest_name number ≡ q → ⊥) → Avoids q c) → IsClear (w.manifest ∷ []) w.tables c
  clear_m d c i avoids = record {
    current = avoids current_name (manifest_current number);
    its = λ m h. elim h [
      | inl e ↦ subst (λ n. Avoids (manifest_name n) c) e (avoids (manifest_name w.manifest) (λ same. other (manifests_apart number w.manifest small i.small same)))
      | inr none ↦ absurd none
    ];
    others = λ n image is. avoids (table_name n) (λ e. table_manifest n number (i.tables n image is).0 (sym e));
  }

  clear_t : (c : Call) → ((q : List ℕ) → (temporary_name number ≡ q → ⊥) → Avoids q c) → IsClear (w.manifest ∷ []) w.tables c
  clear_t c avoids = record {
    current = avoids current_name (temporary_current number);
    its = λ m h. avoids (manifest_name m) (temporary_manifest number m small);
    others = λ n image is. avoids (table_name n) (λ e. table_temporary n number (sym e));
  }

  unnamed_clear : AllClear w (unnamed_plan number bytes)
  unnamed_clear = (
    λ d a i. clear_m d (wrote (manifest_name number) bytes a) i (λ q x. x),
    (
      λ d a i. clear_m d (synced (manifest_name number) a) i (λ q x. x),
      (
        λ d a i. clear_folder (w.manifest ∷ []) w.tables a,
        (λ d a i. clear_t (wrote (temporary_name number) (current_text number) a) (λ q x. x), (λ d a i. clear_t (synced (temporary_name number) a) (λ q x. x), tt)),
      ),
    ),
  )

-- nothing was refused
none_fails : (w u : World) (d e : Disk) → IsSettled d w → AllFail w [] [] u d e → IsSettled e u × (u ≡ w)
none_fails w u d e i h = (subst (λ x. IsSettled e x) (sym h.0) (settled_gap w d e h.1 i), h.0)

module _ (h : Held) (c : Difference) (v : Version) (w u : World) (d e : Disk) (i : IsSettled d w) (number : w.manifest ≡ h.journal.number) (own : h.journal.number < h.next) (small : h.next < 2 ^ 64) where
  abbrev W : Levels
  W = changed_by c h.slots.version

  fails_at : (b : Bool) → AllFail w [] (operations v ((if b then started_by W h.next h.journal else AppendManifest (record_of h.journal.bytes (change_edit h.journal c h.next))) ∷ [])) u d e → IsSettled e u × (u ≡ w)
  fails_at true f =
      let bytes = record_of [] (version_edit h.journal W (h.next + 1)) in
      let kept = clear_cut w (unnamed_plan h.next bytes) d e (unnamed_clear w h.next bytes small (λ same. absurd (omega arith))) i f.0 in
      (subst (λ x. IsSettled e x) (sym f.1) kept, f.1)
  fails_at false f = (let m = f.0 in elim m.2 [
    | inl same ↦ (subst (λ x. IsSettled e x) (sym f.1) (subst (λ x. IsSettled x w) (sym same) (settled_gap w d m.0 m.1 i)), f.1)
    | inr acted ↦ absurd (acted.0 refl)
  ])

  change_fails : AllFail w [] (operations v (changes_by h c ∷ [])) u d e → IsSettled e u × (u ≡ w)
  change_fails f = fails_at (is_at_limit h.journal) f

-- ---- an ingest

no_more : (x : Asked) (l : List Asked) → l ≡ x ∷ l → ⊥
no_more x l e = absurd (let n : length l ≡ suc (length l) = ap length e in omega arith)

-- where the table was put, its number is spent, and nothing stood against the batch
put_is_spent : (old new : Held) (ws : List Write) (e : StateFault) (was is : Told) (x : Asked) → IsIngestRefusal old new ws e was is → new.halted ≡ false → is.made ≡ x ∷ was.made → IsWelcome old ws × (old.next < new.next)
put_is_spent old new ws e was is x (inl r) going made = absurd (no_more x was.made (sym (ap (λ (t : Told). t.made) r.2) ∙ made))
put_is_spent old new ws e was is x (inr (w, inl r)) going made = absurd (no_more x was.made (sym (ap (λ (t : Told). t.made) r.3) ∙ made))
put_is_spent old new ws e was is x (inr (w, inr (sought, slot, inl r))) going made = absurd (no_more x was.made (sym (ap (λ (t : Told). t.made) r.2) ∙ made))
put_is_spent old new ws e was is x (inr (w, inr (sought, slot, inr (inl r)))) going made = (w, put_spent old new ws e was is r)
put_is_spent old new ws e was is x (inr (w, inr (sought, slot, inr (inr r)))) going made = (w, change_spent old new ws e was is w sought.looked.version r going)

needs_one : (b : Bool) → 1 < (if b then 2 else 1) + 1
needs_one true = omega arith
needs_one false = omega arith

-- a table was put, or is being put, under the next number
module _ (old new : Held) (w u : World) (d e : Disk) (o : IsWorldOf old w) (i : IsSettled d w) (image : List ℕ) where
  abbrev P : Asked
  P = PutTable old.next image

  put_may : Allows w (Put old.next image)
  put_may = ((let a = o.fits in omega arith), none_or (w.tables old.next) (λ bytes k. (let lt = o.below old.next bytes k in omega arith)))

  abbrev x : World
  x = after w (Put old.next image)

  -- nothing was put, and the put was refused
  put_refused : AllFail w [] (Put old.next image ∷ []) u d e → IsSettled e u × (u ≡ w)
  put_refused f = (subst (λ y. IsSettled e y) (sym f.1) (fails_settled d e w (Put old.next image) i put_may f.0), f.1)

  -- it was put, and the write of the manifest was refused, or nothing
  one_made : (next : List Asked) → HasNumbers old → (next ≡ []) ⊎ ((c : Difference) × (next ≡ changes_by (record old { next = suc old.next }) c ∷ []))
      → AllFail w (Put old.next image ∷ []) (operations w.version next) u d e → IsSettled e u × (u ≡ x)
  one_made next numbers n (mid, done, h) =
      let j = done_settled d mid w (Put old.next image) i put_may done in
      elim n [
        | inl none ↦ none_fails x u mid e j (subst (λ xs. AllFail x [] (operations w.version xs) u mid e) none h)
        | inr (c, is) ↦ change_fails (record old { next = suc old.next }) c w.version x u mid e j o.manifest (let a = o.own in omega arith)
            (let b = needs_one (is_at_limit old.journal) in omega arith) (subst (λ xs. AllFail x [] (operations w.version xs) u mid e) is h)
      ]

  old_has : HasTables x.tables old.slots.version
  old_has level t k = elim (set_cases w.tables old.next (Some image) t.number) [
    | inl same ↦ (let lt = o.below t.number t.image (o.tables level t k) in let is = same.0 in absurd (omega arith))
    | inr same ↦ same.1 ∙ o.tables level t k
  ]

  x_below : (n : ℕ) (bytes : List ℕ) → x.tables n ≡ Some bytes → n < suc old.next
  x_below n bytes k = elim (set_cases w.tables old.next (Some image) n) [
    | inl same ↦ (let is = same.0 in omega arith)
    | inr same ↦ (let lt = o.below n bytes (sym same.1 ∙ k) in omega arith)
  ]

  same_stands : Stays old new → u ≡ w → IsWorldOf new u
  same_stands s is = subst (λ y. IsWorldOf new y) (sym is) (stays_world old new w s o.manifest o.bytes o.tables (λ n bytes k. (let lt = o.below n bytes k in let le = s.next in omega arith)) o.own)

  put_stands : Stays old new → old.next < new.next → u ≡ x → IsWorldOf new u
  put_stands s spent is = subst (λ y. IsWorldOf new y) (sym is) (stays_world old new x s o.manifest o.bytes old_has (λ n bytes k. (let lt = x_below n bytes k in omega arith)) o.own)

module _ (honest : Type 0) (old new : Held) (w u : World) (d e : Disk) (o : IsWorldOf old w) (i : IsSettled d w) where
  pub ingest_fails : (ws : List Write) (r : Ingested) (asks next : List Asked) → Refuses honest old new (Ingest ws r) asks next → new.halted ≡ false → AllFail w (operations w.version asks) (operations w.version next) u d e → IsSettled e u × IsWorldOf new u
  ingest_fails ws r asks next (fault, was, is, refused, made, n) going h =
      let image = table_bytes_of old ws in
      let s = ingest_stays old new ws fault was is refused o.fits going in
      elim (ingest_refused_made old new ws fault was is refused) [
        | inl none ↦ (
            let are : asks ≡ [] = only_going asks [] was is made none in
            let g = subst (λ xs. AllFail w (operations w.version xs) (operations w.version next) u d e) are h in
            let f : IsSettled e u × (u ≡ w) = elim (subst (λ xs. IsNextOfIngest old ws xs next) are n) [
              | inl nothing ↦ none_fails w u d e i (subst (λ xs. AllFail w [] (operations w.version xs) u d e) nothing g)
              | inr (why, put) ↦ put_refused old new w u d e o i image (subst (λ xs. AllFail w [] (operations w.version xs) u d e) put g)
            ] in
            (f.0, same_stands old new w u d e o i image s f.1)
            )
        | inr put ↦ (
            let are : asks ≡ PutTable old.next image ∷ [] = only_going asks (PutTable old.next image ∷ []) was is made put in
            let spent = put_is_spent old new ws fault was is (PutTable old.next image) refused going put in
            let after_put : (next ≡ []) ⊎ ((c : Difference) × (next ≡ changes_by (record old { next = suc old.next }) c ∷ [])) = elim (subst (λ xs. IsNextOfIngest old ws xs next) are n) [
              | inl nothing ↦ inl nothing
              | inr (why, (t, written)) ↦ inr (coming_in t (last_of old ws), written)
            ] in
            let f = one_made old new w u d e o i image next spent.0.numbers after_put (subst (λ xs. AllFail w (operations w.version xs) (operations w.version next) u d e) are h) in
            (f.0, put_stands old new w u d e o i image s spent.1 f.1)
            )
      ]

  -- ---- a gather

  pub gather_fails : (number : ℕ) (asks next : List Asked) → Refuses honest old new (Gather number) asks next → new.halted ≡ false → AllFail w (operations w.version asks) (operations w.version next) u d e → IsSettled e u × IsWorldOf new u
  gather_fails number asks next (fault, was, is, refused, made, n) going h =
      let s = gather_stays honest old new fault was is refused o.fits going in
      elim (gather_made_err honest old new fault was is refused) [
        | inl none ↦ (
            let are : asks ≡ [] = only_going asks [] was is made none in
            let g = subst (λ xs. AllFail w (operations w.version xs) (operations w.version next) u d e) are h in
            let f : IsSettled e u × (u ≡ w) = elim (subst (λ xs. IsNextOfGather old xs next) are n) [
              | inl nothing ↦ none_fails w u d e i (subst (λ xs. AllFail w [] (operations w.version xs) u d e) nothing g)
              | inr (why, inl reads) ↦ none_fails w u d e i (subst (λ os. AllFail w [] os u d e) (reads w.version) g)
              | inr (why, inr (image, put)) ↦ put_refused old new w u d e o i image (subst (λ xs. AllFail w [] (operations w.version xs) u d e) put g)
            ] in
            (f.0, same_stands old new w u d e o i [] s f.1)
            )
        | inr p ↦ (
            let are : asks ≡ PutTable old.next p.image ∷ [] = only_going asks (PutTable old.next p.image ∷ []) was is made p.made in
            let after_put : (next ≡ []) ⊎ ((c : Difference) × (next ≡ changes_by (record old { next = suc old.next }) c ∷ [])) = elim (subst (λ xs. IsNextOfGather old xs next) are n) [
              | inl nothing ↦ inl nothing
              | inr (why, (c, written)) ↦ inr (c, written)
            ] in
            let f = one_made old new w u d e o i p.image next p.numbers after_put (subst (λ xs. AllFail w (operations w.version xs) (operations w.version next) u d e) are h) in
            (f.0, put_stands old new w u d e o i p.image s (p.spent going) f.1)
            )
      ]

  -- ---- an install

  pub install_fails : (done : Done) (asks next : List Asked) → Refuses honest old new (Install done) asks next → new.halted ≡ false → AllFail w (operations w.version asks) (operations w.version next) u d e → IsSettled e u × IsWorldOf new u
  install_fails done asks next (fault, was, is, refused, told, made, n) going h =
      let s = install_stays old new done fault was is refused o.fits going in
      let are : asks ≡ [] = only_going asks [] was is made told.made in
      let g = subst (λ xs. AllFail w (operations w.version xs) (operations w.version next) u d e) are h in
      let f : IsSettled e u × (u ≡ w) = elim n [
        | inl none ↦ none_fails w u d e i (subst (λ xs. AllFail w [] (operations w.version xs) u d e) none g)
        | inr (why, (change, its, asked)) ↦ change_fails old change w.version w u d e i o.manifest o.own o.fits (subst (λ xs. AllFail w [] (operations w.version xs) u d e) asked g)
      ] in
      (f.0, same_stands old new w u d e o i [] s f.1)

-- ---- a collect

kept_free : (h : Held) (kept listed : List ℕ) → ((n : ℕ) → Has kept n ↔ IsKeptNumber h n) → (n : ℕ) → Has (outside kept listed) n → IsKeptNumber h n → ⊥
kept_free h kept listed are n out k = not_both (is_in kept n) (filter_has (λ m. not (is_in kept m)) listed n out).1 (any_at (λ m. m == n) kept n ((are n).1 k) (eq-eqb n n refl))

-- the numbers whose removal was asked for are of none that is kept
record HasAsked (h : Held) (was is : Told) : Type 0 where
  pub numbers : List ℕ
  pub made : is.made ≡ going (map RemoveTable numbers) was.made
  pub free : (n : ℕ) → Has numbers n → IsKeptNumber h n → ⊥

early_asked : (h : Held) (removed : List ℕ) (was is : Told) → StoppedEarly h removed was is → HasAsked h was is
early_asked h removed was is (inl r) = record { numbers = []; made = r.1.made; free = λ n k. absurd k }
early_asked h removed was is (inr (listed, kept, are, s)) = elim s.asked [
  | inl told ↦ record {
    numbers = removed;
    made = told.made;
    free = λ n k. kept_free h kept listed are n (subst (λ ns. Has ns n) (sym s.parts) (has_left removed s.back n k));
  }
  | inr (one, rest, back, told) ↦ record {
    numbers = removed ++ one ∷ [];
    made = told.made;
    free = λ n k. kept_free h kept listed are n (subst (λ ns. Has ns n) (sym s.parts) (elim (has_cases removed (one ∷ []) n k) [
      | inl front ↦ has_left removed s.back n front
      | inr last ↦ has_right removed s.back n (subst (λ ns. Has ns n) (sym back) (elim last [ inl same ↦ inl same | inr none ↦ absurd none ]))
    ]));
  }
]

-- a front of removals
front_of_removals : (asks next : List Asked) (ms : List ℕ) → asks ++ next ≡ map RemoveTable ms → (ns : List ℕ) × (asks ≡ map RemoveTable ns) × ((n : ℕ) → Has ns n → Has ms n)
front_of_removals [] next ms e = ([], refl, λ n k. absurd k)
front_of_removals (ask ∷ asks) next [] e = absurd (let n = ap length e in omega arith)
front_of_removals (ask ∷ asks) next (m ∷ ms) e =
    let h = both ask (RemoveTable m) (asks ++ next) (map RemoveTable ms) e in
    let r = front_of_removals asks next ms h.1 in
    (m ∷ r.0, ap (λ a. a ∷ asks) h.0 ∙ ap (λ l. RemoveTable m ∷ l) r.1, λ n k. elim k [ inl same ↦ inl same | inr later ↦ inr (r.2 n later) ])
  where
    both : (x y : Asked) (l k : List Asked) → x ∷ l ≡ y ∷ k → (x ≡ y) × (l ≡ k)
    both x y l k e = (cc, cc)

removes_fail : (v : Version) (ns ms : List ℕ) (w u : World) (d e : Disk) → IsSettled d w → AreOut w (ns ++ ms) → AllFail w (operations v (map RemoveTable ns)) (operations v (map RemoveTable ms)) u d e → IsSettled e u × Fewer w u (ns ++ ms)
removes_fail v [] [] w u d e i out h = (let f = none_fails w u d e i h in (f.0, subst (λ x. Fewer w x []) (sym f.1) (fewer_same w [])))
removes_fail v [] (m ∷ ms) w u d e i out h =
    (subst (λ x. IsSettled e x) (sym h.1) (fails_settled d e w (Remove m) i (out m (inl refl)) h.0), subst (λ x. Fewer w x (m ∷ ms)) (sym h.1) (fewer_one w m ms))
removes_fail v (n ∷ ns) ms w u d e i out h =
    let r = removes_fail v ns ms (after w (Remove n)) u h.0 e (done_settled d h.0 w (Remove n) i (out n (inl refl)) h.1) (λ m k. out m (inr k)) h.2 in
    (r.0, fewer_more w (after w (Remove n)) u n (ns ++ ms) (fewer_one w n []) r.1)

module _ (honest : Type 0) (board : TableId) (old new : Held) (w u : World) (d e : Disk) (lo : IsState honest board old) (ln : IsState honest board new) (o : IsWorldOf old w) (i : IsSettled d w) (same : new.slots.version ≡ old.slots.version) where
  describes : Describes w.version old.slots.version
  describes = recorded_describes lo.0.journaled.0 old.journal old.slots.version old.next w.version lo.0.journaled.1 (subst (λ b. ComesTo b w.version) o.bytes i.comes)

  -- what is kept has the tables of the version
  kept_current : (level : ℕ) (t : Table) → Has (level_in old.slots.version.tables level) t → IsKeptNumber new t.number
  kept_current level t h =
      let file = has_file new.slots.version level t (subst (λ (v : Levels). Has (level_in v.tables level) t) (sym same) h) in
      inl (current_slot new.slots, record { id = new.slots.board.knows.id; version = new.slots.version; pins = ln.1.pins }, _, ln.1.current, file, refl)

  free_may : (n : ℕ) → n < 2 ^ 64 → (IsKeptNumber new n → ⊥) → Allows w (Remove n)
  free_may n small free = (
    small,
    λ named. (let t = named_table w.version old.slots.version n describes named in free (subst (λ m. IsKeptNumber new m) t.3 (kept_current t.0 t.1 t.2))),
  )

  removed_stand : Stays old new → (ns : List ℕ) → ((n : ℕ) → Has ns n → IsKeptNumber new n → ⊥) → Fewer w u ns → IsWorldOf new u
  removed_stand s ns free f = stays_world old new u s (f.manifest ∙ o.manifest) (f.bytes ∙ o.bytes) (λ level t k. f.more t.number t.image (o.tables level t k) (λ gone. free t.number gone (kept_current level t k)))
      (λ n image k. (let lt = o.below n image (f.less n image k) in let le = s.next in omega arith)) o.own

  -- these were removed, and of those one perhaps
  these_fail : Stays old new → (ns ms : List ℕ) (asks next : List Asked) → asks ≡ map RemoveTable ns → operations w.version next ≡ operations w.version (map RemoveTable ms) → ((n : ℕ) → Has (ns ++ ms) n → IsKeptNumber new n → ⊥)
      → ((n : ℕ) → Has (ns ++ ms) n → n < 2 ^ 64) → AllFail w (operations w.version asks) (operations w.version next) u d e → IsSettled e u × IsWorldOf new u
  these_fail s ns ms asks next are more free small h =
      let g = subst (λ os. AllFail w (operations w.version (map RemoveTable ns)) os u d e) more (subst (λ xs. AllFail w (operations w.version xs) (operations w.version next) u d e) are h) in
      let r = removes_fail w.version ns ms w u d e i (λ n k. free_may n (small n k) (free n k)) g in
      (r.0, removed_stand s (ns ++ ms) free r.1)

  removal_in : (ns : List ℕ) (n : ℕ) → Has ns n → Has (map RemoveTable ns) (RemoveTable n)
  removal_in [] n h = absurd h
  removal_in (m ∷ ns) n (inl e) = inl (ap RemoveTable e)
  removal_in (m ∷ ns) n (inr h) = inr (removal_in ns n h)

  collected : (removed : List ℕ) (asks next : List Asked) → Stays old new → (fault : StateFault) (was is : Told) → HasAsked new was is → HasMade asks was is ⊎ HasMade (asks ++ next) was is
      → ((n : ℕ) → Has (asks ++ next) (RemoveTable n) → n < 2 ^ 64) → Refuses honest old new (Collect removed) asks next → AllFail w (operations w.version asks) (operations w.version next) u d e → IsSettled e u × IsWorldOf new u
  collected removed asks next s fault was is a made small r h =
      let front : (ns : List ℕ) × (asks ≡ map RemoveTable ns) × ((n : ℕ) → Has ns n → Has a.numbers n) = elim made [
        | inl all ↦ (a.numbers, only_going asks (map RemoveTable a.numbers) was is all a.made, λ n k. k)
        | inr all ↦ front_of_removals asks next a.numbers (only_going (asks ++ next) (map RemoveTable a.numbers) was is all a.made)
      ] in
      let ns = front.0 in
      let out : (n : ℕ) → Has ns n → IsKeptNumber new n → ⊥ = λ n k. a.free n (front.2 n k) in
      let low : (n : ℕ) → Has ns n → n < 2 ^ 64 = λ n k. small n (has_left asks next (RemoveTable n) (subst (λ xs. Has xs (RemoveTable n)) (sym front.1) (removal_in ns n k))) in
      let alone : operations w.version next ≡ [] → IsSettled e u × IsWorldOf new u = λ none. these_fail s ns [] asks next front.1 none
      (λ n k. out n (elim (has_cases ns [] n k) [ inl x ↦ x | inr none ↦ absurd none ])) (λ n k. low n (elim (has_cases ns [] n k) [ inl x ↦ x | inr none ↦ absurd none ])) h in
      elim r.6 [
        | inl none ↦ alone (ap (operations w.version) none)
        | inr (why, inl listing) ↦ alone (ap (operations w.version) listing)
        | inr (why, inr (m, free, removal)) ↦ these_fail s ns (m ∷ []) asks next front.1 (ap (operations w.version) removal)
            (λ n k. elim (has_cases ns (m ∷ []) n k) [ inl x ↦ out n x | inr x ↦ elim x [ inl e ↦ subst (λ y. IsKeptNumber new y → ⊥) e free | inr none ↦ absurd none ] ])
            (λ n k. elim (has_cases ns (m ∷ []) n k) [
              | inl x ↦ low n x
              | inr x ↦ small n (has_right asks next (RemoveTable n) (subst (λ xs. Has xs (RemoveTable n)) (sym removal) (elim x [ inl e ↦ inl (ap RemoveTable e) | inr none ↦ absurd none ])))
            ]) h
      ]

pub collect_fails : (honest : Type 0) (board : TableId) (old new : Held) (w u : World) (d e : Disk) → IsState honest board old → IsState honest board new → IsWorldOf old w → IsSettled d w → (removed : List ℕ) (asks next : List Asked)
    → Refuses honest old new (Collect removed) asks next → new.halted ≡ false → AllFail w (operations w.version asks) (operations w.version next) u d e → IsSettled e u × IsWorldOf new u
collect_fails honest board old new w u d e lo ln o i removed asks next r going h = elim r.4 [
  | inl halted ↦ absurd (let t : true ≡ false = sym halted.1 ∙ (sym (ap (λ (x : Held). x.halted) halted.2) ∙ going) in cc)
  | inr early ↦ collected honest board old new w u d e lo ln o i early.1.looked.version removed asks next (collect_stays old new r.3 early.1 o.fits going) r.0 r.1 r.2 (early_asked new removed r.1 r.2 early.2) r.5 r.7 r h
]
