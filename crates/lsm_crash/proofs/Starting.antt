-- A new manifest, over whatever is known: durable with its name before `CURRENT` names it.
use Rattle.std.proofs.Common.{◌≡◌, ℕ, ◌<◌, ◌^◌, List, [], ◌∷◌, length, refl, sym, ◌∙◌, ap, subst, inl, inr, ◌⊎◌, true, false}
use Rattle.std.specs.Prelude.{Ok, Err}
use Rattle.lsm_codec.specs.Lists.{Has}
use Rattle.lsm_folder.specs.Calls.{Call, Answer, wrote, synced, folder_synced, renamed}
use Rattle.lsm_storage.specs.FileNames.{table_name, manifest_name, temporary_name, current_text}
use Rattle.lsm_storage.specs.Plans.{Step as Asked, start_plan, unnamed_plan}
use Rattle.lsm_crash.specs.Disk.{Disk, Step, Shows, SyncsFolder, Renames}
use Rattle.lsm_crash.specs.Versions.{AreThere, Version}
use Rattle.lsm_crash.specs.Known.{Is, IsHeld, IsSettled, IsSound, Known, NamesOne, Stands, Tells, current_name, known_of}
use Rattle.lsm_crash.specs.Operations.{MayStart, started, starting}
use Rattle.lsm_crash.specs.Among.{Avoids, DoneAmong, CutAmong, IsAside, IsGap}
use Rattle.lsm_crash.proofs.Names.{manifest_current, manifests_apart, table_current, table_manifest, table_temporary, temporary_current, temporary_manifest}
use Rattle.lsm_crash.proofs.Disks.{step_sound}
use Rattle.lsm_crash.proofs.Standing.{At, at_renamed, at_shows, at_step, at_syncs, at_writes, holds_renamed, shows_step, stands_settled, stands_shows, stands_step, weaken}
use Rattle.lsm_crash.proofs.Held.{IsClear, all_stand_step, gap_keeps, held_aside, held_gap, held_step, held_wider, only, settled_gap, settled_held, stands_tells, tells_step}
use Rattle.lsm_crash.proofs.Tables.{clear_folder}

module _ (k : Known) (number : ℕ) (bytes : List ℕ) (v : Version) (ok : MayStart k number bytes v) where
  abbrev M : List ℕ
  M = manifest_name number

  abbrev T : List ℕ
  T = temporary_name number

  abbrev text : List ℕ
  text = current_text number

  abbrev l : Known
  l = starting k number v

  -- ---- calls on the new manifest's file, and on the one that becomes `CURRENT`

  other_manifest : (d : Disk) → IsHeld d k → (m : ℕ) → Has k.manifests m → M ≡ manifest_name m → ⊥
  other_manifest d i m h e = ok.other (subst (Has k.manifests) (sym (manifests_apart number m ok.small (i.small m h) e)) h)

  pub clear_m : (d : Disk) (c : Call) → IsHeld d k → ((q : List ℕ) → (M ≡ q → ⊥) → Avoids q c) → IsClear k.manifests k.tables c
  clear_m d c i avoids = record {
    current = avoids current_name (manifest_current number);
    its = λ m h. avoids (manifest_name m) (other_manifest d i m h);
    others = λ n image is. avoids (table_name n) (λ e. table_manifest n number (i.tables n image is).0 (sym e));
  }

  pub clear_t : (c : Call) → ((q : List ℕ) → (T ≡ q → ⊥) → Avoids q c) → IsClear k.manifests k.tables c
  clear_t c avoids = record {
    current = avoids current_name (temporary_current number);
    its = λ m h. avoids (manifest_name m) (temporary_manifest number m ok.small);
    others = λ n image is. avoids (table_name n) (λ e. table_temporary n number (sym e));
  }

  apart_t : T ≡ M → ⊥
  apart_t = temporary_manifest number number ok.small

  -- ---- the stages, each of which calls of other threads leave

  record IsBegun (d : Disk) (kept : ℕ) : Type 0 where
    pub held : IsHeld d k
    pub file : ℕ
    pub at : At d M file bytes kept

  record IsReady (d : Disk) : Type 0 where
    pub held : IsHeld d k
    pub new : Stands d M bytes

  record IsTexted (d : Disk) (kept : ℕ) : Type 0 where
    pub ready : IsReady d
    pub file : ℕ
    pub at : At d T file text kept

  -- `CURRENT` has its new text, and that may be lost
  record IsTurned (d : Disk) : Type 0 where
    pub held : IsHeld d l
    pub new : Stands d M bytes
    pub file : ℕ
    pub at : At d current_name file text (length text)

  begun_gap : (kept : ℕ) (d e : Disk) → IsGap k.tables d e → IsBegun d kept → IsBegun e kept
  begun_gap kept d e g b = gap_keeps k.tables (λ x. IsBegun x kept)
      (λ x y c o h j. record { held = held_aside x y k c o h j.held; file = j.file; at = at_step x y c M j.file bytes kept j.held.sound (o.manifests number ok.small) h j.at }) g.0 d e g.1 b

  ready_aside : (d e : Disk) (c : Call) → IsAside k.tables c → Step d c e → IsReady d → IsReady e
  ready_aside d e c o h j = record { held = held_aside d e k c o h j.held; new = stands_step d e c M bytes j.held.sound (o.manifests number ok.small) h j.new }

  ready_gap : (d e : Disk) → IsGap k.tables d e → IsReady d → IsReady e
  ready_gap d e g b = gap_keeps k.tables IsReady ready_aside g.0 d e g.1 b

  texted_gap : (kept : ℕ) (d e : Disk) → IsGap k.tables d e → IsTexted d kept → IsTexted e kept
  texted_gap kept d e g b = gap_keeps k.tables (λ x. IsTexted x kept)
      (λ x y c o h j. record { ready = ready_aside x y c o h j.ready; file = j.file; at = at_step x y c T j.file text kept j.ready.held.sound (o.temporaries number ok.small) h j.at }) g.0 d e g.1 b

  turned_gap : (d e : Disk) → IsGap k.tables d e → IsTurned d → IsTurned e
  turned_gap d e g b = gap_keeps k.tables IsTurned
      (λ x y c o h j. record {
        held = held_aside x y l c o h j.held;
        new = stands_step x y c M bytes j.held.sound (o.manifests number ok.small) h j.new;
        file = j.file;
        at = at_step x y c current_name j.file text (length text) j.held.sound o.current h j.at;
      }) g.0 d e g.1 b

  -- ---- call by call

  one : (d e : Disk) → IsHeld d k → Step d (wrote M bytes (Ok tt)) e → IsBegun e 0
  one d e i h = (let a = at_writes d e M bytes h in record { held = held_step d e k (wrote M bytes (Ok tt)) (clear_m d (wrote M bytes (Ok tt)) i (λ q x. x)) h i; file = a.0; at = a.1 })

  two : (d e : Disk) → IsBegun d 0 → Step d (synced M (Ok tt)) e → IsBegun e (length bytes)
  two d e b h = record { held = held_step d e k (synced M (Ok tt)) (clear_m d (synced M (Ok tt)) b.held (λ q x. x)) h b.held; file = b.file; at = at_syncs d e M b.file bytes 0 b.at h }

  three : (d e : Disk) → IsBegun d (length bytes) → Step d (folder_synced (Ok tt)) e → IsReady e
  three d e b h = record {
    held = held_step d e k (folder_synced (Ok tt)) (clear_folder k.manifests k.tables (Ok tt)) h b.held;
    new = stands_settled d e M b.file bytes b.held.sound b.at h;
  }

  four : (d e : Disk) → IsReady d → Step d (wrote T text (Ok tt)) e → IsTexted e 0
  four d e r h = (let a = at_writes d e T text h in record {
    ready = record {
      held = held_step d e k (wrote T text (Ok tt)) (clear_t (wrote T text (Ok tt)) (λ q x. x)) h r.held;
      new = stands_step d e (wrote T text (Ok tt)) M bytes r.held.sound apart_t h r.new;
    };
    file = a.0;
    at = a.1;
  })

  five : (d e : Disk) → IsTexted d 0 → Step d (synced T (Ok tt)) e → IsTexted e (length text)
  five d e t h = record {
    ready = record {
      held = held_step d e k (synced T (Ok tt)) (clear_t (synced T (Ok tt)) (λ q x. x)) h t.ready.held;
      new = stands_step d e (synced T (Ok tt)) M bytes t.ready.held.sound apart_t h t.ready.new;
    };
    file = t.file;
    at = at_syncs d e T t.file text 0 t.at h;
  }

  -- the renaming is about other manifests than this
  renames_clear : (m : ℕ) (a : Answer) → Avoids (manifest_name m) (renamed T current_name a)
  renames_clear m a = (temporary_manifest number m ok.small, λ e. manifest_current m (sym e))

  named_more : (d e : Disk) (a : Answer) → IsSound d → Step d (renamed T current_name a) e → (i : ℕ) (b : List ℕ) (n : ℕ) → NamesOne k d i b n → NamesOne l e i b n
  named_more d e a s step i b n is = (
    is.0,
    is.1,
    inr is.2,
    is.3,
    weaken false (Tells k.versions) (Tells (v ∷ k.versions)) e (manifest_name is.1) (λ j c p t m le. (let x = t m le in (x.0, inr x.1, x.2)))
        (tells_step d e (renamed T current_name a) k.versions is.1 s (renames_clear is.1 a) step is.4),
  )

  six : (d e : Disk) (a : Answer) → IsTexted d (length text) → Step d (renamed T current_name a) e → Renames d T current_name e → IsTurned e
  six d e a t step h =
      let i = t.ready.held in
      let new = stands_step d e (renamed T current_name a) M bytes i.sound (renames_clear number a) step t.ready.new in
      let own : NamesOne l e t.file (d.bytes t.file) (d.kept t.file) = (
        t.at.kept_is ∙ sym (ap length t.at.bytes_are),
        number,
        inl refl,
        t.at.bytes_are,
        weaken false (Is new.0 bytes) (Tells (v ∷ k.versions)) e M (stands_tells (v ∷ k.versions) bytes v new.0 (inl refl) ok.comes) new.1,
      ) in
      record {
        held = record {
          sound = step_sound d e (renamed T current_name a) i.sound step;
          small = λ m at. elim at [ inl e ↦ subst (λ x. x < 2 ^ 64) e ok.small | inr r ↦ i.small m r ];
          current = holds_renamed k.may_miss (NamesOne l e) d e T current_name t.file text (length text) i.sound (temporary_current number) t.at own
              (weaken k.may_miss (NamesOne k d) (NamesOne l e) d current_name (named_more d e a i.sound step) i.current) h;
          tables = all_stand_step d e (renamed T current_name a) k.tables i.sound (λ n image is. (λ x. table_temporary n number (sym x), λ x. table_current n (sym x))) step i.tables;
          there = λ u at. elim at [ inl e ↦ subst (λ x. AreThere x k.tables) e ok.there | inr r ↦ i.there u r ];
        };
        new = new;
        file = t.file;
        at = at_renamed d e T current_name t.file text (length text) (temporary_current number) t.at h;
      }

  seven : (d e : Disk) → IsTurned d → SyncsFolder d e → IsSettled e (started k number bytes v)
  seven d e t h = record {
    sound = step_sound d e (folder_synced (Ok tt)) t.held.sound h;
    small = ok.small;
    current = stands_settled d e current_name t.file text t.held.sound t.at h;
    its = stands_step d e (folder_synced (Ok tt)) M bytes t.held.sound tt h t.new;
    comes = ok.comes;
    tables = all_stand_step d e (folder_synced (Ok tt)) k.tables t.held.sound (λ n image is. tt) h t.held.tables;
    there = ok.there;
  }

  -- ---- all calls were Ok

  pub start_done : (d e : Disk) → IsHeld d k → DoneAmong k.tables (start_plan number bytes) d e → IsSettled e (started k number bytes v)
  start_done d e i (m1, g1, (d1, h1, (m2, g2, (d2, h2, (m3, g3, (d3, h3, (m4, g4, (d4, h4, (m5, g5, (d5, h5, (m6, g6, (d6, h6, (m7, g7, (d7, h7, g8)))))))))))))) =
      let s1 = one m1 d1 (held_gap k d m1 g1 i) h1 in
      let s2 = two m2 d2 (begun_gap 0 d1 m2 g2 s1) h2 in
      let s3 = three m3 d3 (begun_gap (length bytes) d2 m3 g3 s2) h3 in
      let s4 = four m4 d4 (ready_gap d3 m4 g4 s3) h4 in
      let s5 = five m5 d5 (texted_gap 0 d4 m5 g5 s4) h5 in
      let s6 = six m6 d6 (Ok tt) (texted_gap (length text) d5 m6 g6 s5) h6 h6 in
      settled_gap (started k number bytes v) d7 e g8 (seven m7 d7 (turned_gap d6 m7 g7 s6) h7)

  -- ---- cut anywhere, or refused

  -- all is as it was before; or `CURRENT` has its new text, which may be lost
  abbrev Either : Disk → Type 0
  Either e = IsHeld e k ⊎ (IsHeld e l × Shows e current_name text)

  either_at : (d e : Disk) → e ≡ d → Either d → Either e
  either_at d e same = subst Either (sym same)

  shows_gap : (d e : Disk) → IsGap k.tables d e → IsSound d → Shows d current_name text → Shows e current_name text
  shows_gap d e g s shown = (gap_keeps k.tables (λ x. IsSound x × Shows x current_name text)
      (λ a b c o h p. (step_sound a b c p.0 h, shows_step a b c current_name text p.0 o.current h p.1)) g.0 d e g.1 (s, shown)).1

  either_gap : (d e : Disk) → IsGap k.tables d e → Either d → Either e
  either_gap d e g (inl same) = inl (held_gap k d e g same)
  either_gap d e g (inr turned) = inr (held_gap l d e g turned.0, shows_gap d e g turned.0.sound turned.1)

  turned_either : (d : Disk) → IsTurned d → Either d
  turned_either d t = inr (t.held, at_shows d current_name t.file text (length text) t.at)

  pub started_either : (d : Disk) → ((m : ℕ) → Has k.manifests m → m < 2 ^ 64)
      → ((u : Version) → Has k.versions u → AreThere u k.tables)
      → IsSettled d (started k number bytes v) → Either d
  started_either d small there i = inr (
    held_wider d (known_of (started k number bytes v)) l record {
      may_miss = λ e. absurd (let f : false ≡ true = e in cc);
      manifests = only number (Has (number ∷ k.manifests)) (inl refl);
      small = λ m at. elim at [ inl e ↦ subst (λ x. x < 2 ^ 64) e ok.small | inr r ↦ small m r ];
      versions = only v (Has (v ∷ k.versions)) (inl refl);
      tables = λ n image is. is;
      there = λ u at. elim at [ inl e ↦ subst (λ x. AreThere x k.tables) e ok.there | inr r ↦ there u r ];
    } (settled_held d (started k number bytes v) i),
    stands_shows d current_name text i.sound i.current,
  )

  last_call : (d e : Disk) → ((m : ℕ) → Has k.manifests m → m < 2 ^ 64) → ((u : Version) → Has k.versions u → AreThere u k.tables) → IsTurned d → CutAmong k.tables (folder_synced ∷ []) d e → Either e
  last_call d e small there t (m, g, inl same) = either_at m e same (turned_either m (turned_gap d m g t))
  last_call d e small there t (m, g, inr (inl r)) = either_gap r.1 e r.3 (elim r.2 [
    | inl same ↦ either_at m r.1 same (turned_either m (turned_gap d m g t))
    | inr h ↦ started_either r.1 small there (seven m r.1 (turned_gap d m g t) h)
  ])
  last_call d e small there t (m, g, inr (inr r)) =
      started_either e small there
      (settled_gap (started k number bytes v) r.0 e r.2 (seven m r.0 (turned_gap d m g t) r.1))

  rename_call : (d e : Disk) → IsTexted d (length text) → CutAmong k.tables (renamed T current_name ∷ folder_synced ∷ []) d e → Either e
  rename_call d e t (m, g, inl same) = either_at m e same (inl (texted_gap (length text) d m g t).ready.held)
  rename_call d e t (m, g, inr (inl r)) = (let x = texted_gap (length text) d m g t in either_gap r.1 e r.3 (elim r.2 [
    | inl same ↦ either_at m r.1 same (inl x.ready.held)
    | inr h ↦ turned_either r.1 (six m r.1 (Err r.0) x r.2 h)
  ]))
  rename_call d e t (m, g, inr (inr r)) =
      let x = texted_gap (length text) d m g t in
      last_call r.0 e x.ready.held.small x.ready.held.there (six m r.0 (Ok tt) x r.1 r.1) r.2

  -- a call of the first five: where the plan is cut in it, or before it, all is as it was before
  go_on : (Good : Disk → Type 0) → ((x : Disk) → IsHeld x k → Good x) → (s : Asked) (ss : List Asked) (P : Disk → Type 0) (d e : Disk) → ((x : Disk) (a : Answer) → IsHeld x k → IsClear k.manifests k.tables (s a))
      → ((a b : Disk) → IsGap k.tables a b → P a → P b) → ((a : Disk) → P a → IsHeld a k) → P d
      → ((m mid : Disk) → P m → Step m (s (Ok tt)) mid → CutAmong k.tables ss mid e → Good e) → CutAmong k.tables (s ∷ ss) d e → Good e
  go_on Good good s ss P d e c keep held p next (m, g, inl same) = subst Good (sym same) (good m (held m (keep d m g p)))
  go_on Good good s ss P d e c keep held p next (m, g, inr (inl r)) = (let i = held m (keep d m g p) in good e (held_gap k r.1 e r.3 (held_step m r.1 k (s (Err r.0)) (c m (Err r.0) i) r.2 i)))
  go_on Good good s ss P d e c keep held p next (m, g, inr (inr r)) = next m r.0 (keep d m g p) r.1 r.2

  -- what is left of the plan before the renaming, and then
  front : (Good : Disk → Type 0) → ((x : Disk) → IsHeld x k → Good x) → (later : List Asked) (d e : Disk) → IsHeld d k
      → ((x : Disk) → IsTexted x (length text) → CutAmong k.tables later x e → Good e)
      → CutAmong k.tables (wrote M bytes ∷ synced M ∷ folder_synced ∷ wrote T text ∷ synced T ∷ later) d e → Good e
  front Good good later d e i next =
      go_on Good good (wrote M bytes) (synced M ∷ folder_synced ∷ wrote T text ∷ synced T ∷ later) (λ x. IsHeld x k) d e (λ x a j. clear_m x (wrote M bytes a) j (λ q y. y)) (λ a b g p. held_gap k a b g p) (λ a p. p) i (λ m1 d1 p1 h1.
      go_on Good good (synced M) (folder_synced ∷ wrote T text ∷ synced T ∷ later) (λ x. IsBegun x 0) d1 e (λ x a j. clear_m x (synced M a) j (λ q y. y)) (begun_gap 0) (λ a p. p.held) (one m1 d1 p1 h1) (λ m2 d2 p2 h2.
      go_on Good good folder_synced (wrote T text ∷ synced T ∷ later) (λ x. IsBegun x (length bytes)) d2 e (λ x a j. clear_folder k.manifests k.tables a) (begun_gap (length bytes)) (λ a p. p.held) (two m2 d2 p2 h2) (λ m3 d3 p3 h3.
      go_on Good good (wrote T text) (synced T ∷ later) IsReady d3 e (λ x a j. clear_t (wrote T text a) (λ q y. y)) ready_gap (λ a p. p.held) (three m3 d3 p3 h3) (λ m4 d4 p4 h4.
      go_on Good good (synced T) later (λ x. IsTexted x 0) d4 e (λ x a j. clear_t (synced T a) (λ q y. y)) (texted_gap 0) (λ a p. p.ready.held) (four m4 d4 p4 h4) (λ m5 d5 p5 h5.
      next d5 (five m5 d5 p5 h5))))))

  pub start_cut : (d e : Disk) → IsHeld d k → CutAmong k.tables (start_plan number bytes) d e → Either e
  start_cut d e i = front Either (λ x h. inl h) (renamed T current_name ∷ folder_synced ∷ []) d e i (λ x t. rename_call x e t)

  -- refused before `CURRENT` was given its new text: all is as it was
  pub start_fails : (d e : Disk) → IsHeld d k → CutAmong k.tables (unnamed_plan number bytes) d e → IsHeld e k
  start_fails d e i = front (λ x. IsHeld x k) (λ x h. h) [] d e i (λ x t g. (texted_gap (length text) x e g t).ready.held)
