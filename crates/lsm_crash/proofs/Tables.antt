-- A table is put, or removed.
use Rattle.std.proofs.Common.{◌≡◌, ℕ, ◌<◌, ◌^◌, List, [], ◌∷◌, length, sym, ◌∙◌, ap, subst, inl, inr, ◌⊎◌, Some, None, cond, ◌==◌}
use Rattle.std.specs.Prelude.{Ok, Err}
use Rattle.std.proofs.lemmas.Bool.{cases_Bool, eqb-true, eq-eqb}
use Rattle.lsm_codec.specs.Lists.{Has}
use Rattle.lsm_folder.specs.Calls.{Call, Answer, made, synced, folder_synced, removed}
use Rattle.lsm_storage.specs.FileNames.{table_name, manifest_name}
use Rattle.lsm_storage.specs.Plans.{Step as Asked, put_plan, remove_plan}
use Rattle.lsm_crash.specs.Disk.{Disk, Step, set}
use Rattle.lsm_crash.specs.Versions.{AreThere, IsNamed, Tables}
use Rattle.lsm_crash.specs.Known.{IsHeld, IsSettled, IsSound, Stands, World, current_name, known_of}
use Rattle.lsm_crash.specs.Operations.{Allows, Put, Remove, Operation, after, either, sure}
use Rattle.lsm_crash.specs.Among.{Avoids, CutAmong, DoneAmong, IsAside, IsGap, Spares, counting}
use Rattle.lsm_crash.proofs.Names.{table_current, table_manifest, tables_apart}
use Rattle.lsm_crash.proofs.Disks.{set_at, step_sound}
use Rattle.lsm_crash.proofs.Standing.{At, at_makes, at_step, at_syncs, stands_settled}
use Rattle.lsm_crash.proofs.Held.{IsClear, gap_keeps, held_wider, only, settled_aside, settled_gap, settled_held, settled_step}
use Rattle.lsm_crash.proofs.Appending.{pair}

pub set_cases : {X : Type 0} (f : ℕ → X) (i : ℕ) (x : X) (j : ℕ) → ((j ≡ i) × (set f i x j ≡ x)) ⊎ ((j ≡ i → ⊥) × (set f i x j ≡ f j))
set_cases f i x j = elim (cases_Bool (j == i)) [
  | inl t ↦ inl (eqb-true j i t, ap (λ b. cond b x (f j)) t)
  | inr n ↦ inr ((λ e. absurd (let t = eq-eqb j i e in cc)), ap (λ b. cond b x (f j)) n)
]

none_is : (image : List ℕ) → None ≡ Some image → ⊥
none_is image e = cc

some_is : (a b : List ℕ) → Some a ≡ Some b → a ≡ b
some_is a b e = cc

-- a call on the table of a number that is not counted on
clear_table : (d : Disk) (w : World) (tables : Tables) (number : ℕ) (c : Call) → number < 2 ^ 64 → ((n : ℕ) (image : List ℕ) → tables n ≡ Some image → n < 2 ^ 64) → tables number ≡ None
    → ((q : List ℕ) → (table_name number ≡ q → ⊥) → Avoids q c) → IsClear (w.manifest ∷ []) tables c
clear_table d w tables number c small below none avoids = record {
  current = avoids current_name (table_current number);
  its = λ m h. avoids (manifest_name m) (table_manifest number m small);
  others = λ n image is. avoids (table_name n) (λ e. none_is image (sym none ∙ (ap tables (tables_apart number n small (below n image is) e) ∙ is)));
}

pub clear_folder : (manifests : List ℕ) (tables : Tables) (a : Answer) → IsClear manifests tables (folder_synced a)
clear_folder manifests tables a = record { current = tt; its = λ m h. tt; others = λ n image is. tt }

-- ---- a table more

-- one that stands is counted on
pub count_settled : (d : Disk) (w : World) (number : ℕ) (image : List ℕ) → number < 2 ^ 64 → Stands d (table_name number) image
    → IsSettled d w → IsSettled d (counting number image w)
count_settled d w number image small s i = record {
  sound = i.sound;
  small = i.small;
  current = i.current;
  its = i.its;
  comes = i.comes;
  tables = λ n img is. elim (set_cases w.tables number (Some image) n) [
    | inl h ↦ (
      subst (λ m. m < 2 ^ 64) (sym h.0) small,
      subst (λ x. Stands d (table_name n) x) (some_is image img (sym h.1 ∙ is)) (subst (λ m. Stands d (table_name m) image) (sym h.0) s),
    )
    | inr h ↦ i.tables n img (sym h.1 ∙ is)
  ];
  there = λ n named. elim (set_cases w.tables number (Some image) n) [
    | inl h ↦ (image, h.1)
    | inr h ↦ (let t = i.there n named in (t.0, h.1 ∙ t.1))
  ];
}

module _ (w : World) (number : ℕ) (image : List ℕ) (ok : Allows w (Put number image)) where
  abbrev Q : List ℕ
  Q = table_name number

  abbrev more : Tables
  more = (after w (Put number image)).tables

  -- a file begun under the table's name
  record IsBegun (d : Disk) (kept : ℕ) : Type 0 where
    pub settled : IsSettled d w
    pub file : ℕ
    pub at : At d Q file image kept

  -- what spares the new table too spares the others
  less : (c : Call) → IsAside more c → IsAside w.tables c
  less c a = record {
    current = a.current;
    manifests = a.manifests;
    temporaries = a.temporaries;
    others = λ n img is. elim (set_cases w.tables number (Some image) n) [
      | inl h ↦ absurd (none_is img (sym ok.1 ∙ (ap w.tables (sym h.0) ∙ is)))
      | inr h ↦ a.others n img (h.1 ∙ is)
    ];
  }

  settled_more : (d e : Disk) → IsGap more d e → IsSettled d w → IsSettled e w
  settled_more d e g i = gap_keeps more (λ x. IsSettled x w) (λ a b c o h j. settled_aside a b w c (less c o) h j) g.0 d e g.1 i

  begun_more : (kept : ℕ) (d e : Disk) → IsGap more d e → IsBegun d kept → IsBegun e kept
  begun_more kept d e g i = gap_keeps more (λ x. IsBegun x kept) (λ a b c o h j. record {
    settled = settled_aside a b w c (less c o) h j.settled;
    file = j.file;
    at = at_step a b c Q j.file image kept j.settled.sound (o.others number image (set_at w.tables number (Some image))) h j.at;
  }) g.0 d e g.1 i

  clear : (d : Disk) (c : Call) → IsSettled d w → ((q : List ℕ) → (Q ≡ q → ⊥) → Avoids q c) → IsClear (w.manifest ∷ []) w.tables c
  clear d c i avoids = clear_table d w w.tables number c ok.0 (λ n img is. (i.tables n img is).0) ok.1 avoids

  put_made : (d e : Disk) (a : Answer) → IsSettled d w → Step d (made Q image a) e → IsSettled e w
  put_made d e a i h = settled_step d e w (made Q image a) (clear d (made Q image a) i (λ q x. x)) h i

  put_synced : (d e : Disk) (a : Answer) → IsSettled d w → Step d (synced Q a) e → IsSettled e w
  put_synced d e a i h = settled_step d e w (synced Q a) (clear d (synced Q a) i (λ q x. x)) h i

  put_folder : (d e : Disk) (a : Answer) → IsSettled d w → Step d (folder_synced a) e → IsSettled e w
  put_folder d e a i h = settled_step d e w (folder_synced a) (clear_folder (w.manifest ∷ []) w.tables a) h i

  pub put_done : (d e : Disk) → IsSettled d w → DoneAmong more (put_plan number image) d e → IsSettled e (after w (Put number image))
  put_done d e i (m1, g1, (d1, h1, (m2, g2, (d2, h2, (m3, g3, (d3, h3, g4)))))) =
      let j1 = settled_more d m1 g1 i in
      let a1 = at_makes m1 d1 Q image h1 in
      let b1 : IsBegun d1 0 = record { settled = put_made m1 d1 (Ok tt) j1 h1; file = a1.0; at = a1.1 } in
      let b2 = begun_more 0 d1 m2 g2 b1 in
      let b3 : IsBegun d2 (length image) = record { settled = put_synced m2 d2 (Ok tt) b2.settled h2; file = b2.file; at = at_syncs m2 d2 Q b2.file image 0 b2.at h2 } in
      let b4 = begun_more (length image) d2 m3 g3 b3 in
      let s = stands_settled m3 d3 Q b4.file image b4.settled.sound b4.at h3 in
      settled_gap (after w (Put number image)) d3 e g4 (count_settled d3 w number image ok.0 s (put_folder m3 d3 (Ok tt) b4.settled h3))

  -- cut anywhere, or refused
  abbrev Kept : Tables → (s : Asked) → Type 0
  Kept tables s = (d e : Disk) (a : Answer) → IsSettled d w → Step d (s a) e → IsSettled e w

  cut_call : (tables : Tables) → ((d e : Disk) → IsGap tables d e → IsSettled d w → IsSettled e w) → (s : Asked) (ss : List Asked) (d e : Disk) → Kept tables s
      → ((mid : Disk) → IsSettled mid w → CutAmong tables ss mid e → IsSettled e w) → IsSettled d w → CutAmong tables (s ∷ ss) d e → IsSettled e w
  cut_call tables gap s ss d e keep next i (m, g, inl same) = subst (λ x. IsSettled x w) (sym same) (gap d m g i)
  cut_call tables gap s ss d e keep next i (m, g, inr (inl r)) = gap r.1 e r.3 (keep m r.1 (Err r.0) (gap d m g i) r.2)
  cut_call tables gap s ss d e keep next i (m, g, inr (inr r)) = next r.0 (keep m r.0 (Ok tt) (gap d m g i) r.1) r.2

  put_cut_by : (tables : Tables) → ((d e : Disk) → IsGap tables d e → IsSettled d w → IsSettled e w) → (d e : Disk) → IsSettled d w → CutAmong tables (put_plan number image) d e → IsSettled e w
  put_cut_by tables gap d e i =
      cut_call tables gap (made Q image) (synced Q ∷ folder_synced ∷ []) d e put_made (λ d1 i1. cut_call tables gap (synced Q) (folder_synced ∷ []) d1 e put_synced (λ d2 i2.
      cut_call tables gap folder_synced [] d2 e put_folder (λ d3 i3 g. gap d3 e g i3) i2) i1) i

  pub put_cut : (d e : Disk) → IsSettled d w → CutAmong more (put_plan number image) d e → IsSettled e w
  put_cut d e i h = put_cut_by more settled_more d e i h

  pub put_fails : (d e : Disk) → IsSettled d w → CutAmong w.tables (put_plan number image) d e → IsSettled e w
  put_fails d e i h = put_cut_by w.tables (λ a b g j. settled_gap w a b g j) d e i h

-- ---- a table less

module _ (w : World) (number : ℕ) (ok : Allows w (Remove number)) where
  abbrev u : World
  u = after w (Remove number)

  pub lessen : (d : Disk) → IsSettled d w → IsSettled d u
  lessen d i = record {
    sound = i.sound;
    small = i.small;
    current = i.current;
    its = i.its;
    comes = i.comes;
    tables = λ n img is. elim (set_cases w.tables number None n) [ inl h ↦ absurd (none_is img (sym h.1 ∙ is)) | inr h ↦ i.tables n img (sym h.1 ∙ is) ];
    there = λ n named. elim (set_cases w.tables number None n) [
      | inl h ↦ absurd (ok.1 (subst (λ m. IsNamed w.version m) h.0 named))
      | inr h ↦ (let t = i.there n named in (t.0, h.1 ∙ t.1))
    ];
  }

  remove_call : (d e : Disk) (a : Answer) → IsSettled d u → Step d (removed (table_name number) a) e → IsSettled e u
  remove_call d e a i h = settled_step d e u (removed (table_name number) a)
      (clear_table d u u.tables number (removed (table_name number) a) ok.0 (λ n img is. (i.tables n img is).0) (set_at w.tables number None) (λ q x. x)) h i

  pub remove_done : (d e : Disk) → IsSettled d w → DoneAmong u.tables (remove_plan number) d e → IsSettled e u
  remove_done d e i (m, g, (d1, h, g2)) = settled_gap u d1 e g2 (remove_call m d1 (Ok tt) (settled_gap u d m g (lessen d i)) h)

  pub remove_cut : (d e : Disk) → IsSettled d w → CutAmong u.tables (remove_plan number) d e → IsSettled e u
  remove_cut d e i (m, g, inl same) = subst (λ x. IsSettled x u) (sym same) (settled_gap u d m g (lessen d i))
  remove_cut d e i (m, g, inr (inl r)) = settled_gap u r.1 e r.3 (remove_call m r.1 (Err r.0) (settled_gap u d m g (lessen d i)) r.2)
  remove_cut d e i (m, g, inr (inr r)) = settled_gap u r.0 e r.2 (remove_call m r.0 (Ok tt) (settled_gap u d m g (lessen d i)) r.1)

-- ---- where that is all that is known

-- the version before and the version after are one
pub settled_either : (d : Disk) (w u : World) (o : Operation) → (after w o).manifest ≡ u.manifest → w.manifest ≡ u.manifest → (after w o).version ≡ u.version → w.version ≡ u.version → sure w o ≡ u.tables
    → IsSettled d u → IsHeld d (either w o)
settled_either d w u o m1 m2 v1 v2 t i = held_wider d (known_of u) (either w o) record {
  may_miss = λ e. e;
  manifests = only u.manifest (Has ((after w o).manifest ∷ w.manifest ∷ [])) (inl m1);
  small = pair (after w o).manifest w.manifest (λ m. m < 2 ^ 64) (subst (λ m. m < 2 ^ 64) (sym m1) i.small) (subst (λ m. m < 2 ^ 64) (sym m2) i.small);
  versions = only u.version (Has ((after w o).version ∷ w.version ∷ [])) (inl v1);
  tables = λ number image is. ap (λ (f : Tables). f number) (sym t) ∙ is;
  there = pair (after w o).version w.version (λ v. AreThere v (sure w o))
      (subst (λ v. AreThere v (sure w o)) (sym v1) (subst (λ f. AreThere u.version f) (sym t) i.there)) (subst (λ v. AreThere v (sure w o)) (sym v2) (subst (λ f. AreThere u.version f) (sym t) i.there));
} (settled_held d u i)

-- ---- a table that some thread puts

spares_keep : (q : List ℕ) (P : Disk → Type 0) → ((d e : Disk) (c : Call) → Avoids q c → Step d c e → P d → P e) → (cs : List Call) (d e : Disk) → Spares q cs d e → P d → P e
spares_keep q P keep [] d e h p = subst P (sym h) p
spares_keep q P keep (c ∷ cs) d e h p = spares_keep q P keep cs h.1.0 e h.1.2 (keep d h.1.0 c h.0 h.1.1 p)

pub put_stands : (d d1 d2 d3 d4 d5 : Disk) (name image : List ℕ) (cs more : List Call) → IsSound d → Step d (made name image (Ok tt)) d1 → Spares name cs d1 d2
    → Step d2 (synced name (Ok tt)) d3 → Spares name more d3 d4 → Step d4 (folder_synced (Ok tt)) d5 → Stands d5 name image
put_stands d d1 d2 d3 d4 d5 name image cs more s h1 g1 h2 g2 h3 =
    let a1 = at_makes d d1 name image h1 in
    let s1 = step_sound d d1 (made name image (Ok tt)) s h1 in
    let k2 = spares_keep name (λ x. IsSound x × At x name a1.0 image 0) (λ a b c o h p. (step_sound a b c p.0 h, at_step a b c name a1.0 image 0 p.0 o h p.1)) cs d1 d2 g1 (s1, a1.1) in
    let s3 = step_sound d2 d3 (synced name (Ok tt)) k2.0 h2 in
    let a3 = at_syncs d2 d3 name a1.0 image 0 k2.1 h2 in
    let k4 = spares_keep name (λ x. IsSound x × At x name a1.0 image (length image)) (λ a b c o h p. (step_sound a b c p.0 h, at_step a b c name a1.0 image (length image) p.0 o h p.1)) more d3 d4 g2 (s3, a3) in
    stands_settled d4 d5 name a1.0 image k4.0 k4.1 h3
