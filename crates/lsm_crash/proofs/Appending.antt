-- A record is appended: the version before it or after it, wherever it is cut.
use Rattle.std.proofs.Common.{◌≡◌, ℕ, ◌≤◌, ◌<◌, ◌^◌, List, [], ◌∷◌, ◌++◌, length, take, refl, sym, ◌∙◌, ap, subst, inl, inr, arith, Some, false}
use Rattle.std.specs.Prelude.{Ok, Err}
use Rattle.lsm_codec.specs.Lists.{Has}
use Rattle.lsm_folder.specs.Calls.{Answer, appended, synced}
use Rattle.lsm_storage.specs.FileNames.{manifest_name, current_text, table_name}
use Rattle.lsm_storage.specs.Plans.{append_plan}
use Rattle.lsm_crash.specs.Disk.{Disk, Step, Appends, Syncs}
use Rattle.lsm_crash.specs.Versions.{AreThere, ComesTo, Version}
use Rattle.lsm_crash.specs.Known.{AllStand, Holds, Is, IsHeld, IsSettled, IsSound, NamesOne, Stands, Tells, World, current_name, known_of}
use Rattle.lsm_crash.specs.Operations.{Allows, Append, after, either}
use Rattle.lsm_crash.specs.Among.{DoneAmong, CutAmong, FailsAmong, IsGap}
use Rattle.lsm_crash.proofs.Names.{manifest_current, table_manifest}
use Rattle.lsm_crash.proofs.Disks.{step_sound, step_holds}
use Rattle.lsm_crash.proofs.Standing.{IsGrown, stands_step, holds_grown, holds_durable, cut_text, weaken}
use Rattle.lsm_crash.proofs.Held.{all_stand_step, gap_keeps, held_gap, held_wider, only, settled_gap, settled_held}
use Rattle.lsm_crash.proofs.Leading.{leads_cut, leads_whole}

-- one of two
pub pair : {X : Type 0} (x y : X) (P : X → Type 0) → P x → P y → (z : X) → Has (x ∷ y ∷ []) z → P z
pair x y P p q z (inl e) = subst P e p
pair x y P p q z (inr (inl e)) = subst P e q
pair x y P p q z (inr (inr none)) = absurd none

module _ (w : World) (text : List ℕ) (v : Version) (ok : Allows w (Append text v)) where
  abbrev M : List ℕ
  M = manifest_name w.manifest

  -- `CURRENT` and the tables stand, and the manifest's file has a part of the record behind its durable bytes
  record IsGrowing (d : Disk) (part : List ℕ) : Type 0 where
    pub sound : IsSound d
    pub small : w.manifest < 2 ^ 64
    pub current : Stands d current_name (current_text w.manifest)
    pub one : ℕ
    pub its : Holds false d M (IsGrown one w.bytes part)
    pub tables : AllStand d w.tables
    pub comes : ComesTo w.bytes w.version
    pub there : AreThere w.version w.tables

  not_tables : (d : Disk) → AllStand d w.tables → (number : ℕ) (image : List ℕ) → w.tables number ≡ Some image → M ≡ table_name number → ⊥
  not_tables d all number image is e = table_manifest number w.manifest (all number image is).0 (sym e)

  grow : (d e : Disk) (part : List ℕ) (a : Answer) → IsSettled d w → Step d (appended M text a) e → Appends d M part e → IsGrowing e part
  grow d e part a i step h = record {
    sound = step_sound d e (appended M text a) i.sound step;
    small = i.small;
    current = stands_step d e (appended M text a) current_name (current_text w.manifest) i.sound (manifest_current w.manifest) step i.current;
    one = i.its.0;
    its = holds_grown d e M w.bytes part i.its.0 i.sound i.its.1 h;
    tables = all_stand_step d e (appended M text a) w.tables i.sound (not_tables d i.tables) step i.tables;
    comes = i.comes;
    there = i.there;
  }

  growing_gap : (part : List ℕ) (d e : Disk) → IsGap w.tables d e → IsGrowing d part → IsGrowing e part
  growing_gap part d e g i = gap_keeps w.tables (λ x. IsGrowing x part)
      (λ a b c o h j. record {
        sound = step_sound a b c j.sound h;
        small = j.small;
        current = stands_step a b c current_name (current_text w.manifest) j.sound o.current h j.current;
        one = j.one;
        its = step_holds false (IsGrown j.one w.bytes part) M a b c j.sound (o.manifests w.manifest j.small) h j.its;
        tables = all_stand_step a b c w.tables j.sound o.others h j.tables;
        comes = j.comes;
        there = j.there;
      }) g.0 d e g.1 i

  -- the record is durable
  grown_settled : (d e : Disk) → IsGrowing d text → Syncs d M e → IsSettled e (after w (Append text v))
  grown_settled d e i h = record {
    sound = step_sound d e (synced M (Ok tt)) i.sound h;
    small = i.small;
    current = stands_step d e (synced M (Ok tt)) current_name (current_text w.manifest) i.sound (manifest_current w.manifest) h i.current;
    its = (i.one, holds_durable d e M w.bytes text i.one i.sound i.its h);
    comes = leads_whole w.bytes text w.version v ok.0;
    tables = all_stand_step d e (synced M (Ok tt)) w.tables i.sound (not_tables d i.tables) h i.tables;
    there = ok.1;
  }

  -- with a part of the record it is one of the two versions
  growing_held : (d : Disk) (part : List ℕ) → IsGrowing d part → ((m : ℕ) → length w.bytes ≤ m → (k : ℕ) × (length w.bytes ≤ k) × (take m (w.bytes ++ part) ≡ take k (w.bytes ++ text)))
      → IsHeld d (either w (Append text v))
  growing_held d part i cut = record {
    sound = i.sound;
    small = pair w.manifest w.manifest (λ m. m < 2 ^ 64) i.small i.small;
    current = weaken false (Is i.current.0 (current_text w.manifest)) (NamesOne (either w (Append text v)) d) d current_name
        (λ j b k is. (is.2 ∙ sym (ap length is.1), w.manifest, inl refl, is.1, weaken false (IsGrown i.one w.bytes part) (Tells (v ∷ w.version ∷ [])) d M tells i.its)) i.current.1;
    tables = i.tables;
    there = pair v w.version (λ u. AreThere u w.tables) ok.1 i.there;
  }
    where
      tells : (j : ℕ) (b : List ℕ) (k : ℕ) → IsGrown i.one w.bytes part j b k → Tells (v ∷ w.version ∷ []) j b k
      tells j b k is m le = (let c = cut m (let e = is.2 in omega arith) in elim (leads_cut w.bytes text w.version v ok.0 c.0 c.1) [
        | inl s ↦ (w.version, inr (inl refl), subst (λ x. ComesTo x w.version) (sym (ap (take m) is.1 ∙ c.2)) s)
        | inr s ↦ (v, inl refl, subst (λ x. ComesTo x v) (sym (ap (take m) is.1 ∙ c.2)) s)
      ])

  before : (d : Disk) → IsSettled d w → IsHeld d (either w (Append text v))
  before d i = held_wider d (known_of w) (either w (Append text v)) record {
    may_miss = λ e. e;
    manifests = only w.manifest (Has (w.manifest ∷ w.manifest ∷ [])) (inl refl);
    small = pair w.manifest w.manifest (λ m. m < 2 ^ 64) i.small i.small;
    versions = only w.version (Has (v ∷ w.version ∷ [])) (inr (inl refl));
    tables = λ number image is. is;
    there = pair v w.version (λ u. AreThere u w.tables) ok.1 i.there;
  } (settled_held d w i)

  afterwards : (d : Disk) → AreThere w.version w.tables → IsSettled d (after w (Append text v)) → IsHeld d (either w (Append text v))
  afterwards d old i = held_wider d (known_of (after w (Append text v))) (either w (Append text v)) record {
    may_miss = λ e. e;
    manifests = only w.manifest (Has (w.manifest ∷ w.manifest ∷ [])) (inl refl);
    small = pair w.manifest w.manifest (λ m. m < 2 ^ 64) i.small i.small;
    versions = only v (Has (v ∷ w.version ∷ [])) (inl refl);
    tables = λ number image is. is;
    there = pair v w.version (λ u. AreThere u w.tables) ok.1 old;
  } (settled_held d (after w (Append text v)) i)

  whole_cut : (m : ℕ) → length w.bytes ≤ m → (k : ℕ) × (length w.bytes ≤ k) × (take m (w.bytes ++ text) ≡ take k (w.bytes ++ text))
  whole_cut m le = (m, le, refl)

  pub append_done : (d e : Disk) → IsSettled d w → DoneAmong w.tables (append_plan w.manifest text) d e → IsSettled e (after w (Append text v))
  append_done d e i (m1, g1, (d1, h1, (m2, g2, (d2, h2, g3)))) =
      let s1 = grow m1 d1 text (Ok tt) (settled_gap w d m1 g1 i) h1 h1 in
      settled_gap (after w (Append text v)) d2 e g3 (grown_settled m2 d2 (growing_gap text d1 m2 g2 s1) h2)

  pub append_cut : (d e : Disk) → IsSettled d w → CutAmong w.tables (append_plan w.manifest text) d e → IsHeld e (either w (Append text v))
  append_cut d e i (m, g, inl same) = subst (λ x. IsHeld x (either w (Append text v))) (sym same) (before m (settled_gap w d m g i))
  append_cut d e i (m, g, inr (inl (fault, x, step, rest))) = (let j = settled_gap w d m g i in held_gap (either w (Append text v)) x e rest (elim step [
    | inl same ↦ subst (λ x. IsHeld x (either w (Append text v))) (sym same) (before m j)
    | inr p ↦ growing_held x (take p.1 text) (grow m x (take p.1 text) (Err fault) j (inr p) p.2) (λ n le. cut_text w.bytes text p.1 n le)
  ]))
  append_cut d e i (m, g, inr (inr (d1, h1, (m2, g2, rest)))) =
      let j = settled_gap w d m g i in
      let s = growing_gap text d1 m2 g2 (grow m d1 text (Ok tt) j h1 h1) in
      let held = growing_held m2 text s whole_cut in
      elim rest [
        | inl same ↦ subst (λ x. IsHeld x (either w (Append text v))) (sym same) held
        | inr r ↦ elim r [
          | inl x ↦ held_gap (either w (Append text v)) x.1 e x.3 (elim x.2 [
            | inl same ↦ subst (λ x. IsHeld x (either w (Append text v))) (sym same) held
            | inr y ↦ afterwards x.1 j.there (grown_settled m2 x.1 s y)
          ])
          | inr x ↦ afterwards e j.there (settled_gap (after w (Append text v)) x.0 e x.2 (grown_settled m2 x.0 s x.1))
        ]
      ]

  -- memory was refused: nothing was appended
  pub append_fails : (d e : Disk) → IsSettled d w → FailsAmong w (Append text v) d e → IsSettled e w
  append_fails d e i (m, g, inl same) = subst (λ x. IsSettled x w) (sym same) (settled_gap w d m g i)
  append_fails d e i (m, g, inr p) = absurd (p.0 refl)
