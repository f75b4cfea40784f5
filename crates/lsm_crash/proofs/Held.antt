-- What is known of a disk: it stays through calls that touch nothing of it, and a crash leaves it.
use Rattle.std.proofs.Common.{◌≡◌, ℕ, ◌<◌, ◌≤◌, ◌^◌, List, [], ◌∷◌, length, take, refl, sym, ◌∙◌, ap, subst, inl, inr, arith, ◌⊎◌, Some, None, true, false}
use Rattle.std.specs.Prelude.{Option, Ok, Err}
use Rattle.std.proofs.lemmas.List.{take_all}
use Rattle.lsm_codec.specs.Lists.{Has}
use Rattle.lsm_folder.specs.Calls.{Call}
use Rattle.lsm_storage.specs.FileNames.{table_name, manifest_name, current_text}
use Rattle.lsm_crash.specs.Disk.{Disk, Step}
use Rattle.lsm_crash.specs.Crash.{Found, IsLeft, IsFileLeft, IsFresh}
use Rattle.lsm_crash.specs.Versions.{AreThere, ComesTo, Tables, Version}
use Rattle.lsm_crash.specs.Known.{AllStand, Holds, Is, IsFile, IsHeld, IsSettled, IsSound, IsVacant, Known, NamesOne, Recovers, Stands, Tells, World, current_name, known_of, nothing, world_of}
use Rattle.lsm_crash.specs.Among.{Avoids, IsAside, Gap, IsGap}
use Rattle.lsm_crash.proofs.Disks.{some_is, none_is, step_sound, step_holds}
use Rattle.lsm_crash.proofs.Standing.{stands_step, sure, weaken}

-- whatever it is answered, the call is about other names
pub record IsClear (manifests : List ℕ) (tables : Tables) (c : Call) : Type 0 where
  pub current : Avoids current_name c
  pub its : (m : ℕ) → Has manifests m → Avoids (manifest_name m) c
  pub others : (number : ℕ) (image : List ℕ) → tables number ≡ Some image → Avoids (table_name number) c

pub all_stand_step : (d e : Disk) (c : Call) (tables : Tables) → IsSound d → ((number : ℕ) (image : List ℕ) → tables number ≡ Some image → Avoids (table_name number) c) → Step d c e
    → AllStand d tables → AllStand e tables
all_stand_step d e c tables s avoids h all number image is =
    let one = all number image is in
    (one.0, stands_step d e c (table_name number) image s (avoids number image is) h one.1)

-- ---- between two operations

pub settled_step : (d e : Disk) (w : World) (c : Call) → IsClear (w.manifest ∷ []) w.tables c → Step d c e → IsSettled d w → IsSettled e w
settled_step d e w c a h i = record {
  sound = step_sound d e c i.sound h;
  small = i.small;
  current = stands_step d e c current_name (current_text w.manifest) i.sound a.current h i.current;
  its = stands_step d e c (manifest_name w.manifest) w.bytes i.sound (a.its w.manifest (inl refl)) h i.its;
  comes = i.comes;
  tables = all_stand_step d e c w.tables i.sound a.others h i.tables;
  there = i.there;
}

-- ---- where an operation was cut

pub tells_step : (d e : Disk) (c : Call) (versions : List Version) (number : ℕ) → IsSound d → Avoids (manifest_name number) c → Step d c e
    → Holds false d (manifest_name number) (Tells versions) → Holds false e (manifest_name number) (Tells versions)
tells_step d e c versions number s a h H = step_holds false (Tells versions) (manifest_name number) d e c s a h H

pub names_step : (d e : Disk) (k : Known) (c : Call) → IsSound d → ((m : ℕ) → Has k.manifests m → Avoids (manifest_name m) c) → Step d c e
    → (i : ℕ) (b : List ℕ) (n : ℕ) → NamesOne k d i b n → NamesOne k e i b n
names_step d e k c s a h i b n is = (is.0, is.1, is.2, is.3, tells_step d e c k.versions is.1 s (a is.1 is.2) h is.4)

pub held_step : (d e : Disk) (k : Known) (c : Call) → IsClear k.manifests k.tables c → Step d c e → IsHeld d k → IsHeld e k
held_step d e k c a h i = record {
  sound = step_sound d e c i.sound h;
  small = i.small;
  current = weaken k.may_miss (NamesOne k d) (NamesOne k e) e current_name (names_step d e k c i.sound a.its h)
      (step_holds k.may_miss (NamesOne k d) current_name d e c i.sound a.current h i.current);
  tables = all_stand_step d e c k.tables i.sound a.others h i.tables;
  there = i.there;
}

-- a manifest that stands tells what it comes to
pub stands_tells : (versions : List Version) (bytes : List ℕ) (v : Version) (one : ℕ) → Has versions v → ComesTo bytes v → (i : ℕ) (b : List ℕ) (k : ℕ) → Is one bytes i b k → Tells versions i b k
stands_tells versions bytes v one good comes i b k is m le =
    (v, good, subst (λ x. ComesTo x v) (sym (ap (take m) is.1 ∙ take_all m bytes (let e = is.2 in omega arith))) comes)

-- a `CURRENT` that stands names a manifest that stands
pub stands_names : (d : Disk) (k : Known) (number : ℕ) (bytes : List ℕ) (v : Version) → Has k.manifests number → Has k.versions v → ComesTo bytes v → Stands d (manifest_name number) bytes
    → (one i : ℕ) (b : List ℕ) (n : ℕ) → Is one (current_text number) i b n → NamesOne k d i b n
stands_names d k number bytes v one_of good comes its one i b n is = (
  is.2 ∙ sym (ap length is.1),
  number,
  one_of,
  is.1,
  weaken false (Is its.0 bytes) (Tells k.versions) d (manifest_name number) (stands_tells k.versions bytes v its.0 good comes) its.1,
)

-- one element
pub only : {X : Type 0} (x : X) (P : X → Type 0) → P x → (y : X) → Has (x ∷ []) y → P y
only x P p y (inl e) = subst P e p
only x P p y (inr none) = absurd none

pub settled_held : (d : Disk) (w : World) → IsSettled d w → IsHeld d (known_of w)
settled_held d w i = record {
  sound = i.sound;
  small = only w.manifest (λ m. m < 2 ^ 64) i.small;
  current = weaken false (Is i.current.0 (current_text w.manifest)) (NamesOne (known_of w) d) d current_name
      (stands_names d (known_of w) w.manifest w.bytes w.version (inl refl) (inl refl) i.comes i.its i.current.0) i.current.1;
  tables = i.tables;
  there = only w.version (λ v. AreThere v w.tables) i.there;
}

-- more may be than is
pub record IsWider (k l : Known) : Type 0 where
  pub may_miss : k.may_miss ≡ true → l.may_miss ≡ true
  pub manifests : (m : ℕ) → Has k.manifests m → Has l.manifests m
  pub small : (m : ℕ) → Has l.manifests m → m < 2 ^ 64
  pub versions : (v : Version) → Has k.versions v → Has l.versions v
  pub tables : (number : ℕ) (image : List ℕ) → l.tables number ≡ Some image → k.tables number ≡ Some image
  pub there : (v : Version) → Has l.versions v → AreThere v l.tables

pub names_wider : (d : Disk) (k l : Known) → ((m : ℕ) → Has k.manifests m → Has l.manifests m) → ((v : Version) → Has k.versions v → Has l.versions v)
    → (i : ℕ) (b : List ℕ) (n : ℕ) → NamesOne k d i b n → NamesOne l d i b n
names_wider d k l manifests versions i b n is = (
  is.0,
  is.1,
  manifests is.1 is.2,
  is.3,
  weaken false (Tells k.versions) (Tells l.versions) d (manifest_name is.1) (λ j c p t m le. (let x = t m le in (x.0, versions x.0 x.1, x.2))) is.4,
)

missing_wider : (d : Disk) (q : List ℕ) (P : ℕ → List ℕ → ℕ → Type 0) (a b : Rattle.std.specs.Prelude.Bool) → (a ≡ true → b ≡ true) → Holds a d q P → Holds b d q P
missing_wider d q P a b more H = record { each = λ o m. elim (H.each o m) [ inl none ↦ inl (more none.0, none.1) | inr h ↦ inr h ] }

pub held_wider : (d : Disk) (k l : Known) → IsWider k l → IsHeld d k → IsHeld d l
held_wider d k l w i = record {
  sound = i.sound;
  small = w.small;
  current = missing_wider d current_name (NamesOne l d) k.may_miss l.may_miss w.may_miss
      (weaken k.may_miss (NamesOne k d) (NamesOne l d) d current_name (names_wider d k l w.manifests w.versions) i.current);
  tables = λ number image is. i.tables number image (w.tables number image is);
  there = w.there;
}

-- ---- what is found

left_some : (d : Disk) (o : Option ℕ) (f : Option (List ℕ)) (i : ℕ) → o ≡ Some i → IsFileLeft d o f → (b : List ℕ) × (f ≡ Some b) × (m : ℕ) × (d.kept i ≤ m) × (b ≡ take m (d.bytes i))
left_some d None f i e h = absurd (none_is i e)
left_some d (Some j) None i e h = absurd h
left_some d (Some j) (Some b) i e h =
    let same : j ≡ i = some_is j i e in
    (b, refl, h.0, subst (λ x. d.kept x ≤ h.0) same h.1, h.2 ∙ ap (λ x. take h.0 (d.bytes x)) same)

left_none : (d : Disk) (o : Option ℕ) (f : Option (List ℕ)) → o ≡ None → IsFileLeft d o f → f ≡ None
left_none d None None e h = refl
left_none d None (Some b) e h = absurd h
left_none d (Some i) f e h = absurd (none_is i (sym e))

-- a file that stands is found whole
pub found_whole : (d : Disk) (q bytes : List ℕ) (found : Found) → Stands d q bytes → IsLeft d found → found q ≡ Some bytes
found_whole d q bytes found s l =
    let c = l.each q in
    let h = sure (Is s.0 bytes) d q s.1 c.0 c.1 in
    let f = left_some d c.0 (found q) h.0 h.1 c.2 in
    let e = h.4.2 in
    let le = f.3 in
    f.1 ∙ ap Some (f.4 ∙ (ap (take f.2) h.4.1 ∙ take_all f.2 bytes (omega arith)))

named_recovers : (d : Disk) (k : Known) (found : Found) → IsHeld d k → IsLeft d found → (o : Option ℕ) → IsFileLeft d o (found current_name) → IsFile d current_name (NamesOne k d) o → Recovers k found
named_recovers d k found s l o left h =
    let f = left_some d o (found current_name) h.0 h.1 left in
    let m = h.4.1 in
    let e = h.4.0 in
    let le = f.3 in
    let text : f.0 ≡ current_text m = f.4 ∙ (take_all f.2 (d.bytes h.0) (omega arith) ∙ h.4.3) in
    let c2 = l.each (manifest_name m) in
    let h2 = sure (Tells k.versions) d (manifest_name m) h.4.4 c2.0 c2.1 in
    let f2 = left_some d c2.0 (found (manifest_name m)) h2.0 h2.1 c2.2 in
    let told = h2.4 f2.2 f2.3 in
    record {
      manifest = m;
      bytes = f2.0;
      version = told.0;
      one = h.4.2;
      small = s.small m h.4.2;
      good = told.1;
      current = f.1 ∙ ap Some text;
      its = f2.1;
      comes = subst (λ x. ComesTo x told.0) (sym f2.4) told.2;
      tables = λ number image is. (let t = s.tables number image is in (t.0, found_whole d (table_name number) image found t.1 l));
      there = s.there told.0 told.1;
    }

pub held_recovers : (d : Disk) (k : Known) (found : Found) → IsHeld d k → IsLeft d found → ((k.may_miss ≡ true) × (found current_name ≡ None)) ⊎ Recovers k found
held_recovers d k found s l = (let c = l.each current_name in elim (s.current.each c.0 c.1) [
  | inl none ↦ inl (none.0, left_none d c.0 (found current_name) none.1 c.2)
  | inr h ↦ inr (named_recovers d k found s l c.0 c.2 h)
])

pub surely_recovers : (d : Disk) (k : Known) (found : Found) → k.may_miss ≡ false → IsHeld d k → IsLeft d found → Recovers k found
surely_recovers d k found never s l = elim (held_recovers d k found s l) [
  | inl none ↦ absurd (let f : false ≡ true = sym never ∙ none.0 in cc)
  | inr r ↦ r
]

-- ---- the folder that is found is used again

fresh_sound : (found : Found) (d : Disk) → IsFresh found d → IsSound d
fresh_sound found d f = record { now = subst (λ ns. Has ns d.names) (sym f.only) (inl refl); below = f.below; one = f.one }

fresh_stands : (found : Found) (d : Disk) (q bytes : List ℕ) → IsFresh found d → found q ≡ Some bytes → Stands d q bytes
fresh_stands found d q bytes f e = (let r = f.some q bytes e in (
  r.0,
  record {
    each = λ o m. inr (
      r.0,
      elim (subst (λ ns. Has ns m.0) f.only m.1) [ inl same ↦ sym m.2 ∙ (ap (λ (g : List ℕ → Option ℕ). g q) (sym same) ∙ r.1) | inr none ↦ absurd none ],
      f.below q r.0 r.1,
      λ p at. f.one p q r.0 at r.1,
      (refl, r.2, r.3),
    );
  },
))

pub fresh_settled : (k : Known) (found : Found) (d : Disk) → (r : Recovers k found) → IsFresh found d → IsSettled d (world_of k found r)
fresh_settled k found d r f = record {
  sound = fresh_sound found d f;
  small = r.small;
  current = fresh_stands found d current_name (current_text r.manifest) f r.current;
  its = fresh_stands found d (manifest_name r.manifest) r.bytes f r.its;
  comes = r.comes;
  tables = λ number image is. (let t = r.tables number image is in (t.0, fresh_stands found d (table_name number) image f t.1));
  there = r.there;
}

pub fresh_vacant : (found : Found) (d : Disk) → found current_name ≡ None → IsFresh found d → IsVacant d
fresh_vacant found d e f = record {
  sound = fresh_sound found d f;
  none = λ o m. elim (subst (λ ns. Has ns m.0) f.only m.1) [
    | inl same ↦ sym m.2 ∙ (ap (λ (g : List ℕ → Option ℕ). g current_name) (sym same) ∙ f.none current_name e)
    | inr none ↦ absurd none
  ];
}

pub vacant_held : (d : Disk) → IsVacant d → IsHeld d nothing
vacant_held d v = record {
  sound = v.sound;
  small = λ m h. absurd h;
  current = record { each = λ o m. inl (refl, v.none o m) };
  tables = λ number image is. absurd (none_image image is);
  there = λ u h. absurd h;
}
  where
    none_image : (image : List ℕ) → None ≡ Some image → ⊥
    none_image image e = cc

-- ---- calls of other threads

pub aside_clear : (manifests : List ℕ) (tables : Tables) (c : Call) → ((m : ℕ) → Has manifests m → m < 2 ^ 64) → IsAside tables c → IsClear manifests tables c
aside_clear manifests tables c small a = record { current = a.current; its = λ m h. a.manifests m (small m h); others = a.others }

-- what each such call keeps
pub gap_keeps : (tables : Tables) (P : Disk → Type 0) → ((d e : Disk) (c : Call) → IsAside tables c → Step d c e → P d → P e) → (cs : List Call) (d e : Disk) → Gap tables cs d e → P d → P e
gap_keeps tables P keep [] d e h p = subst P (sym h) p
gap_keeps tables P keep (c ∷ cs) d e h p = gap_keeps tables P keep cs h.1.0 e h.1.2 (keep d h.1.0 c h.0 h.1.1 p)

pub settled_aside : (d e : Disk) (w : World) (c : Call) → IsAside w.tables c → Step d c e → IsSettled d w → IsSettled e w
settled_aside d e w c a h i = settled_step d e w c (aside_clear (w.manifest ∷ []) w.tables c (only w.manifest (λ m. m < 2 ^ 64) i.small) a) h i

pub settled_gap : (w : World) (d e : Disk) → IsGap w.tables d e → IsSettled d w → IsSettled e w
settled_gap w d e g i = gap_keeps w.tables (λ x. IsSettled x w) (λ a b c o h j. settled_aside a b w c o h j) g.0 d e g.1 i

pub held_aside : (d e : Disk) (k : Known) (c : Call) → IsAside k.tables c → Step d c e → IsHeld d k → IsHeld e k
held_aside d e k c a h i = held_step d e k c (aside_clear k.manifests k.tables c i.small a) h i

pub held_gap : (k : Known) (d e : Disk) → IsGap k.tables d e → IsHeld d k → IsHeld e k
held_gap k d e g i = gap_keeps k.tables (λ x. IsHeld x k) (λ a b c o h j. held_aside a b k c o h j) g.0 d e g.1 i
