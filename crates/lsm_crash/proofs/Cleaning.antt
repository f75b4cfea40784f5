-- A folder is cleaned: what is shown is made durable, and then spare names are removed.
use Rattle.std.proofs.Common.{◌≡◌, ℕ, ◌<◌, ◌^◌, List, [], ◌∷◌, length, refl, sym, ◌∙◌, ap, subst, inl, inr, Some, None}
use Rattle.std.specs.Prelude.{Ok}
use Rattle.lsm_codec.specs.Lists.{Has}
use Rattle.lsm_folder.specs.Calls.{Answer, folder_synced, removed, synced}
use Rattle.lsm_storage.specs.FileNames.{current_text, manifest_name}
use Rattle.lsm_crash.specs.Disk.{Disk, Shows, Step}
use Rattle.lsm_crash.specs.Versions.{AreThere, Tables, Version}
use Rattle.lsm_crash.specs.Known.{IsHeld, IsSettled, Known, World, current_name}
use Rattle.lsm_crash.specs.Operations.{started}
use Rattle.lsm_crash.specs.Among.{Cleans, IsSpare}
use Rattle.lsm_crash.proofs.Names.{manifest_current, manifests_apart, table_current, table_manifest, table_temporary, tables_apart, temporary_current, temporary_manifest}
use Rattle.lsm_crash.proofs.Disks.{none_is, some_is, step_sound}
use Rattle.lsm_crash.proofs.Standing.{At, at_step, at_syncs, stands_settled}
use Rattle.lsm_crash.proofs.Held.{IsClear, all_stand_step, settled_step}
use Rattle.lsm_crash.proofs.Calls.{read_manifest}

-- the text of `CURRENT` is durable
kept_now : (d : Disk) (k : Known) (text : List ℕ) → IsHeld d k → (s : Shows d current_name text) → d.kept s.0 ≡ length text
kept_now d k text h s = elim (h.current.each (d.names current_name) (d.names, h.sound.now, refl)) [
  | inl none ↦ absurd (none_is s.0 (sym none.1 ∙ s.1))
  | inr f ↦ (let same : f.0 ≡ s.0 = some_is f.0 s.0 (sym f.1 ∙ s.1) in ap d.kept (sym same) ∙ (f.4.0 ∙ ap length (ap d.bytes same ∙ s.2)))
]

-- the manifest that is shown is synced, and then the folder
pub shown_settles : (k : Known) (number : ℕ) (bytes : List ℕ) (d mid e : Disk) → IsHeld d k → number < 2 ^ 64 → Shows d current_name (current_text number) → Shows d (manifest_name number) bytes
    → Step d (synced (manifest_name number) (Ok tt)) mid → Step mid (folder_synced (Ok tt)) e → (v : Version) × Has k.versions v × IsSettled e (started k number bytes v)
shown_settles k number bytes d mid e h small current its first second =
    let M = manifest_name number in
    let text = current_text number in
    let r = read_manifest d d d k number bytes h small (refl, current) (refl, its) in
    let sound = step_sound d mid (synced M (Ok tt)) h.sound first in
    let c : At d current_name current.0 text (length text) = record { names = current.1; bytes_are = current.2; kept_is = kept_now d k text h current } in
    let c1 = at_step d mid (synced M (Ok tt)) current_name current.0 text (length text) h.sound (manifest_current number) first c in
    let m1 = at_syncs d mid M its.0 bytes (d.kept its.0) record { names = its.1; bytes_are = its.2; kept_is = refl } first in (
      r.0,
      r.1,
      record {
        sound = step_sound mid e (folder_synced (Ok tt)) sound second;
        small = small;
        current = stands_settled mid e current_name current.0 text sound c1 second;
        its = stands_settled mid e M its.0 bytes sound m1 second;
        comes = r.2;
        tables = all_stand_step mid e (folder_synced (Ok tt)) k.tables sound (λ n image is. tt) second
            (all_stand_step d mid (synced M (Ok tt)) k.tables h.sound (λ n image is. λ same. table_manifest n number (h.tables n image is).0 (sym same)) first h.tables);
        there = h.there r.0 r.1;
      },
    )

-- a removal of a spare name
pub spare_clear : (d : Disk) (w : World) (name : List ℕ) (a : Answer) → IsSettled d w
    → IsSpare w name → IsClear (w.manifest ∷ []) w.tables (removed name a)
spare_clear d w name a i (inl (n, small, other, is)) = record {
  current = λ e. manifest_current n (sym is ∙ e);
  its = λ m h. elim h [
    | inl same ↦ (λ e. other (manifests_apart n w.manifest small i.small (sym is ∙ (e ∙ ap manifest_name (sym same)))))
    | inr none ↦ absurd none
  ];
  others = λ t image at. λ e. table_manifest t n (i.tables t image at).0 (sym e ∙ is);
}
spare_clear d w name a i (inr (inl (n, small, is))) = record {
  current = λ e. temporary_current n (sym is ∙ e);
  its = λ m h. λ e. temporary_manifest n m small (sym is ∙ e);
  others = λ t image at. λ e. table_temporary t n (sym e ∙ is);
}
spare_clear d w name a i (inr (inr (n, small, none, is))) = record {
  current = λ e. table_current n (sym is ∙ e);
  its = λ m h. λ e. table_manifest n m small (sym is ∙ e);
  others = λ t image at. λ e. none_image image (sym none ∙ (ap w.tables (tables_apart n t small (i.tables t image at).0 (sym is ∙ e)) ∙ at));
}
  where
    none_image : (image : List ℕ) → None ≡ Some image → ⊥
    none_image image e = cc

pub cleans_settled : (w : World) (names : List (List ℕ)) (d e : Disk) → IsSettled d w → Cleans w names d e → IsSettled e w
cleans_settled w [] d e i h = subst (λ x. IsSettled x w) (sym h) i
cleans_settled w (name ∷ names) d e i (spare, (a, mid, step, later)) = cleans_settled w names mid e (settled_step d mid w (removed name a) (spare_clear d w name a i spare) step i) later

-- fewer tables are counted on
pub settled_less : (d : Disk) (w : World) (tables : Tables) → IsSettled d w → ((n : ℕ) (image : List ℕ) → tables n ≡ Some image → w.tables n ≡ Some image) → AreThere w.version tables
    → IsSettled d (record w { tables = tables })
settled_less d w tables i less there = record {
  sound = i.sound;
  small = i.small;
  current = i.current;
  its = i.its;
  comes = i.comes;
  tables = λ n image k. i.tables n image (less n image k);
  there = there;
}
