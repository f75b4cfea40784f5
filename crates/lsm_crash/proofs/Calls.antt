-- From a shelf's lists of calls to the disk, and what a read shows.
use Rattle.std.proofs.Common.{◌≡◌, ℕ, ◌+◌, ◌<◌, ◌^◌, List, [], ◌∷◌, length, take, refl, sym, ◌∙◌, ap, subst, inl, inr, arith}
use Rattle.std.specs.Prelude.{Ok}
use Rattle.std.proofs.lemmas.List.{take_all}
use Rattle.lsm_codec.specs.Lists.{Has}
use Rattle.lsm_folder.specs.Calls.{Call, loaded}
use Rattle.lsm_folder.specs.declared.folder_fault.FolderFault.{FolderFault}
use Rattle.lsm_storage.specs.FileNames.{manifest_name, current_text}
use Rattle.lsm_storage.specs.Plans.{Step as Asked, done, Refused}
use Rattle.lsm_crash.specs.Disk.{After, Disk, Shows, Step}
use Rattle.lsm_crash.specs.Versions.{ComesTo, Tables, Version}
use Rattle.lsm_crash.specs.Known.{IsHeld, Known, NamesOne, Tells, current_name}
use Rattle.lsm_crash.specs.Among.{CutAmong, DoneAmong, IsGap}
use Rattle.lsm_crash.proofs.Disks.{some_is, none_is}
use Rattle.lsm_crash.proofs.Standing.{sure}
use Rattle.lsm_crash.proofs.Names.{texts_apart}

pub no_gap : (tables : Tables) (d : Disk) → IsGap tables d d
no_gap tables d = ([], refl)

pub done_after : (tables : Tables) (ss : List Asked) (calls : List Call) (d e : Disk) → After d (done ss calls) e → (mid : Disk) × After d calls mid × DoneAmong tables ss mid e
done_after tables [] calls d e h = (e, h, no_gap tables e)
done_after tables (s ∷ ss) calls d e h =
    let r = done_after tables ss (s (Ok tt) ∷ calls) d e h in
    (r.1.0, r.1.1, (r.1.0, no_gap tables r.1.0, (r.0, r.1.2, r.2)))

pub refused_after : (tables : Tables) (ss : List Asked) (fault : FolderFault) (old new : List Call) (d e : Disk) → Refused ss fault old new → After d new e → (mid : Disk) × After d old mid × CutAmong tables ss mid e
refused_after tables [] fault old new d e r h = absurd r
refused_after tables (s ∷ ss) fault old new d e (inl is) h =
    let a = subst (λ x. After d x e) is h in
    (a.0, a.1, (a.0, no_gap tables a.0, inr (inl (fault, e, a.2, no_gap tables e))))
refused_after tables (s ∷ ss) fault old new d e (inr later) h =
    let r = refused_after tables ss fault (s (Ok tt) ∷ old) new d e later h in
    (r.1.0, r.1.1, (r.1.0, no_gap tables r.1.0, inr (inr (r.0, r.1.2, r.2))))

-- ---- what a read shows

named_now : (d : Disk) (k : Known) (text : List ℕ) → IsHeld d k → Shows d current_name text → (i : ℕ) × NamesOne k d i text (length text)
named_now d k text h s = elim (h.current.each (d.names current_name) (d.names, h.sound.now, refl)) [
  | inl none ↦ absurd (none_is s.0 (sym none.1 ∙ s.1))
  | inr f ↦ (
      let same : f.0 ≡ s.0 = some_is f.0 s.0 (sym f.1 ∙ s.1) in
      let is : d.bytes f.0 ≡ text = ap d.bytes same ∙ s.2 in
      let whole : length text ≡ length (d.bytes f.0) = ap length (sym is) in
      (f.0, (refl, f.4.1, f.4.2, sym is ∙ f.4.3, f.4.4)))
]

pub read_current : (d e : Disk) (k : Known) (number : ℕ) → IsHeld d k → number < 2 ^ 64 → Step d (loaded current_name (Ok (current_text number))) e → Has k.manifests number
read_current d e k number h small step =
    let n = named_now d k (current_text number) h step.1 in
    subst (Has k.manifests) (sym (texts_apart number n.1.1 small (h.small n.1.1 n.1.2) n.1.3)) n.1.2

pub read_manifest : (d mid e : Disk) (k : Known) (number : ℕ) (bytes : List ℕ) → IsHeld d k → number < 2 ^ 64 → Step d (loaded current_name (Ok (current_text number))) mid → Step mid (loaded (manifest_name number) (Ok bytes)) e
    → (v : Version) × Has k.versions v × ComesTo bytes v
read_manifest d mid e k number bytes h small first second =
    let n = named_now d k (current_text number) h first.1 in
    let same : number ≡ n.1.1 = texts_apart number n.1.1 small (h.small n.1.1 n.1.2) n.1.3 in
    let shown : Shows d (manifest_name n.1.1) bytes = subst (λ m. Shows d (manifest_name m) bytes) same (subst (λ x. Shows x (manifest_name number) bytes) first.0 second.1) in
    let f = sure (Tells k.versions) d (manifest_name n.1.1) n.1.4 (d.names (manifest_name n.1.1)) (d.names, h.sound.now, refl) in
    let file : f.0 ≡ shown.0 = some_is f.0 shown.0 (sym f.1 ∙ shown.1) in
    let is : d.bytes f.0 ≡ bytes = ap d.bytes file ∙ shown.2 in
    let told = f.4 (d.kept f.0 + length bytes) (omega arith) in
    (told.0, told.1, subst (λ x. ComesTo x told.0) (ap (take (d.kept f.0 + length bytes)) is ∙ take_all (d.kept f.0 + length bytes) bytes (omega arith)) told.2)
