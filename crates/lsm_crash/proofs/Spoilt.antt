-- What is left where anything may stand behind the durable bytes.
use Rattle.std.proofs.Common.{◌≡◌, ℕ, ◌≤◌, List, length, take, refl, sym, ◌∙◌, ap, subst, inl, inr, arith, ◌⊎◌, Some, None, true}
use Rattle.std.specs.Prelude.{Option}
use Rattle.std.proofs.lemmas.List.{take_all}
use Rattle.lsm_storage.specs.FileNames.{table_name, manifest_name, current_text}
use Rattle.lsm_crash.specs.Disk.{Disk}
use Rattle.lsm_crash.specs.Crash.{Found, IsFileSpoilt, IsSpoilt}
use Rattle.lsm_crash.specs.Versions.{ComesTo}
use Rattle.lsm_crash.specs.Known.{Is, IsFile, IsHeld, KeepsFront, Known, NamesOne, Stands, Tells, current_name}
use Rattle.lsm_crash.proofs.Disks.{some_is, none_is}
use Rattle.lsm_crash.proofs.Standing.{sure}

spoilt_some : (d : Disk) (o : Option ℕ) (f : Option (List ℕ)) (i : ℕ) → o ≡ Some i → IsFileSpoilt d o f
    → (b : List ℕ) × (f ≡ Some b) × (d.kept i ≤ length b) × (length b ≤ length (d.bytes i)) × (take (d.kept i) b ≡ take (d.kept i) (d.bytes i))
spoilt_some d None f i e h = absurd (none_is i e)
spoilt_some d (Some j) None i e h = absurd h
spoilt_some d (Some j) (Some b) i e h =
    let same : j ≡ i = some_is j i e in
    let t = subst (λ x. (d.kept x ≤ length b) × (length b ≤ length (d.bytes x)) × (take (d.kept x) b ≡ take (d.kept x) (d.bytes x))) same h in
    (b, refl, t.0, t.1, t.2)

spoilt_none : (d : Disk) (o : Option ℕ) (f : Option (List ℕ)) → o ≡ None → IsFileSpoilt d o f → f ≡ None
spoilt_none d None None e h = refl
spoilt_none d None (Some b) e h = absurd h
spoilt_none d (Some i) f e h = absurd (none_is i (sym e))

-- of which all is durable, it is found whole
durable_whole : (b bytes file : List ℕ) (kept : ℕ) → file ≡ bytes → kept ≡ length bytes → kept ≤ length b → length b ≤ length file → take kept b ≡ take kept file → b ≡ bytes
durable_whole b bytes file kept same whole low high e =
    let size : length file ≡ length bytes = ap length same in
    sym (take_all kept b (omega arith)) ∙ (e ∙ (take_all kept file (omega arith) ∙ same))

found_whole : (d : Disk) (q bytes : List ℕ) (found : Found) → Stands d q bytes → IsSpoilt d found → found q ≡ Some bytes
found_whole d q bytes found s l =
    let c = l.each q in
    let h = sure (Is s.0 bytes) d q s.1 c.0 c.1 in
    let f = spoilt_some d c.0 (found q) h.0 h.1 c.2 in
    f.1 ∙ ap Some (durable_whole f.0 bytes (d.bytes h.0) (d.kept h.0) h.4.1 h.4.2 f.2 f.3 f.4)

named_front : (d : Disk) (k : Known) (found : Found) → IsHeld d k → IsSpoilt d found → (o : Option ℕ) → IsFileSpoilt d o (found current_name) → IsFile d current_name (NamesOne k d) o → KeepsFront k found
named_front d k found s l o left h =
    let f = spoilt_some d o (found current_name) h.0 h.1 left in
    let m = h.4.1 in
    let text : f.0 ≡ current_text m = durable_whole f.0 (current_text m) (d.bytes h.0) (d.kept h.0) h.4.3 (h.4.0 ∙ ap length h.4.3) f.2 f.3 f.4 in
    let c2 = l.each (manifest_name m) in
    let h2 = sure (Tells k.versions) d (manifest_name m) h.4.4 c2.0 c2.1 in
    let f2 = spoilt_some d c2.0 (found (manifest_name m)) h2.0 h2.1 c2.2 in
    let told = h2.4 (d.kept h2.0) (omega arith) in
    record {
      manifest = m;
      bytes = f2.0;
      front = d.kept h2.0;
      version = told.0;
      one = h.4.2;
      good = told.1;
      current = f.1 ∙ ap Some text;
      its = f2.1;
      short = f2.2;
      comes = subst (λ x. ComesTo x told.0) (sym f2.4) told.2;
      tables = λ number image is. found_whole d (table_name number) image found (s.tables number image is).1 l;
      there = s.there told.0 told.1;
    }

pub spoilt_keeps : (d : Disk) (k : Known) (found : Found) → IsHeld d k → IsSpoilt d found → ((k.may_miss ≡ true) × (found current_name ≡ None)) ⊎ KeepsFront k found
spoilt_keeps d k found s l = (let c = l.each current_name in elim (s.current.each c.0 c.1) [
  | inl none ↦ inl (none.0, spoilt_none d c.0 (found current_name) none.1 c.2)
  | inr h ↦ inr (named_front d k found s l c.0 c.2 h)
])
