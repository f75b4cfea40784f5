-- What is known stays true through every history.
use Rattle.std.proofs.Common.{◌≡◌, ℕ, ◌<◌, ◌^◌, List, [], ◌∷◌, sym, ◌∙◌, ap, subst, inl, inr, Some, None}
use Rattle.lsm_manifest.specs.EditFit.{Change}
use Rattle.lsm_manifest.specs.Shape.{IsReplayed}
use Rattle.lsm_manifest.proofs.CallerLemmas.{one_manifest, one_shape}
use Rattle.lsm_storage.specs.FileNames.{manifest_name, current_text}
use Rattle.lsm_crash.specs.Disk.{Disk}
use Rattle.lsm_crash.specs.Crash.{Found, IsFresh, IsLeft}
use Rattle.lsm_crash.specs.Versions.{AreThere, ComesTo, Tables, Version}
use Rattle.lsm_crash.specs.Known.{IsHeld, IsSettled, Known, Recovers, World, world_of}
use Rattle.lsm_crash.specs.Operations.{MayStart, starting}
use Rattle.lsm_crash.specs.History.{Breaks, Crashes, Empties, History, IsPhase, IsRead, Move, Others, Passes, Phase, Rests, Runs, Starts, Stops, StopsUnseen, before, behind}
use Rattle.lsm_crash.proofs.Names.{texts_apart}
use Rattle.lsm_crash.proofs.Held.{fresh_settled, fresh_vacant, held_gap, held_recovers, held_wider, settled_held, vacant_held}
use Rattle.lsm_crash.proofs.Dropping.{follow_cut, follow_done}
use Rattle.lsm_crash.proofs.Runs.{cut_held, goes_settled}

text_is : (a b : List ℕ) → Some a ≡ Some b → a ≡ b
text_is a b e = cc

pub not_both : (t : List ℕ) → None ≡ Some t → ⊥
not_both t e = cc

-- bytes come to one version at most
pub one_version : (bytes : List ℕ) (u v : Version) → ComesTo bytes u → ComesTo bytes v → u ≡ v
one_version bytes u v a b =
    let same = one_manifest bytes a.edits b.edits a.rest b.rest a.manifest b.manifest in
    one_shape b.edits u v (subst (λ (es : List Change). IsReplayed es u) same.0 a.replayed) b.replayed

abbrev world : ℕ → List ℕ → Version → Tables → World
world manifest bytes version tables = record { manifest = manifest; bytes = bytes; version = version; tables = tables }

same_world : (a b : ℕ) (x y : List ℕ) (u v : Version) (s t : Tables) → a ≡ b → x ≡ y → u ≡ v → s ≡ t → world a x u s ≡ world b y v t
same_world a b x y u v s t p q r e = ap (λ z. world z x u s) p ∙ (ap (λ z. world b z u s) q ∙ (ap (λ z. world b y z s) r ∙ ap (λ z. world b y v z) e))

-- what is read is what the crash left
pub read_is : (known : Known) (found : Found) (r : Recovers known found) (w : World) → IsRead known found w → w ≡ world_of known found r
read_is known found r w i =
    let number : w.manifest ≡ r.manifest = texts_apart w.manifest r.manifest i.small r.small (text_is (current_text w.manifest) (current_text r.manifest) (sym i.current ∙ r.current)) in
    let bytes : w.bytes ≡ r.bytes = text_is w.bytes r.bytes (sym i.its ∙ (ap (λ m. found (manifest_name m)) number ∙ r.its)) in
    let version : w.version ≡ r.version = one_version r.bytes w.version r.version (subst (λ b. ComesTo b w.version) bytes i.comes) r.comes in
    same_world w.manifest r.manifest w.bytes r.bytes w.version r.version w.tables known.tables number bytes version i.tables

pub crashed : (d e : Disk) (known : Known) (found : Found) (w : World) → IsHeld d known → IsLeft d found → IsFresh found e → IsRead known found w → IsSettled e w
crashed d e known found w h l f i = elim (held_recovers d known found h l) [
  | inl none ↦ absurd (not_both (current_text w.manifest) (sym none.1 ∙ i.current))
  | inr r ↦ subst (λ x. IsSettled e x) (sym (read_is known found r w i)) (fresh_settled known found e r f)
]

-- where a start was cut, what was known before, and the new manifest
pub stopped : (d : Disk) (known : Known) (number : ℕ) (bytes : List ℕ) (v : Version) → MayStart known number bytes v → IsHeld d known → IsHeld d (starting known number v)
stopped d known number bytes v ok h = held_wider d known (starting known number v) record {
  may_miss = λ e. e;
  manifests = λ m at. inr at;
  small = λ m at. elim at [ inl e ↦ subst (λ x. x < 2 ^ 64) e ok.small | inr r ↦ h.small m r ];
  versions = λ u at. inr at;
  tables = λ n image is. is;
  there = λ u at. elim at [ inl e ↦ subst (λ x. AreThere x known.tables) e ok.there | inr r ↦ h.there u r ];
} h

pub move_keeps : (m : Move) (d e : Disk) → IsPhase (before m) d → Passes m d e → IsPhase (behind m) e
move_keeps (Runs w es u) d e i h = goes_settled es d e w u i h
move_keeps (Breaks w o) d e i h = cut_held d e w o i h.0 h.1
move_keeps (Rests w) d e i h = subst (λ x. IsPhase (behind (Rests w)) x) (sym h) (settled_held d w i)
move_keeps (Starts known number bytes v) d e i h = follow_done known number bytes v h.0 d e i h.1
move_keeps (Stops known number bytes v) d e i h =
    elim (follow_cut known number bytes v h.0 d e i h.1)
    [ inl same ↦ stopped e known number bytes v h.0 same | inr turned ↦ turned.0 ]
move_keeps (StopsUnseen known number bytes v) d e i h =
    elim (follow_cut known number bytes v h.0 d e i h.1)
    [ inl same ↦ same | inr turned ↦ absurd (h.2 turned.1) ]
move_keeps (Others known) d e i h = held_gap known d e h i
move_keeps (Crashes known found w) d e i h = crashed d e known found w i h.0 h.1 h.2
move_keeps (Empties known found) d e i h = vacant_held e (fresh_vacant found e h.2 h.1)

pub history_keeps : (ms : List Move) (p q : Phase) (d e : Disk) → IsPhase p d → History p ms q d e → IsPhase q e
history_keeps [] p q d e i h = subst (λ x. IsPhase q x) (sym h.1) (subst (λ x. IsPhase x d) (sym h.0) i)
history_keeps (m ∷ ms) p q d e i h = history_keeps ms (behind m) q h.1.0 e (move_keeps m d h.1.0 (subst (λ x. IsPhase x d) (sym h.0) i) h.1.1) h.1.2
