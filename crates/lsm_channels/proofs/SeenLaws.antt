-- What is read at a sequence of a state that was learnt.
use Rattle.std.proofs.Common.{◌≡◌, ℕ, List, [], ◌∷◌, map, Result, Ok, Err, IfErr, IfOk, sym, ap, ◌∙◌, subst, inl, inr}
use Rattle.lsm_codec.specs.Lists.{Has}
use Rattle.lsm_frames.specs.declared.when.When.{When}
use Rattle.lsm_frames.specs.declared.when.When.TheVariants.{Now, Snapshot}
use Rattle.lsm_state.specs.Held.{Held}
use Rattle.lsm_state.specs.Reading.{IsSequence}
use Rattle.lsm_store.specs.Readers.{IsPromised, Learnt}
use Rattle.lsm_codec.specs.Entries.{Entry}
use Rattle.lsm_frames.specs.Requests.{Stretch}
use Rattle.lsm_frames.specs.Answers.{Found}
use Rattle.lsm_history.specs.History.{IsLater}
use Rattle.lsm_store.specs.Readers.{unpinned}
use Rattle.lsm_channels.specs.Answered.{done_frame}
use Rattle.lsm_channels.specs.Reading.{IsRead, IsReadFault, IsTooLong, IsUnread, values_at}
use Rattle.lsm_channels.specs.Scanning.{IsScanFault, IsScanned, IsShown, IsUnshown}
use Rattle.lsm_state.specs.declared.state_fault.StateFault.{StateFault}
use Rattle.lsm_state.specs.declared.state_fault.StateFault.TheVariants.{TooLarge}
use Rattle.lsm_channels.specs.Seen.{Learns, Sees, snapshot_in}

has_sequence : (taken : List (ℕ × ℕ)) (id seq : ℕ) → Has taken (id, seq) → Has (map (λ (p : ℕ × ℕ). p.1) taken) seq
has_sequence [] id seq h = absurd h
has_sequence (p ∷ ps) id seq (inl e) = inl (ap (λ (q : ℕ × ℕ). q.1) e)
has_sequence (p ∷ ps) id seq (inr h) = inr (has_sequence ps id seq h)

promised_at : (when : When) (h : Held) (before after : Learnt) (seq : ℕ) → Learns h before after → IsSequence h (snapshot_in when) seq → IsPromised after seq
promised_at Now h before after seq learnt e = inl (e ∙ sym (ap (λ v. v.last) learnt.version))
promised_at (Snapshot id) h before after seq learnt has = inr (subst (λ (ns : List ℕ). Has ns seq) (sym learnt.snapshots) (has_sequence h.snapshots.taken id seq has))

pub promised : (keeps : Held → Type 0) (when : When) (taken : List (ℕ × ℕ)) (before after : Learnt) (knew knows : List Entry) (seq : ℕ) → Sees keeps when taken before after knew knows seq → IsPromised after seq
promised keeps when taken before after knew knows seq sees = promised_at when sees.state before after seq sees.learnt sees.sequence

-- what the reader has learnt is what is known
seen_known : (keeps : Held → Type 0) (when : When) (taken : List (ℕ × ℕ)) (b v : Learnt) (knew knows : List Entry) (seq : ℕ) → Sees keeps when taken b v knew knows seq → v.history ≡ knows
seen_known keeps when taken b v knew knows seq sees = sees.learnt.history ∙ sym sees.lent.told.known

-- ---- after the view has ended

history_kept : (v read ended : Learnt) → read ≡ record v { told = read.told } → ended ≡ unpinned read → ended.history ≡ v.history
history_kept v read ended rest end = ap (λ (l : Learnt). l.history) end ∙ ap (λ (l : Learnt). l.history) rest

pub later_kept : (b v read ended : Learnt) → IsLater v.history b.history → read ≡ record v { told = read.told } → ended ≡ unpinned read → IsLater ended.history b.history
later_kept b v read ended later rest end = subst (λ (hs : List Entry). IsLater hs b.history) (sym (history_kept v read ended rest end)) later

sees_kept : (keeps : Held → Type 0) (when : When) (taken : List (ℕ × ℕ)) (b v read ended : Learnt) (knew knows : List Entry) (seq : ℕ) → Sees keeps when taken b v knew knows seq
    → read ≡ record v { told = read.told } → ended ≡ unpinned read → Sees keeps when taken b ended knew knows seq
sees_kept keeps when taken b v read ended knew knows seq sees rest end = record {
  state = sees.state;
  learnt = record {
    id = ap (λ (l : Learnt). l.id) end ∙ ap (λ (l : Learnt). l.id) rest ∙ sees.learnt.id;
    version = ap (λ (l : Learnt). l.version) end ∙ ap (λ (l : Learnt). l.version) rest ∙ sees.learnt.version;
    history = history_kept v read ended rest end ∙ sees.learnt.history;
    snapshots = ap (λ (l : Learnt). l.snapshots) end ∙ ap (λ (l : Learnt). l.snapshots) rest ∙ sees.learnt.snapshots;
    later = later_kept b v read ended sees.learnt.later rest end;
  };
  lent = sees.lent;
  sequence = sees.sequence;
  given = sees.given;
}

pub read_ended : (Honest : Type 0) (keeps : Held → Type 0) (when : When) (keys : List (List ℕ)) (taken : List (ℕ × ℕ)) (b v read ended : Learnt) (knew knows : List Entry) (seq : ℕ) (frame : List ℕ)
    → Sees keeps when taken b v knew knows seq → read ≡ record v { told = read.told } → ended ≡ unpinned read
    → (Honest → frame ≡ done_frame (Found (values_at v.history seq keys))) → IsRead Honest keeps when keys taken b ended knew knows frame
read_ended Honest keeps when keys taken b v read ended knew knows seq frame sees rest end said = record {
  seq = seq;
  sees = sees_kept keeps when taken b v read ended knew knows seq sees rest end;
  values = λ h. said h ∙ ap (λ (hs : List Entry). done_frame (Found (values_at hs seq keys))) (seen_known keeps when taken b v knew knows seq sees);
}

pub read_refused : {T : Type 0} (Honest : Type 0) (keeps : Held → Type 0) (when : When) (keys : List (List ℕ)) (taken : List (ℕ × ℕ)) (b v read ended : Learnt) (knew knows : List Entry) (seq : ℕ)
    (answer : Result T StateFault) → Sees keeps when taken b v knew knows seq → read ≡ record v { told = read.told } → ended ≡ unpinned read
    → IfErr answer (IsUnread Honest) → (Honest → answer ≡ Err TooLarge → IsTooLong (Found (values_at v.history seq keys)))
    → IfErr answer (IsReadFault Honest keeps when keys taken b ended knew knows)
read_refused Honest keeps when keys taken b v read ended knew knows seq (Ok frame) sees rest end unread long = tt
read_refused Honest keeps when keys taken b v read ended knew knows seq (Err e) sees rest end unread long = inr (
  seq,
  sees_kept keeps when taken b v read ended knew knows seq sees rest end,
  unread,
  λ h large. subst (λ (hs : List Entry). IsTooLong (Found (values_at hs seq keys))) (seen_known keeps when taken b v knew knows seq sees) (long h (ap (λ (f : StateFault). Err f) large)),
)

pub scan_ended : (Honest : Type 0) (keeps : Held → Type 0) (s : Stretch) (taken : List (ℕ × ℕ)) (b v read ended : Learnt) (knew knows : List Entry) (seq : ℕ) (frame : List ℕ) → Sees keeps s.when taken b v knew knows seq
    → read ≡ record v { told = read.told } → ended ≡ unpinned read → (Honest → IsShown s v.history seq frame) → IsScanned Honest keeps s taken b ended knew knows frame
scan_ended Honest keeps s taken b v read ended knew knows seq frame sees rest end shown = record {
  seq = seq;
  sees = sees_kept keeps s.when taken b v read ended knew knows seq sees rest end;
  shown = λ h. subst (λ (hs : List Entry). IsShown s hs seq frame) (seen_known keeps s.when taken b v knew knows seq sees) (shown h);
}

pub scan_refused : {T : Type 0} (Honest : Type 0) (keeps : Held → Type 0) (s : Stretch) (taken : List (ℕ × ℕ)) (b v read ended : Learnt) (knew knows : List Entry) (seq : ℕ) (answer : Result T StateFault)
    → Sees keeps s.when taken b v knew knows seq → read ≡ record v { told = read.told } → ended ≡ unpinned read
    → IfErr answer (IsUnread Honest) → (Honest → answer ≡ Err TooLarge → IsUnshown s v.history seq) → IfErr answer (IsScanFault Honest keeps s taken b ended knew knows)
scan_refused Honest keeps s taken b v read ended knew knows seq (Ok frame) sees rest end unread long = tt
scan_refused Honest keeps s taken b v read ended knew knows seq (Err e) sees rest end unread long = inr (
  seq,
  sees_kept keeps s.when taken b v read ended knew knows seq sees rest end,
  unread,
  λ h large. subst (λ (hs : List Entry). IsUnshown s hs seq) (seen_known keeps s.when taken b v knew knows seq sees) (long h (ap (λ (f : StateFault). Err f) large)),
)

-- what holds of an Ok under a premise
pub under : {T E : Type 0} (H : Type 0) (r : Result T E) (P : T → Type 0) → (H → IfOk r P) → IfOk r (λ x. H → P x)
under H (Ok x) P f = f
under H (Err e) P f = tt
