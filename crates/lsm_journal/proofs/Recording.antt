-- What the manifest held records before and after a change is sent.
use Rattle.std.proofs.Common.{◌≡◌, ◌≢◌, ◌==◌, Bool, true, false, ℕ, ◌+◌, ◌<◌, ◌≤◌, List, [], ◌∷◌, ◌++◌, Option, Some, None, get_or, length, refl, sym, subst, inl, inr, arith}
use Rattle.std.specs.Prelude.{IfSome, slice_set}
use Rattle.std.proofs.lemmas.Bool.{eqb-true, eqb-false}
use Rattle.std.proofs.lemmas.List.{get_or-set_other, get_or-set_same, take_all}
use Rattle.lsm_codec.proofs.CallerLemmas.{all_at}
use Rattle.lsm_manifest.specs.Edit.{IsEdit}
use Rattle.lsm_manifest.specs.EditFit.{Change, FitsKey}
use Rattle.lsm_manifest.specs.EditWriting.{edit_text}
use Rattle.lsm_manifest.proofs.CallerLemmas.{grown, manifest_fits, none_spelled, torn}
use Rattle.lsm_version.specs.Changes.{with_pointer}
use Rattle.lsm_version.specs.Versions.{Levels, no_levels}
use Rattle.lsm_journal.specs.HeldManifest.{HeldManifest}
use Rattle.lsm_journal.specs.declared.manifest_limit.ManifestLimit.{ManifestLimit}
use Rattle.lsm_journal.specs.Sending.{with_front}
use Rattle.lsm_journal.specs.Difference.{Difference, FitsComing, FitsDifference, FitsPlace, LeadsTo, changed_by, deleted_numbers}
use Rattle.lsm_journal.specs.Recorded.{ComesTo, FitsLevels, HasOwnNumbers, IsRecorded}
use Rattle.lsm_journal.specs.Writing.{change_edit, created_under, first_edit_under, record_of, version_edit}
use Rattle.lsm_journal.proofs.Differing.{TablesChange, changed_own, difference_turns, inside, pointers_are, same_length}
use Rattle.lsm_journal.proofs.StandingKeys.{standing_keys}
use Rattle.lsm_journal.proofs.Standing.{comes_more}
use Rattle.lsm_journal.proofs.Wholes.{created_comes, created_own, version_comes}

pub later : (rest : ℕ) (h : HeldManifest) (v : Levels) (n m : ℕ) → IsRecorded rest h v n → n ≤ m → IsRecorded rest h v m
later rest h v n m r le = record { edits = r.edits; manifest = r.manifest; written = r.written; upto = (let a = r.upto in omega arith); comes = r.comes; own = r.own }

pub recorded_fit : (rest : ℕ) (h : HeldManifest) (v : Levels) (next : ℕ) → IsRecorded rest h v next → FitsLevels v
recorded_fit rest h v next r = standing_keys r.edits v (manifest_fits h.bytes r.edits rest r.manifest) r.comes.standing

pub changed_fit : TablesChange → (d : Difference) (v : Levels) → HasOwnNumbers v → FitsLevels v → FitsDifference d → FitsLevels (changed_by d v)
changed_fit law d v own keys fits = record {
  tables = λ n t h.
      let lt : n < length v.tables = subst (λ k. n < k) (same_length d v) (inside (changed_by d v).tables n t h) in
      elim ((law (deleted_numbers d) d.added d.pointer d.last v n t lt).0 h) [
        | inl s ↦ keys.tables n t s.0
        | inr a ↦ let f = all_at FitsComing d.added (n, t) fits.added a in (f.1, f.2)
      ];
  pointers = λ level low. subst (λ (ps : List (Option (List ℕ))). IfSome (get_or ps level None) FitsKey) (sym (pointers_are d v)) (either d.pointer fits.pointer level (keys.pointers level low));
}
  where
    either : (pointer : Option (ℕ × List ℕ)) → IfSome pointer FitsPlace → (level : ℕ) → IfSome (get_or v.pointers level None) FitsKey → IfSome (get_or (with_pointer pointer v.pointers) level None) FitsKey
    either None f level k = k
    either (Some p) f level k = at (p.0 == level) refl
      where
        at : (b : Bool) → (p.0 == level) ≡ b → IfSome (get_or (slice_set v.pointers p.0 (Some p.1)) level None) FitsKey
        at true e =
            let same = eqb-true p.0 level e in
            let low = f.0 in
            let seven = own.seven_pointers in
            let within : p.0 < length v.pointers = omega arith in
            let here : get_or (slice_set v.pointers p.0 (Some p.1)) p.0 None ≡ Some p.1 = get_or-set_same v.pointers p.0 (Some p.1) None within in
            subst (λ (n : ℕ). IfSome (get_or (slice_set v.pointers p.0 (Some p.1)) n None) FitsKey) same (subst (λ (o : Option (List ℕ)). IfSome o FitsKey) (sym here) f.1)
        at false e =
            let other : level ≢ p.0 = λ s. eqb-false p.0 level e (sym s) in
            subst (λ (o : Option (List ℕ)). IfSome o FitsKey) (sym (get_or-set_other v.pointers p.0 level (Some p.1) None other)) k

pub leads_fit : TablesChange → (h : HeldManifest) (d : Difference) (w : Levels) (next : ℕ) → FitsDifference d → LeadsTo h d w next → FitsLevels w
leads_fit law h d w next fits l = subst FitsLevels (sym l.is) (changed_fit law d l.before l.recorded.own (recorded_fit 0 h l.before next l.recorded) fits)

pub leads_own : (h : HeldManifest) (d : Difference) (w : Levels) (next : ℕ) → LeadsTo h d w next → HasOwnNumbers w
leads_own h d w next l = subst HasOwnNumbers (sym l.is) (changed_own d l.before l.recorded.own l.suits)

-- after the record of a change
pub grown_recorded : TablesChange → (h i : HeldManifest) (d : Difference) (w : Levels) (next : ℕ) → FitsDifference d → LeadsTo h d w next
    → i ≡ record h { bytes = h.bytes ++ record_of h.bytes (change_edit h d next) } → IsEdit (edit_text (change_edit h d next)) (change_edit h d next) → IsRecorded 0 i w next
grown_recorded law h i d w next fits l is spelled =
    let r = l.recorded in
    let e : Change = change_edit h d next in
    subst (λ (x : HeldManifest). IsRecorded 0 x w next) (sym is) record {
      edits = r.edits ++ e ∷ [];
      manifest = grown h.bytes (edit_text e) r.edits e r.manifest spelled;
      written = next;
      upto = omega arith;
      comes = subst (λ (x : Levels). ComesTo (r.edits ++ e ∷ []) x h.log h.prev_log next) (sym l.is)
          (comes_more r.edits e l.before (changed_by d l.before) h.log h.prev_log next r.comes.standing (difference_turns law r.edits h d l.before next r.comes.standing r.own fits l.suits));
      own = leads_own h d w next l;
    }

-- after a new manifest
pub started_recorded : (h i : HeldManifest) (number : ℕ) (limit : ManifestLimit) (v : Levels) (next : ℕ) → HasOwnNumbers v
    → i ≡ record h { number = number; bytes = record_of [] (version_edit h v next); limit = limit } → IsEdit (edit_text (version_edit h v next)) (version_edit h v next) → IsRecorded 0 i v next
started_recorded h i number limit v next own is spelled =
    let e : Change = version_edit h v next in
    subst (λ (x : HeldManifest). IsRecorded 0 x v next) (sym is) record {
      edits = e ∷ [];
      manifest = grown [] (edit_text e) [] e none_spelled spelled;
      written = next;
      upto = omega arith;
      comes = version_comes h v next own;
      own = own;
    }

pub created_recorded : (number : ℕ) (limit : ManifestLimit) → IsEdit (edit_text (first_edit_under number)) (first_edit_under number) → IsRecorded 0 (created_under number limit) no_levels (number + 1)
created_recorded number limit spelled = record {
  edits = first_edit_under number ∷ [];
  manifest = grown [] (edit_text (first_edit_under number)) [] (first_edit_under number) none_spelled spelled;
  written = number + 1;
  upto = omega arith;
  comes = created_comes number;
  own = created_own;
}

-- the record of a change is torn
pub torn_recorded : (h : HeldManifest) (d : Difference) (v : Levels) (next m : ℕ) → IsRecorded 0 h v next
    → m < length (record_of h.bytes (change_edit h d next))
    → IsRecorded m (with_front h (change_edit h d next) m) v next
torn_recorded h d v next m r lt = record {
  edits = r.edits;
  manifest = torn h.bytes (edit_text (change_edit h d next)) r.edits m r.manifest lt;
  written = r.written;
  upto = r.upto;
  comes = r.comes;
  own = r.own;
}

-- it is whole
pub whole_recorded : TablesChange → (h : HeldManifest) (d : Difference) (w : Levels) (next m : ℕ)
    → FitsDifference d → LeadsTo h d w next
    → IsEdit (edit_text (change_edit h d next)) (change_edit h d next)
    → length (record_of h.bytes (change_edit h d next)) ≤ m
    → IsRecorded 0 (with_front h (change_edit h d next) m) w next
whole_recorded law h d w next m fits l spelled le =
    let all = take_all m (record_of h.bytes (change_edit h d next)) le in
    subst (λ (bs : List ℕ). IsRecorded 0 (record h { bytes = h.bytes ++ bs }) w next) (sym all)
    (grown_recorded law h (record h { bytes = h.bytes ++ record_of h.bytes (change_edit h d next) }) d w next fits l refl spelled)
