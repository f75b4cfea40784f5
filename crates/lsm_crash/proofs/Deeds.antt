-- What the calls of a database ask for may be asked for, and what is counted on then.
use Rattle.std.proofs.Common.{◌≡◌, ℕ, ◌+◌, ◌<◌, ◌≤◌, ◌^◌, Bool, true, false, List, [], ◌∷◌, ◌++◌, refl, sym, ◌∙◌, ap, subst, inl, inr, arith}
use Rattle.std.specs.Prelude.{MatchBool, if◌then◌else◌}
use Rattle.lsm_shelf.specs.Told.{Told}
use Rattle.lsm_shelf.specs.Asked.{Asked, AppendManifest}
use Rattle.lsm_manifest.specs.EditFit.{Change}
use Rattle.lsm_manifest.specs.EditWriting.{edit_text}
use Rattle.lsm_manifest.specs.Shape.{IsReplayed}
use Rattle.lsm_manifest.proofs.CallerLemmas.{grown, one_manifest}
use Rattle.lsm_version.specs.Versions.{Levels}
use Rattle.lsm_journal.specs.HeldManifest.{HeldManifest, is_at_limit}
use Rattle.lsm_journal.specs.Difference.{Difference}
use Rattle.lsm_journal.specs.Recorded.{IsRecorded}
use Rattle.lsm_journal.specs.Sending.{Grows, RollsOver, Sends, asked_by, started_by}
use Rattle.lsm_journal.specs.Writing.{change_edit, record_of, version_edit}
use Rattle.lsm_crash.specs.Versions.{AreThere, ComesTo, LeadsTo, Tables, Version}
use Rattle.lsm_crash.specs.Known.{World}
use Rattle.lsm_crash.specs.Operations.{Allows, Append, Operation, Start, after, sure}
use Rattle.lsm_crash.specs.Among.{failed}
use Rattle.lsm_crash.specs.States.{Describes, HasTables}
use Rattle.lsm_crash.specs.Database.{operations}
use Rattle.lsm_crash.proofs.Forms.{named_table, recorded_describes}

-- each file of a shape that describes a version is among its tables
pub are_there : (shape : Version) (v : Levels) (tables : Tables) → Describes shape v → HasTables tables v → AreThere shape tables
are_there shape v tables d h n named =
    let t = named_table shape v n d named in
    (t.1.image, ap tables (sym t.3) ∙ h t.0 t.1 t.2)

-- ---- a change of the version

-- The one operation by which the manifest becomes that of the new version.
pub record Turned (x : World) (i : HeldManifest) (shape : Version) (ask : Asked) : Type 0 where
  pub o : Operation
  pub is : operations shape (ask ∷ []) ≡ o ∷ []
  pub allowed : Allows x o
  pub fails : failed x o ≡ x
  pub manifest : (after x o).manifest ≡ i.number
  pub bytes : (after x o).bytes ≡ i.bytes
  pub version : (after x o).version ≡ shape
  pub tables : (after x o).tables ≡ x.tables
  pub sure_are : sure x o ≡ x.tables

pub record Rises (h i : HeldManifest) (next later : ℕ) : Type 0 where
  pub next_le : next ≤ later
  pub own : i.number < later
  pub fits : later < 2 ^ 64

module _ (h i : HeldManifest) (v w : Levels) (d : Difference) (next later n0 r1 n1 : ℕ) (x : World) (shape : Version) (was is : Told)
    (before : IsRecorded 0 h v n0) (behind : IsRecorded r1 i w n1) (number : x.manifest ≡ h.number) (text : x.bytes ≡ h.bytes)
    (comes : ComesTo x.bytes x.version) (has : HasTables x.tables w) (own : h.number < next) (small : next < 2 ^ 64) (to : ComesTo i.bytes shape) where
  there : AreThere shape x.tables
  there = are_there shape w x.tables (recorded_describes r1 i w n1 shape behind to) has

  leads : Grows (change_edit h d next) h i was is → LeadsTo h.bytes (record_of h.bytes (change_edit h d next)) x.version shape
  leads g =
      let old : ComesTo h.bytes x.version = subst (λ b. ComesTo b x.version) text comes in
      let same = (one_manifest h.bytes old.edits before.edits old.rest 0 old.manifest before.manifest).0 in
      let new : ComesTo (h.bytes ++ record_of h.bytes (change_edit h d next)) shape = subst (λ b. ComesTo b shape) (ap (λ (m : HeldManifest). m.bytes) g.held) to in
      let both = (one_manifest (h.bytes ++ record_of h.bytes (change_edit h d next)) new.edits (before.edits ++ change_edit h d next ∷ []) new.rest 0 new.manifest
      (grown h.bytes (edit_text (change_edit h d next)) before.edits (change_edit h d next) before.manifest g.spelled)).0 in
      record {
        edits = before.edits;
        own = edit_text (change_edit h d next);
        edit = change_edit h d next;
        manifest = before.manifest;
        replayed = subst (λ (es : List Change). IsReplayed es x.version) same old.replayed;
        spelled = g.spelled;
        text_is = refl;
        becomes = subst (λ (es : List Change). IsReplayed es shape) both new.replayed;
      }

  turns_at : (b : Bool) → MatchBool b ((later ≡ next + 1) × RollsOver w next h i was is) ((later ≡ next) × Grows (change_edit h d next) h i was is)
      → Turned x i shape (if b then started_by w next h else AppendManifest (record_of h.bytes (change_edit h d next)))
  turns_at true s = record {
    o = Start next (record_of [] (version_edit h w (next + 1))) shape;
    is = refl;
    allowed = record {
      small = small;
      other = λ k. elim k [ inl e ↦ (let f : h.number ≡ next = sym number ∙ e in omega arith) | inr none ↦ none ];
      comes = subst (λ b. ComesTo b shape) (ap (λ (m : HeldManifest). m.bytes) s.1.held) to;
      there = there;
    };
    fails = refl;
    manifest = sym (ap (λ (m : HeldManifest). m.number) s.1.held);
    bytes = sym (ap (λ (m : HeldManifest). m.bytes) s.1.held);
    version = refl;
    tables = refl;
    sure_are = refl;
  }
  turns_at false s = record {
    o = Append (record_of h.bytes (change_edit h d next)) shape;
    is = refl;
    allowed = (subst (λ b. LeadsTo b (record_of h.bytes (change_edit h d next)) x.version shape) (sym text) (leads s.1), there);
    fails = refl;
    manifest = number ∙ sym (ap (λ (m : HeldManifest). m.number) s.1.held);
    bytes = ap (λ b. b ++ record_of h.bytes (change_edit h d next)) text ∙ sym (ap (λ (m : HeldManifest). m.bytes) s.1.held);
    version = refl;
    tables = refl;
    sure_are = refl;
  }

  pub turned : Sends d w next later h i was is → Turned x i shape (asked_by d w next h)
  turned s = turns_at (is_at_limit h) s

  rises_at : (b : Bool) → (b ≡ true → next + 1 < 2 ^ 64) → MatchBool b ((later ≡ next + 1) × RollsOver w next h i was is) ((later ≡ next) × Grows (change_edit h d next) h i was is) → Rises h i next later
  rises_at true room s = (let e = s.0 in let m : i.number ≡ next = ap (λ (m : HeldManifest). m.number) s.1.held in let lt = room refl in record { next_le = omega arith; own = omega arith; fits = omega arith })
  rises_at false room s = (let e = s.0 in let m : i.number ≡ h.number = ap (λ (m : HeldManifest). m.number) s.1.held in record { next_le = omega arith; own = omega arith; fits = omega arith })

  pub rises : (is_at_limit h ≡ true → next + 1 < 2 ^ 64) → Sends d w next later h i was is → Rises h i next later
  rises room s = rises_at (is_at_limit h) room s
