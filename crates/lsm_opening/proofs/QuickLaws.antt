-- States whose databases are opened quickly.
use Rattle.std.proofs.Common.{◌≡◌, ◌∙◌, ℕ, List, ap, inr, subst, sym}
use Rattle.std.specs.Prelude.{Result, Ok, Err, IfOk, IfErr}
use Rattle.lsm_shelf.specs.Asked.{Asked}
use Rattle.lsm_shelf.specs.declared.shelf_fault.ShelfFault.{ShelfFault}
use Rattle.lsm_shelf.specs.Told.{Told, finding}
use Rattle.lsm_table.proofs.CallerLemmas.{becomes_same}
use Rattle.lsm_manifest.specs.Shape.{Form}
use Rattle.lsm_journal.specs.HeldManifest.{HeldManifest}
use Rattle.lsm_journal.specs.declared.open_fault.OpenFault.{OpenFault}
use Rattle.lsm_admission.specs.Indexes.{HaveIndexes, all_tables}
use Rattle.lsm_state.specs.Held.{Held}
use Rattle.lsm_state.specs.Options.{limit_of}
use Rattle.lsm_state.specs.Unjudged.{IsBegunUnjudged, IsUnjudgedRefusal}
use Rattle.lsm_state.specs.declared.options.Options.{Options}
use Rattle.lsm_directory.specs.Logs.{NoneUnread}
use Rattle.lsm_directory.specs.declared.folder.folder_file.FolderFile.{FolderFile}
use Rattle.lsm_opening.specs.Quick.{IsNotOpenedQuickly, IsOpenedWith, OpensQuickly}
use Rattle.lsm_opening.specs.Starting.{IsReopenedWith, OpensWith}
use Rattle.lsm_opening.specs.WriterFault.{of_open}
use Rattle.lsm_opening.specs.declared.faults.writer_fault.WriterFault.{WriterFault}

pub opens_quickly : {E : Type 0} (r : Result Held E) (Keeps : ℕ → List ℕ → Type 0)
    (Honest Kept : Type 0) (p o : Options) (shape : Form) (logs : List FolderFile) (was is : Told)
    → p ≡ o → NoneUnread shape.log shape.prev_log logs
    → IfOk r (λ s. IsBegunUnjudged Keeps shape (limit_of p) s.journal s.slots.version s.next was is)
    → IfOk r (λ s. IsOpenedWith p s)
    → (Honest → IfOk r (λ s. HaveIndexes (all_tables s.slots.version.tables)))
    → (Honest → Kept → IfOk r (λ s. IsReopenedWith (Honest × Kept) p s was is))
    → IfOk r (λ s. OpensQuickly Keeps Honest Kept o shape logs s was is)
opens_quickly (Ok s) Keeps Honest Kept p o shape logs was is same flushed begun state has judged =
    subst (λ (q : Options). OpensQuickly Keeps Honest Kept q shape logs s was is) same (record {
      flushed = flushed;
      state = state;
      begun = begun;
      indexes = has;
      judged = judged;
    })
opens_quickly (Err x) Keeps Honest Kept p o shape logs was is same flushed begun state has judged =
    tt

pub refused_quickly : {T : Type 0} (r : Result T WriterFault) (Keeps : ℕ → List ℕ → Type 0)
    (Refused : Asked → ShelfFault → Type 0) (Honest : Type 0) (p o : Options) (shape : Form)
    (logs : List FolderFile) (was is : Told) → p ≡ o
    → IfErr r (λ e. (fault : OpenFault) × (e ≡ of_open fault)
    × IsUnjudgedRefusal Keeps Refused Honest shape (limit_of p) fault was is)
    → IfErr r (λ e. IsNotOpenedQuickly Keeps Refused Honest o shape logs e was is)
refused_quickly (Ok x) Keeps Refused Honest p o shape logs was is same why = tt
refused_quickly (Err e) Keeps Refused Honest p o shape logs was is same (fault, names, why) =
    inr (inr (
      fault,
      names,
      subst (λ (q : Options). IsUnjudgedRefusal Keeps Refused Honest shape (limit_of q) fault was
          is) same why,
    ))

-- ---- where the tables are kept

pub opens_whole : (Keeps : ℕ → List ℕ → Type 0) (Honest Kept : Type 0) (o : Options) (shape : Form)
    (logs : List FolderFile) (h : Held) (was is : Told) → Honest → Kept
    → OpensQuickly Keeps Honest Kept o shape logs h was is
    → OpensWith (Honest × Kept) o logs h was is
opens_whole Keeps Honest Kept o shape logs h was is honest kept q =
    let w = q.judged honest kept in
    let b = w.begun in
    let f = b.found in
    let a = q.begun in
    let x = a.anew.rolls in
    let y = b.rolls in
    let log : shape.log ≡ f.shape.log = sym a.admitted.recovered.log
    ∙ (sym (ap (λ (m : HeldManifest). m.log) x.held) ∙ ap (λ (m : HeldManifest). m.log) y.held)
    ∙ f.loaded.recovered.log in
    let prev : shape.prev_log ≡ f.shape.prev_log = sym a.admitted.recovered.prev_log
    ∙ (sym (ap (λ (m : HeldManifest). m.prev_log) x.held)
    ∙ ap (λ (m : HeldManifest). m.prev_log) y.held)
    ∙ f.loaded.recovered.prev_log in
    let mid : Told = finding b.before.number b.before.bytes was in
    record {
      mid = mid;
      found = record {
        held = b.before;
        shape = f.shape;
        rest = b.rest;
        recovered = f.loaded.recovered;
        told = becomes_same mid;
        holds = subst (λ (n : ℕ). NoneUnread n f.shape.prev_log logs) log
            (subst (λ (n : ℕ). NoneUnread shape.log n logs) prev q.flushed);
      };
      opened = record {
        publisher = w.publisher;
        pinners = w.pinners;
        state = w.state;
        begun = record {
          before = b.before;
          rest = b.rest;
          number = b.number;
          read = b.read;
          found = record {
            shape = f.shape;
            listed = f.listed;
            loaded = f.loaded;
            limit_is = f.limit_is;
            least = f.least;
            fits = f.fits;
            told = f.told;
          };
          rolls = b.rolls;
          after = b.after;
          fits = b.fits;
        };
      };
    }
