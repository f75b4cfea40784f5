use Rattle.std.proofs.Common.{◌≡◌, ℕ, Some, List, ◌++◌, length, ◌∙◌, ap, sym, subst}
use Rattle.lsm_codec.specs.Entries.{Entry}
use Rattle.lsm_codec.specs.Lists.{Has}
use Rattle.lsm_shelf.specs.Asked.{Asked}
use Rattle.lsm_shelf.specs.declared.shelf_fault.ShelfFault.{ShelfFault}
use Rattle.lsm_model.specs.Law.{Law}
use Rattle.lsm_model.specs.Runs.{Agrees}
use Rattle.lsm_version.specs.Versions.{Levels}
use Rattle.lsm_live.specs.Booked.{Booked}
use Rattle.lsm_journal.specs.Difference.{Difference, changed_by}
use Rattle.lsm_merge.specs.Work.{Done, Work}
use Rattle.lsm_state.specs.Asked.{ChangeRefused, InstallRefused, OnShelf}
use Rattle.lsm_state.specs.Changing.{ChangesVersion, live_after, plain_after}
use Rattle.lsm_state.specs.Held.{HasInputs, Held}
use Rattle.lsm_state.specs.Installing.{IsInstallChange}
use Rattle.lsm_state.proofs.AskedLaws.{on_more}
use Rattle.lsm_state.proofs.IngestLaws.{err_is}
use Rattle.lsm_state.proofs.InstallLaws.{agrees_installed, answers_of, input_keys, inputs_installed, installing, installs, law_installed, same_installed, suits_installed, whole_installed}
use Rattle.lsm_state.proofs.state.State.put_in.Goals as goal

pub change_of-requires-clause-keys : goal.change_of-requires-clause-keys
change_of-requires-clause-keys g c κs within =
    let b = c.requires.may.live in
    input_keys g.S.Shelf.honest g.N.Boarded.board c.args.self.now c.args.done.now b.0 c.options-options.ensures.law b.1

pub change_version-requires-clause-suits : goal.change_version-requires-clause-suits
change_version-requires-clause-suits g c κs within =
    let h : Held = c.args.self.now in
    let d : Done = c.args.done.now in
    let b = c.requires.may.live in
    let x : Difference = c.in_ok-change.change in
    let same : c.version.result.now ≡ h.slots.version = c.version.ensures.version ∙ ap (λ (s : Held). s.slots.version) c.self.view_is in
    let i : IsInstallChange d h.slots.version.last x = subst (λ (n : ℕ). IsInstallChange d n x) (c.last-last.ensures.last ∙ ap (λ (v : Levels). v.last) same) c.in_ok-change.ensures in
    suits_installed g.S.Shelf.honest g.N.Boarded.board h d x b.0 c.options-options.ensures.law b.1 c.job.ensures.finished i

pub change_version-requires-clause-whole : goal.change_version-requires-clause-whole
change_version-requires-clause-whole g c κs within =
    whole_installed g.S.Shelf.honest c.args.done.now c.last-last.result c.in_ok-change.change c.job.ensures.finished c.in_ok-change.ensures

pub change_version-requires-clause-law : goal.change_version-requires-clause-law
change_version-requires-clause-law g c κs within =
    let h : Held = c.args.self.now in
    let d : Done = c.args.done.now in
    let b = c.requires.may.live in
    let x : Difference = c.in_ok-change.change in
    let same : c.version.result.now ≡ h.slots.version = c.version.ensures.version ∙ ap (λ (s : Held). s.slots.version) c.self.view_is in
    let i : IsInstallChange d h.slots.version.last x = subst (λ (n : ℕ). IsInstallChange d n x) (c.last-last.ensures.last ∙ ap (λ (v : Levels). v.last) same) c.in_ok-change.ensures in
    let seven : length h.slots.version.tables ≡ 7 = subst (λ (v : Levels). length v.tables ≡ 7) same c.last-last.ensures.levels in
    let ticket : c.ticket-ticket.result ≡ d.work.ticket = c.ticket-ticket.ensures.ticket ∙ ap (λ (w : Work). w.ticket) c.job.ensures.job in
    subst (λ (n : ℕ). Law g.S.Shelf.honest (plain_after h x (Some n))) (sym ticket) (law_installed c.changed_files.ensures g.S.Shelf.honest g.N.Boarded.board h d x b.0 c.options-options.ensures.law seven b.1 c.job.ensures.finished i)

pub change_version-requires-clause-inputs : goal.change_version-requires-clause-inputs
change_version-requires-clause-inputs g c κs within =
    let h : Held = c.args.self.now in
    let d : Done = c.args.done.now in
    let b = c.requires.may.live in
    let x : Difference = c.in_ok-change.change in
    let same : c.version.result.now ≡ h.slots.version = c.version.ensures.version ∙ ap (λ (s : Held). s.slots.version) c.self.view_is in
    let i : IsInstallChange d h.slots.version.last x = subst (λ (n : ℕ). IsInstallChange d n x) (c.last-last.ensures.last ∙ ap (λ (v : Levels). v.last) same) c.in_ok-change.ensures in
    let ticket : c.ticket-ticket.result ≡ d.work.ticket = c.ticket-ticket.ensures.ticket ∙ ap (λ (w : Work). w.ticket) c.job.ensures.job in
    subst (λ (n : ℕ). (other : Booked) → Has (live_after (Some n) h.live) other → HasInputs (changed_by x h.slots.version) other.work) (sym ticket)
    (inputs_installed c.changed_tables.ensures g.S.Shelf.honest g.N.Boarded.board h d x b.0 c.options-options.ensures.law b.1 i)

pub change_version-requires-clause-agrees : goal.change_version-requires-clause-agrees
change_version-requires-clause-agrees g c κs within fair =
    let h : Held = c.args.self.now in
    let d : Done = c.args.done.now in
    let b = c.requires.may.live in
    let x : Difference = c.in_ok-change.change in
    let same : c.version.result.now ≡ h.slots.version = c.version.ensures.version ∙ ap (λ (s : Held). s.slots.version) c.self.view_is in
    let i : IsInstallChange d h.slots.version.last x = subst (λ (n : ℕ). IsInstallChange d n x) (c.last-last.ensures.last ∙ ap (λ (v : Levels). v.last) same) c.in_ok-change.ensures in
    let seven : length h.slots.version.tables ≡ 7 = subst (λ (v : Levels). length v.tables ≡ 7) same c.last-last.ensures.levels in
    let ticket : c.ticket-ticket.result ≡ d.work.ticket = c.ticket-ticket.ensures.ticket ∙ ap (λ (w : Work). w.ticket) c.job.ensures.job in
    let es : List Entry = c.empty-nothing.result.entries in
    subst (λ (n : ℕ). Agrees (plain_after h x (Some n)) (es ++ h.history)) (sym ticket)
    (agrees_installed c.changed_files.ensures g.S.Shelf.honest g.N.Boarded.board h d x b.0 es c.options-options.ensures.law seven b.1 c.job.ensures.finished i c.empty-nothing.ensures.entries fair)

pub returns-clause-installed : goal.returns-clause-installed
returns-clause-installed g c =
    let h : Held = c.args.self.now in
    let d : Done = c.args.done.now in
    let x : Difference = c.in_ok-change.change in
    let same : c.version.result.now ≡ h.slots.version = c.version.ensures.version ∙ ap (λ (s : Held). s.slots.version) c.self.view_is in
    let i : IsInstallChange d h.slots.version.last x = subst (λ (n : ℕ). IsInstallChange d n x) (c.last-last.ensures.last ∙ ap (λ (v : Levels). v.last) same) c.in_ok-change.ensures in
    let ticket : c.ticket-ticket.result ≡ d.work.ticket = c.ticket-ticket.ensures.ticket ∙ ap (λ (w : Work). w.ticket) c.job.ensures.job in
    let was = c.args.shelf.now in
    let is = c.change_version.new.shelf in
    let new : Held = c.change_version.new.self in (
      x,
      i,
      subst (λ (es : List Entry). ChangesVersion h new x (Some d.work.ticket) es was is) c.empty-nothing.ensures.entries
          (subst (λ (n : ℕ). ChangesVersion h new x (Some n) c.empty-nothing.result.entries was is) ticket c.in_ok-change_version.ensures.ok),
    )

pub returns-clause-history : goal.returns-clause-history
returns-clause-history g c =
    let h : Held = c.args.self.now in
    (ap (λ (x : Held). x.history) (c.in_ok-change_version.ensures.ok).rest) ∙ ap (λ (es : List Entry). es ++ h.history) c.empty-nothing.ensures.entries

pub returns-clause-answers : goal.returns-clause-answers
returns-clause-answers g c fair =
    let h : Held = c.args.self.now in
    let d : Done = c.args.done.now in
    let b = c.requires.may.live in
    let x : Difference = c.in_ok-change.change in
    let same : c.version.result.now ≡ h.slots.version = c.version.ensures.version ∙ ap (λ (s : Held). s.slots.version) c.self.view_is in
    let i : IsInstallChange d h.slots.version.last x = subst (λ (n : ℕ). IsInstallChange d n x) (c.last-last.ensures.last ∙ ap (λ (v : Levels). v.last) same) c.in_ok-change.ensures in
    let seven : length h.slots.version.tables ≡ 7 = subst (λ (v : Levels). length v.tables ≡ 7) same c.last-last.ensures.levels in
    let was = c.args.shelf.now in
    let is = c.change_version.new.shelf in
    answers_of h c.change_version.new.self x (Some c.ticket-ticket.result) c.empty-nothing.result.entries was is c.in_ok-change_version.ensures.ok
    (same_installed c.changed_files.ensures g.S.Shelf.honest g.N.Boarded.board h d x b.0 c.options-options.ensures.law seven b.1 c.job.ensures.finished i fair)

pub returns-clause-event : goal.returns-clause-event
returns-clause-event g c =
    let h : Held = c.args.self.now in
    let d : Done = c.args.done.now in
    let b = c.requires.may.live in
    let x : Difference = c.in_ok-change.change in
    let same : c.version.result.now ≡ h.slots.version = c.version.ensures.version ∙ ap (λ (s : Held). s.slots.version) c.self.view_is in
    let i : IsInstallChange d h.slots.version.last x = subst (λ (n : ℕ). IsInstallChange d n x) (c.last-last.ensures.last ∙ ap (λ (v : Levels). v.last) same) c.in_ok-change.ensures in
    let seven : length h.slots.version.tables ≡ 7 = subst (λ (v : Levels). length v.tables ≡ 7) same c.last-last.ensures.levels in
    let ticket : c.ticket-ticket.result ≡ d.work.ticket = c.ticket-ticket.ensures.ticket ∙ ap (λ (w : Work). w.ticket) c.job.ensures.job in
    let was = c.args.shelf.now in
    let is = c.change_version.new.shelf in
    let new : Held = c.change_version.new.self in
    installing g.S.Shelf.honest h new x d.work.ticket c.empty-nothing.result.entries was is (installs c.changed_files.ensures g.S.Shelf.honest h d x b.0 seven b.1 c.job.ensures.finished i)
    (subst (λ (n : ℕ). ChangesVersion h new x (Some n) c.empty-nothing.result.entries was is) ticket c.in_ok-change_version.ensures.ok)

pub returns-in_err-change_version-clause-asked : goal.returns-in_err-change_version-clause-asked
returns-in_err-change_version-clause-asked g c =
    let Refused : Asked → ShelfFault → Type 0 = g.S.Shelf.refuses g.N.Naming.place in
    let h : Held = c.args.self.now in
    let d : Done = c.args.done.now in
    let x : Difference = c.in_ok-change.change in
    let same : c.version.result.now ≡ h.slots.version = c.version.ensures.version ∙ ap (λ (s : Held). s.slots.version) c.self.view_is in
    let i : IsInstallChange d h.slots.version.last x = subst (λ (n : ℕ). IsInstallChange d n x) (c.last-last.ensures.last ∙ ap (λ (v : Levels). v.last) same) c.in_ok-change.ensures in
    err_is (OnShelf (InstallRefused Refused h d)) c.from_residual-in_err-change_version.result c.in_err-change_version.field-0.0 c.from_residual-in_err-change_version.ensures.1
    (on_more (ChangeRefused Refused h x) (InstallRefused Refused h d) (λ f r. (x, i, r)) c.in_err-change_version.field-0.0 c.in_err-change_version.ensures.asked)
