use Rattle.std.proofs.Common.{◌≡◌, ℕ, ◌-◌, List, inl, inr, refl, sym, subst, rules}
use Rattle.std.specs.Io.KnownBytes.{Appends}
use Rattle.std.proofs.lemmas.Result.{err_from_is_err_and}
use Rattle.lsm_directory.proofs.CallerLemmas.{keeps_same}
use Rattle.lsm_shelf.specs.Told.{Place}
use Rattle.lsm_slots.specs.Slots.{current_id}
use Rattle.lsm_store.specs.Compacting.{IsLeftByWorkers}
use Rattle.lsm_cmd_compact.specs.Compacting.{IsNamed, IsOpened, StopsWorking, Works, installed_between}
use Rattle.lsm_opening.specs.Compactions.{installed_text}
use Rattle.lsm_cmd_compact.proofs.CompactOutcomes.{compacts, named_still, unfinished, unswept}
use Rattle.lsm_cmd_compact.proofs.Quiet.{quiet_then}
use Rattle.lsm_cmd_compact.proofs.compacting.compact_named.Goals as goal

pub compact_state-requires-clause-kept : goal.compact_state-requires-clause-kept
compact_state-requires-clause-kept g c κs within = c.what_was_found_is_kept.ensures.seated c.in_ok-state.state

pub compact_state-requires-clause-steps : goal.compact_state-requires-clause-steps
compact_state-requires-clause-steps g c κs within = c.what_was_found_is_kept.ensures.kept c.in_ok-state.state

pub returns-in_err-state-clause-fault : goal.returns-in_err-state-clause-fault
returns-in_err-state-clause-fault g c =
    let p = err_from_is_err_and c.from_residual.result c.from_residual.ensures.1 in
    rw (p.1, p.2) (inl (c.in_err-state.field-0.0, refl, c.in_err-state.ensures.refused))

pub returns-in_err-state-clause-left : goal.returns-in_err-state-clause-left
returns-in_err-state-clause-left g c =
    let p = err_from_is_err_and c.from_residual.result c.from_residual.ensures.1 in
    rw (p.1, p.2) (λ other. keeps_same (g.O.Write.contents c.args.out.now))

pub returns-in_err-left-clause-fault : goal.returns-in_err-left-clause-fault
returns-in_err-left-clause-fault g c =
    let p = err_from_is_err_and c.from_residual-in_err-left.result c.from_residual-in_err-left.ensures.1 in
    let Stored : ℕ → List ℕ → Type 0 = λ number image. (r : g.row.S-Receipt.Denot) × g.S.Shelf.is_of g.N.Naming.place r × (g.S.Receipt.TableReceipt.number r ≡ number) × (g.S.Receipt.TableReceipt.image r ≡ image) in
    let Refused = g.S.Shelf.refuses g.N.Naming.place in
    let found = c.in_ok-state.state in
    let opened : IsOpened g.S.Shelf.honest g.N.Boarded.board found c.args.shelf.now c.open.new.shelf = record { opened = c.in_ok-state.ensures.opened; on = c.in_ok-state.ensures.board } in
    let e = c.in_err-left.field-0.0 in
    let stops =
    subst (λ (at : Place). StopsWorking Refused g.S.Shelf.honest (IsLeftByWorkers g.S.Shelf.honest found) at found c.args.options.now e c.open.new.shelf c.compact_state.new.shelf) (sym c.requires.shelf)
    c.in_err-left.ensures.refused
    in
    rw (p.1, p.2) (unfinished Stored Refused g.S.Shelf.honest g.N.Boarded.board found c.args.options.now e _ _ _ opened stops)

pub returns-in_err-find_manifest-clause-fault : goal.returns-in_err-find_manifest-clause-fault
returns-in_err-find_manifest-clause-fault g c =
    let p = err_from_is_err_and c.from_residual-in_err-find_manifest.result c.from_residual-in_err-find_manifest.ensures.1 in
    let Stored : ℕ → List ℕ → Type 0 = λ number image. (r : g.row.S-Receipt.Denot) × g.S.Shelf.is_of g.N.Naming.place r × (g.S.Receipt.TableReceipt.number r ≡ number) × (g.S.Receipt.TableReceipt.image r ≡ image) in
    let Refused = g.S.Shelf.refuses g.N.Naming.place in
    let Honest = g.S.Shelf.honest in
    let law = c.what_was_found_is_kept.ensures in
    let found = c.in_ok-state.state in
    let opened : IsOpened Honest g.N.Boarded.board found c.args.shelf.now c.open.new.shelf = record { opened = c.in_ok-state.ensures.opened; on = c.in_ok-state.ensures.board } in
    let worked =
    subst (λ (at : Place). Works Refused Honest (IsLeftByWorkers Honest found) at found c.args.options.now c.open.new.shelf c.compact_state.new.shelf) (sym c.requires.shelf) c.in_ok-left.ensures.worked
    in
    let left : IsLeftByWorkers Honest found c.in_ok-left.left = law.out found c.in_ok-left.left c.in_ok-left.ensures.kept in
    rw (p.1, p.2) (unswept Stored Refused Honest g.N.Boarded.board found c.in_ok-left.left c.args.options.now c.in_err-find_manifest.field-0.0 _ _ _ _ opened worked
    c.in_ok-left.ensures.cleared left (inl c.in_err-find_manifest.ensures.refused))

pub returns-in_err-sweep_all-clause-fault : goal.returns-in_err-sweep_all-clause-fault
returns-in_err-sweep_all-clause-fault g c =
    let p = err_from_is_err_and c.from_residual-in_err-sweep_all.result c.from_residual-in_err-sweep_all.ensures.1 in
    let Stored : ℕ → List ℕ → Type 0 = λ number image. (r : g.row.S-Receipt.Denot) × g.S.Shelf.is_of g.N.Naming.place r × (g.S.Receipt.TableReceipt.number r ≡ number) × (g.S.Receipt.TableReceipt.image r ≡ image) in
    let Refused = g.S.Shelf.refuses g.N.Naming.place in
    let Honest = g.S.Shelf.honest in
    let law = c.what_was_found_is_kept.ensures in
    let found = c.in_ok-state.state in
    let opened : IsOpened Honest g.N.Boarded.board found c.args.shelf.now c.open.new.shelf = record { opened = c.in_ok-state.ensures.opened; on = c.in_ok-state.ensures.board } in
    let worked =
    subst (λ (at : Place). Works Refused Honest (IsLeftByWorkers Honest found) at found c.args.options.now c.open.new.shelf c.compact_state.new.shelf) (sym c.requires.shelf) c.in_ok-left.ensures.worked
    in
    let after = c.sweep_all.new.state in
    let left : IsLeftByWorkers Honest found after = law.looked found c.in_ok-left.left after (law.out found c.in_ok-left.left c.in_ok-left.ensures.kept) c.in_err-sweep_all.ensures.looked c.in_err-sweep_all.ensures.rest in
    let named : IsNamed after c.compact_state.new.shelf c.find_manifest.new.shelf = named_still c.in_ok-left.left after _ _ c.in_err-sweep_all.ensures.rest c.in_ok-find_manifest.ensures.named in
    rw (p.1, p.2) (unswept Stored Refused Honest g.N.Boarded.board found after c.args.options.now _ _ _ _ _ opened worked
    c.in_ok-left.ensures.cleared left
    (inr (
      c.in_err-sweep_all.field-0.0,
      c.find_manifest.new.shelf,
      refl,
      named,
      c.in_err-sweep_all.ensures.refused,
    )))

pub returns-in_err-find_manifest-clause-left : goal.returns-in_err-find_manifest-clause-left
returns-in_err-find_manifest-clause-left g c =
    let p = err_from_is_err_and c.from_residual-in_err-find_manifest.result c.from_residual-in_err-find_manifest.ensures.1 in
    rw (p.1, p.2) (λ other. keeps_same (g.O.Write.contents c.args.out.now))

pub returns-in_err-sweep_all-clause-left : goal.returns-in_err-sweep_all-clause-left
returns-in_err-sweep_all-clause-left g c =
    let p = err_from_is_err_and c.from_residual-in_err-sweep_all.result c.from_residual-in_err-sweep_all.ensures.1 in
    rw (p.1, p.2) (λ other. keeps_same (g.O.Write.contents c.args.out.now))

pub returns-clause-fault : goal.returns-clause-fault
returns-clause-fault g c =
    let Refused = g.S.Shelf.refuses g.N.Naming.place in
    let Honest = g.S.Shelf.honest in
    let law = c.what_was_found_is_kept.ensures in
    let found = c.in_ok-state.state in
    let opened : IsOpened Honest g.N.Boarded.board found c.args.shelf.now c.open.new.shelf = record { opened = c.in_ok-state.ensures.opened; on = c.in_ok-state.ensures.board } in
    let worked =
    subst (λ (at : Place). Works Refused Honest (IsLeftByWorkers Honest found) at found c.args.options.now c.open.new.shelf c.compact_state.new.shelf) (sym c.requires.shelf) c.in_ok-left.ensures.worked
    in
    let after = c.sweep_all.new.state in
    let left : IsLeftByWorkers Honest found after = law.looked found c.in_ok-left.left after (law.out found c.in_ok-left.left c.in_ok-left.ensures.kept) c.in_ok-sweep_all.ensures.looked c.in_ok-sweep_all.ensures.rest in
    let named : IsNamed after c.compact_state.new.shelf c.find_manifest.new.shelf = named_still c.in_ok-left.left after _ _ c.in_ok-sweep_all.ensures.rest c.in_ok-find_manifest.ensures.named in
    let begun : c.current-begun.result.0 ≡ current_id found.slots = c.current-begun.ensures.id in
    let ended : c.current.result.0 ≡ current_id c.in_ok-left.left.slots = c.current.ensures.id in
    let same : current_id after.slots ≡ current_id c.in_ok-left.left.slots = c.in_ok-sweep_all.ensures.looked.id in
    let less : c.saturating_sub-installed.result ≡ c.current.result.0 - c.current-begun.result.0 = c.saturating_sub-installed.ensures in
    let count : c.saturating_sub-installed.result ≡ installed_between found after = cc in
    inr (inr (inr (
      refl,
      (
        c.saturating_sub-installed.result,
        compacts Refused Honest g.N.Boarded.board found after c.args.options.now _ _ _ _ _ _ opened worked c.in_ok-left.ensures.cleared left count named
            c.in_ok-sweep_all.ensures.ok,
      ),
    )))

pub returns-in-Ok-clause-done : goal.returns-in-Ok-clause-done
returns-in-Ok-clause-done g c =
    let Refused = g.S.Shelf.refuses g.N.Naming.place in
    let Honest = g.S.Shelf.honest in
    let law = c.what_was_found_is_kept.ensures in
    let found = c.in_ok-state.state in
    let opened : IsOpened Honest g.N.Boarded.board found c.args.shelf.now c.open.new.shelf = record { opened = c.in_ok-state.ensures.opened; on = c.in_ok-state.ensures.board } in
    let worked =
    subst (λ (at : Place). Works Refused Honest (IsLeftByWorkers Honest found) at found c.args.options.now c.open.new.shelf c.compact_state.new.shelf) (sym c.requires.shelf) c.in_ok-left.ensures.worked
    in
    let after = c.sweep_all.new.state in
    let left : IsLeftByWorkers Honest found after = law.looked found c.in_ok-left.left after (law.out found c.in_ok-left.left c.in_ok-left.ensures.kept) c.in_ok-sweep_all.ensures.looked c.in_ok-sweep_all.ensures.rest in
    let named : IsNamed after c.compact_state.new.shelf c.find_manifest.new.shelf = named_still c.in_ok-left.left after _ _ c.in_ok-sweep_all.ensures.rest c.in_ok-find_manifest.ensures.named in
    let begun : c.current-begun.result.0 ≡ current_id found.slots = c.current-begun.ensures.id in
    let ended : c.current.result.0 ≡ current_id c.in_ok-left.left.slots = c.current.ensures.id in
    let same : current_id after.slots ≡ current_id c.in_ok-left.left.slots = c.in_ok-sweep_all.ensures.looked.id in
    let less : c.saturating_sub-installed.result ≡ c.current.result.0 - c.current-begun.result.0 = c.saturating_sub-installed.ensures in
    let count : c.saturating_sub-installed.result ≡ installed_between found after = cc in
    let written : Appends (g.O.Write.contents c.args.out.now) (g.O.Write.contents c.reply.new.out) (installed_text c.saturating_sub-installed.result) = search rules in (
      c.saturating_sub-installed.result,
      compacts Refused Honest g.N.Boarded.board found after c.args.options.now _ _ _ _ _ _ opened worked c.in_ok-left.ensures.cleared left count named
          c.in_ok-sweep_all.ensures.ok,
      written,
    )

pub returns-in_err-left-clause-quiet : goal.returns-in_err-left-clause-quiet
returns-in_err-left-clause-quiet g c =
    quiet_then c.args.options.now.progress _ (g.E.Write.contents c.tell_opened.new.err) _ c.tell_opened.ensures.quiet c.in_err-left.ensures.quiet

pub returns-in_err-find_manifest-clause-quiet : goal.returns-in_err-find_manifest-clause-quiet
returns-in_err-find_manifest-clause-quiet g c =
    let asked = c.args.options.now.progress in
    let worked = g.E.Write.contents c.compact_state.new.err in
    let told = g.E.Write.contents c.tell_installed.new.err in
    let first = quiet_then asked _ (g.E.Write.contents c.tell_opened.new.err) worked c.tell_opened.ensures.quiet c.in_ok-left.ensures.quiet in
    let second = quiet_then asked _ worked told first c.tell_installed.ensures.quiet in
    second

pub returns-in_err-sweep_all-clause-quiet : goal.returns-in_err-sweep_all-clause-quiet
returns-in_err-sweep_all-clause-quiet g c =
    let asked = c.args.options.now.progress in
    let worked = g.E.Write.contents c.compact_state.new.err in
    let told = g.E.Write.contents c.tell_installed.new.err in
    let first = quiet_then asked _ (g.E.Write.contents c.tell_opened.new.err) worked c.tell_opened.ensures.quiet c.in_ok-left.ensures.quiet in
    let second = quiet_then asked _ worked told first c.tell_installed.ensures.quiet in
    quiet_then asked _ told _ second c.in_err-sweep_all.ensures.quiet

pub returns-clause-quiet : goal.returns-clause-quiet
returns-clause-quiet g c =
    let asked = c.args.options.now.progress in
    let worked = g.E.Write.contents c.compact_state.new.err in
    let told = g.E.Write.contents c.tell_installed.new.err in
    let first = quiet_then asked _ (g.E.Write.contents c.tell_opened.new.err) worked c.tell_opened.ensures.quiet c.in_ok-left.ensures.quiet in
    let second = quiet_then asked _ worked told first c.tell_installed.ensures.quiet in
    quiet_then asked _ told _ second c.in_ok-sweep_all.ensures.quiet

pub returns-in-Ok-clause-quiet : goal.returns-in-Ok-clause-quiet
returns-in-Ok-clause-quiet g c =
    let asked = c.args.options.now.progress in
    let worked = g.E.Write.contents c.compact_state.new.err in
    let told = g.E.Write.contents c.tell_installed.new.err in
    let first = quiet_then asked _ (g.E.Write.contents c.tell_opened.new.err) worked c.tell_opened.ensures.quiet c.in_ok-left.ensures.quiet in
    let second = quiet_then asked _ worked told first c.tell_installed.ensures.quiet in
    quiet_then asked _ told _ second c.in_ok-sweep_all.ensures.quiet
