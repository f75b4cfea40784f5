use Rattle.std.proofs.Common.{◌≡◌, ℕ, ◌<◌, length, None, ◌++◌, ◌∙◌, refl, sym, ap, subst, inl, inr, List, []}
use Rattle.lsm_codec.specs.Entries.{Entry}
use Rattle.lsm_codec.specs.Lists.{Has}
use Rattle.lsm_shelf.specs.Told.{Told}
use Rattle.lsm_shelf.proofs.CallerLemmas.{becomes_same}
use Rattle.lsm_table.specs.Registry.{Table}
use Rattle.lsm_version.specs.Versions.{IsSound, Levels, level_in}
use Rattle.lsm_picker.specs.Gathering.{newest}
use Rattle.lsm_journal.specs.Difference.{Difference}
use Rattle.lsm_state.specs.Changing.{ChangesVersion, IsChangeRefusal}
use Rattle.lsm_state.specs.Gathering.{GatherRefused, IsGatherChange, IsGathered, IsRefusedIn, IsUngathered, gathered}
use Rattle.lsm_state.specs.Held.{Held}
use Rattle.lsm_state.specs.Options.{sizes_of}
use Rattle.lsm_state.specs.declared.gather_fault.GatherFault.{GatherFault}
use Rattle.lsm_state.specs.declared.gather_fault.GatherFault.TheVariants.{Merge, State}
use Rattle.lsm_state.specs.declared.state_fault.StateFault.TheVariants.{OutOfMemory}
use Rattle.lsm_state.proofs.GatherLaws.{agrees_gathered, asked_change, change_slots, event_gathered, fault_is, inputs_gathered, law_gathered, number_left, numbers_left, spent_as, spent_more, spent_once, suits_gathered, two_at_least, whole_gathered, whole_newest}
use Rattle.lsm_state.proofs.Removing.{on_err}
use Rattle.lsm_state.proofs.state.State.gather_in.Goals as goal

pub put_gathered-requires-clause-number : goal.put_gathered-requires-clause-number
put_gathered-requires-clause-number g c κs within =
    number_left c.args.self.now c.requires.may.numbers

pub put_gathered-requires-clause-some : goal.put_gathered-requires-clause-some
put_gathered-requires-clause-some g c κs within =
    let h : Held = c.args.self.now in
    let v : c.version-version.result.now ≡ h.slots.version = c.version-version.ensures.version ∙ ap (λ (z : Held). z.slots.version) c.self.view_is in
    let gone : c.as_slice-gone.result.now ≡ gathered h c.args.least = c.as_slice-gone.ensures.value ∙ c.in_ok-tables.ensures ∙ ap (λ (ts : List Table). newest c.args.least ts) (c.level.ensures ∙ ap (λ (l : Levels). level_in l.tables 0) v) in
    subst (λ (ts : List Table). 0 < length ts) (sym gone) (two_at_least h c.args.least c.requires.may.rule)

pub put_gathered-requires-clause-whole : goal.put_gathered-requires-clause-whole
put_gathered-requires-clause-whole g c κs within =
    let h : Held = c.args.self.now in
    let v : c.version-version.result.now ≡ h.slots.version = c.version-version.ensures.version ∙ ap (λ (z : Held). z.slots.version) c.self.view_is in
    let gone : c.as_slice-gone.result.now ≡ gathered h c.args.least = c.as_slice-gone.ensures.value ∙ c.in_ok-tables.ensures ∙ ap (λ (ts : List Table). newest c.args.least ts) (c.level.ensures ∙ ap (λ (l : Levels). level_in l.tables 0) v) in
    λ honest t k. whole_newest c.args.least h.slots.version t (subst IsSound v (c.last-last.ensures.sound honest)) (subst (λ (ts : List Table). Has ts t) gone k)

pub change_version-requires-clause-suits : goal.change_version-requires-clause-suits
change_version-requires-clause-suits g c κs within =
    let h : Held = c.args.self.now in
    let v : c.version-version.result.now ≡ h.slots.version = c.version-version.ensures.version ∙ ap (λ (z : Held). z.slots.version) c.self.view_is in
    let gone : c.as_slice-gone.result.now ≡ gathered h c.args.least = c.as_slice-gone.ensures.value ∙ c.in_ok-tables.ensures ∙ ap (λ (ts : List Table). newest c.args.least ts) (c.level.ensures ∙ ap (λ (l : Levels). level_in l.tables 0) v) in
    let t : Table = c.in_ok-table.table in
    let x : Held = c.put_gathered.new.self in
    let same = c.put_gathered.ensures.rest in
    let is : IsGathered g.S.Shelf.honest (gathered h c.args.least) (sizes_of h.options) h.next t = subst (λ (ts : List Table). IsGathered g.S.Shelf.honest ts (sizes_of h.options) h.next t) gone c.in_ok-table.ensures.table in
    let d : Difference = c.in_ok-change.change in
    let i : IsGatherChange (gathered h c.args.least) t h.slots.version.last d = subst (λ (ts : List Table). IsGatherChange ts t h.slots.version.last d) gone (subst (λ (n : ℕ). IsGatherChange c.as_slice-gone.result.now t n d) c.last-before.ensures.last c.in_ok-change.ensures) in
    suits_gathered g.S.Shelf.honest h x c.args.least t d is i c.last-before.ensures.law.law same

pub change_version-requires-clause-whole : goal.change_version-requires-clause-whole
change_version-requires-clause-whole g c κs within =
    let h : Held = c.args.self.now in
    let v : c.version-version.result.now ≡ h.slots.version = c.version-version.ensures.version ∙ ap (λ (z : Held). z.slots.version) c.self.view_is in
    let gone : c.as_slice-gone.result.now ≡ gathered h c.args.least = c.as_slice-gone.ensures.value ∙ c.in_ok-tables.ensures ∙ ap (λ (ts : List Table). newest c.args.least ts) (c.level.ensures ∙ ap (λ (l : Levels). level_in l.tables 0) v) in
    let t : Table = c.in_ok-table.table in
    let x : Held = c.put_gathered.new.self in
    let same = c.put_gathered.ensures.rest in
    let is : IsGathered g.S.Shelf.honest (gathered h c.args.least) (sizes_of h.options) h.next t = subst (λ (ts : List Table). IsGathered g.S.Shelf.honest ts (sizes_of h.options) h.next t) gone c.in_ok-table.ensures.table in
    let d : Difference = c.in_ok-change.change in
    let i : IsGatherChange (gathered h c.args.least) t h.slots.version.last d = subst (λ (ts : List Table). IsGatherChange ts t h.slots.version.last d) gone (subst (λ (n : ℕ). IsGatherChange c.as_slice-gone.result.now t n d) c.last-before.ensures.last c.in_ok-change.ensures) in
    whole_gathered g.S.Shelf.honest (gathered h c.args.least) (sizes_of h.options) h.next h.slots.version.last t d is i

pub change_version-requires-clause-law : goal.change_version-requires-clause-law
change_version-requires-clause-law g c κs within =
    let h : Held = c.args.self.now in
    let v : c.version-version.result.now ≡ h.slots.version = c.version-version.ensures.version ∙ ap (λ (z : Held). z.slots.version) c.self.view_is in
    let gone : c.as_slice-gone.result.now ≡ gathered h c.args.least = c.as_slice-gone.ensures.value ∙ c.in_ok-tables.ensures ∙ ap (λ (ts : List Table). newest c.args.least ts) (c.level.ensures ∙ ap (λ (l : Levels). level_in l.tables 0) v) in
    let t : Table = c.in_ok-table.table in
    let x : Held = c.put_gathered.new.self in
    let same = c.put_gathered.ensures.rest in
    let is : IsGathered g.S.Shelf.honest (gathered h c.args.least) (sizes_of h.options) h.next t = subst (λ (ts : List Table). IsGathered g.S.Shelf.honest ts (sizes_of h.options) h.next t) gone c.in_ok-table.ensures.table in
    let d : Difference = c.in_ok-change.change in
    let i : IsGatherChange (gathered h c.args.least) t h.slots.version.last d = subst (λ (ts : List Table). IsGatherChange ts t h.slots.version.last d) gone (subst (λ (n : ℕ). IsGatherChange c.as_slice-gone.result.now t n d) c.last-before.ensures.last c.in_ok-change.ensures) in
    law_gathered c.changed_files.ensures c.whole_tables_fit.ensures g.S.Shelf.honest h x c.args.least t d c.last-before.ensures.levels c.requires.may.rule is i c.last-before.ensures.law.law same

pub change_version-requires-clause-inputs : goal.change_version-requires-clause-inputs
change_version-requires-clause-inputs g c κs within =
    let h : Held = c.args.self.now in
    let v : c.version-version.result.now ≡ h.slots.version = c.version-version.ensures.version ∙ ap (λ (z : Held). z.slots.version) c.self.view_is in
    let gone : c.as_slice-gone.result.now ≡ gathered h c.args.least = c.as_slice-gone.ensures.value ∙ c.in_ok-tables.ensures ∙ ap (λ (ts : List Table). newest c.args.least ts) (c.level.ensures ∙ ap (λ (l : Levels). level_in l.tables 0) v) in
    let t : Table = c.in_ok-table.table in
    let x : Held = c.put_gathered.new.self in
    let same = c.put_gathered.ensures.rest in
    let is : IsGathered g.S.Shelf.honest (gathered h c.args.least) (sizes_of h.options) h.next t = subst (λ (ts : List Table). IsGathered g.S.Shelf.honest ts (sizes_of h.options) h.next t) gone c.in_ok-table.ensures.table in
    let d : Difference = c.in_ok-change.change in
    let i : IsGatherChange (gathered h c.args.least) t h.slots.version.last d = subst (λ (ts : List Table). IsGatherChange ts t h.slots.version.last d) gone (subst (λ (n : ℕ). IsGatherChange c.as_slice-gone.result.now t n d) c.last-before.ensures.last c.in_ok-change.ensures) in
    inputs_gathered c.changed_tables.ensures g.S.Shelf.honest g.N.Boarded.board h x c.args.least t d c.requires.may.rule i c.last-before.ensures.law same

pub change_version-requires-clause-agrees : goal.change_version-requires-clause-agrees
change_version-requires-clause-agrees g c κs within =
    let h : Held = c.args.self.now in
    let v : c.version-version.result.now ≡ h.slots.version = c.version-version.ensures.version ∙ ap (λ (z : Held). z.slots.version) c.self.view_is in
    let gone : c.as_slice-gone.result.now ≡ gathered h c.args.least = c.as_slice-gone.ensures.value ∙ c.in_ok-tables.ensures ∙ ap (λ (ts : List Table). newest c.args.least ts) (c.level.ensures ∙ ap (λ (l : Levels). level_in l.tables 0) v) in
    let t : Table = c.in_ok-table.table in
    let x : Held = c.put_gathered.new.self in
    let same = c.put_gathered.ensures.rest in
    let is : IsGathered g.S.Shelf.honest (gathered h c.args.least) (sizes_of h.options) h.next t = subst (λ (ts : List Table). IsGathered g.S.Shelf.honest ts (sizes_of h.options) h.next t) gone c.in_ok-table.ensures.table in
    let d : Difference = c.in_ok-change.change in
    let i : IsGatherChange (gathered h c.args.least) t h.slots.version.last d = subst (λ (ts : List Table). IsGatherChange ts t h.slots.version.last d) gone (subst (λ (n : ℕ). IsGatherChange c.as_slice-gone.result.now t n d) c.last-before.ensures.last c.in_ok-change.ensures) in
    agrees_gathered c.changed_files.ensures c.whole_tables_fit.ensures g.S.Shelf.honest g.N.Boarded.board h x c.args.least t d c.empty-nothing.result.entries c.last-before.ensures.levels c.requires.may.rule is i c.last-before.ensures.law same c.empty-nothing.ensures.entries

pub change_version-requires-clause-numbers : goal.change_version-requires-clause-numbers
change_version-requires-clause-numbers g c κs within =
    numbers_left c.args.self.now c.put_gathered.new.self c.requires.may.numbers c.put_gathered.ensures.rest

pub returns-clause-ok : goal.returns-clause-ok
returns-clause-ok g c =
    let h : Held = c.args.self.now in
    let v : c.version-version.result.now ≡ h.slots.version = c.version-version.ensures.version ∙ ap (λ (z : Held). z.slots.version) c.self.view_is in
    let gone : c.as_slice-gone.result.now ≡ gathered h c.args.least = c.as_slice-gone.ensures.value ∙ c.in_ok-tables.ensures ∙ ap (λ (ts : List Table). newest c.args.least ts) (c.level.ensures ∙ ap (λ (l : Levels). level_in l.tables 0) v) in
    let t : Table = c.in_ok-table.table in
    let x : Held = c.put_gathered.new.self in
    let same = c.put_gathered.ensures.rest in
    let is : IsGathered g.S.Shelf.honest (gathered h c.args.least) (sizes_of h.options) h.next t = subst (λ (ts : List Table). IsGathered g.S.Shelf.honest ts (sizes_of h.options) h.next t) gone c.in_ok-table.ensures.table in
    let d : Difference = c.in_ok-change.change in
    let i : IsGatherChange (gathered h c.args.least) t h.slots.version.last d = subst (λ (ts : List Table). IsGatherChange ts t h.slots.version.last d) gone (subst (λ (n : ℕ). IsGatherChange c.as_slice-gone.result.now t n d) c.last-before.ensures.last c.in_ok-change.ensures) in
    let y : Held = c.change_version.new.self in
    let was : Told = c.args.shelf.now in
    let mid : Told = c.put_gathered.new.shelf in
    let now : Told = c.change_version.new.shelf in (
      t,
      mid,
      d,
      is,
      c.in_ok-table.ensures.told,
      i,
      subst (λ (z : Held). ChangesVersion z y d None [] mid now) same (subst (λ (es : List Entry). ChangesVersion x y d None es mid now) c.empty-nothing.ensures.entries c.in_ok-change_version.ensures.ok),
      c.in_ok-change_version.ensures.counts,
    )

pub returns-clause-event : goal.returns-clause-event
returns-clause-event g c =
    let h : Held = c.args.self.now in
    let v : c.version-version.result.now ≡ h.slots.version = c.version-version.ensures.version ∙ ap (λ (z : Held). z.slots.version) c.self.view_is in
    let gone : c.as_slice-gone.result.now ≡ gathered h c.args.least = c.as_slice-gone.ensures.value ∙ c.in_ok-tables.ensures ∙ ap (λ (ts : List Table). newest c.args.least ts) (c.level.ensures ∙ ap (λ (l : Levels). level_in l.tables 0) v) in
    let t : Table = c.in_ok-table.table in
    let x : Held = c.put_gathered.new.self in
    let same = c.put_gathered.ensures.rest in
    let is : IsGathered g.S.Shelf.honest (gathered h c.args.least) (sizes_of h.options) h.next t = subst (λ (ts : List Table). IsGathered g.S.Shelf.honest ts (sizes_of h.options) h.next t) gone c.in_ok-table.ensures.table in
    let d : Difference = c.in_ok-change.change in
    let i : IsGatherChange (gathered h c.args.least) t h.slots.version.last d = subst (λ (ts : List Table). IsGatherChange ts t h.slots.version.last d) gone (subst (λ (n : ℕ). IsGatherChange c.as_slice-gone.result.now t n d) c.last-before.ensures.last c.in_ok-change.ensures) in
    event_gathered c.changed_files.ensures c.whole_tables_fit.ensures g.S.Shelf.honest h x c.change_version.new.self c.args.least t d c.empty-nothing.result.entries c.put_gathered.new.shelf c.change_version.new.shelf
    c.last-before.ensures.levels c.requires.may.rule is i same c.in_ok-change_version.ensures.ok

pub returns-clause-history : goal.returns-clause-history
returns-clause-history g c =
    let h : Held = c.args.self.now in
    ap (λ (z : Held). z.history) (c.in_ok-change_version.ensures.ok).rest ∙ ap (λ (es : List Entry). es ++ c.put_gathered.new.self.history) c.empty-nothing.ensures.entries ∙ ap (λ (z : Held). z.history) c.put_gathered.ensures.rest

pub returns-in_err-table-clause-event_err : goal.returns-in_err-table-clause-event_err
returns-in_err-table-clause-event_err g c =
    on_err c.from_residual-in_err-table.result (spent_once c.args.self.now c.put_gathered.new.self c.put_gathered.ensures.rest)

pub returns-in_err-change-clause-event_err : goal.returns-in_err-change-clause-event_err
returns-in_err-change-clause-event_err g c =
    on_err c.from_residual-in_err-change.result (spent_once c.args.self.now c.put_gathered.new.self c.put_gathered.ensures.rest)

pub returns-in_err-change_version-clause-event_err : goal.returns-in_err-change_version-clause-event_err
returns-in_err-change_version-clause-event_err g c =
    on_err c.from_residual-in_err-change_version.result
    (spent_more c.args.self.now c.put_gathered.new.self c.change_version.new.self c.in_err-change_version.field-0.0 c.put_gathered.new.shelf c.change_version.new.shelf c.put_gathered.ensures.rest c.in_err-change_version.ensures.refused)

pub returns-in_err-change_version-clause-history : goal.returns-in_err-change_version-clause-history
returns-in_err-change_version-clause-history g c =
    c.in_err-change_version.ensures.history_err ∙ ap (λ (z : Held). z.history) c.put_gathered.ensures.rest

pub returns-in_err-change_version-clause-slots : goal.returns-in_err-change_version-clause-slots
returns-in_err-change_version-clause-slots g c =
    on_err c.from_residual-in_err-change_version.result
    (change_slots c.put_gathered.new.self c.change_version.new.self c.in_err-change_version.field-0.0 c.put_gathered.new.shelf c.change_version.new.shelf c.in_err-change_version.ensures.refused ∙ ap (λ (z : Held). z.slots) c.put_gathered.ensures.rest)

pub returns-in_err-table-clause-slots : goal.returns-in_err-table-clause-slots
returns-in_err-table-clause-slots g c =
    on_err c.from_residual-in_err-table.result (ap (λ (z : Held). z.slots) c.put_gathered.ensures.rest)

pub returns-in_err-change-clause-slots : goal.returns-in_err-change-clause-slots
returns-in_err-change-clause-slots g c =
    on_err c.from_residual-in_err-change.result (ap (λ (z : Held). z.slots) c.put_gathered.ensures.rest)

pub returns-in_err-tables-clause-refused : goal.returns-in_err-tables-clause-refused
returns-in_err-tables-clause-refused g c =
    let h : Held = c.args.self.now in
    let was : Told = c.args.shelf.now in
    fault_is (λ (e : GatherFault). IsRefusedIn g.S.Shelf.honest h h c.args.least e was was) c.from_residual.result (State OutOfMemory) c.from_residual.ensures.1 (inl (refl, refl, refl))

pub returns-in_err-table-clause-refused : goal.returns-in_err-table-clause-refused
returns-in_err-table-clause-refused g c =
    let h : Held = c.args.self.now in
    let v : c.version-version.result.now ≡ h.slots.version = c.version-version.ensures.version ∙ ap (λ (z : Held). z.slots.version) c.self.view_is in
    let gone : c.as_slice-gone.result.now ≡ gathered h c.args.least = c.as_slice-gone.ensures.value ∙ c.in_ok-tables.ensures ∙ ap (λ (ts : List Table). newest c.args.least ts) (c.level.ensures ∙ ap (λ (l : Levels). level_in l.tables 0) v) in
    let x : Held = c.put_gathered.new.self in
    let was : Told = c.args.shelf.now in
    let is : Told = c.put_gathered.new.shelf in
    fault_is (λ (e : GatherFault). IsRefusedIn g.S.Shelf.honest h x c.args.least e was is) c.from_residual-in_err-table.result (Merge c.in_err-table.field-0.0) c.from_residual-in_err-table.ensures.1
    (inl (
      spent_as h x x c.put_gathered.ensures.rest refl,
      subst (λ (ts : List Table). IsUngathered g.S.Shelf.honest ts (sizes_of h.options) h.next c.in_err-table.field-0.0 was is) gone c.in_err-table.ensures.refused,
    ))

pub returns-in_err-change-clause-refused : goal.returns-in_err-change-clause-refused
returns-in_err-change-clause-refused g c =
    let h : Held = c.args.self.now in
    let v : c.version-version.result.now ≡ h.slots.version = c.version-version.ensures.version ∙ ap (λ (z : Held). z.slots.version) c.self.view_is in
    let gone : c.as_slice-gone.result.now ≡ gathered h c.args.least = c.as_slice-gone.ensures.value ∙ c.in_ok-tables.ensures ∙ ap (λ (ts : List Table). newest c.args.least ts) (c.level.ensures ∙ ap (λ (l : Levels). level_in l.tables 0) v) in
    let t : Table = c.in_ok-table.table in
    let x : Held = c.put_gathered.new.self in
    let same = c.put_gathered.ensures.rest in
    let is : IsGathered g.S.Shelf.honest (gathered h c.args.least) (sizes_of h.options) h.next t = subst (λ (ts : List Table). IsGathered g.S.Shelf.honest ts (sizes_of h.options) h.next t) gone c.in_ok-table.ensures.table in
    let was : Told = c.args.shelf.now in
    let mid : Told = c.put_gathered.new.shelf in
    fault_is (λ (e : GatherFault). IsRefusedIn g.S.Shelf.honest h x c.args.least e was mid) c.from_residual-in_err-change.result (State OutOfMemory) c.from_residual-in_err-change.ensures.1
    (inr (t, mid, is, c.in_ok-table.ensures.told, (spent_as h x x same refl, refl), becomes_same mid))

pub returns-in_err-change_version-clause-refused : goal.returns-in_err-change_version-clause-refused
returns-in_err-change_version-clause-refused g c =
    let h : Held = c.args.self.now in
    let v : c.version-version.result.now ≡ h.slots.version = c.version-version.ensures.version ∙ ap (λ (z : Held). z.slots.version) c.self.view_is in
    let gone : c.as_slice-gone.result.now ≡ gathered h c.args.least = c.as_slice-gone.ensures.value ∙ c.in_ok-tables.ensures ∙ ap (λ (ts : List Table). newest c.args.least ts) (c.level.ensures ∙ ap (λ (l : Levels). level_in l.tables 0) v) in
    let t : Table = c.in_ok-table.table in
    let x : Held = c.put_gathered.new.self in
    let same = c.put_gathered.ensures.rest in
    let is : IsGathered g.S.Shelf.honest (gathered h c.args.least) (sizes_of h.options) h.next t = subst (λ (ts : List Table). IsGathered g.S.Shelf.honest ts (sizes_of h.options) h.next t) gone c.in_ok-table.ensures.table in
    let y : Held = c.change_version.new.self in
    let was : Told = c.args.shelf.now in
    let mid : Told = c.put_gathered.new.shelf in
    let now : Told = c.change_version.new.shelf in
    let e = c.in_err-change_version.field-0.0 in
    let slots = change_slots x y e mid now c.in_err-change_version.ensures.refused in
    fault_is (λ (f : GatherFault). IsRefusedIn g.S.Shelf.honest h y c.args.least f was now) c.from_residual-in_err-change_version.result (State e) c.from_residual-in_err-change_version.ensures.1
    (inr (t, mid, is, c.in_ok-table.ensures.told, subst (λ (z : Held). IsChangeRefusal z y e mid now) (spent_as h x y same slots) c.in_err-change_version.ensures.refused, c.in_err-change_version.ensures.unsent))

pub returns-in_err-tables-clause-asked : goal.returns-in_err-tables-clause-asked
returns-in_err-tables-clause-asked g c =
    fault_is (GatherRefused (g.S.Shelf.refuses g.N.Naming.place) c.args.self.now) c.from_residual.result (State OutOfMemory) c.from_residual.ensures.1 tt

pub returns-in_err-table-clause-asked : goal.returns-in_err-table-clause-asked
returns-in_err-table-clause-asked g c =
    fault_is (GatherRefused (g.S.Shelf.refuses g.N.Naming.place) c.args.self.now) c.from_residual-in_err-table.result (Merge c.in_err-table.field-0.0) c.from_residual-in_err-table.ensures.1 c.in_err-table.ensures.asked

pub returns-in_err-change-clause-asked : goal.returns-in_err-change-clause-asked
returns-in_err-change-clause-asked g c =
    fault_is (GatherRefused (g.S.Shelf.refuses g.N.Naming.place) c.args.self.now) c.from_residual-in_err-change.result (State OutOfMemory) c.from_residual-in_err-change.ensures.1 tt

pub returns-in_err-change_version-clause-asked : goal.returns-in_err-change_version-clause-asked
returns-in_err-change_version-clause-asked g c =
    let h : Held = c.args.self.now in
    let v : c.version-version.result.now ≡ h.slots.version = c.version-version.ensures.version ∙ ap (λ (z : Held). z.slots.version) c.self.view_is in
    let gone : c.as_slice-gone.result.now ≡ gathered h c.args.least = c.as_slice-gone.ensures.value ∙ c.in_ok-tables.ensures ∙ ap (λ (ts : List Table). newest c.args.least ts) (c.level.ensures ∙ ap (λ (l : Levels). level_in l.tables 0) v) in
    let t : Table = c.in_ok-table.table in
    let x : Held = c.put_gathered.new.self in
    let same = c.put_gathered.ensures.rest in
    let is : IsGathered g.S.Shelf.honest (gathered h c.args.least) (sizes_of h.options) h.next t = subst (λ (ts : List Table). IsGathered g.S.Shelf.honest ts (sizes_of h.options) h.next t) gone c.in_ok-table.ensures.table in
    let d : Difference = c.in_ok-change.change in
    let i : IsGatherChange (gathered h c.args.least) t h.slots.version.last d = subst (λ (ts : List Table). IsGatherChange ts t h.slots.version.last d) gone (subst (λ (n : ℕ). IsGatherChange c.as_slice-gone.result.now t n d) c.last-before.ensures.last c.in_ok-change.ensures) in
    let e = c.in_err-change_version.field-0.0 in
    fault_is (GatherRefused (g.S.Shelf.refuses g.N.Naming.place) h) c.from_residual-in_err-change_version.result (State e) c.from_residual-in_err-change_version.ensures.1
    (asked_change (g.S.Shelf.refuses g.N.Naming.place) h x c.args.least t d e i same c.in_err-change_version.ensures.asked)
