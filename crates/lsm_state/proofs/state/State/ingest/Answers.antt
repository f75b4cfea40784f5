use Rattle.std.proofs.Common.{◌≡◌, ℕ, None, ◌++◌, ◌∙◌, refl, ap, suc, sym, subst, inl, inr, arith}
use Rattle.lsm_codec.specs.Entries.{Entry}
use Rattle.lsm_batch.specs.Batches.{entries_from}
use Rattle.lsm_shelf.specs.Asked.{Asked}
use Rattle.lsm_shelf.specs.declared.shelf_fault.ShelfFault.{ShelfFault}
use Rattle.lsm_shelf.specs.Told.{Becomes, Told, putting}
use Rattle.lsm_shelf.proofs.CallerLemmas.{becomes_same}
use Rattle.lsm_table.specs.Registry.{Table}
use Rattle.lsm_journal.specs.Difference.{Difference}
use Rattle.lsm_slots.specs.Slots.{Slotted}
use Rattle.lsm_batch.specs.declared.write.Write.{Write}
use Rattle.std.specs.Prelude.{List}
use Rattle.lsm_state.specs.Held.{Held, plain}
use Rattle.lsm_state.specs.Asked.{ChangeRefused, IngestRefused, OnShelf, PutRefused}
use Rattle.lsm_state.specs.Changing.{ChangesVersion, Sought}
use Rattle.lsm_state.specs.Ingesting.{IsIngestRefusal, coming_in, entries_of, last_of}
use Rattle.lsm_state.specs.declared.state_fault.StateFault.{StateFault}
use Rattle.lsm_state.specs.declared.state_fault.StateFault.TheVariants.{OutOfMemory}
use Rattle.lsm_state.proofs.AskedLaws.{bytes_looked, change_alike, early_asked, on_more, put_looked, slot_asked}
use Rattle.lsm_state.proofs.IngestLaws.{agrees_grown, change_of, change_spent, entries_gained, err_is, event_after, inputs_grown, law_grown, next_of, numbered, numbered_spends, put_spends, refused_change, refused_put, slots_spend, suits_grown, table_of, version_stays}
use Rattle.lsm_state.proofs.Removing.{on_err}
use Rattle.lsm_state.proofs.state.State.ingest.Goals as goal

pub returns-in_err-may_ingest-clause-refused : goal.returns-in_err-may_ingest-clause-refused
returns-in_err-may_ingest-clause-refused g c =
    let h : Held = c.args.self.now in
    let was : Told = c.args.shelf.now in
    err_is (λ (e : StateFault). IsIngestRefusal h h c.args.batch.now e was was) c.from_residual.result c.in_err-may_ingest.field-0.0 c.from_residual.ensures.1 (inl (c.in_err-may_ingest.ensures.refused, refl, refl))

pub returns-in_err-slot-clause-refused : goal.returns-in_err-slot-clause-refused
returns-in_err-slot-clause-refused g c =
    let h : Held = c.args.self.now in
    let was : Told = c.args.shelf.now in
    err_is (λ (e : StateFault). IsIngestRefusal h c.find_slot.new.self c.args.batch.now e was was) c.from_residual-in_err-slot.result c.in_err-slot.field-0.0 c.from_residual-in_err-slot.ensures.1
    (inr (c.in_ok-may_ingest.ensures.ok, inl (c.find_slot.ensures.rest, c.find_slot.ensures.sought, c.in_err-slot.ensures.refused, refl)))

pub returns-in_err-table-clause-refused : goal.returns-in_err-table-clause-refused
returns-in_err-table-clause-refused g c =
    let h : Held = c.args.self.now in
    let y : Held = c.put_batch.new.self in
    let ws : List Write = c.args.batch.now in
    let was : Told = c.args.shelf.now in
    let is : Told = c.put_batch.new.shelf in
    err_is (λ e. IsIngestRefusal h y ws e was is) c.from_residual-in_err-table.result c.in_err-table.field-0.0 c.from_residual-in_err-table.ensures.1
    (refused_put h c.find_slot.new.self y ws c.in_err-table.field-0.0 was is c.in_ok-may_ingest.ensures.ok c.find_slot.ensures.sought c.find_slot.ensures.rest (c.in_ok-slot.slot, c.in_ok-slot.ensures.ok.0, c.in_ok-slot.ensures.ok.1)
    c.in_err-table.ensures.slots c.in_err-table.ensures.refused)

pub returns-in_err-change-clause-refused : goal.returns-in_err-change-clause-refused
returns-in_err-change-clause-refused g c =
    let h : Held = c.args.self.now in
    let x : Held = c.put_batch.new.self in
    let ws : List Write = c.args.batch.now in
    let was : Told = c.args.shelf.now in
    let mid : Told = c.put_batch.new.shelf in
    err_is (λ (e : StateFault). IsIngestRefusal h x ws e was mid) c.from_residual-in_err-change.result OutOfMemory c.from_residual-in_err-change.ensures.1
    (refused_change h c.find_slot.new.self x x ws c.in_ok-table.table OutOfMemory was mid mid c.in_ok-may_ingest.ensures.ok c.find_slot.ensures.sought c.find_slot.ensures.rest
    (c.in_ok-slot.slot, c.in_ok-slot.ensures.ok.0, c.in_ok-slot.ensures.ok.1) c.in_ok-table.ensures.ok c.in_ok-table.ensures.bytes c.in_ok-table.ensures.told c.in_ok-table.ensures.counts (refl, refl) (becomes_same mid))

pub change_version-requires-clause-suits : goal.change_version-requires-clause-suits
change_version-requires-clause-suits g c κs within =
    let h : Held = c.args.self.now in
    let m : Held = c.find_slot.new.self in
    let x : Held = c.put_batch.new.self in
    let ws : List Write = c.args.batch.now in
    let t : Table = c.in_ok-table.table in
    let is = table_of h m ws t c.find_slot.ensures.rest c.find_slot.ensures.sought c.in_ok-table.ensures.table in
    let version = version_stays h m x c.find_slot.ensures.sought c.in_ok-table.ensures.ok in
    let change = change_of h ws t c.in_ok-change.change c.last-before.result c.len.result c.in_ok-change.ensures c.last-before.ensures.last c.len.ensures in
    suits_grown g.S.Shelf.honest h x (entries_of h ws) t (last_of h ws) c.in_ok-change.change is c.last-before.ensures.law.law version change

pub change_version-requires-clause-law : goal.change_version-requires-clause-law
change_version-requires-clause-law g c κs within =
    let h : Held = c.args.self.now in
    let m : Held = c.find_slot.new.self in
    let x : Held = c.put_batch.new.self in
    let ws : List Write = c.args.batch.now in
    let t : Table = c.in_ok-table.table in
    let is = table_of h m ws t c.find_slot.ensures.rest c.find_slot.ensures.sought c.in_ok-table.ensures.table in
    let version = version_stays h m x c.find_slot.ensures.sought c.in_ok-table.ensures.ok in
    let same = numbered h m x c.find_slot.ensures.rest c.in_ok-table.ensures.ok in
    let change = change_of h ws t c.in_ok-change.change c.last-before.result c.len.result c.in_ok-change.ensures c.last-before.ensures.last c.len.ensures in
    law_grown c.changed_files.ensures c.whole_tables_fit.ensures g.S.Shelf.honest h x ws t c.in_ok-change.change c.last-before.ensures.levels is c.last-before.ensures.law.law same version change

pub change_version-requires-clause-inputs : goal.change_version-requires-clause-inputs
change_version-requires-clause-inputs g c κs within =
    let h : Held = c.args.self.now in
    let m : Held = c.find_slot.new.self in
    let x : Held = c.put_batch.new.self in
    let ws : List Write = c.args.batch.now in
    let t : Table = c.in_ok-table.table in
    let version = version_stays h m x c.find_slot.ensures.sought c.in_ok-table.ensures.ok in
    let same = numbered h m x c.find_slot.ensures.rest c.in_ok-table.ensures.ok in
    let change = change_of h ws t c.in_ok-change.change c.last-before.result c.len.result c.in_ok-change.ensures c.last-before.ensures.last c.len.ensures in
    inputs_grown c.changed_tables.ensures g.S.Shelf.honest g.N.Boarded.board h x t (last_of h ws) c.in_ok-change.change c.last-before.ensures.law same version change

pub change_version-requires-clause-agrees : goal.change_version-requires-clause-agrees
change_version-requires-clause-agrees g c κs within =
    let h : Held = c.args.self.now in
    let m : Held = c.find_slot.new.self in
    let x : Held = c.put_batch.new.self in
    let ws : List Write = c.args.batch.now in
    let t : Table = c.in_ok-table.table in
    let is = table_of h m ws t c.find_slot.ensures.rest c.find_slot.ensures.sought c.in_ok-table.ensures.table in
    let version = version_stays h m x c.find_slot.ensures.sought c.in_ok-table.ensures.ok in
    let same = numbered h m x c.find_slot.ensures.rest c.in_ok-table.ensures.ok in
    let change = change_of h ws t c.in_ok-change.change c.last-before.result c.len.result c.in_ok-change.ensures c.last-before.ensures.last c.len.ensures in
    let es : List Entry = c.entries_of_batch-coming.result.entries in
    let came : es ≡ entries_of h ws = c.entries_of_batch-coming.ensures ∙ ap (λ (n : ℕ). entries_from n ws) (next_of c.last-before.result h.slots.version.last c.last-before.ensures.last) in
    agrees_grown c.changed_files.ensures c.whole_tables_fit.ensures g.S.Shelf.honest g.N.Boarded.board h x ws t c.in_ok-change.change es c.last-before.ensures.levels is c.last-before.ensures.law same version change came

pub returns-in_err-change_version-clause-refused : goal.returns-in_err-change_version-clause-refused
returns-in_err-change_version-clause-refused g c =
    let h : Held = c.args.self.now in
    let y : Held = c.change_version.new.self in
    let ws : List Write = c.args.batch.now in
    let was : Told = c.args.shelf.now in
    let mid : Told = c.put_batch.new.shelf in
    let is : Told = c.change_version.new.shelf in
    err_is (λ e. IsIngestRefusal h y ws e was is) c.from_residual-in_err-change_version.result c.in_err-change_version.field-0.0 c.from_residual-in_err-change_version.ensures.1
    (refused_change h c.find_slot.new.self c.put_batch.new.self y ws c.in_ok-table.table c.in_err-change_version.field-0.0 was mid is c.in_ok-may_ingest.ensures.ok c.find_slot.ensures.sought
    c.find_slot.ensures.rest (c.in_ok-slot.slot, c.in_ok-slot.ensures.ok.0, c.in_ok-slot.ensures.ok.1) c.in_ok-table.ensures.ok c.in_ok-table.ensures.bytes c.in_ok-table.ensures.told c.in_ok-table.ensures.counts c.in_err-change_version.ensures.refused c.in_err-change_version.ensures.unsent)

pub returns-clause-ok : goal.returns-clause-ok
returns-clause-ok g c =
    let h : Held = c.args.self.now in
    let m : Held = c.find_slot.new.self in
    let x : Held = c.put_batch.new.self in
    let y : Held = c.change_version.new.self in
    let ws : List Write = c.args.batch.now in
    let t : Table = c.in_ok-table.table in
    let was : Told = c.args.shelf.now in
    let mid : Told = c.put_batch.new.shelf in
    let is : Told = c.change_version.new.shelf in
    let next = ap (λ (z : Held). z.next) c.find_slot.ensures.rest in
    let before = c.last-before.ensures.last in
    let count = c.len.ensures in
    let same = numbered h m x c.find_slot.ensures.rest c.in_ok-table.ensures.ok in
    let change = change_of h ws t c.in_ok-change.change c.last-before.result c.len.result c.in_ok-change.ensures before count in
    let came : c.entries_of_batch-coming.result.entries ≡ entries_of h ws = c.entries_of_batch-coming.ensures ∙ ap (λ (n : ℕ). entries_from n ws) (next_of c.last-before.result h.slots.version.last before) in
    record {
      file = c.next_file-file.ensures ∙ next;
      first = omega arith;
      last = omega arith;
      slots = x.slots;
      sought = subst (λ (s : Slotted). Sought h.slots s) (sym (ap (λ (z : Held). z.slots) c.in_ok-table.ensures.ok)) c.find_slot.ensures.sought;
      table = t;
      is_table = table_of h m ws t c.find_slot.ensures.rest c.find_slot.ensures.sought c.in_ok-table.ensures.table;
      mid = mid;
      put = subst (λ (n : ℕ). Becomes (putting n t.image was) mid) next c.in_ok-table.ensures.told;
      changes = subst (λ (z : Held). ChangesVersion z y (coming_in t (last_of h ws)) None (entries_of h ws) mid is) same
          (subst (λ (d : Difference). ChangesVersion x y d None (entries_of h ws) mid is) change
          (subst (λ (es : List Entry). ChangesVersion x y c.in_ok-change.change None es mid is) came c.in_ok-change_version.ensures.ok));
      bytes = bytes_looked h m ws t c.find_slot.ensures.rest c.find_slot.ensures.sought.looked.version c.in_ok-table.ensures.bytes;
    }

pub returns-clause-event : goal.returns-clause-event
returns-clause-event g c =
    let h : Held = c.args.self.now in
    let m : Held = c.find_slot.new.self in
    let x : Held = c.put_batch.new.self in
    let ws : List Write = c.args.batch.now in
    let t : Table = c.in_ok-table.table in
    let is = table_of h m ws t c.find_slot.ensures.rest c.find_slot.ensures.sought c.in_ok-table.ensures.table in
    let version = version_stays h m x c.find_slot.ensures.sought c.in_ok-table.ensures.ok in
    let same = numbered h m x c.find_slot.ensures.rest c.in_ok-table.ensures.ok in
    let change = change_of h ws t c.in_ok-change.change c.last-before.result c.len.result c.in_ok-change.ensures c.last-before.ensures.last c.len.ensures in
    event_after c.changed_files.ensures c.whole_tables_fit.ensures h x c.change_version.new.self ws t c.in_ok-change.change c.entries_of_batch-coming.result.entries c.put_batch.new.shelf c.change_version.new.shelf
    c.last-before.ensures.levels is same version change c.in_ok-change_version.ensures.ok

pub returns-clause-history : goal.returns-clause-history
returns-clause-history g c =
    let h : Held = c.args.self.now in
    let m : Held = c.find_slot.new.self in
    let x : Held = c.put_batch.new.self in
    let y : Held = c.change_version.new.self in
    let ws : List Write = c.args.batch.now in
    let same = numbered h m x c.find_slot.ensures.rest c.in_ok-table.ensures.ok in
    let es : List Entry = c.entries_of_batch-coming.result.entries in
    let came : es ≡ entries_of h ws = c.entries_of_batch-coming.ensures ∙ ap (λ (n : ℕ). entries_from n ws) (next_of c.last-before.result h.slots.version.last c.last-before.ensures.last) in
    let grew : y.history ≡ es ++ x.history = ap (λ (z : Held). z.history) (c.in_ok-change_version.ensures.ok).rest in
    grew ∙ (ap (λ (xs : List Entry). xs ++ x.history) came ∙ ap (λ (z : Held). entries_of h ws ++ z.history) same)

pub returns-in_err-slot-clause-history_err : goal.returns-in_err-slot-clause-history_err
returns-in_err-slot-clause-history_err g c = on_err c.from_residual-in_err-slot.result (ap (λ (z : Held). z.history) c.find_slot.ensures.rest)

pub returns-in_err-table-clause-history_err : goal.returns-in_err-table-clause-history_err
returns-in_err-table-clause-history_err g c = on_err c.from_residual-in_err-table.result (c.put_batch.ensures.history ∙ ap (λ (z : Held). z.history) c.find_slot.ensures.rest)

pub returns-in_err-change-clause-history_err : goal.returns-in_err-change-clause-history_err
returns-in_err-change-clause-history_err g c = on_err c.from_residual-in_err-change.result (c.put_batch.ensures.history ∙ ap (λ (z : Held). z.history) c.find_slot.ensures.rest)

pub returns-in_err-change_version-clause-history_err : goal.returns-in_err-change_version-clause-history_err
returns-in_err-change_version-clause-history_err g c =
    on_err c.from_residual-in_err-change_version.result (c.in_err-change_version.ensures.history_err ∙ (c.put_batch.ensures.history ∙ ap (λ (z : Held). z.history) c.find_slot.ensures.rest))

pub returns-clause-entries : goal.returns-clause-entries
returns-clause-entries g c = entries_gained (plain c.args.self.now) (entries_of c.args.self.now c.args.batch.now) (plain c.change_version.new.self) (returns-clause-event g c)

pub returns-in_err-may_ingest-clause-event_err : goal.returns-in_err-may_ingest-clause-event_err
returns-in_err-may_ingest-clause-event_err g c = on_err c.from_residual.result (c.args.self.now.next, omega arith, refl)

pub returns-in_err-slot-clause-event_err : goal.returns-in_err-slot-clause-event_err
returns-in_err-slot-clause-event_err g c =
    let m : Held = c.find_slot.new.self in
    on_err c.from_residual-in_err-slot.result (slots_spend c.args.self.now m m.slots c.find_slot.ensures.sought c.find_slot.ensures.rest)

pub returns-in_err-table-clause-event_err : goal.returns-in_err-table-clause-event_err
returns-in_err-table-clause-event_err g c =
    let was : Told = c.args.shelf.now in
    let is : Told = c.put_batch.new.shelf in
    on_err c.from_residual-in_err-table.result
    (put_spends c.args.self.now c.find_slot.new.self c.put_batch.new.self c.args.batch.now c.in_err-table.field-0.0 was is c.find_slot.ensures.sought c.find_slot.ensures.rest c.in_err-table.ensures.slots
    c.in_err-table.ensures.refused)

pub returns-in_err-change-clause-event_err : goal.returns-in_err-change-clause-event_err
returns-in_err-change-clause-event_err g c =
    on_err c.from_residual-in_err-change.result (numbered_spends c.args.self.now c.find_slot.new.self c.put_batch.new.self c.find_slot.ensures.sought c.find_slot.ensures.rest c.in_ok-table.ensures.ok)

pub returns-in_err-change_version-clause-event_err : goal.returns-in_err-change_version-clause-event_err
returns-in_err-change_version-clause-event_err g c =
    let mid : Told = c.put_batch.new.shelf in
    let is : Told = c.change_version.new.shelf in
    on_err c.from_residual-in_err-change_version.result
    (change_spent c.args.self.now c.find_slot.new.self c.put_batch.new.self c.change_version.new.self c.in_err-change_version.field-0.0 mid is c.find_slot.ensures.sought c.find_slot.ensures.rest c.in_ok-table.ensures.ok
    c.in_err-change_version.ensures.refused)

pub returns-in_err-may_ingest-clause-asked : goal.returns-in_err-may_ingest-clause-asked
returns-in_err-may_ingest-clause-asked g c =
    let R : ShelfFault → Type 0 = IngestRefused (g.S.Shelf.refuses g.N.Naming.place) c.args.self.now c.args.batch.now in
    err_is (OnShelf R) c.from_residual.result c.in_err-may_ingest.field-0.0 c.from_residual.ensures.1 (early_asked R c.args.self.now c.args.batch.now c.in_err-may_ingest.field-0.0 c.in_err-may_ingest.ensures.refused)

pub returns-in_err-slot-clause-asked : goal.returns-in_err-slot-clause-asked
returns-in_err-slot-clause-asked g c =
    let R : ShelfFault → Type 0 = IngestRefused (g.S.Shelf.refuses g.N.Naming.place) c.args.self.now c.args.batch.now in
    err_is (OnShelf R) c.from_residual-in_err-slot.result c.in_err-slot.field-0.0 c.from_residual-in_err-slot.ensures.1
    (slot_asked R c.args.self.now.slots c.find_slot.new.self.slots c.in_err-slot.field-0.0 c.in_err-slot.ensures.refused)

pub returns-in_err-table-clause-asked : goal.returns-in_err-table-clause-asked
returns-in_err-table-clause-asked g c =
    let Refused : Asked → ShelfFault → Type 0 = g.S.Shelf.refuses g.N.Naming.place in
    let h : Held = c.args.self.now in
    let m : Held = c.find_slot.new.self in
    let ws : List Write = c.args.batch.now in
    err_is (OnShelf (IngestRefused Refused h ws)) c.from_residual-in_err-table.result c.in_err-table.field-0.0 c.from_residual-in_err-table.ensures.1
    (on_more (PutRefused Refused m ws) (IngestRefused Refused h ws) (λ f r. inl (put_looked Refused h m ws f c.find_slot.ensures.rest c.find_slot.ensures.sought.looked.version r)) c.in_err-table.field-0.0
    c.in_err-table.ensures.asked)

pub returns-in_err-change_version-clause-asked : goal.returns-in_err-change_version-clause-asked
returns-in_err-change_version-clause-asked g c =
    let Refused : Asked → ShelfFault → Type 0 = g.S.Shelf.refuses g.N.Naming.place in
    let h : Held = c.args.self.now in
    let m : Held = c.find_slot.new.self in
    let x : Held = c.put_batch.new.self in
    let ws : List Write = c.args.batch.now in
    let t : Table = c.in_ok-table.table in
    let is = table_of h m ws t c.find_slot.ensures.rest c.find_slot.ensures.sought c.in_ok-table.ensures.table in
    let version = version_stays h m x c.find_slot.ensures.sought c.in_ok-table.ensures.ok in
    let same = numbered h m x c.find_slot.ensures.rest c.in_ok-table.ensures.ok in
    let change = change_of h ws t c.in_ok-change.change c.last-before.result c.len.result c.in_ok-change.ensures c.last-before.ensures.last c.len.ensures in
    let bytes = bytes_looked h m ws t c.find_slot.ensures.rest c.find_slot.ensures.sought.looked.version c.in_ok-table.ensures.bytes in
    err_is (OnShelf (IngestRefused Refused h ws)) c.from_residual-in_err-change_version.result c.in_err-change_version.field-0.0 c.from_residual-in_err-change_version.ensures.1
    (on_more (ChangeRefused Refused x c.in_ok-change.change) (IngestRefused Refused h ws)
    (λ f r. inr (
      t,
      is,
      bytes,
      change_alike Refused h x (suc h.next) c.in_ok-change.change (coming_in t (last_of h ws)) f version (ap (λ (z : Held). z.next) same) (ap (λ (z : Held). z.journal) same) change r,
    )) c.in_err-change_version.field-0.0 c.in_err-change_version.ensures.asked)
