use Rattle.std.proofs.Common.{◌≡◌, ◌⊎◌, ℕ, List, Option, All, subst, sym}
use Rattle.std.specs.Prelude.{IsTrue}
use Rattle.std.specs.Io.KnownBytes.{Keeps}
use Rattle.lsm_shelf.specs.Place.{Place}
use Rattle.lsm_shelf.specs.Stored.{Stored}
use Rattle.lsm_mirror.specs.Mirrored.{MirrorStored}
use Rattle.lsm_mirror.specs.Refusals.{MirrorRefuses}
use Rattle.lsm_mirror.specs.Shown.{shown_of}
use Rattle.lsm_directory.proofs.CallerLemmas.{keeps_same}
use Rattle.lsm_cmd_read.specs.Answers.{asking, moment}
use Rattle.lsm_cmd_read.specs.Seen.{IsCut, IsNotSeenInto, IsSeenInto}
use Rattle.lsm_cmd_read.proofs.SeenLaws.{looks_then}
use Rattle.lsm_cmd_read.proofs.seeing.see.Goals as goal

pub returns-in-Err-clause-refused : goal.returns-in-Err-clause-refused
returns-in-Err-clause-refused g c = (
  rw (c.in-Err.is, c.deref.ensures.value) at c.preview-seen.ensures.refused,
  keeps_same (g.O.Write.contents c.args.out.now),
)

pub look_through-done-requires-clause-shelves : goal.look_through-done-requires-clause-shelves
look_through-done-requires-clause-shelves g c κs within =
    subst (λ (p : Place). All (λ s. (g.S.Shelf.told s).place ≡ p) c.args.shelves.items)
    (sym c.preview-seen.ensures.looks.place) c.requires.shelves

pub returns-in-Ok-done-clause-done : goal.returns-in-Ok-done-clause-done
returns-in-Ok-done-clause-done g c =
    let view = c.in-Ok.seen.view in
    let mid = g.S.Shelf.told c.preview-seen.result.1 in
    let done : (said : Option (List ℕ)) × (c.in-Ok.seen.rest ≡ 0
    → Keeps (g.E.Write.contents c.args.err.now) said) × IsSeenInto (asking c.args.inquiry.now)
    (MirrorStored g.S.Receipt.TableReceipt
    (g.S.Shelf.is_of (g.S.Shelf.told c.args.shelf).place) (shown_of view)) g.S.Shelf.honest
    (shown_of view) (moment mid (g.O.Write.contents c.args.out.now))
    (moment (g.S.Shelf.told c.look_through-done.result.1)
    (g.O.Write.contents c.look_through-done.new.out)) said
    (g.E.Write.contents c.look_through-done.new.err) =
    subst (λ (p : Place). (said : Option (List ℕ)) × (c.in-Ok.seen.rest ≡ 0
    → Keeps (g.E.Write.contents c.args.err.now) said) × IsSeenInto (asking c.args.inquiry.now)
    (MirrorStored g.S.Receipt.TableReceipt (g.S.Shelf.is_of p) (shown_of view)) g.S.Shelf.honest
    (shown_of view) (moment mid (g.O.Write.contents c.args.out.now))
    (moment (g.S.Shelf.told c.look_through-done.result.1)
    (g.O.Write.contents c.look_through-done.new.out)) said
    (g.E.Write.contents c.look_through-done.new.err)) c.preview-seen.ensures.looks.place
    (rw c.in-Ok-done.is at c.look_through-done.ensures.done) in
    record {
      preview = c.in-Ok.seen;
      read = mid;
      is = rw (c.in-Ok.is, c.deref.ensures.value) at c.preview-seen.ensures.done;
      whole = rw c.in-Ok-done.is at c.look_through-done.ensures.whole;
      said = done.0;
      quiet = done.1;
      done = done.2;
    }

pub returns-in-Ok-done-clause-looks : goal.returns-in-Ok-done-clause-looks
returns-in-Ok-done-clause-looks g c =
    looks_then _ _ _ c.preview-seen.ensures.looks c.look_through-done.ensures.looks

pub returns-in-Err-done-clause-refused : goal.returns-in-Err-done-clause-refused
returns-in-Err-done-clause-refused g c =
    let view = c.in-Ok.seen.view in
    let mid = g.S.Shelf.told c.preview-seen.result.1 in
    record {
      preview = c.in-Ok.seen;
      read = mid;
      is = rw (c.in-Ok.is, c.deref.ensures.value) at c.preview-seen.ensures.done;
      why = subst (λ (p : Place).
          IsCut (asking c.args.inquiry.now) c.in-Ok.seen.rest c.in-Err-done.fault
          (moment mid (g.O.Write.contents c.args.out.now))
          (moment (g.S.Shelf.told c.look_through-done.result.1)
          (g.O.Write.contents c.look_through-done.new.out))
          ⊎ ((IsTrue c.args.inquiry.now.strict → c.in-Ok.seen.rest ≡ 0)
          × IsNotSeenInto (asking c.args.inquiry.now)
          (MirrorStored g.S.Receipt.TableReceipt (g.S.Shelf.is_of p) (shown_of view))
          (MirrorRefuses
          (Stored g.row.S-Receipt.Denot (g.S.Shelf.is_of p) g.S.Receipt.TableReceipt.number
          g.S.Receipt.TableReceipt.image) (g.S.Shelf.refuses p) g.S.Shelf.honest (shown_of view))
          g.S.Shelf.honest (shown_of view) c.in-Err-done.fault
          (moment mid (g.O.Write.contents c.args.out.now))
          (moment (g.S.Shelf.told c.look_through-done.result.1)
          (g.O.Write.contents c.look_through-done.new.out)))) c.preview-seen.ensures.looks.place
          (rw c.in-Err-done.is at c.look_through-done.ensures.refused);
    }

pub returns-in-Err-done-clause-looks : goal.returns-in-Err-done-clause-looks
returns-in-Err-done-clause-looks g c =
    looks_then _ _ _ c.preview-seen.ensures.looks c.look_through-done.ensures.looks
