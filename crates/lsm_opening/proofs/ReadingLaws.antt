-- An opening to read only reads.
use Rattle.std.proofs.Common.{◌≡◌, ℕ, List, inl, inr, refl, subst, sym}
use Rattle.lsm_shelf.specs.Asked.{Asked}
use Rattle.lsm_shelf.specs.Told.{Told, Becomes, finding, listing}
use Rattle.lsm_shelf.specs.declared.shelf_fault.ShelfFault.{ShelfFault}
use Rattle.lsm_shelf.proofs.CallerLemmas.{becomes_same, becomes_then}
use Rattle.lsm_journal.specs.Recovering.{IsRecoverRefusal}
use Rattle.lsm_journal.specs.declared.open_fault.OpenFault.{OpenFault}
use Rattle.lsm_journal.specs.declared.open_fault.OpenFault.TheVariants as opening
use Rattle.lsm_journal.specs.declared.recover_fault.RecoverFault.{RecoverFault}
use Rattle.lsm_journal.specs.declared.recover_fault.RecoverFault.TheVariants as recovering
use Rattle.lsm_state.specs.Held.{Held}
use Rattle.lsm_state.specs.Opening.{IsFindRefusal}
use Rattle.lsm_state.specs.declared.options.Options.{Options}
use Rattle.lsm_directory.specs.declared.folder.named_manifest.NamedManifest.{NamedManifest}
use Rattle.lsm_opening.specs.Reading.{FindsManifest, IsHaltedWith, IsNotHalted, LacksManifest}
use Rattle.lsm_opening.specs.Reading.{OnlyReads}
use Rattle.lsm_opening.specs.declared.faults.writer_fault.WriterFault.{WriterFault}

-- ---- one moment after another

pub reads_none : (was is : Told) → is ≡ was → OnlyReads was is
reads_none was is same = inl (subst (Becomes was) (sym same) (becomes_same was))

-- what is read later is not written
pub reads_later : (was mid is : Told) → OnlyReads was mid → Becomes mid is → OnlyReads was is
reads_later was mid is (inl b) c = inl (becomes_then was mid is b c)
reads_later was mid is (inr (number, bytes, inl b)) c =
    inr (number, bytes, inl (becomes_then (finding number bytes was) mid is b c))
reads_later was mid is (inr (number, bytes, inr (listed, b))) c =
    inr (
      number,
      bytes,
      inr (listed, becomes_then (listing listed (finding number bytes was)) mid is b c),
    )

-- a manifest that was found stands in place of the one before
found_again : (n m : ℕ) (xs ys : List ℕ) (was mid : Told) → Becomes (finding n xs was) mid
    → Becomes (finding m ys was) (finding m ys mid)
found_again n m xs ys was mid b = record {
  place = b.place;
  faults = b.faults;
  misses = b.misses;
  puts = b.puts;
  gone = b.gone;
  listed = b.listed;
  manifest = refl;
  sent = refl;
  found = refl;
  starts = b.starts;
  written = b.written;
  forks = b.forks;
  made = b.made;
}

listed_again : (ns : List ℕ) (was is : Told) → Becomes was is
    → Becomes (listing ns was) (listing ns is)
listed_again ns was is b = record {
  place = b.place;
  faults = b.faults;
  misses = b.misses;
  puts = b.puts;
  gone = b.gone;
  listed = refl;
  manifest = b.manifest;
  sent = b.sent;
  found = b.found;
  starts = b.starts;
  written = b.written;
  forks = b.forks;
  made = b.made;
}

pub reads_behind : (number : ℕ) (bytes : List ℕ) (was mid is : Told)
    → Becomes (finding number bytes was) mid → OnlyReads mid is → OnlyReads was is
reads_behind number bytes was mid is b (inl c) =
    inr (number, bytes, inl (becomes_then (finding number bytes was) mid is b c))
reads_behind number bytes was mid is b (inr (n, xs, inl c)) = inr (
  n,
  xs,
  inl (becomes_then (finding n xs was) (finding n xs mid) is
      (found_again number n bytes xs was mid b) c),
)
reads_behind number bytes was mid is b (inr (n, xs, inr (ns, c))) = inr (
  n,
  xs,
  inr (
    ns,
    becomes_then (listing ns (finding n xs was)) (listing ns (finding n xs mid)) is
        (listed_again ns (finding n xs was) (finding n xs mid)
        (found_again number n bytes xs was mid b))
        c,
  ),
)

-- ---- an opening

recover_reads : (Refused : Asked → ShelfFault → Type 0) (e : RecoverFault) (was is : Told)
    → IsRecoverRefusal Refused e was is → OnlyReads was is
recover_reads Refused (recovering.Shelf e) was is r = inl r.0
recover_reads Refused (recovering.Log e) was is (bytes, (number, told), why) =
    inr (number, bytes, inl told)
recover_reads Refused (recovering.Edit e) was is (bytes, (number, told), why) =
    inr (number, bytes, inl told)
recover_reads Refused (recovering.Replay e) was is (bytes, (number, told), why) =
    inr (number, bytes, inl told)

find_reads : (Stored : ℕ → List ℕ → Type 0) (Refused : Asked → ShelfFault → Type 0)
    (Honest : Type 0) (e : OpenFault) (was is : Told)
    → IsFindRefusal Stored Refused Honest e was is → OnlyReads was is
find_reads Stored Refused Honest opening.OutOfMemory was is r =
    inr (r.held.number, r.held.bytes, r.told)
find_reads Stored Refused Honest (opening.Shelf e) was is r =
    inr (r.held.number, r.held.bytes, inl r.told)
find_reads Stored Refused Honest (opening.Recover e) was is r = recover_reads Refused e was is r
find_reads Stored Refused Honest (opening.Check e) was is r =
    inr (r.held.number, r.held.bytes, inl r.told)
find_reads Stored Refused Honest opening.NumbersSpent was is r =
    inr (r.held.number, r.held.bytes, inr (r.listed, r.told))

pub lacking_reads : (Refused : Asked → ShelfFault → Type 0) (e : WriterFault) (was is : Told)
    → LacksManifest Refused e was is → OnlyReads was is
lacking_reads Refused e was is (fault, same, r, counted) = recover_reads Refused fault was is r

pub refusal_reads : (Stored : ℕ → List ℕ → Type 0) (Refused : Asked → ShelfFault → Type 0)
    (Honest : Type 0) (m : NamedManifest) (e : WriterFault) (was mid is : Told)
    → FindsManifest m was mid → IsNotHalted Stored Refused Honest e mid is → OnlyReads was is
refusal_reads Stored Refused Honest m e was mid is found (fault, same, r, counted) =
    reads_behind found.held.number found.held.bytes was mid is found.told
    (find_reads Stored Refused Honest fault mid is r)

pub opening_reads : (Honest : Type 0) (o : Options) (m : NamedManifest) (h : Held)
    (was mid is : Told) → FindsManifest m was mid → IsHaltedWith Honest o h mid is
    → OnlyReads was is
opening_reads Honest o m h was mid is found opened =
    reads_behind found.held.number found.held.bytes was mid is found.told
    (inr (h.journal.number, h.journal.bytes, inr (opened.found.listed, opened.found.told)))

-- ---- a state with options of its parts

-- with options that are these
pub halted_with : (Honest : Type 0) (p o : Options) (h : Held) (was is : Told) → p ≡ o
    → IsHaltedWith Honest p h was is → IsHaltedWith Honest o h was is
halted_with Honest p o h was is same opened =
    subst (λ (q : Options). IsHaltedWith Honest q h was is) same opened
