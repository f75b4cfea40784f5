-- What is found of a database without reading its tables, and why it is not.
use Rattle.std.proofs.Common.{◌≡◌, ℕ, ◌-◌, ◌^◌, ◌<◌, List, [], ◌∷◌, ◌++◌, ◌∙◌, ap, inl, inr, arith}
use Rattle.lsm_codec.specs.Lists.{Has}
use Rattle.lsm_shelf.specs.Asked.{Asked, ListTables, Load}
use Rattle.lsm_shelf.specs.Refusals.{IsWantOr}
use Rattle.lsm_shelf.specs.Told.{Told, Becomes, Counted, NotNamed, finding, listing}
use Rattle.lsm_shelf.specs.declared.shelf_fault.ShelfFault.{ShelfFault}
use Rattle.lsm_shelf.specs.declared.shelf_fault.ShelfFault.TheVariants.{OutOfMemory, Device}
use Rattle.lsm_shelf.specs.declared.shelf_fault.ShelfFault.TheVariants.{Missing, Taken}
use Rattle.lsm_table.specs.ReadFault.{ReadCounted}
use Rattle.lsm_table.specs.declared.read_fault.ReadFault.{ReadFault}
use Rattle.lsm_table.specs.declared.read_fault.ReadFault.TheVariants as read
use Rattle.lsm_table.proofs.CallerLemmas.{becomes_then, counted_later, read_counted_later}
use Rattle.lsm_manifest.specs.Shape.{Form}
use Rattle.lsm_verify.specs.CheckFault.{CheckCounted}
use Rattle.lsm_verify.specs.CheckRefusal.{IsOfShape}
use Rattle.lsm_version.specs.FileNumbers.{AreDistinct, numbers_of}
use Rattle.lsm_version.specs.Versions.{IsSound, Levels, numbers_in}
use Rattle.lsm_verify.specs.declared.check_fault.CheckFault.{CheckFault}
use Rattle.lsm_verify.specs.declared.check_fault.CheckFault.TheVariants.{Read, DoubleFile, Overlap}
use Rattle.lsm_verify.specs.declared.check_fault.CheckFault.TheVariants.{WrongRange, AgeOrder}
use Rattle.lsm_journal.specs.HeldManifest.{HeldManifest}
use Rattle.lsm_journal.specs.Recorded.{IsRecorded}
use Rattle.lsm_journal.specs.Recovering.{IsRecovered}
use Rattle.lsm_journal.specs.Finding.{IsFound, IsLeastFree, IsWithoutRoom, taken_numbers}
use Rattle.lsm_admission.specs.Admitted.{IsAdmitted, IsNotAdmitted, IsUnlisted, IsTakenLast}
use Rattle.lsm_admission.specs.AdmitRefusal.{IsAdmitRefusal}
use Rattle.lsm_admission.specs.FoundTables.{IsFoundFrom}
use Rattle.lsm_journal.specs.declared.manifest_limit.ManifestLimit.{ManifestLimit}

-- a manifest that was read records each version of its shape (a law of journals)
abbrev pub RecoveredIsRecorded : Type 0
RecoveredIsRecorded = (rest : ℕ) (h : HeldManifest) (shape : Form) (v : Levels)
    → IsRecovered h shape rest → IsOfShape shape v → AreDistinct (numbers_of shape.levels)
    → IsRecorded rest h v shape.next

-- ---- the numbers that are taken

pub taken_all : (listed added pushed all : List ℕ) (v : Levels) (n m : ℕ) → all ≡ pushed
    → pushed ≡ added ++ n ∷ [] → added ≡ listed ++ numbers_in v → n ≡ m
    → all ≡ taken_numbers listed v m
taken_all listed added pushed all v n m is last front same = is
    ∙ (last ∙ (ap (λ (xs : List ℕ). xs ++ n ∷ []) front
    ∙ ap (λ (k : ℕ). (listed ++ numbers_in v) ++ k ∷ []) same))

-- ---- what was told

-- the tables were listed after what was told before
pub then_listed : (ns : List ℕ) (a b c : Told) → Becomes a b → Becomes (listing ns b) c
    → Becomes (listing ns a) c
then_listed ns a b c x y = record {
  place = y.place ∙ x.place;
  faults = (let p = x.faults in let q = y.faults in omega arith);
  misses = (let p = x.misses in let q = y.misses in omega arith);
  puts = y.puts ∙ x.puts;
  gone = y.gone ∙ x.gone;
  listed = y.listed;
  manifest = y.manifest ∙ x.manifest;
  sent = y.sent ∙ x.sent;
  found = y.found ∙ x.found;
  starts = y.starts ∙ x.starts;
  written = y.written ∙ x.written;
  forks = y.forks ∙ x.forks;
  made = y.made ∙ x.made;
}

-- reading a manifest counts nothing
counted_from : (e : ShelfFault) (n : ℕ) (bytes : List ℕ) (was is : Told)
    → Counted e (finding n bytes was) is → Counted e was is
counted_from OutOfMemory n bytes was is k = tt
counted_from Device n bytes was is k = k
counted_from Missing n bytes was is k = k
counted_from (Taken m) n bytes was is k = k

read_counted_from : (e : ReadFault) (n : ℕ) (bytes : List ℕ) (was is : Told)
    → ReadCounted e (finding n bytes was) is → ReadCounted e was is
read_counted_from (read.Shelf fault) n bytes was is k = (k.0, counted_from fault n bytes was is k.1)
read_counted_from (read.Table fault) n bytes was is k = tt

check_counted_from : (e : CheckFault) (n : ℕ) (bytes : List ℕ) (was mid is : Told)
    → Becomes (finding n bytes was) mid → CheckCounted e mid is → CheckCounted e was is
check_counted_from (Read file fault) n bytes was mid is t k = read_counted_from fault n bytes was
    is (read_counted_later fault (finding n bytes was) mid is t k)
check_counted_from (DoubleFile number) n bytes was mid is t k = tt
check_counted_from (Overlap level) n bytes was mid is t k = tt
check_counted_from (WrongRange number) n bytes was mid is t k = tt
check_counted_from (AgeOrder user) n bytes was mid is t k = tt

-- ---- refusals

pub not_admitted : (Keeps : ℕ → List ℕ → Type 0) (Refused : Asked → ShelfFault → Type 0)
    (e : CheckFault) (rest : ℕ) (h : HeldManifest) (shape : Form) (was mid is : Told)
    → IsRecovered h shape rest
    → Becomes (finding h.number h.bytes was) mid
    → IsAdmitRefusal Keeps (λ number. Refused (Load number)) shape e → CheckCounted e mid is
    → Becomes mid is → IsNotAdmitted Keeps Refused e was is
not_admitted Keeps Refused e rest h shape was mid is r t why cause same = record {
  held = h;
  shape = shape;
  rest = rest;
  recovered = r;
  why = why;
  cause = check_counted_from e h.number h.bytes was mid is t cause;
  told = becomes_then (finding h.number h.bytes was) mid is t same;
}

pub unlisted : (Keeps : ℕ → List ℕ → Type 0) (Refused : Asked → ShelfFault → Type 0)
    (e : ShelfFault) (rest : ℕ) (h : HeldManifest) (shape : Form) (v : Levels) (was mid is : Told)
    → IsRecovered h shape rest → IsFoundFrom Keeps shape v
    → Becomes (finding h.number h.bytes was) mid → NotNamed e × Counted e mid is
    → IsWantOr (Refused ListTables) e → Becomes mid is → IsUnlisted Keeps Refused e was is
unlisted Keeps Refused e rest h shape v was mid is r f t cause asked same = record {
  held = h;
  shape = shape;
  rest = rest;
  version = v;
  recovered = r;
  found = f;
  cause = (
    cause.0,
    counted_from e h.number h.bytes was is
        (counted_later e (finding h.number h.bytes was) mid is t cause.1),
  );
  asked = asked;
  told = becomes_then (finding h.number h.bytes was) mid is t same;
}

pub taken_last : (Keeps : ℕ → List ℕ → Type 0) (rest : ℕ) (h : HeldManifest) (shape : Form)
    (v : Levels) (listed : List ℕ) (was mid is : Told) → IsRecovered h shape rest
    → IsFoundFrom Keeps shape v
    → Has (taken_numbers listed v h.number) (2 ^ 64 - 1) → Becomes (finding h.number h.bytes was)
    mid → Becomes (listing listed mid) is → IsTakenLast Keeps was is
taken_last Keeps rest h shape v listed was mid is r f spent t same = record {
  held = h;
  shape = shape;
  rest = rest;
  version = v;
  listed = listed;
  recovered = r;
  found = f;
  spent = spent;
  told = then_listed listed (finding h.number h.bytes was) mid is t same;
}

pub without_room : (rest : ℕ) (h : HeldManifest) (shape : Form) (was is : Told)
    → IsRecovered h shape rest → Becomes (finding h.number h.bytes was) is → IsWithoutRoom was is
without_room rest h shape was is r t = record {
  held = h;
  shape = shape;
  rest = rest;
  recovered =
      r;
  told = inl t;
}

pub without_room_listed : (rest : ℕ) (h : HeldManifest) (shape : Form) (listed : List ℕ)
    (was mid is : Told) → IsRecovered h shape rest → Becomes (finding h.number h.bytes was) mid
    → Becomes (listing listed mid) is → IsWithoutRoom was is
without_room_listed rest h shape listed was mid is r t same = record {
  held = h;
  shape = shape;
  rest = rest;
  recovered = r;
  told = inr (listed, then_listed listed (finding h.number h.bytes was) mid is t same);
}

-- ---- what is found

pub admitted_there : (Keeps : ℕ → List ℕ → Type 0) (limit : ManifestLimit) (rest : ℕ) (h : HeldManifest)
    (shape : Form) (v : Levels) (listed : List ℕ) (next : ℕ) (was mid is : Told)
    → IsRecovered h shape rest → IsFoundFrom Keeps shape v → h.limit ≡ limit
    → IsLeastFree shape.next (taken_numbers listed v h.number) next → next < 2 ^ 64
    → Becomes (finding h.number h.bytes was) mid → Becomes (listing listed mid) is
    → IsAdmitted Keeps shape limit h v rest next was is
admitted_there Keeps limit rest h shape v listed next was mid is r f limit_is least fits t same =
    record {
      listed = listed;
      recovered = r;
      found = f;
      limit_is = limit_is;
      least = least;
      fits = fits;
      told = then_listed listed (finding h.number h.bytes was) mid is t same;
    }

-- where the version is of the shape and sound, it is what a judgment of every table finds
pub admitted_found : (honest : Type 0) (Keeps : ℕ → List ℕ → Type 0) (limit : ManifestLimit) (rest : ℕ)
    (h : HeldManifest) (shape : Form) (v : Levels) (next : ℕ) (was is : Told) → RecoveredIsRecorded
    → IsOfShape shape v → IsSound v → IsAdmitted Keeps shape limit h v rest next was is
    → IsFound honest limit h v rest next was is
admitted_found honest Keeps limit rest h shape v next was is law of sound a =
    let own : AreDistinct (numbers_of shape.levels) = a.found.tables.numbers in
    record {
      shape = shape;
      listed = a.listed;
      loaded = record {
        recovered = a.recovered;
        of_shape = of;
        numbers = own;
        recorded = law rest h shape v a.recovered of own;
        settled = λ s. sound;
        judged = λ k. sound;
        sound = λ t. sound;
      };
      limit_is = a.limit_is;
      least = a.least;
      fits = a.fits;
      told = a.told;
    }
