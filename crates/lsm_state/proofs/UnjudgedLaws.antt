-- What opening a database gives whose tables are found and not judged.
use Rattle.std.proofs.Common.{◌≡◌, ℕ, ◌+◌, ◌<◌, false, true, List, [], ◌∷◌, ◌++◌, refl, sym, ◌∙◌}
use Rattle.std.proofs.Common.{ap, subst, inl, inr}
use Rattle.std.specs.Prelude.{◌⊎◌, Result, Ok, Err, IfOk, IfErr}
use Rattle.lsm_codec.specs.Lists.{Has}
use Rattle.lsm_codec.proofs.CallerLemmas.{has_left, has_right}
use Rattle.lsm_pins.specs.Known.{Known}
use Rattle.lsm_shelf.specs.Asked.{Asked}
use Rattle.lsm_shelf.specs.Told.{Told, Becomes, finding, listing}
use Rattle.lsm_shelf.specs.declared.shelf_fault.ShelfFault.{ShelfFault}
use Rattle.lsm_table.proofs.CallerLemmas.{becomes_then}
use Rattle.lsm_manifest.specs.Shape.{Form}
use Rattle.lsm_verify.specs.CheckFault.{CheckCounted}
use Rattle.lsm_verify.specs.declared.check_fault.CheckFault.{CheckFault}
use Rattle.lsm_version.specs.Versions.{IsSound, Levels, numbers_in}
use Rattle.lsm_journal.specs.Finding.{IsFound}
use Rattle.lsm_journal.specs.HeldManifest.{HeldManifest}
use Rattle.lsm_journal.specs.Recorded.{IsRecorded}
use Rattle.lsm_journal.specs.Recovering.{IsRecovered}
use Rattle.lsm_journal.specs.declared.manifest_limit.ManifestLimit.{ManifestLimit}
use Rattle.lsm_journal.specs.declared.open_fault.OpenFault.{OpenFault}
use Rattle.lsm_journal.specs.declared.open_fault.OpenFault.TheVariants as opening
use Rattle.lsm_journal.proofs.CallerLemmas.{later}
use Rattle.lsm_admission.specs.Admitted.{IsAdmitted}
use Rattle.lsm_admission.specs.FoundTables.{IsFoundFrom}
use Rattle.lsm_admission.specs.Indexes.{IsIndexRefusal, all_tables}
use Rattle.lsm_state.specs.Held.{Held}
use Rattle.lsm_state.specs.Opening.{IsAnew, IsNotAnew, IsOpenable, opened_state}
use Rattle.lsm_state.specs.Unjudged.{IsBegunUnjudged, IsUnjudgedRefusal}
use Rattle.lsm_state.specs.declared.options.Options.{Options}

-- ---- the state that was made

-- it has the parts that it was made with
pub own_opened : (o : Options) (publisher : Known) (pinners : List Known) (v : Levels)
    (j : HeldManifest) (n : ℕ) (s : Held) → s ≡ opened_state o publisher pinners v j n true
    → s ≡ opened_state o publisher pinners s.slots.version s.journal s.next true
own_opened o publisher pinners v j n s e = subst
    (λ (x : Held). x ≡ opened_state o publisher pinners x.slots.version x.journal x.next true)
    (sym e) refl

pub own_version : {E : Type 0} (r : Result Held E) (o : Options) (publisher : Known)
    (pinners : List Known) (v : Levels)
    → IfOk r (λ t. t ≡ opened_state o publisher pinners v t.journal t.next false)
    → IfOk r (λ t. t ≡ opened_state o publisher pinners t.slots.version t.journal t.next false)
own_version (Ok t) o publisher pinners v e = e
    ∙ ap (λ (w : Levels). opened_state o publisher pinners w t.journal t.next false)
    (sym (ap (λ (x : Held). x.slots.version) e))
own_version (Err x) o publisher pinners v e = tt

-- a refusal to begin is one of what it began with
pub refused_of : {T : Type 0} (r : Result T OpenFault) (P Q : OpenFault → Type 0)
    → ((e : OpenFault) → P e → Q e) → IfErr r P → IfErr r Q
refused_of (Ok x) P Q more p = tt
refused_of (Err e) P Q more p = more e p

-- ---- what was found

pub admitted_then : (Keeps : ℕ → List ℕ → Type 0) (shape : Form) (limit : ManifestLimit)
    (h : HeldManifest) (v : Levels) (rest next : ℕ) (was read mid : Told)
    → IsAdmitted Keeps shape limit h v rest next was read → Becomes read mid
    → IsAdmitted Keeps shape limit h v rest next was mid
admitted_then Keeps shape limit h v rest next was read mid a same = record {
  listed = a.listed;
  recovered = a.recovered;
  found = a.found;
  limit_is = a.limit_is;
  least = a.least;
  fits = a.fits;
  told = becomes_then (listing a.listed (finding h.number h.bytes was)) read mid a.told same;
}

pub found_then : (honest : Type 0) (limit : ManifestLimit) (h : HeldManifest) (v : Levels)
    (rest next : ℕ) (was read mid : Told) → IsFound honest limit h v rest next was read
    → Becomes read mid → IsFound honest limit h v rest next was mid
found_then honest limit h v rest next was read mid f same = record {
  shape = f.shape;
  listed = f.listed;
  loaded = f.loaded;
  limit_is = f.limit_is;
  least = f.least;
  fits = f.fits;
  told = becomes_then (listing f.listed (finding h.number h.bytes was)) read mid f.told same;
}

-- a state may begin with it
pub openable_admitted : (honest : Type 0) (Keeps : ℕ → List ℕ → Type 0) (shape : Form)
    (limit : ManifestLimit) (h : HeldManifest) (v : Levels) (rest next : ℕ) (was is : Told)
    → (IsRecovered h shape rest → IsFoundFrom Keeps shape v → IsRecorded rest h v shape.next)
    → (honest → IsSound v) → IsAdmitted Keeps shape limit h v rest next was is
    → IsOpenable honest h v rest next
openable_admitted honest Keeps shape limit h v rest next was is law sound a = record {
  recorded = later rest h v shape.next next (law a.recovered a.found) a.least.0.0;
  below = λ n k. a.least.0.1 n (has_left (a.listed ++ numbers_in v) (h.number ∷ []) n
      (has_right a.listed (numbers_in v) n k));
  fits = a.fits;
  sound = sound;
}

-- ---- what it comes to

pub begun_unjudged : {E : Type 0} (r : Result Held E) (Keeps : ℕ → List ℕ → Type 0) (shape : Form)
    (limit : ManifestLimit) (o : Options) (publisher : Known) (pinners : List Known) (v : Levels)
    (h : HeldManifest) (rest next : ℕ) (was read is : Told)
    → IsAdmitted Keeps shape limit h v rest next was read
    → IfOk r (λ t. IsAnew v next h t.journal t.next read is)
    → IfOk r (λ t. t ≡ opened_state o publisher pinners v t.journal t.next false)
    → IfOk r (λ t. IsBegunUnjudged Keeps shape limit t.journal t.slots.version t.next was is)
begun_unjudged (Ok t) Keeps shape limit o publisher pinners v h rest next was read is a anew e =
    subst (λ (w : Levels). IsBegunUnjudged Keeps shape limit t.journal w t.next was is)
    (sym (ap (λ (x : Held). x.slots.version) e)) (record {
      before = h;
      rest = rest;
      number = next;
      read = read;
      admitted = a;
      anew = anew;
    })
begun_unjudged (Err x) Keeps shape limit o publisher pinners v h rest next was read is a anew e = tt

pub unindexed : (Keeps : ℕ → List ℕ → Type 0) (Refused : Asked → ShelfFault → Type 0)
    (honest : Type 0) (shape : Form) (limit : ManifestLimit) (h : HeldManifest) (v : Levels)
    (rest next : ℕ) (fault : CheckFault) (was read is : Told)
    → IsAdmitted Keeps shape limit h v rest next was read
    → IsIndexRefusal Refused honest (all_tables v.tables) fault → CheckCounted fault read is
    → Becomes read is
    → IsUnjudgedRefusal Keeps Refused honest shape limit (opening.Check fault) was is
unindexed Keeps Refused honest shape limit h v rest next fault was read is a why cause told =
    inr (inl (
      fault,
      refl,
      record {
        held = h;
        version = v;
        rest = rest;
        number = next;
        read = read;
        admitted = a;
        holds = (why, cause, told);
      },
    ))

-- memory ran out where all was found, or no new manifest begins
pub unbegun : (Keeps : ℕ → List ℕ → Type 0) (Refused : Asked → ShelfFault → Type 0)
    (honest : Type 0) (shape : Form) (limit : ManifestLimit) (h : HeldManifest) (v : Levels)
    (rest next : ℕ) (was read is : Told) (e : OpenFault)
    → IsAdmitted Keeps shape limit h v rest next was read
    → ((e ≡ opening.OutOfMemory) × (is ≡ read)) ⊎ IsNotAnew Refused v next h e read is
    → IsUnjudgedRefusal Keeps Refused honest shape limit e was is
unbegun Keeps Refused honest shape limit h v rest next was read is e a (inl (none, same)) =
    subst (λ (x : OpenFault). IsUnjudgedRefusal Keeps Refused honest shape limit x was is)
    (sym none) (inl (record {
      held = h;
      shape = shape;
      rest = rest;
      recovered = a.recovered;
      told = inr (
        a.listed,
        subst (λ (t : Told). Becomes (listing a.listed (finding h.number h.bytes was)) t)
            (sym same) a.told,
      );
    }))
unbegun Keeps Refused honest shape limit h v rest next was read is e a (inr n) =
    inr (inr (record {
      held = h;
      version = v;
      rest = rest;
      number = next;
      read = read;
      admitted = a;
      holds = n;
    }))
