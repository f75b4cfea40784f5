-- Steps of a reader of a table.
use Rattle.std.proofs.Common.{◌≡◌, ℕ, Bool, not, List, [], ◌∷◌, Option, Some, None, Result, Ok, Err, refl, sym, ap, ◌∙◌, subst}
use Rattle.std.specs.Option.{option_map}
use Rattle.lsm_codec.specs.Entries.{Entry, internal_key}
use Rattle.lsm_block.specs.Held.{first_of}
use Rattle.lsm_block.specs.Standing.{is_end, key_of_first, value_of_first}
use Rattle.lsm_table.specs.declared.table_fault.TableFault.{TableFault}
use Rattle.lsm_table.specs.declared.read_fault.ReadFault.{ReadFault}
use Rattle.lsm_table.specs.declared.read_fault.ReadFault.TheVariants.{Shelf, Table}
use Rattle.lsm_table.specs.Reading.{settled}
use Rattle.lsm_table.specs.Footer.{body_of}
use Rattle.lsm_table.specs.HeldTable.{AreNamed, Names}
use Rattle.lsm_table.specs.OpenTable.{Opens}
use Rattle.lsm_table.proofs.CallerLemmas.{names_all}
use Rattle.lsm_reader.specs.Blocks.{Reads, Rest, left_at, IsAtEntry}
use Rattle.lsm_reader.specs.Stepping.{Reading, reading_on, reading_of, IsNamedFrom, StepsOn, value_in}

-- what a step answers, where these entries are left from the one on at which it stands
pub steps_to : (now : List Entry) (old : Reading) (more : Bool) → old.left ≡ now → more ≡ not (is_end now) → StepsOn more old (reading_on now)
steps_to [] old more l m = subst (λ (b : Bool). StepsOn b old (reading_on [])) (sym m) (refl, l, refl)
steps_to (e ∷ es) old more l m = subst (λ (b : Bool). StepsOn b old (reading_on (e ∷ es))) (sym m) (e, refl, l)

pub key_at : (image : List ℕ) (rest : Rest) → IsAtEntry rest.here rest.index → key_of_first rest.here ≡ option_map internal_key (first_of (left_at image rest))
key_at image rest a = by_here rest.here rest.index a
  where
    by_here : (here index : List Entry) → IsAtEntry here index → key_of_first here ≡ option_map internal_key (first_of (left_at image (record { here = here; index = index })))
    by_here [] index a = rw a refl
    by_here (e ∷ es) index a = refl

pub value_at : (image : List ℕ) (rest : Rest) → IsAtEntry rest.here rest.index → value_of_first rest.here ≡ value_in (first_of (left_at image rest))
value_at image rest a = by_here rest.here rest.index a
  where
    by_here : (here index : List Entry) → IsAtEntry here index → value_of_first here ≡ value_in (first_of (left_at image (record { here = here; index = index })))
    by_here [] index a = rw a refl
    by_here (e ∷ es) index a = refl

-- ---- before the first entry

pub named_first : (image : List ℕ) (index : List Entry) (o : Option Rest) → o ≡ None → IsNamedFrom image index o → AreNamed (body_of image) index
named_first image index None h nm = nm
named_first image index (Some rest) h nm = absurd cc

pub left_first : (image : List ℕ) (index : List Entry) (o : Option Rest) (old : Reading) (es : List Entry) → o ≡ None → reading_of image index o ≡ old → Names (body_of image) index es → old.left ≡ es
left_first image index None old es h v n = ap (λ (r : Reading). r.left) (sym v) ∙ names_all (body_of image) index es n
left_first image index (Some rest) old es h v n = absurd cc

-- ---- opening

pub opens_fails : {X : Type 0} (Z : Type 0) (see : X → List Entry) (e : ReadFault) (read : Result (List Entry) TableFault) → Reads see (Err e) read → Opens {X = Z} (Err e) read
opens_fails Z see (Shelf fault) read r = tt
opens_fails Z see (Table fault) read r = r

pub opens_well : (read : Result (List Entry) TableFault) (es : List Entry) → read ≡ Ok es → settled read ≡ Ok tt
opens_well read es r = ap settled r
