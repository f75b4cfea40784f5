-- What a file is made into.
use Rattle.std.proofs.Common.{◌≡◌, ℕ, ◌⊎◌, Bool, true, false, List, [], ◌∷◌, Option, Result, Ok, Err, refl, sym, ◌∙◌, subst, inl, inr}
use Rattle.std.specs.Prelude.{IfOk}
use Rattle.lsm_codec.specs.Entries.{Entry}
use Rattle.lsm_codec.proofs.CallerLemmas.{IsBytes}
use Rattle.lsm_table.specs.declared.table_options.TableOptions.{TableOptions}
use Rattle.lsm_table.specs.declared.table_fault.TableFault.TheVariants as fault
use Rattle.lsm_inflate.specs.declared.inflate_fault.InflateFault.{InflateFault}
use Rattle.lsm_inflate.specs.declared.inflate_fault.InflateFault.TheVariants.{Table, BadSnappy, TooLarge}
use Rattle.lsm_inflate.specs.declared.plain_table.PlainTable.{PlainTable}
use Rattle.lsm_inflate.specs.Filling.{plain_bytes}
use Rattle.lsm_inflate.specs.Reading.{guarded, is_memory, FailsUnless, Fails, Gives}
use Rattle.lsm_inflate.specs.PackedTable.{IsPackedTable, IsPlain, IsWant, MakesPlain}
use Rattle.lsm_inflate.specs.PackedReading.{entries_at, finished_at, inflated_at}
use Rattle.lsm_inflate.proofs.StepLaws.{ok_is}
use Rattle.lsm_inflate.proofs.LoopLaws.{fails_bind}
use Rattle.lsm_inflate.proofs.TableLaws.{entries_takes, entries_again}

want_memory : (f : InflateFault) → is_memory f ≡ true → IsWant f
want_memory (Table fault.OutOfMemory) h = tt
want_memory (Table fault.BadRestarts) h = absurd cc
want_memory (Table (fault.BadEntry n)) h = absurd cc
want_memory (Table (fault.OutOfOrder n)) h = absurd cc
want_memory (Table fault.ShortFile) h = absurd cc
want_memory (Table fault.BadMagic) h = absurd cc
want_memory (Table fault.BadHandle) h = absurd cc
want_memory (Table (fault.BadChecksum n)) h = absurd cc
want_memory (Table (fault.Compressed n)) h = absurd cc
want_memory (Table (fault.BadBlockType n)) h = absurd cc
want_memory (Table fault.BadIndex) h = absurd cc
want_memory (BadSnappy offset cause) h = absurd cc
want_memory TooLarge h = tt

fails_is : {Y : Type 0} (f : InflateFault) (read : Result Y InflateFault) → Fails f read → (is_memory f ≡ true) ⊎ (read ≡ Err f)
fails_is {Y} f read h = by_memory (is_memory f) refl h
  where
    by_memory : (b : Bool) → is_memory f ≡ b → FailsUnless b f read → (is_memory f ≡ true) ⊎ (read ≡ Err f)
    by_memory true e u = inl e
    by_memory false e u = inr u

guard_want : {A : Type 0} (b : Bool) (x : A) (f : InflateFault) → guarded b TooLarge (Ok x) ≡ Err f → IsWant f
guard_want true x f e = absurd cc
guard_want false x f e = let same : TooLarge ≡ f = cc in subst IsWant same tt

finished_want : (options : TableOptions) (es : List Entry) (f : InflateFault) → finished_at options es ≡ Err f → IsWant f
unfolding finished_at
finished_want options [] f e = absurd cc
finished_want options (e ∷ es) f h = guard_want _ _ f h

pub found_from : (options : TableOptions) (file : List ℕ) (made : List Entry) (r : Result (Option PlainTable) InflateFault) → IsBytes file → entries_at options file ≡ Ok made → IfOk r (IsPlain made) → IfOk r (λ plain. (es : List Entry) × IsPackedTable file es × IsPlain es plain)
found_from options file made (Ok plain) fits read is = (made, entries_takes options file made fits read, is)
found_from options file made (Err f) fits read is = tt

-- the entries were read: the table was made, or its index block has no room
pub only_read : (options : TableOptions) (file : List ℕ) (made es : List Entry) (r : Result (Option PlainTable) InflateFault) → IsBytes file → entries_at options file ≡ Ok made → IsPackedTable file es
    → IfOk r (IsPlain made) → Gives plain_bytes r (finished_at options made) → MakesPlain es r
only_read options file made es (Ok plain) fits read t is g = elim (entries_again options file es fits t) [
  | inl well ↦ subst (λ (x : List Entry). IsPlain x plain) (ok_is made es (sym read ∙ well)) is
  | inr bad ↦ absurd (let off = sym read ∙ bad in cc)
]
only_read options file made es (Err f) fits read t is g = elim (fails_is f (finished_at options made) g) [
  | inl memory ↦ want_memory f memory
  | inr bad ↦ finished_want options made f bad
]

-- they were not
pub only_refused : (options : TableOptions) (file : List ℕ) (es : List Entry) (f : InflateFault) → IsBytes file → Fails f (entries_at options file) → IsPackedTable file es → IsWant f
only_refused options file es f fits g t = elim (fails_is f (entries_at options file) g) [
  | inl memory ↦ want_memory f memory
  | inr bad ↦ elim (entries_again options file es fits t) [
    | inl well ↦ absurd (let off = sym bad ∙ well in cc)
    | inr large ↦ let off = sym large ∙ bad in let same : TooLarge ≡ f = cc in subst IsWant same tt
  ]
]

pub exact_read : (options : TableOptions) (file : List ℕ) (made : List Entry) (r : Result (Option PlainTable) InflateFault) → entries_at options file ≡ Ok made → Gives plain_bytes r (finished_at options made) → Gives plain_bytes r (inflated_at options file)
unfolding inflated_at
exact_read options file made r read g = rw read g

pub exact_refused : (options : TableOptions) (file : List ℕ) (f : InflateFault) → Fails f (entries_at options file) → Fails f (inflated_at options file)
unfolding inflated_at
exact_refused options file f g = fails_bind f (entries_at options file) (finished_at options) g
