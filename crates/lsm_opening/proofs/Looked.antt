-- Looks at a folder one after another.
use Rattle.std.proofs.Common.{List, [], ◌∷◌, ◌++◌, ◌∙◌, refl, sym, ap, append_assoc, false, inl, inr, subst}
use Rattle.std.specs.Prelude.{Ok, Err}
use Rattle.lsm_codec.specs.Lists.{Has}
use Rattle.lsm_folder.specs.Calls.{Call}
use Rattle.lsm_shelf.specs.declared.shelf_fault.ShelfFault.{ShelfFault}
use Rattle.lsm_folder.specs.declared.lock_kind.LockKind.TheVariants.{Exclusive}
use Rattle.lsm_directory.specs.Holding.{IsHeld, IsUnheld}
use Rattle.lsm_directory.specs.Looking.{IsLook, LooksStopped, OnlyLooks}
use Rattle.lsm_directory.specs.declared.faults.directory_fault.DirectoryFault.{DirectoryFault}
use Rattle.lsm_directory.specs.declared.faults.directory_fault.DirectoryFault.TheVariants.{OutOfMemory, Write, Shelf, Manifest, Tables, Read, NumbersSpent, Locked, UnflushedLog, TornManifest, LaterManifest, RocksDbFiles, Absent}
use Rattle.lsm_opening.specs.Preparing.{OnlyLocks}
use Rattle.lsm_opening.specs.Tidying.{OnlyReads}

pub looks_none : (a : List Call) → OnlyLooks a a
looks_none a = ([], refl, λ call has. absurd has)

either : (xs ys : List Call) (call : Call) → ((c : Call) → Has xs c → IsLook c) → ((c : Call) → Has ys c → IsLook c) → Has (xs ++ ys) call → IsLook call
either [] ys call p q has = q call has
either (x ∷ xs) ys call p q (inl same) = p call (inl same)
either (x ∷ xs) ys call p q (inr has) = either xs ys call (λ c h. p c (inr h)) q has

pub looks_more : (a b c : List Call) → OnlyLooks a b → OnlyLooks b c → OnlyLooks a c
looks_more a b c (first, is, all) (more, then, rest) =
    (more ++ first, then ∙ ap (λ (l : List Call). more ++ l) is ∙ sym (append_assoc more first a), λ call has. either more first call rest all has)

pub stopped_later : (e : ShelfFault) (a b c : List Call) → OnlyLooks a b → LooksStopped e b c → LooksStopped e a c
stopped_later e a b c looked (inl memory) = inl memory
stopped_later e a b c looked (inr (before, fault, more, other, same, last)) = inr (before, fault, looks_more a b before looked more, other, same, last)

-- ---- behind a lock

pub locks_alone : (e : DirectoryFault) (old new : List Call) → IsUnheld Exclusive e old new → OnlyLocks old new
locks_alone Locked old new is = (Ok false, ([], is, λ call has. absurd has))
locks_alone (Shelf e) old new (fault, is, held, same) = (Err fault, ([], is, λ call has. absurd has))
locks_alone OutOfMemory old new is = absurd is
locks_alone Write old new is = absurd is
locks_alone (Manifest fault) old new is = absurd is
locks_alone (Tables fault) old new is = absurd is
locks_alone (Read fault) old new is = absurd is
locks_alone NumbersSpent old new is = absurd is
locks_alone (UnflushedLog number) old new is = absurd is
locks_alone (TornManifest rest) old new is = absurd is
locks_alone (LaterManifest number) old new is = absurd is
locks_alone RocksDbFiles old new is = absurd is
locks_alone Absent old new is = absurd is

pub locks_then : (old held new : List Call) → IsHeld Exclusive old held → OnlyReads held new → OnlyLocks old new
locks_then old held new (answer, is, goes) reads = (answer, subst (λ (calls : List Call). OnlyReads calls new) is reads)
