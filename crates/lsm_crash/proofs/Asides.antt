-- What other threads may ask meanwhile.
use Rattle.std.proofs.Common.{◌≡◌, ℕ, ◌<◌, ◌^◌, List, sym, ◌∙◌, ap, Some, None}
use Rattle.std.specs.Prelude.{Bool, Result, codes}
use Rattle.lsm_folder.specs.Calls.{Answer, Call, folder_synced, locked, made, removed, synced}
use Rattle.lsm_folder.specs.declared.folder_fault.FolderFault.{FolderFault}
use Rattle.lsm_folder.specs.declared.lock_kind.LockKind.{LockKind}
use Rattle.lsm_storage.specs.FileNames.{manifest_name, table_name, temporary_name}
use Rattle.lsm_crash.specs.Versions.{Tables}
use Rattle.lsm_crash.specs.Known.{current_name}
use Rattle.lsm_crash.specs.Among.{Avoids, IsAside}
use Rattle.lsm_crash.proofs.Names.{lock_current, lock_manifest, lock_table, lock_temporary, table_current, table_manifest, table_temporary, tables_apart}

no_image : (image : List ℕ) → None ≡ Some image → ⊥
no_image image e = cc

-- a call on a table that is not counted on
aside_of : (tables : Tables) (number : ℕ) (c : Call) → ((n : ℕ) (image : List ℕ) → tables n ≡ Some image → n < 2 ^ 64) → number < 2 ^ 64 → tables number ≡ None
    → ((q : List ℕ) → (table_name number ≡ q → ⊥) → Avoids q c) → IsAside tables c
aside_of tables number c below small none avoids = record {
  current = avoids current_name (table_current number);
  manifests = λ m lt. avoids (manifest_name m) (table_manifest number m small);
  temporaries = λ m lt. avoids (temporary_name m) (table_temporary number m);
  others = λ n image is. avoids (table_name n) (λ e. no_image image (sym none ∙ (ap tables (tables_apart number n small (below n image is) e) ∙ is)));
}

pub aside_made : (tables : Tables) (number : ℕ) (image : List ℕ) (a : Answer) → ((n : ℕ) (image : List ℕ) → tables n ≡ Some image → n < 2 ^ 64) → number < 2 ^ 64 → tables number ≡ None → IsAside tables (made (table_name number) image a)
aside_made tables number image a below small none = aside_of tables number (made (table_name number) image a) below small none (λ q x. x)

pub aside_synced : (tables : Tables) (number : ℕ) (a : Answer) → ((n : ℕ) (image : List ℕ) → tables n ≡ Some image → n < 2 ^ 64) → number < 2 ^ 64 → tables number ≡ None → IsAside tables (synced (table_name number) a)
aside_synced tables number a below small none = aside_of tables number (synced (table_name number) a) below small none (λ q x. x)

pub aside_removed : (tables : Tables) (number : ℕ) (a : Answer) → ((n : ℕ) (image : List ℕ) → tables n ≡ Some image → n < 2 ^ 64) → number < 2 ^ 64 → tables number ≡ None → IsAside tables (removed (table_name number) a)
aside_removed tables number a below small none = aside_of tables number (removed (table_name number) a) below small none (λ q x. x)

pub aside_folder : (tables : Tables) (a : Answer) → IsAside tables (folder_synced a)
aside_folder tables a = record { current = tt; manifests = λ m lt. tt; temporaries = λ m lt. tt; others = λ n image is. tt }

pub aside_lock : (tables : Tables) (kind : LockKind) (a : Result Bool FolderFault) → IsAside tables (locked (codes "LOCK") kind a)
aside_lock tables kind a = record { current = lock_current; manifests = λ m lt. lock_manifest m; temporaries = λ m lt. lock_temporary m; others = λ n image is. lock_table n }
