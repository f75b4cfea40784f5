-- Batches that come in beside workers.
use Rattle.std.proofs.Common.{◌≡◌, List, inl, inr}
use Rattle.std.specs.Prelude.{Result, Ok, Err, IfOk, IfErr}
use Rattle.lsm_shelf.specs.Asked.{Asked}
use Rattle.lsm_shelf.specs.Told.{Told}
use Rattle.lsm_shelf.specs.declared.shelf_fault.ShelfFault.{ShelfFault}
use Rattle.lsm_batch.specs.declared.write.Write.{Write}
use Rattle.lsm_state.specs.Held.{Held}
use Rattle.lsm_state.specs.Ingesting.{IsIngestRefusal}
use Rattle.lsm_state.specs.declared.state_fault.StateFault.TheVariants.{LevelZeroFull}
use Rattle.lsm_store.specs.Background.{IsKeptOut}

pub ok_both : {T E : Type 0} (P Q R : T → Type 0) (r : Result T E) → ((x : T) → P x → Q x → R x) → IfOk r P → IfOk r Q → IfOk r R
ok_both P Q R (Ok x) f p q = f x p q
ok_both P Q R (Err e) f p q = tt

pub err_then : {T E : Type 0} (P Q : E → Type 0) (r : Result T E) → ((e : E) → P e → Q e) → IfErr r P → IfErr r Q
err_then P Q (Ok x) f p = tt
err_then P Q (Err e) f p = f e p

full_same : (was is : Held) (ws : List Write) (t u : Told) → IsIngestRefusal was is ws LevelZeroFull t u → u ≡ t
full_same was is ws t u refusal = elim refusal [
  | inl early ↦ early.2
  | inr late ↦ elim late.1 [
    | inl slot ↦ slot.3
    | inr tried ↦ elim tried.2 [
      | inl built ↦ built.2
      | inr put ↦ elim put [
        | inl failed ↦ absurd failed.1
        | inr changed ↦ absurd changed.3
      ]
    ]
  ]
]

-- what finds level 0 full has not asked the shelf
pub full_asks_nothing : (Refused : Asked → ShelfFault → Type 0) (keeps : Held → Type 0) (ws : List Write) (t u : Told) → IsKeptOut Refused keeps ws LevelZeroFull t u → u ≡ t
full_asks_nothing Refused keeps ws t u k = full_same k.0 k.1 ws t u k.3.refusal
