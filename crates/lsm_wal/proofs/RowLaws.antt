-- Logs that are read one behind another.
use Rattle.std.proofs.Common.{◌≡◌, ◌≤◌, ℕ, false, ltb, List, [], ◌∷◌, ◌++◌, sym, ap, ◌∙◌, subst}
use Rattle.std.specs.Prelude.{Some, None, slice_get}
use Rattle.std.proofs.lemmas.Bool.{ltb-false}
use Rattle.lsm_wal.specs.declared.write_batch.WriteBatch.{WriteBatch}
use Rattle.lsm_wal.specs.WriteLog.{AreBatches, after}
use Rattle.lsm_wal.specs.WriteLogs.{AreInRow}
use Rattle.lsm_wal.proofs.BatchLaws.{after_behind, batches_behind}

-- the first one does not begin below
pub raised : (least : ℕ) (rs : List (List ℕ)) (bs : List WriteBatch) (b : WriteBatch)
    → Some b ≡ slice_get bs 0 → ltb b.first least ≡ false → AreBatches 0 rs bs
    → AreBatches least rs bs
raised least [] [] b is test a = a
raised least [] (c ∷ bs) b is test a = absurd a
raised least (r ∷ rs) [] b is test a = absurd a
raised least (r ∷ rs) (c ∷ bs) b is test a =
    let same : b ≡ c = (let z : Some b ≡ Some c = is in cc) in
    (a.0, subst (λ (x : WriteBatch). least ≤ x.first) same (ltb-false _ _ test), a.2)

pub raised_none : (least : ℕ) (rs : List (List ℕ)) (bs : List WriteBatch) → None ≡ slice_get bs 0
    → AreBatches 0 rs bs → AreBatches least rs bs
raised_none least [] [] is a = a
raised_none least (r ∷ rs) [] is a = absurd a
raised_none least rs (b ∷ bs) is a = absurd (cc is)

pub row_more : (old own lent last new : List WriteBatch) (rs : List (List ℕ)) (least end : ℕ)
    → AreInRow old → least ≡ after 0 old → AreBatches 0 rs own → lent ≡ own → last ≡ own
    → ((ss : List (List ℕ)) → AreBatches 0 ss lent → AreBatches least ss lent)
    → end ≡ after least last → new ≡ old ++ own → AreInRow new × (end ≡ after 0 new)
row_more old own lent last new rs least end row at found lent_is last_is up end_is is =
    let higher : AreBatches least rs own =
    subst (λ (l : List WriteBatch). AreBatches least rs l) lent_is
    (up rs (subst (λ (l : List WriteBatch). AreBatches 0 rs l) (sym lent_is) found)) in
    let behind = batches_behind 0 row.0 rs old own row.1
    (subst (λ (n : ℕ). AreBatches n rs own) at higher) in (
      (row.0 ++ rs, subst (λ (l : List WriteBatch). AreBatches 0 (row.0 ++ rs) l) (sym is) behind),
      end_is ∙ ap (after least) last_is ∙ ap (λ (n : ℕ). after n own) at
          ∙ sym (after_behind 0 old own) ∙ ap (after 0) (sym is),
    )
