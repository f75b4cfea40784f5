-- What was read of an entry, as the code sees it.
use Rattle.std.proofs.Common.{◌≡◌, ℕ, List, Option, Some, None, refl, sym, ap}
use Rattle.std.specs.Option.{option_map}
use Rattle.lsm_block.specs.Reading.{Piece}
use Rattle.lsm_block.specs.Walking.{seen}
use Rattle.lsm_block.proofs.EntryLaws.{some_is}

abbrev pub sees : ℕ → List ℕ → List ℕ → List ℕ → ℕ × List ℕ × List ℕ × List ℕ
sees shared key value after = (shared, key, value, after)

-- the piece that was read
pub record Seen (o : Option (Piece × List ℕ)) (shared : ℕ) (key value after : List ℕ) : Type 0 where
  pub piece : Piece
  pub is : o ≡ Some (piece, after)
  pub shared_is : piece.shared ≡ shared
  pub key_is : piece.key ≡ key
  pub value_is : piece.value ≡ value

pub seen_some : (o : Option (Piece × List ℕ)) (shared : ℕ) (key value after : List ℕ) → Some (sees shared key value after) ≡ option_map seen o → Seen o shared key value after
seen_some None shared key value after e = absurd cc
seen_some (Some found) shared key value after e =
    let same = some_is (sees shared key value after) (seen found) e in
    record {
      piece = found.0;
      is = ap (λ (q : ℕ × List ℕ × List ℕ × List ℕ). Some (found.0, q.3)) (sym same);
      shared_is = ap (λ (q : ℕ × List ℕ × List ℕ × List ℕ). q.0) (sym same);
      key_is = ap (λ (q : ℕ × List ℕ × List ℕ × List ℕ). q.1) (sym same);
      value_is = ap (λ (q : ℕ × List ℕ × List ℕ × List ℕ). q.2) (sym same);
    }

pub seen_none : (o : Option (Piece × List ℕ)) → None ≡ option_map seen o → o ≡ None
seen_none None e = refl
seen_none (Some found) e = absurd cc
