-- What is written of a batch spells it.
use Rattle.std.proofs.Common.{◌≡◌, ℕ, ◌+◌, ◌-◌, ◌^◌, ◌<◌, ◌≤◌, List, [], ◌∷◌, ◌++◌, length, get_or}
use Rattle.std.proofs.Common.{drop, Option, None, Some, refl, sym, ap, ◌∙◌, append_assoc, arith}
use Rattle.std.specs.List.{AllByRecursion}
use Rattle.std.proofs.lemmas.List.{append-nil, drop_more, drop_all}
use Rattle.std.proofs.lemmas.List.Elements.{recursion_from_All}
use Rattle.lsm_codec.specs.Varint.{varint32}
use Rattle.lsm_codec.proofs.CallerLemmas.{is_shortest}
use Rattle.lsm_batch.specs.declared.write.Write.{Write}
use Rattle.lsm_wal.specs.declared.write_batch.WriteBatch.{WriteBatch}
use Rattle.lsm_wal.specs.WriteLog.{BytesText, WriteText, AreWrites, IsWriteBatch}
use Rattle.lsm_wal.specs.Writing.{bytes_text, write_text, writes_text, batch_text, IsShort}
use Rattle.lsm_wal.specs.Writing.{CanBeSpelled}

bytes_spelled : (bytes : List ℕ) → length bytes < 2 ^ 32 → BytesText bytes (bytes_text bytes)
unfolding bytes_text
bytes_spelled bytes fits =
    let s = is_shortest 5 (2 ^ 32 - 1) (length bytes) (omega arith) (omega (arith, fits))
    (omega arith) in
    record { size_text = varint32 (length bytes); size_is = s.is; own_is = refl }

write_spelled : (w : Write) → IsShort w → WriteText w (write_text w)
write_spelled w short = by w.key w.value short
  where
    by : (key : List ℕ) (value : Option (List ℕ)) → IsShort (record { key = key; value = value })
        → WriteText (record { key = key; value = value })
        (write_text (record { key = key; value = value }))
    by key None s = record {
      key_text = bytes_text key;
      key_is = bytes_spelled key s.0;
      own_is =
          refl;
    }
    by key (Some value) s =
        record {
          key_text = bytes_text key;
          value_text = bytes_text value;
          key_is =
              bytes_spelled key s.0;
          value_is = bytes_spelled value s.1;
          own_is = refl;
        }

writes_spelled : (ws : List Write) → AllByRecursion IsShort ws → AreWrites ws (writes_text ws)
unfolding writes_text
writes_spelled [] all = refl
writes_spelled (w ∷ ws) all =
    (write_text w, writes_text ws, refl, write_spelled w all.0, writes_spelled ws all.1)

pub batch_spelled : (b : WriteBatch) → CanBeSpelled b → IsWriteBatch (batch_text b) b
unfolding batch_text
batch_spelled b c = record {
  body = writes_text b.writes;
  bytes_are = refl;
  few = c.few;
  fits = c.fits;
  writes_are = writes_spelled b.writes (recursion_from_All IsShort b.writes c.short);
}

-- ---- the loop

pub record Written (old : List ℕ) (ws : List Write) (i : ℕ) (out : List ℕ) : Type 0 where
  pub same : out ++ writes_text (drop i ws) ≡ old ++ writes_text ws

pub written_first : (old : List ℕ) (ws : List Write) → Written old ws 0 old
written_first old ws = record { same = refl }

pub written_more : (old : List ℕ) (ws : List Write) (i : ℕ) (w : Write) (out new : List ℕ)
    → i < length ws → w ≡ get_or ws i w → Written old ws i out → new ≡ out ++ write_text w
    → Written old ws (i + 1) new
unfolding writes_text
written_more old ws i w out new lt at g is =
    let rest = drop (i + 1) ws in
    let step : drop i ws ≡ w ∷ rest = drop_more ws i w lt ∙ ap (λ (x : Write). x ∷ rest) (sym at) in
    record {
      same = ap (λ (x : List ℕ). x ++ writes_text rest) is ∙ append_assoc out (write_text w)
          (writes_text rest) ∙ ap (λ (x : List Write). out ++ writes_text x) (sym step) ∙ g.same;
    }

pub written_all : (old : List ℕ) (ws : List Write) (i : ℕ) (out : List ℕ) → length ws ≤ i
    → Written old ws i out → out ≡ old ++ writes_text ws
unfolding writes_text
written_all old ws i out le g = sym (append-nil out) ∙ ap (λ (x : List Write). out ++ writes_text x)
    (sym (drop_all i ws le)) ∙ g.same

-- ---- four pieces, one after the other

pub pieces : (old one two three F C W G D : List ℕ) → one ≡ old ++ F → two ≡ one ++ C
    → three ≡ two ++ W → F ≡ G → C ≡ D → three ≡ old ++ (G ++ (D ++ W))
pieces old one two three F C W G D e1 e2 e3 f d =
    e3 ∙ ap (λ (x : List ℕ). x ++ W) (e2 ∙ ap (λ (x : List ℕ). x ++ C) e1)
    ∙ append_assoc (old ++ F) C W ∙ append_assoc old F (C ++ W)
    ∙ ap (λ (x : List ℕ). old ++ (x ++ (C ++ W))) f ∙ ap (λ (x : List ℕ). old ++ (G ++ (x ++ W))) d
