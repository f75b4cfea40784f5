-- Writes that are cut into batches.
use Rattle.std.proofs.Common.{◌≡◌, List, [], ◌∷◌, ◌++◌, refl, sym, ap, ◌∙◌, append_assoc, append-nil}
use Rattle.std.specs.Option.{option_or}
use Rattle.lsm_codec.specs.Keys.{UserKey}
use Rattle.lsm_batch.specs.declared.write.Write.{Write}
use Rattle.lsm_lines.specs.Cuts.{IsCut, KeepEach, joined}
use Rattle.lsm_lines.specs.LastWrites.{KeepsLast, last_write}
use Rattle.lsm_batch.proofs.CallerLemmas.{last_write-append}

each_last : (parts batches : List (List Write)) → KeepEach parts batches → (key : UserKey) → last_write key (joined batches) ≡ last_write key (joined parts)
each_last [] [] h key = refl
each_last [] (b ∷ bs) h key = absurd h
each_last (p ∷ ps) [] h key = absurd h
each_last (p ∷ ps) (b ∷ bs) h key =
    last_write-append key b (joined bs)
    ∙ ap (λ o. option_or o (last_write key b)) (each_last ps bs h.1 key)
    ∙ ap (option_or (last_write key (joined ps))) (h.0.last key)
    ∙ sym (last_write-append key p (joined ps))

-- the last of all batches is the last of all writes
pub cut_last : (ws : List Write) (batches : List (List Write)) → IsCut ws batches → (key : UserKey) → last_write key (joined batches) ≡ last_write key ws
cut_last ws batches c key = each_last c.parts batches c.each key ∙ ap (last_write key) c.whole

-- ---- one batch more

pub joined-append : (a b : List (List Write)) → joined (a ++ b) ≡ joined a ++ joined b
joined-append [] b = refl
joined-append (p ∷ a) b = ap (λ (l : List Write). p ++ l) (joined-append a b) ∙ sym (append_assoc p (joined a) (joined b))

keep_more : (ps bs : List (List Write)) (p b : List Write) → KeepEach ps bs → KeepsLast p b → KeepEach (ps ++ p ∷ []) (bs ++ b ∷ [])
keep_more [] [] p b h k = (k, tt)
keep_more [] (x ∷ bs) p b h k = absurd h
keep_more (x ∷ ps) [] p b h k = absurd h
keep_more (x ∷ ps) (y ∷ bs) p b h k = (h.0, keep_more ps bs p b h.1 k)

pub cut_none : IsCut [] []
cut_none = record { parts = []; whole = refl; each = tt }

pub cut_more : (ws : List Write) (batches : List (List Write)) (p b : List Write) → IsCut ws batches → KeepsLast p b → IsCut (ws ++ p) (batches ++ b ∷ [])
cut_more ws batches p b c k = record {
  parts = c.parts ++ p ∷ [];
  whole = joined-append c.parts (p ∷ []) ∙ ap (λ (l : List Write). joined c.parts ++ l) (append-nil p) ∙ ap (λ (l : List Write). l ++ p) c.whole;
  each = keep_more c.parts batches p b c.each k;
}
