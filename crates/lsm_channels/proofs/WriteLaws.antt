-- Writes that are gathered.
use Rattle.std.proofs.Common.{◌≡◌, List, [], ◌∷◌, ◌++◌, refl, sym, ap, ◌∙◌, inl, inr, append_assoc}
use Rattle.lsm_batch.specs.Batches.{IsLarge, IsTooLarge}
use Rattle.lsm_batch.specs.declared.write.Write.{Write}
use Rattle.lsm_codec.proofs.CallerLemmas.{has_right}
use Rattle.lsm_frames.specs.Requests.{Written}
use Rattle.lsm_state.specs.declared.state_fault.StateFault.{StateFault}
use Rattle.lsm_channels.specs.Writing.{IsPutFault, IsUngathered, write_of, writes_of}

-- writes of which the last one is over its limit
pub large_last : (ws : List Write) (w : Write) → IsLarge w → IsTooLarge (ws ++ w ∷ [])
large_last ws w large = inr (inr (w, has_right ws (w ∷ []) w (inl refl), large))

-- the first writes with the one that was not put
one_more : (ws left new : List Written) (buffer : List Write) (w : Written) → writes_of ws ≡ buffer ++ writes_of left → left ≡ w ∷ new
    → writes_of ws ≡ (buffer ++ write_of w ∷ []) ++ writes_of new
one_more ws left new buffer w so e = so ∙ ap (λ (vs : List Written). buffer ++ writes_of vs) e ∙ sym (append_assoc buffer (write_of w ∷ []) (writes_of new))

pub gathers_more : (ws left new : List Written) (buffer after : List Write) (w : Written) → writes_of ws ≡ buffer ++ writes_of left → left ≡ w ∷ new → after ≡ buffer ++ write_of w ∷ []
    → writes_of ws ≡ after ++ writes_of new
gathers_more ws left new buffer after w so e put = one_more ws left new buffer w so e ∙ ap (λ (vs : List Write). vs ++ writes_of new) (sym put)

pub ungathered : (ws left new : List Written) (buffer : List Write) (w : Written) (e : StateFault) → writes_of ws ≡ buffer ++ writes_of left → left ≡ w ∷ new
    → IsPutFault buffer (write_of w) e → IsUngathered ws e
ungathered ws left new buffer w e so is (inl h) = inl (h.0, (buffer ++ write_of w ∷ [], writes_of new, one_more ws left new buffer w so is, h.1))
ungathered ws left new buffer w e so is (inr h) = inr h
