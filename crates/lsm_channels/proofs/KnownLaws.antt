-- What is known goes on.
use Rattle.std.proofs.Common.{◌≡◌, List, [], ◌++◌, sym, ap, ◌∙◌, append_assoc}
use Rattle.lsm_codec.specs.Entries.{Entry}
use Rattle.lsm_history.specs.History.{IsLater}
use Rattle.lsm_state.specs.Held.{Held}
use Rattle.lsm_store.specs.declared.picks.Picks.{Picks}
use Rattle.lsm_channels.specs.Compacting.{IsCleared, IsCompacted}
use Rattle.lsm_channels.specs.Served.{IsLent, IsToldBy}

pub told_later : (h : Held) (knew knows : List Entry) → IsToldBy h knew knows → IsLater knows knew
told_later h knew knows told = (told.later.0, told.known ∙ told.later.1)

-- what the state has of another history is known too
pub told_other : (h : Held) (knew knows other : List Entry) → IsToldBy h knew knows → IsLater h.history other → IsLater knows other
told_other h knew knows other told later = (later.0, told.known ∙ later.1)

pub later_same : (now old : List Entry) → now ≡ old → IsLater now old
later_same now old e = ([], e)

pub later_then : (a b c : List Entry) → IsLater b a → IsLater c b → IsLater c a
later_then a b c p q = (q.0 ++ p.0, q.1 ∙ ap (λ (es : List Entry). q.0 ++ es) p.1 ∙ sym (append_assoc q.0 p.0 a))

told_since : (h : Held) (first knew knows : List Entry) → IsLater knew first → IsToldBy h knew knows → IsToldBy h first knows
told_since h first knew knows later told = record { later = later_then first knew h.history later told.later; known = told.known; slots = told.slots }

lent_since : (keeps : Held → Type 0) (h : Held) (first knew knows : List Entry) → IsLater knew first → IsLent keeps h knew knows → IsLent keeps h first knows
lent_since keeps h first knew knows later lent = record { kept = lent.kept; told = told_since h first knew knows later lent.told }

pub compacted_since : (Honest : Type 0) (keeps : Held → Type 0) (first knew knows : List Entry) → IsLater knew first → IsCompacted Honest keeps knew knows → IsCompacted Honest keeps first knows
compacted_since Honest keeps first knew knows later c = (c.0, lent_since keeps c.0 first knew knows later c.1, c.2)

pub cleared_since : (keeps : Held → Type 0) (picks : Picks) (first knew knows : List Entry) → IsLater knew first → IsCleared keeps picks knew knows → IsCleared keeps picks first knows
cleared_since keeps picks first knew knows later c = (c.0, lent_since keeps c.0 first knew knows later c.1, c.2)
