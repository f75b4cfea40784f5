-- Lists that go on from others.
use Rattle.std.proofs.Common.{List, [], ◌++◌, refl, sym, ap, ◌∙◌, append_assoc}
use Rattle.std.proofs.lemmas.List.{append-nil}
use Rattle.lsm_history.specs.History.{IsLater}

pub later_same : {X : Type 0} (es : List X) → IsLater es es
later_same es = ([], refl)

pub later_none : {X : Type 0} (es : List X) → IsLater es []
later_none es = (es, sym (append-nil es))

pub later_more : {X : Type 0} (new es old : List X) → IsLater es old → IsLater (new ++ es) old
later_more new es old l = (new ++ l.0, ap (λ x. new ++ x) l.1 ∙ sym (append_assoc new l.0 old))

pub later_trans : {X : Type 0} (c b a : List X) → IsLater c b → IsLater b a → IsLater c a
later_trans c b a l m = (l.0 ++ m.0, l.1 ∙ (ap (λ x. l.0 ++ x) m.1 ∙ sym (append_assoc l.0 m.0 a)))
