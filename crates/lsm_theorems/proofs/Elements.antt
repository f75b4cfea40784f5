-- What holds of each element of a list that is spelled.
use Rattle.std.proofs.Common.{[], ◌∷◌, inl, inr, subst}
use Rattle.lsm_codec.specs.Lists.{Has}

pub one_of : {X : Type 0} (a : X) (P : X → Type 0) → P a → (x : X) → Has (a ∷ []) x → P x
one_of a P p x (inl e) = subst P e p
one_of a P p x (inr h) = absurd h

pub two_of : {X : Type 0} (a b : X) (P : X → Type 0) → P a → P b → (x : X) → Has (a ∷ b ∷ []) x → P x
two_of a b P p q x (inl e) = subst P e p
two_of a b P p q x (inr h) = one_of b P q x h
