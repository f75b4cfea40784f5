-- Answers that get too long.
use Rattle.std.proofs.Common.{◌≡◌, ℕ, ◌≤◌, List, [], ◌∷◌, ◌++◌, length, Option, sym, ap, ◌∙◌, subst, append_assoc, length-append, arith}
use Rattle.std.specs.List.{flat_map}
use Rattle.lsm_codec.specs.Entries.{Entry, answer}
use Rattle.lsm_frames.specs.Answers.{Found}
use Rattle.lsm_frames.specs.Texts.{optional}
use Rattle.lsm_channels.specs.Reading.{IsTooLong, values_at}

flat_more : {X : Type 0} (f : X → List ℕ) (vs ws : List X) → length (flat_map f vs) ≤ length (flat_map f (vs ++ ws))
flat_more f [] ws = omega arith
flat_more f (v ∷ vs) ws =
    let one = length-append (f v) (flat_map f vs) in
    let two = length-append (f v) (flat_map f (vs ++ ws)) in
    let more = flat_more f vs ws in
    omega arith

-- with more values it is longer
too_long_more : (vs ws : List (Option (List ℕ))) → IsTooLong (Found vs) → IsTooLong (Found (vs ++ ws))
too_long_more vs ws long = let more = flat_more optional vs ws in omega arith

-- where it is too long with the next value it is so with all
pub too_long_with_all : (history : List Entry) (seq : ℕ) (old now : List (Option (List ℕ))) (k : List ℕ) (all ks rest : List (List ℕ))
    → old ++ values_at history seq all ≡ now ++ values_at history seq ks → ks ≡ k ∷ rest
    → IsTooLong (Found (now ++ answer history k seq ∷ [])) → IsTooLong (Found (old ++ values_at history seq all))
too_long_with_all history seq old now k all ks rest same first long =
    let parts : old ++ values_at history seq all ≡ (now ++ answer history k seq ∷ []) ++ values_at history seq rest =
    same ∙ ap (λ (ls : List (List ℕ)). now ++ values_at history seq ls) first ∙ sym (append_assoc now (answer history k seq ∷ []) (values_at history seq rest)) in
    subst (λ (vs : List (Option (List ℕ))). IsTooLong (Found vs)) (sym parts) (too_long_more (now ++ answer history k seq ∷ []) (values_at history seq rest) long)
