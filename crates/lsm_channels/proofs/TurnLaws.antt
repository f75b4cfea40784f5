-- One turn of a channel.
use Rattle.std.proofs.Common.{◌≡◌, ℕ, Bool, true, false, List, ◌∷◌, Result, Ok, Err, IfOk, OnErr, refl, sym, ap, ◌∙◌, subst}
use Rattle.std.specs.Prelude.{MatchResult}
use Rattle.lsm_frames.specs.Requests.{Asked, IsRequest}
use Rattle.lsm_wire.specs.Conversing.{Answers, IsEnd, IsTurnOrEnd, Malformed, Unanswered, Untaken}
use Rattle.lsm_wire.specs.Happenings.{Happening, Came, CameMisfit, Went, IsCalledNoRequest, IsUnanswered, IsWritten, unanswered}

-- An answer was made, or there was no memory for it; and it was said, or that.
pub turn_said : {S V E : Type 0} (answers : Answers S) (bytes : V → List ℕ) (asked : Asked) (r : Result V E) (goes_on : Bool) (s t : S) (content : List ℕ) (was mid is : List Happening)
    → IsRequest content asked → IfOk r (λ v. answers asked s t (bytes v)) → OnErr r ((frame : List ℕ) × answers asked s t frame) → mid ≡ Came content ∷ was
    → MatchResult r (λ v. IsWritten (bytes v) goes_on mid is) (λ e. IsUnanswered goes_on mid is) → IsTurnOrEnd answers goes_on s t was is
turn_said answers bytes asked (Ok v) true s t content was mid is request ok err came said =
    (record { came = content; went = bytes v }, (asked, request, ok), said ∙ ap (λ (hs : List Happening). Went (bytes v) true ∷ hs) came)
turn_said answers bytes asked (Ok v) false s t content was mid is request ok err came said =
    Untaken (record { came = content; went = bytes v }) (asked, request, ok) (said ∙ ap (λ (hs : List Happening). Went (bytes v) false ∷ hs) came)
turn_said {S} answers bytes asked (Err e) goes_on s t content was mid is request ok err came said =
    subst (λ (b : Bool). IsTurnOrEnd answers b s t was is) (sym said.0)
    (Unanswered (record { came = content; went = err.0 }) (asked, request, err.1) said.1.0 (said.1.1 ∙ ap (λ (hs : List Happening). Went unanswered said.1.0 ∷ hs) came))

-- what each answer of a known session is
pub both_ok : {V E : Type 0} (P : V → Type 0) (Q : Type 0) (r : Result V E) → IfOk r P → Q → IfOk r (λ v. P v × Q)
both_ok P Q (Ok v) p q = (p, q)
both_ok P Q (Err e) p q = tt

pub both_err : {V E : Type 0} (P : List ℕ → Type 0) (Q : Type 0) (r : Result V E) → OnErr r ((frame : List ℕ) × P frame) → Q → OnErr r ((frame : List ℕ) × (P frame × Q))
both_err P Q (Ok v) p q = tt
both_err P Q (Err e) p q = (p.0, (p.1, q))

pub called : {S : Type 0} (answers : Answers S) (s : S) (was mid is : List Happening) (content : List ℕ) → ((asked : Asked) → IsRequest content asked → ⊥) → mid ≡ Came content ∷ was
    → IsCalledNoRequest mid is → IsEnd answers s s was is
called answers s was mid is content none came said = Malformed (Came content) none (subst (λ (hs : List Happening). IsCalledNoRequest hs is) came said) refl

pub called_misfit : {S : Type 0} (answers : Answers S) (s : S) (was mid is : List Happening) → mid ≡ CameMisfit ∷ was → IsCalledNoRequest mid is → IsEnd answers s s was is
called_misfit answers s was mid is came said = Malformed CameMisfit tt (subst (λ (hs : List Happening). IsCalledNoRequest hs is) came said) refl
