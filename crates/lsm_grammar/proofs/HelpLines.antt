-- What is said of words that ask for help, and of others that ask for no request.
use Rattle.std.proofs.Common.{◌≡◌, ◌≢◌, List, [], ◌∷◌, Option, Result, Ok, Err, true, inl, inr, subst}
use Rattle.std.specs.Prelude.{IfOk, is_some}
use Rattle.clap.specs.Words.{IsAmong, Kinds, Row, Text}
use Rattle.clap.specs.declared.error.ErrorKind.{ErrorKind}
use Rattle.clap.specs.declared.error.ErrorKind.TheVariants.{DisplayHelp, OutOfMemory}
use Rattle.lsm_grammar.specs.Requests.{IsAsked, IsOf, IsOfKind, IsPage, IsUnasked, topic_in}
use Rattle.lsm_grammar.specs.declared.command_line.CommandLine.{CommandLine}
use Rattle.lsm_grammar.specs.declared.command_line.CommandLine.TheVariants.{Run, Help, Bad}
use Rattle.lsm_grammar.specs.declared.request.Request.{Request}

just_help : (k : ErrorKind) → IsAmong k (DisplayHelp ∷ []) → k ≢ DisplayHelp → ⊥
just_help k (inl same) other = other same
just_help k (inr none) other = none

-- the error of words that ask for help alone
pub is_page : {E : Type 0} (r : Result CommandLine E) (k : ErrorKind) (kinds : Kinds) → kinds ≡ DisplayHelp ∷ []
    → (k ≢ OutOfMemory → IsAmong k kinds) → IfOk r (λ _. k ≢ OutOfMemory) → IfOk r (IsOfKind k) → IfOk r IsPage
is_page (Ok (Run request manner)) k kinds is among other of = of
is_page (Ok (Help text)) k kinds is among other of = tt
is_page (Ok (Bad text)) k kinds is among other of = just_help k (subst (λ (x : Kinds). IsAmong k x) is (among other)) of.0
is_page (Err e) k kinds is among other of = tt

-- a page, where `help` is asked for
pub page_asked_for : {E : Type 0} (r : Result CommandLine E) (found : Option (Text × List Row)) → IfOk r IsPage → is_some (topic_in found) ≡ true
    → IfOk r (IsUnasked found)
page_asked_for (Ok (Run request manner)) found page topic = page
page_asked_for (Ok (Help text)) found page topic = topic
page_asked_for (Ok (Bad text)) found page topic = absurd page
page_asked_for (Err e) found page topic = tt

-- it is no request
pub no_request : {E : Type 0} (r : Result CommandLine E) (found : Option (Text × List Row)) → IfOk r (IsUnasked found)
    → ((request : Request) → IsAsked found request → ⊥) → IfOk r (IsOf found)
no_request (Ok (Run request manner)) found unasked none = absurd unasked
no_request (Ok (Help text)) found unasked none = (none, unasked)
no_request (Ok (Bad text)) found unasked none = (none, unasked)
no_request (Err e) found unasked none = tt
