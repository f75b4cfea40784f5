use Rattle.std.proofs.Common.{◌≡◌, ◌≢◌, List, [], ◌∷◌, Option, Result, Ok, Err, inl, inr, map, sym, subst, ap, ◌∙◌}
use Rattle.std.specs.Prelude.{IfOk, is_some}
use Rattle.clap.specs.Words.{IsAmong, Kinds, Row, Text, kind_of, subcommand_rows_of}
use Rattle.clap.specs.declared.error.ErrorKind.{ErrorKind}
use Rattle.clap.specs.declared.error.ErrorKind.TheVariants.{OutOfMemory}
use Rattle.lsm_grammar.specs.Requests.{AskNothing, IsAsked, IsLine, IsOf, IsOfKind, faults_in}
use Rattle.lsm_grammar.specs.Requests.{IsMannerIn, found_in, topic_in}
use Rattle.lsm_grammar.specs.declared.command_line.CommandLine.{CommandLine}
use Rattle.lsm_grammar.specs.declared.command_line.CommandLine.TheVariants.{Run, Help, Bad}
use Rattle.lsm_grammar.specs.declared.request.Request.{Request}
use Rattle.lsm_grammar.proofs.command_line.read_line.Goals as goal

unasked : (words : List Text) (found : Option (Text × List Row)) → found ≡ found_in words → ((request : Request) → IsAsked found request → ⊥)
    → AskNothing words
unasked words found same none = λ request asks. none request (subst (λ (f : Option (Text × List Row)). IsAsked f request) (sym same) asks.1)

line_is : {E : Type 0} (words : List Text) (found : Option (Text × List Row)) (r : Result CommandLine E) → faults_in words ≡ [] → found ≡ found_in words
    → IfOk r (IsOf found) → IfOk r (IsLine words)
line_is words found (Ok (Run request manner)) good same of = (
  (good, subst (λ (f : Option (Text × List Row)). IsAsked f request) same of.0),
  subst (λ (f : Option (Text × List Row)). IsMannerIn f manner) same of.1,
)
line_is words found (Ok (Help text)) good same of =
    (unasked words found same of.0, inr (good, ap (λ (f : Option (Text × List Row)). is_some (topic_in f)) (sym same) ∙ of.1))
line_is words found (Ok (Bad text)) good same of =
    (unasked words found same of.0, inl (good, ap (λ (f : Option (Text × List Row)). is_some (topic_in f)) (sym same) ∙ of.1))
line_is words found (Err e) good same of = tt

pub returns-in-Ok : goal.returns-in-Ok
returns-in-Ok g c =
    line_is (map g.S.AsStr.text c.args.words.now) (subcommand_rows_of c.in-Ok.matches) c.line_of.result c.in-Ok.ensures.good c.in-Ok.ensures.found
    c.line_of.ensures

none_among : (k : ErrorKind) (kinds : Kinds) → IsAmong k kinds → kinds ≢ []
none_among k [] among = λ e. among
none_among k (x ∷ xs) among = λ e. absurd cc

asks_nothing : (k : ErrorKind) (words : List Text) → IsAmong k (faults_in words) → AskNothing words
asks_nothing k words among = λ request asks. none_among k (faults_in words) among asks.0

told_is : {E : Type 0} (words : List Text) (k : ErrorKind) (r : Result CommandLine E) → (k ≢ OutOfMemory → IsAmong k (faults_in words))
    → IfOk r (λ _. k ≢ OutOfMemory) → IfOk r (IsOfKind k) → IfOk r (IsLine words)
told_is words k (Ok (Run request manner)) among other of = absurd of
told_is words k (Ok (Help text)) among other (inl help) =
    let a = among other in (asks_nothing k words a, inl (inl (subst (λ (x : ErrorKind). IsAmong x (faults_in words)) help a)))
told_is words k (Ok (Help text)) among other (inr version) =
    let a = among other in (asks_nothing k words a, inl (inr (subst (λ (x : ErrorKind). IsAmong x (faults_in words)) version a)))
told_is words k (Ok (Bad text)) among other of = let a = among other in (asks_nothing k words a, inr (k, a, of.0, of.1))
told_is words k (Err e) among other of = tt

pub returns-in-Err : goal.returns-in-Err
returns-in-Err g c =
    told_is (map g.S.AsStr.text c.args.words.now) (kind_of c.in-Err.error) c.refused_by.result c.in-Err.ensures.bad c.refused_by.ensures.kind
    c.refused_by.ensures.line
