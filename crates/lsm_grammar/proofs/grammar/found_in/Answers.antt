use Rattle.std.proofs.Common.{◌≡◌, ◌≢◌, ◌∙◌, Result, Ok, Err, [], map, ap, subst, refl, true, inl, inr}
use Rattle.std.specs.Prelude.{IfErr, IfOk}
use Rattle.std.proofs.lemmas.Result.{IfOk-weaker}
use Rattle.clap.specs.Words.{App, FailsBy, IsAmong, Kinds, app_of, fault_of, is_simple, is_simple_and_free, kind_of, subcommand_of}
use Rattle.clap.specs.declared.error.Error.{Error}
use Rattle.clap.specs.declared.error.ErrorKind.TheVariants.{OutOfMemory}
use Rattle.clap.proofs.OnLiterals.{clap_on_literals}
use Rattle.lsm_grammar.specs.Grammar.{bare, bench, check, clean, compact, delete, dump, get, help}
use Rattle.lsm_grammar.specs.Grammar.{import_folder, ingest, levels, list, load, lsm, make_table}
use Rattle.lsm_grammar.specs.Grammar.{manifest, put, recover, repair, scan, script, shell}
use Rattle.lsm_grammar.specs.Grammar.{with_inputs, with_looks, with_writes}
use Rattle.lsm_grammar.specs.Requests.{faults_in, found_in}
use Rattle.lsm_grammar.proofs.grammar.found_in.Goals as goal

-- the grammar is one of which clap's specs give the matches and the faults

is_simple_here : is_simple lsm ≡ true
unfolding clap_on_literals bare bench check clean compact delete dump get help import_folder ingest levels list load lsm make_table manifest put recover repair scan script shell with_inputs with_looks with_writes
is_simple_here = refl

is_free_here : is_simple_and_free lsm ≡ true
unfolding clap_on_literals bare bench check clean compact delete dump get help import_folder ingest levels list load lsm make_table manifest put recover repair scan script shell with_inputs with_looks with_writes
is_free_here = refl

-- what the kinds of a failure say

faultless : {T : Type 0} (kinds : Kinds) (r : Result T Error) → FailsBy kinds r → IfOk r (λ _. kinds ≡ [])
faultless kinds (Ok m) fails = fails
faultless kinds (Err e) fails = tt

faulty : {T : Type 0} (kinds : Kinds) (r : Result T Error) → FailsBy kinds r → IfErr r (λ e. kind_of e ≢ OutOfMemory → IsAmong (kind_of e) kinds)
faulty kinds (Ok m) fails = tt
faulty kinds (Err e) (inl memory) = λ other. absurd (other memory)
faulty kinds (Err e) (inr among) = λ other. among

pub returns-clause-found : goal.returns-clause-found
unfolding found_in
returns-clause-found g c =
    let parse = c.try_get_matches_from in
    let shape : app_of c.in_ok-lsm.field-0 ≡ lsm = c.in_ok-lsm.ensures.0 in
    IfOk-weaker parse.result _ _
    (λ m has. (has (ap is_simple shape ∙ is_simple_here)).1 ∙ ap (λ (a : App). subcommand_of a (map g.S.AsStr.text c.args.words.now)) shape)
    parse.ensures.matches

pub returns-clause-good : goal.returns-clause-good
unfolding faults_in
returns-clause-good g c =
    let parse = c.try_get_matches_from in
    let shape : app_of c.in_ok-lsm.field-0 ≡ lsm = c.in_ok-lsm.ensures.0 in
    let fails = parse.ensures.kinds (ap is_simple_and_free shape ∙ is_free_here) in
    faultless _ parse.result
    (subst (λ (a : App). FailsBy (fault_of a (map g.S.AsStr.text c.args.words.now)) parse.result) shape fails)

pub returns-clause-bad : goal.returns-clause-bad
unfolding faults_in
returns-clause-bad g c =
    let parse = c.try_get_matches_from in
    let shape : app_of c.in_ok-lsm.field-0 ≡ lsm = c.in_ok-lsm.ensures.0 in
    let fails = parse.ensures.kinds (ap is_simple_and_free shape ∙ is_free_here) in
    faulty _ parse.result
    (subst (λ (a : App). FailsBy (fault_of a (map g.S.AsStr.text c.args.words.now)) parse.result) shape fails)
