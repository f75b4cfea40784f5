-- Words that ask for help.
use Rattle.std.proofs.Common.{◌≡◌, ◌≢◌, Bool, List, [], ◌∷◌, true, false, inl, inr, refl, sym, codes, subst}
use Rattle.std.specs.Prelude.{is_some}
use Rattle.clap.specs.Words.{IsAmong, Kinds, Text}
use Rattle.clap.specs.declared.error.ErrorKind.{ErrorKind}
use Rattle.clap.specs.declared.error.ErrorKind.TheVariants as kind
use Rattle.clap.proofs.OnLiterals.{clap_on_literals}
use Rattle.lsm_grammar.specs.Grammar.{bare, bench, check, clean, compact, delete, dump, get, help}
use Rattle.lsm_grammar.specs.Grammar.{import_folder, ingest, levels, list, load, lsm, make_table}
use Rattle.lsm_grammar.specs.Grammar.{manifest, put, recover, repair, scan, script, shell}
use Rattle.lsm_grammar.specs.Grammar.{with_inputs, with_looks, with_writes}
use Rattle.lsm_grammar.specs.Requests.{AskHelp, HaveUsageFault, faults_in, found_in, named, named_converting, named_otherwise, named_reading, named_writing, topic_in, word_in, word_of}
use Rattle.lsm_grammar.specs.declared.command_name.CommandName.{CommandName}
use Rattle.lsm_grammar.specs.declared.command_name.CommandName.TheVariants as name

-- what clap finds wrong with `--help`, alone or behind the name of a command
pub overview_asked : faults_in (codes "--help" ∷ []) ≡ kind.DisplayHelp ∷ []
unfolding clap_on_literals faults_in bare bench check clean compact delete dump get help import_folder ingest levels list load lsm make_table manifest put recover repair scan script shell with_inputs with_looks with_writes
overview_asked = refl

pub page_asked : (n : CommandName) → faults_in (word_of n ∷ codes "--help" ∷ []) ≡ kind.DisplayHelp ∷ []
unfolding clap_on_literals faults_in bare bench check clean compact delete dump get help import_folder ingest levels list load lsm make_table manifest put recover repair scan script shell with_inputs with_looks with_writes
page_asked name.MakeTable = refl
page_asked name.Dump = refl
page_asked name.Manifest = refl
page_asked name.Script = refl
page_asked name.Check = refl
page_asked name.List = refl
page_asked name.Levels = refl
page_asked name.Get = refl
page_asked name.Scan = refl
page_asked name.Ingest = refl
page_asked name.Put = refl
page_asked name.Delete = refl
page_asked name.Load = refl
page_asked name.Import = refl
page_asked name.Recover = refl
page_asked name.Repair = refl
page_asked name.Compact = refl
page_asked name.Clean = refl
page_asked name.Shell = refl
page_asked name.Bench = refl
page_asked name.Help = refl

-- `help`, alone or before the name of a command, is of the grammar
pub alone_good : faults_in (codes "help" ∷ []) ≡ []
unfolding clap_on_literals faults_in bare bench check clean compact delete dump get help import_folder ingest levels list load lsm make_table manifest put recover repair scan script shell with_inputs with_looks with_writes
alone_good = refl

pub alone_topic : is_some (topic_in (found_in (codes "help" ∷ []))) ≡ true
unfolding clap_on_literals found_in word_in named named_converting named_reading named_writing named_otherwise bare bench check clean compact delete dump get help import_folder ingest levels list load lsm make_table manifest put recover repair scan script shell with_inputs with_looks with_writes
alone_topic = refl

pub named_good : (n : CommandName) → faults_in (codes "help" ∷ word_of n ∷ []) ≡ []
unfolding clap_on_literals faults_in bare bench check clean compact delete dump get help import_folder ingest levels list load lsm make_table manifest put recover repair scan script shell with_inputs with_looks with_writes
named_good name.MakeTable = refl
named_good name.Dump = refl
named_good name.Manifest = refl
named_good name.Script = refl
named_good name.Check = refl
named_good name.List = refl
named_good name.Levels = refl
named_good name.Get = refl
named_good name.Scan = refl
named_good name.Ingest = refl
named_good name.Put = refl
named_good name.Delete = refl
named_good name.Load = refl
named_good name.Import = refl
named_good name.Recover = refl
named_good name.Repair = refl
named_good name.Compact = refl
named_good name.Clean = refl
named_good name.Shell = refl
named_good name.Bench = refl
named_good name.Help = refl

pub named_topic : (n : CommandName) → is_some (topic_in (found_in (codes "help" ∷ word_of n ∷ []))) ≡ true
unfolding clap_on_literals found_in word_in named named_converting named_reading named_writing named_otherwise bare bench check clean compact delete dump get help import_folder ingest levels list load lsm make_table manifest put recover repair scan script shell with_inputs with_looks with_writes
named_topic name.MakeTable = refl
named_topic name.Dump = refl
named_topic name.Manifest = refl
named_topic name.Script = refl
named_topic name.Check = refl
named_topic name.List = refl
named_topic name.Levels = refl
named_topic name.Get = refl
named_topic name.Scan = refl
named_topic name.Ingest = refl
named_topic name.Put = refl
named_topic name.Delete = refl
named_topic name.Load = refl
named_topic name.Import = refl
named_topic name.Recover = refl
named_topic name.Repair = refl
named_topic name.Compact = refl
named_topic name.Clean = refl
named_topic name.Shell = refl
named_topic name.Bench = refl
named_topic name.Help = refl

-- what is then no fault

just_help : (k : ErrorKind) → IsAmong k (kind.DisplayHelp ∷ []) → k ≢ kind.DisplayHelp → ⊥
just_help k (inl same) other = other same
just_help k (inr none) other = none

not_none : (kinds : Kinds) → kinds ≡ kind.DisplayHelp ∷ [] → kinds ≡ [] → ⊥
not_none kinds is good = absurd cc

not_both : (b : Bool) → b ≡ true → b ≡ false → ⊥
not_both b is other = absurd cc

help_alone : (words : List Text) → faults_in words ≡ kind.DisplayHelp ∷ [] → HaveUsageFault words → ⊥
help_alone words is (inl fault) = not_none (faults_in words) is fault.0
help_alone words is (inr fault) = just_help fault.0 (subst (λ (kinds : Kinds). IsAmong fault.0 kinds) is fault.1) fault.2

good_help : (words : List Text) → faults_in words ≡ [] → is_some (topic_in (found_in words)) ≡ true → HaveUsageFault words → ⊥
good_help words good topic (inl fault) = not_both (is_some (topic_in (found_in words))) topic fault.1
good_help words good topic (inr fault) = subst (λ (kinds : Kinds). IsAmong fault.0 kinds) good fault.1

pub shown : (words : List Text) → faults_in words ≡ kind.DisplayHelp ∷ [] → AskHelp words × (HaveUsageFault words → ⊥)
shown words is = (inl (inl (subst (λ (kinds : Kinds). IsAmong kind.DisplayHelp kinds) (sym is) (inl refl))), help_alone words is)

pub told : (words : List Text) → faults_in words ≡ [] → is_some (topic_in (found_in words)) ≡ true → AskHelp words × (HaveUsageFault words → ⊥)
told words good topic = (inr (good, topic), good_help words good topic)
