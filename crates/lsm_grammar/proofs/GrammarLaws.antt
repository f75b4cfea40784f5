-- A command with one argument more, as clap reads it.
use Rattle.std.proofs.Common.{◌≡◌, ◌∙◌, ◌||◌, ◌-◌, ◌≤◌, List, ◌∷◌, length, get_or, take, drop, ap, sym, false, arith, drop-cons, length-drop}
use Rattle.std.proofs.lemmas.List.{take_all}
use Rattle.clap.specs.Words.{AddsArg, App, Rule, rule_of, with_rule}
use Rattle.clap.specs.declared.builder.Arg.{Arg}
use Rattle.clap.specs.declared.builder.Command.{Command}
use Rattle.lsm_grammar.specs.Pages.{HasShape}

pub one_more : (before after : Command) (arg : Arg) (app : App) (rule : Rule) → AddsArg before arg after → rule_of arg ≡ rule → arg.global ≡ false → HasShape before app → HasShape after (with_rule app rule)
one_more before after arg app rule adds is local shape = (
  adds.shape local ∙ ap (λ (a : App). with_rule a (rule_of arg)) shape.0 ∙ ap (with_rule app) is,
  adds.globals ∙ ap (λ b. b || arg.global) shape.1 ∙ local,
)

pub first_and_rest : {A : Type 0} (list : List A) (none : A) → 1 ≤ length list → list ≡ get_or list 0 none ∷ take (length list - 1) (drop 1 list)
first_and_rest list none some =
    drop-cons list 0 none (omega (arith, some))
    ∙ ap (λ rest. get_or list 0 none ∷ rest) (sym (take_all (length list - 1) (drop 1 list) (omega (arith, length-drop 1 list))))
