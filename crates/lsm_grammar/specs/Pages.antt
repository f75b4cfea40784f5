-- The tables of the code, `src/arguments.rt` and `src/pages.rt`, as what clap reads of them.
use Rattle.std.specs.Prelude.{◌≡◌, false, List, [], ◌∷◌, option_map, map}
use Rattle.std.specs.Option.{option_map_or}
use Rattle.clap.specs.Words.{App, Rule, app_of, with_subcommand}
use Rattle.clap.specs.declared.builder.Command.{Command}
use Rattle.clap.specs.declared.builder.Command.TheViews.{out-Command as fields_of}
use Rattle.clap.specs.declared.builder.ValueParser.TheVariants as parser
use Rattle.lsm_grammar.specs.Grammar.{command, file, flag, topic, valued, word}
use Rattle.lsm_grammar.specs.declared.arguments.Argument.{Argument}
use Rattle.lsm_grammar.specs.declared.arguments.Argument.TheVariants as argument
use Rattle.lsm_grammar.specs.declared.arguments.Valued.{Valued}
use Rattle.lsm_grammar.specs.declared.pages.Page.{Page}

-- an option with its default and its range
abbrev pub rule_of_option : Valued → Rule
rule_of_option o =
    record (valued o.name.now) {
      defaults = option_map_or (λ word. word.now ∷ []) o.default [];
      parser = option_map (λ range. parser.Unsigned range.0 range.1) o.range;
    }

abbrev pub rule_of_argument : Argument → Rule
rule_of_argument (argument.Word name _) = word name.now
rule_of_argument argument.File = file
rule_of_argument argument.Topic = topic
rule_of_argument (argument.Flag name _) = flag name.now
rule_of_argument (argument.Valued option) = rule_of_option option

abbrev pub app_of_page : Page → App
app_of_page page = command page.name.now (map rule_of_argument page.arguments.now)

-- with the commands of these pages, one after another
abbrev pub with_pages : App → List Page → App
with_pages app [] = app
with_pages app (page ∷ pages) = with_pages (with_subcommand app (app_of_page page).top) pages

-- clap reads this of the command, and it has no argument that is global
abbrev pub HasShape : Command → App → Type 0
HasShape c app = (app_of c ≡ app) × ((fields_of c).has_globals ≡ false)
