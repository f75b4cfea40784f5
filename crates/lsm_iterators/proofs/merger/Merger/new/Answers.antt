use Rattle.std.proofs.Common.{rules, ◌≡◌, List, length, sym, ap, ◌∙◌}
use Rattle.lsm_iterators.specs.Runs.{Left}
use Rattle.lsm_iterators.specs.Tree.{all_left, left_of}
use Rattle.lsm_iterators.proofs.TreeLaws.{none_before, of_no_runs, all_placed, all_files, all_numbered}
use Rattle.lsm_iterators.proofs.merger.Merger.new.Goals as goal

pub returns-clause-placed : goal.returns-clause-placed
returns-clause-placed g c =
    let runs : List Left = c.args.runs.items in
    let count : c.len-count.result ≡ length runs = search rules in
    let whole : left_of c.in_ok-tree.tree ≡ all_left runs = none_before runs c.of_last.new.sources.items c.len-count.result (left_of c.in_ok-tree.tree) c.in_ok-tree.ensures.left c.in_ok-tree.ensures.rest count in
    ap (λ (l : Left). l.placed) whole ∙ all_placed runs

pub returns-clause-files : goal.returns-clause-files
returns-clause-files g c =
    let runs : List Left = c.args.runs.items in
    let count : c.len-count.result ≡ length runs = search rules in
    let whole : left_of c.in_ok-tree.tree ≡ all_left runs = none_before runs c.of_last.new.sources.items c.len-count.result (left_of c.in_ok-tree.tree) c.in_ok-tree.ensures.left c.in_ok-tree.ensures.rest count in
    ap (λ (l : Left). l.files) whole ∙ all_files runs

pub returns-clause-numbered : goal.returns-clause-numbered
returns-clause-numbered g c =
    let runs : List Left = c.args.runs.items in
    let count : c.len-count.result ≡ length runs = search rules in
    let whole : left_of c.in_ok-tree.tree ≡ all_left runs = none_before runs c.of_last.new.sources.items c.len-count.result (left_of c.in_ok-tree.tree) c.in_ok-tree.ensures.left c.in_ok-tree.ensures.rest count in
    ap (λ (l : Left). l.numbered) whole ∙ all_numbered runs

pub returns-then-count-eq0-clause-placed : goal.returns-then-count-eq0-clause-placed
returns-then-count-eq0-clause-placed g c =
    let runs : List Left = c.args.runs.items in
    let count : c.len-count.result ≡ length runs = search rules in
    ap (λ (l : Left). l.placed) (of_no_runs runs (sym count ∙ c.if-count-eq0.true)) ∙ all_placed runs

pub returns-then-count-eq0-clause-files : goal.returns-then-count-eq0-clause-files
returns-then-count-eq0-clause-files g c =
    let runs : List Left = c.args.runs.items in
    let count : c.len-count.result ≡ length runs = search rules in
    ap (λ (l : Left). l.files) (of_no_runs runs (sym count ∙ c.if-count-eq0.true)) ∙ all_files runs

pub returns-then-count-eq0-clause-numbered : goal.returns-then-count-eq0-clause-numbered
returns-then-count-eq0-clause-numbered g c =
    let runs : List Left = c.args.runs.items in
    let count : c.len-count.result ≡ length runs = search rules in
    ap (λ (l : Left). l.numbered) (of_no_runs runs (sym count ∙ c.if-count-eq0.true)) ∙ all_numbered runs
