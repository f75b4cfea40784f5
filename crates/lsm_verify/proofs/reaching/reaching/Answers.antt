use Rattle.std.proofs.Common.{ℕ, ◌+◌, max, List, get_or, sym, subst, ap, ◌∙◌}
use Rattle.lsm_verify.specs.declared.aged.Aged.{Aged}
use Rattle.lsm_verify.proofs.ReachingFiles.{Walked, walk_start, walk_past, walk_named, walk_end}
use Rattle.lsm_verify.proofs.reaching.reaching.Goals as goal
use Rattle.lsm_verify.proofs.reaching.reaching.Goals.{then-table-greatest+in_ok-push, else-table-greatest}

-- what a list gives past its end
abbrev nothing : Aged
nothing = record { number = 0; sequences = record { least = 0; greatest = 0; count = 0 } }

pub loop-table-init : goal.loop-table-init
loop-table-init c = subst (λ (ns : List ℕ). Walked c.args.aged.now 0 0 ns) (sym c.new-numbers.ensures.items) (walk_start c.args.aged.now)

pub loop-table-preserved : goal.loop-table-preserved
loop-table-preserved c =
    let ages = c.args.aged.now in
    let k = c.loop-table.table-index in
    let more = c.if-table-greatest.numbers.items in
    subst (λ (greatest : ℕ). Walked ages (k + 1) greatest more) (sym c.max-greatest.ensures) (elim c.if-table-greatest.branch [
      | then-table-greatest+in_ok-push w ↦
          walk_named ages k c.loop-table.greatest nothing c.loop-table.numbers.items more c.loop-table-test.true c.requires (ap (λ v. v.items) w.numbers-is ∙ w.in_ok-push.ensures.items) c.loop-table.invariant
      | else-table-greatest w ↦
          subst (Walked ages (k + 1) (max c.loop-table.greatest (get_or ages k nothing).sequences.greatest)) (sym (ap (λ v. v.items) w.numbers-is))
          (walk_past ages k c.loop-table.greatest nothing c.loop-table.numbers.items c.loop-table-test.true w.if-table-greatest.false c.loop-table.invariant)
    ])

pub returns-clause-ascending : goal.returns-clause-ascending
returns-clause-ascending c = c.loop-table.invariant.ascending

pub returns-clause-named : goal.returns-clause-named
returns-clause-named c = walk_end c.args.aged.now c.loop-table.table-index c.loop-table.greatest c.loop-table.numbers.items c.loop-table-test.false c.requires c.loop-table.invariant
