use Rattle.std.proofs.Common.{◌≡◌, ◌∙◌, ◌++◌, ◌∷◌, List, [], None, ap, append-nil, arith, length, map, sym, subst, inl}
use Rattle.std.proofs.lemmas.Bool.{eq-eqb, eqb-false, eqb-true}
use Rattle.std.proofs.lemmas.List.{map-append, nil_from_length}
use Rattle.std.proofs.lemmas.Result.{err_from_is_err_and}
use Rattle.lsm_codec.specs.Lists.{Has}
use Rattle.lsm_table.specs.Registry.{Table, image_of}
use Rattle.lsm_model.specs.Merging.{Placed}
use Rattle.lsm_iterators.specs.Runs.{once}
use Rattle.lsm_iterators.specs.Seeking.{at_or_past}
use Rattle.lsm_version.specs.Reads.{IsFirstReaching, IsRising}
use Rattle.lsm_version.proofs.CallerLemmas.{level_rises}
use Rattle.lsm_query.specs.Runs.{entries_after, run_of}
use Rattle.lsm_query.proofs.Opening.{have_entries}
use Rattle.lsm_query.proofs.NamedFiles.{files_more, number_within}
use Rattle.lsm_query.proofs.RowLaws.{adds_row, has_dropped, once_none, reached_row, reached_some, row_sorted, run_some}
use Rattle.lsm_query.proofs.RunLaws.{once_part}
use Rattle.lsm_query.proofs.runs.open_row.Goals as goal

pub over_from-requires-clause-some : goal.over_from-requires-clause-some
over_from-requires-clause-some g c κs within =
    let some = eqb-false (length c.tables-2.result.now) 0 (sym c.is_empty.ensures ∙ c.if-is_empty.false) in
    let same = ap length c.tables-2.ensures in
    omega (arith, some, same)

pub over_from-requires-clause-tables : goal.over_from-requires-clause-tables
over_from-requires-clause-tables g c κs within = λ h.
    let ts = c.args.row in
    let us = c.skip.new.self in
    let p = c.first_reaching-first.result in
    let r = c.requires.row h in
    have_entries (once None us) (λ t k. r.2.whole t (has_dropped ts p t (subst (λ (l : List Table). Has l t) c.skip.ensures (once_part None us t k))))

pub over_from-requires-clause-order : goal.over_from-requires-clause-order
over_from-requires-clause-order g c κs within = λ h. (let r = c.requires.row h in row_sorted r.0 c.args.row c.skip.new.self c.first_reaching-first.result r.1 r.2 c.skip.ensures)

pub over_from-requires-clause-reached : goal.over_from-requires-clause-reached
over_from-requires-clause-reached g c κs within = λ h.
    let ts = c.args.row in
    let us = c.skip.new.self in
    let p = c.first_reaching-first.result in
    let r = c.requires.row h in
    let first : IsFirstReaching c.args.from.now ts p = subst (λ (l : List Table). IsFirstReaching c.args.from.now l p) c.tables.ensures
    (c.first_reaching-first.ensures.first (subst (λ (l : List Table). IsRising l) (sym c.tables.ensures) (level_rises r.0 ts r.1 r.2))) in
    let some : once None us ≡ [] → ⊥ = λ none. (let zero : length c.tables-2.result.now ≡ 0 = ap length (c.tables-2.ensures ∙ once_none us none) in
    absurd (cc (sym c.is_empty.ensures ∙ c.if-is_empty.false, eq-eqb (length c.tables-2.result.now) 0 zero))) in
    reached_row r.0 c.args.from.now ts us p r.2 first c.skip.ensures some

pub returns-in_err-run-clause-number : goal.returns-in_err-run-clause-number
returns-in_err-run-clause-number g c =
    let ts = c.args.row in
    let us = c.skip.new.self in
    let p = c.first_reaching-first.result in
    let e = err_from_is_err_and c.from_residual.result c.from_residual.ensures.1 in
    rw (e.1, e.2) (number_within ts (once None us) c.in_err-run.field-0.0.number
    (λ t k. has_dropped ts p t (subst (λ (l : List Table). Has l t) c.skip.ensures (once_part None us t k))) c.in_err-run.ensures.number)

-- where no table reaches the user key none is added

pub returns-then-is_empty-clause-files : goal.returns-then-is_empty-clause-files
returns-then-is_empty-clause-files g c = λ f h. inl h

pub returns-then-is_empty-clause-run : goal.returns-then-is_empty-clause-run
returns-then-is_empty-clause-run g c = λ h.
    let ts = c.args.row in
    let us = c.skip.new.self in
    let p = c.first_reaching-first.result in
    let user = c.args.from.now in
    let depth = c.args.depth in
    let r = c.requires.row h in
    let first : IsFirstReaching c.args.from.now ts p = subst (λ (l : List Table). IsFirstReaching c.args.from.now l p) c.tables.ensures
    (c.first_reaching-first.ensures.first (subst (λ (l : List Table). IsRising l) (sym c.tables.ensures) (level_rises r.0 ts r.1 r.2))) in
    let none : us ≡ [] = sym c.tables-2.ensures ∙ nil_from_length c.tables-2.result.now (eqb-true (length c.tables-2.result.now) 0 (sym c.is_empty.ensures ∙ c.if-is_empty.true)) in
    let old : List (List Placed) = map (λ x. x.placed) c.args.runs.now.items in
    adds_row r.0 user depth ts us p old old r.1 r.2 first c.skip.ensures
    (sym (append-nil old) ∙ ap (λ (l : List Table). old ++ run_of depth (at_or_past user (entries_after (once None l)))) (sym none))

-- one run more

pub returns-clause-files : goal.returns-clause-files
returns-clause-files g c =
    let ts = c.args.row in
    let us = c.skip.new.self in
    let p = c.first_reaching-first.result in
    files_more ts (once None us) c.args.depth c.args.runs.now.items c.push.new.self.items c.in_ok-run.run' c.in_ok-push.ensures.items c.in_ok-run.ensures.files
    (λ t k. has_dropped ts p t (subst (λ (l : List Table). Has l t) c.skip.ensures (once_part None us t k)))

pub returns-clause-run : goal.returns-clause-run
returns-clause-run g c = λ h.
    let ts = c.args.row in
    let us = c.skip.new.self in
    let p = c.first_reaching-first.result in
    let user = c.args.from.now in
    let depth = c.args.depth in
    let r = c.requires.row h in
    let first : IsFirstReaching c.args.from.now ts p = subst (λ (l : List Table). IsFirstReaching c.args.from.now l p) c.tables.ensures
    (c.first_reaching-first.ensures.first (subst (λ (l : List Table). IsRising l) (sym c.tables.ensures) (level_rises r.0 ts r.1 r.2))) in
    let some : once None us ≡ [] → ⊥ = λ none. (let zero : length c.tables-2.result.now ≡ 0 = ap length (c.tables-2.ensures ∙ once_none us none) in
    absurd (cc (sym c.is_empty.ensures ∙ c.if-is_empty.false, eq-eqb (length c.tables-2.result.now) 0 zero))) in
    let es = at_or_past user (entries_after (once None us)) in
    let old : List (List Placed) = map (λ x. x.placed) c.args.runs.now.items in
    adds_row r.0 user depth ts us p old (map (λ x. x.placed) c.push.new.self.items) r.1 r.2 first c.skip.ensures
    (ap (map (λ x. x.placed)) c.in_ok-push.ensures.items ∙ map-append (λ x. x.placed) c.args.runs.now.items (c.in_ok-run.run' ∷ [])
    ∙ ap (λ (l : List Placed). old ++ l ∷ []) (c.in_ok-run.ensures.entries h)
    ∙ ap (λ (l : List (List Placed)). old ++ l) (sym (run_some depth es (reached_some user (map image_of (once None us)) (reached_row r.0 user ts us p r.2 first c.skip.ensures some)))))
