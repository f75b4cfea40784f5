use Rattle.std.proofs.Common.{◌≡◌, ℕ, List, [], Some, None, sym, ◌∙◌, ap, subst}
use Rattle.std.specs.Prelude.{IfErr, OnErr, OnOk}
use Rattle.lsm_table.specs.declared.table_options.TableOptions.{TableOptions}
use Rattle.lsm_merge.specs.Causes.{NamesRefused}
use Rattle.lsm_merge.specs.Dropping.{closed}
use Rattle.lsm_merge.specs.Outputs.{AreGood, Goes, Made, drawn_of, making_of}
use Rattle.lsm_merge.proofs.PutLaws.{on_err, on_ok, put_drawn, put_goes}
use Rattle.lsm_merge.proofs.Refused.{written_by}
use Rattle.lsm_merge.proofs.PutBefore.{last_one}
use Rattle.lsm_merge.specs.PutBefore.{PutsLast}
use Rattle.lsm_merge.proofs.outputs.Outputs.put_last.Goals as goal

pub returns-in-Some-clause-ok : goal.returns-in-Some-clause-ok
returns-in-Some-clause-ok g c =
    let new : Made = record { ticket = c.self.inside.ticket; options = c.self.inside.options; target = c.self.inside.target; tables = c.put_output.new.tables.items; put = c.put_output.new.put.items; last = c.take.new.self } in
    let here : c.self.inside.last ≡ Some c.in-Some.output = (let v = c.take.ensures.value in let i = c.in-Some.is in cc (v, i)) in
    let none : c.take.new.self ≡ None = c.take.ensures.after in
    subst (λ (m : Made). OnOk c.put_output.result (Goes m new (record { outputs = closed (making_of m); output = [] }))) c.self.view_is
    (on_ok c.put_output.result
    (put_goes c.self.inside.ticket c.self.inside.options c.self.inside.target c.self.inside.tables.items c.put_output.new.tables.items c.self.inside.put.items c.put_output.new.put.items
    c.in-Some.output c.self.inside.last c.take.new.self here none (subst AreGood (sym c.self.view_is) c.requires.good))
    c.put_output.ensures.ok)

pub returns-in-Some-clause-drawn : goal.returns-in-Some-clause-drawn
returns-in-Some-clause-drawn g c =
    let new : Made = record { ticket = c.self.inside.ticket; options = c.self.inside.options; target = c.self.inside.target; tables = c.put_output.new.tables.items; put = c.put_output.new.put.items; last = c.take.new.self } in
    let here : c.self.inside.last ≡ Some c.in-Some.output = (let v = c.take.ensures.value in let i = c.in-Some.is in cc (v, i)) in
    let none : c.take.new.self ≡ None = c.take.ensures.after in
    subst (λ (m : Made). OnOk c.put_output.result ((there : List ℕ) → drawn_of new there ≡ drawn_of m there)) c.self.view_is
    (on_ok c.put_output.result
    (put_drawn c.self.inside.ticket c.self.inside.options c.self.inside.target c.self.inside.tables.items c.put_output.new.tables.items c.self.inside.put.items c.put_output.new.put.items
    c.in-Some.output c.self.inside.last c.take.new.self here none)
    c.put_output.ensures.ok)

pub returns-in-Some-clause-refused : goal.returns-in-Some-clause-refused
returns-in-Some-clause-refused g c =
    let here : c.self.inside.last ≡ Some c.in-Some.output = (let v = c.take.ensures.value in let i = c.in-Some.is in cc (v, i)) in
    let own : AreGood (record { ticket = c.self.inside.ticket; options = c.self.inside.options; target = c.self.inside.target; tables = c.self.inside.tables.items; put = c.self.inside.put.items; last = c.self.inside.last }) =
    subst AreGood (sym c.self.view_is) c.requires.good in
    let sizes : c.in-Some.output.options ≡ c.args.self.now.options = written_by c.self.inside.options c.self.inside.last c.in-Some.output own.written here ∙ ap (λ (m : Made). m.options) c.self.view_is in
    subst (λ (o : TableOptions). IfErr c.put_output.result (NamesRefused (g.S.Shelf.refuses g.N.Naming.place) o)) sizes c.put_output.ensures.refused

pub returns-in-Some-clause-stands : goal.returns-in-Some-clause-stands
returns-in-Some-clause-stands g c =
    let made : Made = record { ticket = c.self.inside.ticket; options = c.self.inside.options; target = c.self.inside.target; tables = c.self.inside.tables.items; put = c.self.inside.put.items; last = c.self.inside.last } in
    let here : c.self.inside.last ≡ Some c.in-Some.output = (let v = c.take.ensures.value in let i = c.in-Some.is in cc (v, i)) in
    let own : AreGood made = subst AreGood (sym c.self.view_is) c.requires.good in
    subst (λ (m : Made). OnErr c.put_output.result (PutsLast m (Unit {0}) c.put_output.new.put.items c.args.shelf.now c.put_output.new.shelf)) c.self.view_is
    (on_err c.put_output.result (last_one made c.in-Some.output c.put_output.new.put.items c.args.shelf.now c.put_output.new.shelf own.written here) c.put_output.ensures.stands)
