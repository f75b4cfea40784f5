use Rattle.std.proofs.Common.{◌≡◌, ◌∷◌, codes, None, sym, rules}
use Rattle.lsm_text.specs.EntryReading.{parts_at}
use Rattle.lsm_text.specs.BatchText.{IsWriteLine, Spell}
use Rattle.lsm_text.proofs.WriteLineLaws.{delete_goes_on, delete_is, delete_only, none_so, put_is, put_only, some_so, unparted}
use Rattle.lsm_text.proofs.write_line.write_in.Goals as goal

pub returns-in-Some-clause-some : goal.returns-in-Some-clause-some
returns-in-Some-clause-some c =
    let key = c.in-Some.found.0.now in
    let value = c.in-Some.found.1.now in
    some_so c.put_in.result (Spell c.args.form key (61 ∷ value)) (IsWriteLine c.args.form c.args.word.now) (λ w h. put_is c.args.form c.args.word.now key value w (sym c.in-Some.ensures) h) c.put_in.ensures.some

pub returns-in-Some-clause-none : goal.returns-in-Some-clause-none
returns-in-Some-clause-none c =
    let key = c.in-Some.found.0.now in
    let value = c.in-Some.found.1.now in
    none_so c.put_in.result (Spell c.args.form key (61 ∷ value)) (IsWriteLine c.args.form c.args.word.now) (λ w h. put_only c.args.form c.args.word.now key value w (sym c.in-Some.ensures) h) c.put_in.ensures.none

pub returns-in_default-parts-clause-none : goal.returns-in_default-parts-clause-none
returns-in_default-parts-clause-none c =
    let none : parts_at 61 c.args.word.now ≡ None = search rules in
    let nor : parts_at 33 c.args.word.now ≡ None = search rules in
    λ w h. unparted c.args.form c.args.word.now w none nor h

pub returns-then-not-is_empty-clause-none : goal.returns-then-not-is_empty-clause-none
returns-then-not-is_empty-clause-none c =
    let none : parts_at 61 c.args.word.now ≡ None = search rules in
    λ w h. delete_goes_on c.args.form c.args.word.now c.in-Some-parts.found.0.now c.in-Some-parts.found.1.now w none (sym c.in-Some-parts.ensures) (search rules) h

pub returns-clause-some : goal.returns-clause-some
returns-clause-some c =
    let key = c.in-Some-parts.found.0.now in
    let rest = c.in-Some-parts.found.1.now in
    some_so c.delete_in.result (Spell c.args.form key (codes "!")) (IsWriteLine c.args.form c.args.word.now) (λ w h. delete_is c.args.form c.args.word.now key rest w (sym c.in-Some-parts.ensures) (search rules) h) c.delete_in.ensures.some

pub returns-clause-none : goal.returns-clause-none
returns-clause-none c =
    let key = c.in-Some-parts.found.0.now in
    let rest = c.in-Some-parts.found.1.now in
    let none : parts_at 61 c.args.word.now ≡ None = search rules in
    none_so c.delete_in.result (Spell c.args.form key (codes "!")) (IsWriteLine c.args.form c.args.word.now) (λ w h. (delete_only c.args.form c.args.word.now key rest w none (sym c.in-Some-parts.ensures) h).1) c.delete_in.ensures.none
