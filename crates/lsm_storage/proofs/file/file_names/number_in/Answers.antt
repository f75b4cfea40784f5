use Rattle.std.proofs.Common.{◌≡◌, sym, ap, ◌∙◌}
use Rattle.std.proofs.lemmas.Slice.Eq.{bytes_eq-Decides}
use Rattle.lsm_storage.specs.FileNames.{padded}
use Rattle.lsm_storage.proofs.Padding.{parse-padded}
use Rattle.lsm_storage.proofs.file.file_names.number_in.Goals as goal

-- the digits of a number are read as that number
pub returns-in_default : goal.returns-in_default
returns-in_default c = λ n. ((λ none. cc), (λ small is. let read = parse-padded n c.parse.result small (rw is at c.parse.ensures.value.0) in cc))

pub returns-then-eq : goal.returns-then-eq
returns-then-eq c = λ n.
    let written : c.as_str.result.now ≡ padded c.in-Ok.number = c.as_str.ensures.value ∙ c.in_ok-written.ensures in
    let same = (bytes_eq-Decides c.as_str.result.now c.args.digits.now).0 (sym c.eq.ensures ∙ c.if-eq.true) in
    ((λ some. let number : c.in-Ok.number ≡ n = cc in sym same ∙ (written ∙ ap (λ m. padded m) number)), (λ small is. let read = parse-padded n c.parse.result small (rw is at c.parse.ensures.value.0) in cc))

pub returns : goal.returns
returns c = λ n. (
  (λ none. cc),
  (λ small is.
      let read = parse-padded n c.parse.result small (rw is at c.parse.ensures.value.0) in
      let number : c.in-Ok.number ≡ n = cc in
      let written : c.as_str.result.now ≡ padded c.in-Ok.number = c.as_str.ensures.value ∙ c.in_ok-written.ensures in
      let same : c.as_str.result.now ≡ c.args.digits.now = written ∙ (ap (λ m. padded m) number ∙ sym is) in
      let equal = (bytes_eq-Decides c.as_str.result.now c.args.digits.now).1 same in
      let not_equal = sym c.eq.ensures ∙ c.if-eq.false in
      cc),
)
