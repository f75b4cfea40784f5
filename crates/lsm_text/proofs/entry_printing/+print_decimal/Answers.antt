use Rattle.std.proofs.Common.{◌≡◌, ℕ, ◌+◌, ◌/◌, ◌%◌, List, [], ◌∷◌, ◌++◌, decimal, sym, rules}
use Rattle.std.proofs.lemmas.Fmt.{decimal_digit, decimal_step}
use Rattle.lsm_text.proofs.PrinterLaws.{err_text, err_then, ok_text, ok_then, on_err, stops_in}
use Rattle.lsm_text.proofs.entry_printing.+print_decimal.Goals as goal

pub returns-then-n-lt10-clause-printed : goal.returns-then-n-lt10-clause-printed
returns-then-n-lt10-clause-printed g t c =
    let n = c.args.n in
    ok_text c.print_digit.result (g.O.Write.contents c.args.out.now) (g.O.Write.contents c.print_digit.new.out) c.args.printer.now.held.items c.print_digit.new.printer.held.items
    ((48 + n) ∷ []) (decimal n) (sym (decimal_digit n (search rules))) c.print_digit.ensures.printed

pub returns-then-n-lt10-clause-begun : goal.returns-then-n-lt10-clause-begun
returns-then-n-lt10-clause-begun g t c =
    let n = c.args.n in
    err_text c.print_digit.result (g.O.Write.contents c.args.out.now) (g.O.Write.contents c.print_digit.new.out) c.args.printer.now.held.items
    ((48 + n) ∷ []) (decimal n) (sym (decimal_digit n (search rules))) c.print_digit.ensures.begun

pub returns-in_err-print_decimal-clause-begun : goal.returns-in_err-print_decimal-clause-begun
returns-in_err-print_decimal-clause-begun g t c =
    let n = c.args.n in
    let last : List ℕ = (48 + n % 10) ∷ [] in
    let step : decimal n ≡ decimal (n / 10) ++ last = decimal_step n (search rules) (search rules) in
    let old = g.O.Write.contents c.args.out.now in
    let new = g.O.Write.contents c.print_decimal.new.out in
    let held = c.args.printer.now.held.items in
    err_text c.from_residual.result old new held (decimal (n / 10) ++ last) (decimal n) (sym step)
    (on_err c.from_residual.result (stops_in old new held (decimal (n / 10)) last c.in_err-print_decimal.ensures.begun))

pub returns-clause-printed : goal.returns-clause-printed
returns-clause-printed g t c =
    let n = c.args.n in
    let last : List ℕ = (48 + n % 10) ∷ [] in
    let step : decimal n ≡ decimal (n / 10) ++ last = decimal_step n (search rules) (search rules) in
    let old = g.O.Write.contents c.args.out.now in
    let mid = g.O.Write.contents c.print_decimal.new.out in
    let new = g.O.Write.contents c.print_digit-2.new.out in
    let held = c.args.printer.now.held.items in
    let left = c.print_digit-2.new.printer.held.items in
    ok_text c.print_digit-2.result old new held left (decimal (n / 10) ++ last) (decimal n) (sym step)
    (ok_then c.print_digit-2.result old mid new held c.print_decimal.new.printer.held.items left (decimal (n / 10)) last
    c.in_ok-print_decimal.ensures.printed c.print_digit-2.ensures.printed)

pub returns-clause-begun : goal.returns-clause-begun
returns-clause-begun g t c =
    let n = c.args.n in
    let last : List ℕ = (48 + n % 10) ∷ [] in
    let step : decimal n ≡ decimal (n / 10) ++ last = decimal_step n (search rules) (search rules) in
    let old = g.O.Write.contents c.args.out.now in
    let mid = g.O.Write.contents c.print_decimal.new.out in
    let new = g.O.Write.contents c.print_digit-2.new.out in
    let held = c.args.printer.now.held.items in
    err_text c.print_digit-2.result old new held (decimal (n / 10) ++ last) (decimal n) (sym step)
    (err_then c.print_digit-2.result old mid new held c.print_decimal.new.printer.held.items (decimal (n / 10)) last
    c.in_ok-print_decimal.ensures.printed c.print_digit-2.ensures.begun)
