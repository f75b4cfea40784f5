use Rattle.std.proofs.Common.{ℕ, List, [], ◌∷◌, ◌++◌, decimal, subst}
use Rattle.lsm_text.specs.EntryPrinting.{action_line, bytes_word}
use Rattle.lsm_text.specs.Printing.{Stops}
use Rattle.lsm_text.proofs.EntryPieces.{line_parts}
use Rattle.lsm_text.proofs.PrinterLaws.{err_text, err_then, ok_text, ok_then, on_err, stops_in, stops_then}
use Rattle.lsm_text.proofs.entry_printing.print_entry.Goals as goal

abbrev blank : List ℕ
blank = 32 ∷ []

pub returns-in_err-print_bytes-clause-begun : goal.returns-in_err-print_bytes-clause-begun
returns-in_err-print_bytes-clause-begun g c =
    let word = bytes_word c.args.user.now in
    let rest : List ℕ = blank ++ (decimal c.args.seq ++ action_line c.args.kind c.args.value.now) in
    let line = line_parts c.args.user.now c.args.seq c.args.kind c.args.value.now in
    let old = g.O.Write.contents c.args.out.now in
    let new = g.O.Write.contents c.print_bytes.new.out in
    let held = c.args.printer.now.held.items in
    on_err c.from_residual.result (subst (Stops old held new) line (stops_in old new held word rest c.in_err-print_bytes.ensures.begun))

pub returns-in_err-push-clause-begun : goal.returns-in_err-push-clause-begun
returns-in_err-push-clause-begun g c =
    let word = bytes_word c.args.user.now in
    let rest : List ℕ = decimal c.args.seq ++ action_line c.args.kind c.args.value.now in
    let line = line_parts c.args.user.now c.args.seq c.args.kind c.args.value.now in
    let old = g.O.Write.contents c.args.out.now in
    let mid = g.O.Write.contents c.print_bytes.new.out in
    let new = g.O.Write.contents c.push.new.out in
    let held = c.args.printer.now.held.items in
    let first = c.print_bytes.new.printer.held.items in
    on_err c.from_residual-in_err-push.result (subst (Stops old held new) line
    (stops_then old mid new held first word (blank ++ rest) c.in_ok-print_bytes.ensures.printed (stops_in mid new first blank rest c.in_err-push.ensures.begun)))

pub returns-in_err-print_decimal-clause-begun : goal.returns-in_err-print_decimal-clause-begun
returns-in_err-print_decimal-clause-begun g c =
    let word = bytes_word c.args.user.now in
    let digits = decimal c.args.seq in
    let rest : List ℕ = action_line c.args.kind c.args.value.now in
    let line = line_parts c.args.user.now c.args.seq c.args.kind c.args.value.now in
    let old = g.O.Write.contents c.args.out.now in
    let mid = g.O.Write.contents c.print_bytes.new.out in
    let late = g.O.Write.contents c.push.new.out in
    let new = g.O.Write.contents c.print_decimal.new.out in
    let held = c.args.printer.now.held.items in
    let first = c.print_bytes.new.printer.held.items in
    let second = c.push.new.self.held.items in
    on_err c.from_residual-in_err-print_decimal.result (subst (Stops old held new) line
    (stops_then old mid new held first word (blank ++ (digits ++ rest)) c.in_ok-print_bytes.ensures.printed
    (stops_then mid late new first second blank (digits ++ rest) c.in_ok-push.ensures.printed (stops_in late new second digits rest c.in_err-print_decimal.ensures.begun))))

pub returns-clause-printed : goal.returns-clause-printed
returns-clause-printed g c =
    let word = bytes_word c.args.user.now in
    let digits = decimal c.args.seq in
    let rest : List ℕ = action_line c.args.kind c.args.value.now in
    let line = line_parts c.args.user.now c.args.seq c.args.kind c.args.value.now in
    let old = g.O.Write.contents c.args.out.now in
    let mid = g.O.Write.contents c.print_bytes.new.out in
    let late = g.O.Write.contents c.push.new.out in
    let last = g.O.Write.contents c.print_decimal.new.out in
    let new = g.O.Write.contents c.print_action.new.out in
    let held = c.args.printer.now.held.items in
    let first = c.print_bytes.new.printer.held.items in
    let second = c.push.new.self.held.items in
    let third = c.print_decimal.new.printer.held.items in
    let left = c.print_action.new.printer.held.items in
    let r = c.print_action.result in
    ok_text r old new held left (word ++ (blank ++ (digits ++ rest))) _ line
    (ok_then r old mid new held first left word (blank ++ (digits ++ rest)) c.in_ok-print_bytes.ensures.printed
    (ok_then r mid late new first second left blank (digits ++ rest) c.in_ok-push.ensures.printed
    (ok_then r late last new second third left digits rest c.in_ok-print_decimal.ensures.printed c.print_action.ensures.printed)))

pub returns-clause-begun : goal.returns-clause-begun
returns-clause-begun g c =
    let word = bytes_word c.args.user.now in
    let digits = decimal c.args.seq in
    let rest : List ℕ = action_line c.args.kind c.args.value.now in
    let line = line_parts c.args.user.now c.args.seq c.args.kind c.args.value.now in
    let old = g.O.Write.contents c.args.out.now in
    let mid = g.O.Write.contents c.print_bytes.new.out in
    let late = g.O.Write.contents c.push.new.out in
    let last = g.O.Write.contents c.print_decimal.new.out in
    let new = g.O.Write.contents c.print_action.new.out in
    let held = c.args.printer.now.held.items in
    let first = c.print_bytes.new.printer.held.items in
    let second = c.push.new.self.held.items in
    let third = c.print_decimal.new.printer.held.items in
    let r = c.print_action.result in
    err_text r old new held (word ++ (blank ++ (digits ++ rest))) _ line
    (err_then r old mid new held first word (blank ++ (digits ++ rest)) c.in_ok-print_bytes.ensures.printed
    (err_then r mid late new first second blank (digits ++ rest) c.in_ok-push.ensures.printed
    (err_then r late last new second third digits rest c.in_ok-print_decimal.ensures.printed c.print_action.ensures.begun)))
