use Rattle.std.proofs.Common.{ℕ, List, [], ◌∷◌, ◌++◌}
use Rattle.lsm_codec.specs.declared.kind.Kind.TheVariants.{Value}
use Rattle.lsm_text.specs.EntryPrinting.{action_line, bytes_word}
use Rattle.lsm_text.proofs.EntryPieces.{put_line}
use Rattle.lsm_text.proofs.PrinterLaws.{err_text, err_then, ok_text, ok_then, on_err, stops_in, stops_then}
use Rattle.lsm_text.proofs.entry_printing.print_put.Goals as goal

abbrev put : List ℕ
put = 32 ∷ 112 ∷ 117 ∷ 116 ∷ 32 ∷ []

abbrev newline : List ℕ
newline = 10 ∷ []

pub returns-in_err-push-clause-begun : goal.returns-in_err-push-clause-begun
returns-in_err-push-clause-begun g c =
    let word = bytes_word c.args.value.now in
    let old = g.O.Write.contents c.args.out.now in
    let new = g.O.Write.contents c.push.new.out in
    let held = c.args.printer.now.held.items in
    err_text c.from_residual.result old new held (put ++ (word ++ newline)) (action_line Value c.args.value.now) (put_line c.args.value.now)
    (on_err c.from_residual.result (stops_in old new held put (word ++ newline) c.in_err-push.ensures.begun))

pub returns-in_err-print_bytes-clause-begun : goal.returns-in_err-print_bytes-clause-begun
returns-in_err-print_bytes-clause-begun g c =
    let word = bytes_word c.args.value.now in
    let old = g.O.Write.contents c.args.out.now in
    let mid = g.O.Write.contents c.push.new.out in
    let new = g.O.Write.contents c.print_bytes.new.out in
    let held = c.args.printer.now.held.items in
    let between = c.push.new.self.held.items in
    err_text c.from_residual-in_err-print_bytes.result old new held (put ++ (word ++ newline)) (action_line Value c.args.value.now) (put_line c.args.value.now)
    (on_err c.from_residual-in_err-print_bytes.result
    (stops_then old mid new held between put (word ++ newline) c.in_ok-push.ensures.printed (stops_in mid new between word newline c.in_err-print_bytes.ensures.begun)))

pub returns-clause-printed : goal.returns-clause-printed
returns-clause-printed g c =
    let word = bytes_word c.args.value.now in
    let old = g.O.Write.contents c.args.out.now in
    let mid = g.O.Write.contents c.push.new.out in
    let late = g.O.Write.contents c.print_bytes.new.out in
    let new = g.O.Write.contents c.push-2.new.out in
    let held = c.args.printer.now.held.items in
    let left = c.push-2.new.self.held.items in
    let r = c.push-2.result in
    ok_text r old new held left (put ++ (word ++ newline)) (action_line Value c.args.value.now) (put_line c.args.value.now)
    (ok_then r old mid new held c.push.new.self.held.items left put (word ++ newline) c.in_ok-push.ensures.printed
    (ok_then r mid late new c.push.new.self.held.items c.print_bytes.new.printer.held.items left word newline c.in_ok-print_bytes.ensures.printed c.push-2.ensures.printed))

pub returns-clause-begun : goal.returns-clause-begun
returns-clause-begun g c =
    let word = bytes_word c.args.value.now in
    let old = g.O.Write.contents c.args.out.now in
    let mid = g.O.Write.contents c.push.new.out in
    let late = g.O.Write.contents c.print_bytes.new.out in
    let new = g.O.Write.contents c.push-2.new.out in
    let held = c.args.printer.now.held.items in
    let r = c.push-2.result in
    err_text r old new held (put ++ (word ++ newline)) (action_line Value c.args.value.now) (put_line c.args.value.now)
    (err_then r old mid new held c.push.new.self.held.items put (word ++ newline) c.in_ok-push.ensures.printed
    (err_then r mid late new c.push.new.self.held.items c.print_bytes.new.printer.held.items word newline c.in_ok-print_bytes.ensures.printed c.push-2.ensures.begun))
