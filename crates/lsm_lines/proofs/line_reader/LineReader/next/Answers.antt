use Rattle.std.proofs.Common.{◌≡◌, ◌++◌, List, ℕ, [], Some, None, Option, length, drop, ap, sym, subst, refl, ◌∙◌, drop_of_length-le, le_refl}
use Rattle.std.specs.Io.KnownBytes.{prepend_known}
use Rattle.lsm_text.specs.EntryReading.{parts_at}
use Rattle.lsm_lines.specs.Pieces.{Holds}
use Rattle.lsm_lines.specs.Reading.{ReadAhead, bytes_left}
use Rattle.lsm_lines.proofs.LineLaws.{HasRead, found_fits, line_ends, line_found, read_more}
use Rattle.lsm_lines.proofs.line_reader.LineReader.next.Goals as goal

pub returns-then-not-branch : goal.returns-then-not-branch
returns-then-not-branch g c =
    line_ends c.loop-turn.so_far c.loop-turn.self-inside.line.items (bytes_left c.loop-turn.self-inside.ahead) c.args.self.now _ c.loop-turn.invariant c.fill.ensures.kept
    (c.in_ok-fill.ensures.none c.if-not-branch.true) refl

pub pass-requires : goal.pass-requires
pass-requires g c =
    found_fits c.fill.new.self.ready c.in-Some.piece.now c.in-Some.field-0-1.now (subst (λ (l : List ℕ). Some (c.in-Some.piece.now, c.in-Some.field-0-1.now) ≡ parts_at 10 l) c.ready-ready.ensures c.in-Some.ensures)

pub returns-in-Some : goal.returns-in-Some
returns-in-Some g c =
    let found : parts_at 10 c.fill.new.self.ready ≡ Some (c.in-Some.piece.now, c.in-Some.field-0-1.now) =
    sym (subst (λ (l : List ℕ). Some (c.in-Some.piece.now, c.in-Some.field-0-1.now) ≡ parts_at 10 l) c.ready-ready.ensures c.in-Some.ensures)
    in
    line_found c.loop-turn.so_far c.add_piece-next.result c.loop-turn.self-inside.line.items c.add_piece-next.new.line.items c.in-Some.piece.now c.in-Some.field-0-1.now
    (bytes_left c.loop-turn.self-inside.ahead) c.fill.new.self.behind c.fill.new.self.ready c.pass.new.self.ready c.args.self.now _ c.loop-turn.invariant c.fill.ensures.kept found
    (ap (λ (r : ReadAhead). r.ready) c.pass.ensures) c.add_piece-next.ensures.holds c.add_piece-next.ensures.begun refl
    (ap (λ (r : ReadAhead). prepend_known c.pass.new.self.ready r.behind) c.pass.ensures)

pub loop-turn-preserved : goal.loop-turn-preserved
loop-turn-preserved g c =
    let found : parts_at 10 c.fill.new.self.ready ≡ None = sym (subst (λ (l : List ℕ). None ≡ parts_at 10 l) c.ready-ready.ensures c.in-None.ensures) in
    let old = c.fill.new.self in
    let new = c.pass-in-None.new.self in
    let same : c.ready-ready.result.now ≡ old.ready = c.ready-ready.ensures in
    let empty : new.ready ≡ [] = ap (λ (r : ReadAhead). r.ready) c.pass-in-None.ensures ∙ ap (λ (l : List ℕ). drop (length l) old.ready) same ∙ drop_of_length-le old.ready (le_refl _) in
    let beyond : new.behind ≡ old.behind = ap (λ (r : ReadAhead). r.behind) c.pass-in-None.ensures in
    let more = read_more c.loop-turn.so_far c.add_piece-so_far.result c.loop-turn.self-inside.line.items c.add_piece-so_far.new.line.items c.args.self.now.left (bytes_left c.loop-turn.self-inside.ahead)
    old.behind old.ready new.ready c.loop-turn.invariant c.fill.ensures.kept (c.in_ok-fill.ensures.some c.if-not-branch.false) found empty
    (subst (λ (l : List ℕ). (front : List ℕ) → Holds c.loop-turn.so_far c.loop-turn.self-inside.line.items front
    → Holds c.add_piece-so_far.result c.add_piece-so_far.new.line.items (front ++ l)) same c.add_piece-so_far.ensures.holds)
    in
    subst (λ (o : Option (List ℕ)). HasRead c.add_piece-so_far.result c.add_piece-so_far.new.line.items c.args.self.now.left (prepend_known new.ready o)) (sym beyond) more
