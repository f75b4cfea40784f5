use Rattle.lsm_state.proofs.OpenLaws.{begun_anew, board_opened, openable_found, parts_opened}
use Rattle.lsm_state.proofs.OpenLaws.{read_anew, refused_anew, state_opened}
use Rattle.lsm_state.proofs.state.State.open.Goals as goal

pub begin-requires-clause-board : goal.begin-requires-clause-board
begin-requires-clause-board g c κs within =
    board_opened g.N.Boarded.board c.args.options c.args.board.0 c.args.board.1.items
    c.in_ok-state.state c.in_ok-state.ensures.opened c.requires.board

pub begin-requires-clause-opened : goal.begin-requires-clause-opened
begin-requires-clause-opened g c κs within =
    parts_opened c.args.options c.args.board.0 c.args.board.1.items c.in_ok-state.state
    c.in_ok-state.ensures.opened

pub begin-requires-clause-openable : goal.begin-requires-clause-openable
begin-requires-clause-openable g c κs within =
    let f = c.in_ok-state.ensures.found in
    let s = c.in_ok-state.state in
    (f.0, openable_found g.S.Shelf.honest _ s.journal s.slots.version f.0 s.next _ _ f.1)

pub returns-clause-begun : goal.returns-clause-begun
returns-clause-begun g c =
    let f = c.in_ok-state.ensures.found in
    let s = c.in_ok-state.state in
    begun_anew c.begin.result g.S.Shelf.honest _ s.options s.slots.board s.pinners s.slots.version
    s.journal f.0 s.next _ _ _ f.1 c.begin.ensures.anew c.begin.ensures.opened

pub returns-clause-opened : goal.returns-clause-opened
returns-clause-opened g c =
    state_opened c.begin.result c.args.options c.args.board.0 c.args.board.1.items
    c.in_ok-state.state c.in_ok-state.ensures.opened c.begin.ensures.opened

pub returns-clause-refused : goal.returns-clause-refused
returns-clause-refused g c =
    let f = c.in_ok-state.ensures.found in
    refused_anew c.begin.result _ (g.S.Shelf.refuses g.N.Naming.place) g.S.Shelf.honest _
    c.in_ok-state.state f.0 _ _ _ f.1 c.begin.ensures.refused

pub returns-clause-counts_err : goal.returns-clause-counts_err
returns-clause-counts_err g c =
    let s = c.in_ok-state.state in
    read_anew c.begin.result (g.S.Shelf.refuses g.N.Naming.place) s.slots.version s.next s.journal
    _ _ _ _ c.begin.ensures.refused
