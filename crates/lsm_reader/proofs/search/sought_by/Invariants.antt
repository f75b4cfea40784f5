use Rattle.std.proofs.Common.{◌≡◌, List, length}
use Rattle.std.specs.Arc.{arc_value}
use Rattle.lsm_codec.specs.Entries.{Entry}
use Rattle.lsm_codec.specs.KeyRef.{key_of}
use Rattle.lsm_block.specs.Held.{HeldBlock}
use Rattle.lsm_block.specs.Seeking.{not_below}
use Rattle.lsm_reader.specs.Getting.{first_named}
use Rattle.lsm_table.specs.Footer.{body_of}
use Rattle.lsm_table.specs.HeldTable.{Names}
use Rattle.lsm_table.specs.Searching.{Sought}
use Rattle.lsm_shelf.specs.Told.{Becomes}
use Rattle.lsm_reader.proofs.search.sought_by.Given as goal

abbrev pub invariant-loop-alloc : goal.invariant-loop-alloc
invariant-loop-alloc g l =
    Becomes (g.B.Blocks.told l.fn.blocks) (g.B.Blocks.told l.blocks)
    × (g.B.Blocks.loan l.blocks ≡ g.B.Blocks.loan l.fn.blocks)
    × (g.S.Shelf.honest → (es : List Entry) → Names (body_of (g.S.Receipt.TableReceipt.image
    l.receipt)) (arc_value {X = HeldBlock} l.fn.index).entries es → Sought (key_of l.key)
    (body_of (g.S.Receipt.TableReceipt.image l.receipt)) l.places es)
    × (g.S.Shelf.honest → first_named (key_of l.key) (body_of (g.S.Receipt.TableReceipt.image
    l.receipt)) (not_below (key_of l.key) (arc_value {X = HeldBlock} l.fn.index).entries) ≡
    first_named (key_of l.key) (body_of (g.S.Receipt.TableReceipt.image l.receipt)) l.places)

abbrev pub decreases-loop-alloc : goal.decreases-loop-alloc
decreases-loop-alloc g l = length l.places
