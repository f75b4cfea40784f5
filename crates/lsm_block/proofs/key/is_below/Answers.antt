use Rattle.std.proofs.Common.{◌≡◌, Less, Equal, Greater, sym, ◌∙◌, arith}
use Rattle.std.specs.Ordering.{nat_cmp}
use Rattle.std.specs.Cmp.Lexicographic.{slice_cmp}
use Rattle.lsm_codec.proofs.CallerLemmas.{internal_long}
use Rattle.lsm_codec.specs.KeyRef.{key_of}
use Rattle.lsm_codec.specs.Keys.{user_of}
use Rattle.lsm_block.proofs.KeyLaws.{below_by, below_equal}
use Rattle.lsm_block.proofs.key.is_below.Goals as goal

pub overflow_sub-key : goal.overflow_sub-key
overflow_sub-key c = internal_long c.args.key.now c.requires

pub tail-requires : goal.tail-requires
tail-requires c = internal_long c.args.key.now c.requires

pub returns-in-Less : goal.returns-in-Less
returns-in-Less c =
    let found : slice_cmp nat_cmp (user_of c.args.key.now) c.args.search.now.user.now ≡ Less =
    rw c.split_at.ensures.front at (sym c.compare.ensures ∙ c.in-Less.is) in
    sym (below_by c.args.key.now (key_of c.args.search.now) Less
    (λ i. omega (arith, c.type_inv.key i)) c.requires found)

pub returns-in-Equal : goal.returns-in-Equal
returns-in-Equal c =
    let found : slice_cmp nat_cmp (user_of c.args.key.now) c.args.search.now.user.now ≡ Equal =
    rw c.split_at.ensures.front at (sym c.compare.ensures ∙ c.in-Equal.is) in
    rw (c.tail.ensures, c.packed.ensures)
    (sym (below_equal c.args.key.now (key_of c.args.search.now)
    (λ i. omega (arith, c.type_inv.key i)) c.requires found))

pub returns-in-Greater : goal.returns-in-Greater
returns-in-Greater c =
    let found : slice_cmp nat_cmp (user_of c.args.key.now) c.args.search.now.user.now ≡ Greater =
    rw c.split_at.ensures.front at (sym c.compare.ensures ∙ c.in-Greater.is) in
    sym (below_by c.args.key.now (key_of c.args.search.now) Greater
    (λ i. omega (arith, c.type_inv.key i)) c.requires found)
