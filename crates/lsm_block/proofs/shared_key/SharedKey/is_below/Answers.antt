use Rattle.std.proofs.Common.{Less, Greater, sym, ◌∙◌}
use Rattle.lsm_codec.proofs.CallerLemmas.{internal_long}
use Rattle.lsm_codec.specs.KeyRef.{key_of}
use Rattle.lsm_block.specs.KeyParts.{joined}
use Rattle.lsm_block.proofs.KeyLaws.{below_by, below_equal}
use Rattle.lsm_block.proofs.shared_key.SharedKey.is_below.Goals as goal

pub compare_user-requires : goal.compare_user-requires
compare_user-requires c = internal_long (joined c.args.self.now) c.requires

pub tail-requires : goal.tail-requires
tail-requires c = internal_long (joined c.args.self.now) c.requires

pub returns-in-Less : goal.returns-in-Less
returns-in-Less c =
    sym (below_by (joined c.args.self.now) (key_of c.args.search.now) Less c.compare_user.ensures.bytes c.requires (sym c.compare_user.ensures.compares ∙ c.in-Less.is))

pub returns-in-Equal : goal.returns-in-Equal
returns-in-Equal c =
    rw (c.tail.ensures, c.packed.ensures) (sym (below_equal (joined c.args.self.now) (key_of c.args.search.now) c.compare_user.ensures.bytes c.requires (sym c.compare_user.ensures.compares ∙ c.in-Equal.is)))

pub returns-in-Greater : goal.returns-in-Greater
returns-in-Greater c =
    sym (below_by (joined c.args.self.now) (key_of c.args.search.now) Greater c.compare_user.ensures.bytes c.requires (sym c.compare_user.ensures.compares ∙ c.in-Greater.is))
