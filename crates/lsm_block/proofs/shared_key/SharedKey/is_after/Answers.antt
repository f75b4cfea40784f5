use Rattle.std.proofs.Common.{◌<◌, Less, Greater, length, sym, ◌∙◌, ap, subst, arith}
use Rattle.std.proofs.lemmas.Bool.Decides.{nat_tests}
use Rattle.lsm_block.specs.KeyParts.{KeyParts, AreParts, joined}
use Rattle.lsm_codec.specs.Keys.{tail_of}
use Rattle.lsm_codec.proofs.CallerLemmas.{internal_long}
use Rattle.lsm_block.proofs.JoinLaws.{after_by, after_equal}
use Rattle.lsm_block.proofs.shared_key.SharedKey.is_after.Goals as goal

pub compare_before-requires-clause-before : goal.compare_before-requires-clause-before
compare_before-requires-clause-before c =
    let some : 0 < length c.self.inside.before.now = grind (arith, nat_tests) in
    internal_long c.args.self.now.before (c.requires.before (subst (λ (k : KeyParts). 0 < length k.before) c.self.view_is some))

pub compare_before-requires-clause-key : goal.compare_before-requires-clause-key
compare_before-requires-clause-key c = internal_long (joined c.args.self.now) c.requires.key

pub tail-requires : goal.tail-requires
tail-requires c = internal_long (joined c.args.self.now) c.requires.key

pub tail-requires-in-Equal : goal.tail-requires-in-Equal
tail-requires-in-Equal c =
    let some : 0 < length c.self.inside.before.now = grind (arith, nat_tests) in
    let same = ap (λ (k : KeyParts). length k.before) c.self.view_is in
    omega (arith, same, internal_long c.args.self.now.before (c.requires.before (subst (λ (k : KeyParts). 0 < length k.before) c.self.view_is some)))

pub returns-in-Less : goal.returns-in-Less
returns-in-Less c =
    let some : 0 < length c.self.inside.before.now = grind (arith, nat_tests) in
    after_by c.args.self.now Less (subst AreParts c.self.view_is c.self.invariant) (subst (λ (k : KeyParts). 0 < length k.before) c.self.view_is some)
    c.requires.before c.requires.key (sym c.compare_before.ensures ∙ c.in-Less.is)

pub returns-in-Equal : goal.returns-in-Equal
returns-in-Equal c =
    let some : 0 < length c.self.inside.before.now = grind (arith, nat_tests) in
    rw (c.tail.ensures, c.tail-in-Equal.ensures, ap (λ (k : KeyParts). tail_of k.before) c.self.view_is)
    (after_equal c.args.self.now (subst AreParts c.self.view_is c.self.invariant) (subst (λ (k : KeyParts). 0 < length k.before) c.self.view_is some)
    c.requires.before c.requires.key (sym c.compare_before.ensures ∙ c.in-Equal.is))

pub returns-in-Greater : goal.returns-in-Greater
returns-in-Greater c =
    let some : 0 < length c.self.inside.before.now = grind (arith, nat_tests) in
    after_by c.args.self.now Greater (subst AreParts c.self.view_is c.self.invariant) (subst (λ (k : KeyParts). 0 < length k.before) c.self.view_is some)
    c.requires.before c.requires.key (sym c.compare_before.ensures ∙ c.in-Greater.is)
