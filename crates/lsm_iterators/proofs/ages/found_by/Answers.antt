use Rattle.std.proofs.Common.{rules, ◌≡◌, ◌∙◌, None, true, false, sym, ap}
use Rattle.lsm_iterators.specs.Followed.{known_if, stands_after}
use Rattle.lsm_iterators.specs.Heads.{after_first, first_of, no_more, source_in, user_in}
use Rattle.lsm_iterators.specs.Walks.{Walking, passed_by, told_first}
use Rattle.lsm_iterators.proofs.FollowedLaws.{goes_on, judged_end, judged_none, judged_some}
use Rattle.lsm_iterators.proofs.ages.found_by.Goals as goal

pub returns-in_default-clause-judged : goal.returns-in_default-clause-judged
returns-in_default-clause-judged g c honest ordered =
    let walk : Walking = c.loop.walk in
    let none : None ≡ told_first walk.passed (first_of walk.left.placed) = search rules in
    judged_none c.args.walk.now.left.placed walk.left.placed (known_if c.loop.before.depth walk.passed c.loop.before.seq) walk.passed ordered (c.loop.invariant.same honest) none

pub returns-in-Ok-clause-judged : goal.returns-in-Ok-clause-judged
returns-in-Ok-clause-judged g c honest ordered =
    let walk : Walking = c.loop.walk in
    let key = c.in-Some.key in
    let depth : c.depth-depth.result ≡ source_in (first_of walk.left.placed) = c.depth-depth.ensures ∙ ap (λ (w : Walking). source_in (first_of w.left.placed)) c.first_key.ensures.same in
    let stands : stands_after key.is_same c.loop.before.depth c.loop.before.seq (source_in (first_of walk.left.placed)) key.seq ≡ false = rw (sym depth) (sym c.may_follow.ensures ∙ search rules) in
    let user : c.in-Ok.user ≡ user_in (first_of walk.left.placed) = c.in-Ok.ensures ∙ ap (λ (w : Walking). user_in (first_of w.left.placed)) c.first_key.ensures.same in
    judged_some c.args.walk.now.left.placed walk.left.placed walk.passed c.loop.before.depth c.loop.before.seq key c.in-Ok.user ordered (c.loop.invariant.same honest) c.in-Some.ensures.told stands user

pub loop-preserved : goal.loop-preserved
loop-preserved g c =
    let walk : Walking = c.loop.walk in
    let key = c.in-Some.key in
    let depth : c.depth-depth.result ≡ source_in (first_of walk.left.placed) = c.depth-depth.ensures ∙ ap (λ (w : Walking). source_in (first_of w.left.placed)) c.first_key.ensures.same in
    let stands : stands_after key.is_same c.loop.before.depth c.loop.before.seq (source_in (first_of walk.left.placed)) key.seq ≡ true = rw (sym depth) (sym c.may_follow.ensures ∙ search rules) in
    let passed : c.pass_by.new.self.passed ≡ passed_by walk.passed (first_of walk.left.placed) =
    c.in_ok-pass_by.ensures.passed ∙ ap (λ (w : Walking). passed_by w.passed (first_of w.left.placed)) c.first_key.ensures.same in
    record {
      told = search rules;
      loan = search rules;
      files = search rules;
      same = λ honest.
          let new : c.pass_by.new.self.left.placed ≡ after_first walk.left.placed = c.in_ok-pass_by.ensures.ok honest ∙ ap (λ (w : Walking). after_first w.left.placed) c.first_key.ensures.same in
          c.loop.invariant.same honest ∙ sym (rw depth (goes_on walk.passed c.pass_by.new.self.passed walk.left.placed c.pass_by.new.self.left.placed key c.loop.before.depth c.loop.before.seq c.in-Some.ensures.told stands passed new));
    }

pub returns-then-is_at_end-clause-judged : goal.returns-then-is_at_end-clause-judged
returns-then-is_at_end-clause-judged g c honest ordered =
    let walk : Walking = c.loop.walk in
    let ends : no_more walk.left.placed ≡ true = search rules in
    judged_end c.args.walk.now.left.placed walk.left.placed (known_if c.loop.before.depth walk.passed c.loop.before.seq) ordered (c.loop.invariant.same honest) ends
