use Rattle.std.proofs.Common.{ℕ, List, Option, Bor, subst}
use Rattle.std.specs.Option.{option_map}
use Rattle.lsm_block.specs.Held.{Position, Given, last_of, text_and_entries}
use Rattle.lsm_block.specs.Standing.{SharesFront, user_of_last}
use Rattle.lsm_block.proofs.HeldLaws.{given_steps}
use Rattle.lsm_block.proofs.StandLaws.{shares_kept}
use Rattle.lsm_block.proofs.cursor.Cursor.step_in.Goals as goal

pub returns-clause-given : goal.returns-clause-given
returns-clause-given c =
    let s = c.self.inside in
    let value : Option (List ℕ) = option_map (λ (v : Bor (List ℕ)). v.now) c.in_ok-value.value in
    let new : Position = record { offset = c.in_ok-value.offset; last = last_of c.step.new.before.items } in
    subst (λ (old : Position). Given (text_and_entries c.args.text.now) old new value) c.self.view_is
    (given_steps c.args.text.now s.before.items c.step.new.before.items s.offset c.in_ok-value.offset value c.self.invariant c.in_ok-value.ensures.kept c.in_ok-value.ensures.steps c.in_ok-value.ensures.stands)

pub returns-clause-shared : goal.returns-clause-shared
returns-clause-shared c =
    let s = c.self.inside in
    subst (λ (old : Position). SharesFront c.shared_by_users-users.result (user_of_last old.last) (user_of_last (last_of c.step.new.before.items))) c.self.view_is
    (shares_kept c.in_ok-value.shared c.shared_by_users-users.result s.before.items c.step.new.before.items c.in_ok-value.ensures.shared c.self.invariant c.in_ok-value.ensures.kept (rw (c.as_slice-before_len.ensures.value, c.as_slice.ensures.value) at c.shared_by_users-users.ensures))
