use Rattle.std.proofs.Common.{rules, ◌≡◌, true, false}
use Rattle.lsm_iterators.specs.Runs.{Left}
use Rattle.lsm_iterators.specs.Tree.{IsFront, IsLed, IsReady, ShareHeads, both, left_of}
use Rattle.lsm_iterators.proofs.TreeLaws.{alike_in, first_front_stays, first_kept, first_leads_on, known_first, known_second, second_front_stays, second_kept, second_leads_on}
use Rattle.lsm_iterators.proofs.tree.+advance_by.Goals as goal

pub kept_by-requires-clause-more : goal.kept_by-requires-clause-more
kept_by-requires-clause-more g t c κs within more =
    let a : Left = left_of c.in-Fork.first.value in
    let b : Left = left_of c.in-Fork.second.value in
    let new : Left = left_of c.advance_by.new.tree in
    let between : IsFront c.in-Fork.front a b = search rules in
    let kept : ShareHeads c.in-Ok.moved a new = search rules in
    let own : IsLed c.in-Fork.led a b = search rules in
    let led : IsLed true a b = search rules in
    let first : IsReady c.advance_by.new.tree = search rules in
    let second : IsReady c.in-Fork.second.value = search rules in (
      (
        first_leads_on c.in-Fork.led c.in-Ok.moved c.in-Fork.front a new b own between (alike_in c.advance_by.new.tree first) (alike_in c.in-Fork.second.value second) kept more,
        first_front_stays c.in-Ok.moved c.in-Fork.front a new b between kept more,
        first,
        second,
      ),
      first_leads_on true c.in-Ok.moved c.in-Fork.front a new b led between (alike_in c.advance_by.new.tree first) (alike_in c.in-Fork.second.value second) kept more,
    )

pub kept_by-requires-clause-front : goal.kept_by-requires-clause-front
kept_by-requires-clause-front g t c κs within no_more =
    let a : Left = left_of c.in-Fork.first.value in
    let b : Left = left_of c.in-Fork.second.value in
    let new : Left = left_of c.advance_by.new.tree in
    let between : IsFront c.in-Fork.front a b = search rules in
    let kept : ShareHeads c.in-Ok.moved a new = search rules in
    known_first c.in-Fork.front c.in-Ok.moved a new b no_more between.shared kept

pub returns-in-Ok-clause-shared : goal.returns-in-Ok-clause-shared
returns-in-Ok-clause-shared g t c =
    let a : Left = left_of c.in-Fork.first.value in
    let b : Left = left_of c.in-Fork.second.value in
    let new : Left = left_of c.advance_by.new.tree in
    let between : IsFront c.in-Fork.front a b = search rules in
    let kept : ShareHeads c.in-Ok.moved a new = search rules in
    let whole : left_of c.args.tree.now ≡ both a b = search rules in
    let now : left_of c.kept_by.new.tree ≡ both new b = search rules in
    let led : IsLed true a b = search rules in
    rw (whole, now) (first_kept c.kept_by.result c.in-Fork.front c.in-Ok.moved a new b led c.kept_by.ensures.kept kept between.shared)

pub returns-in-Ok-clause-told : goal.returns-in-Ok-clause-told
returns-in-Ok-clause-told g t c = c.advance_by.ensures.told

pub returns-in-Err-clause-told : goal.returns-in-Err-clause-told
returns-in-Err-clause-told g t c = c.advance_by.ensures.told

pub returns-in-Ok-clause-loan : goal.returns-in-Ok-clause-loan
returns-in-Ok-clause-loan g t c = c.advance_by.ensures.loan

pub returns-in-Err-clause-loan : goal.returns-in-Err-clause-loan
returns-in-Err-clause-loan g t c = c.advance_by.ensures.loan

pub returns-in-Err-clause-cause : goal.returns-in-Err-clause-cause
returns-in-Err-clause-cause g t c = c.in-Err.ensures.cause

pub returns-in-Err-clause-refused : goal.returns-in-Err-clause-refused
returns-in-Err-clause-refused g t c = c.in-Err.ensures.refused

pub kept_by-requires-in-Ok-advance_by-clause-more : goal.kept_by-requires-in-Ok-advance_by-clause-more
kept_by-requires-in-Ok-advance_by-clause-more g t c κs within more =
    let a : Left = left_of c.in-Fork.first.value in
    let b : Left = left_of c.in-Fork.second.value in
    let new : Left = left_of c.advance_by-else-led.new.tree in
    let between : IsFront c.in-Fork.front a b = search rules in
    let kept : ShareHeads c.in-Ok-advance_by.moved b new = search rules in
    let own : IsLed c.in-Fork.led a b = search rules in
    let led : IsLed false a b = search rules in
    let first : IsReady c.in-Fork.first.value = search rules in
    let second : IsReady c.advance_by-else-led.new.tree = search rules in (
      (
        second_leads_on c.in-Fork.led c.in-Ok-advance_by.moved c.in-Fork.front a b new own between (alike_in c.in-Fork.first.value first) (alike_in c.advance_by-else-led.new.tree second) kept more,
        second_front_stays c.in-Ok-advance_by.moved c.in-Fork.front a b new between kept more,
        first,
        second,
      ),
      second_leads_on false c.in-Ok-advance_by.moved c.in-Fork.front a b new led between (alike_in c.in-Fork.first.value first) (alike_in c.advance_by-else-led.new.tree second) kept more,
    )

pub kept_by-requires-in-Ok-advance_by-clause-front : goal.kept_by-requires-in-Ok-advance_by-clause-front
kept_by-requires-in-Ok-advance_by-clause-front g t c κs within no_more =
    let a : Left = left_of c.in-Fork.first.value in
    let b : Left = left_of c.in-Fork.second.value in
    let new : Left = left_of c.advance_by-else-led.new.tree in
    let between : IsFront c.in-Fork.front a b = search rules in
    let kept : ShareHeads c.in-Ok-advance_by.moved b new = search rules in
    known_second c.in-Fork.front c.in-Ok-advance_by.moved a b new no_more between.shared kept

pub returns-in-Ok-advance_by-clause-shared : goal.returns-in-Ok-advance_by-clause-shared
returns-in-Ok-advance_by-clause-shared g t c =
    let a : Left = left_of c.in-Fork.first.value in
    let b : Left = left_of c.in-Fork.second.value in
    let new : Left = left_of c.advance_by-else-led.new.tree in
    let between : IsFront c.in-Fork.front a b = search rules in
    let kept : ShareHeads c.in-Ok-advance_by.moved b new = search rules in
    let whole : left_of c.args.tree.now ≡ both a b = search rules in
    let now : left_of c.kept_by-in-Ok-advance_by.new.tree ≡ both a new = search rules in
    let led : IsLed false a b = search rules in
    rw (whole, now) (second_kept c.kept_by-in-Ok-advance_by.result c.in-Fork.front c.in-Ok-advance_by.moved a b new led c.kept_by-in-Ok-advance_by.ensures.kept kept between.shared)

pub returns-in-Ok-advance_by-clause-told : goal.returns-in-Ok-advance_by-clause-told
returns-in-Ok-advance_by-clause-told g t c = c.advance_by-else-led.ensures.told

pub returns-in-Err-advance_by-clause-told : goal.returns-in-Err-advance_by-clause-told
returns-in-Err-advance_by-clause-told g t c = c.advance_by-else-led.ensures.told

pub returns-in-Ok-advance_by-clause-loan : goal.returns-in-Ok-advance_by-clause-loan
returns-in-Ok-advance_by-clause-loan g t c = c.advance_by-else-led.ensures.loan

pub returns-in-Err-advance_by-clause-loan : goal.returns-in-Err-advance_by-clause-loan
returns-in-Err-advance_by-clause-loan g t c = c.advance_by-else-led.ensures.loan

pub returns-in-Err-advance_by-clause-cause : goal.returns-in-Err-advance_by-clause-cause
returns-in-Err-advance_by-clause-cause g t c = c.in-Err-advance_by.ensures.cause

pub returns-in-Err-advance_by-clause-refused : goal.returns-in-Err-advance_by-clause-refused
returns-in-Err-advance_by-clause-refused g t c = c.in-Err-advance_by.ensures.refused
