use Rattle.std.proofs.Common.{List, Some, ◌<◌, ◌≤◌, length, arith, subst}
use Rattle.lsm_table.specs.Registry.{Table}
use Rattle.lsm_version.specs.Versions.{level_in}
use Rattle.lsm_picker.specs.Gathering.{IsCrowded, IsFirstAbove, IsLastToStay, newest}
use Rattle.lsm_picker.proofs.GatheringLaws.{can_from, few_above, least_from}
use Rattle.lsm_picker.proofs.gathering.to_gather.Goals as goal

pub returns-then-newest_count-lt2 : goal.returns-then-newest_count-lt2
returns-then-newest_count-lt2 g c =
    let target = c.args.target_size in
    let rs = c.args.live.now in
    let ts = level_in c.args.version.now.tables 0 in
    let last = c.last_to_stay-last.result in
    let same = c.level-tables.ensures in
    let n = c.in_ok-oldest.oldest in
    let stay = subst (λ (us : List Table). IsLastToStay target rs us us last) same
    c.last_to_stay-last.ensures in
    let first = subst (λ (us : List Table). IsFirstAbove last us us (Some n)) same
    c.in_ok-oldest.ensures in
    let few : length (newest c.from.result c.level-tables.result.now) < 2 =
    omega (arith, c.newest_count.ensures.count, c.if-newest_count-lt2.true) in
    let few_is = subst (λ (us : List Table). length (newest n us) < 2) same
    (subst (λ m. length (newest m c.level-tables.result.now) < 2) c.from.ensures few) in
    λ crowded. few_above target rs ts last n stay first few_is

pub returns : goal.returns
returns g c =
    let target = c.args.target_size in
    let rs = c.args.live.now in
    let ts = level_in c.args.version.now.tables 0 in
    let last = c.last_to_stay-last.result in
    let same = c.level-tables.ensures in
    let n = c.in_ok-oldest.oldest in
    let stay = subst (λ (us : List Table). IsLastToStay target rs us us last) same
    c.last_to_stay-last.ensures in
    let first = subst (λ (us : List Table). IsFirstAbove last us us (Some n)) same
    c.in_ok-oldest.ensures in
    let two : 2 ≤ length (newest c.from.result c.level-tables.result.now) =
    omega (arith, c.newest_count.ensures.count, c.if-newest_count-lt2.false) in
    let two_is = subst (λ (us : List Table). 2 ≤ length (newest n us)) same
    (subst (λ m. 2 ≤ length (newest m c.level-tables.result.now)) c.from.ensures two) in
    record {
      crowded = subst (IsCrowded target rs) same
          (c.is_crowded.ensures.0 (cc c.if-not-is_crowded.false));
      oldest = first.0.0;
      here = first.0.1;
      its = first.0.2;
      can = can_from target rs ts last n stay first two_is;
      least = least_from target rs ts last n stay first;
    }
