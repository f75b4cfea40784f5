use Rattle.std.proofs.Common.{◌≡◌, true, false, sym, ap, ◌∙◌, subst}
use Rattle.lsm_codec.specs.Lists.{Has}
use Rattle.lsm_codec.proofs.CallerLemmas.{key_from_test, test_from_key}
use Rattle.lsm_batch.specs.declared.write.Write.{Write}
use Rattle.lsm_batch.proofs.LastLaws.{ends_in, one_end}
use Rattle.lsm_batch.proofs.last_writes.ends_with.Goals as goal

pub returns-in-Some-clause-yes : goal.returns-in-Some-clause-yes
returns-in-Some-clause-yes c = λ t.
    let w = c.in-Some.last.now in
    let key = sym c.as_slice.ensures ∙ key_from_test c.as_slice.result.now c.args.key.now (sym c.eq.ensures ∙ t) in
    (w, subst (λ l. Has l w) c.writes.ensures (ends_in c.writes.result.now w c.in-Some.ensures.value), key)

pub returns-in-Some-clause-no : goal.returns-in-Some-clause-no
returns-in-Some-clause-no c = λ f front w is same.
    let last = one_end c.writes.result.now front c.in-Some.last.now w c.in-Some.ensures.value (c.writes.ensures ∙ is) in
    let key = c.as_slice.ensures ∙ ap (λ (u : Write). u.key) last ∙ same in
    let bad : true ≡ false = sym (c.eq.ensures ∙ test_from_key c.as_slice.result.now c.args.key.now key) ∙ f in
    absurd (cc bad)
