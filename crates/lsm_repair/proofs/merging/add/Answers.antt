use Rattle.std.proofs.Common.{◌≡◌, true, false, ◌∙◌, inr, refl, subst, sym}
use Rattle.std.specs.Ordering.{is_lt}
use Rattle.lsm_codec.specs.Entries.{internal_key}
use Rattle.lsm_codec.specs.Keys.{InternalKey, key_cmp}
use Rattle.lsm_codec.proofs.CallerLemmas.{key_from_test, test_from_key}
use Rattle.lsm_repair.proofs.MergeLaws.{one_entry, one_key}
use Rattle.lsm_repair.proofs.merging.add.Goals as goal

pub returns-then-eq-clause-added : goal.returns-then-eq-clause-added
returns-then-eq-clause-added c =
    let top = internal_key c.args.top.now.entry in
    let not_less =
    subst (λ (k : InternalKey). is_lt (key_cmp top k) ≡ false) c.key-key.ensures
    (sym (c.comes_last-later.ensures.later top c.requires.top.key) ∙ c.if-later.false) in
    let keys = one_key c.args.top.now c.args.entry.now not_less c.requires.order in
    let values =
    sym c.value-before.ensures
    ∙ key_from_test c.value-before.result.now c.value-value.result.now
    (sym c.eq.ensures ∙ c.if-eq.true)
    ∙ c.value-value.ensures in
    inr (one_entry c.args.top.now.entry c.args.entry.now.entry keys values, refl)

pub returns-clause-refused : goal.returns-clause-refused
returns-clause-refused c =
    let top = internal_key c.args.top.now.entry in
    let not_less =
    subst (λ (k : InternalKey). is_lt (key_cmp top k) ≡ false) c.key-key.ensures
    (sym (c.comes_last-later.ensures.later top c.requires.top.key) ∙ c.if-later.false) in
    let keys = one_key c.args.top.now c.args.entry.now not_less c.requires.order in
    inr (inr (
      keys,
      (λ same.
          let bad : true ≡ false =
          sym (test_from_key c.value-before.result.now c.value-value.result.now
          (c.value-before.ensures ∙ same ∙ sym c.value-value.ensures))
          ∙ sym c.eq.ensures ∙ c.if-eq.false in
          absurd (cc bad)),
      rw (c.number-first.ensures, c.number-second.ensures) refl,
    ))
