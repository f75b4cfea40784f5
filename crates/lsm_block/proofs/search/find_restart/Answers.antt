use Rattle.std.proofs.Common.{◌≡◌, ◌+◌, ◌-◌, ◌/◌, ◌<◌, ℕ, true, false, subst, arith, sym, ◌∙◌, inl, inr, refl}
use Rattle.lsm_codec.specs.KeyRef.{key_of}
use Rattle.lsm_block.specs.Seeking.{starts_below, word_of}
use Rattle.lsm_block.proofs.SeekLaws.{low_starts, low_moves, below_read, later_not_below, restart_beyond}
use Rattle.lsm_block.proofs.search.find_restart.Goals as goal

pub loop-low-init : goal.loop-low-init
loop-low-init c = (
  omega arith,
  omega (arith, c.requires),
  λ es p. low_starts (key_of c.args.key.now) c.args.text.now c.args.offsets.now es p,
  λ es p i beyond within. absurd (omega (arith, beyond, within, c.requires)),
  inl refl,
)

pub loop-low-preserved-then-starts_below : goal.loop-low-preserved-then-starts_below
loop-low-preserved-then-starts_below c =
    let key = key_of c.args.key.now in
    let middle = c.loop-low.low + (c.loop-low.high - c.loop-low.low + 1) / 2 in
    let below : starts_below c.args.text.now (word_of c.args.offsets.now middle) key ≡ true =
    subst (λ (n : ℕ). starts_below c.args.text.now n key ≡ true) c.word_at.ensures (sym c.starts_below.ensures ∙ c.if-starts_below.true) in
    let b = below_read key c.args.text.now (word_of c.args.offsets.now middle) below in (
      omega arith,
      c.loop-low.invariant.1,
      λ es p. low_moves key c.args.text.now c.args.offsets.now es middle b.0 b.1 p (omega (arith, c.loop-low.invariant.1)) b.2 b.3,
      c.loop-low.invariant.3,
      inr below,
    )

pub loop-low-preserved : goal.loop-low-preserved
loop-low-preserved c =
    let key = key_of c.args.key.now in
    let middle = c.loop-low.low + (c.loop-low.high - c.loop-low.low + 1) / 2 in
    let above : starts_below c.args.text.now (word_of c.args.offsets.now middle) key ≡ false =
    subst (λ (n : ℕ). starts_below c.args.text.now n key ≡ false) c.word_at.ensures (sym c.starts_below.ensures ∙ c.if-starts_below.false) in (
      omega arith,
      omega (arith, c.loop-low.invariant.1),
      c.loop-low.invariant.2,
      λ es p i beyond within. later_not_below key c.args.text.now c.args.offsets.now es p middle i (omega (arith, beyond)) within above,
      c.loop-low.invariant.4,
    )

pub returns-clause-last : goal.returns-clause-last
returns-clause-last c es p i within beyond =
    let text = c.args.text.now in
    let offsets = c.args.offsets.now in
    let low = c.loop-low.low in
    let further : word_of offsets low < word_of offsets i = subst (λ (n : ℕ). n < word_of offsets i) c.word_at-2.ensures beyond in
    let above = restart_beyond text offsets es p low i (omega (arith, c.loop-low.invariant.0, c.loop-low.invariant.1)) further in
    c.loop-low.invariant.3 es p i (omega (arith, above, c.loop-low-test.false)) within

pub returns-clause-restart : goal.returns-clause-restart
returns-clause-restart c =
    let key = key_of c.args.key.now in
    record {
      index = c.loop-low.low;
      within = omega (arith, c.loop-low.invariant.0, c.loop-low.invariant.1);
      is = sym c.word_at-2.ensures;
      below = elim c.loop-low.invariant.4 [
        | inl first ↦ inl first
        | inr below ↦ inr (subst (λ (n : ℕ). starts_below c.args.text.now n key ≡ true) (sym c.word_at-2.ensures) below)
      ];
    }
