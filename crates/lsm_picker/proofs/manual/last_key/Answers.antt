use Rattle.std.proofs.Common.{◌≡◌, ℕ, List, arith, inl, inr, sym, subst}
use Rattle.std.proofs.lemmas.Bool.{cases_lt}
use Rattle.lsm_codec.specs.Lists.{Has}
use Rattle.lsm_codec.proofs.CallerLemmas.{user_le_trans}
use Rattle.lsm_table.specs.Registry.{Table}
use Rattle.lsm_version.specs.Versions.{level_in, user_of}
use Rattle.lsm_picker.proofs.manual.last_key.Goals as goal

pub loop-level-preserved : goal.loop-level-preserved
loop-level-preserved g c = λ n lt t has. elim (cases_lt n c.loop-level.level) [
  | inl less ↦ user_le_trans (user_of t.largest) c.loop-level.last.now c.highest-last.result.now (c.loop-level.invariant n less t has) c.highest-last.ensures.above
  | inr ge ↦ (
      let same : n ≡ c.loop-level.level = omega (arith, lt, ge) in
      let here : Has (level_in c.args.version.now.tables c.loop-level.level) t = subst (λ (m : ℕ). Has (level_in c.args.version.now.tables m) t) same has in
      c.highest-last.ensures.each t (subst (λ (ts : List Table). Has ts t) (sym c.level.ensures) here)
      )
]
