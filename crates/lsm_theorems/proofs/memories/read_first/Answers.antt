use Rattle.std.proofs.Common.{◌≡◌, ℕ, subst}
use Rattle.std.specs.Prelude.{IfOk, None}
use Rattle.std.specs.Option.{option_map}
use Rattle.lsm_codec.specs.Entries.{answer}
use Rattle.lsm_state.specs.Held.{Held}
use Rattle.lsm_state.specs.Reading.{IsSequence}
use Rattle.lsm_theorems.proofs.ReadLaws.{all_so}
use Rattle.lsm_theorems.proofs.memories.read_first.Goals as goal

pub returns-clause-read : goal.returns-clause-read
returns-clause-read g c =
    let was : Held = c.args.state.now in
    let read = subst (λ (h : Held). IfOk c.get-value.result (λ v. (seq : ℕ) × IsSequence h None seq × (g.S.Shelf.honest → option_map (λ b. b.items) v ≡ answer h.history c.args.user.now seq)))
    c.remember-now.ensures.same c.get-value.ensures.history in
    all_so g.S.Shelf.honest c.get-value.result (λ v. option_map (λ b. b.items) v) c.remember-now.result was.history c.args.user.now was.slots.version.last
    c.remember-now.ensures.seen (λ fair. (c.law.ensures.agrees fair).upto) read
