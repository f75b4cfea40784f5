use Rattle.std.proofs.Common.{refl, ◌∙◌, subst, inl, ℕ}
use Rattle.lsm_state.specs.Installing.{IsInstalling}
use Rattle.lsm_script.proofs.Elements.{result_out}
use Rattle.lsm_script.proofs.installing.install.Goals as goal

pub returns-in-Ok : goal.returns-in-Ok
returns-in-Ok g c =
    let out = result_out c.args.results.now.items c.remove-done.new.self.items c.deref.result.now c.in-Some.at c.args.ticket c.remove-done.result c.deref.ensures.value c.in-Some.ensures c.remove-done.ensures.value c.remove-done.ensures.items in
    record {
      reply = inl (
        c.of.result,
        refl,
        record {
          done = c.remove-done.result;
          its = out.0;
          out = out.1;
          may = c.in-Ok.ensures.may;
          installed = c.in-Ok.ensures.installed;
          numbers = c.of.ensures ∙ c.in-Ok.ensures.numbers;
          answers = c.in-Ok.ensures.answers;
          event = subst (λ (t : ℕ). IsInstalling g.S.Shelf.honest c.args.state.now t c.install.new.self) out.0 c.in-Ok.ensures.event;
          counts = c.in-Ok.ensures.counts;
        },
      );
    }
