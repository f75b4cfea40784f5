use Rattle.std.proofs.Common.{◌≡◌, codes, false, rules}
use Rattle.std.specs.Str.{bytes_eq}
use Rattle.lsm_text.specs.SyntaxFault.{IsCutOff}
use Rattle.lsm_text.proofs.SyntaxFaultLaws.{at_byte, at_end, no_word, fault_at_byte, fault_at_end, whole_word}
use Rattle.lsm_text.proofs.SpellingLaws.{no_dot}
use Rattle.lsm_text.proofs.syntax_fault.syntax_fault_in.Goals as goal

pub returns-in-len1-up-clause-place : goal.returns-in-len1-up-clause-place
returns-in-len1-up-clause-place c =
    fault_at_byte c.args.form c.args.word.now c.past-rest.result.now c.past-rest.ensures c.in-len1-up.len_at_least

pub returns-in-len1-up-clause-only : goal.returns-in-len1-up-clause-only
returns-in-len1-up-clause-only c = λ bytes h.
    let other : bytes_eq c.args.word.now (codes ".") ≡ false = search rules in
    no_word c.args.form c.args.word.now c.past-rest.result.now bytes _ c.past-rest.ensures (no_dot c.args.word.now other)
    (at_byte c.args.form c.past-rest.ensures.front c.past-rest.result.now c.in-len1-up.len_at_least) h

pub returns-then-not-is_cut_off-clause-none : goal.returns-then-not-is_cut_off-clause-none
returns-then-not-is_cut_off-clause-none c =
    let other : bytes_eq c.args.word.now (codes ".") ≡ false = search rules in
    let fits : IsCutOff c.args.form c.args.word.now → ⊥ = λ cut. let yes = c.is_cut_off.ensures.no cut in search rules in
    whole_word c.args.form c.args.word.now c.past-rest.result.now c.past-rest.ensures (no_dot c.args.word.now other) (search rules) fits

pub returns-clause-place : goal.returns-clause-place
returns-clause-place c =
    let cut : IsCutOff c.args.form c.args.word.now = c.is_cut_off.ensures.yes (search rules) in
    fault_at_end c.args.form c.args.word.now c.past-rest.result.now c.past-rest.ensures (search rules) cut

pub returns-clause-only : goal.returns-clause-only
returns-clause-only c = λ bytes h.
    let other : bytes_eq c.args.word.now (codes ".") ≡ false = search rules in
    let cut : IsCutOff c.args.form c.args.word.now = c.is_cut_off.ensures.yes (search rules) in
    no_word c.args.form c.args.word.now c.past-rest.result.now bytes _ c.past-rest.ensures (no_dot c.args.word.now other)
    (at_end c.args.form c.args.word.now c.past-rest.result.now c.past-rest.ensures (search rules) cut) h
