use Rattle.std.proofs.Common.{◌≡◌, ◌+◌, ◌++◌, ◌/◌, ◌%◌, ◌^◌, ◌<◌, ◌∙◌, ℕ, List, [], ◌∷◌, decimal, ap, sym, append_assoc, arith, rules}
use Rattle.std.proofs.lemmas.Fmt.{decimal_step_wide}
use Rattle.lsm_cmd_levels.proofs.lines.+push_decimal.Goals as goal

pub returns : goal.returns
returns t c =
    let n = c.args.n in
    let front : List ℕ = c.args.out.now.items in
    let digit : List ℕ = (48 + n % 10) ∷ [] in
    let small : n < 2 ^ 128 = search rules in
    let high : c.push_decimal.new.out.items ≡ front ++ decimal (n / 10) = search rules in
    let pushed : c.push-2.new.self.items ≡ c.push_decimal.new.out.items ++ digit = search rules in
    pushed ∙ ap (λ (xs : List ℕ). xs ++ digit) high ∙ append_assoc front (decimal (n / 10)) digit
    ∙ ap (λ (xs : List ℕ). front ++ xs) (sym (decimal_step_wide n (search rules) (omega (arith, small))))
