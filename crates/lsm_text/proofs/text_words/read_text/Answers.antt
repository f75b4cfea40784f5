use Rattle.std.proofs.Common.{◌≡◌, ◌<◌, ◌++◌, ◌∷◌, [], false, ℕ, List, length, codes, Some, ap, rules}
use Rattle.std.specs.Str.{bytes_eq}
use Rattle.lsm_text.specs.Spelling.{IsPart}
use Rattle.lsm_text.proofs.SpellingLaws.{no_dot, taken_all, taken_more, taken_only, taken_stuck}
use Rattle.lsm_text.proofs.text_words.read_text.Goals as goal

pub returns-in_default-clause-found : goal.returns-in_default-clause-found
returns-in_default-clause-found c = λ bytes h.
    let other : bytes_eq c.args.word.now (codes ".") ≡ false = search rules in
    let none : (b : ℕ) (part after : List ℕ) → c.parts.rest.now ≡ part ++ after → IsPart part b → ⊥ = c.in_default.ensures.none in
    absurd (taken_stuck c.args.word.now c.parts.bytes.items c.parts.rest.now bytes (no_dot c.args.word.now other) c.parts.invariant (search rules) none h)

pub parts-preserved : goal.parts-preserved
parts-preserved c =
    let part = c.in-Some.ensures.some in
    let grown : c.push.new.self.items ≡ c.parts.bytes.items ++ (c.in-Some.byte ∷ []) = search rules in
    rw grown (taken_more c.args.word.now c.parts.bytes.items c.parts.rest.now part.0 c.in-Some.after.now c.in-Some.byte c.parts.invariant part.1 part.2)

pub returns-clause-only : goal.returns-clause-only
returns-clause-only c =
    let other : bytes_eq c.args.word.now (codes ".") ≡ false = search rules in
    let some : 0 < length c.args.word.now = search rules in
    rw c.of-2.ensures (taken_all c.args.word.now c.parts.bytes.items c.parts.rest.now (no_dot c.args.word.now other) some c.parts.invariant (search rules))

pub returns-clause-found : goal.returns-clause-found
returns-clause-found c = λ bytes h.
    let other : bytes_eq c.args.word.now (codes ".") ≡ false = search rules in
    rw c.of-2.ensures (ap Some (taken_only c.args.word.now c.parts.bytes.items c.parts.rest.now bytes (no_dot c.args.word.now other) c.parts.invariant (search rules) h))
