use Rattle.std.proofs.Common.{◌≡◌, Some, sym, ◌∙◌, rules}
use Rattle.lsm_text.specs.EntryReading.{bytes_at}
use Rattle.lsm_text.proofs.WordLaws.{bytes_takes, key_again}
use Rattle.lsm_text.proofs.words.read_hex.Goals as goal

pub returns-then-branch-clause-only : goal.returns-then-branch-clause-only
returns-then-branch-clause-only c =
    let reads = rw c.if-branch.true at c.in_ok-read_bytes.ensures in
    rw c.of.ensures (bytes_takes _ c.args.word.now c.read_bytes.new.out.items reads).0

pub returns-then-branch-clause-found : goal.returns-then-branch-clause-found
returns-then-branch-clause-found c = λ key is.
    let reads = rw c.if-branch.true at c.in_ok-read_bytes.ensures in
    let again : bytes_at 18446744073709551615 c.args.word.now ≡ Some key = key_again _ key (search rules) (search rules) in
    rw c.of.ensures (sym reads ∙ again)

pub returns-clause-found : goal.returns-clause-found
returns-clause-found c = λ key is.
    let reads = rw c.if-branch.false at c.in_ok-read_bytes.ensures in
    let again : bytes_at 18446744073709551615 c.args.word.now ≡ Some key = key_again _ key (search rules) (search rules) in
    sym reads ∙ again
