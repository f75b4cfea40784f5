use Rattle.std.proofs.Common.{◌≡◌, ℕ, List, take, drop, sym, ap, ◌∙◌}
use Rattle.lsm_codec.specs.Crc.{register_after}
use Rattle.lsm_codec.proofs.WordLaws.{IsWord, four_words}
use Rattle.lsm_codec.proofs.stridewise.read.Goals as goal

at : (text bytes : List ℕ) (word : ℕ) → bytes ≡ text → IsWord text word → IsWord bytes word
at text bytes word e h register = ap (register_after register) e ∙ h register

pub returns : goal.returns
returns c register =
    let block = c.args.block.now in
    four_words block c.word.result c.word-2.result c.word-3.result c.word-4.result register
    (at _ _ _ (sym c.split_at.ensures.front) c.word.ensures)
    (at _ _ _ (sym (c.split_at-2.ensures.front ∙ ap (take 8) c.split_at.ensures.back)) c.word-2.ensures)
    (at _ _ _ (sym (c.split_at-3.ensures.front ∙ ap (take 8) (c.split_at-2.ensures.back ∙ ap (drop 8) c.split_at.ensures.back))) c.word-3.ensures)
    (at _ _ _ (sym (c.split_at-3.ensures.back ∙ ap (drop 8) (c.split_at-2.ensures.back ∙ ap (drop 8) c.split_at.ensures.back))) c.word-4.ensures)
