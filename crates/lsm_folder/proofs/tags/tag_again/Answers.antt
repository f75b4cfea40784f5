use Rattle.lsm_folder.proofs.tags.tag_again.Goals as goal

pub returns : goal.returns
returns c = λ i. record { marker = c.args.tag.now.marker; numbers = c.of.ensures i }
