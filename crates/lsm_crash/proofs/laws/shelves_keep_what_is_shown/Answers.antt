use Rattle.lsm_crash.proofs.Lasting.{recovered_comes, shelf_kept}
use Rattle.lsm_crash.proofs.laws.shelves_keep_what_is_shown.Goals as goal

pub returns : goal.returns
returns g c = λ place h shape rest d keeps small r f.
    shelf_kept (g.S.Finding.keeps place) d shape (keeps h.number h.bytes shape small f.current
    f.manifest (recovered_comes h shape rest r)) f.images
