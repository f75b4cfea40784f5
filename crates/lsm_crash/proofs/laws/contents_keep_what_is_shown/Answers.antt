use Rattle.lsm_crash.proofs.Lasting.{contents_shown, recovered_comes}
use Rattle.lsm_crash.proofs.laws.contents_keep_what_is_shown.Goals as goal

pub returns : goal.returns
returns g c = λ folder h shape rest d keeps small r current its named.
    record {
      current = current;
      manifest = its;
      images =
          contents_shown (g.C.Contents.contents folder) d shape
          (keeps h.number h.bytes shape small current its (recovered_comes h shape rest r)) named;
    }
