use Rattle.lsm_crash.proofs.Lasting.{images_shown, recovered_comes}
use Rattle.lsm_crash.proofs.laws.known_tables_keep_what_is_shown.Goals as goal

pub returns : goal.returns
returns g c = λ h shape rest d keeps small r current its named.
    record {
      current = current;
      manifest = its;
      images = λ file image k size is.
          images_shown g.K.KnownTables.images d shape
          (keeps h.number h.bytes shape small current its (recovered_comes h shape rest r)) named
          file image k is;
    }
