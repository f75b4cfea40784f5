use Rattle.std.proofs.Common.{None, string_bytes, sym, ap, ◌∙◌, cond}
use Rattle.std.specs.BTreeMap.{get_by_text}
use Rattle.std.specs.Str.{bytes_eq}
use Rattle.std.proofs.lemmas.Map.Text.{btree_map_updates_text}
use Rattle.lsm_folder.proofs.directory.Directory.rename.Goals as goal

pub returns-clause-names : goal.returns-clause-names
returns-clause-names c q =
    let put = btree_map_updates_text (string_bytes c.args.to) c.args.self.now.names c.insert.new.self _ c.in_ok-insert.ensures.updates in
    let taken = btree_map_updates_text c.args.from.now c.insert.new.self c.remove.new.self _ c.remove.ensures.updates in
    taken q ∙ ap (λ o. cond (bytes_eq c.args.from.now q) None o) (put q ∙ ap (λ w. cond (bytes_eq (string_bytes c.args.to) q) w (get_by_text c.args.self.now.names q)) (sym c.requires))
