use Rattle.std.proofs.Common.{Some, string_bytes, ap, ◌∙◌}
use Rattle.std.specs.BTreeMap.{get_by_text}
use Rattle.std.specs.Map.{update}
use Rattle.std.specs.Str.{bytes_eq}
use Rattle.std.proofs.lemmas.Map.Text.{btree_map_updates_text}
use Rattle.lsm_folder.proofs.directory.Directory.add.Goals as goal

pub returns-clause-names : goal.returns-clause-names
returns-clause-names c q =
    btree_map_updates_text (string_bytes c.args.name) c.args.self.now.names c.insert.new.self _ c.in_ok-insert.ensures.updates q
    ∙ ap (λ n. update bytes_eq (get_by_text c.args.self.now.names) (string_bytes c.args.name) (Some n) q) c.len-number.ensures
