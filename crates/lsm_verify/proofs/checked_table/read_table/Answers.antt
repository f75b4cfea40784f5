use Rattle.std.proofs.Common.{◌≡◌, rules, length, refl, sym, ◌∙◌, ap, subst, List}
use Rattle.lsm_codec.specs.Entries.{Entry}
use Rattle.lsm_table.specs.HeldTable.{entries_in}
use Rattle.lsm_verify.specs.CheckedFiles.{IsImageOf, IsSpanned}
use Rattle.lsm_verify.specs.Settled.{AreSequencesOf}
use Rattle.lsm_version.proofs.CallerLemmas.{table_ascends}
use Rattle.lsm_verify.proofs.CheckedFiles.{held_as, is_table, image_says, image_not}
use Rattle.lsm_verify.proofs.checked_table.read_table.Goals as goal

pub sequences_in-requires : goal.sequences_in-requires
sequences_in-requires g c = table_ascends c.in-Ok.loaded.1.items c.in-Ok-check.table c.in-Ok-check.ensures.found

pub returns-in-Ok-Some-clause-image : goal.returns-in-Ok-Some-clause-image
returns-in-Ok-Some-clause-image g c =
    let bytes = c.in-Ok.loaded.1.items in
    let from = c.in-Ok.ensures.receipt in
    let long : c.len-size.result ≡ length bytes = search rules in
    let judged : (c.len-size.result ≡ c.args.file.now.size) × IsSpanned c.args.last c.args.file.now.smallest c.args.file.now.largest c.in-Ok-check.table × AreSequencesOf c.in-Ok-check.table c.in-Ok-Some.sequences =
    rw c.in-Ok-Some.field-0-is at c.in-Ok-Some.ensures in (
      subst (IsImageOf c.args.last c.args.file.now) (sym from.1) (image_says c.args.last c.args.file.now bytes c.in-Ok-check.table c.len-size.result c.in-Ok-check.ensures.found long judged.0 judged.1),
      subst (λ (es : List Entry). AreSequencesOf es c.in-Ok-Some.sequences) (held_as bytes c.in-Ok-check.table c.in-Ok-check.ensures.found ∙ ap entries_in (sym from.1)) judged.2,
    )

pub returns-in-Ok-None-clause-refused : goal.returns-in-Ok-None-clause-refused
returns-in-Ok-None-clause-refused g c =
    let bytes = c.in-Ok.loaded.1.items in
    let from = c.in-Ok.ensures.receipt in
    let long : c.len-size.result ≡ length bytes = search rules in
    let fails : (c.len-size.result ≡ c.args.file.now.size) × IsSpanned c.args.last c.args.file.now.smallest c.args.file.now.largest c.in-Ok-check.table → ⊥ = rw c.in-Ok-None.field-0-is at c.in-Ok-None.ensures in (
      refl,
      (
        bytes,
        (c.in-Ok.loaded.0, from.2, from.0, from.1),
        is_table bytes c.in-Ok-check.table c.in-Ok-check.ensures.found,
        image_not c.args.last c.args.file.now bytes c.in-Ok-check.table c.len-size.result c.in-Ok-check.ensures.found long fails,
      ),
    )
