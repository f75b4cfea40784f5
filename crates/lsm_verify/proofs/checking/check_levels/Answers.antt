use Rattle.std.proofs.Common.{◌≡◌, rules, List, ℕ, length, map, sym, ◌∙◌, ap, subst}
use Rattle.std.proofs.lemmas.List.{length-map}
use Rattle.std.proofs.lemmas.Result.{err_from_is_err_and}
use Rattle.std.specs.List.Sorted.{IsNonDecreasing}
use Rattle.lsm_codec.specs.Lists.{Has}
use Rattle.lsm_shelf.specs.Asked.{Load}
use Rattle.lsm_table.specs.Registry.{Table}
use Rattle.lsm_verify.specs.CheckRefusal.{AreTablesOf, IsAgeRefusal}
use Rattle.lsm_verify.specs.LevelLayouts.{AreLevelsWhole, IsLayoutRefusal, LieInOrder}
use Rattle.lsm_verify.specs.Loading.{placed_levels}
use Rattle.lsm_query.specs.Runs.{AreMergeable}
use Rattle.lsm_verify.specs.Settled.{AreLevelSequences, AreUnsettled, DeeperRise, KeepsAge}
use Rattle.lsm_version.specs.Versions.{files_from}
use Rattle.lsm_verify.proofs.AskedOf.{files_asked, layouts_asked, look_asked, numbers_asked}
use Rattle.lsm_verify.proofs.LevelReads.{same_length}
use Rattle.lsm_verify.proofs.Judged.{length-placed, placed_whole, sound_version, sound_tables, judged_mergeable, judged_rise, placed_fit}
use Rattle.lsm_verify.proofs.Counts.{levels_counted}
use Rattle.lsm_verify.specs.Counts.{counted}
use Rattle.lsm_verify.proofs.Refused.{files_refused, layout_refused, ages_refused}
use Rattle.lsm_verify.proofs.checking.check_levels.Goals as goal

pub judge_layouts-requires-clause-seven : goal.judge_layouts-requires-clause-seven
judge_layouts-requires-clause-seven g c κs within =
    let r = c.in_ok-levels.ensures.read in
    let shape : length c.args.shape.now.levels ≡ 7 = search rules in
    let tables : length (map (λ l. l.items) c.in_ok-levels.levels.items) ≡ 7 =
    ap length r.placed ∙ length-placed r.read ∙ same_length c.args.shape.now.last c.args.shape.now.levels r.read r.are ∙ shape in
    ap length c.deref-3.ensures.value ∙ sym (length-map c.in_ok-levels.levels.items (λ l. l.items)) ∙ tables

pub judge_layouts-requires-clause-whole : goal.judge_layouts-requires-clause-whole
judge_layouts-requires-clause-whole g c κs within =
    let r = c.in_ok-levels.ensures.read in
    subst AreLevelsWhole (sym (ap (map (λ l. l.items)) c.deref-3.ensures.value ∙ r.placed)) (placed_whole c.args.shape.now.last c.args.shape.now.levels r.read r.are)

pub unsettled_files-requires-clause-beside : goal.unsettled_files-requires-clause-beside
unsettled_files-requires-clause-beside g c κs within =
    subst (λ ts. AreLevelSequences (map (λ l. l.items) ts) (map (λ l. l.items) c.deref-6.result.now)) (sym c.deref-5.ensures.value)
    (subst (λ ss. AreLevelSequences (map (λ l. l.items) c.in_ok-levels.levels.items) (map (λ l. l.items) ss)) (sym c.deref-6.ensures.value) c.in_ok-levels.ensures.read.sequences)

pub unsettled_files-requires-clause-rising : goal.unsettled_files-requires-clause-rising
unsettled_files-requires-clause-rising g c κs within =
    let r = c.in_ok-levels.ensures.read in
    let shape : length c.args.shape.now.levels ≡ 7 = search rules in
    let apart : LieInOrder (placed_levels r.read) = subst LieInOrder (ap (map (λ l. l.items)) c.deref-3.ensures.value ∙ r.placed) c.in_ok-judge_layouts.ensures.ok in
    subst DeeperRise (sym (ap (map (λ l. l.items)) c.deref-5.ensures.value ∙ r.placed))
    (judged_rise c.args.shape.now.last c.args.shape.now.levels r.read (map (λ l. l.items) c.in_ok-levels.levels.items) shape r.are c.in_ok-judge_numbers.ensures.ok apart r.placed c.in_ok-levels.ensures.order)

pub judge_ages-requires-clause-seven : goal.judge_ages-requires-clause-seven
judge_ages-requires-clause-seven g c κs within =
    let r = c.in_ok-levels.ensures.read in
    let shape : length c.args.shape.now.levels ≡ 7 = search rules in
    ap length c.deref-7.ensures.value ∙ sym (length-map c.in_ok-levels.levels.items (λ l. l.items)) ∙ ap length r.placed ∙ length-placed r.read
    ∙ same_length c.args.shape.now.last c.args.shape.now.levels r.read r.are ∙ shape

pub judge_ages-requires-clause-mergeable : goal.judge_ages-requires-clause-mergeable
judge_ages-requires-clause-mergeable g c κs within =
    let r = c.in_ok-levels.ensures.read in
    let shape : length c.args.shape.now.levels ≡ 7 = search rules in
    let apart : LieInOrder (placed_levels r.read) = subst LieInOrder (ap (map (λ l. l.items)) c.deref-3.ensures.value ∙ r.placed) c.in_ok-judge_layouts.ensures.ok in
    subst AreMergeable (ap (map (λ l. l.items)) (sym c.deref-7.ensures.value))
    (judged_mergeable c.args.shape.now.last c.args.shape.now.levels r.read (map (λ l. l.items) c.in_ok-levels.levels.items) shape r.are c.in_ok-judge_numbers.ensures.ok apart r.placed c.in_ok-levels.ensures.order)

pub judge_ages-requires-clause-fits : goal.judge_ages-requires-clause-fits
judge_ages-requires-clause-fits g c κs within = λ F h.
    let r = c.in_ok-levels.ensures.read in
    placed_fit c.args.shape.now.last c.args.shape.now.levels r.read (map (λ l. l.items) c.in_ok-levels.levels.items) r.are r.placed F
    (subst (λ ts. Has (files_from 0 (map (λ l. l.items) ts)) F) c.deref-7.ensures.value h)

pub judge_ages-requires-clause-ascending : goal.judge_ages-requires-clause-ascending
judge_ages-requires-clause-ascending g c κs within = subst IsNonDecreasing (sym c.deref-8.ensures.value) c.in_ok-unsettled.ensures.ascending

pub judge_ages-requires-clause-unsettled : goal.judge_ages-requires-clause-unsettled
judge_ages-requires-clause-unsettled g c κs within =
    subst (λ ts. AreUnsettled (files_from 0 (map (λ l. l.items) ts)) c.deref-8.result.now) (sym c.deref-7.ensures.value)
    (subst (λ (ns : List ℕ). AreUnsettled (files_from 0 (map (λ l. l.items) c.in_ok-levels.levels.items)) ns) (sym c.deref-8.ensures.value)
    (subst (λ ts. AreUnsettled (files_from 0 (map (λ l. l.items) ts)) c.in_ok-unsettled.unsettled.items) c.deref-5.ensures.value c.in_ok-unsettled.ensures.unsettled))

pub returns-in_err-levels-clause-refused : goal.returns-in_err-levels-clause-refused
returns-in_err-levels-clause-refused g c =
    let Stored : ℕ → List ℕ → Type 0 = λ number image. (r : g.row.S-Receipt.Denot) × g.S.Shelf.is_of g.N.Naming.place r × (g.S.Receipt.TableReceipt.number r ≡ number) × (g.S.Receipt.TableReceipt.image r ≡ image) in
    let p = err_from_is_err_and c.from_residual-in_err-levels.result c.from_residual-in_err-levels.ensures.1 in
    rw (p.1, p.2) (files_refused Stored (λ number. g.S.Shelf.refuses g.N.Naming.place (Load number)) g.S.Shelf.honest c.args.shape.now c.in_err-levels.field-0.0 c.in_ok-judge_numbers.ensures.ok c.in_err-levels.ensures.refused)

pub returns-in_err-judge_layouts-clause-refused : goal.returns-in_err-judge_layouts-clause-refused
returns-in_err-judge_layouts-clause-refused g c =
    let Stored : ℕ → List ℕ → Type 0 = λ number image. (r : g.row.S-Receipt.Denot) × g.S.Shelf.is_of g.N.Naming.place r × (g.S.Receipt.TableReceipt.number r ≡ number) × (g.S.Receipt.TableReceipt.image r ≡ image) in
    let r = c.in_ok-levels.ensures.read in
    let fault = c.in_err-judge_layouts.field-0.0 in
    let tables : List (List Table) = map (λ l. l.items) c.in_ok-levels.levels.items in
    let are : AreTablesOf Stored c.args.shape.now tables = record { numbers = c.in_ok-judge_numbers.ensures.ok; read = r.read; files = r.are; stored = r.stored; placed = r.placed; order = c.in_ok-levels.ensures.order } in
    let refused : IsLayoutRefusal tables fault =
    subst (λ (ls : List (List Table)). IsLayoutRefusal ls fault) (ap (map (λ l. l.items)) c.deref-3.ensures.value) c.in_err-judge_layouts.ensures.refused in
    let p = err_from_is_err_and c.from_residual-in_err-judge_layouts.result c.from_residual-in_err-judge_layouts.ensures.1 in
    rw (p.1, p.2) (layout_refused Stored (λ number. g.S.Shelf.refuses g.N.Naming.place (Load number)) g.S.Shelf.honest c.args.shape.now tables fault are refused)

pub returns-in_err-judge_ages-clause-refused : goal.returns-in_err-judge_ages-clause-refused
returns-in_err-judge_ages-clause-refused g c =
    let Stored : ℕ → List ℕ → Type 0 = λ number image. (r : g.row.S-Receipt.Denot) × g.S.Shelf.is_of g.N.Naming.place r × (g.S.Receipt.TableReceipt.number r ≡ number) × (g.S.Receipt.TableReceipt.image r ≡ image) in
    let r = c.in_ok-levels.ensures.read in
    let fault = c.in_err-judge_ages.field-0.0 in
    let tables : List (List Table) = map (λ l. l.items) c.in_ok-levels.levels.items in
    let are : AreTablesOf Stored c.args.shape.now tables = record { numbers = c.in_ok-judge_numbers.ensures.ok; read = r.read; files = r.are; stored = r.stored; placed = r.placed; order = c.in_ok-levels.ensures.order } in
    let apart : LieInOrder tables = subst LieInOrder (ap (map (λ l. l.items)) c.deref-3.ensures.value) c.in_ok-judge_layouts.ensures.ok in
    let refused : IsAgeRefusal g.S.Shelf.honest (files_from 0 tables) fault =
    subst (λ (ls : List (List Table)). IsAgeRefusal g.S.Shelf.honest (files_from 0 ls) fault) (ap (map (λ l. l.items)) c.deref-7.ensures.value) c.in_err-judge_ages.ensures.refused in
    let p = err_from_is_err_and c.from_residual-in_err-judge_ages.result c.from_residual-in_err-judge_ages.ensures.1 in
    rw (p.1, p.2) (ages_refused Stored (λ number. g.S.Shelf.refuses g.N.Naming.place (Load number)) g.S.Shelf.honest c.args.shape.now tables fault are apart refused)

pub returns-clause-tables : goal.returns-clause-tables
returns-clause-tables g c =
    let r = c.in_ok-levels.ensures.read in
    record { numbers = c.in_ok-judge_numbers.ensures.ok; read = r.read; files = r.are; stored = r.stored; placed = r.placed; order = c.in_ok-levels.ensures.order }

pub returns-clause-seven : goal.returns-clause-seven
returns-clause-seven g c =
    let r = c.in_ok-levels.ensures.read in
    let shape : length c.args.shape.now.levels ≡ 7 = search rules in
    sym (length-map c.in_ok-levels.levels.items (λ l. l.items)) ∙ ap length r.placed ∙ length-placed r.read ∙ same_length c.args.shape.now.last c.args.shape.now.levels r.read r.are ∙ shape

pub returns-clause-judged : goal.returns-clause-judged
returns-clause-judged g c pointers ages =
    let r = c.in_ok-levels.ensures.read in
    let last = c.args.shape.now.last in
    let levels = c.args.shape.now.levels in
    let tables : List (List Table) = map (λ l. l.items) c.in_ok-levels.levels.items in
    let shape : length levels ≡ 7 = search rules in
    let apart : LieInOrder (placed_levels r.read) = subst LieInOrder (ap (map (λ l. l.items)) c.deref-3.ensures.value ∙ r.placed) c.in_ok-judge_layouts.ensures.ok in
    sound_tables last tables (placed_levels r.read) pointers r.placed
    (sound_version last levels r.read pointers shape r.are c.in_ok-judge_numbers.ensures.ok apart (subst (λ (ls : List (List Table)). KeepsAge (files_from 0 ls)) r.placed ages))

pub returns-clause-ages : goal.returns-clause-ages
returns-clause-ages g c = λ h. subst (λ ts. KeepsAge (files_from 0 (map (λ l. l.items) ts))) c.deref-7.ensures.value (c.in_ok-judge_ages.ensures.ok h)

pub returns-clause-entries : goal.returns-clause-entries
returns-clause-entries g c =
    let counts : c.in_ok-counts.counts.items ≡ map counted (map (λ l. l.items) c.in_ok-levels.sequences.items) =
    c.in_ok-counts.ensures ∙ ap (λ ss. map counted (map (λ l. l.items) ss)) c.deref-9.ensures.value in
    counts ∙ levels_counted (map (λ l. l.items) c.in_ok-levels.levels.items) (map (λ l. l.items) c.in_ok-levels.sequences.items) c.in_ok-levels.ensures.read.sequences

pub returns-in_err-judge_numbers-clause-asked : goal.returns-in_err-judge_numbers-clause-asked
returns-in_err-judge_numbers-clause-asked g c =
    let p = err_from_is_err_and c.from_residual.result c.from_residual.ensures.1 in
    rw (p.1, p.2) (numbers_asked (g.S.Shelf.refuses g.N.Naming.place) _ c.in_err-judge_numbers.field-0.0 c.in_err-judge_numbers.ensures.refused)

pub returns-in_err-levels-clause-asked : goal.returns-in_err-levels-clause-asked
returns-in_err-levels-clause-asked g c =
    let Stored : ℕ → List ℕ → Type 0 = λ number image. (r : g.row.S-Receipt.Denot) × g.S.Shelf.is_of g.N.Naming.place r × (g.S.Receipt.TableReceipt.number r ≡ number) × (g.S.Receipt.TableReceipt.image r ≡ image) in
    let p = err_from_is_err_and c.from_residual-in_err-levels.result c.from_residual-in_err-levels.ensures.1 in
    rw (p.1, p.2) (files_asked (g.S.Shelf.refuses g.N.Naming.place) Stored _ _ c.in_err-levels.field-0.0 c.in_err-levels.ensures.refused)

pub returns-in_err-judge_layouts-clause-asked : goal.returns-in_err-judge_layouts-clause-asked
returns-in_err-judge_layouts-clause-asked g c =
    let p = err_from_is_err_and c.from_residual-in_err-judge_layouts.result c.from_residual-in_err-judge_layouts.ensures.1 in
    rw (p.1, p.2) (layouts_asked (g.S.Shelf.refuses g.N.Naming.place) _ c.in_err-judge_layouts.field-0.0 c.in_err-judge_layouts.ensures.refused)

pub returns-in_err-judge_ages-clause-asked : goal.returns-in_err-judge_ages-clause-asked
returns-in_err-judge_ages-clause-asked g c =
    let p = err_from_is_err_and c.from_residual-in_err-judge_ages.result c.from_residual-in_err-judge_ages.ensures.1 in
    rw (p.1, p.2) (look_asked (g.S.Shelf.refuses g.N.Naming.place) c.in_err-judge_ages.field-0.0 c.in_err-judge_ages.ensures.asked)
