use Rattle.lsm_storage.proofs.Tables.{tables_other, tables_push}
use Rattle.lsm_storage.proofs.file.listing.add_table.Goals as goal

-- one number more
pub returns-in_ok-push-in-Some : goal.returns-in_ok-push-in-Some
returns-in_ok-push-in-Some c = λ names tables. rw c.in_ok-push-in-Some.ensures.items (tables_push names c.args.numbers.now.items c.args.name.now c.in-Some.number (rw c.in-Some.is at c.in_ok-found.ensures) tables)

-- or none
pub returns-in-None : goal.returns-in-None
returns-in-None c = λ names tables. tables_other names c.args.numbers.now.items c.args.name.now (rw c.in-None.is at c.in_ok-found.ensures) tables
