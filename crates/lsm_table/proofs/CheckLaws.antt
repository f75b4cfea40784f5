-- What a file was judged to be.
use Rattle.std.proofs.Common.{◌≡◌, ℕ, Bool, true, false, List, Result, Ok, Err, refl, sym, ap, ◌∙◌}
use Rattle.lsm_codec.specs.Entries.{Entry}
use Rattle.lsm_codec.proofs.CallerLemmas.{IsBytes}
use Rattle.lsm_table.specs.declared.table_fault.TableFault.{TableFault}
use Rattle.lsm_table.specs.declared.handle.Handle.{Handle}
use Rattle.lsm_table.specs.declared.footer.Footer.{Footer}
use Rattle.lsm_table.specs.Reading.{settled, is_memory, FailsUnless, Fails}
use Rattle.lsm_table.specs.Table.{IsTable}
use Rattle.lsm_table.specs.TableReading.{table_at}
use Rattle.lsm_table.specs.HeldTable.{entries_in, HeldTable}
use Rattle.lsm_table.specs.OpenTable.{IsOpened}
use Rattle.lsm_table.proofs.ReadingLaws.{ok_is}
use Rattle.lsm_table.proofs.FooterLaws.{footer_again}
use Rattle.lsm_table.proofs.TableLaws.{table_takes}
use Rattle.lsm_table.proofs.HeldTableLaws.{entries_in-is}
use Rattle.lsm_table.proofs.JudgeLaws.{well}

settled_well : (r : Result (List Entry) TableFault) → settled r ≡ well → (es : List Entry) × (r ≡ Ok es)
settled_well (Ok es) h = (es, refl)
settled_well (Err fault) h = absurd cc

-- what a file reads as that was judged well
pub reads_well : (file : List ℕ) → settled (table_at file) ≡ well → table_at file ≡ Ok (entries_in file)
reads_well file h =
    let s = settled_well (table_at file) h in
    s.1 ∙ ap (λ (es : List Entry). Ok es) (sym (entries_in-is file s.0 s.1))

pub table_well : (file : List ℕ) → IsBytes file → settled (table_at file) ≡ well → IsTable file (entries_in file)
table_well file fits h = table_takes file (entries_in file) fits (reads_well file h)

pub held_well : (file : List ℕ) (index : Handle) → IsBytes file → settled (table_at file) ≡ well → IsOpened file index → HeldTable file index
held_well file index fits h o =
    let t = table_well file fits h in
    let same : t.footer ≡ o.footer = ok_is t.footer o.footer (sym (footer_again file t.body t.footer_text t.footer t.footed t.bytes_are) ∙ o.footed) in
    record { table = t; index_is = ap (λ (x : Footer). x.index) same ∙ o.index_is }

unless_whole : (memory : Bool) (fault : TableFault) (r : Result (List Entry) TableFault) → FailsUnless memory fault (settled r) → FailsUnless memory fault r
unless_whole true fault r h = tt
unless_whole false fault (Ok es) h = absurd cc
unless_whole false fault (Err e) h = let same : e ≡ fault = cc in ap (λ (x : TableFault). Err x) same

-- the fault of the whole file
pub fails_whole : (fault : TableFault) (file : List ℕ) → Fails fault (settled (table_at file)) → Fails fault (table_at file)
fails_whole fault file h = unless_whole (is_memory fault) fault (table_at file) h
