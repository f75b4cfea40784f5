-- What is read as a table whose blocks may be compressed is one, and what is one is read.
use Rattle.std.proofs.Common.{◌≡◌, ℕ, ◌-◌, ◌⊎◌, List, [], length, None, Ok, Err, sym, ap, ◌∙◌, subst}
use Rattle.lsm_codec.specs.Entries.{Entry}
use Rattle.lsm_codec.proofs.CallerLemmas.{IsBytes}
use Rattle.lsm_block.specs.Block.{Ascends}
use Rattle.lsm_block.proofs.CallerLemmas.{IsBytes-take}
use Rattle.lsm_table.specs.declared.table_options.TableOptions.{TableOptions}
use Rattle.lsm_table.specs.Footer.{footer_of, body_of, footer_at}
use Rattle.lsm_table.specs.Table.{concat}
use Rattle.lsm_inflate.specs.declared.inflate_fault.InflateFault.TheVariants.{TooLarge}
use Rattle.lsm_inflate.specs.Reading.{lifted}
use Rattle.lsm_inflate.specs.PackedTable.{IsPackedTable, PackedBlocks}
use Rattle.lsm_inflate.specs.PackedReading.{data_at, index_at, entries_at}
use Rattle.lsm_inflate.proofs.StepLaws.{bind_ok, ok_is, lifted_ok}
use Rattle.lsm_table.proofs.CallerLemmas.{footer_takes, footer_again, ends}
use Rattle.lsm_inflate.proofs.DataLaws.{block_values, there_takes, there_again, data_takes, data_again, one_groups}

pub entries_takes : (options : TableOptions) (bytes : List ℕ) (es : List Entry) → IsBytes bytes → entries_at options bytes ≡ Ok es → IsPackedTable bytes es
unfolding entries_at index_at
entries_takes options bytes es fits e =
    let body = body_of bytes in
    let body_fits = IsBytes-take (length bytes - 48) bytes fits in
    let b0 = bind_ok (index_at bytes) _ es e in
    let index = b0.0 in
    let b1 = bind_ok (lifted (footer_at bytes)) _ index b0.1 in
    let footer = b1.0 in
    let footed = footer_takes bytes footer fits (lifted_ok (footer_at bytes) footer b1.1) in
    let t = there_takes body footer.index index body_fits b1.2 in
    let read = data_takes options index body 0 None [] es body_fits (block_values t.0 index t.3 t.2) b0.2 in
    record {
      body = body;
      footer_text = footer_of bytes;
      footer = footer;
      contents = t.0;
      index = index;
      groups = read.groups;
      bytes_are = footed.parts;
      footed = footed.is;
      held = t.1;
      indexed = t.2;
      blocks = read.blocks;
      apart = read.apart;
      ascends = read.ascends tt;
      entries_are = sym read.is;
    }

-- the part before the footer is bytes
body_fit : (bytes : List ℕ) (es : List Entry) (t : IsPackedTable bytes es) → IsBytes bytes → IsBytes t.body
body_fit bytes es t fits =
    let is = (ends bytes t.body t.footer_text t.footer t.footed t.bytes_are).body_is in
    subst IsBytes is (IsBytes-take (length bytes - 48) bytes fits)

index_again : (bytes : List ℕ) (es : List Entry) (t : IsPackedTable bytes es) → IsBytes bytes → index_at bytes ≡ Ok t.index
unfolding index_at
index_again bytes es t fits =
    let footer = footer_again bytes t.body t.footer_text t.footer t.footed t.bytes_are in
    let body = (ends bytes t.body t.footer_text t.footer t.footed t.bytes_are).body_is in
    let index = there_again t.body t.footer.index t.contents t.index (body_fit bytes es t fits) t.held t.indexed in
    rw (footer, body) index

pub entries_again : (options : TableOptions) (bytes : List ℕ) (es : List Entry) → IsBytes bytes → IsPackedTable bytes es → (entries_at options bytes ≡ Ok es) ⊎ (entries_at options bytes ≡ Err TooLarge)
unfolding entries_at
entries_again options bytes es fits t =
    let index = index_again bytes es t fits in
    let body = (ends bytes t.body t.footer_text t.footer t.footed t.bytes_are).body_is in
    let are = t.entries_are in
    let read = data_again options t.index t.body 0 None [] t.groups (body_fit bytes es t fits) t.blocks t.apart (subst Ascends (sym are) t.ascends) in
    rw (index, body) (subst (λ (x : List Entry). (data_at options t.body 0 None [] t.index ≡ Ok x) ⊎ (data_at options t.body 0 None [] t.index ≡ Err TooLarge)) are read)

pub one_packed_table : (bytes : List ℕ) (es fs : List Entry) → IsBytes bytes → IsPackedTable bytes es → IsPackedTable bytes fs → es ≡ fs
one_packed_table bytes es fs fits t u =
    let index : t.index ≡ u.index = ok_is t.index u.index (sym (index_again bytes es t fits) ∙ index_again bytes fs u fits) in
    let body : t.body ≡ u.body = sym (ends bytes t.body t.footer_text t.footer t.footed t.bytes_are).body_is ∙ (ends bytes u.body u.footer_text u.footer u.footed u.bytes_are).body_is in
    let blocks = subst (λ (x : List Entry). PackedBlocks u.body None x t.groups) index (subst (λ (x : List ℕ). PackedBlocks x None t.index t.groups) body t.blocks) in
    let groups = one_groups u.index u.body None t.groups u.groups (body_fit bytes fs u fits) blocks u.blocks in
    sym t.entries_are ∙ ap concat groups ∙ u.entries_are
