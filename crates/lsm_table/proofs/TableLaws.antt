-- What is read as a table is one, and what is one is read.
use Rattle.std.proofs.Common.{◌≡◌, ℕ, ◌-◌, List, length, None, Ok, sym, ap, ◌∙◌}
use Rattle.lsm_codec.specs.Entries.{Entry}
use Rattle.lsm_codec.proofs.CallerLemmas.{IsBytes}
use Rattle.lsm_block.specs.Reading.{block_at}
use Rattle.lsm_block.proofs.CallerLemmas.{IsBytes-take, block_takes, block_again}
use Rattle.lsm_table.specs.StoredBlock.{contents_at}
use Rattle.lsm_table.specs.Footer.{footer_of, body_of, footer_at}
use Rattle.lsm_table.specs.Table.{concat, IsTable}
use Rattle.lsm_table.specs.TableReading.{block_or, data_at, table_at}
use Rattle.lsm_table.proofs.ReadingLaws.{bind_ok, ok_is, block_ok}
use Rattle.lsm_table.proofs.StoredBlockLaws.{contents_takes, contents_again}
use Rattle.lsm_table.proofs.FooterLaws.{footer_takes, footer_again, ends}
use Rattle.lsm_table.proofs.DataLaws.{held_fits, block_values, data_takes, data_again}

pub table_takes : (bytes : List ℕ) (es : List Entry) → IsBytes bytes → table_at bytes ≡ Ok es → IsTable bytes es
unfolding table_at
table_takes bytes es fits e =
    let body = body_of bytes in
    let body_fits = IsBytes-take (length bytes - 48) bytes fits in
    let b1 = bind_ok (footer_at bytes) _ es e in
    let footed = footer_takes bytes b1.0 fits b1.1 in
    let b2 = bind_ok (contents_at body b1.0.index) _ es b1.2 in
    let held = contents_takes body b1.0.index b2.0 b2.1 in
    let contents_fit = held_fits body b1.0.index b2.0 body_fits held in
    let b3 = bind_ok (block_or (block_at b2.0)) _ es b2.2 in
    let indexed = block_takes b2.0 b3.0 contents_fit (block_ok (block_at b2.0) b3.0 b3.1) in
    let b4 = bind_ok (data_at body 0 None b3.0) _ es b3.2 in
    let read = data_takes b3.0 body 0 None b4.0 body_fits (block_values b2.0 b3.0 contents_fit indexed) b4.1 in
    record {
      body = body;
      footer_text = footer_of bytes;
      footer = b1.0;
      contents = b2.0;
      index = b3.0;
      groups = b4.0;
      bytes_are = footed.parts;
      footed = footed.is;
      held = held;
      indexed = indexed;
      blocks = read.0;
      apart = read.1;
      entries_are = ok_is (concat b4.0) es b4.2;
    }

pub table_again : (bytes : List ℕ) (es : List Entry) → IsTable bytes es → table_at bytes ≡ Ok es
unfolding table_at
table_again bytes es t =
    let footer = footer_again bytes t.body t.footer_text t.footer t.footed t.bytes_are in
    let body = (ends bytes t.body t.footer_text t.footer t.footed t.bytes_are).body_is in
    let held = contents_again t.body t.footer.index t.contents t.held in
    let index = block_again t.contents t.index t.indexed in
    let blocks = data_again t.index t.body 0 None t.groups t.blocks t.apart in
    rw (footer, body, held, index, blocks) (ap (λ (x : List Entry). Ok x) t.entries_are)

pub one_table : (bytes : List ℕ) (es fs : List Entry) → IsTable bytes es → IsTable bytes fs → es ≡ fs
one_table bytes es fs t u = ok_is es fs (sym (table_again bytes es t) ∙ table_again bytes fs u)
