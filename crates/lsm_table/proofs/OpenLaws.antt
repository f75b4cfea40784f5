-- What a table is whose footer and index block were judged.
use Rattle.std.proofs.Common.{◌≡◌, ℕ, Bool, true, false, eqb, List, [], length, Option, None, Result, Ok, Err, refl, sym, ap, ◌∙◌, subst}
use Rattle.std.proofs.lemmas.List.{append-nil}
use Rattle.lsm_codec.specs.Keys.{InternalKey}
use Rattle.lsm_codec.specs.Entries.{Entry}
use Rattle.lsm_block.specs.Reading.{block_at}
use Rattle.lsm_block.proofs.CallerLemmas.{block_again}
use Rattle.lsm_table.specs.declared.table_fault.TableFault.{TableFault}
use Rattle.lsm_table.specs.declared.table_fault.TableFault.TheVariants.{OutOfMemory, BadRestarts, BadEntry, OutOfOrder, ShortFile, BadMagic, BadHandle, BadChecksum, Compressed, BadBlockType, BadIndex}
use Rattle.lsm_table.specs.declared.handle.Handle.{Handle}
use Rattle.lsm_table.specs.Reading.{◌>>=◌, guarded, settled, is_memory, FailsUnless, Fails}
use Rattle.lsm_table.specs.ReadFault.{IsMemory}
use Rattle.lsm_table.specs.Handle.{handle_at}
use Rattle.lsm_table.specs.StoredBlock.{Holds, contents_at}
use Rattle.lsm_table.specs.Footer.{footer_at, body_of}
use Rattle.lsm_table.specs.Table.{DataBlock, IsTable, concat}
use Rattle.lsm_table.specs.TableReading.{block_or, are_placed, data_block_at, data_at, table_at}
use Rattle.lsm_table.specs.HeldTable.{HeldTable, Names, BlockAt}
use Rattle.lsm_table.specs.OpenTable.{opening_at, IsOpened, block_named}
use Rattle.lsm_table.proofs.ReadingLaws.{ok_is}
use Rattle.lsm_table.proofs.HandleLaws.{handle_again}
use Rattle.lsm_table.proofs.StoredBlockLaws.{contents_again}
use Rattle.lsm_table.proofs.FooterLaws.{footer_again}
use Rattle.lsm_table.proofs.HeldTableLaws.{bodied, table_block, table_names}

abbrev pub entries_read : List Entry → Result (List Entry) TableFault
entries_read es = Ok es

-- steps, and a last one
two_then : {A B C : Type 0} (r : Result A TableFault) (f : A → Result B TableFault) (g : B → Result C TableFault) → (r >>= λ x. f x >>= g) ≡ ((r >>= f) >>= g)
two_then (Err fault) f g = refl
two_then (Ok x) f g = refl

three_then : {A B C D : Type 0} (r : Result A TableFault) (f : A → Result B TableFault) (g : B → Result C TableFault) (h : C → Result D TableFault) → (r >>= λ x. f x >>= λ y. g y >>= h) ≡ ((r >>= λ x. f x >>= g) >>= h)
three_then (Err fault) f g h = refl
three_then (Ok x) f g h = two_then (f x) g h

-- ---- opening

-- what opening reads, of what is opened
pub opening_is : (file : List ℕ) (index : Handle) (es : List Entry) → IsOpened file index → BlockAt (body_of file) index es → opening_at file ≡ Ok es
unfolding opening_at
opening_is file index es o b =
    let footed = o.footed in
    let held = subst (λ (x : Handle). Holds (body_of file) x b.contents) (sym o.index_is) b.held in
    let read = contents_again (body_of file) o.footer.index b.contents held in
    let block = block_again b.contents es b.block in
    rw (footed, read, block) refl

-- a table is opened, and its index is read
pub opening_again : (file : List ℕ) (es : List Entry) (t : IsTable file es) → opening_at file ≡ Ok t.index
unfolding opening_at
opening_again file es t =
    let footer = footer_again file t.body t.footer_text t.footer t.footed t.bytes_are in
    let body = (bodied file es t).is in
    let held = contents_again t.body t.footer.index t.contents t.held in
    let index = block_again t.contents t.index t.indexed in
    rw (footer, body, held, index) refl

-- what is read of a table that is opened names its entries
pub opened_names : (file : List ℕ) (es index : List Entry) → IsTable file es → opening_at file ≡ Ok index → Names (body_of file) index es
opened_names file es index t e =
    let same : t.index ≡ index = ok_is t.index index (sym (opening_again file es t) ∙ e) in
    subst (λ (xs : List Entry). Names (body_of file) xs es) same (subst (λ (xs : List ℕ). Names xs t.index es) (sym (bodied file es t).is) (table_names file es t))

-- a checked table is opened
pub held_opened : (file : List ℕ) (index : Handle) → HeldTable file index → IsOpened file index
held_opened file index h = record {
  footer = h.table.footer;
  entries = h.table.index;
  footed = footer_again file h.table.body h.table.footer_text h.table.footer h.table.footed h.table.bytes_are;
  index_is = h.index_is;
  block = table_block file (body_of file) index h refl;
}

-- ---- the data blocks of what is opened

rest_settled : (r : Result (List (List Entry)) TableFault) → settled (r >>= λ groups. Ok (concat groups)) ≡ settled r
rest_settled (Ok groups) = refl
rest_settled (Err fault) = refl

-- a table is opened, and then its data blocks are read
pub opens_first : (file : List ℕ) → table_at file ≡ (opening_at file >>= λ index. data_at (body_of file) 0 None index >>= λ groups. Ok (concat groups))
unfolding table_at opening_at
opens_first file = three_then (footer_at file) (λ footer. contents_at (body_of file) footer.index) (λ contents. block_or (block_at contents)) (λ index. data_at (body_of file) 0 None index >>= λ groups. Ok (concat groups))

pub rest_of_table : (file body : List ℕ) (index : List Entry) → body ≡ body_of file → opening_at file ≡ Ok index → settled (data_at body 0 None index) ≡ settled (table_at file)
rest_of_table file body index is e =
    ap (λ (xs : List ℕ). settled (data_at xs 0 None index)) is ∙ sym (ap settled (opens_first file) ∙ ap (λ (r : Result (List Entry) TableFault). settled (r >>= λ es. data_at (body_of file) 0 None es >>= λ groups. Ok (concat groups))) e
    ∙ rest_settled (data_at (body_of file) 0 None index))

unless_opened : (memory : Bool) (fault : TableFault) (r : Result (List Entry) TableFault) (h : List Entry → Result (List Entry) TableFault) → FailsUnless memory fault (settled r) → FailsUnless memory fault (settled (r >>= h))
unless_opened true fault r h f = tt
unless_opened false fault (Ok es) h f = absurd cc
unless_opened false fault (Err e) h f = f

-- what cannot be opened is no table
pub fails_opening : (fault : TableFault) (file : List ℕ) → Fails fault (settled (opening_at file)) → Fails fault (settled (table_at file))
fails_opening fault file f =
    subst (λ (r : Result (List Entry) TableFault). Fails fault (settled r)) (sym (opens_first file))
    (unless_opened (is_memory fault) fault (opening_at file) (λ index. data_at (body_of file) 0 None index >>= λ groups. Ok (concat groups)) f)

-- ---- the data block that an index entry names

pub named_again : (body place : List ℕ) (es : List Entry) → DataBlock body place es → block_named body place ≡ Ok es
unfolding block_named
named_again body place es d =
    let h : handle_at BadIndex place ≡ Ok (d.handle, []) = ap (handle_at BadIndex) (sym (append-nil place)) ∙ handle_again BadIndex place [] d.handle d.handle_is in
    let c = contents_again body d.handle d.contents d.held in
    let b = block_again d.contents es d.block in
    rw (h, c, b) refl

pub named_there : (body place : List ℕ) (block es : List Entry) → block_named body place ≡ Ok block → DataBlock body place es → block ≡ es
named_there body place block es e d = ok_is block es (sym e ∙ named_again body place es d)

pub read_names : (file read body : List ℕ) (es index : List Entry) → IsTable file es → read ≡ file → body ≡ body_of read → opening_at read ≡ Ok index → Names body index es
read_names file read body es index t same is e =
    subst (λ (xs : List ℕ). Names xs index es) (sym (is ∙ ap body_of same)) (opened_names file es index t (subst (λ (xs : List ℕ). opening_at xs ≡ Ok index) same e))

-- ---- judging the data block of an index entry

-- it is read, and then its keys are judged
judged_after : (body : List ℕ) (bound : Option InternalKey) (i : Entry) → data_block_at body bound i ≡ (block_named body i.value >>= λ es. guarded (are_placed bound i es) BadIndex (Ok es))
unfolding data_block_at block_named
judged_after body bound i =
    three_then (handle_at BadIndex i.value) (λ handle. guarded (eqb (length handle.1) 0) BadIndex (contents_at body handle.0)) (λ contents. block_or (block_at contents)) (λ es. guarded (are_placed bound i es) BadIndex (Ok es))

pub judged_as : (body : List ℕ) (bound : Option InternalKey) (i : Entry) (es : List Entry) (placed : Bool) → block_named body i.value ≡ Ok es → placed ≡ are_placed bound i es → settled (data_block_at body bound i) ≡ settled (guarded placed BadIndex (entries_read es))
judged_as body bound i es placed e p =
    ap settled (judged_after body bound i) ∙ ap (λ (r : Result (List Entry) TableFault). settled (r >>= λ xs. guarded (are_placed bound i xs) BadIndex (Ok xs))) e ∙ ap (λ (b : Bool). settled (guarded b BadIndex (entries_read es))) (sym p)

unless_then : (memory : Bool) (fault : TableFault) (r : Result (List Entry) TableFault) (h : List Entry → Result (List Entry) TableFault) → FailsUnless memory fault r → FailsUnless memory fault (settled (r >>= h))
unless_then true fault r h f = tt
unless_then false fault (Ok es) h f = absurd cc
unless_then false fault (Err e) h f = let same : e ≡ fault = cc in ap (λ (x : TableFault). Err x) same

pub judged_not : (fault : TableFault) (body : List ℕ) (bound : Option InternalKey) (i : Entry) → Fails fault (block_named body i.value) → Fails fault (settled (data_block_at body bound i))
judged_not fault body bound i f =
    subst (λ (r : Result (List Entry) TableFault). Fails fault (settled r)) (sym (judged_after body bound i)) (unless_then (is_memory fault) fault (block_named body i.value) (λ es. guarded (are_placed bound i es) BadIndex (Ok es)) f)

-- ---- for callers

-- what reads a value can fail for want of memory alone
pub memory_only : {X : Type 0} (fault : TableFault) (x : X) → Fails {Y = X} fault (Ok x) → IsMemory fault
memory_only OutOfMemory x f = tt
memory_only BadRestarts x f = absurd cc
memory_only (BadEntry offset) x f = absurd cc
memory_only (OutOfOrder offset) x f = absurd cc
memory_only ShortFile x f = absurd cc
memory_only BadMagic x f = absurd cc
memory_only BadHandle x f = absurd cc
memory_only (BadChecksum offset) x f = absurd cc
memory_only (Compressed kind) x f = absurd cc
memory_only (BadBlockType kind) x f = absurd cc
memory_only BadIndex x f = absurd cc
