-- Tables that are read one after another.
use Rattle.std.proofs.Common.{◌≡◌, ℕ, zero, suc, ◌+◌, ◌<◌, ◌≤◌, List, [], ◌∷◌, ◌++◌, length, get_or}
use Rattle.std.proofs.Common.{take, refl, sym, ap, ◌∙◌, subst, inl, inr, arith}
use Rattle.std.specs.Prelude.{Err, IfErr, OnOk, Ok, Result}
use Rattle.std.specs.List.{flat_map}
use Rattle.std.proofs.lemmas.Grind.{flat_map-append}
use Rattle.std.proofs.lemmas.List.{append-nil, map-append, take_all}
use Rattle.std.proofs.lemmas.List.Elements.{All-append, All-cons, All-nil}
use Rattle.std.proofs.Math.Seq.{take-suc}
use Rattle.lsm_codec.specs.Entries.{Entry}
use Rattle.lsm_codec.specs.Lists.{Has}
use Rattle.lsm_shelf.specs.Asked.{Asked}
use Rattle.lsm_shelf.specs.declared.shelf_fault.ShelfFault.{ShelfFault}
use Rattle.lsm_table.proofs.CallerLemmas.{memory_only}
use Rattle.lsm_table.specs.Reading as table
use Rattle.lsm_table.specs.Table.{IsImage, IsTable}
use Rattle.lsm_table.specs.declared.table_fault.TableFault.{TableFault}
use Rattle.lsm_table.specs.declared.table_fault.TableFault.TheVariants as why
use Rattle.lsm_inflate.specs.PackedTable.{IsPackedTable}
use Rattle.lsm_inflate.specs.Reading.{Fails}
use Rattle.lsm_inflate.specs.declared.inflate_fault.InflateFault.{InflateFault}
use Rattle.lsm_inflate.specs.declared.inflate_fault.InflateFault.TheVariants.{Table}
use Rattle.lsm_repair.specs.Reading.{AreRead, AreUnread, Held, IsTableRead, IsUnread, ReadsImage}
use Rattle.lsm_repair.specs.Reading.{ReadsNext, TableRead, held_of}
use Rattle.lsm_repair.specs.declared.left_out.LeftOut.{LeftOut}
use Rattle.lsm_repair.specs.declared.mend_fault.MendFault.{MendFault}
use Rattle.lsm_repair.specs.declared.mend_fault.MendFault.TheVariants.{OutOfMemory}

abbrev broken : ℕ → InflateFault → LeftOut
broken number fault = record { file = number; fault = fault }

module _ (Given : ℕ → List ℕ → Type 0) where
  pub read_none : AreRead Given [] [] []
  read_none = record {
    reads = [];
    numbered = refl;
    each = All-nil (IsTableRead Given);
    entries_are = refl;
    left_are = refl;
  }

  read_snoc : (numbers : List ℕ) (n : ℕ) (entries more : List Held) (left later : List LeftOut)
      → AreRead Given numbers entries left
      → ReadsNext Given n entries more left later
      → AreRead Given (numbers ++ n ∷ []) more later
  read_snoc numbers n entries more left later r x =
      let one = x.read ∷ [] in
      record {
        reads = r.reads ++ one;
        numbered = map-append (λ (t : TableRead). t.number) r.reads one
            ∙ ap (λ (ns : List ℕ). ns ++ x.read.number ∷ []) r.numbered
            ∙ ap (λ (k : ℕ). numbers ++ k ∷ []) x.numbered;
        each = All-append (IsTableRead Given) r.reads one r.each
            (All-cons (IsTableRead Given) x.read [] x.is
            (All-nil (IsTableRead Given)));
        entries_are =
            x.added ∙ ap (λ (es : List Held). es ++ held_of x.read) r.entries_are
            ∙ sym (flat_map-append held_of r.reads one
            ∙ ap (λ (es : List Held). flat_map held_of r.reads ++ es)
            (append-nil (held_of x.read)));
        left_are =
            x.left_too ∙ ap (λ (ls : List LeftOut). ls ++ x.read.left) r.left_are
            ∙ sym (flat_map-append (λ (t : TableRead). t.left) r.reads one
            ∙ ap (λ (ls : List LeftOut). flat_map (λ (t : TableRead). t.left) r.reads ++ ls)
            (append-nil x.read.left));
      }

  pub read_more : (numbers : List ℕ) (i : ℕ) (entries more : List Held) (left later : List LeftOut)
      → i < length numbers → AreRead Given (take i numbers) entries left
      → ReadsNext Given (get_or numbers i 0) entries more left later
      → AreRead Given (take (i + 1) numbers) more later
  read_more numbers i entries more left later lt r x =
      let s : i + 1 ≡ suc i = omega arith in
      let front : take (i + 1) numbers ≡ take i numbers ++ get_or numbers i 0 ∷ [] =
      rw s (take-suc numbers i 0 lt) in
      subst (λ (ns : List ℕ). AreRead Given ns more later) (sym front)
      (read_snoc (take i numbers) (get_or numbers i 0) entries more left later r x)

  pub read_all : (numbers : List ℕ) (i : ℕ) (entries : List Held) (left : List LeftOut)
      → length numbers ≤ i → AreRead Given (take i numbers) entries left
      → AreRead Given numbers entries left
  read_all numbers i entries left done r =
      subst (λ (ns : List ℕ). AreRead Given ns entries left) (take_all i numbers done) r

  -- an image that the shelf gave was read
  pub next_read : (number : ℕ) (image : List ℕ) (entries more : List Held)
      (left later : List LeftOut) → Given number image
      → ReadsImage number image entries more left later
      → ReadsNext Given number entries more left later
  next_read number image entries more left later given (inl (es, spelled, added, same)) = record {
    read = record { number = number; entries = es; left = [] };
    numbered = refl;
    is = inl (refl, (image, given, spelled));
    added = added;
    left_too = same ∙ sym (append-nil left);
  }
  next_read number image entries more left later given (inr (fault, bad, no_want, same, added)) =
      record {
        read = record { number = number; entries = []; left = broken number fault ∷ [] };
        numbered = refl;
        is = inr (
          refl,
          (
            broken number fault,
            refl,
            record {
              named = refl;
              image = image;
              given = given;
              broken = bad;
              no_want = no_want;
            },
          ),
        );
        added = same ∙ sym (append-nil entries);
        left_too = added;
      }

  pub next_on : {X : Type 0} (r : Result X MendFault) (number : ℕ) (image other : List ℕ)
      (entries more : List Held) (left later : List LeftOut) → Given number image → other ≡ image
      → OnOk r (ReadsImage number other entries more left later)
      → OnOk r (ReadsNext Given number entries more left later)
  next_on (Ok x) number image other entries more left later given same read =
      next_read number image entries more left later given
      (subst (λ (i : List ℕ). ReadsImage number i entries more left later) same read)
  next_on (Err e) number image other entries more left later given same read = tt

-- ---- one that is not read

has_at : (xs : List ℕ) (i : ℕ) → i < length xs → Has xs (get_or xs i 0)
has_at [] i lt = absurd (omega (arith, lt))
has_at (x ∷ xs) zero lt = inl refl
has_at (x ∷ xs) (suc i) lt = inr (has_at xs i (omega (arith, lt)))

pub unread_memory : {X : Type 0} (Denied : Asked → ShelfFault → Type 0) (number : ℕ)
    (r : Result X MendFault) → IfErr r (λ e. e ≡ OutOfMemory) → IfErr r (IsUnread Denied number)
unread_memory Denied number (Ok x) want = tt
unread_memory Denied number (Err e) want = inl want

pub unread_among : (Denied : Asked → ShelfFault → Type 0) (numbers : List ℕ) (i : ℕ)
    (fault : MendFault) → i < length numbers → IsUnread Denied (get_or numbers i 0) fault
    → AreUnread Denied numbers fault
unread_among Denied numbers i fault lt why = inr (get_or numbers i 0, has_at numbers i lt, why)

-- ---- the table of an image

pub whole_from : (packed bytes s l : List ℕ) (es t : List Entry) → IsPackedTable packed es
    → IsImage es s l bytes
    → ((fs : List Entry) → IsTable bytes fs → table.Gives (λ (x : List Entry). x) (Ok t) (Ok fs))
    → IsPackedTable packed t
whole_from packed bytes s l es t spelled image only =
    let same : es ≡ t = (let e = only es image.table in cc) in
    subst (IsPackedTable packed) same spelled

pub memory_alone : {Y : Type 0} (fault : TableFault) (es : List Entry)
    (read : Result Y InflateFault)
    → table.Fails {Y = List Entry} fault (Ok es) → Fails (Table fault) read
memory_alone why.OutOfMemory es read f = tt
memory_alone why.BadRestarts es read f = absurd (memory_only why.BadRestarts es f)
memory_alone (why.BadEntry offset) es read f = absurd (memory_only (why.BadEntry offset) es f)
memory_alone (why.OutOfOrder offset) es read f = absurd (memory_only (why.OutOfOrder offset) es f)
memory_alone why.ShortFile es read f = absurd (memory_only why.ShortFile es f)
memory_alone why.BadMagic es read f = absurd (memory_only why.BadMagic es f)
memory_alone why.BadHandle es read f = absurd (memory_only why.BadHandle es f)
memory_alone (why.BadChecksum offset) es read f = absurd (memory_only (why.BadChecksum offset) es f)
memory_alone (why.Compressed kind) es read f = absurd (memory_only (why.Compressed kind) es f)
memory_alone (why.BadBlockType kind) es read f = absurd (memory_only (why.BadBlockType kind) es f)
memory_alone why.BadIndex es read f = absurd (memory_only why.BadIndex es f)
