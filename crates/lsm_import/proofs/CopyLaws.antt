-- Tables that are copied one after another.
use Rattle.std.proofs.Common.{◌≡◌, ℕ, zero, suc, ◌+◌, ◌<◌, ◌≤◌, max, List, [], ◌∷◌, ◌++◌, length}
use Rattle.std.proofs.Common.{get_or, take, refl, sym, ap, ◌∙◌, subst, inl, inr, append_assoc}
use Rattle.std.proofs.Common.{arith}
use Rattle.std.proofs.lemmas.List.{append-nil, take_all, take_more}
use Rattle.std.specs.Prelude.{◌⊎◌, Some, Result, Ok, Err, IfOk}
use Rattle.std.specs.List.{All}
use Rattle.std.proofs.lemmas.List.Elements.{All-cons, All-nil}
use Rattle.lsm_codec.specs.Lists.{Has}
use Rattle.lsm_codec.specs.Entries.{Entry, internal_key}
use Rattle.lsm_codec.specs.Keys.{IsKey, key_bytes}
use Rattle.lsm_codec.proofs.CallerLemmas.{all_at, has_cases}
use Rattle.lsm_shelf.specs.Told.{Told}
use Rattle.lsm_table.specs.Table.{IsImage}
use Rattle.lsm_manifest.specs.EditFit.{Change, FitsAdded, FitsKey, IsFit}
use Rattle.lsm_manifest.specs.FileOrder.{TableFile}
use Rattle.lsm_manifest.specs.Replay.{FileAt}
use Rattle.lsm_manifest.specs.Shape.{Form}
use Rattle.lsm_manifest.specs.WholeEdit.{whole_edit}
use Rattle.lsm_inflate.specs.PackedTable.{IsPackedTable}
use Rattle.lsm_inflate.specs.declared.plain_table.PlainTable.{PlainTable}
use Rattle.lsm_import.specs.Copied.{IsFitting}
use Rattle.lsm_import.specs.Copies.{AreCopies, HasOtherKeys, IsAbove, IsCopy, OnlyPuts}
use Rattle.lsm_import.specs.declared.copied.Copied.{Copied}
use Rattle.lsm_import.specs.declared.import_fault.ImportFault.{ImportFault}

-- ---- elements

pub has_at : {X : Type 0} (xs : List X) (i : ℕ) (x : X) → i < length xs → x ≡ get_or xs i x
    → Has xs x
has_at [] i x lt is = absurd (omega arith)
has_at (y ∷ ys) zero x lt is = inl (sym is)
has_at (y ∷ ys) (suc i) x lt is = inr (has_at ys i x (omega arith) is)

pub one_taken : {X : Type 0} (xs : List X) (i : ℕ) (x : X) → i < length xs → x ≡ get_or xs i x
    → take (i + 1) xs ≡ take i xs ++ x ∷ []
one_taken xs i x lt is = take_more xs i x lt ∙ ap (λ z. take i xs ++ z ∷ []) (sym is)

-- ---- numbers

pub above_none : (from : ℕ) → IsAbove from [] from
above_none from = (omega arith, λ f h. absurd h)

pub above_more : (from next after : ℕ) (fs : List FileAt) (i : ℕ) (f : FileAt) → i < length fs
    → f ≡ get_or fs i f → IsAbove from (take i fs) next → after ≡ max next (f.file.number + 1)
    → IsAbove from (take (i + 1) fs) after
above_more from next after fs i f lt is above step =
    subst (λ (xs : List FileAt). IsAbove from xs after) (sym (one_taken fs i f lt is))
    (bound, λ g h. each g (has_cases (take i fs) (f ∷ []) g h))
  where
    bound : from ≤ after
    bound = (let a = above.0 in omega arith)

    each : (g : FileAt) → Has (take i fs) g ⊎ Has (f ∷ []) g → g.file.number < after
    each g (inl h) = (let a = above.1 g h in omega arith)
    each g (inr (inl e)) =
        (let n : f.file.number ≡ g.file.number = ap (λ (x : FileAt). x.file.number) e in
        omega arith)
    each g (inr (inr h)) = absurd h

pub above_all : (from next : ℕ) (fs : List FileAt) (i : ℕ) → length fs ≤ i
    → IsAbove from (take i fs) next → IsAbove from fs next
above_all from next fs i done above = subst (λ (xs : List FileAt). IsAbove from xs next)
    (take_all i fs done) above

-- ---- keys

last_same : (xs ys : List Entry) (a b : Entry) → xs ++ a ∷ [] ≡ ys ++ b ∷ [] → a ≡ b
last_same [] [] a b e = cc
last_same [] (y ∷ []) a b e = cc
last_same [] (y ∷ z ∷ ys) a b e = cc
last_same (x ∷ []) [] a b e = cc
last_same (x ∷ z ∷ xs) [] a b e = cc
last_same (x ∷ xs) (y ∷ ys) a b e = last_same xs ys a b (cc)

same_bytes : (s t : List ℕ) (e f : Entry) → IsKey s (internal_key e) → IsKey t (internal_key f)
    → e ≡ f → s ≡ t
same_bytes s t e f a b same = a.bytes_are ∙ ap (λ (x : Entry). key_bytes (internal_key x)) same
    ∙ sym b.bytes_are

-- the tables of the same entries have the same keys
pub same_keys : (es : List Entry) (s l b s' l' b' : List ℕ) → IsImage es s l b → IsImage es s' l' b'
    → (s ≡ s') × (l ≡ l')
same_keys es s l b s' l' b' i j =
    let first : i.first ≡ j.first = (let p = i.begins in let q = j.begins in cc) in
    let last : i.last ≡ j.last = last_same i.front j.front i.last j.last (sym i.ends ∙ j.ends) in (
      same_bytes s s' i.first j.first i.smallest_is j.smallest_is first,
      same_bytes l l' i.last
          j.last i.largest_is j.largest_is last,
    )

pub other_keys : (packed : List ℕ) (file : TableFile) (es : List Entry) (p : PlainTable)
    → IsPackedTable packed es → IsImage es p.smallest p.largest p.bytes.items
    → ((p.smallest ≡ file.smallest) × (p.largest ≡ file.largest) → ⊥) → HasOtherKeys file packed
other_keys packed file es p spelled image differ = (
  es,
  spelled,
  λ plain i. differ
      (same_keys es p.smallest p.largest p.bytes.items file.smallest file.largest plain image i),
)

-- ---- copies

pub copy_from : (From Into : ℕ → List ℕ → Type 0) (file : FileAt)
    (packed plain packed' plain' : List ℕ) (r : Result FileAt ImportFault)
    → From file.file.number packed
    → ((es : List Entry) × IsPackedTable packed' es
    × IsImage es file.file.smallest file.file.largest plain)
    → packed' ≡ packed → plain' ≡ plain
    → IfOk r (λ _. Into file.file.number plain') → IfOk r (λ copy. copy.level ≡ file.level)
    → IfOk r (λ copy. copy.file.number ≡ file.file.number)
    → IfOk r (λ copy. copy.file.size ≡ length plain')
    → IfOk r (λ copy. copy.file.smallest ≡ file.file.smallest)
    → IfOk r (λ copy. copy.file.largest ≡ file.file.largest)
    → IfOk r (λ copy. (es : List Entry) × IsCopy From Into file copy es)
copy_from From Into file packed plain packed' plain' (Err e) given made p q put level number size
    smallest largest = tt
copy_from From Into file packed plain packed' plain' (Ok copy) given made p q put level number size
    smallest largest = (
      made.0,
      record {
        packed = packed;
        plain = plain;
        held = given;
        spelled = subst (λ (b : List ℕ). IsPackedTable b made.0) p made.1;
        image = made.2;
        put = subst (Into file.file.number) q put;
        level = level;
        number = number;
        size = size ∙ ap length q;
        smallest = smallest;
        largest = largest;
      },
    )

copies_push : (From Into : ℕ → List ℕ → Type 0) (fs cs : List FileAt) (f c : FileAt)
    (es own : List Entry) → AreCopies From Into fs cs es → IsCopy From Into f c own
    → AreCopies From Into (fs ++ f ∷ []) (cs ++ c ∷ []) (es ++ own)
copies_push From Into [] [] f c es own a is =
    (own, [], ap (λ (xs : List Entry). xs ++ own) a ∙ sym (append-nil own), is, refl)
copies_push From Into [] (x ∷ cs) f c es own a is = absurd a
copies_push From Into (x ∷ fs) [] f c es own a is = absurd a
copies_push From Into (x ∷ fs) (y ∷ cs) f c es own a is = (
  a.0,
  a.1 ++ own,
  ap (λ (xs : List Entry). xs ++ own) a.2
      ∙ append_assoc a.0 a.1 own,
  a.3,
  copies_push From Into fs cs f c a.1 own a.4 is,
)

-- these files were copied so far
abbrev pub Copying : (From Into : ℕ → List ℕ → Type 0) → List FileAt → List FileAt → Type 0
Copying From Into fs cs = (es : List Entry) × AreCopies From Into fs cs es

pub copies_none : (From Into : ℕ → List ℕ → Type 0) (fs cs : List FileAt) → cs ≡ []
    → Copying From Into (take 0 fs) cs
copies_none From Into [] cs is = subst (Copying From Into []) (sym is) ([], refl)
copies_none From Into (f ∷ fs) cs is = subst (Copying From Into []) (sym is) ([], refl)

pub copies_more : (From Into : ℕ → List ℕ → Type 0) (fs : List FileAt) (i : ℕ) (f : FileAt)
    (cs after : List FileAt) (c : FileAt) → i < length fs → f ≡ get_or fs i f
    → Copying From Into (take i fs) cs → ((es : List Entry) × IsCopy From Into f c es)
    → after ≡ cs ++ c ∷ [] → Copying From Into (take (i + 1) fs) after
copies_more From Into fs i f cs after c lt is so one step =
    subst (λ (xs : List FileAt). Copying From Into xs after) (sym (one_taken fs i f lt is))
    (subst (Copying From Into (take i fs ++ f ∷ [])) (sym step)
    (so.0 ++ one.0, copies_push From Into (take i fs) cs f c so.0 one.0 so.1 one.1))

pub copies_all : (From Into : ℕ → List ℕ → Type 0) (fs : List FileAt) (i : ℕ) (cs : List FileAt)
    → length fs ≤ i → Copying From Into (take i fs) cs → Copying From Into fs cs
copies_all From Into fs i cs done so = subst (λ (xs : List FileAt). Copying From Into xs cs)
    (take_all i fs done) so

-- a copy has the level and the keys of its file
copies_of : (From Into : ℕ → List ℕ → Type 0) (fs cs : List FileAt) (es : List Entry)
    → AreCopies From Into fs cs es → (c : FileAt) → Has cs c
    → (f : FileAt) × Has fs f × (c.level ≡ f.level) × (c.file.smallest ≡ f.file.smallest)
    × (c.file.largest ≡ f.file.largest)
copies_of From Into [] [] es a c h = absurd h
copies_of From Into [] (x ∷ cs) es a c h = absurd a
copies_of From Into (f ∷ fs) [] es a c h = absurd a
copies_of From Into (f ∷ fs) (x ∷ cs) es a c (inl e) = (
  f,
  inl refl,
  ap (λ (y : FileAt). y.level) (sym e)
      ∙ a.3.level,
  ap (λ (y : FileAt). y.file.smallest) (sym e) ∙ a.3.smallest,
  ap
      (λ (y : FileAt). y.file.largest) (sym e) ∙ a.3.largest,
)
copies_of From Into (f ∷ fs) (x ∷ cs) es a c (inr h) =
    let o = copies_of From Into fs cs a.1 a.4 c h in
    (o.0, inr o.1, o.2, o.3, o.4)

all_from : {X : Type 0} (P : X → Type 0) (xs : List X) → ((x : X) → Has xs x → P x) → All P xs
all_from P [] each = All-nil P
all_from P (x ∷ xs) each = All-cons P x xs (each x (inl refl))
    (all_from P xs (λ y h. each y (inr h)))

fits_same : (c f : FileAt) → c.level ≡ f.level → c.file.smallest ≡ f.file.smallest
    → c.file.largest ≡ f.file.largest → FitsAdded f → FitsAdded c
fits_same c f l s t fit = (
  subst (λ (n : ℕ). n ≤ 6) (sym l) fit.0,
  subst FitsKey (sym s) fit.1,
  subst FitsKey
      (sym t) fit.2,
)

-- copies fit where their files do
pub copies_fit : (From Into : ℕ → List ℕ → Type 0) (fs cs : List FileAt) (es : List Entry)
    → AreCopies From Into fs cs es → All FitsAdded fs → All FitsAdded cs
copies_fit From Into fs cs es a fit = all_from FitsAdded cs (λ c h.
    let o = copies_of From Into fs cs es a c h in
    fits_same c o.0 o.2 o.3 o.4 (all_at FitsAdded fs o.0 fit o.1))

-- so does one more
pub fits_push : (fs : List FileAt) (f : FileAt) → All FitsAdded fs → FitsAdded f
    → All FitsAdded (fs ++ f ∷ [])
fits_push fs f all one = all_from FitsAdded (fs ++ f ∷ [])
    (λ g h. each g (has_cases fs (f ∷ []) g h))
  where
    each : (g : FileAt) → Has fs g ⊎ Has (f ∷ []) g → FitsAdded g
    each g (inl h) = all_at FitsAdded fs g all h
    each g (inr (inl e)) = subst FitsAdded e one
    each g (inr (inr h)) = absurd h

-- ---- what the target was told

pub puts_none : (t : Told) → OnlyPuts t t
puts_none t = record { place = refl; gone = refl; starts = refl; written = refl }

pub puts_then : (a b c : Told) → OnlyPuts a b → OnlyPuts b c → OnlyPuts a c
puts_then a b c p q = record {
  place = q.place ∙ p.place;
  gone = q.gone ∙ p.gone;
  starts =
      q.starts ∙ p.starts;
  written = q.written ∙ p.written;
}

-- ---- a copy of a shape

-- what is made of the shape's edit
abbrev made_of : Change → List FileAt → ℕ → ℕ → Copied
made_of edit added next last = record {
  edit = record {
    comparator = edit.comparator;
    log = Some 0;
    prev_log = Some 0;
    next = Some next;
    last = Some last;
    pointers = edit.pointers;
    deleted = edit.deleted;
    added = added;
  };
  next = next;
  last = last;
  writes = 0;
}

pub of_fits : (From Into : ℕ → List ℕ → Type 0) (shape : Form) (edit : Change)
    (lent files added : List FileAt) (next last : ℕ) → edit ≡ whole_edit shape
    → IsFit (whole_edit shape) → lent ≡ edit.added → added ≡ files
    → Copying From Into lent files → IsFitting (made_of edit added next last)
of_fits From Into shape edit lent files added next last p whole q r so =
    let fit = subst IsFit (sym p) whole in
    record {
      fits = record {
        comparator = fit.comparator;
        pointers = fit.pointers;
        deleted = fit.deleted;
        added = subst (All FitsAdded) (sym r)
            (copies_fit From Into lent files so.0 so.1 (subst (All FitsAdded) (sym q) fit.added));
      };
      none = ap (λ (e : Change). e.deleted) p;
    }
