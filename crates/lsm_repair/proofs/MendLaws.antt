-- One table of all, and what names it.
use Rattle.std.proofs.Common.{◌≡◌, ℕ, zero, suc, ◌+◌, ◌-◌, ◌<◌, ◌≤◌, ◌^◌, List, [], ◌∷◌}
use Rattle.std.proofs.Common.{length, get_or, map, None, refl, sym, ap, ◌∙◌, subst, inl, inr, arith}
use Rattle.std.specs.Prelude.{◌⊎◌, IfErr, IfOk, IfSome, OnOk, Option, Result, Ok, Err}
use Rattle.std.specs.List.{flat_map}
use Rattle.std.specs.List.Sorted.{IsStrictlySortedBy}
use Rattle.lsm_codec.specs.Entries.{Entry, internal_key}
use Rattle.lsm_codec.specs.Keys.{IsKey}
use Rattle.lsm_codec.specs.Lists.{Has}
use Rattle.lsm_codec.proofs.CallerLemmas.{flat_has, has_flat, internal_of}
use Rattle.lsm_shelf.specs.Asked.{Asked, Put}
use Rattle.lsm_shelf.specs.Told.{Becomes, Told, listing, putting}
use Rattle.lsm_shelf.specs.declared.shelf_fault.ShelfFault.{ShelfFault}
use Rattle.lsm_table.specs.HeldTable.{entries_in}
use Rattle.lsm_table.specs.Registry.{Table}
use Rattle.lsm_table.specs.Table.{IsImage}
use Rattle.lsm_table.specs.TableImage.{Imaged}
use Rattle.lsm_manifest.specs.EditFit.{FitsKey}
use Rattle.lsm_manifest.specs.FileOrder.{TableFile, file_cmp}
use Rattle.lsm_manifest.specs.Manifest.{IsManifest}
use Rattle.lsm_manifest.specs.Shape.{IsReplayed, IsShape}
use Rattle.lsm_manifest.specs.WholeEdit.{FitsShape}
use Rattle.lsm_model.specs.Files.{File, Fits, IsLawful, Shallower}
use Rattle.lsm_version.specs.Versions.{IsSound, IsWhole, file_of, level_in}
use Rattle.lsm_repair.specs.Mending.{ChangesNothing, IsMended, IsTakenIn, IsUnput, PutsAtMost}
use Rattle.lsm_repair.specs.Mending.{edit_of, file_at, levels_of, manifest_of, shape_of}
use Rattle.lsm_repair.specs.Mending as mending
use Rattle.lsm_repair.specs.Merging.{IsMerged}
use Rattle.lsm_repair.specs.declared.left_out.LeftOut.{LeftOut}
use Rattle.lsm_repair.specs.declared.mend_fault.MendFault.{MendFault}
use Rattle.lsm_repair.specs.declared.mend_fault.MendFault.TheVariants.{OutOfMemory, TooLarge}
use Rattle.lsm_repair.specs.OldManifest.{IsOld}
use Rattle.lsm_repair.specs.declared.old_logs.OldLogs.{OldLogs}
use Rattle.lsm_repair.specs.Reading.{Held, TableRead, held_at, held_of}

one_of : {X : Type 0} (x y : X) → Has (x ∷ []) y → x ≡ y
one_of x y (inl e) = e
one_of x y (inr h) = absurd h

-- ---- the shape

file_six : (f : TableFile) (level : ℕ) (g : TableFile)
    → Has (get_or ([] ∷ [] ∷ [] ∷ [] ∷ [] ∷ [] ∷ (f ∷ []) ∷ []) level []) g → (level ≡ 6) × (f ≡ g)
file_six f zero g h = absurd h
file_six f (suc zero) g h = absurd h
file_six f (suc (suc zero)) g h = absurd h
file_six f (suc (suc (suc zero))) g h = absurd h
file_six f (suc (suc (suc (suc zero)))) g h = absurd h
file_six f (suc (suc (suc (suc (suc zero))))) g h = absurd h
file_six f (suc (suc (suc (suc (suc (suc zero)))))) g h = (refl, one_of f g h)
file_six f (suc (suc (suc (suc (suc (suc (suc n))))))) g h = absurd h

ordered_level : (f : TableFile) (level : ℕ)
    → IsStrictlySortedBy file_cmp (get_or ([] ∷ [] ∷ [] ∷ [] ∷ [] ∷ [] ∷ (f ∷ []) ∷ []) level [])
unfolding IsStrictlySortedBy
ordered_level f zero = tt
ordered_level f (suc zero) = tt
ordered_level f (suc (suc zero)) = tt
ordered_level f (suc (suc (suc zero))) = tt
ordered_level f (suc (suc (suc (suc zero)))) = tt
ordered_level f (suc (suc (suc (suc (suc zero))))) = tt
ordered_level f (suc (suc (suc (suc (suc (suc zero)))))) = (tt, tt)
ordered_level f (suc (suc (suc (suc (suc (suc (suc n))))))) = tt

pub is_shape : (number : ℕ) (image : Imaged) (logs : OldLogs) (last : ℕ)
    → IsShape (shape_of number image logs last)
is_shape number image logs last =
    let f = file_at number image in
    record {
      seven = refl;
      seven_pointers = refl;
      ordered = λ level low. ordered_level f level;
      numbers = λ level other g h low low_too has has_too same.
          (let a = file_six f level g has in let b = file_six f other h has_too in
          (a.0 ∙ sym b.0, sym a.1 ∙ b.1));
    }

abbrev nones : List (Option (List ℕ))
nones = None ∷ None ∷ None ∷ None ∷ None ∷ None ∷ None ∷ []

none_at : (level : ℕ) → get_or nones level None ≡ None
none_at zero = refl
none_at (suc zero) = refl
none_at (suc (suc zero)) = refl
none_at (suc (suc (suc zero))) = refl
none_at (suc (suc (suc (suc zero)))) = refl
none_at (suc (suc (suc (suc (suc zero))))) = refl
none_at (suc (suc (suc (suc (suc (suc zero)))))) = refl
none_at (suc (suc (suc (suc (suc (suc (suc n))))))) = refl

fits_key : (s : List ℕ) (e : Entry) → IsKey s (internal_key e) → length s < 2 ^ 32 → FitsKey s
fits_key s e is short = record { short = short; internal = internal_of s (internal_key e) is }

pub fits_shape : (number : ℕ) (image : Imaged) (logs : OldLogs) (last : ℕ)
    → mending.IsTable image
    → length image.smallest < 2 ^ 32 → length image.largest < 2 ^ 32
    → FitsShape (shape_of number image logs last)
fits_shape number image logs last (made, i) low high =
    let f = file_at number image in
    record {
      files = λ level g low_level has.
          (let same = (file_six f level g has).1 in (
            subst (λ (x : TableFile). FitsKey x.smallest) same
                (fits_key image.smallest i.first i.smallest_is low),
            subst (λ (x : TableFile). FitsKey x.largest) same
                (fits_key image.largest i.last i.largest_is high),
          ));
      pointers = λ level low_level.
          subst (λ (o : Option (List ℕ)). IfSome o FitsKey) (sym (none_at level)) tt;
    }

-- ---- the version

level_six : (t : Table) (n : ℕ) (u : Table)
    → Has (level_in ([] ∷ [] ∷ [] ∷ [] ∷ [] ∷ [] ∷ (t ∷ []) ∷ []) n) u → t ≡ u
level_six t zero u h = absurd h
level_six t (suc zero) u h = absurd h
level_six t (suc (suc zero)) u h = absurd h
level_six t (suc (suc (suc zero))) u h = absurd h
level_six t (suc (suc (suc (suc zero)))) u h = absurd h
level_six t (suc (suc (suc (suc (suc zero))))) u h = absurd h
level_six t (suc (suc (suc (suc (suc (suc zero)))))) u h = one_of t u h
level_six t (suc (suc (suc (suc (suc (suc (suc n))))))) u h = absurd h

not_shallower : (X F G : File) → X.level ≡ 6 → X ≡ F → X ≡ G → Shallower F G → ⊥
not_shallower X F G six f g (inl less) =
    let a : X.level ≡ F.level = ap (λ (Y : File). Y.level) f in
    let b : X.level ≡ G.level = ap (λ (Y : File). Y.level) g in
    absurd (omega (arith, less, a, b))
not_shallower X F G six f g (inr zeros) =
    let a : X.level ≡ F.level = ap (λ (Y : File). Y.level) f in
    let z : F.level ≡ 0 = zeros.0 in
    absurd (omega (arith, six, a, z))

lawful_one : (X : File) → X.level ≡ 6 → Fits X → IsLawful (X ∷ [])
lawful_one X six fits = record {
  fits = λ F h. subst Fits (one_of X F h) fits;
  numbers = λ F G h k same. sym (one_of X F h) ∙ one_of X G k;
  in_order = λ F G h k level low other.
      absurd (other (ap (λ (Y : File). Y.number) (sym (one_of X F h) ∙ one_of X G k)));
  depth = λ F G x y h k above a b user.
      absurd (not_shallower X F G six (one_of X F h) (one_of X G k) above);
}

abbrev pub table_at : ℕ → Imaged → Table
table_at number image = record {
  index = 0;
  number = number;
  smallest = image.smallest;
  largest = image.largest;
  image = image.bytes;
}

pub sound_one : (number last : ℕ) (made : List Entry) (image : Imaged) (t : Table)
    → t ≡ table_at number image
    → IsWhole t → Fits (file_of 6 t) → entries_in image.bytes ≡ made
    → ((e : Entry) → Has made e → e.seq ≤ last) → IsSound (levels_of number image last)
sound_one number last made image t is whole fits same reached =
    let u = table_at number image in
    record {
      lawful = lawful_one (file_of 6 u) refl (subst (λ (x : Table). Fits (file_of 6 x)) is fits);
      tables = λ n x h. subst IsWhole (is ∙ level_six u n x h) whole;
      reached = λ F e h k.
          reached e (subst (λ (l : List Entry). Has l e) same
          (subst (λ (Y : File). Has Y.entries e) (sym (one_of (file_of 6 u) F h)) k));
    }

-- ---- the entries

has_map : {X Y : Type 0} (f : X → Y) (xs : List X) (x : X) → Has xs x → Has (map f xs) (f x)
has_map f [] x h = absurd h
has_map f (y ∷ xs) x (inl e) = inl (ap f e)
has_map f (y ∷ xs) x (inr h) = inr (has_map f xs x h)

map_has : {X Y : Type 0} (f : X → Y) (xs : List X) (y : Y) → Has (map f xs) y
    → (x : X) × Has xs x × (f x ≡ y)
map_has f [] y h = absurd h
map_has f (x ∷ xs) y (inl e) = (x, inl refl, e)
map_has f (x ∷ xs) y (inr h) = (let r = map_has f xs y h in (r.0, inr r.1, r.2))

-- an entry of a table that was read is held
pub held_has : (reads : List TableRead) (held : List Held) → held ≡ flat_map held_of reads
    → (t : TableRead) (e : Entry) → Has reads t → Has t.entries e → Has held (held_at t.number e)
held_has reads held is t e has its =
    subst (λ (l : List Held). Has l (held_at t.number e)) (sym is)
    (has_flat held_of reads t (held_at t.number e) has (has_map (held_at t.number) t.entries e its))

-- and each that is held is one
pub has_held : (reads : List TableRead) (held : List Held) → held ≡ flat_map held_of reads
    → (h : Held) → Has held h → (t : TableRead) × Has reads t × Has t.entries h.entry
has_held reads held is h has =
    let r = flat_has held_of reads h (subst (λ (l : List Held). Has l h) is has) in
    let m = map_has (held_at r.0.number) r.0.entries h r.2 in
    (r.0, r.1, subst (Has r.0.entries) (ap (λ (x : Held). x.entry) m.2) m.1)

-- ---- steps

-- tables were listed, and read
pub listed_same : (numbers : List ℕ) (a b c : Told) → Becomes (listing numbers a) b → Becomes b c
    → ChangesNothing a c
listed_same numbers a b c p q = record { place = q.place ∙ p.place; made = q.made ∙ p.made }

pub unlisted_same : (a b : Told) → Becomes a b → ChangesNothing a b
unlisted_same a b p = record { place = p.place; made = p.made }

-- a table was put
pub puts_one : (number : ℕ) (image : List ℕ) (a b : Told) → Becomes (putting number image a) b
    → PutsAtMost number a b
puts_one number image a b p = record { place = p.place; made = inr (image, p.made) }

pub puts_none : (number : ℕ) (a b : Told) → ChangesNothing a b → PutsAtMost number a b
puts_none number a b p = record { place = p.place; made = inl p.made }

pub puts_same : (number : ℕ) (a b : Told) → Becomes a b → PutsAtMost number a b
puts_same number a b p = record { place = p.place; made = inl p.made }

pub same_then : (a b c : Told) → ChangesNothing a b → ChangesNothing b c → ChangesNothing a c
same_then a b c p q = record { place = q.place ∙ p.place; made = q.made ∙ p.made }

made_then : (number : ℕ) (a b c : Told) → b.made ≡ a.made
    → (c.made ≡ b.made) ⊎ ((image : List ℕ) × (c.made ≡ Put number image ∷ b.made))
    → (c.made ≡ a.made) ⊎ ((image : List ℕ) × (c.made ≡ Put number image ∷ a.made))
made_then number a b c p (inl q) = inl (q ∙ p)
made_then number a b c p (inr (image, q)) =
    inr (image, q ∙ ap (λ (calls : List Asked). Put number image ∷ calls) p)

pub puts_later : (number : ℕ) (a b c : Told) → ChangesNothing a b → PutsAtMost number b c
    → PutsAtMost number a c
puts_later number a b c p q = record {
  place = q.place ∙ p.place;
  made = made_then number a b c p.made q.made;
}

pub file_from : (r : Result TableFile MendFault) (number size : ℕ) (s l : List ℕ) (image : Imaged)
    → IfOk r (λ f. f ≡ record { number = number; size = size; smallest = s; largest = l })
    → size ≡ length image.bytes → s ≡ image.smallest → l ≡ image.largest
    → IfOk r (λ f. f ≡ file_at number image)
file_from (Ok f) number size s l image is a b c =
    is ∙ (λ i. record { number = number; size = a i; smallest = b i; largest = c i })
file_from (Err e) number size s l image is a b c = tt

pub short_from : (r : Result TableFile MendFault) (s l : List ℕ) (image : Imaged)
    → OnOk r ((length s < 2 ^ 32) × (length l < 2 ^ 32)) → s ≡ image.smallest → l ≡ image.largest
    → OnOk r ((length image.smallest < 2 ^ 32) × (length image.largest < 2 ^ 32))
short_from (Ok f) s l image short b c = (
  subst (λ (k : List ℕ). length k < 2 ^ 32) b short.0,
  subst (λ (k : List ℕ). length k < 2 ^ 32) c short.1,
)
short_from (Err e) s l image short b c = tt

pub unput_from : (Denied : Asked → ShelfFault → Type 0) (r : Result TableFile MendFault)
    (number : ℕ) (s l : List ℕ) (image : Imaged)
    → IfErr r (λ e. (e ≡ OutOfMemory)
    ⊎ ((e ≡ TooLarge) × ((2 ^ 32 ≤ length s) ⊎ (2 ^ 32 ≤ length l))))
    → s ≡ image.smallest → l ≡ image.largest → IfErr r (IsUnput Denied number image)
unput_from Denied (Ok f) number s l image long b c = tt
unput_from Denied (Err e) number s l image (inl want) b c = inl want
unput_from Denied (Err e) number s l image (inr (large, inl first)) b c =
    inr (inr (large, inl (subst (λ (k : List ℕ). 2 ^ 32 ≤ length k) b first)))
unput_from Denied (Err e) number s l image (inr (large, inr second)) b c =
    inr (inr (large, inr (subst (λ (k : List ℕ). 2 ^ 32 ≤ length k) c second)))

-- ---- all

abbrev pub Replays : Type 0
Replays = (number last : ℕ) (logs : OldLogs) (image : Imaged)
    → IsReplayed (edit_of (file_at number image) logs (number + 2) last ∷ [])
    (shape_of number image logs last)

abbrev pub Sounds : Type 0
Sounds = (number last : ℕ) (made : List Entry) (image : Imaged)
    → IsImage made image.smallest image.largest image.bytes
    → ((e : Entry) → Has made e → e.seq ≤ last) → IsSound (levels_of number image last)

pub mended : Replays → Sounds → (Given : ℕ → List ℕ → Type 0) (Denied : Asked → ShelfFault → Type 0)
    (number : ℕ) (manifest : List ℕ) (logs : OldLogs) (whole count : ℕ) (left : List LeftOut)
    (was begun mid is : Told) (held : List Held) (image : Imaged) (last : ℕ)
    → IsOld Denied logs was begun → IsTakenIn Given held left whole begun mid
    → IsMerged held last count image → manifest ≡ manifest_of number image logs last
    → IsManifest (manifest_of number image logs last)
    (edit_of (file_at number image) logs (number + 2) last ∷ []) 0
    → Given number image.bytes → Becomes (putting number image.bytes mid) is
    → IsMended Given Denied number manifest logs whole count left was is
mended replays sounds Given Denied number manifest logs whole count left was begun mid is held image
    last old t m named spelled put put_last =
    let r = t.read in
    record {
      begun = begun;
      old = old;
      numbers = t.numbers;
      mid = mid;
      listed = t.listed;
      reads = r.reads;
      numbered = r.numbered;
      each = r.each;
      left_are = r.left_are;
      counted = t.counted;
      made = m.made;
      all = λ x e has its.
          m.union.to (held_at x.number e) (held_has r.reads held r.entries_are x e has its);
      only = λ e has.
          (let u = m.union.from e has in let o = has_held r.reads held r.entries_are u.0 u.1 in
          (o.0, o.1, subst (Has o.0.entries) u.2 o.2));
      entries = m.counted;
      image = image;
      table = m.table;
      put = put;
      put_last = put_last;
      last = last;
      reached = m.union.reached;
      one = m.union.one;
      manifest_is = named;
      spelled = spelled;
      replayed = replays number last logs image;
      sound = sounds number last m.made image m.table m.union.reached;
    }
