-- Seeking a user key: what is not below the greatest key of it is what is at or past it.
use Rattle.std.proofs.Common.{◌≡◌, ◌≢◌, ℕ, ◌-◌, ◌^◌, ◌<◌, ◌≤◌, Bool, true, false, cond, List, [], ◌∷◌, ◌++◌, Option, Some, None, Result, Err, Ordering, Less, Equal, Greater, refl, sym, ◌∙◌, ap, subst, inl, inr, arith}
use Rattle.std.specs.Prelude.{not}
use Rattle.std.specs.List.{filter}
use Rattle.std.specs.Cmp.Lexicographic.{slice_cmp}
use Rattle.std.specs.Ordering.{MatchOrdering, nat_cmp, is_lt, is_le, ordering_reverse}
use Rattle.std.specs.Cmp.{ranks}
use Rattle.std.proofs.lemmas.Cmp.{nat_list_cmp_total}
use Rattle.std.proofs.lemmas.List.Elements.{filter-append}
use Rattle.lsm_codec.specs.Entries.{Entry, internal_key, stamp}
use Rattle.lsm_codec.specs.Keys.{UserKey, UserLe, InternalKey, key_cmp, packed, then_by, user_le}
use Rattle.lsm_codec.specs.Lists.{Has}
use Rattle.lsm_codec.proofs.CallerLemmas.{filter_has, has_cases, has_left, has_right, kind_number_le, user_le_trans}
use Rattle.lsm_block.specs.Block.{Ascends, Spells, key_text}
use Rattle.lsm_block.specs.Seeking.{not_below}
use Rattle.lsm_block.proofs.CallerLemmas.{ascends-tail, below-nothing, below-step, below-stop}
use Rattle.lsm_table.specs.declared.read_fault.ReadFault.{ReadFault}
use Rattle.lsm_table.specs.declared.read_fault.ReadFault.TheVariants.{Shelf, Table}
use Rattle.lsm_table.specs.declared.table_fault.TableFault.{TableFault}
use Rattle.lsm_table.specs.HeldTable.{entries_in}
use Rattle.lsm_table.specs.OpenTable.{opening_at}
use Rattle.lsm_table.specs.ReadFault.{IsMemoryOrShelf}
use Rattle.lsm_table.specs.Reading.{Fails}
use Rattle.lsm_table.specs.Searching.{read_key}
use Rattle.lsm_table.specs.Table.{DataBlocks, IsTable, concat}
use Rattle.lsm_table.proofs.CallerLemmas.{data_ascends, memory_only, opening_again}
use Rattle.lsm_reader.specs.Blocks.{Reads}
use Rattle.lsm_model.specs.Merging.{IsSorted, Placed, goes_first, placed_at}
use Rattle.lsm_model.proofs.CallerLemmas.{before_says, first_says}
use Rattle.lsm_iterators.specs.Runs.{HasEntries, entries_of_all, numbered_all}
use Rattle.lsm_iterators.specs.Seeking.{at_or_past, placed_past}

-- what is refused where a table is opened is the shelf's, or want of memory
pub opening_sound : {X : Type 0} (see : X → List Entry) (fault : ReadFault) (image : List ℕ) (es : List Entry) → IsTable image es → Reads see (Err fault) (opening_at image) → IsMemoryOrShelf fault
opening_sound see (Shelf fault) image es t r = tt
opening_sound see (Table fault) image es t r = memory_only fault t.index (subst (λ (x : Result (List Entry) TableFault). Fails fault x) (opening_again image es t) r)

-- ---- the sequences of a table's entries

spelled_fit : (es : List Entry) (offset : ℕ) (before text starts : List ℕ) → Spells offset before text starts es → (e : Entry) → Has es e → e.seq < 2 ^ 56
spelled_fit [] offset before text starts s e h = absurd h
spelled_fit (x ∷ es) offset before text starts s e (inl same) = subst (λ (w : Entry). w.seq < 2 ^ 56) same s.4.seq_fits
spelled_fit (x ∷ es) offset before text starts s e (inr h) = spelled_fit es _ (key_text x) s.2 s.3 s.7 e h

data_fit : (body : List ℕ) (bound : Option InternalKey) (index : List Entry) (groups : List (List Entry)) → DataBlocks body bound index groups → (e : Entry) → Has (concat groups) e → e.seq < 2 ^ 56
data_fit body bound [] [] d e h = absurd h
data_fit body bound [] (group ∷ groups) d e h = absurd d
data_fit body bound (i ∷ index) [] d e h = absurd d
data_fit body bound (i ∷ index) ([] ∷ groups) d e h = absurd d
data_fit body bound (i ∷ index) ((f ∷ fs) ∷ groups) d e h = elim (has_cases (f ∷ fs) (concat groups) e h) [
  | inl a ↦ spelled_fit (f ∷ fs) 0 [] d.0.block.text d.0.block.starts d.0.block.spelled e a
  | inr b ↦ data_fit body (Some (internal_key i)) index groups d.3 e b
]

abbrev SeqsFit : List Entry → Type 0
SeqsFit es = (e : Entry) → Has es e → e.seq < 2 ^ 56

table_fits : (image : List ℕ) (es : List Entry) → IsTable image es → SeqsFit es
table_fits image es t = subst SeqsFit t.entries_are (data_fit t.body None t.index t.groups t.blocks)

table_ascends : (image : List ℕ) (es : List Entry) → IsTable image es → Ascends es
table_ascends image es t = subst Ascends t.entries_are (data_ascends t.body None t.index t.groups t.indexed.ascends t.blocks)

-- ---- the greatest key of a user key

abbrev greatest : UserKey → InternalKey
greatest from = read_key from (2 ^ 56 - 1)

no_greater : (e : Entry) (from : UserKey) → e.seq < 2 ^ 56 → stamp e ≤ packed (greatest from)
no_greater e from fits = let one = kind_number_le e.kind in omega arith

is_below : (from : UserKey) (e : Entry) → e.seq < 2 ^ 56 → is_lt (key_cmp (internal_key e) (greatest from)) ≡ not (user_le from e.user)
unfolding user_le
is_below from e fits = go (slice_cmp nat_cmp e.user from) (slice_cmp nat_cmp from e.user) (nat_list_cmp_total.antisymm e.user from)
  where
    no_less : nat_cmp (packed (greatest from)) (stamp e) ≡ Less → ⊥
    no_less h =
        let lt : packed (greatest from) < stamp e = subst (λ (o : Ordering). MatchOrdering o (packed (greatest from) < stamp e) (packed (greatest from) ≡ stamp e) (stamp e < packed (greatest from))) h (ranks (packed (greatest from)) (stamp e)) in
        let le : stamp e ≤ packed (greatest from) = no_greater e from fits in
        absurd (omega (arith, lt, le))

    at : (o : Ordering) → nat_cmp (packed (greatest from)) (stamp e) ≡ o → is_lt o ≡ false
    at Less h = absurd (no_less h)
    at Equal h = refl
    at Greater h = refl

    go : (o p : Ordering) → o ≡ ordering_reverse p → is_lt (then_by o (nat_cmp (packed (greatest from)) (stamp e))) ≡ not (is_le p)
    go Less Less h = absurd (cc h)
    go Less Equal h = absurd (cc h)
    go Less Greater h = refl
    go Equal Less h = absurd (cc h)
    go Equal Equal h = at (nat_cmp (packed (greatest from)) (stamp e)) refl
    go Equal Greater h = absurd (cc h)
    go Greater Less h = refl
    go Greater Equal h = absurd (cc h)
    go Greater Greater h = absurd (cc h)

-- ---- what is at or past a user key

-- what holds of each is left by a filter
filter_all : {X : Type 0} (p : X → Bool) (xs : List X) → ((x : X) → Has xs x → p x ≡ true) → filter p xs ≡ xs
filter_all p [] all = refl
filter_all {X} p (x ∷ xs) all =
    ap (λ (b : Bool). cond b (x ∷ filter p xs) (filter p xs)) (all x (inl refl)) ∙ ap (λ (l : List X). x ∷ l) (filter_all p xs (λ y h. all y (inr h)))

next_past : (from : UserKey) (x y : Entry) → goes_first x y ≡ true → UserLe from x.user → UserLe from y.user
next_past from x y first h = elim (first_says x y first) [
  | inl same ↦ subst (UserLe from) same.0 h
  | inr less ↦ user_le_trans from x.user y.user h less.1
]

ascending_past : (from : UserKey) (e : Entry) (es : List Entry) → Ascends (e ∷ es) → UserLe from e.user → (x : Entry) → Has es x → UserLe from x.user
ascending_past from e [] a h x k = absurd k
ascending_past from e (f ∷ es) a h x k = more k (ascending_past from f es a.1 next x)
  where
    next : UserLe from f.user
    next = elim (before_says e f a.0) [ inl less ↦ user_le_trans from e.user f.user h less.0 | inr same ↦ subst (UserLe from) same.0 h ]

    more : Has (f ∷ es) x → (Has es x → UserLe from x.user) → UserLe from x.user
    more (inl same) rest = subst (λ (w : Entry). UserLe from w.user) same next
    more (inr later) rest = rest later

sought : (from : UserKey) (es : List Entry) → Ascends es → SeqsFit es → not_below (greatest from) es ≡ at_or_past from es
sought from [] a fits = below-nothing (greatest from)
sought from (e ∷ es) a fits = go (user_le from e.user) refl (sought from es (ascends-tail e es a) (λ x k. fits x (inr k)))
  where
    all : UserLe from e.user → (x : Entry) → Has (e ∷ es) x → UserLe from x.user
    all h x (inl same) = subst (λ (w : Entry). UserLe from w.user) same h
    all h x (inr later) = ascending_past from e es a h x later

    go : (b : Bool) → user_le from e.user ≡ b → not_below (greatest from) es ≡ at_or_past from es → not_below (greatest from) (e ∷ es) ≡ at_or_past from (e ∷ es)
    go true h rest = below-stop (greatest from) e es (is_below from e (fits e (inl refl)) ∙ ap not h) ∙ sym (filter_all (λ (x : Entry). user_le from x.user) (e ∷ es) (all h))
    go false h rest = below-step (greatest from) e es (is_below from e (fits e (inl refl)) ∙ ap not h) ∙ rest
        ∙ sym (ap (λ (b : Bool). cond b (e ∷ at_or_past from es) (at_or_past from es)) h)

pub sought_table : (from : UserKey) (image : List ℕ) → HasEntries image → not_below (greatest from) (entries_in image) ≡ at_or_past from (entries_in image)
sought_table from image t = sought from (entries_in image) (table_ascends image (entries_in image) t.table) (table_fits image (entries_in image) t.table)

-- ---- tables one after another, of which the first has an entry at or past the user key

some_past : (from : UserKey) (es : List Entry) → at_or_past from es ≢ [] → (e : Entry) × Has es e × UserLe from e.user
some_past from es some = go (at_or_past from es) refl some
  where
    go : (l : List Entry) → at_or_past from es ≡ l → l ≢ [] → (e : Entry) × Has es e × UserLe from e.user
    go [] same none = absurd (none refl)
    go (e ∷ l) same h = (let r = filter_has (λ (x : Entry). user_le from x.user) es e (subst (λ (m : List Entry). Has m e) (sym same) (inl refl)) in (e, r.0, r.1))

across : (xs ys : List Entry) → IsSorted (xs ++ ys) → (x y : Entry) → Has xs x → Has ys y → goes_first x y ≡ true
across [] ys s x y hx hy = absurd hx
across (z ∷ xs) ys s x y (inl same) hy = subst (λ (w : Entry). goes_first w y ≡ true) same (s.0 y (has_right xs ys y hy))
across (z ∷ xs) ys s x y (inr hx) hy = across xs ys s.1 x y hx hy

later_past : (from : UserKey) (xs ys : List Entry) → IsSorted (xs ++ ys) → at_or_past from xs ≢ [] → (y : Entry) → Has ys y → UserLe from y.user
later_past from xs ys s some y h = (let r = some_past from xs some in next_past from r.0 y (across xs ys s r.0 y r.1 h) r.2)

pub first_sought : (from : UserKey) (xs ys : List Entry) → IsSorted (xs ++ ys) → at_or_past from xs ≢ [] → at_or_past from xs ++ ys ≡ at_or_past from (xs ++ ys)
first_sought from xs ys s some =
    ap (λ (l : List Entry). at_or_past from xs ++ l) (sym (filter_all (λ (x : Entry). user_le from x.user) ys (later_past from xs ys s some)))
    ∙ sym (filter-append (λ (x : Entry). user_le from x.user) xs ys)

placed_sought : (from : UserKey) (n : ℕ) (es : List Entry) → placed_past from (placed_at n es) ≡ placed_at n (at_or_past from es)
placed_sought from n [] = refl
placed_sought from n (e ∷ es) = go (user_le from e.user) (placed_sought from n es)
  where
    go : (b : Bool) → placed_past from (placed_at n es) ≡ placed_at n (at_or_past from es)
        → (let p : Placed = (n, e) in cond b (p ∷ placed_past from (placed_at n es)) (placed_past from (placed_at n es))) ≡ placed_at n (cond b (e ∷ at_or_past from es) (at_or_past from es))
    go true h = ap (λ (l : List Placed). (n, e) ∷ l) h
    go false h = h

of_numbered : (ns : List ℕ) (images : List (List ℕ)) (q : Placed) → Has (numbered_all ns images) q → Has (entries_of_all images) q.1
of_numbered ns [] q h = absurd h
of_numbered [] (image ∷ images) q h = absurd h
of_numbered (n ∷ ns) (image ∷ images) q h = elim (has_cases (placed_at n (entries_in image)) (numbered_all ns images) q h) [
  | inl a ↦ has_left (entries_in image) (entries_of_all images) q.1 (of_placed (entries_in image) a)
  | inr b ↦ has_right (entries_in image) (entries_of_all images) q.1 (of_numbered ns images q b)
]
  where
    of_placed : (es : List Entry) → Has (placed_at n es) q → Has es q.1
    of_placed [] h = absurd h
    of_placed (e ∷ es) (inl same) = inl (ap (λ (p : Placed). p.1) same)
    of_placed (e ∷ es) (inr h) = inr (of_placed es h)

pub first_numbered : (from : UserKey) (n : ℕ) (ns : List ℕ) (image : List ℕ) (images : List (List ℕ)) → IsSorted (entries_in image ++ entries_of_all images) → at_or_past from (entries_in image) ≢ []
    → placed_at n (at_or_past from (entries_in image)) ++ numbered_all ns images ≡ placed_past from (placed_at n (entries_in image) ++ numbered_all ns images)
first_numbered from n ns image images s some =
    ap (λ (l : List Placed). l ++ numbered_all ns images) (sym (placed_sought from n (entries_in image)))
    ∙ ap (λ (l : List Placed). placed_past from (placed_at n (entries_in image)) ++ l) (sym (filter_all (λ (p : Placed). user_le from p.1.user) (numbered_all ns images)
    (λ q h. later_past from (entries_in image) (entries_of_all images) s some q.1 (of_numbered ns images q h))))
    ∙ sym (filter-append (λ (p : Placed). user_le from p.1.user) (placed_at n (entries_in image)) (numbered_all ns images))

-- ---- from the least user key on

pub least : (k : UserKey) → UserLe [] k
unfolding user_le
least [] = refl
least (x ∷ k) = refl

pub past_all : (es : List Entry) → at_or_past [] es ≡ es
past_all es = filter_all (λ (x : Entry). user_le [] x.user) es (λ x h. least x.user)
