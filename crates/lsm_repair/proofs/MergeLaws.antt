-- Entries of several tables, in order, each once.
use Rattle.std.proofs.Common.{◌≡◌, ℕ, zero, suc, ◌+◌, ◌<◌, ◌≤◌, Bool, true, false, List, [], ◌∷◌}
use Rattle.std.proofs.Common.{◌++◌, length}
use Rattle.std.proofs.Common.{get_or, take, drop, max, Some, refl, sym, ap, ◌∙◌, subst}
use Rattle.std.proofs.Common.{inl, inr, arith, ◌^◌}
use Rattle.std.proofs.Common.{Ordering, Less, Equal, Greater}
use Rattle.std.specs.Prelude.{◌⊎◌, IfErr, IfOk, Result, Ok, Err}
use Rattle.std.specs.Cmp.{IsStrictWeakOrder}
use Rattle.std.specs.List.Sorted.{IsPermutation, IsSortedBy}
use Rattle.std.specs.Ordering.{is_lt, ordering_reverse}
use Rattle.std.proofs.lemmas.List.{take_all}
use Rattle.std.proofs.lemmas.List.Sorted.{Contains-permutation, IsPermutation-sym}
use Rattle.std.proofs.lemmas.List.Sorted.{length_permutation, ranks_by}
use Rattle.std.proofs.Math.Seq.{drop-cons, take-suc}
use Rattle.lsm_codec.specs.Entries.{Entry, entry_cmp, internal_key}
use Rattle.lsm_codec.specs.Keys.{InternalKey, key_cmp}
use Rattle.lsm_codec.specs.Lists.{Has}
use Rattle.lsm_codec.proofs.CallerLemmas.{contains_from, contains_says, has_cases, has_left}
use Rattle.lsm_codec.proofs.CallerLemmas.{has_right}
use Rattle.lsm_codec.proofs.CallerLemmas.{key_cmp_total, key_cmp-swapped, key_cmp-Equal}
use Rattle.lsm_block.specs.Block.{Ascends, entry_of}
use Rattle.lsm_block.specs.Building.{last_key}
use Rattle.lsm_block.specs.declared.build_fault.BuildFault.{BuildFault}
use Rattle.lsm_block.specs.declared.build_fault.BuildFault.TheVariants as build
use Rattle.lsm_block.proofs.CallerLemmas.{ascends-push}
use Rattle.lsm_table.specs.TableBuilding.{PassesLimit, groups_by, index_block}
use Rattle.lsm_table.specs.TableImage.{Imaged}
use Rattle.lsm_table.specs.declared.table_options.TableOptions.{TableOptions}
use Rattle.lsm_repair.specs.Reading.{Held}
use Rattle.lsm_repair.specs.Merging.{AddsOnce, AreOrdered, IsMerged, IsTop, IsUnadded, IsUnbuilt}
use Rattle.lsm_repair.specs.Merging.{IsUnion, IsUnmerged}
use Rattle.lsm_repair.specs.declared.mend_fault.MendFault.{MendFault}
use Rattle.lsm_repair.specs.declared.mend_fault.MendFault.TheVariants.{OutOfMemory, TooLarge}

-- ---- the order

-- whether an entry comes before another one
abbrev pub goes_first : Held → Held → Bool
goes_first x y = is_lt (entry_cmp x.entry y.entry)

pub goes_first-order : IsStrictWeakOrder goes_first
goes_first-order = ranks_by key_cmp_total (λ (h : Held). internal_key h.entry)

sorted_tail : (w : Held) (ws : List Held) → IsSortedBy goes_first (w ∷ ws)
    → IsSortedBy goes_first ws
sorted_tail w ws s k d least lt =
    let next : suc k + 1 ≡ suc (k + 1) = omega arith in
    subst (λ n. goes_first (get_or (w ∷ ws) n d) (get_or ws k d) ≡ false) next
    (s (suc k) d (omega arith) (omega (arith, lt)))

pub ordered_from : (ws : List Held) → IsSortedBy goes_first ws → AreOrdered ws
ordered_from [] s = tt
ordered_from (w ∷ []) s = tt
ordered_from (w ∷ u ∷ ws) s =
    (s 0 w (omega arith) (omega arith), ordered_from (u ∷ ws) (sorted_tail w (u ∷ ws) s))

-- ---- one entry more

pub comes_behind : (es : List Entry) (last k : InternalKey) (value : List ℕ) → Ascends es
    → last_key es ≡ Some last → is_lt (key_cmp last k) ≡ true
    → Ascends (es ++ entry_of k value ∷ [])
comes_behind es last k value a e t = ascends-push es (entry_of k value) a (rw e t)

tied : (o p : Ordering) → p ≡ ordering_reverse o → is_lt o ≡ false → is_lt p ≡ false → o ≡ Equal
tied Less p e f g = absurd (cc f)
tied Equal p e f g = refl
tied Greater Less e f g = absurd (cc g)
tied Greater Equal e f g = absurd (cc e)
tied Greater Greater e f g = absurd (cc e)

pub same_some : (a b : InternalKey) → Some a ≡ Some b → a ≡ b
same_some a b e = cc

-- neither comes before the other one
pub one_key : (top e : Held)
    → is_lt (key_cmp (internal_key top.entry) (internal_key e.entry)) ≡ false
    → is_lt (entry_cmp e.entry top.entry) ≡ false → internal_key top.entry ≡ internal_key e.entry
one_key top e not_less order =
    key_cmp-Equal (internal_key top.entry) (internal_key e.entry)
    (tied (entry_cmp top.entry e.entry) (entry_cmp e.entry top.entry)
    (key_cmp-swapped (internal_key e.entry) (internal_key top.entry)) not_less order)

pub one_entry : (a b : Entry) → internal_key a ≡ internal_key b → a.value ≡ b.value → b ≡ a
one_entry a b key value =
    λ i. record {
      user = (sym key i).user;
      seq = (sym key i).seq;
      kind = (sym key i).kind;
      value = sym value i;
    }

-- ---- all entries

has_one : {X : Type 0} (x y : X) → Has (x ∷ []) y → x ≡ y
has_one x y (inl e) = e
has_one x y (inr h) = absurd h

last_snoc : (es : List Entry) (e : Entry) → last_key (es ++ e ∷ []) ≡ Some (internal_key e)
last_snoc [] e = refl
last_snoc (x ∷ []) e = refl
last_snoc (x ∷ y ∷ es) e = last_snoc (y ∷ es) e

pub union_one : (h : Held) → IsUnion (h ∷ []) (h.entry ∷ []) h.entry.seq
union_one h = record {
  from = λ e k. (h, inl refl, has_one h.entry e k);
  to = λ k m. inl (ap (λ (x : Held). x.entry) (has_one h k m));
  reached = λ e k. (let s = ap (λ (x : Entry). x.seq) (has_one h.entry e k) in omega (arith, s));
  one = (h.entry, inl refl, refl);
}

pub top_one : (h : Held) → IsTop (h.entry ∷ []) h
top_one h = record { key = refl; here = inl refl }

max_is : (a b : ℕ) → (max a b ≡ a) ⊎ (max a b ≡ b)
max_is a b = grind arith

-- what reaches a list of which each entry is held
module _ (held : List Held) (made new : List Entry) (greatest : ℕ) (top e : Held)
    (union : IsUnion held made greatest) (is : IsTop made top) where
  pub union_more : AddsOnce top e made new → IsUnion (held ++ e ∷ []) new (max greatest e.entry.seq)
  union_more (inl added) = record {
    from = λ x k. elim (has_cases made (e.entry ∷ []) x
        (subst (λ (l : List Entry). Has l x) added k)) [
          | inl a ↦ (let r = union.from x a in (r.0, has_left held (e ∷ []) r.0 r.1, r.2))
          | inr b ↦ (e, has_right held (e ∷ []) e (inl refl), has_one e.entry x b)
        ];
    to = λ h k. subst (λ (l : List Entry). Has l h.entry) (sym added)
        (elim (has_cases held (e ∷ []) h k) [
          | inl a ↦ has_left made (e.entry ∷ []) h.entry (union.to h a)
          | inr b ↦ has_right made (e.entry ∷ []) h.entry
              (inl (ap (λ (x : Held). x.entry) (has_one e h b)))
        ]);
    reached = λ x k. elim (has_cases made (e.entry ∷ []) x
        (subst (λ (l : List Entry). Has l x) added k)) [
          | inl a ↦ (let r = union.reached x a in omega (arith, r))
          | inr b ↦ (let s = ap (λ (y : Entry). y.seq) (has_one e.entry x b) in omega (arith, s))
        ];
    one = elim (max_is greatest e.entry.seq) [
      | inl m ↦ (
        union.one.0,
        subst (λ (l : List Entry). Has l union.one.0) (sym added)
            (has_left made (e.entry ∷ []) union.one.0 union.one.1),
        union.one.2 ∙ sym m,
      )
      | inr m ↦ (
        e.entry,
        subst (λ (l : List Entry). Has l e.entry) (sym added)
            (has_right made (e.entry ∷ []) e.entry (inl refl)),
        sym m,
      )
    ];
  }
  union_more (inr (same, left)) =
      let s : e.entry.seq ≡ top.entry.seq = ap (λ (y : Entry). y.seq) same in
      let low : top.entry.seq ≤ greatest = union.reached top.entry is.here in
      let m : max greatest e.entry.seq ≡ greatest = omega (arith, s, low) in
      record {
        from = λ x k.
            (let r = union.from x (subst (λ (l : List Entry). Has l x) left k) in
            (r.0, has_left held (e ∷ []) r.0 r.1, r.2));
        to = λ h k. subst (λ (l : List Entry). Has l h.entry) (sym left)
            (elim (has_cases held (e ∷ []) h k) [
              | inl a ↦ union.to h a
              | inr b ↦ subst (Has made)
                  (sym same ∙ ap (λ (x : Held). x.entry) (has_one e h b)) is.here
            ]);
        reached = λ x k.
            (let r = union.reached x (subst (λ (l : List Entry). Has l x) left k) in
            omega (arith, r, m));
        one = (
          union.one.0,
          subst (λ (l : List Entry). Has l union.one.0) (sym left) union.one.1,
          union.one.2 ∙ sym m,
        );
      }

  pub top_more : AddsOnce top e made new → IsTop new e
  top_more (inl added) = record {
    key = ap last_key added ∙ last_snoc made e.entry;
    here = subst (λ (l : List Entry). Has l e.entry) (sym added)
        (has_right made (e.entry ∷ []) e.entry (inl refl));
  }
  top_more (inr (same, left)) = record {
    key = ap last_key left ∙ is.key ∙ ap (λ (x : Entry). Some (internal_key x)) (sym same);
    here = subst (λ (l : List Entry). Has l e.entry) (sym left)
        (subst (Has made) (sym same) is.here);
  }

-- ---- one step

pub next_ordered : (top : Held) (others : List Held) (i : ℕ) (e : Held) → i < length others
    → e ≡ get_or others i e → AreOrdered (top ∷ drop i others)
    → (is_lt (entry_cmp e.entry top.entry) ≡ false) × AreOrdered (e ∷ drop (i + 1) others)
next_ordered top others i e lt is o =
    let s : i + 1 ≡ suc i = omega arith in
    let cut : drop i others ≡ get_or others i e ∷ drop (i + 1) others =
    rw s (drop-cons others i e lt) in
    let tail : drop i others ≡ e ∷ drop (i + 1) others =
    cut ∙ ap (λ (x : Held). x ∷ drop (i + 1) others) (sym is) in
    let q : AreOrdered (top ∷ e ∷ drop (i + 1) others) =
    subst (λ (l : List Held). AreOrdered (top ∷ l)) tail o in
    (q.0, q.1)

pub take_next : (one : Held) (others : List Held) (i : ℕ) (e : Held) → i < length others
    → e ≡ get_or others i e → (one ∷ take i others) ++ e ∷ [] ≡ one ∷ take (i + 1) others
take_next one others i e lt is =
    let s : i + 1 ≡ suc i = omega arith in
    let more : take (i + 1) others ≡ take i others ++ get_or others i e ∷ [] =
    rw s (take-suc others i e lt) in
    sym (ap (λ (l : List Held). one ∷ l)
    (more ∙ ap (λ (x : Held). take i others ++ x ∷ []) (sym is)))

has_taken : (others : List Held) (i : ℕ) (h : Held) → Has (take i others) h → Has others h
has_taken [] zero h k = k
has_taken [] (suc i) h k = k
has_taken (x ∷ others) zero h k = absurd k
has_taken (x ∷ others) (suc i) h (inl e) = inl e
has_taken (x ∷ others) (suc i) h (inr k) = inr (has_taken others i h k)

pub has_so_far : (one : Held) (others : List Held) (i : ℕ) (h : Held)
    → Has (one ∷ take i others) h → Has (one ∷ others) h
has_so_far one others i h (inl e) = inl e
has_so_far one others i h (inr k) = inr (has_taken others i h k)

pub has_next : (one : Held) (others : List Held) (i : ℕ) (e : Held) → i < length others
    → e ≡ get_or others i e → Has (one ∷ others) e
has_next one others i e lt is = inr (at others i lt is)
  where
    at : (l : List Held) (k : ℕ) → k < length l → e ≡ get_or l k e → Has l e
    at [] k low same = absurd (omega (arith, low))
    at (x ∷ l) zero low same = inl (sym same)
    at (x ∷ l) (suc k) low same = inr (at l k (omega (arith, low)) same)

-- the next entry is not added
pub stops_at : (options : TableOptions) (one : Held) (others : List Held) (i : ℕ)
    (made : List Entry) (greatest : ℕ) (top e : Held) (fault : MendFault) → i < length others
    → e ≡ get_or others i e → IsUnion (one ∷ take i others) made greatest
    → Has (one ∷ take i others) top → IsUnadded options made top e fault
    → IsUnbuilt options (one ∷ others) fault
stops_at options one others i made greatest top e fault lt is union has (inl want) = inl want
stops_at options one others i made greatest top e fault lt is union has
    (inr (inl (large, passes))) =
    inr (inl (
      large,
      (
        made,
        (λ x k. (let r = union.from x k in (r.0, has_so_far one others i r.0 r.1, r.2))),
        inl (e, has_next one others i e lt is, passes),
      ),
    ))
stops_at options one others i made greatest top e fault lt is union has
    (inr (inr (key, other, two))) =
    inr (inr (
      top,
      e,
      has_so_far one others i top has,
      has_next one others i e lt is,
      key,
      other,
      two,
    ))

pub union_next : (one : Held) (others : List Held) (i : ℕ) (made new : List Entry)
    (greatest g n : ℕ) (top e : Held) → i < length others → e ≡ get_or others i e
    → IsUnion (one ∷ take i others) made greatest → IsTop made top → AddsOnce top e made new
    → g ≡ max greatest n → n ≡ e.entry.seq → IsUnion (one ∷ take (i + 1) others) new g
union_next one others i made new greatest g n top e lt is union on added sum own =
    subst (λ (l : List Held). IsUnion l new g) (take_next one others i e lt is)
    (subst (λ (k : ℕ). IsUnion ((one ∷ take i others) ++ e ∷ []) new k)
    (sym (sum ∙ ap (max greatest) own))
    (union_more (one ∷ take i others) made new greatest top e union on added))

pub has_last : (one : Held) (others : List Held) (i : ℕ) (e : Held) → i < length others
    → e ≡ get_or others i e → Has (one ∷ take (i + 1) others) e
has_last one others i e lt is =
    subst (λ (l : List Held). Has l e) (take_next one others i e lt is)
    (has_right (one ∷ take i others) (e ∷ []) e (inl refl))

pub union_all : (one : Held) (others : List Held) (i : ℕ) (made : List Entry) (greatest : ℕ)
    → length others ≤ i → IsUnion (one ∷ take i others) made greatest
    → IsUnion (one ∷ others) made greatest
union_all one others i made greatest done union =
    subst (λ (l : List Held). IsUnion (one ∷ l) made greatest) (take_all i others done) union

pub unfinished : (options : TableOptions) (held : List Held) (made : List Entry) (greatest : ℕ)
    (fault : BuildFault) (e : MendFault) → IsUnion held made greatest
    → (fault ≡ build.TooLarge → e ≡ TooLarge) → (fault ≡ build.OutOfMemory → e ≡ OutOfMemory)
    → (fault ≡ build.TooLarge
    → 2 ^ 32 ≤ length (index_block options.restart_interval (groups_by options made)))
    → IsUnbuilt options held e
unfinished options held made greatest build.OutOfMemory e union large memory index =
    inl (memory refl)
unfinished options held made greatest build.TooLarge e union large memory index =
    inr (inl (large refl, (made, union.from, inr (index refl))))

-- ---- the same entries in another order

module _ (xs ys : List Held) (same : IsPermutation xs ys) where
  pub shuffled : (h : Held) → Has ys h → Has xs h
  shuffled h k = contains_says xs h
      (Contains-permutation ys xs h (IsPermutation-sym xs ys same) (contains_from ys h k))

  pub shuffled_back : (h : Held) → Has xs h → Has ys h
  shuffled_back h k = contains_says ys h (Contains-permutation xs ys h same (contains_from xs h k))

  pub merged_same : (last count : ℕ) (image : Imaged) → IsMerged ys last count image
      → IsMerged xs last count image
  merged_same last count image m = record {
    made = m.made;
    union = record {
      from = λ e k. (let r = m.union.from e k in (r.0, shuffled r.0 r.1, r.2));
      to = λ h k. m.union.to h (shuffled_back h k);
      reached = m.union.reached;
      one = m.union.one;
    };
    counted = m.counted;
    table = m.table;
  }

  pub unbuilt_same : (options : TableOptions) (fault : MendFault) → IsUnbuilt options ys fault
      → IsUnbuilt options xs fault
  unbuilt_same options fault (inl want) = inl want
  unbuilt_same options fault (inr (inl (large, (made, from, inl (e, has, passes))))) =
      inr (inl (
        large,
        (
          made,
          (λ x k. (let r = from x k in (r.0, shuffled r.0 r.1, r.2))),
          inl (e, shuffled e has, passes),
        ),
      ))
  unbuilt_same options fault (inr (inl (large, (made, from, inr index)))) =
      inr (inl (
        large,
        (
          made,
          (λ x k. (let r = from x k in (r.0, shuffled r.0 r.1, r.2))),
          inr index,
        ),
      ))
  unbuilt_same options fault (inr (inr (a, b, has, has_too, key, other, two))) =
      inr (inr (a, b, shuffled a has, shuffled b has_too, key, other, two))

pub none_shuffled : (xs : List Held) → length xs ≡ 0 → xs ≡ []
none_shuffled [] e = refl
none_shuffled (x ∷ xs) e = absurd (omega (arith, e))

none_held : (xs ys : List Held) → IsPermutation xs ys → ys ≡ [] → xs ≡ []
none_held xs ys same none =
    let l = length_permutation xs ys same in
    let n : length ys ≡ 0 = ap length none in
    none_shuffled xs (omega (arith, l, n))

pub unmerged_same : (options : TableOptions) (xs ys : List Held) (fault : MendFault)
    → IsPermutation xs ys → IsUnmerged options ys fault → IsUnmerged options xs fault
unmerged_same options xs ys fault same (inl built) =
    inl (unbuilt_same xs ys same options fault built)
unmerged_same options xs ys fault same (inr (nothing, none)) =
    inr (nothing, none_held xs ys same none)

-- the table of one entry is not made
pub unbegun : (options : TableOptions) (one : Held) (others : List Held) (fault : MendFault)
    → (fault ≡ OutOfMemory) ⊎ ((fault ≡ TooLarge) × PassesLimit options [] one.entry)
    → IsUnbuilt options (one ∷ others) fault
unbegun options one others fault (inl want) = inl want
unbegun options one others fault (inr (large, passes)) =
    inr (inl (large, ([], (λ e k. absurd k), inl (one, inl refl, passes))))

-- of the entries that were split
pub merged_from : {X : Type 0} (r : Result X MendFault) (last count : X → ℕ) (image : X → Imaged)
    (xs ys : List Held) → xs ≡ ys → IfOk r (λ m. IsMerged ys (last m) (count m) (image m))
    → IfOk r (λ m. IsMerged xs (last m) (count m) (image m))
merged_from (Ok m) last count image xs ys same merged =
    subst (λ (l : List Held). IsMerged l (last m) (count m) (image m)) (sym same) merged
merged_from (Err e) last count image xs ys same merged = tt

pub unmerged_from : {X : Type 0} (r : Result X MendFault) (options : TableOptions)
    (xs ys : List Held) → xs ≡ ys → IfErr r (IsUnbuilt options ys) → IfErr r (IsUnmerged options xs)
unmerged_from (Ok m) options xs ys same refused = tt
unmerged_from (Err e) options xs ys same refused =
    inl (subst (λ (l : List Held). IsUnbuilt options l e) (sym same) refused)
