-- What is found in tables that are looked at one after another.
use Rattle.std.proofs.Common.{◌≡◌, ℕ, suc, ◌+◌, ◌-◌, ◌^◌, ◌<◌, ◌≤◌, true, false, List, [], ◌∷◌, ◌++◌, length, get_or, drop, Option, Some, None, refl, sym, ◌∙◌, ap, subst, inl, inr, arith}
use Rattle.std.specs.Prelude.{◌⊎◌}
use Rattle.std.specs.List.{Contains}
use Rattle.std.proofs.lemmas.Bool.{and_from, and_parts, ltb-false, cases_lt, cases_Bool}
use Rattle.std.proofs.lemmas.List.{append_assoc, get_or_default, get_or-drop, length-drop}
use Rattle.lsm_codec.specs.Lists.{Has}
use Rattle.lsm_codec.proofs.CallerLemmas.{has_left, has_right, has_cases, contains_from, user_le_trans, IsAllowed, IsNewest, Finds, newest_finds, allowed_says, allowed_from, stamp_lt}
use Rattle.lsm_codec.specs.Keys.{UserKey, UserLe}
use Rattle.lsm_codec.specs.Entries.{Entry, stamp, newest, is_allowed}
use Rattle.lsm_table.specs.Registry.{Table}
use Rattle.lsm_table.specs.HeldTable.{entries_in}
use Rattle.lsm_table.specs.Found.{found_in}
use Rattle.lsm_model.specs.Files.{File, all_entries, Shallower}
use Rattle.lsm_version.specs.Versions.{file_of, files_of, files_from, user_of}
use Rattle.lsm_version.specs.Reads.{IsSoundLevel, AreSound, IsRising, IsFirstReaching, is_below, is_candidate, covers, begins_by, reaches, IsYoungest, HasNoCandidate}
use Rattle.lsm_model.proofs.CallerLemmas.{all_has, before_says, depth_newest, has_all, newest_is, one_each, true_or_not}
use Rattle.lsm_version.proofs.CallerLemmas.{files_has, has_files, level_of_files, ahead_or_same, has_at}

-- no entry of the table is for the read
abbrev pub HasNone : UserKey → ℕ → Table → Type 0
HasNone k s t = (e : Entry) → Has (entries_in t.image) e → is_allowed k s e ≡ false

-- how many numbers are less than the bound
abbrev pub rank_of : Option ℕ → ℕ
rank_of None = 2 ^ 64
rank_of (Some bound) = bound

-- ---- lists of entries

pub newest_none : (k : UserKey) (s : ℕ) (es : List Entry) → ((e : Entry) → Has es e → is_allowed k s e ≡ false) → newest k s es ≡ None
newest_none k s [] none = refl
newest_none k s (e ∷ es) none = (let here : is_allowed k s e ≡ false = none e (inl refl) in rw here (newest_none k s es (λ y h. none y (inr h))))

newest_skip : (k : UserKey) (s : ℕ) (xs ys : List Entry) → ((e : Entry) → Has xs e → is_allowed k s e ≡ false) → newest k s (xs ++ ys) ≡ newest k s ys
newest_skip k s [] ys none = refl
newest_skip k s (x ∷ xs) ys none = (let here : is_allowed k s x ≡ false = none x (inl refl) in rw here (newest_skip k s xs ys (λ y h. none y (inr h))))

-- where nothing is found, nothing is allowed
pub none_allowed : (k : UserKey) (s : ℕ) (es : List Entry) → newest k s es ≡ None → (e : Entry) → Has es e → is_allowed k s e ≡ false
none_allowed k s es n e h = true_or_not (is_allowed k s e) (λ a. (subst (Finds es k s) n (newest_finds k s es)) e h (allowed_says k s e a))

pub is_newest : (k : UserKey) (s : ℕ) (es : List Entry) (e : Entry) → newest k s es ≡ Some e → IsNewest es k s e
is_newest k s es e n = subst (Finds es k s) n (newest_finds k s es)

entries_append : (v w : List File) → all_entries (v ++ w) ≡ all_entries v ++ all_entries w
entries_append [] w = refl
entries_append (F ∷ v) w = ap (λ es. F.entries ++ es) (entries_append v w) ∙ sym (append_assoc F.entries (all_entries v) (all_entries w))

-- ---- one table

-- an entry for the read lies in the table's range
allowed_covers : (n : ℕ) (ts : List Table) (u : Table) (k : UserKey) (s : ℕ) (y : Entry) → IsSoundLevel n ts → Has ts u → Has (entries_in u.image) y → IsAllowed k s y → covers u k ≡ true
allowed_covers n ts u k s y l hu hy a =
    let fits = l.lawful.fits (file_of n u) (has_files n ts u hu) in
    and_from (begins_by u k) (reaches u k)
    (subst (λ (m : UserKey). UserLe (user_of u.smallest) m) a.key (fits.above y hy))
    (subst (λ (m : UserKey). UserLe m (user_of u.largest)) a.key (fits.below y hy))

-- ---- a level from 1 on

no_shallower : (n : ℕ) (F G : File) → 1 ≤ n → F.level ≡ n → G.level ≡ n → Shallower G F → ⊥
no_shallower n F G pos a b (inl lt) = absurd (omega arith)
no_shallower n F G pos a b (inr o) = (let e = o.0 in absurd (omega arith))

-- none of the first i tables from the p-th on has an entry for the read
abbrev pub NoneBelow : UserKey → ℕ → List Table → ℕ → Type 0
NoneBelow k s rest i = (j : ℕ) (d : Table) → j < i → HasNone k s (get_or rest j d)

-- one table more was looked at
pub none_more : (k : UserKey) (s : ℕ) (rest : List Table) (i : ℕ) (x : Table) → i < length rest → x ≡ get_or rest i x → newest k s (entries_in x.image) ≡ None → NoneBelow k s rest i → NoneBelow k s rest (i + 1)
none_more k s rest i x lt is none before j d low = elim (cases_lt j i) [
  | inl less ↦ before j d less
  | inr more ↦ (let same : j ≡ i = omega arith in
      let at : x ≡ get_or rest j d = is ∙ sym (get_or_default rest i d x lt) ∙ ap (λ (n : ℕ). get_or rest n d) (sym same) in
      subst (HasNone k s) at (none_allowed k s (entries_in x.image) none))
]

-- where a table stands in the level, and in the part from p on
at_rest : (ts rest : List Table) (p i : ℕ) (d : Table) → rest ≡ drop p ts → get_or rest i d ≡ get_or ts (p + i) d
at_rest ts rest p i d is = ap (λ (us : List Table). get_or us i d) is ∙ get_or-drop p ts i d

pub has_rest : (ts rest : List Table) (p i : ℕ) (x : Table) → rest ≡ drop p ts → p ≤ length ts → i < length rest → x ≡ get_or rest i x → Has ts x
has_rest ts rest p i x is inside lt at =
    let long : length rest ≡ length ts - p = ap length is ∙ length-drop p ts in
    subst (Has ts) (sym (at_rest ts rest p i x is) ∙ sym at) (has_at ts (p + i) x (omega arith))

-- a table with an entry for the read reaches the key, and begins by it
allowed_parts : (n : ℕ) (ts : List Table) (u : Table) (k : UserKey) (s : ℕ) (y : Entry) → IsSoundLevel n ts → Has ts u → Has (entries_in u.image) y → IsAllowed k s y → (begins_by u k ≡ true) × (reaches u k ≡ true)
allowed_parts n ts u k s y l hu hy a = and_parts (begins_by u k) (reaches u k) (allowed_covers n ts u k s y l hu hy a)

-- what is found in the first table that has an entry for the read is the newest of the level: what comes later stands behind it
pub range_found : (n : ℕ) (ts rest : List Table) (p i : ℕ) (x : Table) (k : UserKey) (s : ℕ) (e : Entry) → 1 ≤ n → IsSoundLevel n ts → rest ≡ drop p ts → p ≤ length ts → IsFirstReaching k ts p → i < length rest
    → x ≡ get_or rest i x → NoneBelow k s rest i → newest k s (entries_in x.image) ≡ Some e → newest k s (all_entries (files_of n ts)) ≡ Some e
range_found n ts rest p i x k s e pos l is inside f lt at none here =
    depth_newest (files_of n ts) (file_of n x) k s e l.lawful (has_files n ts x hx) new
    (λ G y h sh hy a. no_shallower n (file_of n x) G pos refl (level_of G h) sh)
    (λ G y h same one hy a. beside G y (files_has n ts G h) hy a)
  where
    new : IsNewest (entries_in x.image) k s e
    new = is_newest k s (entries_in x.image) e here

    level_of : (G : File) → Has (files_of n ts) G → G.level ≡ n
    level_of G h = (let r = files_has n ts G h in ap (λ (F : File). F.level) (sym r.2))

    there : get_or ts (p + i) x ≡ x
    there = sym (at_rest ts rest p i x is) ∙ sym at

    hx : Has ts x
    hx = has_rest ts rest p i x is inside lt at

    older : (j : ℕ) (u : Table) (y : Entry) → p + i ≤ j → j < length ts → get_or ts j u ≡ u → Has (entries_in u.image) y → IsAllowed k s y → stamp y ≤ stamp e
    older j u y low high is_u hy a =
        let first : get_or ts (p + i) u ≡ x = get_or_default ts (p + i) u x (omega arith) ∙ there in
        elim (ahead_or_same n ts pos l (p + i) j u low high) [
          | inl same ↦ new.most y (subst (λ (F : File). Has F.entries y) (sym (ap (λ (t : Table). file_of n t) (sym first) ∙ same ∙ ap (λ (t : Table). file_of n t) is_u)) hy) a
          | inr ahead ↦ (let bef = ahead e y (subst (λ (t : Table). Has (entries_in t.image) e) (sym first) new.here) (subst (λ (t : Table). Has (entries_in t.image) y) (sym is_u) hy) in
              elim (before_says e y bef) [ inl q ↦ absurd (q.1 (new.allowed.key ∙ sym a.key)) | inr q ↦ (let less = q.1 in omega arith) ])
        ]

    beside : (G : File) (y : Entry) → ((u : Table) × Has ts u × (file_of n u ≡ G)) → Has G.entries y → IsAllowed k s y → stamp y ≤ stamp e
    beside G y r hy a = by_index r.0 (subst (λ (F : File). Has F.entries y) (sym r.2) hy) (contains_from ts r.0 r.1) r.1
      where
        by_index : (u : Table) → Has (entries_in u.image) y → Contains ts u → Has ts u → stamp y ≤ stamp e
        by_index u hu c h = elim (cases_lt c.0 p) [
          | inl early ↦ absurd (cc (ap (λ (t : Table). reaches t k) c.2 ∙ (allowed_parts n ts u k s y l h hu a).1, f.before c.0 u early))
          | inr on ↦ elim (cases_lt c.0 (p + i)) [
            | inl before ↦ (let q : p + (c.0 - p) ≡ c.0 = omega arith in
                let same : get_or rest (c.0 - p) u ≡ u = at_rest ts rest p (c.0 - p) u is ∙ ap (λ (m : ℕ). get_or ts m u) q ∙ c.2 in
                absurd (cc (allowed_from k s y a, subst (HasNone k s) same (none (c.0 - p) u (omega arith)) y hu)))
            | inr from ↦ older c.0 u y from c.1 c.2 hu a
          ]
        ]

-- where the search has ended, nothing is there for the read
pub range_missed : (n : ℕ) (ts rest : List Table) (p i : ℕ) (k : UserKey) (s : ℕ) → IsSoundLevel n ts → rest ≡ drop p ts → IsFirstReaching k ts p → NoneBelow k s rest i
    → ((j : ℕ) (d : Table) → i ≤ j → p + j < length ts → begins_by (get_or ts (p + j) d) k ≡ false) → newest k s (all_entries (files_of n ts)) ≡ None
range_missed n ts rest p i k s l is f none late = newest_none k s (all_entries (files_of n ts)) (λ y h. true_or_not (is_allowed k s y) (λ a.
    (let r = all_has (files_of n ts) y h in
    let q = files_has n ts r.0 r.1 in
    by_index y (allowed_says k s y a) q.0 (subst (λ (F : File). Has F.entries y) (sym q.2) r.2) (contains_from ts q.0 q.1) q.1)))
  where
    by_index : (y : Entry) → IsAllowed k s y → (u : Table) → Has (entries_in u.image) y → Contains ts u → Has ts u → ⊥
    by_index y a u hu c h = elim (cases_lt c.0 p) [
      | inl early ↦ absurd (cc (ap (λ (t : Table). reaches t k) c.2 ∙ (allowed_parts n ts u k s y l h hu a).1, f.before c.0 u early))
      | inr on ↦ (let q : p + (c.0 - p) ≡ c.0 = omega arith in
          elim (cases_lt (c.0 - p) i) [
            | inl before ↦ (let same : get_or rest (c.0 - p) u ≡ u = at_rest ts rest p (c.0 - p) u is ∙ ap (λ (m : ℕ). get_or ts m u) q ∙ c.2 in
                absurd (cc (allowed_from k s y a, subst (HasNone k s) same (none (c.0 - p) u before) y hu)))
            | inr past ↦ (let lt = c.1 in
                absurd (cc (ap (λ (t : Table). begins_by t k) (ap (λ (m : ℕ). get_or ts m u) q ∙ c.2) ∙ (allowed_parts n ts u k s y l h hu a).0, late (c.0 - p) u past (omega arith))))
          ])
    ]

-- the level has no further table
pub ends_level : (ts rest : List Table) (p i : ℕ) (k : UserKey) → rest ≡ drop p ts → p ≤ length ts → length rest ≤ i → (j : ℕ) (d : Table) → i ≤ j → p + j < length ts → begins_by (get_or ts (p + j) d) k ≡ false
ends_level ts rest p i k is inside past j d low lt = absurd (omega (arith, ap length is, length-drop p ts))

-- a table begins behind the key, and so do those after it
pub ends_behind : (ts rest : List Table) (p i : ℕ) (x : Table) (k : UserKey) → IsRising ts → rest ≡ drop p ts → i < length rest → x ≡ get_or rest i x → begins_by x k ≡ false
    → (j : ℕ) (d : Table) → i ≤ j → p + j < length ts → begins_by (get_or ts (p + j) d) k ≡ false
ends_behind ts rest p i x k rising is lt at late j d low inside = true_or_not (begins_by (get_or ts (p + j) d) k) (λ b.
    absurd (cc (
      user_le_trans (user_of x.smallest) (user_of (get_or ts (p + j) d).smallest) k
          (subst (λ (t : Table). UserLe (user_of t.smallest) (user_of (get_or ts (p + j) d).smallest)) there (rising.lows (p + i) (p + j) d (omega arith) inside)) b,
      late,
    )))
  where
    there : get_or ts (p + i) d ≡ x
    there = sym (at_rest ts rest p i d is) ∙ get_or_default rest i d x lt ∙ sym at

-- ---- level 0

-- none of the tables from the bound on has an entry for the read
abbrev pub Looked : UserKey → ℕ → Option ℕ → List Table → Type 0
Looked k s bound ts = (t : Table) → Has ts t → is_below bound t.number ≡ false → HasNone k s t

-- what is allowed is of a table that was not looked at, and whose range has the key
candidate_of : (ts : List Table) (u : Table) (k : UserKey) (s : ℕ) (bound : Option ℕ) (y : Entry) → IsSoundLevel 0 ts → Looked k s bound ts → Has ts u → Has (entries_in u.image) y → IsAllowed k s y
    → is_candidate k bound u ≡ true
candidate_of ts u k s bound y l looked hu hy a = and_from (is_below bound u.number) (covers u k)
    (elim (cases_Bool (is_below bound u.number)) [ inl t ↦ t | inr f ↦ absurd (cc (looked u hu f y hy, allowed_from k s y a)) ])
    (allowed_covers 0 ts u k s y l hu hy a)

pub number_found : (ts : List Table) (t : Table) (k : UserKey) (s : ℕ) (bound : Option ℕ) (e : Entry) → IsSoundLevel 0 ts → Looked k s bound ts → IsYoungest k bound ts t
    → newest k s (entries_in t.image) ≡ Some e → newest k s (all_entries (files_of 0 ts)) ≡ Some e
number_found ts t k s bound e l looked young is =
    depth_newest (files_of 0 ts) (file_of 0 t) k s e l.lawful (has_files 0 ts t young.here) (is_newest k s (entries_in t.image) e is)
    (λ G y h sh hy a. above G y (files_has 0 ts G h) sh hy a)
    (λ G y h same one hy a. absurd (omega arith))
  where
    above : (G : File) (y : Entry) → ((u : Table) × Has ts u × (file_of 0 u ≡ G)) → Shallower G (file_of 0 t) → Has G.entries y → IsAllowed k s y → ⊥
    above G y r sh hy a =
        let most = young.most r.0 r.1 (candidate_of ts r.0 k s bound y l looked r.1 (subst (λ (F : File). Has F.entries y) (sym r.2) hy) a) in
        let number = ap (λ (F : File). F.number) r.2 in
        let level = ap (λ (F : File). F.level) r.2 in
        elim sh [ inl lt ↦ absurd (omega arith) | inr o ↦ (let more = o.2 in absurd (omega arith)) ]

pub number_missed : (ts : List Table) (t : Table) (k : UserKey) (s : ℕ) (bound : Option ℕ) → IsSoundLevel 0 ts → Looked k s bound ts → IsYoungest k bound ts t
    → newest k s (entries_in t.image) ≡ None → Looked k s (Some t.number) ts
number_missed ts t k s bound l looked young none u hu low y hy = true_or_not (is_allowed k s y) (λ a.
    (let most = young.most u hu (candidate_of ts u k s bound y l looked hu hy (allowed_says k s y a)) in
    let least = ltb-false u.number t.number low in
    let same = l.lawful.numbers (file_of 0 u) (file_of 0 t) (has_files 0 ts u hu) (has_files 0 ts t young.here) (omega arith) in
    absurd (cc (none_allowed k s (entries_in t.image) none y (subst (λ (F : File). Has F.entries y) same hy), a))))

pub numbers_done : (ts : List Table) (k : UserKey) (s : ℕ) (bound : Option ℕ) → IsSoundLevel 0 ts → Looked k s bound ts → HasNoCandidate k bound ts → newest k s (all_entries (files_of 0 ts)) ≡ None
numbers_done ts k s bound l looked none = newest_none k s (all_entries (files_of 0 ts)) (λ y h. true_or_not (is_allowed k s y) (λ a.
    (let r = all_has (files_of 0 ts) y h in
    let q = files_has 0 ts r.0 r.1 in
    absurd (cc (none q.0 q.1, candidate_of ts q.0 k s bound y l looked q.1 (subst (λ (F : File). Has F.entries y) (sym q.2) r.2) (allowed_says k s y a))))))

-- ---- levels one after another

level_from_files : (n : ℕ) (levels : List (List Table)) (F : File) → Has (files_from n levels) F → n ≤ F.level
level_from_files n [] F h = absurd h
level_from_files n (ts ∷ levels) F h = elim (has_cases (files_of n ts) (files_from (suc n) levels) F h) [
  | inl a ↦ (let e = level_of_files n ts F a in omega arith)
  | inr b ↦ (let le = level_from_files (suc n) levels F b in omega arith)
]

pub level_hit : (k : UserKey) (s n : ℕ) (ts : List Table) (rest : List (List Table)) (e : Entry) → AreSound n (ts ∷ rest) → newest k s (all_entries (files_of n ts)) ≡ Some e
    → newest k s (all_entries (files_from n (ts ∷ rest))) ≡ Some e
level_hit k s n ts rest e a is = newest_is (all_entries (files_from n (ts ∷ rest))) k s e (one_each (files_from n (ts ∷ rest)) a.lawful) record {
  here = has_all (files_from n (ts ∷ rest)) own.0 e (has_left (files_of n ts) (files_from (suc n) rest) own.0 own.1) own.2;
  allowed = new.allowed;
  most = λ y h b. (let r = all_has (files_from n (ts ∷ rest)) y h in most y b r.0 r.2 (has_cases (files_of n ts) (files_from (suc n) rest) r.0 r.1));
}
  where
    new : IsNewest (all_entries (files_of n ts)) k s e
    new = is_newest k s (all_entries (files_of n ts)) e is

    own : (F : File) × Has (files_of n ts) F × Has F.entries e
    own = all_has (files_of n ts) e new.here

    most : (y : Entry) → IsAllowed k s y → (G : File) → Has G.entries y → Has (files_of n ts) G ⊎ Has (files_from (suc n) rest) G → stamp y ≤ stamp e
    most y b G hy (inl h) = new.most y (has_all (files_of n ts) G y h hy) b
    most y b G hy (inr h) =
        let at = level_of_files n ts own.0 own.1 in
        let deep = level_from_files (suc n) rest G h in
        let older = a.lawful.depth own.0 G e y (has_left (files_of n ts) (files_from (suc n) rest) own.0 own.1) (has_right (files_of n ts) (files_from (suc n) rest) G h)
        (inl (omega arith)) own.2 hy (new.allowed.key ∙ sym b.key) in
        let lt = stamp_lt y e older in omega arith

pub level_missed : (k : UserKey) (s n : ℕ) (ts : List Table) (rest : List (List Table)) → newest k s (all_entries (files_of n ts)) ≡ None
    → newest k s (all_entries (files_from n (ts ∷ rest))) ≡ newest k s (all_entries (files_from (suc n) rest))
level_missed k s n ts rest none = ap (newest k s) (entries_append (files_of n ts) (files_from (suc n) rest))
    ∙ newest_skip k s (all_entries (files_of n ts)) (all_entries (files_from (suc n) rest)) (none_allowed k s (all_entries (files_of n ts)) none)

-- ---- what is found, as contracts see it

pub found_some : (o : Option Entry) (x : Option (List ℕ)) → Some x ≡ found_in o → (e : Entry) × (o ≡ Some e)
found_some None x h = absurd (cc h)
found_some (Some e) x h = (e, refl)

pub found_none : (o : Option Entry) → None ≡ found_in o → o ≡ None
found_none None h = refl
found_none (Some e) h = absurd (cc h)
