-- What a merge that is refused has put.
use Rattle.std.proofs.Common.{◌≡◌, ℕ, Bool, true, false, cond, List, [], ◌∷◌, ◌++◌, Option, Some, None, Ordering, Less, Equal, Greater, refl, sym, ◌∙◌, ap, subst, inl, inr, append_assoc, append-nil}
use Rattle.std.specs.Prelude.{◌⊎◌}
use Rattle.std.specs.List.{flat_map}
use Rattle.lsm_codec.specs.Lists.{Has}
use Rattle.lsm_codec.specs.Keys.{InternalKey, UserKey}
use Rattle.lsm_codec.specs.Entries.{Entry, entry_cmp}
use Rattle.lsm_codec.proofs.CallerLemmas.{has_cases, has_left, has_right}
use Rattle.lsm_block.specs.Block.{entry_of}
use Rattle.lsm_shelf.specs.Told.{Told, Becomes, putting}
use Rattle.lsm_shelf.proofs.CallerLemmas.{becomes_then}
use Rattle.lsm_table.specs.Registry.{Table}
use Rattle.lsm_table.specs.HeldTable.{entries_in}
use Rattle.lsm_table.specs.Table.{IsImage}
use Rattle.lsm_table.specs.TableBuilding.{table_bytes}
use Rattle.lsm_table.specs.declared.table_options.TableOptions.{TableOptions}
use Rattle.lsm_model.specs.Files.{Before, all_entries}
use Rattle.lsm_model.specs.Kept.{kept_entries}
use Rattle.lsm_model.specs.Merging.{Placed, entries_of}
use Rattle.lsm_model.specs.Streams.{IsAscending, IsMerge, streamed}
use Rattle.lsm_iterators.specs.Heads.{no_more}
use Rattle.lsm_iterators.specs.Runs.{Left}
use Rattle.lsm_version.specs.Versions.{IsWhole}
use Rattle.lsm_merge.specs.Compacting.{nothing_of}
use Rattle.lsm_merge.specs.Cuts.{IsCutBy, closes, cut, cut_on, is_empty}
use Rattle.lsm_merge.specs.Dropping.{Making, is_kept, placed, shut, shut_before}
use Rattle.lsm_merge.specs.InputOrder.{HasTwins, StandInOrder}
use Rattle.lsm_merge.specs.Inputs.{entries_of_tables, numbers_of}
use Rattle.lsm_merge.specs.Outputs.{AreGood, Goes, IsWrittenBy, Made, Unfinished, PutsTables, SameSizes, entries_of_last, making_of, putting_all}
use Rattle.lsm_merge.specs.PutBefore.{AreFirstOf, IsTime, PutsBefore, PutsLast, PutsOne, PutsPerhaps}
use Rattle.lsm_merge.specs.Work.{IsBuilt, Work, contents_of, finished, job_of, puts_of}
use Rattle.lsm_merge.proofs.Cutting.{cut_is_cut, cut_whole}
use Rattle.lsm_merge.proofs.Dropped.{IsOnTheWay, StreamingKeeps}
use Rattle.lsm_merge.proofs.InputLaws.{numbers_then}
use Rattle.lsm_merge.proofs.Limited.{flat_both, streamed_from}
use Rattle.lsm_merge.proofs.PlaceLaws.{becomes_both, map_both}
use Rattle.lsm_merge.proofs.PutLaws.{AreWholeTables, whole_of}
use Rattle.lsm_merge.proofs.Refused.{written_by}
use Rattle.lsm_merge.proofs.Stepping.{value_apart}
use Rattle.lsm_merge.proofs.UnderWay.{IsUnderWay, none_of, some_of}

-- ---- one call

-- nothing was put
pub one_none : (options : TableOptions) (es : List Entry) (Time : Type 0) (old new : List ℕ) (was is : Told) → new ≡ old → Becomes was is → PutsOne options es Time old new was is
one_none options es Time old new was is same b = record {
  tables = [];
  grown = same ∙ sym (append-nil old);
  told = b;
  whole = λ t h. absurd h;
  built = λ t h. absurd h;
  one = inl refl;
}

-- a whole table of the entries was put
pub one_put : (options : TableOptions) (es : List Entry) (Time : Type 0) (old new : List ℕ) (was is : Told) (t : Table) → new ≡ old ++ t.number ∷ [] → Becomes (putting t.number t.image was) is
    → IsWhole t → IsBuilt options t → entries_in t.image ≡ es → Time → PutsOne options es Time old new was is
one_put options es Time old new was is t grown b whole built same time = record {
  tables = t ∷ [];
  grown = grown;
  told = b;
  whole = λ u h. elim h [ inl e ↦ subst IsWhole e whole | inr none ↦ absurd none ];
  built = λ u h. elim h [ inl e ↦ subst (IsBuilt options) e built | inr none ↦ absurd none ];
  one = inr (ap (λ (l : List Entry). l ∷ []) same, time);
}

pub one_when : (options options' : TableOptions) (es : List Entry) (Time Time' : Type 0) (old new : List ℕ) (was is : Told) → options ≡ options' → (Time → Time') → PutsOne options es Time old new was is
    → PutsOne options' es Time' old new was is
one_when options options' es Time Time' old new was is same f p = record {
  tables = p.tables;
  grown = p.grown;
  told = p.told;
  whole = p.whole;
  built = λ t h. subst (λ (o : TableOptions). IsBuilt o t) same (p.built t h);
  one = elim p.one [ inl none ↦ inl none | inr r ↦ inr (r.0, f r.1) ];
}

pub one_after : (options : TableOptions) (es : List Entry) (Time : Type 0) (old new : List ℕ) (was is is' : Told) → Becomes is is' → PutsOne options es Time old new was is → PutsOne options es Time old new was is'
one_after options es Time old new was is is' b p = record {
  tables = p.tables;
  grown = p.grown;
  told = becomes_then (putting_all (puts_of p.tables) was) is is' p.told b;
  whole = p.whole;
  built = p.built;
  one = p.one;
}

-- an image of the entries, put under a number
pub perhaps_one : AreWholeTables → (options : TableOptions) (es : List Entry) (number : ℕ) (smallest largest image : List ℕ) (old new : List ℕ) (was is : Told) → IsImage es smallest largest image → image ≡ table_bytes options es
    → entries_in image ≡ es → PutsPerhaps number image old new was is → PutsOne options es (Unit {0}) old new was is
perhaps_one law options es number smallest largest image old new was is i made same (inl none) = one_none options es (Unit {0}) old new was is none.0 none.1
perhaps_one law options es number smallest largest image old new was is i made same (inr put) =
    let t : Table = record { index = 0; number = number; smallest = smallest; largest = largest; image = image } in
    one_put options es (Unit {0}) old new was is t put.0 put.1 (whole_of law t es smallest largest image i refl refl refl) (made ∙ ap (table_bytes options) (sym same)) same tt

-- the output in the making
pub last_one : (m : Made) (o : Unfinished) (new : List ℕ) (was is : Told) → IsWrittenBy m.options m.last → m.last ≡ Some o → PutsOne o.options o.entries (Unit {0}) m.put new was is → PutsLast m (Unit {0}) new was is
last_one m o new was is w here p =
    subst (λ (es : List Entry). PutsOne m.options es (Unit {0}) m.put new was is) (sym (ap entries_of_last here))
    (one_when o.options m.options o.entries (Unit {0}) (Unit {0}) m.put new was is (written_by m.options m.last o w here) (λ u. u) p)

-- what was made comes to more tables: none, or that of the output in the making, where it was closed
goes_one : (was is : Told) (old new : Made) (Time : Type 0) → AreGood old → AreGood new → new.options ≡ old.options → PutsTables old.tables new.tables was is
    → ((contents_of new.tables ≡ contents_of old.tables) ⊎ ((contents_of new.tables ≡ contents_of old.tables ++ entries_of_last old.last ∷ []) × Time))
    → PutsOne old.options (entries_of_last old.last) Time old.put new.put was is
goes_one was is old new Time before good sizes p what = record {
  tables = p.more;
  grown = sym good.numbers ∙ ap numbers_of p.grown ∙ numbers_then old.tables p.more ∙ ap (λ (l : List ℕ). l ++ numbers_of p.more) before.numbers;
  told = p.told;
  whole = λ t h. good.whole t (subst (λ (l : List Table). Has l t) (sym p.grown) (has_right old.tables p.more t h));
  built = λ t h. subst (λ (o : TableOptions). IsBuilt o t) sizes (good.built t (subst (λ (l : List Table). Has l t) (sym p.grown) (has_right old.tables p.more t h)));
  one = elim what [ inl same ↦ inl (none p.more (only (contents_of old.tables) (contents_of p.more) [] (sym both ∙ same ∙ sym (append-nil (contents_of old.tables))))) | inr r ↦ inr (only (contents_of old.tables) (contents_of p.more) (entries_of_last old.last ∷ []) (sym both ∙ r.0), r.1) ];
}
  where
    both : contents_of new.tables ≡ contents_of old.tables ++ contents_of p.more
    both = ap contents_of p.grown ∙ map_both (λ (t : Table). entries_in t.image) old.tables p.more

    only : {X : Type 0} (xs ys zs : List X) → xs ++ ys ≡ xs ++ zs → ys ≡ zs
    only [] ys zs e = e
    only (x ∷ xs) ys zs e = only xs ys zs (cc e)

    none : (ts : List Table) → contents_of ts ≡ [] → ts ≡ []
    none [] e = refl
    none (t ∷ ts) e = absurd (cc e)

-- the output in the making was closed before an entry of this user key, or goes on
pub closed_one : (was is : Told) (old new : Made) (user : UserKey) → AreGood old → Goes old new (shut_before (finished old.options) old.target (making_of old) user) → PutsTables old.tables new.tables was is
    → PutsOne old.options (entries_of_last old.last) (closes (finished old.options) old.target (entries_of_last old.last) user ≡ true) old.put new.put was is
closed_one was is old new user before g p =
    goes_one was is old new (closes (finished old.options) old.target (entries_of_last old.last) user ≡ true) before g.good (g.sizes).options p
    (go (closes (finished old.options) old.target (entries_of_last old.last) user) refl (ap (λ (m : Making). m.outputs) g.is))
  where
    go : (b : Bool) → closes (finished old.options) old.target (entries_of_last old.last) user ≡ b → contents_of new.tables ≡ (cond {A = Making} b (shut (making_of old)) (making_of old)).outputs
        → (contents_of new.tables ≡ contents_of old.tables) ⊎ ((contents_of new.tables ≡ contents_of old.tables ++ entries_of_last old.last ∷ []) × (closes (finished old.options) old.target (entries_of_last old.last) user ≡ true))
    go true t e = inr (e, t)
    go false t e = inl e

-- the entry was placed, or dropped
pub taken_one : (was is : Told) (old new : Made) (kept : Bool) (e : Entry) → AreGood old → Goes old new (cond kept (placed (finished old.options) old.target (making_of old) e) (making_of old))
    → PutsTables old.tables new.tables was is → PutsOne old.options (entries_of_last old.last) (IsTime old kept e) old.put new.put was is
taken_one was is old new kept e before g p =
    goes_one was is old new (IsTime old kept e) before g.good (g.sizes).options p (by kept refl (ap (λ (m : Making). m.outputs) g.is))
  where
    go : (b : Bool) → closes (finished old.options) old.target (entries_of_last old.last) e.user ≡ b → kept ≡ true → contents_of new.tables ≡ (cond {A = Making} b (shut (making_of old)) (making_of old)).outputs
        → (contents_of new.tables ≡ contents_of old.tables) ⊎ ((contents_of new.tables ≡ contents_of old.tables ++ entries_of_last old.last ∷ []) × IsTime old kept e)
    go true t k e = inr (e, (k, t))
    go false t k e = inl e

    by : (b : Bool) → kept ≡ b → contents_of new.tables ≡ (cond {A = Making} b (placed (finished old.options) old.target (making_of old) e) (making_of old)).outputs
        → (contents_of new.tables ≡ contents_of old.tables) ⊎ ((contents_of new.tables ≡ contents_of old.tables ++ entries_of_last old.last ∷ []) × IsTime old kept e)
    by true k is = go (closes (finished old.options) old.target (entries_of_last old.last) e.user) refl k is
    by false k is = inl is

-- the time told by the entry at hand
pub time_of : (w : Work) (m : Made) (before : Option Entry) (k : InternalKey) (v : List ℕ) (kept : Bool) (floor : ℕ) (ranges : List (UserKey × UserKey)) (e : Entry) → entry_of k v ≡ e
    → kept ≡ is_kept floor ranges before (entry_of k []) → floor ≡ w.floor → ranges ≡ w.ranges → IsTime m kept (entry_of k v) → IsTime m (is_kept w.floor w.ranges before e) e
time_of w m before k v kept floor ranges e own kept_is floor_is ranges_is time =
    let test : kept ≡ is_kept w.floor w.ranges before (entry_of k v) = kept_is
    ∙ ap (λ (n : ℕ). is_kept n ranges before (entry_of k [])) floor_is
    ∙ ap (λ (l : List (UserKey × UserKey)). is_kept w.floor l before (entry_of k [])) ranges_is
    ∙ value_apart w.floor w.ranges before k v in
    subst (λ (x : Entry). IsTime m (is_kept w.floor w.ranges before x) x) own (sym test ∙ time.0, time.1)

-- ---- a merge

-- one entry stands before another one, or not
before_or : (x y : Entry) → Before x y ⊎ (Before x y → ⊥)
before_or x y = go (entry_cmp x y) refl
  where
    go : (o : Ordering) → entry_cmp x y ≡ o → Before x y ⊎ (Before x y → ⊥)
    go Less e = inl e
    go Equal e = inr (λ h. absurd (cc (e, h)))
    go Greater e = inr (λ h. absurd (cc (e, h)))

all_or : (x : Entry) (es : List Entry) → ((y : Entry) → Has es y → Before x y) ⊎ (((y : Entry) → Has es y → Before x y) → ⊥)
all_or x [] = inl (λ y h. absurd h)
all_or x (e ∷ es) = go (before_or x e) (all_or x es)
  where
    go : (Before x e ⊎ (Before x e → ⊥)) → (((y : Entry) → Has es y → Before x y) ⊎ (((y : Entry) → Has es y → Before x y) → ⊥))
        → ((y : Entry) → Has (e ∷ es) y → Before x y) ⊎ (((y : Entry) → Has (e ∷ es) y → Before x y) → ⊥)
    go (inl b) (inl r) = inl (λ y h. elim h [ inl same ↦ subst (Before x) same b | inr k ↦ r y k ])
    go (inl b) (inr n) = inr (λ f. n (λ y h. f y (inr h)))
    go (inr n) r = inr (λ f. n (f e (inl refl)))

pub ascending_or : (es : List Entry) → IsAscending es ⊎ (IsAscending es → ⊥)
ascending_or [] = inl tt
ascending_or (e ∷ es) = go (all_or e es) (ascending_or es)
  where
    go : (((y : Entry) → Has es y → Before e y) ⊎ (((y : Entry) → Has es y → Before e y) → ⊥)) → (IsAscending es ⊎ (IsAscending es → ⊥)) → IsAscending (e ∷ es) ⊎ (IsAscending (e ∷ es) → ⊥)
    go (inl a) (inl r) = inl (a, r)
    go (inl a) (inr n) = inr (λ f. n f.1)
    go (inr n) r = inr (λ f. n f.0)

-- these are the first of the pieces into which the merge falls
abbrev pub AreFirstPieces : Work → List Entry → List (List Entry) → Type 0
AreFirstPieces w whole cs = (more : List (List Entry)) × (cs ++ more ≡ cut (finished w.table) w.target_size (streamed w.floor w.ranges None whole))

contents_then : (ts : List Table) → entries_of_tables ts ≡ flat_map (λ (o : List Entry). o) (contents_of ts)
contents_then [] = refl
contents_then (t ∷ ts) = ap (λ (l : List Entry). entries_in t.image ++ l) (contents_then ts)

pieces_from : (w : Work) (whole : List Entry) (cs : List (List Entry)) → AreFirstPieces w whole cs → (e : Entry) → Has (flat_map (λ (o : List Entry). o) cs) e → Has whole e
pieces_from w whole cs p e h =
    streamed_from w.floor w.ranges None whole e
    (subst (λ (l : List Entry). Has l e) (sym (flat_both cs p.0) ∙ ap (flat_map (λ (o : List Entry). o)) p.1 ∙ cut_whole (finished w.table) w.target_size [] (streamed w.floor w.ranges None whole))
    (has_left (flat_map (λ (o : List Entry). o) cs) (flat_map (λ (o : List Entry). o) p.0) e h))

-- what is known of the merge of the inputs
pub record IsMergeOf (Honest : Type 0) (w : Work) (whole : List Entry) : Type 0 where
  pub merges : Honest → IsAscending whole → IsMerge whole (all_entries (job_of w).inputs)
  pub from : Honest → (e : Entry) → Has whole e → Has (all_entries (job_of w).inputs) e
  pub order : Honest → StandInOrder w → (IsAscending whole → ⊥) → HasTwins (all_entries (job_of w).inputs)

-- tables put one after another that are the first pieces
put_before : (Honest : Type 0) (w : Work) (whole : List Entry) (ts : List Table) (numbers : List ℕ) (was is : Told) → StreamingKeeps → IsMergeOf Honest w whole → numbers_of ts ≡ numbers → Becomes (putting_all (puts_of ts) was) is
    → ((t : Table) → Has ts t → IsWhole t) → ((t : Table) → Has ts t → IsBuilt w.table t) → (Honest → AreFirstPieces w whole (contents_of ts)) → PutsBefore Honest w numbers was is
put_before Honest w whole ts numbers was is keeps m named told whole_each built pieces = record {
  tables = ts;
  numbers_are = named;
  told = told;
  whole = whole_each;
  built = built;
  from = λ honest e h. m.from honest e (pieces_from w whole (contents_of ts) (pieces honest) e (subst (λ (l : List Entry). Has l e) (contents_then ts) h));
  first = λ honest stand apart. go honest stand apart (ascending_or whole);
}
  where
    go : Honest → StandInOrder w → (HasTwins (all_entries (job_of w).inputs) → ⊥) → (IsAscending whole ⊎ (IsAscending whole → ⊥)) → (ts ≡ []) ⊎ AreFirstOf w (contents_of ts)
    go honest stand apart (inl a) = inr (record {
      merged = whole;
      merges = m.merges honest a;
      more = (pieces honest).0;
      is = record {
        ascending = a;
        cuts = subst (IsCutBy (finished w.table) w.target_size (kept_entries whole w.floor w.ranges)) (ap (cut (finished w.table) w.target_size) (sym (keeps w.floor w.ranges whole a)) ∙ sym (pieces honest).1)
            (cut_is_cut (finished w.table) w.target_size (kept_entries whole w.floor w.ranges));
      };
    })
    go honest stand apart (inr n) = absurd (apart (m.order honest stand n))

-- nothing was put
pub before_none : (Honest : Type 0) (w : Work) (put : List ℕ) (was is : Told) → put ≡ [] → Becomes was is → PutsBefore Honest w put was is
before_none Honest w put was is none b = record {
  tables = [];
  numbers_are = sym none;
  told = b;
  whole = λ t h. absurd h;
  built = λ t h. absurd h;
  from = λ honest e h. absurd h;
  first = λ honest stand apart. inl refl;
}

-- what a merge under way has put, and one more
both_put : (Honest : Type 0) (w : Work) (whole : List Entry) (m : Made) (Time : Type 0) (put : List ℕ) (was is is' : Told) → StreamingKeeps → IsMergeOf Honest w whole → SameSizes (nothing_of w) m → AreGood m → PutsTables [] m.tables was is
    → (p : PutsOne m.options (entries_of_last m.last) Time m.put put is is') → (Honest → AreFirstPieces w whole (contents_of m.tables ++ contents_of p.tables)) → PutsBefore Honest w put was is'
both_put Honest w whole m Time put was is is' keeps of sizes good before p pieces =
    put_before Honest w whole (m.tables ++ p.tables) put was is' keeps of
    (numbers_then m.tables p.tables ∙ ap (λ (l : List ℕ). l ++ numbers_of p.tables) good.numbers ∙ sym p.grown)
    (subst (λ (l : List (ℕ × List ℕ)). Becomes (putting_all l was) is') (sym (map_both (λ (t : Table). (t.number, t.image)) m.tables p.tables))
    (becomes_both (puts_of m.tables) (puts_of p.tables) was is is' (subst (λ (l : List Table). Becomes (putting_all (puts_of l) was) is) (sym before.grown) before.told) p.told))
    (λ t h. elim (has_cases m.tables p.tables t h) [ inl a ↦ good.whole t a | inr b ↦ p.whole t b ])
    (λ t h. subst (λ (o : TableOptions). IsBuilt o t) sizes.options (elim (has_cases m.tables p.tables t h) [ inl a ↦ good.built t a | inr b ↦ p.built t b ]))
    (λ honest. subst (AreFirstPieces w whole) (sym (map_both (λ (t : Table). entries_in t.image) m.tables p.tables)) (pieces honest))

-- the pieces where none was put more, or the output in the making before the entry at hand
pieces_step : (w : Work) (whole : List Entry) (mk : Making) (before : Option Entry) (e : Entry) (rest : List Entry) (cs : List (List Entry))
    → IsOnTheWay w.floor w.ranges (finished w.table) w.target_size whole mk before (e ∷ rest)
    → ((cs ≡ []) ⊎ ((cs ≡ mk.output ∷ []) × ((is_kept w.floor w.ranges before e ≡ true) × (closes (finished w.table) w.target_size mk.output e.user ≡ true)))) → AreFirstPieces w whole (mk.outputs ++ cs)
pieces_step w whole mk before e rest cs way (inl none) = (
  cut_on (finished w.table) w.target_size mk.output (streamed w.floor w.ranges before (e ∷ rest)),
  ap (λ (l : List (List Entry)). (mk.outputs ++ l) ++ cut_on (finished w.table) w.target_size mk.output (streamed w.floor w.ranges before (e ∷ rest))) none
      ∙ ap (λ (l : List (List Entry)). l ++ cut_on (finished w.table) w.target_size mk.output (streamed w.floor w.ranges before (e ∷ rest))) (append-nil mk.outputs) ∙ way.same,
)
pieces_step w whole mk before e rest cs way (inr r) =
    (after, ap (λ (l : List (List Entry)). (mk.outputs ++ l) ++ after) r.0 ∙ append_assoc mk.outputs (mk.output ∷ []) after ∙ ap (λ (l : List (List Entry)). mk.outputs ++ l) (sym next) ∙ way.same)
  where
    R : List Entry
    R = streamed w.floor w.ranges (Some e) rest

    after : List (List Entry)
    after = cut_on (finished w.table) w.target_size (e ∷ []) R

    closing : (b : Bool) → b ≡ true → cond b (mk.output ∷ after) (cut_on (finished w.table) w.target_size (mk.output ++ e ∷ []) R) ≡ mk.output ∷ after
    closing true t = refl
    closing false t = absurd (cc t)

    keeping : (b : Bool) → b ≡ true → cut_on (finished w.table) w.target_size mk.output (cond b (e ∷ R) R) ≡ mk.output ∷ after
    keeping true t = closing (closes (finished w.table) w.target_size mk.output e.user) r.1.1
    keeping false t = absurd (cc t)

    next : cut_on (finished w.table) w.target_size mk.output (streamed w.floor w.ranges before (e ∷ rest)) ≡ mk.output ∷ after
    next = keeping (is_kept w.floor w.ranges before e) r.1.0

-- and at the end
pieces_end : (w : Work) (whole : List Entry) (mk : Making) (before : Option Entry) (cs : List (List Entry)) → IsOnTheWay w.floor w.ranges (finished w.table) w.target_size whole mk before []
    → ((cs ≡ []) ⊎ ((cs ≡ mk.output ∷ []) × (is_empty mk.output ≡ false))) → AreFirstPieces w whole (mk.outputs ++ cs)
pieces_end w whole mk before cs way (inl none) = (
  cut_on (finished w.table) w.target_size mk.output [],
  ap (λ (l : List (List Entry)). (mk.outputs ++ l) ++ cut_on (finished w.table) w.target_size mk.output []) none
      ∙ ap (λ (l : List (List Entry)). l ++ cut_on (finished w.table) w.target_size mk.output []) (append-nil mk.outputs) ∙ way.same,
)
pieces_end w whole mk before cs way (inr r) =
    ([], append-nil (mk.outputs ++ cs) ∙ ap (λ (l : List (List Entry)). mk.outputs ++ l) (r.0 ∙ sym (ending (is_empty mk.output) r.1)) ∙ way.same)
  where
    ending : (b : Bool) → b ≡ false → cond b [] (mk.output ∷ []) ≡ mk.output ∷ []
    ending true t = absurd (cc t)
    ending false t = refl

-- a step was refused
pub refused_step : (Honest : Type 0) (w : Work) (whole : List Entry) (was is is' : Told) (drew0 drew answers0 answers asked0 asked put : List ℕ) (m : Made) (before : Option Entry) (left : Left)
    → StreamingKeeps → IsMergeOf Honest w whole → IsUnderWay Honest w whole was is drew0 drew answers0 answers asked0 asked m before left → no_more left.placed ≡ false
    → ((p : Placed) (rest : List Placed) → left.placed ≡ p ∷ rest → PutsOne m.options (entries_of_last m.last) (IsTime m (is_kept w.floor w.ranges before p.1) p.1) m.put put is is') → PutsBefore Honest w put was is'
refused_step Honest w whole was is is' drew0 drew answers0 answers asked0 asked put m before left keeps of u more one =
    let head = some_of left.placed more in
    let e : Entry = (head.0).1 in
    let p = one head.0 head.1 head.2 in
    both_put Honest w whole m (IsTime m (is_kept w.floor w.ranges before e) e) put was is is' keeps of u.sizes u.good u.tables p
    (λ honest. pieces_step w whole (making_of m) before e (entries_of head.1) (contents_of p.tables)
    (subst (λ (l : List Placed). IsOnTheWay w.floor w.ranges (finished w.table) w.target_size whole (making_of m) before (entries_of l)) head.2 (u.way honest))
    (told e p.tables p.one))
  where
    told : (e : Entry) (ts : List Table) → ((ts ≡ []) ⊎ ((contents_of ts ≡ entries_of_last m.last ∷ []) × IsTime m (is_kept w.floor w.ranges before e) e))
        → (contents_of ts ≡ []) ⊎ ((contents_of ts ≡ entries_of_last m.last ∷ []) × ((is_kept w.floor w.ranges before e ≡ true) × (closes (finished w.table) w.target_size (entries_of_last m.last) e.user ≡ true)))
    told e ts (inl none) = inl (ap contents_of none)
    told e ts (inr r) = inr (r.0, (r.1.0, ap (λ (n : ℕ). closes (finished w.table) n (entries_of_last m.last) e.user) (sym (u.sizes).target) ∙ ap (λ (o : TableOptions). closes (finished o) m.target (entries_of_last m.last) e.user) (sym (u.sizes).options) ∙ r.1.1))

-- the last output was refused
pub refused_last : (Honest : Type 0) (w : Work) (whole : List Entry) (was is is' : Told) (drew0 drew answers0 answers asked0 asked put : List ℕ) (m : Made) (before : Option Entry) (left : Left)
    → StreamingKeeps → IsMergeOf Honest w whole → IsUnderWay Honest w whole was is drew0 drew answers0 answers asked0 asked m before left → no_more left.placed ≡ true
    → PutsOne m.options (entries_of_last m.last) (Unit {0}) m.put put is is' → PutsBefore Honest w put was is'
refused_last Honest w whole was is is' drew0 drew answers0 answers asked0 asked put m before left keeps of u none p =
    both_put Honest w whole m (Unit {0}) put was is is' keeps of u.sizes u.good u.tables p
    (λ honest. pieces_end w whole (making_of m) before (contents_of p.tables)
    (subst (λ (l : List Placed). IsOnTheWay w.floor w.ranges (finished w.table) w.target_size whole (making_of m) before (entries_of l)) (none_of left.placed none) (u.way honest))
    (filled p.tables p.whole p.one))
  where
    some : (es : List Entry) (e : Entry) (later : List Entry) → es ≡ e ∷ later → is_empty es ≡ false
    some [] e later h = absurd (cc h)
    some (x ∷ es) e later h = refl

    filled : (ts : List Table) → ((t : Table) → Has ts t → IsWhole t) → ((ts ≡ []) ⊎ ((contents_of ts ≡ entries_of_last m.last ∷ []) × Unit {0}))
        → (contents_of ts ≡ []) ⊎ ((contents_of ts ≡ entries_of_last m.last ∷ []) × (is_empty (entries_of_last m.last) ≡ false))
    filled ts f (inl n) = inl (ap contents_of n)
    filled [] f (inr r) = absurd (let h = r.0 in cc h)
    filled (t ∷ ts) f (inr r) = inr (
      r.0,
      (let here = (f t (inl refl)).entries in
          let same : entries_in t.image ≡ entries_of_last m.last = (let h = r.0 in cc h) in
          some (entries_of_last m.last) (here.first).0 (here.first).1 (sym same ∙ (here.first).2)),
    )
