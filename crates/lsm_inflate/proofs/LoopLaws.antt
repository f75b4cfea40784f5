-- Going through an index and through data blocks.
use Rattle.std.proofs.Common.{◌≡◌, ℕ, ◌<◌, Bool, true, false, List, ◌∷◌, length, Option, Some, None, Result, Ok, Err, refl, sym, ap, ◌∙◌, subst, arith}
use Rattle.lsm_codec.specs.Keys.{InternalKey}
use Rattle.lsm_codec.specs.Entries.{Entry, internal_key}
use Rattle.lsm_block.specs.Block.{entry_of}
use Rattle.lsm_block.specs.Held.{HeldBlock, Position, rest_of, Given}
use Rattle.lsm_table.specs.declared.table_options.TableOptions.{TableOptions}
use Rattle.lsm_table.specs.TableReading.{end_of}
use Rattle.lsm_inflate.specs.declared.inflate_fault.InflateFault.{InflateFault}
use Rattle.lsm_inflate.specs.Reading.{◌>>=◌, is_memory, FailsUnless, Fails}
use Rattle.lsm_inflate.specs.PackedReading.{put_at, filled_at, block_behind, data_at}

-- ---- what a cursor gives

abbrev pub lent : List ℕ → Option (List ℕ)
lent value = Some value

abbrev pub nothing_lent : Option (List ℕ)
nothing_lent = None

abbrev pub found_key : InternalKey → Option InternalKey
found_key key = Some key

some_key : (k l : InternalKey) → found_key k ≡ found_key l → k ≡ l
some_key k l e = cc

-- the next entry, whose key was asked for
pub next_is : (index : HeldBlock) (here after : Position) (o : Option (List ℕ)) (place : List ℕ) (key : InternalKey) → Given index here after o → o ≡ lent place → found_key key ≡ after.last → rest_of index here ≡ entry_of key place ∷ rest_of index after
next_is index here after o place key g is k =
    let given = subst (Given index here after) is g in
    let same : key ≡ given.0 = some_key key given.0 (k ∙ given.1) in
    given.2 ∙ ap (λ (x : InternalKey). entry_of x place ∷ rest_of index after) (sym same)

pub shorter : (index : HeldBlock) (here after : Position) (o : Option (List ℕ)) (place : List ℕ) (key : InternalKey) → Given index here after o → o ≡ lent place → found_key key ≡ after.last → length (rest_of index after) < length (rest_of index here)
shorter index here after o place key g is k = omega (arith, ap (λ (xs : List Entry). length xs) (next_is index here after o place key g is k))

same_key : (k l : InternalKey) (v w : List ℕ) (xs ys : List Entry) → entry_of k v ∷ xs ≡ entry_of l w ∷ ys → k ≡ l
same_key k l v w xs ys e = let h : entry_of k v ≡ entry_of l w = cc in ap internal_key h

same_rest : (e f : Entry) (xs ys : List Entry) → e ∷ xs ≡ f ∷ ys → xs ≡ ys
same_rest e f xs ys e2 = cc

-- the cursor behind goes on too
behind : (index : HeldBlock) (before next : Position) (o : Option (List ℕ)) (key : InternalKey) (place : List ℕ) (rest : List Entry) → Given index before next o → rest_of index before ≡ entry_of key place ∷ rest → (next.last ≡ found_key key) × (rest_of index next ≡ rest)
behind index before next None key place rest g is = let bad = sym is ∙ g.0 in absurd cc
behind index before next (Some v) key place rest g is =
    let both = sym g.2 ∙ is in
    (g.1 ∙ ap found_key (same_key g.0 key v place (rest_of index next) rest both), same_rest (entry_of g.0 v) (entry_of key place) (rest_of index next) rest both)

-- ---- faults

unless_bind : {A B : Type 0} (memory : Bool) (fault : InflateFault) (r : Result A InflateFault) (f : A → Result B InflateFault) → FailsUnless memory fault r → FailsUnless memory fault (r >>= f)
unless_bind true fault r f h = tt
unless_bind false fault (Ok x) f h = absurd cc
unless_bind false fault (Err e) f h = let same : e ≡ fault = cc in ap (λ (x : InflateFault). Err x) same

pub fails_bind : {A B : Type 0} (fault : InflateFault) (r : Result A InflateFault) (f : A → Result B InflateFault) → Fails fault r → Fails fault (r >>= f)
fails_bind fault r f h = unless_bind (is_memory fault) fault r f h

-- ---- a data block's entries

-- what is left to add gives what adding all gives
pub record Adding (options : TableOptions) (bound : Option InternalKey) (key : InternalKey) (block : HeldBlock) (here : Position) (made first : List Entry) : Type 0 where
  pub left : filled_at options bound key made (rest_of block here) ≡ filled_at options bound key first block.entries

pub adding_first : (options : TableOptions) (bound : Option InternalKey) (key : InternalKey) (block : HeldBlock) (here : Position) (first : List Entry) → rest_of block here ≡ block.entries → Adding options bound key block here first first
adding_first options bound key block here first e = record { left = ap (filled_at options bound key first) e }

put_first : (options : TableOptions) (bound : Option InternalKey) (key : InternalKey) (made : List Entry) (e : Entry) (es : List Entry) → filled_at options bound key made (e ∷ es) ≡ (put_at options bound key made e >>= λ more. filled_at options bound key more es)
unfolding filled_at
put_first options bound key made e es = refl

pub adding_fails : (fault : InflateFault) (options : TableOptions) (bound : Option InternalKey) (last : InternalKey) (block : HeldBlock) (here after : Position) (made first : List Entry) (o : Option (List ℕ)) (value : List ℕ) (key : InternalKey) → Adding options bound last block here made first → Given block here after o → o ≡ lent value → found_key key ≡ after.last
    → Fails fault (put_at options bound last made (entry_of key value)) → Fails fault (filled_at options bound last first block.entries)
adding_fails fault options bound last block here after made first o value key a g is k f =
    let parts = next_is block here after o value key g is k in
    let one = fails_bind fault (put_at options bound last made (entry_of key value)) (λ (more : List Entry). filled_at options bound last more (rest_of block after)) f in
    let all = sym (put_first options bound last made (entry_of key value) (rest_of block after)) ∙ ap (filled_at options bound last made) (sym parts) ∙ a.left in
    subst (Fails fault) all one

pub adding_on : (options : TableOptions) (bound : Option InternalKey) (last : InternalKey) (block : HeldBlock) (here after : Position) (made first more : List Entry) (o : Option (List ℕ)) (value : List ℕ) (key : InternalKey) → Adding options bound last block here made first → Given block here after o → o ≡ lent value → found_key key ≡ after.last
    → put_at options bound last made (entry_of key value) ≡ Ok more → Adding options bound last block after more first
adding_on options bound last block here after made first more o value key a g is k put =
    let parts = next_is block here after o value key g is k in
    let step : filled_at options bound last made (entry_of key value ∷ rest_of block after) ≡ filled_at options bound last more (rest_of block after) = put_first options bound last made (entry_of key value) (rest_of block after) ∙ rw put refl in
    record { left = sym step ∙ ap (filled_at options bound last made) (sym parts) ∙ a.left }

pub adding_all : (options : TableOptions) (bound : Option InternalKey) (last : InternalKey) (block : HeldBlock) (here after : Position) (made first : List Entry) (o : Option (List ℕ)) → Adding options bound last block here made first → Given block here after o → o ≡ nothing_lent → filled_at options bound last first block.entries ≡ Ok made
unfolding filled_at
adding_all options bound last block here after made first o a g is =
    let none = (subst (Given block here after) is g).0 in
    sym a.left ∙ ap (filled_at options bound last made) none

-- ---- data blocks

pub record Going (options : TableOptions) (body : List ℕ) (index : HeldBlock) (from : ℕ) (before here : Position) (made first : List Entry) : Type 0 where
  pub left : data_at options body from before.last made (rest_of index here) ≡ data_at options body 0 None first index.entries
  pub same : rest_of index before ≡ rest_of index here

pub going_first : (options : TableOptions) (body : List ℕ) (index : HeldBlock) (before here : Position) (first : List Entry) → before.last ≡ None → rest_of index before ≡ index.entries → rest_of index here ≡ index.entries → Going options body index 0 before here first first
going_first options body index before here first n a b = record {
  left = ap (λ (x : Option InternalKey). data_at options body 0 x first (rest_of index here)) n ∙ ap (data_at options body 0 None first) b;
  same = a ∙ sym b;
}

data_first : (options : TableOptions) (body : List ℕ) (from : ℕ) (bound : Option InternalKey) (made : List Entry) (i : Entry) (index : List Entry) → data_at options body from bound made (i ∷ index)
    ≡ (block_behind body from i.value >>= λ group. filled_at options bound (internal_key i) made group >>= λ more. data_at options body (end_of i.value) (Some (internal_key i)) more index)
unfolding data_at
data_first options body from bound made i index = refl

-- the same, from the entry that was given
going_next : (options : TableOptions) (body : List ℕ) (index : HeldBlock) (from : ℕ) (before here after : Position) (made first : List Entry) (o : Option (List ℕ)) (place : List ℕ) (bound : Option InternalKey) (key : InternalKey) → Going options body index from before here made first → Given index here after o → o ≡ lent place → found_key key ≡ after.last → bound ≡ before.last
    → data_at options body from bound made (entry_of key place ∷ rest_of index after) ≡ data_at options body 0 None first index.entries
going_next options body index from before here after made first o place bound key j g is k b =
    ap (λ (x : Option InternalKey). data_at options body from x made (entry_of key place ∷ rest_of index after)) b
    ∙ ap (data_at options body from before.last made) (sym (next_is index here after o place key g is k)) ∙ j.left

pub going_no_block : (fault : InflateFault) (options : TableOptions) (body : List ℕ) (index : HeldBlock) (from : ℕ) (before here after : Position) (made first : List Entry) (o : Option (List ℕ)) (place : List ℕ) (key : InternalKey) → Going options body index from before here made first → Given index here after o → o ≡ lent place → found_key key ≡ after.last
    → Fails fault (block_behind body from place) → Fails fault (data_at options body 0 None first index.entries)
going_no_block fault options body index from before here after made first o place key j g is k f =
    let i = entry_of key place in
    let one = fails_bind fault (block_behind body from place) (λ (group : List Entry). filled_at options before.last key made group >>= λ more. data_at options body (end_of place) (Some key) more (rest_of index after)) f in
    let all = sym (data_first options body from before.last made i (rest_of index after)) ∙ going_next options body index from before here after made first o place before.last key j g is k refl in
    subst (Fails fault) all one

pub going_no_room : (fault : InflateFault) (options : TableOptions) (body : List ℕ) (index : HeldBlock) (from : ℕ) (before here after : Position) (made first : List Entry) (o : Option (List ℕ)) (place : List ℕ) (bound : Option InternalKey) (key : InternalKey) (group : List Entry) → Going options body index from before here made first → Given index here after o → o ≡ lent place
    → found_key key ≡ after.last → bound ≡ before.last → block_behind body from place ≡ Ok group → Fails fault (filled_at options bound key made group) → Fails fault (data_at options body 0 None first index.entries)
going_no_room fault options body index from before here after made first o place bound key group j g is k b read f =
    let i = entry_of key place in
    let one = fails_bind fault (filled_at options bound key made group) (λ (more : List Entry). data_at options body (end_of place) (Some key) more (rest_of index after)) f in
    let here_is : data_at options body from bound made (i ∷ rest_of index after) ≡ (filled_at options bound key made group >>= λ more. data_at options body (end_of place) (Some key) more (rest_of index after)) =
    data_first options body from bound made i (rest_of index after) ∙ rw read refl in
    let all = sym here_is ∙ going_next options body index from before here after made first o place bound key j g is k b in
    subst (Fails fault) all one

pub going_on : (options : TableOptions) (body : List ℕ) (index : HeldBlock) (from : ℕ) (before here next after : Position) (made first more : List Entry) (o : Option (List ℕ)) (place : List ℕ) (p : Option (List ℕ)) (bound : Option InternalKey) (key : InternalKey) (group : List Entry) → Going options body index from before here made first → Given index here after o → o ≡ lent place
    → found_key key ≡ after.last → bound ≡ before.last → block_behind body from place ≡ Ok group → filled_at options bound key made group ≡ Ok more → Given index before next p → (to : ℕ) → to ≡ end_of place → Going options body index to next after more first
going_on options body index from before here next after made first more o place p bound key group j g is k b read fill q to end =
    let i = entry_of key place in
    let follows = behind index before next p key place (rest_of index after) q (j.same ∙ next_is index here after o place key g is k) in
    let step : data_at options body from bound made (i ∷ rest_of index after) ≡ data_at options body (end_of place) (Some key) more (rest_of index after) =
    data_first options body from bound made i (rest_of index after) ∙ rw (read, fill) refl in
    record {
      left = ap (λ (n : ℕ). data_at options body n next.last more (rest_of index after)) end ∙ ap (λ (x : Option InternalKey). data_at options body (end_of place) x more (rest_of index after)) follows.0 ∙ sym step
          ∙ going_next options body index from before here after made first o place bound key j g is k b;
      same = follows.1;
    }

pub going_all : (options : TableOptions) (body : List ℕ) (index : HeldBlock) (from : ℕ) (before here after : Position) (made first : List Entry) (o : Option (List ℕ)) → Going options body index from before here made first → Given index here after o → o ≡ nothing_lent → data_at options body 0 None first index.entries ≡ Ok made
unfolding data_at
going_all options body index from before here after made first o j g is =
    let none = (subst (Given index here after) is g).0 in
    sym j.left ∙ ap (data_at options body from before.last made) none
