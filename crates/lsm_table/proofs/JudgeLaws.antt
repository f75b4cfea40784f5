-- Judging data blocks one after another.
use Rattle.std.proofs.Common.{◌≡◌, ℕ, ◌<◌, Bool, true, false, List, [], ◌∷◌, length, Option, Some, None, Result, Ok, Err, refl, sym, ap, ◌∙◌, subst, arith}
use Rattle.lsm_codec.specs.Keys.{InternalKey}
use Rattle.lsm_codec.specs.Entries.{Entry, internal_key}
use Rattle.lsm_block.specs.Block.{entry_of}
use Rattle.lsm_block.specs.Held.{HeldBlock, Position, rest_of, Given}
use Rattle.lsm_table.specs.declared.table_fault.TableFault.{TableFault}
use Rattle.lsm_table.specs.Reading.{◌>>=◌, settled, is_memory, FailsUnless, Fails}
use Rattle.lsm_table.specs.TableReading.{end_of, block_behind, data_at}
use Rattle.lsm_table.specs.Judging.{Judged}
use Rattle.lsm_table.proofs.EndLaws.{found_key, some_key}

abbrev pub well : Result (Unit {0}) TableFault
well = Ok tt

settled_bind : {A B : Type 0} (r : Result A TableFault) (f : A → Result B TableFault) → settled r ≡ well → (x : A) × (settled (r >>= f) ≡ settled (f x))
settled_bind (Ok x) f h = (x, refl)
settled_bind (Err fault) f h = absurd cc

settled_more : (es : List Entry) (r : Result (List (List Entry)) TableFault) → settled (r >>= λ groups. Ok (es ∷ groups)) ≡ settled r
settled_more es (Ok groups) = refl
settled_more es (Err fault) = refl

pub data_step : (body : List ℕ) (from : ℕ) (bound : Option InternalKey) (i : Entry) (index : List Entry) → settled (block_behind body from bound i) ≡ well
    → settled (data_at body from bound (i ∷ index)) ≡ settled (data_at body (end_of i.value) (Some (internal_key i)) index)
unfolding data_at
data_step body from bound i index h =
    let later = data_at body (end_of i.value) (Some (internal_key i)) index in
    let b = settled_bind (block_behind body from bound i) (λ entries. later >>= λ groups. Ok (entries ∷ groups)) h in
    b.1 ∙ settled_more b.0 later

unless_bind : {A B : Type 0} (memory : Bool) (fault : TableFault) (r : Result A TableFault) (f : A → Result B TableFault) → FailsUnless memory fault (settled r) → FailsUnless memory fault (settled (r >>= f))
unless_bind true fault r f h = tt
unless_bind false fault (Ok x) f h = absurd cc
unless_bind false fault (Err e) f h = h

pub data_fails : (fault : TableFault) (body : List ℕ) (from : ℕ) (bound : Option InternalKey) (i : Entry) (index : List Entry) → Fails fault (settled (block_behind body from bound i))
    → Fails fault (settled (data_at body from bound (i ∷ index)))
unfolding data_at
data_fails fault body from bound i index h =
    unless_bind (is_memory fault) fault (block_behind body from bound i) (λ entries. data_at body (end_of i.value) (Some (internal_key i)) index >>= λ groups. Ok (entries ∷ groups)) h

data_none : (body : List ℕ) (from : ℕ) (bound : Option InternalKey) → settled (data_at body from bound []) ≡ well
unfolding data_at
data_none body from bound = refl

-- ---- what a cursor gives

abbrev pub lent : List ℕ → Option (List ℕ)
lent value = Some value

abbrev pub nothing_lent : Option (List ℕ)
nothing_lent = None

-- the next index entry, whose key was asked for
pub next_is : (index : HeldBlock) (here after : Position) (o : Option (List ℕ)) (place : List ℕ) (key : InternalKey) → Given index here after o → o ≡ lent place → found_key key ≡ after.last → rest_of index here ≡ entry_of key place ∷ rest_of index after
next_is index here after o place key g is k =
    let given = subst (Given index here after) is g in
    let same : key ≡ given.0 = some_key key given.0 (k ∙ given.1) in
    given.2 ∙ ap (λ (x : InternalKey). entry_of x place ∷ rest_of index after) (sym same)

pub judged_fails : (fault : TableFault) (body : List ℕ) (from : ℕ) (index : HeldBlock) (before here after : Position) (o : Option (List ℕ)) (place : List ℕ) (bound : Option InternalKey) (key : InternalKey) → Judged body index from before here → Given index here after o → o ≡ lent place
    → found_key key ≡ after.last → bound ≡ before.last → Fails fault (settled (block_behind body from bound (entry_of key place))) → Fails fault (settled (data_at body 0 None index.entries))
judged_fails fault body from index before here after o place bound key j g is k b f =
    let parts = next_is index here after o place key g is k in
    let one = data_fails fault body from bound (entry_of key place) (rest_of index after) f in
    let there = subst (λ (x : Option InternalKey). Fails fault (settled (data_at body from x (entry_of key place ∷ rest_of index after)))) b one in
    subst (Fails fault) j.left (subst (λ (xs : List Entry). Fails fault (settled (data_at body from before.last xs))) (sym parts) there)

pub judged_shorter : (index : HeldBlock) (here after : Position) (o : Option (List ℕ)) (place : List ℕ) (key : InternalKey) → Given index here after o → o ≡ lent place → found_key key ≡ after.last → length (rest_of index after) < length (rest_of index here)
judged_shorter index here after o place key g is k = omega (arith, ap (λ (xs : List Entry). length xs) (next_is index here after o place key g is k))

same_key : (k l : InternalKey) (v w : List ℕ) (xs ys : List Entry) → entry_of k v ∷ xs ≡ entry_of l w ∷ ys → k ≡ l
same_key k l v w xs ys e = let h : entry_of k v ≡ entry_of l w = cc in ap internal_key h

same_rest : (e f : Entry) (xs ys : List Entry) → e ∷ xs ≡ f ∷ ys → xs ≡ ys
same_rest e f xs ys e2 = cc

-- the cursor behind goes on too
behind : (index : HeldBlock) (before next : Position) (o : Option (List ℕ)) (key : InternalKey) (place : List ℕ) (rest : List Entry) → Given index before next o → rest_of index before ≡ entry_of key place ∷ rest → (next.last ≡ found_key key) × (rest_of index next ≡ rest)
behind index before next None key place rest g is = let bad = sym is ∙ g.0 in absurd cc
behind index before next (Some v) key place rest g is =
    let both = sym g.2 ∙ is in
    (g.1 ∙ ap found_key (same_key g.0 key v place (rest_of index next) rest both), same_rest (entry_of g.0 v) (entry_of key place) (rest_of index next) rest both)

pub judged_on : (body : List ℕ) (from : ℕ) (index : HeldBlock) (before here next after : Position) (o : Option (List ℕ)) (place : List ℕ) (p : Option (List ℕ)) (bound : Option InternalKey) (key : InternalKey) → Judged body index from before here → Given index here after o → o ≡ lent place
    → found_key key ≡ after.last → bound ≡ before.last → settled (block_behind body from bound (entry_of key place)) ≡ well → Given index before next p → (to : ℕ) → to ≡ end_of place → Judged body index to next after
judged_on body from index before here next after o place p bound key j g is k b w q to end =
    let parts = next_is index here after o place key g is k in
    let follows = behind index before next p key place (rest_of index after) q (j.same ∙ parts) in
    let one = data_step body from before.last (entry_of key place) (rest_of index after) (subst (λ (x : Option InternalKey). settled (block_behind body from x (entry_of key place)) ≡ well) b w) in
    record {
      left = ap (λ (n : ℕ). settled (data_at body n next.last (rest_of index after))) end ∙ ap (λ (x : Option InternalKey). settled (data_at body (end_of place) x (rest_of index after))) follows.0 ∙ sym one ∙ ap (λ (xs : List Entry). settled (data_at body from before.last xs)) (sym parts) ∙ j.left;
      same = follows.1;
    }

pub judged_first : (body : List ℕ) (index : HeldBlock) (before here : Position) → before.last ≡ None → rest_of index before ≡ index.entries → rest_of index here ≡ index.entries → Judged body index 0 before here
judged_first body index before here n a b = record {
  left = ap (λ (x : Option InternalKey). settled (data_at body 0 x (rest_of index here))) n ∙ ap (λ (xs : List Entry). settled (data_at body 0 None xs)) b;
  same = a ∙ sym b;
}

pub judged_all : (body : List ℕ) (from : ℕ) (index : HeldBlock) (before here after : Position) (o : Option (List ℕ)) → Judged body index from before here → Given index here after o → o ≡ nothing_lent → settled (data_at body 0 None index.entries) ≡ well
judged_all body from index before here after o j g is =
    let none = (subst (Given index here after) is g).0 in
    sym j.left ∙ ap (λ (xs : List Entry). settled (data_at body from before.last xs)) none ∙ data_none body from before.last
