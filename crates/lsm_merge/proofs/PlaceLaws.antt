-- One entry more: it comes after those of the output in the making, and that goes on.
use Rattle.std.proofs.Common.{◌≡◌, ℕ, ◌≤◌, Bool, true, false, cond, List, [], ◌∷◌, ◌++◌, Option, Some, None, map, Ordering, Less, Equal, Greater, refl, sym, ◌∙◌, ap, subst, arith, append_assoc}
use Rattle.std.specs.Prelude.{Result, Ok, Err, IfErr, IsErrAnd}
use Rattle.std.specs.Ordering.{is_le, is_lt}
use Rattle.lsm_codec.specs.Lists.{Has}
use Rattle.lsm_codec.specs.Keys.{InternalKey, key_cmp}
use Rattle.lsm_codec.specs.Entries.{Entry, internal_key}
use Rattle.lsm_codec.proofs.CallerLemmas.{has_right}
use Rattle.lsm_block.specs.Block.{Ascends}
use Rattle.lsm_block.specs.Building.{after_last, last_key}
use Rattle.lsm_block.proofs.CallerLemmas.{ascends-push}
use Rattle.lsm_table.proofs.CallerLemmas.{key_cmp_total}
use Rattle.lsm_shelf.specs.Asked.{Asked, Put}
use Rattle.lsm_shelf.specs.Told.{Told, Becomes, Counted}
use Rattle.lsm_shelf.specs.declared.shelf_fault.ShelfFault.{ShelfFault}
use Rattle.lsm_shelf.specs.declared.shelf_fault.ShelfFault.TheVariants as why
use Rattle.lsm_table.specs.ReadFault.{ReadCounted}
use Rattle.lsm_table.specs.Registry.{Table}
use Rattle.lsm_table.specs.declared.read_fault.ReadFault.TheVariants as read
use Rattle.lsm_merge.specs.declared.merge_fault.InputFault.TheVariants.{Read, OutOfOrder}
use Rattle.lsm_merge.specs.declared.merge_fault.OutputFault.TheVariants.{TooLarge, Shelf}
use Rattle.lsm_merge.specs.declared.merge_fault.MergeFault.{MergeFault}
use Rattle.lsm_merge.specs.declared.merge_fault.MergeFault.TheVariants.{OutOfMemory, ReadFailed, PutFailed, UnknownTicket, NumbersSpent}
use Rattle.lsm_merge.specs.Causes.{HasCause}
use Rattle.lsm_merge.specs.Cuts.{closes}
use Rattle.lsm_merge.specs.Dropping.{Follows, IsAtMost, IsUpTo, Making, placed, shut, shut_before}
use Rattle.lsm_merge.specs.Outputs.{Goes, Made, PutsEach, PutsMore, PutsTables, SameSizes, entries_of_last, going, making_of, putting_all}
use Rattle.lsm_merge.specs.Remembered.{bare}
use Rattle.lsm_merge.specs.Work.{puts_of}
use Rattle.lsm_merge.specs.Inputs.{IsOrderFault}
use Rattle.lsm_merge.specs.Limits.{IsOverLimit}
use Rattle.lsm_merge.proofs.Limited.{over_more}

-- ---- order

-- an entry that stands after the one before stands after all of the output in the making
pub up_to_after : (es : List Entry) (before : Option Entry) (e : Entry) → IsUpTo es before → Follows before e → after_last (last_key es) (internal_key e) ≡ true
up_to_after es before e up f = go (last_key es) refl
  where
    less : (p : Entry) (key : InternalKey) (o : Ordering) → key_cmp key (internal_key p) ≡ o → is_le o ≡ true → key_cmp (internal_key p) (internal_key e) ≡ Less → is_lt (key_cmp key (internal_key e)) ≡ true
    less p key Less is h k = ap is_lt (key_cmp_total.trans key (internal_key p) (internal_key e) is k)
    less p key Equal is h k = ap is_lt (key_cmp_total.congr key (internal_key p) (internal_key e) is ∙ k)
    less p key Greater is h k = absurd (cc h)

    at : (b : Option Entry) (key : InternalKey) → IsAtMost key b → Follows b e → is_lt (key_cmp key (internal_key e)) ≡ true
    at None key none g = absurd none
    at (Some p) key h g = less p key (key_cmp key (internal_key p)) refl h g

    go : (l : Option InternalKey) → last_key es ≡ l → after_last l (internal_key e) ≡ true
    go None is = refl
    go (Some key) is = at before key (up key is) f

pub ascends_after : (es : List Entry) (before : Option Entry) (e : Entry) → Ascends es → IsUpTo es before → Follows before e → Ascends (es ++ e ∷ [])
ascends_after es before e a up f = ascends-push es e a (up_to_after es before e up f)

last_of_push : (es : List Entry) (e : Entry) → last_key (es ++ e ∷ []) ≡ Some (internal_key e)
last_of_push [] e = refl
last_of_push (x ∷ []) e = refl
last_of_push (x ∷ y ∷ es) e = last_of_push (y ∷ es) e

self_le : (key : InternalKey) → is_le (key_cmp key key) ≡ true
self_le key = go (key_cmp key key) (key_cmp_total.antisymm key key)
  where
    go : (o : Ordering) → o ≡ Rattle.std.specs.Ordering.ordering_reverse o → is_le o ≡ true
    go Less e = refl
    go Equal e = refl
    go Greater e = absurd (cc e)

pub up_to_pushed : (es : List Entry) (e : Entry) → IsUpTo (es ++ e ∷ []) (Some (bare e))
up_to_pushed es e key is = subst (λ (k : InternalKey). is_le (key_cmp k (internal_key e)) ≡ true) (let z : internal_key e ≡ key = (let p = last_of_push es e in cc (p, is)) in z) (self_le (internal_key e))

pub up_to_dropped : (es : List Entry) (before : Option Entry) (e : Entry) → IsUpTo es before → Follows before e → IsUpTo es (Some (bare e))
up_to_dropped es before e up f key is = at before (up key is) f
  where
    less : (p : Entry) (o : Ordering) → key_cmp key (internal_key p) ≡ o → is_le o ≡ true → key_cmp (internal_key p) (internal_key e) ≡ Less → is_le (key_cmp key (internal_key e)) ≡ true
    less p Less same h k = ap is_le (key_cmp_total.trans key (internal_key p) (internal_key e) same k)
    less p Equal same h k = ap is_le (key_cmp_total.congr key (internal_key p) (internal_key e) same ∙ k)
    less p Greater same h k = absurd (cc h)

    at : (b : Option Entry) → IsAtMost key b → Follows b e → is_le (key_cmp key (internal_key e)) ≡ true
    at None none g = absurd none
    at (Some p) h g = less p (key_cmp key (internal_key p)) refl h g

pub up_to_taken : (size : List Entry → ℕ) (target : ℕ) (m : Making) (kept : Bool) (before : Option Entry) (e : Entry) → IsUpTo m.output before → Follows before e
    → IsUpTo (cond {A = Making} kept (placed size target m e) m).output (Some (bare e))
up_to_taken size target m true before e up f = up_to_pushed (shut_before size target m e.user).output e
up_to_taken size target m false before e up f = up_to_dropped m.output before e up f

-- ---- steps

pub sizes_then : (a b c : Made) → SameSizes a b → SameSizes b c → SameSizes a c
sizes_then a b c p q = record { ticket = q.ticket ∙ p.ticket; options = q.options ∙ p.options; target = q.target ∙ p.target }

-- ---- what the shelf was told

going_both : {X Y : Type 0} (f : X → Y) (xs ys : List X) (there : List Y) → going (map f (xs ++ ys)) there ≡ going (map f ys) (going (map f xs) there)
going_both f [] ys there = refl
going_both f (x ∷ xs) ys there = going_both f xs ys (f x ∷ there)

pub map_both : {X Y : Type 0} (f : X → Y) (xs ys : List X) → map f (xs ++ ys) ≡ map f xs ++ map f ys
map_both f [] ys = refl
map_both {Y = Y} f (x ∷ xs) ys = ap (λ (l : List Y). f x ∷ l) (map_both f xs ys)

-- puts after puts
pub becomes_both : (a b : List (ℕ × List ℕ)) (t u v : Told) → Becomes (putting_all a t) u → Becomes (putting_all b u) v → Becomes (putting_all (a ++ b) t) v
becomes_both a b t u v p q = record {
  place = q.place ∙ p.place;
  faults = (let x = p.faults in let y = q.faults in omega arith);
  misses = (let x = p.misses in let y = q.misses in omega arith);
  puts = q.puts ∙ ap (λ (l : List ℕ). going (map (λ (x : ℕ × List ℕ). x.0) b) l) p.puts ∙ sym (going_both (λ (x : ℕ × List ℕ). x.0) a b t.puts);
  gone = q.gone ∙ p.gone;
  listed = q.listed ∙ p.listed;
  manifest = q.manifest ∙ p.manifest;
  sent = q.sent ∙ p.sent;
  found = q.found ∙ p.found;
  starts = q.starts ∙ p.starts;
  written = q.written ∙ p.written;
  forks = q.forks ∙ p.forks;
  made = q.made ∙ ap (λ (l : List Asked). going (map (λ (x : ℕ × List ℕ). Put x.0 x.1) b) l) p.made ∙ sym (going_both (λ (x : ℕ × List ℕ). Put x.0 x.1) a b t.made);
}

each_then : (a b : List ℕ) (t u v : Told) → PutsEach a t u → PutsEach b u v → PutsEach (a ++ b) t v
each_then a b t u v p q = record {
  tables = p.tables ++ q.tables;
  numbers_are = map_both (λ (x : ℕ × List ℕ). x.0) p.tables q.tables ∙ ap (λ (l : List ℕ). l ++ map (λ (x : ℕ × List ℕ). x.0) q.tables) p.numbers_are
      ∙ ap (λ (l : List ℕ). a ++ l) q.numbers_are;
  told = becomes_both p.tables q.tables t u v p.told q.told;
}

pub puts_then : (a b c : List ℕ) (t u v : Told) → PutsMore a b t u → PutsMore b c u v → PutsMore a c t v
puts_then a b c t u v p q = record {
  more = p.more ++ q.more;
  grown = q.grown ∙ ap (λ (l : List ℕ). l ++ q.more) p.grown ∙ append_assoc a p.more q.more;
  told = each_then p.more q.more t u v p.told q.told;
}

-- all that was put from the start
pub puts_all : (put : List ℕ) (t u : Told) → PutsMore [] put t u → PutsEach put t u
puts_all put t u p = subst (λ (l : List ℕ). PutsEach l t u) (sym p.grown) p.told

pub tables_then : (a b c : List Table) (t u v : Told) → PutsTables a b t u → PutsTables b c u v → PutsTables a c t v
tables_then a b c t u v p q = record {
  more = p.more ++ q.more;
  grown = q.grown ∙ ap (λ (l : List Table). l ++ q.more) p.grown ∙ append_assoc a p.more q.more;
  told = subst (λ (l : List (ℕ × List ℕ)). Becomes (putting_all l t) v) (sym (map_both (λ (x : Table). (x.number, x.image)) p.more q.more))
      (becomes_both (puts_of p.more) (puts_of q.more) t u v p.told q.told);
}

pub tables_all : (ts : List Table) (t u : Told) → PutsTables [] ts t u → Becomes (putting_all (puts_of ts) t) u
tables_all ts t u p = subst (λ (l : List Table). Becomes (putting_all (puts_of l) t) u) (sym p.grown) p.told

-- ---- refusals

-- counts that do not fall
pub record Rises (a b : Told) : Type 0 where
  pub faults : a.faults ≤ b.faults
  pub misses : a.misses ≤ b.misses

pub becomes_rises : (a b : Told) → Becomes a b → Rises a b
becomes_rises a b p = record { faults = p.faults; misses = p.misses }

pub puts_rise : (old new : List ℕ) (t u : Told) → PutsMore old new t u → Rises t u
puts_rise old new t u p = record {
  faults = ((p.told).told).faults;
  misses = ((p.told).told).misses;
}

counted_after : (f : ShelfFault) (a b c : Told) → Rises a b → Counted f b c → Counted f a c
counted_after why.OutOfMemory a b c p q = tt
counted_after why.Device a b c p q = (let x = p.faults in omega arith)
counted_after why.Missing a b c p q = (let x = p.misses in omega arith)
counted_after (why.Taken n) a b c p q = (let x = p.misses in omega arith)

read_after : (f : Rattle.lsm_table.specs.declared.read_fault.ReadFault.ReadFault) (a b c : Told) → Rises a b → ReadCounted f b c → ReadCounted f a c
read_after (read.Shelf f) a b c p q = (q.0, counted_after f a b c p q.1)
read_after (read.Table f) a b c p q = tt

pub cause_after : (inputs : List ℕ) (e : MergeFault) (a b c : Told) → Rises a b → HasCause inputs e b c → HasCause inputs e a c
cause_after inputs OutOfMemory a b c p q = tt
cause_after inputs (ReadFailed n (Read f)) a b c p q = (q.0, (read_after f a b c p q.1.0, q.1.1))
cause_after inputs (ReadFailed n OutOfOrder) a b c p q = q
cause_after inputs (PutFailed n TooLarge) a b c p q = tt
cause_after inputs (PutFailed n (Shelf f)) a b c p q = (q.0, (counted_after f a b c p q.1.0, q.1.1))
cause_after inputs (UnknownTicket t) a b c p q = tt
cause_after inputs NumbersSpent a b c p q = tt

-- an input of none is an input
pub cause_of_put : (inputs : List ℕ) (e : MergeFault) (a b : Told) → HasCause [] e a b → HasCause inputs e a b
cause_of_put inputs OutOfMemory a b q = tt
cause_of_put inputs (ReadFailed n (Read f)) a b q = absurd q.0
cause_of_put inputs (ReadFailed n OutOfOrder) a b q = absurd q
cause_of_put inputs (PutFailed n TooLarge) a b q = tt
cause_of_put inputs (PutFailed n (Shelf f)) a b q = q
cause_of_put inputs (UnknownTicket t) a b q = tt
cause_of_put inputs NumbersSpent a b q = tt

-- a fault that is handed on as it is
pub err_is : {A E : Type 0} (P : E → Type 0) (r : Result A E) (f : E) → IsErrAnd r (λ e. e ≡ f) → P f → IfErr r P
err_is P (Ok x) f h k = tt
err_is P (Err e) f h k = subst P (sym h) k

pub if_err : {A E : Type 0} (P Q : E → Type 0) (r : Result A E) → ((e : E) → P e → Q e) → IfErr r P → IfErr r Q
if_err P Q (Ok x) f h = tt
if_err P Q (Err e) f h = f e h

-- ---- entries over a limit

pub place_limit : (a b : Made) (size : List Entry → ℕ) (target : ℕ) (e : Entry) → Goes a b (shut_before size target (making_of a) e.user)
    → IsOverLimit b.options (entries_of_last b.last ++ e ∷ []) → IsOverLimit a.options (entries_of_last a.last ++ e ∷ [])
place_limit a b size target e p o =
    over_more a.options (entries_of_last b.last ++ e ∷ []) (entries_of_last a.last ++ e ∷ [])
    (λ x h. still (closes size target (entries_of_last a.last) e.user) x (subst (λ (es : List Entry). Has (es ++ e ∷ []) x) (ap (λ (m : Making). m.output) p.is) h))
    (subst (λ (t : Rattle.lsm_table.specs.declared.table_options.TableOptions.TableOptions). IsOverLimit t (entries_of_last b.last ++ e ∷ [])) (p.sizes).options o)
  where
    still : (t : Bool) (x : Entry) → Has ((cond {A = Making} t (shut (making_of a)) (making_of a)).output ++ e ∷ []) x → Has (entries_of_last a.last ++ e ∷ []) x
    still true x h = has_right (entries_of_last a.last) (e ∷ []) x h
    still false x h = h

-- an output that is put was asked of no source, and no input is at fault
pub order_put : (e : MergeFault) (a b : Told) → HasCause [] e a b → IsOrderFault e → ⊥
order_put OutOfMemory a b q h = h
order_put (ReadFailed n (Read f)) a b q h = h
order_put (ReadFailed n OutOfOrder) a b q h = q
order_put (PutFailed n f) a b q h = h
order_put (UnknownTicket t) a b q h = h
order_put NumbersSpent a b q h = h
