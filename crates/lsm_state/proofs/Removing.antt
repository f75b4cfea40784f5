-- What removals, one after another, leave of what a shelf was told.
use Rattle.std.proofs.Common.{◌≡◌, ℕ, ◌+◌, ◌<◌, List, [], ◌∷◌, ◌++◌, length, get_or, take, drop, refl, sym, ◌∙◌, ap, subst, inl, inr, arith}
use Rattle.std.specs.Prelude.{◌⊎◌, Result, Ok, Err, OnErr}
use Rattle.std.proofs.lemmas.List.{drop_more, take_more, take-append-drop}
use Rattle.lsm_codec.specs.Lists.{Has}
use Rattle.lsm_codec.proofs.CallerLemmas.{has_right}
use Rattle.lsm_shelf.specs.Asked.{Asked, Remove}
use Rattle.lsm_shelf.specs.Told.{Told, Becomes, removed_by, removing}
use Rattle.lsm_shelf.specs.declared.shelf_fault.ShelfFault.{ShelfFault}
use Rattle.lsm_shelf.specs.declared.shelf_fault.ShelfFault.TheVariants.{OutOfMemory, Device, Missing, Taken}
use Rattle.lsm_merge.specs.Outputs.{going}
use Rattle.lsm_state.specs.Collecting.{IsStopped, removals_of, removing_all}

-- what was told before numbers were removed
pub becomes_removing : (ns : List ℕ) (a b c : Told) → Becomes a b → Becomes (removing_all ns b) c → Becomes (removing_all ns a) c
becomes_removing ns a b c x y = record {
  place = y.place ∙ x.place;
  faults = (let p = x.faults in let q = y.faults in omega arith);
  misses = (let p = x.misses in let q = y.misses in omega arith);
  puts = y.puts ∙ x.puts;
  gone = y.gone ∙ ap (going ns) x.gone;
  listed = y.listed ∙ x.listed;
  manifest = y.manifest ∙ x.manifest;
  sent = y.sent ∙ x.sent;
  found = y.found ∙ x.found;
  starts = y.starts ∙ x.starts;
  written = y.written ∙ x.written;
  forks = y.forks ∙ x.forks;
  made = y.made ∙ ap (going (removals_of ns)) x.made;
}

going-push : (ns : List ℕ) (n : ℕ) (gone : List ℕ) → going (ns ++ n ∷ []) gone ≡ n ∷ going ns gone
going-push [] n gone = refl
going-push (m ∷ ns) n gone = going-push ns n (m ∷ gone)

pub removals-push : (ns : List ℕ) (n : ℕ) (made : List Asked) → going (removals_of (ns ++ n ∷ [])) made ≡ Remove n ∷ going (removals_of ns) made
removals-push [] n made = refl
removals-push (m ∷ ns) n made = removals-push ns n (Remove m ∷ made)

-- one more was removed
pub removed_more : (ns : List ℕ) (n : ℕ) (a b c : Told) → Becomes (removing_all ns a) b → Becomes (removing n b) c → Becomes (removing_all (ns ++ n ∷ []) a) c
removed_more ns n a b c x y = record {
  place = y.place ∙ x.place;
  faults = (let p = x.faults in let q = y.faults in omega arith);
  misses = (let p = x.misses in let q = y.misses in omega arith);
  puts = y.puts ∙ x.puts;
  gone = y.gone ∙ (ap (λ g. n ∷ g) x.gone ∙ sym (going-push ns n a.gone));
  listed = y.listed ∙ x.listed;
  manifest = y.manifest ∙ x.manifest;
  sent = y.sent ∙ x.sent;
  found = y.found ∙ x.found;
  starts = y.starts ∙ x.starts;
  written = y.written ∙ x.written;
  forks = y.forks ∙ x.forks;
  made = y.made ∙ (ap (λ m. Remove n ∷ m) x.made ∙ sym (removals-push ns n a.made));
}

then_same : (ns : List ℕ) (a b c : Told) → Becomes (removing_all ns a) b → Becomes b c → Becomes (removing_all ns a) c
then_same ns a b c x y = record {
  place = y.place ∙ x.place;
  faults = (let p = x.faults in let q = y.faults in omega arith);
  misses = (let p = x.misses in let q = y.misses in omega arith);
  puts = y.puts ∙ x.puts;
  gone = y.gone ∙ x.gone;
  listed = y.listed ∙ x.listed;
  manifest = y.manifest ∙ x.manifest;
  sent = y.sent ∙ x.sent;
  found = y.found ∙ x.found;
  starts = y.starts ∙ x.starts;
  written = y.written ∙ x.written;
  forks = y.forks ∙ x.forks;
  made = y.made ∙ x.made;
}

-- How the removal of the first numbers stands.
pub record AreGone (ns removed : List ℕ) (was now : Told) (i : ℕ) : Type 0 where
  pub noted : removed ≡ take i ns
  pub asked : Becomes (removing_all (take i ns) was) now

pub gone_more : (ns removed : List ℕ) (was now is : Told) (i : ℕ) → i < length ns → AreGone ns removed was now i → Becomes (removing (get_or ns i 0) now) is → AreGone ns (removed ++ get_or ns i 0 ∷ []) was is (i + 1)
gone_more ns removed was now is i lt g y = record {
  noted = ap (λ l. l ++ get_or ns i 0 ∷ []) g.noted ∙ sym (take_more ns i 0 lt);
  asked = subst (λ l. Becomes (removing_all l was) is) (sym (take_more ns i 0 lt)) (removed_more (take i ns) (get_or ns i 0) was now is g.asked y);
}

-- the next number is one of those that were to go
pub stopped_next : (ns removed back : List ℕ) (n : ℕ) (rest : List ℕ) → ns ≡ removed ++ back → back ≡ n ∷ rest → Has ns n
stopped_next ns removed back n rest parts next = subst (λ l. Has l n) (sym (parts ∙ ap (λ l. removed ++ l) next)) (has_right removed (n ∷ rest) n (inl refl))

-- the removal of the next number stopped
pub stopped_at : (ns removed : List ℕ) (was now is : Told) (i : ℕ) → i < length ns → AreGone ns removed was now i → Becomes now is ⊎ Becomes (removing (get_or ns i 0) now) is → IsStopped ns removed was is
stopped_at ns removed was now is i lt g y = subst (λ l. IsStopped ns l was is) (sym g.noted) record {
  back = drop i ns;
  parts = sym (take-append-drop i ns);
  asked = elim y [
    | inl same ↦ inl (then_same (take i ns) was now is g.asked same)
    | inr more ↦ inr (get_or ns i 0, drop (i + 1) ns, drop_more ns i 0 lt, removed_more (take i ns) (get_or ns i 0) was now is g.asked more)
  ];
}

asked_at : (T : Type 0) (e : ShelfFault) (n : ℕ) (now is : Told) → Becomes (removed_by {T = T} (Err e) n now) is → Becomes now is ⊎ Becomes (removing n now) is
asked_at T OutOfMemory n now is x = inl x
asked_at T Device n now is x = inr x
asked_at T Missing n now is x = inr x
asked_at T (Taken m) n now is x = inr x

pub asked_or_not : {T : Type 0} (r : Result T ShelfFault) (e : ShelfFault) (n : ℕ) (now is : Told) → r ≡ Err e → Becomes (removed_by r n now) is → Becomes now is ⊎ Becomes (removing n now) is
asked_or_not {T = T} r e n now is was b = asked_at T e n now is (subst (λ x. Becomes (removed_by {T = T} x n now) is) was b)

pub on_err : {A E P : Type 0} (r : Result A E) → P → OnErr r P
on_err (Ok a) p = tt
on_err (Err e) p = p

-- what was told before
pub stopped_before : (ns removed : List ℕ) (a b c : Told) → Becomes a b → IsStopped ns removed b c → IsStopped ns removed a c
stopped_before ns removed a b c x s = record {
  back = s.back;
  parts = s.parts;
  asked = elim s.asked [
    | inl same ↦ inl (becomes_removing removed a b c x same)
    | inr more ↦ inr (more.0, more.1, more.2, becomes_removing (removed ++ more.0 ∷ []) a b c x more.3)
  ];
}
