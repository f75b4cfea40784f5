-- Text that goes to a writer piece by piece.
use Rattle.std.proofs.Common.{◌≡◌, ℕ, List, [], ◌++◌, Option, Result, Ok, Err, refl, sym, ap, ◌∙◌, subst, append_assoc, append-nil, take, drop, take-append-drop}
use Rattle.std.specs.Prelude.{OnErr, OnOk}
use Rattle.std.specs.Io.KnownBytes.{Appends, Keeps}
use Rattle.std.proofs.KnownBytes.{Appends-nil, Appends-trans, Appends-kept}
use Rattle.lsm_text.specs.Printing.{Begins, Passes, Stops}

-- ---- under a result

pub on_err : {X E : Type 0} {P : Type 0} (r : Result X E) → P → OnErr r P
on_err (Ok x) p = tt
on_err (Err e) p = p

-- ---- text that was printed

pub passes_none : (a : Option (List ℕ)) (h : List ℕ) → Passes a h a h []
passes_none a h = ([], Appends-nil a, append-nil h)

pub passes_then : (a b c : Option (List ℕ)) (h k l s t : List ℕ) → Passes a h b k s → Passes b k c l t → Passes a h c l (s ++ t)
passes_then a b c h k l s t p q = (
  p.0 ++ q.0,
  Appends-trans a b c p.0 q.0 p.1 q.1,
  sym (append_assoc h s t) ∙ ap (λ (x : List ℕ). x ++ t) p.2 ∙ append_assoc p.0 k t ∙ ap (λ (x : List ℕ). p.0 ++ x) q.2 ∙ sym (append_assoc p.0 q.0 l),
)

pub passes_kept : (a b c : Option (List ℕ)) (h l t : List ℕ) → Passes a h b l t → Keeps b c → Passes a h c l t
passes_kept a b c h l t p kept = (p.0, Appends-kept a b c p.0 p.1 kept, p.2)

-- ---- bytes that are written by several calls

pub written_more : (a b c : Option (List ℕ)) (n : ℕ) (rest t : List ℕ) → Passes a [] b rest t → Appends b c (take n rest) → Passes a [] c (drop n rest) t
written_more a b c n rest t p more = (
  p.0 ++ take n rest,
  Appends-trans a b c p.0 (take n rest) p.1 more,
  p.2 ∙ ap (λ (x : List ℕ). p.0 ++ x) (sym (take-append-drop n rest)) ∙ sym (append_assoc p.0 (take n rest) (drop n rest)),
)

-- ---- text of which a beginning was written

pub stops_in : (a b : Option (List ℕ)) (h s t : List ℕ) → Stops a h b s → Stops a h b (s ++ t)
stops_in a b h s t p = (p.0 ++ t, (p.1.0, p.1.1, sym (append_assoc h s t) ∙ ap (λ (x : List ℕ). x ++ t) p.1.2 ∙ append_assoc p.1.0 p.0 t))

pub stops_then : (a b c : Option (List ℕ)) (h k s t : List ℕ) → Passes a h b k s → Stops b k c t → Stops a h c (s ++ t)
stops_then a b c h k s t p q = (q.0, passes_then a b c h k q.0 s t p q.1)

-- ---- items that are printed one after the other

-- Of these items those that are not left were printed. The text of items is that of some and that of the others behind it.
abbrev pub Printed : {X : Type 0} → (List X → List ℕ) → (all left : List X) → Option (List ℕ) → List ℕ → Option (List ℕ) → List ℕ → Type 0
Printed {X} text all left old held new now = (front : List X) × (all ≡ front ++ left) × Passes old held new now (text front)

-- it is printed item by item
abbrev pub Splits : {X : Type 0} → (List X → List ℕ) → Type 0
Splits {X} text = (xs ys : List X) → text (xs ++ ys) ≡ text xs ++ text ys

module _ {X : Type 0} (text : List X → List ℕ) where
  pub printed_none : (all : List X) (a : Option (List ℕ)) (h : List ℕ) → text [] ≡ [] → Printed text all all a h a h
  printed_none all a h none = ([], refl, subst (Passes a h a h) (sym none) (passes_none a h))

  pub printed_more : (all left later some : List X) (a b c : Option (List ℕ)) (h k l : List ℕ) → Splits text → Printed text all left a h b k → left ≡ some ++ later
      → Passes b k c l (text some) → Printed text all later a h c l
  printed_more all left later some a b c h k l splits p first q = (
    p.0 ++ some,
    p.1 ∙ ap (λ (xs : List X). p.0 ++ xs) first ∙ sym (append_assoc p.0 some later),
    subst (Passes a h c l) (sym (splits p.0 some)) (passes_then a b c h k l (text p.0) (text some) p.2 q),
  )

  pub printed_stops : (all left later some : List X) (a b c : Option (List ℕ)) (h k : List ℕ) → Splits text → Printed text all left a h b k → left ≡ some ++ later
      → Stops b k c (text some) → Stops a h c (text all)
  printed_stops all left later some a b c h k splits p first q =
      let whole : text all ≡ (text p.0 ++ text some) ++ text later =
      ap text (p.1 ∙ ap (λ (xs : List X). p.0 ++ xs) first ∙ sym (append_assoc p.0 some later)) ∙ splits (p.0 ++ some) later
      ∙ ap (λ (t : List ℕ). t ++ text later) (splits p.0 some) in
      subst (Stops a h c) (sym whole) (stops_in a c h (text p.0 ++ text some) (text later) (stops_then a b c h k (text p.0) (text some) p.2 q))

  -- nothing more of it was printed
  pub printed_ends : (all left : List X) (a b c : Option (List ℕ)) (h k : List ℕ) → Splits text → Printed text all left a h b k → Keeps b c → Stops a h c (text all)
  printed_ends all left a b c h k splits p kept =
      let whole : text all ≡ text p.0 ++ text left = ap text p.1 ∙ splits p.0 left in
      subst (Stops a h c) (sym whole) (stops_in a c h (text p.0) (text left) (k, passes_kept a b c h k (text p.0) p.2 kept))

-- ---- what a call printed

pub ok_text : {X E : Type 0} (r : Result X E) (a b : Option (List ℕ)) (h k s t : List ℕ) → s ≡ t → OnOk r (Passes a h b k s) → OnOk r (Passes a h b k t)
ok_text r a b h k s t e p = subst (λ (x : List ℕ). OnOk r (Passes a h b k x)) e p

pub err_text : {X E : Type 0} (r : Result X E) (a b : Option (List ℕ)) (h s t : List ℕ) → s ≡ t → OnErr r (Stops a h b s) → OnErr r (Stops a h b t)
err_text r a b h s t e p = subst (λ (x : List ℕ). OnErr r (Stops a h b x)) e p

pub ok_then : {X E : Type 0} (r : Result X E) (a b c : Option (List ℕ)) (h k l s t : List ℕ) → Passes a h b k s → OnOk r (Passes b k c l t) → OnOk r (Passes a h c l (s ++ t))
ok_then (Ok x) a b c h k l s t p q = passes_then a b c h k l s t p q
ok_then (Err e) a b c h k l s t p q = tt

pub err_then : {X E : Type 0} (r : Result X E) (a b c : Option (List ℕ)) (h k s t : List ℕ) → Passes a h b k s → OnErr r (Stops b k c t) → OnErr r (Stops a h c (s ++ t))
err_then (Ok x) a b c h k s t p q = tt
err_then (Err e) a b c h k s t p q = stops_then a b c h k s t p q

-- all was printed, and what was held is written
pub err_finish : {X E : Type 0} (r : Result X E) (a b c : Option (List ℕ)) (h k t : List ℕ) → h ≡ [] → Passes a h b k t → OnErr r (Begins b c k) → OnErr r (Begins a c t)
err_finish (Ok x) a b c h k t none p q = tt
err_finish (Err e) a b c h k t none p q =
    subst (λ (x : List ℕ). Stops a x c t) none
    (q.0, (p.0 ++ q.1.0, Appends-trans a b c p.0 q.1.0 p.1 q.1.1, p.2 ∙ ap (λ (x : List ℕ). p.0 ++ x) q.1.2 ∙ sym (append_assoc p.0 q.1.0 q.0)))

-- all was written, and then a flush failed
pub begins_whole : (a b c : Option (List ℕ)) (t : List ℕ) → Appends a b t → Keeps b c → Begins a c t
begins_whole a b c t p kept = ([], (t, Appends-kept a b c t p kept, sym (append-nil t)))
