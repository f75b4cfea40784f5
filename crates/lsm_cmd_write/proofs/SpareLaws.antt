-- Files of which some are removed, name after name.
use Rattle.std.proofs.Common.{◌≡◌, ℕ, ◌+◌, ◌<◌, List, [], ◌∷◌, ◌++◌, Option, length, get_or, take, drop, map, refl, sym, ap, ◌∙◌, subst, append-nil, inl, inr, take-append-drop}
use Rattle.std.specs.Prelude.{Ok, reverse}
use Rattle.std.specs.Io.KnownBytes.{Appends}
use Rattle.std.proofs.KnownBytes.{Appends-nil, Appends-trans}
use Rattle.std.proofs.lemmas.Grind.{flat_map-append}
use Rattle.std.proofs.lemmas.List.{drop_more, map-append, map_push, reverse-append}
use Rattle.lsm_folder.specs.Calls.{Call, removed}
use Rattle.lsm_directory.specs.Logs.{AreThose}
use Rattle.lsm_journal.specs.HeldManifest.{HeldManifest}
use Rattle.lsm_cmd_write.specs.Cleaning.{AreRemoved, IsSpare, Removes, lines, removals}

those_append : {X : Type 0} (P : X → Type 0) (xs ys zs : List X) (x : X) → AreThose P xs ys → AreThose P (x ∷ []) zs → AreThose P (xs ++ x ∷ []) (ys ++ zs)
those_append P [] ys zs x none h = subst (λ (l : List _). AreThose P (x ∷ []) (l ++ zs)) (sym none) h
those_append P (w ∷ ws) ys zs x (inl (first, (rest, parts, front))) h = inl (first, (rest ++ zs, ap (λ (l : List _). l ++ zs) parts, those_append P ws rest zs x front h))
those_append P (w ∷ ws) ys zs x (inr (other, front)) h = inr (other, those_append P ws ys zs x front h)

removals_more : (names : List (List ℕ)) (name : List ℕ) (old : List Call) → removals (names ++ name ∷ []) old ≡ removed name (Ok tt) ∷ removals names old
removals_more names name old =
    ap (λ (calls : List Call). reverse calls ++ old) (map_push (λ n. removed n (Ok tt)) names name)
    ∙ ap (λ (calls : List Call). calls ++ old) (reverse-append (map (λ n. removed n (Ok tt)) names) (removed name (Ok tt) ∷ []))

lines_more : (names : List (List ℕ)) (name : List ℕ) → lines (names ++ name ∷ []) ≡ lines names ++ (name ++ 10 ∷ [])
lines_more names name =
    flat_map-append (λ (n : List ℕ). n ++ 10 ∷ []) names (name ∷ []) ∙ ap (λ (t : List ℕ). lines names ++ t) (append-nil (name ++ 10 ∷ []))

pub removed_none : (manifest : HeldManifest) (tables : List ℕ) (old : List Call) (before : Option (List ℕ)) → AreRemoved manifest tables [] old old before before
removed_none manifest tables old before = record { spares = []; those = refl; calls = refl; printed = Appends-nil before }

-- one name more
pub removed_more : (manifest : HeldManifest) (tables : List ℕ) (front : List (List ℕ)) (name : List ℕ) (old mid new : List Call) (before between after : Option (List ℕ))
    → AreRemoved manifest tables front old mid before between → Removes manifest tables name mid new between after
    → AreRemoved manifest tables (front ++ name ∷ []) old new before after
removed_more manifest tables front name old mid new before between after r (inl (spare, call, line)) = record {
  spares = r.spares ++ name ∷ [];
  those = those_append (IsSpare manifest tables) front r.spares (name ∷ []) name r.those (inl (spare, ([], refl, refl)));
  calls = call ∙ ap (λ (calls : List Call). removed name (Ok tt) ∷ calls) r.calls ∙ sym (removals_more r.spares name old);
  printed =
      subst (λ (t : List ℕ). Appends before after t) (sym (lines_more r.spares name))
      (Appends-trans before between after (lines r.spares) (name ++ 10 ∷ []) r.printed line);
}
removed_more manifest tables front name old mid new before between after r (inr (needed, call, kept)) = record {
  spares = r.spares;
  those =
      subst (λ (l : List (List ℕ)). AreThose (IsSpare manifest tables) (front ++ name ∷ []) l) (append-nil r.spares)
      (those_append (IsSpare manifest tables) front r.spares [] name r.those (inr (needed, refl)));
  calls = call ∙ r.calls;
  printed = subst (λ o. Appends before o (lines r.spares)) (sym kept) r.printed;
}

-- the names around one
pub names_around : {X : Type 0} (text : X → List ℕ) (xs : List X) (i : ℕ) (x : X) (word : List ℕ) → i < length xs → x ≡ get_or xs i x → word ≡ text x
    → map text xs ≡ map text (take i xs) ++ word ∷ map text (drop (i + 1) xs)
names_around text xs i x word inside is spelled =
    ap (map text) (sym (take-append-drop i xs)) ∙ map-append text (take i xs) (drop i xs)
    ∙ ap (λ ys. map text (take i xs) ++ map text ys) (drop_more xs i x inside)
    ∙ ap (λ w. map text (take i xs) ++ w ∷ map text (drop (i + 1) xs)) (ap text (sym is) ∙ sym spelled)
