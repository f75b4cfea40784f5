-- The words of a scan.
use Rattle.std.proofs.Common.{◌≡◌, ◌≢◌, ℕ, suc, ◌+◌, ◌-◌, ◌^◌, ◌<◌, ◌≤◌, List, [], ◌∷◌, ◌++◌, length, take, drop, get_or, codes, Option, Some, None, refl, sym, ap, ◌∙◌, subst, append-nil, take-append-drop, drop-cons, arith}
use Rattle.std.proofs.lemmas.List.{get_or-append-add, get_or-map, length-append, length-drop, length-map, take-map, take_all, drop_all}
use Rattle.std.proofs.Math.Seq.{get_or-append_seam, take-append_seam}
use Rattle.lsm_text.specs.Numbers.{IsNumberWord}
use Rattle.lsm_text.specs.declared.form.Form.{Form}
use Rattle.lsm_requests.specs.declared.key_bounds.KeyBounds.{KeyBounds}
use Rattle.std.specs.Prelude.{IfNone, IfOk, IfSome, Result, Ok, Err}
use Rattle.lsm_cmd_shell.specs.Asks.{AreEnds, HasLimit, IsScanRest, IsScanWords}
use Rattle.lsm_cmd_shell.proofs.WordTexts.{Word, blank, more_texts, texts}

-- ---- words by their places

pub text_at : (ws : List Word) (i : ℕ) → i < length ws → get_or (texts ws) i [] ≡ (get_or ws i blank).now
text_at ws i h = get_or-map (λ (w : Word). w.now) ws i blank [] h

pub text_count : (ws : List Word) → length (texts ws) ≡ length ws
text_count ws = length-map ws (λ (w : Word). w.now)

pub texts_take : (ws : List Word) (n : ℕ) → texts (take n ws) ≡ take n (texts ws)
texts_take ws n = sym (take-map (λ (w : Word). w.now) n ws)

-- the last two words
last_two : (ws : List (List ℕ)) → 2 ≤ length ws → ws ≡ take (length ws - 2) ws ++ (get_or ws (length ws - 2) [] ∷ get_or ws (length ws - 1) [] ∷ [])
last_two ws h =
    let n = length ws - 2 in
    let one : drop n ws ≡ get_or ws n [] ∷ drop (suc n) ws = drop-cons ws n [] (omega (arith, h)) in
    let two : drop (suc n) ws ≡ get_or ws (suc n) [] ∷ drop (suc (suc n)) ws = drop-cons ws (suc n) [] (omega (arith, h)) in
    let end : drop (suc (suc n)) ws ≡ [] = drop_all (suc (suc n)) ws (omega (arith, h)) in
    let place : suc n ≡ length ws - 1 = omega (arith, h) in
    sym (take-append-drop n ws) ∙ ap (λ (l : List (List ℕ)). take n ws ++ l)
    (one ∙ ap (λ (l : List (List ℕ)). get_or ws n [] ∷ l) (two ∙ ap (λ (l : List (List ℕ)). get_or ws (suc n) [] ∷ l) end ∙ ap (λ k. get_or ws k [] ∷ []) place))

-- of words that end by these two
count_of : (front : List (List ℕ)) (x y : List ℕ) → length (front ++ x ∷ y ∷ []) ≡ length front + 2
count_of front x y = length-append front (x ∷ y ∷ [])

before_last : (front : List (List ℕ)) (x y : List ℕ) → get_or (front ++ x ∷ y ∷ []) (length (front ++ x ∷ y ∷ []) - 2) [] ≡ x
before_last front x y =
    let place : length (front ++ x ∷ y ∷ []) - 2 ≡ length front = omega (arith, count_of front x y) in
    ap (λ k. get_or (front ++ x ∷ y ∷ []) k []) place ∙ get_or-append_seam front x (y ∷ []) []

the_last : (front : List (List ℕ)) (x y : List ℕ) → get_or (front ++ x ∷ y ∷ []) (length (front ++ x ∷ y ∷ []) - 1) [] ≡ y
the_last front x y =
    let place : length (front ++ x ∷ y ∷ []) - 1 ≡ length front + 1 = omega (arith, count_of front x y) in
    ap (λ k. get_or (front ++ x ∷ y ∷ []) k []) place ∙ get_or-append-add front (x ∷ y ∷ []) 1 []

the_front : (front : List (List ℕ)) (x y : List ℕ) → take (length (front ++ x ∷ y ∷ []) - 2) (front ++ x ∷ y ∷ []) ≡ front
the_front front x y =
    let place : length (front ++ x ∷ y ∷ []) - 2 ≡ length front = omega (arith, count_of front x y) in
    ap (λ k. take k (front ++ x ∷ y ∷ [])) place ∙ take-append_seam front (x ∷ y ∷ [])

-- ---- with a limit

pub limited_some : (form : Form) (ws : List (List ℕ)) (b : KeyBounds) (n : ℕ) → HasLimit ws → AreEnds form (take (length ws - 2) ws) b → IsNumberWord (2 ^ 64 - 1) (get_or ws (length ws - 1) []) n
    → IsScanRest form ws b (Some n)
limited_some form ws b n h ends number = record {
  ends = take (length ws - 2) ws;
  tail = codes "limit" ∷ get_or ws (length ws - 1) [] ∷ [];
  words_are = last_two ws h.0 ∙ ap (λ (w : List ℕ). take (length ws - 2) ws ++ (w ∷ get_or ws (length ws - 1) [] ∷ [])) h.1;
  are_ends = ends;
  is_limit = (get_or ws (length ws - 1) [], refl, number);
}

no_ends : (form : Form) (ws : List (List ℕ)) (b : KeyBounds) → HasLimit ws → AreEnds form ws b → ⊥
no_ends form [] b h k = let low = h.0 in omega (arith, low)
no_ends form (f ∷ []) b h k = let low = h.0 in omega (arith, low)
no_ends form (f ∷ t ∷ []) b h k = k.4 h.1
no_ends form (f ∷ t ∷ w ∷ ws) b h k = k

pub no_number : (form : Form) (ws : List (List ℕ)) → HasLimit ws → ((n : ℕ) → IsNumberWord (2 ^ 64 - 1) (get_or ws (length ws - 1) []) n → ⊥) → (b : KeyBounds) (l : Option ℕ) → IsScanRest form ws b l → ⊥
no_number form ws h none b None k = no_ends form ws b h (subst (λ (l : List (List ℕ)). AreEnds form l b) (sym (k.words_are ∙ ap (λ (l : List (List ℕ)). k.ends ++ l) k.is_limit ∙ append-nil k.ends)) k.are_ends)
no_number form ws h none b (Some n) k =
    let whole = k.words_are ∙ ap (λ (l : List (List ℕ)). k.ends ++ l) k.is_limit.1 in
    let last = ap (λ (l : List (List ℕ)). get_or l (length l - 1) []) whole ∙ the_last k.ends (codes "limit") k.is_limit.0 in
    none n (subst (λ (w : List ℕ). IsNumberWord (2 ^ 64 - 1) w n) (sym last) k.is_limit.2)

pub no_bounds : (form : Form) (ws : List (List ℕ)) → HasLimit ws → ((b : KeyBounds) → AreEnds form (take (length ws - 2) ws) b → ⊥) → (b : KeyBounds) (l : Option ℕ) → IsScanRest form ws b l → ⊥
no_bounds form ws h none b None k = no_ends form ws b h (subst (λ (l : List (List ℕ)). AreEnds form l b) (sym (k.words_are ∙ ap (λ (l : List (List ℕ)). k.ends ++ l) k.is_limit ∙ append-nil k.ends)) k.are_ends)
no_bounds form ws h none b (Some n) k =
    let whole = k.words_are ∙ ap (λ (l : List (List ℕ)). k.ends ++ l) k.is_limit.1 in
    let front = ap (λ (l : List (List ℕ)). take (length l - 2) l) whole ∙ the_front k.ends (codes "limit") k.is_limit.0 in
    none b (subst (λ (l : List (List ℕ)). AreEnds form l b) (sym front) k.are_ends)

-- ---- without

pub unlimited_some : (form : Form) (ws : List (List ℕ)) (b : KeyBounds) → AreEnds form ws b → IsScanRest form ws b None
unlimited_some form ws b ends = record { ends = ws; tail = []; words_are = sym (append-nil ws); are_ends = ends; is_limit = refl }

pub no_unlimited : (form : Form) (ws : List (List ℕ)) → (HasLimit ws → ⊥) → ((b : KeyBounds) → AreEnds form ws b → ⊥) → (b : KeyBounds) (l : Option ℕ) → IsScanRest form ws b l → ⊥
no_unlimited form ws other none b None k = none b (subst (λ (l : List (List ℕ)). AreEnds form l b) (sym (k.words_are ∙ ap (λ (l : List (List ℕ)). k.ends ++ l) k.is_limit ∙ append-nil k.ends)) k.are_ends)
no_unlimited form ws other none b (Some n) k =
    let whole = k.words_are ∙ ap (λ (l : List (List ℕ)). k.ends ++ l) k.is_limit.1 in
    let long : 2 ≤ length ws = omega (arith, ap length whole ∙ count_of k.ends (codes "limit") k.is_limit.0) in
    other (long, ap (λ (l : List (List ℕ)). get_or l (length l - 2) []) whole ∙ before_last k.ends (codes "limit") k.is_limit.0)

-- ---- the same of words behind references

pub limit_at : (ws : List Word) → 2 ≤ length ws → (get_or ws (length ws - 2) blank).now ≡ codes "limit" → HasLimit (texts ws)
limit_at ws low name =
    let long : 2 ≤ length (texts ws) = omega (arith, low, text_count ws) in
    let inside : length ws - 2 < length ws = omega (arith, low) in
    (long, ap (λ k. get_or (texts ws) (k - 2) []) (text_count ws) ∙ text_at ws (length ws - 2) inside ∙ name)

pub no_limit_at : (ws : List Word) → 2 ≤ length ws → (get_or ws (length ws - 2) blank).now ≢ codes "limit" → HasLimit (texts ws) → ⊥
no_limit_at ws low other h =
    let inside : length ws - 2 < length ws = omega (arith, low) in
    other (sym (ap (λ k. get_or (texts ws) (k - 2) []) (text_count ws) ∙ text_at ws (length ws - 2) inside) ∙ h.1)

pub too_short : (ws : List Word) → length ws < 2 → HasLimit (texts ws) → ⊥
too_short ws few h = let low = h.0 in omega (arith, few, low, text_count ws)

pub last_word : (ws : List Word) → HasLimit (texts ws) → get_or (texts ws) (length (texts ws) - 1) [] ≡ (get_or ws (length ws - 1) blank).now
last_word ws h =
    let low = h.0 in
    let inside : length ws - 1 < length ws = omega (arith, low, text_count ws) in
    ap (λ k. get_or (texts ws) (k - 1) []) (text_count ws) ∙ text_at ws (length ws - 1) inside

pub begins_limit : (form : Form) (ws : List Word) (b : KeyBounds) → 2 ≤ length ws → length ws < 3 → (get_or ws 0 blank).now ≡ codes "limit" → AreEnds form (texts ws) b → ⊥
begins_limit form [] b low high name h = omega (arith, low)
begins_limit form (f ∷ []) b low high name h = omega (arith, low)
begins_limit form (f ∷ t ∷ []) b low high name h = h.4 name
begins_limit form (f ∷ t ∷ w ∷ ws) b low high name h = h

-- ---- behind the name

pub later_words : {X : Type 0} (xs : List X) → take (length xs - 1) (drop 1 xs) ≡ drop 1 xs
later_words xs = take_all (length xs - 1) (drop 1 xs) (omega (arith, length-drop 1 xs))

pub scan_some : {E : Type 0} (form : Form) (ws rest : List Word) (r : Result (Option (KeyBounds × Option ℕ)) E) → 1 ≤ length ws → (get_or ws 0 blank).now ≡ codes "scan" → rest ≡ drop 1 ws
    → IfOk r (λ o. IfSome o (λ s. IsScanRest form (texts rest) s.0 s.1)) → IfOk r (λ o. IfSome o (λ s. IsScanWords form (texts ws) s.0 s.1))
scan_some form ws rest (Ok None) low name same h = tt
scan_some form ws rest (Ok (Some s)) low name same h =
    (texts rest, more_texts ws low ∙ ap (λ (x : List ℕ). x ∷ texts (drop 1 ws)) name ∙ ap (λ (k : List Word). codes "scan" ∷ texts k) (sym same), h)
scan_some form ws rest (Err e) low name same h = tt

pub scan_none : {E : Type 0} (form : Form) (ws rest : List Word) (r : Result (Option (KeyBounds × Option ℕ)) E) → 1 ≤ length ws → rest ≡ drop 1 ws
    → IfOk r (λ o. IfNone o ((b : KeyBounds) (n : Option ℕ) → IsScanRest form (texts rest) b n → ⊥)) → IfOk r (λ o. IfNone o ((b : KeyBounds) (n : Option ℕ) → IsScanWords form (texts ws) b n → ⊥))
scan_none form ws rest (Ok None) low same h = λ b n k.
    (let whole : texts (drop 1 ws) ≡ k.0 = ap (λ (l : List (List ℕ)). drop 1 l) (sym (more_texts ws low) ∙ k.1) in
    h b n (subst (λ (l : List (List ℕ)). IsScanRest form l b n) (sym (ap texts same ∙ whole)) k.2))
scan_none form ws rest (Ok (Some s)) low same h = tt
scan_none form ws rest (Err e) low same h = tt
