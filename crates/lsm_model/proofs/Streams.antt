-- Streaming with one remembered entry keeps what the filter by two conditions keeps.
use Rattle.std.proofs.Common.{◌≡◌, ℕ, ◌≤◌, ◌<◌, Bool, true, false, cond, List, [], ◌∷◌, ◌++◌, Option, Some, None, refl, sym, ◌∙◌, ap, subst, inl, inr, arith, append_assoc}
use Rattle.std.specs.Prelude.{◌⊎◌, ◌&&◌, not, nat_le}
use Rattle.std.specs.List.{filter}
use Rattle.std.specs.Str.{bytes_eq}
use Rattle.std.proofs.lemmas.Bool.{and_parts, and_from, leb-true, le-leb}
use Rattle.lsm_codec.specs.Entries.{Entry, stamp}
use Rattle.lsm_codec.specs.Keys.{UserKey, UserLe}
use Rattle.lsm_codec.specs.Lists.{Has}
use Rattle.lsm_codec.proofs.CallerLemmas.{key_from_test, test_from_key, user_le_antisym, user_le_refl, has_left, has_right, has_cases, seq_le}
use Rattle.lsm_model.specs.Files.{Before}
use Rattle.lsm_model.specs.Kept.{is_hidden, is_void, kept_entries, IsHidden}
use Rattle.lsm_model.specs.Streams.{IsAscending, is_shadowed, streamed}
use Rattle.lsm_model.proofs.Order.{before_says}
use Rattle.lsm_model.proofs.Kept.{hidden_says, hidden_from}

pub before_key : (x y : Entry) → Before x y → UserLe x.user y.user
before_key x y h = elim (before_says x y h) [ inl k ↦ k.0 | inr s ↦ subst (UserLe x.user) s.0 (user_le_refl x.user) ]

pub before_stamp : (x y : Entry) → Before x y → x.user ≡ y.user → stamp y < stamp x
before_stamp x y h e = elim (before_says x y h) [ inl k ↦ absurd (k.1 e) | inr s ↦ s.1 ]

-- in an ascending list what stands in front stands before what stands behind
pub ascending_halves : (xs ys : List Entry) → IsAscending (xs ++ ys) → (x y : Entry) → Has xs x → Has ys y → Before x y
ascending_halves [] ys a x y hx hy = absurd hx
ascending_halves (z ∷ xs) ys a x y (inl e) hy = subst (λ (w : Entry). Before w y) e (a.0 y (has_right xs ys y hy))
ascending_halves (z ∷ xs) ys a x y (inr h) hy = ascending_halves xs ys a.1 x y h hy

pub ascending_left : (xs ys : List Entry) → IsAscending (xs ++ ys) → IsAscending xs
ascending_left [] ys a = tt
ascending_left (x ∷ xs) ys a = (λ y h. a.0 y (has_left xs ys y h), ascending_left xs ys a.1)

pub ascending_right : (xs ys : List Entry) → IsAscending (xs ++ ys) → IsAscending ys
ascending_right [] ys a = a
ascending_right (x ∷ xs) ys a = ascending_right xs ys a.1

same_bool : (a b : Bool) → (a ≡ true → b ≡ true) → (b ≡ true → a ≡ true) → a ≡ b
same_bool true b f g = sym (f refl)
same_bool false true f g = g refl
same_bool false false f g = refl

-- what is before an index in the list
abbrev pub IsBehind : List Entry → Option Entry → Type 0
IsBehind front None = front ≡ []
IsBehind front (Some p) = (rest : List Entry) × (front ≡ rest ++ p ∷ [])

-- an entry in front is the last of them, or stands before that
behind : (rest : List Entry) (p : Entry) (y : Entry) → Has (rest ++ p ∷ []) y → IsAscending (rest ++ p ∷ []) → (p ≡ y) ⊎ Before y p
behind rest p y h a = elim (has_cases rest (p ∷ []) y h) [
  | inl r ↦ inr (ascending_halves rest (p ∷ []) a y p r (inl refl))
  | inr l ↦ elim l [ inl e ↦ inl e | inr none ↦ absurd none ]
]

-- with the whole list ascending, an entry is hidden just where the one before it shadows it
pub hidden_shadowed : (f : ℕ) (front : List Entry) (e : Entry) (es : List Entry) (o : Option Entry) → IsBehind front o → IsAscending (front ++ e ∷ es)
    → is_hidden (front ++ e ∷ es) f e ≡ is_shadowed f o e
hidden_shadowed f front e es o b a = same_bool (is_hidden (front ++ e ∷ es) f e) (is_shadowed f o e) (λ h. to o b (hidden_says (front ++ e ∷ es) f e h)) (λ h. hidden_from (front ++ e ∷ es) f e (back o b h))
  where
    in_front : (y : Entry) → Has (front ++ e ∷ es) y → y.user ≡ e.user → stamp e < stamp y → Has front y
    in_front y h same lt = elim (has_cases front (e ∷ es) y h) [
      | inl l ↦ l
      | inr r ↦ absurd (elim r [
        | inl is ↦ (let z = ap stamp is in omega arith)
        | inr later ↦ (let less = before_stamp e y ((ascending_right front (e ∷ es) a).0 y later) (sym same) in omega arith)
      ])
    ]

    to : (p : Option Entry) → IsBehind front p → IsHidden (front ++ e ∷ es) f e → is_shadowed f p e ≡ true
    to None none h = absurd (subst (λ fs. Has fs h.0) none (in_front h.0 h.1 h.2 h.3))
    to (Some p) at h =
        let here : Has (at.0 ++ p ∷ []) h.0 = subst (λ fs. Has fs h.0) at.1 (in_front h.0 h.1 h.2 h.3) in
        let asc : IsAscending (at.0 ++ p ∷ []) = subst IsAscending at.1 (ascending_left front (e ∷ es) a) in
        let p_in : Has front p = subst (λ fs. Has fs p) (sym at.1) (has_right at.0 (p ∷ []) p (inl refl)) in
        let p_e : UserLe p.user e.user = before_key p e (ascending_halves front (e ∷ es) a p e p_in (inl refl)) in
        elim (behind at.0 p h.0 here asc) [
          | inl is ↦ and_from (bytes_eq p.user e.user) (nat_le p.seq f) (test_from_key p.user e.user (ap (λ (w : Entry). w.user) is ∙ h.2))
              (le-leb p.seq f (let z = ap (λ (w : Entry). w.seq) is in let le = h.4 in omega arith))
          | inr bef ↦ (
              let up : UserLe e.user p.user = subst (λ (k : UserKey). UserLe k p.user) h.2 (before_key h.0 p bef) in
              let same : p.user ≡ e.user = user_le_antisym p.user e.user p_e up in
              let lower : stamp p < stamp h.0 = before_stamp h.0 p bef (h.2 ∙ sym same) in
              let le = h.4 in
              let below : p.seq ≤ (h.0).seq = seq_le p h.0 (omega arith) in
              and_from (bytes_eq p.user e.user) (nat_le p.seq f) (test_from_key p.user e.user same) (le-leb p.seq f (omega arith)))
        ]

    back : (p : Option Entry) → IsBehind front p → is_shadowed f p e ≡ true → IsHidden (front ++ e ∷ es) f e
    back None none h = absurd (cc h)
    back (Some p) at h =
        let q = and_parts (bytes_eq p.user e.user) (nat_le p.seq f) h in
        let same : p.user ≡ e.user = key_from_test p.user e.user q.0 in
        let p_in : Has front p = subst (λ fs. Has fs p) (sym at.1) (has_right at.0 (p ∷ []) p (inl refl)) in
        (p, has_left front (e ∷ es) p p_in, same, before_stamp p e (ascending_halves front (e ∷ es) a p e p_in (inl refl)) same, leb-true p.seq f q.1)

pub streamed_after : (f : ℕ) (ranges : List (UserKey × UserKey)) (front es : List Entry) (o : Option Entry) → IsBehind front o → IsAscending (front ++ es)
    → streamed f ranges o es ≡ filter (λ e. not (is_hidden (front ++ es) f e) && not (is_void f ranges e)) es
streamed_after f ranges front [] o b a = refl
streamed_after f ranges front (e ∷ es) o b a =
    let whole : (front ++ e ∷ []) ++ es ≡ front ++ e ∷ es = append_assoc front (e ∷ []) es in
    let rest : streamed f ranges (Some e) es ≡ filter (λ (w : Entry). not (is_hidden (front ++ e ∷ es) f w) && not (is_void f ranges w)) es
    = subst (λ (all : List Entry). streamed f ranges (Some e) es ≡ filter (λ (w : Entry). not (is_hidden all f w) && not (is_void f ranges w)) es) whole
    (streamed_after f ranges (front ++ e ∷ []) es (Some e) (front, refl) (subst IsAscending (sym whole) a)) in
    let test : is_hidden (front ++ e ∷ es) f e ≡ is_shadowed f o e = hidden_shadowed f front e es o b a in
    subst (λ (t : Bool). cond (not (is_shadowed f o e) && not (is_void f ranges e)) (e ∷ streamed f ranges (Some e) es) (streamed f ranges (Some e) es)
    ≡ cond (not t && not (is_void f ranges e)) (e ∷ filter (λ (w : Entry). not (is_hidden (front ++ e ∷ es) f w) && not (is_void f ranges w)) es) (filter (λ (w : Entry). not (is_hidden (front ++ e ∷ es) f w) && not (is_void f ranges w)) es))
    (sym test)
    (ap (λ (xs : List Entry). cond (not (is_shadowed f o e) && not (is_void f ranges e)) (e ∷ xs) xs) rest)

-- a stream from its start keeps the kept entries
pub streamed_kept : (f : ℕ) (ranges : List (UserKey × UserKey)) (merged : List Entry) → IsAscending merged → streamed f ranges None merged ≡ kept_entries merged f ranges
streamed_kept f ranges merged a = streamed_after f ranges [] merged None refl a
