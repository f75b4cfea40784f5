-- What is read as an entry is spelled so, and what is spelled so is read.
use Rattle.std.proofs.Common.{◌≡◌, ℕ, ◌+◌, ◌-◌, ◌<◌, ◌≤◌, ◌^◌, Bool, true, false, cond, leb, List, [], ◌∷◌, ◌++◌, length, get_or, take, drop, Option, Some, None, Result, Ok, Err, refl, sym, ap, ◌∙◌, subst, append_assoc, arith, inl, inr}
use Rattle.std.specs.Prelude.{◌&&◌}
use Rattle.std.specs.Option.{option_map}
use Rattle.std.proofs.lemmas.Bool.{cases_lt, lt-leb, lt-ltb, le-leb, leb-true, and_parts}
use Rattle.std.proofs.lemmas.List.{take_all, take_at, drop_at, take-append-drop, length-append, length-take, length-drop, length-take-le, get_or-drop, get_or-take, get_or_past, get_or_append_left, get_or-append_right}
use Rattle.lsm_codec.specs.declared.fault.CodecFault.{CodecFault}
use Rattle.lsm_codec.specs.Varint.{AreGroups, IsVarint32, varint_at, varint32_at}
use Rattle.lsm_codec.specs.Entries.{Entry, internal_key}
use Rattle.lsm_codec.proofs.CallerLemmas.{Front, varint_takes, varint_again, IsBytes, IsBytes-after, key_again, internal_again, internal_takes}
use Rattle.lsm_block.specs.Block.{EntryText, key_text}
use Rattle.lsm_block.specs.Reading.{Piece, ◌>>=◌, found_of, number_at, numbers_at, shared_key, piece_of, entry_at, entry}
use Rattle.lsm_codec.specs.Keys.{is_internal}

-- ---- what is spelled is read

-- the piece of an entry that shares so many bytes of its key
abbrev pub sharing : ℕ → Entry → Piece
sharing shared e = record { shared = shared; key = key_text e; value = e.value }

pub entry_again_is : (shared : ℕ) (e : Entry) → e.seq < 2 ^ 56 → entry (sharing shared e) ≡ e
entry_again_is shared e h = let k = key_again (internal_key e) h in rw k refl

piece_again : (before u v rest key : List ℕ) (shared : ℕ) → shared ≤ length before → take shared before ++ u ≡ key → is_internal key ≡ true
    → piece_of before shared (length u) (length v) (u ++ (v ++ rest)) ≡ Some (record { shared = shared; key = key; value = v }, rest)
unfolding piece_of
piece_again before u v rest key shared within key_is internal =
    let t1 : take (length u) (u ++ (v ++ rest)) ≡ u = take_at u (v ++ rest) (length u) refl in
    let d1 : drop (length u) (u ++ (v ++ rest)) ≡ v ++ rest = drop_at u (v ++ rest) (length u) refl in
    let t2 : take (length v) (v ++ rest) ≡ v = take_at v rest (length v) refl in
    let d2 : drop (length v) (v ++ rest) ≡ rest = drop_at v rest (length v) refl in
    let c1 : leb shared (length before) ≡ true = le-leb _ _ within in
    let c2 : leb (length u + length v) (length (u ++ (v ++ rest))) ≡ true = le-leb _ _ (omega (arith, length-append u (v ++ rest), length-append v rest)) in
    rw (c1, c2, t1, d1, t2, d2, key_is, internal) refl

pub entry_again : (before own rest : List ℕ) (e : Entry) (shared : ℕ) → EntryText before e shared own → entry_at before (own ++ rest) ≡ Some (sharing shared e, rest)
unfolding entry_at numbers_at
entry_again before own rest e shared t =
    let x3 = t.unshared ++ (e.value ++ rest) in
    let x2 = t.length_text ++ x3 in
    let x1 = t.unshared_text ++ x2 in
    let regrouped : own ++ rest ≡ t.shared_text ++ x1 = ap (λ (x : List ℕ). x ++ rest) t.text_is ∙ simp append_assoc in
    let v1 = varint_again 5 (2 ^ 32 - 1) t.shared_text x1 shared t.shared_is in
    let v2 = varint_again 5 (2 ^ 32 - 1) t.unshared_text x2 (length t.unshared) t.unshared_is in
    let v3 = varint_again 5 (2 ^ 32 - 1) t.length_text x3 (length e.value) t.length_is in
    ap (entry_at before) regrouped ∙ rw (v1, v2, v3) (piece_again before t.unshared e.value rest (key_text e) shared t.within t.key_is (internal_again (internal_key e)))

groups-some : (bytes : List ℕ) → AreGroups bytes → 0 < length bytes
groups-some [] g = absurd g
groups-some (b ∷ bs) g = omega arith

pub own-some : (before own : List ℕ) (e : Entry) (shared : ℕ) → EntryText before e shared own → 0 < length own
own-some before own e shared t =
    omega (arith, ap length t.text_is, length-append t.shared_text (t.unshared_text ++ (t.length_text ++ (t.unshared ++ e.value))), groups-some t.shared_text t.shared_is.groups)

-- ---- bytes

pub IsBytes-take : (n : ℕ) (bytes : List ℕ) → IsBytes bytes → IsBytes (take n bytes)
IsBytes-take n bytes h i =
    elim (cases_lt i n) [
      | inl lt ↦ rw (get_or-take n bytes i 0 lt) (h i)
      | inr le ↦ rw (get_or_past (take n bytes) i 0 (omega (arith, length-take n bytes))) (omega arith)
    ]

pub IsBytes-drop : (n : ℕ) (bytes : List ℕ) → IsBytes bytes → IsBytes (drop n bytes)
IsBytes-drop n bytes h i = rw get_or-drop (h (n + i))

pub IsBytes-append : (xs ys : List ℕ) → IsBytes xs → IsBytes ys → IsBytes (xs ++ ys)
IsBytes-append xs ys h k i =
    elim (cases_lt i (length xs)) [
      | inl lt ↦ rw (get_or_append_left xs ys 0 i lt) (h i)
      | inr le ↦ rw (get_or-append_right xs ys (length xs) i 0 refl le) (k (i - length xs))
    ]

pub IsBytes-front : (bytes front rest : List ℕ) → bytes ≡ front ++ rest → IsBytes bytes → IsBytes front
IsBytes-front bytes front rest e fits =
    let f : take (length front) bytes ≡ front = ap (take (length front)) e ∙ take_at front rest (length front) refl in
    subst IsBytes f (IsBytes-take (length front) bytes fits)

pub no_bytes : IsBytes []
no_bytes i = omega arith

-- ---- what is read is spelled

pub bind_some : {A B : Type 0} (r : Option A) (f : A → Option B) (y : B) → (r >>= f) ≡ Some y → (x : A) × (r ≡ Some x) × (f x ≡ Some y)
bind_some (Some x) f y e = (x, refl, e)
bind_some None f y e = absurd cc

pub some_is : {A : Type 0} (x y : A) → Some x ≡ Some y → x ≡ y
some_is x y e = cc

pub guard_some : {A : Type 0} (b : Bool) (x y : A) → cond b (Some x) None ≡ Some y → (b ≡ true) × (x ≡ y)
guard_some true x y e = (refl, some_is x y e)
guard_some false x y e = absurd cc

found-is : (r : Result (ℕ × List ℕ) CodecFault) (x : ℕ × List ℕ) → found_of r ≡ Some x → r ≡ Ok x
found-is (Ok y) x e = ap (λ (z : ℕ × List ℕ). Ok z) (some_is y x e)
found-is (Err f) x e = absurd cc

number_takes : (bytes : List ℕ) (n : ℕ) (rest : List ℕ) → IsBytes bytes → number_at bytes ≡ Some (n, rest) → Front 5 (2 ^ 32 - 1) n bytes rest
number_takes bytes n rest fits e = varint_takes 5 (2 ^ 32 - 1) bytes n rest (omega arith) fits (found-is (varint32_at bytes) (n, rest) e)

-- the texts of three numbers, and what follows them
pub record Numbered (text : List ℕ) (shared unshared len : ℕ) (rest : List ℕ) : Type 0 where
  pub shared_text : List ℕ
  pub unshared_text : List ℕ
  pub length_text : List ℕ
  pub shared_is : IsVarint32 shared_text shared
  pub unshared_is : IsVarint32 unshared_text unshared
  pub length_is : IsVarint32 length_text len
  pub parts : text ≡ shared_text ++ (unshared_text ++ (length_text ++ rest))
  pub fits : IsBytes rest

numbers_takes : (text : List ℕ) (n : ℕ × ℕ × ℕ × List ℕ) → IsBytes text → numbers_at text ≡ Some n → Numbered text n.0 n.1 n.2 n.3
unfolding numbers_at
numbers_takes text n fits e =
    let b1 = bind_some (number_at text) _ n e in
    let s = b1.0 in
    let f1 = number_takes text s.0 s.1 fits b1.1 in
    let fits1 = IsBytes-after text f1.front s.1 f1.parts fits in
    let b2 = bind_some (number_at s.1) _ n b1.2 in
    let u = b2.0 in
    let f2 = number_takes s.1 u.0 u.1 fits1 b2.1 in
    let fits2 = IsBytes-after s.1 f2.front u.1 f2.parts fits1 in
    let b3 = bind_some (number_at u.1) _ n b2.2 in
    let v = b3.0 in
    let f3 = number_takes u.1 v.0 v.1 fits2 b3.1 in
    let numbered : Numbered text s.0 u.0 v.0 v.1 = record {
      shared_text = f1.front;
      unshared_text = f2.front;
      length_text = f3.front;
      shared_is = f1.is;
      unshared_is = f2.is;
      length_is = f3.is;
      parts = f1.parts ∙ ap (λ (x : List ℕ). f1.front ++ x) (f2.parts ∙ ap (λ (x : List ℕ). f2.front ++ x) f3.parts);
      fits = IsBytes-after u.1 f3.front v.1 f3.parts fits2;
    } in
    subst (λ (q : ℕ × ℕ × ℕ × List ℕ). Numbered text q.0 q.1 q.2 q.3) (some_is (s.0, u.0, v.0, v.1) n b3.2) numbered

-- an entry cut out of a text: its numbers, its bytes of the key, its value, and what follows it
pub record Cut (before text : List ℕ) (p : Piece) (rest : List ℕ) : Type 0 where
  pub new : List ℕ
  pub after_numbers : List ℕ
  pub numbers : Numbered text p.shared (length new) (length p.value) after_numbers
  pub parts : after_numbers ≡ new ++ (p.value ++ rest)
  pub within : p.shared ≤ length before
  pub key_is : take p.shared before ++ new ≡ p.key
  pub internal : is_internal p.key ≡ true

pub entry_cut : (before text : List ℕ) (p : Piece) (rest : List ℕ) → IsBytes text → entry_at before text ≡ Some (p, rest) → Cut before text p rest
unfolding entry_at piece_of
entry_cut before text p rest fits e =
    let b = bind_some (numbers_at text) _ (p, rest) e in
    let n = b.0 in
    let numbers = numbers_takes text n fits b.1 in
    let new = take n.1 n.3 in
    let value = take n.2 (drop n.1 n.3) in
    let after = drop n.2 (drop n.1 n.3) in
    let key = shared_key before n.0 n.1 n.3 in
    let g = guard_some (leb n.0 (length before) && leb (n.1 + n.2) (length n.3) && is_internal key)
    (record { shared = n.0; key = key; value = value }, after) (p, rest) b.2 in
    let t1 = and_parts (leb n.0 (length before) && leb (n.1 + n.2) (length n.3)) (is_internal key) g.0 in
    let t2 = and_parts (leb n.0 (length before)) (leb (n.1 + n.2) (length n.3)) t1.0 in
    let room : n.1 + n.2 ≤ length n.3 = leb-true _ _ t2.1 in
    let new_len : length new ≡ n.1 = length-take-le n.1 n.3 (omega arith) in
    let value_len : length value ≡ n.2 = length-take-le n.2 (drop n.1 n.3) (omega (arith, length-drop n.1 n.3)) in
    let cut : Cut before text (record { shared = n.0; key = key; value = value }) after = record {
      new = new;
      after_numbers = n.3;
      numbers = rw (new_len, value_len) numbers;
      parts = sym (take-append-drop n.1 n.3) ∙ ap (λ (x : List ℕ). new ++ x) (sym (take-append-drop n.2 (drop n.1 n.3)));
      within = leb-true _ _ t2.0;
      key_is = refl;
      internal = t1.1;
    } in
    subst (λ (q : Piece × List ℕ). Cut before text q.0 q.1) g.1 cut

abbrev own_text : {before text : List ℕ} {p : Piece} {rest : List ℕ} → Cut before text p rest → List ℕ
own_text {p = p} c = c.numbers.shared_text ++ (c.numbers.unshared_text ++ (c.numbers.length_text ++ (c.new ++ p.value)))

own_parts : (before text : List ℕ) (p : Piece) (rest : List ℕ) (c : Cut before text p rest) → text ≡ own_text c ++ rest
own_parts before text p rest c =
    c.numbers.parts ∙ ap (λ (x : List ℕ). c.numbers.shared_text ++ (c.numbers.unshared_text ++ (c.numbers.length_text ++ x))) c.parts ∙ simp append_assoc

-- what an entry leaves
pub record Leaves (text after : List ℕ) : Type 0 where
  pub shorter : length after < length text
  pub place : drop (length text - length after) text ≡ after
  pub fits : IsBytes after

pub leaves : (before text : List ℕ) (p : Piece) (after : List ℕ) → IsBytes text → entry_at before text ≡ Some (p, after) → Leaves text after
leaves before text p after fits e =
    let c = entry_cut before text p after fits e in
    let own = own_text c in
    let parts = own_parts before text p after c in
    let some : 0 < length own = omega (arith, length-append c.numbers.shared_text (c.numbers.unshared_text ++ (c.numbers.length_text ++ (c.new ++ p.value))), groups-some c.numbers.shared_text c.numbers.shared_is.groups) in
    let len : length text ≡ length own + length after = ap (λ (xs : List ℕ). length xs) parts ∙ length-append own after in
    let k : length text - length after ≡ length own = omega arith in
    record { shorter = omega arith; place = rw k (ap (drop (length own)) parts ∙ drop_at own after (length own) refl); fits = IsBytes-after text own after parts fits }

-- the text of a piece, and what follows it
pub record Taken (before text : List ℕ) (p : Piece) (rest : List ℕ) : Type 0 where
  pub own : List ℕ
  pub parts : text ≡ own ++ rest
  pub is : EntryText before (entry p) p.shared own
  pub key_is : key_text (entry p) ≡ p.key
  pub key_fits : IsBytes p.key

pub entry_takes : (before text : List ℕ) (p : Piece) (rest : List ℕ) → IsBytes before → IsBytes text → entry_at before text ≡ Some (p, rest) → Taken before text p rest
entry_takes before text p rest old fits e =
    let c = entry_cut before text p rest fits e in
    let n = c.numbers in
    let new_fits : IsBytes c.new = IsBytes-front c.after_numbers c.new (p.value ++ rest) c.parts n.fits in
    let key_fits : IsBytes p.key = subst IsBytes c.key_is (IsBytes-append (take p.shared before) c.new (IsBytes-take p.shared before old) new_fits) in
    let internal = internal_takes p.key key_fits c.internal in
    record {
      own = own_text c;
      parts = own_parts before text p rest c;
      is = record {
        shared_text = n.shared_text;
        unshared_text = n.unshared_text;
        length_text = n.length_text;
        unshared = c.new;
        shared_is = n.shared_is;
        unshared_is = n.unshared_is;
        length_is = n.length_is;
        within = c.within;
        key_is = c.key_is ∙ sym internal.spelled;
        seq_fits = internal.fits;
        text_is = refl;
      };
      key_is = internal.spelled;
      key_fits = key_fits;
    }

-- ---- three numbers below 128 are three bytes

pub short_numbers : (text : List ℕ) → 3 ≤ length text → get_or text 0 0 < 128 → get_or text 1 0 < 128 → get_or text 2 0 < 128
    → numbers_at text ≡ Some (get_or text 0 0, get_or text 1 0, get_or text 2 0, take (length text - 3) (drop 3 text))
unfolding numbers_at varint_at
short_numbers [] len a b c = absurd (omega arith)
short_numbers (x ∷ []) len a b c = absurd (omega arith)
short_numbers (x ∷ y ∷ []) len a b c = absurd (omega arith)
short_numbers (x ∷ y ∷ z ∷ rest) len a b c =
    let ta = lt-ltb x 128 a in
    let tb = lt-ltb y 128 b in
    let tc = lt-ltb z 128 c in
    let all : take (length (x ∷ y ∷ z ∷ rest) - 3) rest ≡ rest = take_all (length (x ∷ y ∷ z ∷ rest) - 3) rest (omega arith) in
    rw (ta, tb, tc, all) refl

-- ---- the key of an entry that follows no key

abbrev pub first_of_text : List ℕ → Option (List ℕ)
first_of_text text = option_map (λ f. f.0.key) (entry_at [] text)

pub first_unread : (text : List ℕ) → numbers_at text ≡ None → first_of_text text ≡ None
unfolding entry_at
first_unread text e = rw e refl

pub first_shares : (text : List ℕ) (shared u l : ℕ) (rest : List ℕ) → numbers_at text ≡ Some (shared, u, l, rest) → 0 < shared → first_of_text text ≡ None
unfolding entry_at piece_of
first_shares text shared u l rest e h = let no = lt-leb _ _ h in rw (e, no) refl

pub first_short : (text : List ℕ) (u l : ℕ) (rest : List ℕ) → numbers_at text ≡ Some (0, u, l, rest) → length rest < u + l → first_of_text text ≡ None
unfolding entry_at piece_of
first_short text u l rest e h = let no = lt-leb _ _ h in rw (e, no) refl

pub first_other : (text : List ℕ) (u l : ℕ) (rest : List ℕ) → numbers_at text ≡ Some (0, u, l, rest) → u + l ≤ length rest → is_internal (take u rest) ≡ false → first_of_text text ≡ None
unfolding entry_at piece_of
first_other text u l rest e h i = let yes = le-leb _ _ h in rw (e, yes, i) refl

pub first_read : (text : List ℕ) (u l : ℕ) (rest : List ℕ) → numbers_at text ≡ Some (0, u, l, rest) → u + l ≤ length rest → is_internal (take u rest) ≡ true → first_of_text text ≡ Some (take u rest)
unfolding entry_at piece_of
first_read text u l rest e h i = let yes = le-leb _ _ h in rw (e, yes, i) refl
