-- What is read as writes is spelled so, and what is spelled so is read.
use Rattle.std.proofs.Common.{◌≡◌, ℕ, zero, suc, ◌+◌, ◌-◌, ◌^◌, ◌<◌, ◌≤◌, Bool, true, false, cond}
use Rattle.std.proofs.Common.{eqb, leb, List, [], ◌∷◌, ◌++◌, length, take, drop, Option, None, Some}
use Rattle.std.proofs.Common.{Result, Ok, Err, refl, sym, ap, ◌∙◌, subst, append_assoc, arith}
use Rattle.std.proofs.lemmas.Bool.{le-leb, leb-true, eqb-true}
use Rattle.std.proofs.lemmas.List.{take_at, drop_at, take-append-drop, length-append}
use Rattle.std.proofs.lemmas.List.{length-take-le}
use Rattle.lsm_codec.specs.declared.fault.CodecFault.{CodecFault}
use Rattle.lsm_codec.specs.Varint.{IsVarint32, varint32_at}
use Rattle.lsm_codec.proofs.CallerLemmas.{varint_takes, varint_again, IsBytes, IsBytes-after}
use Rattle.lsm_batch.specs.declared.write.Write.{Write}
use Rattle.lsm_wal.specs.declared.write_log_fault.WriteLogFault.{WriteLogFault}
use Rattle.lsm_wal.specs.declared.write_log_fault.WriteLogFault.TheVariants.{WriteKind, WriteCut}
use Rattle.lsm_wal.specs.WriteLog.{BytesText, WriteText, AreWrites}
use Rattle.lsm_wal.specs.Reading.{◌>>=◌, or_cut, bytes_at, deleted_at, put_at, kind_at, next_at}
use Rattle.lsm_wal.specs.Reading.{writes_at}

pub bind_ok : {A B : Type 0} (r : Result A WriteLogFault) (f : A → Result B WriteLogFault) (y : B)
    → (r >>= f) ≡ Ok y → (x : A) × (r ≡ Ok x) × (f x ≡ Ok y)
bind_ok (Ok x) f y e = (x, refl, e)
bind_ok (Err d) f y e = absurd cc

pub guard_ok : {A : Type 0} (b : Bool) (d : WriteLogFault) (r : Result A WriteLogFault) (y : A)
    → cond b r (Err d) ≡ Ok y → (b ≡ true) × (r ≡ Ok y)
guard_ok true d r y e = (refl, e)
guard_ok false d r y e = absurd cc

abbrev done : {A : Type 0} → A → Result A WriteLogFault
done x = Ok x

pub ok_is : {A : Type 0} (x y : A) → done x ≡ done y → x ≡ y
ok_is x y e = cc

pub choose : {A : Type 0} (P : Type 0) (b : Bool) (x y : Result A WriteLogFault) (r : A)
    → cond b x y ≡ Ok r → (b ≡ true → x ≡ Ok r → P) → (b ≡ false → y ≡ Ok r → P) → P
choose P true x y r e left right = left refl e
choose P false x y r e left right = right refl e

or_cut_ok : (r : Result (ℕ × List ℕ) CodecFault) (x : ℕ × List ℕ) → or_cut r ≡ Ok x → r ≡ Ok x
or_cut_ok (Ok y) x e = ap (λ (z : ℕ × List ℕ). Ok z) (ok_is y x e)
or_cut_ok (Err d) x e = absurd cc

-- a text that spells x, and what follows it
pub record Front {A : Type 0} (T : A → List ℕ → Type 0) (text : List ℕ) (x : A)
    (rest : List ℕ) : Type 0 where
  pub own : List ℕ
  pub text_is : text ≡ own ++ rest
  pub is : T x own

bytes_takes : (text x rest : List ℕ) → IsBytes text → bytes_at text ≡ Ok (x, rest)
    → Front BytesText text x rest
unfolding bytes_at
bytes_takes text x rest fits e =
    let b = bind_ok (or_cut (varint32_at text))
    (λ (x : ℕ × List ℕ). cond (leb x.0 (length x.1)) (Ok (take x.0 x.1, drop x.0 x.1))
    (Err WriteCut)) (x, rest) e in
    let size = b.0.0 in
    let later = b.0.1 in
    let g = guard_ok (leb size (length later)) WriteCut (Ok (take size later, drop size later))
    (x, rest) b.2 in
    let f = varint_takes 5 (2 ^ 32 - 1) text size later (omega arith) fits
    (or_cut_ok (varint32_at text) b.0 b.1) in
    let len : length (take size later) ≡ size = length-take-le size later (leb-true _ _ g.0) in
    let found : Front BytesText text (take size later) (drop size later) = record {
      own = f.front ++ take size later;
      text_is = f.parts ∙ ap (λ (y : List ℕ). f.front ++ y) (sym (take-append-drop size later))
          ∙ sym (append_assoc f.front (take size later) (drop size later));
      is = record {
        size_text = f.front;
        size_is = subst (λ (n : ℕ). IsVarint32 f.front n)
            (sym len) f.is;
        own_is = refl;
      };
    } in
    subst (λ (y : List ℕ × List ℕ). Front BytesText text y.0 y.1)
    (ok_is (take size later, drop size later) (x, rest) g.1) found

bytes_again : (x own rest : List ℕ) → BytesText x own → bytes_at (own ++ rest) ≡ Ok (x, rest)
unfolding bytes_at
bytes_again x own rest t =
    let same : own ++ rest ≡ t.size_text ++ (x ++ rest) = ap (λ (y : List ℕ). y ++ rest) t.own_is
    ∙ append_assoc t.size_text x rest in
    let n = varint_again 5 (2 ^ 32 - 1) t.size_text (x ++ rest) (length x) t.size_is in
    let m : or_cut (varint32_at (t.size_text ++ (x ++ rest))) ≡ Ok (length x, x ++ rest) =
    ap or_cut n in
    let yes : leb (length x) (length (x ++ rest)) ≡ true =
    le-leb _ _ (omega (arith, length-append x rest)) in
    let f : take (length x) (x ++ rest) ≡ x = take_at x rest (length x) refl in
    let d : drop (length x) (x ++ rest) ≡ rest = drop_at x rest (length x) refl in
    ap bytes_at same ∙ rw (m, yes, f, d) refl

deleted_takes : (text : List ℕ) (w : Write) (rest : List ℕ) → IsBytes text
    → deleted_at text ≡ Ok (w, rest) → Front WriteText (0 ∷ text) w rest
unfolding deleted_at
deleted_takes text w rest fits e =
    let b = bind_ok (bytes_at text)
    (λ (k : List ℕ × List ℕ). Ok (record { key = k.0; value = None }, k.1)) (w, rest) e in
    let f = bytes_takes text b.0.0 b.0.1 fits b.1 in
    let v : Write = record { key = b.0.0; value = None } in
    let found : Front WriteText (0 ∷ text) v b.0.1 =
    record {
      own = 0 ∷ f.own;
      text_is = ap (λ (y : List ℕ). 0 ∷ y) f.text_is;
      is =
          record { key_text = f.own; key_is = f.is; own_is = refl };
    } in
    subst (λ (y : Write × List ℕ). Front WriteText (0 ∷ text) y.0 y.1)
    (ok_is (v, b.0.1) (w, rest) b.2) found

put_takes : (text : List ℕ) (w : Write) (rest : List ℕ) → IsBytes text → put_at text ≡ Ok (w, rest)
    → Front WriteText (1 ∷ text) w rest
unfolding put_at
put_takes text w rest fits e =
    let b = bind_ok (bytes_at text)
    (λ (k : List ℕ × List ℕ). bytes_at k.1 >>= λ v. Ok
    (record { key = k.0; value = Some v.0 }, v.1)) (w, rest) e in
    let f = bytes_takes text b.0.0 b.0.1 fits b.1 in
    let c = bind_ok (bytes_at b.0.1)
    (λ (v : List ℕ × List ℕ). Ok (record { key = b.0.0; value = Some v.0 }, v.1))
    (w, rest) b.2 in
    let g = bytes_takes b.0.1 c.0.0 c.0.1 (IsBytes-after text f.own b.0.1 f.text_is fits) c.1 in
    let v : Write = record { key = b.0.0; value = Some c.0.0 } in
    let found : Front WriteText (1 ∷ text) v c.0.1 = record {
      own = 1 ∷ (f.own ++ g.own);
      text_is = ap (λ (y : List ℕ). 1 ∷ y) (f.text_is ∙ ap (λ (y : List ℕ). f.own ++ y) g.text_is
          ∙ sym (append_assoc f.own g.own c.0.1));
      is = record {
        key_text = f.own;
        value_text = g.own;
        key_is = f.is;
        value_is = g.is;
        own_is =
            refl;
      };
    } in
    subst (λ (y : Write × List ℕ). Front WriteText (1 ∷ text) y.0 y.1)
    (ok_is (v, c.0.1) (w, rest) c.2) found

kind_takes : (kind : ℕ) (text : List ℕ) (w : Write) (rest : List ℕ) → IsBytes text
    → kind_at kind text ≡ Ok (w, rest) → Front WriteText (kind ∷ text) w rest
unfolding kind_at
kind_takes kind text w rest fits e =
    choose (Front WriteText (kind ∷ text) w rest) (eqb kind 0) (deleted_at text) _ (w, rest) e
    (λ b r. subst (λ (k : ℕ). Front WriteText (k ∷ text) w rest) (sym (eqb-true kind 0 b))
    (deleted_takes text w rest fits r))
    (λ b e1. choose (Front WriteText (kind ∷ text) w rest) (eqb kind 1) (put_at text)
    (Err (WriteKind kind)) (w, rest) e1
    (λ b r. subst (λ (k : ℕ). Front WriteText (k ∷ text) w rest) (sym (eqb-true kind 1 b))
    (put_takes text w rest fits r))
    (λ b r. absurd (let bad = r in cc)))

next_takes : (text : List ℕ) (w : Write) (rest : List ℕ) → IsBytes text
    → next_at text ≡ Ok (w, rest) → Front WriteText text w rest
unfolding next_at
next_takes [] w rest fits e = absurd cc
next_takes (kind ∷ text) w rest fits e = kind_takes kind text w rest (λ i. fits (suc i)) e

next_again : (w : Write) (own rest : List ℕ) → WriteText w own
    → next_at (own ++ rest) ≡ Ok (w, rest)
unfolding next_at kind_at deleted_at put_at
next_again w own rest t = by w.key w.value t
  where
    by : (key : List ℕ) (value : Option (List ℕ))
        → WriteText (record { key = key; value = value }) own
        → next_at (own ++ rest) ≡ Ok (record { key = key; value = value }, rest)
    by key None t =
        let k = bytes_again key t.key_text rest t.key_is in
        ap (λ (y : List ℕ). next_at (y ++ rest)) t.own_is ∙ rw k refl
    by key (Some value) t =
        let split : (t.key_text ++ t.value_text) ++ rest ≡ t.key_text ++ (t.value_text ++ rest) =
        append_assoc t.key_text t.value_text rest in
        let k = bytes_again key t.key_text (t.value_text ++ rest) t.key_is in
        let v = bytes_again value t.value_text rest t.value_is in
        ap (λ (y : List ℕ). next_at (y ++ rest)) t.own_is ∙ ap (λ (y : List ℕ). next_at (1 ∷ y))
        split ∙ rw (k, v) refl

write_some : (w : Write) (own : List ℕ) → WriteText w own → 0 < length own
write_some w own t = by w.key w.value t
  where
    by : (key : List ℕ) (value : Option (List ℕ))
        → WriteText (record { key = key; value = value }) own → 0 < length own
    by key None t = omega (arith, ap length t.own_is)
    by key (Some value) t = omega (arith, ap length t.own_is)

pub writes_takes : (count : ℕ) (text : List ℕ) (ws : List Write) → length text ≤ count
    → IsBytes text → writes_at count text ≡ Ok ws → AreWrites ws text
unfolding writes_at
writes_takes zero [] ws h fits e = subst (λ (x : List Write). AreWrites x []) (ok_is [] ws e) refl
writes_takes zero (c ∷ cs) ws h fits e = absurd (omega arith)
writes_takes (suc count) [] ws h fits e = subst (λ (x : List Write). AreWrites x [])
    (ok_is [] ws e) refl
writes_takes (suc count) (c ∷ cs) ws h fits e =
    let b1 = bind_ok (next_at (c ∷ cs))
    (λ (x : Write × List ℕ). writes_at count x.1 >>= λ vs. Ok (x.0 ∷ vs)) ws e in
    let t = next_takes (c ∷ cs) b1.0.0 b1.0.1 fits b1.1 in
    let b2 = bind_ok (writes_at count b1.0.1) (λ (vs : List Write). Ok (b1.0.0 ∷ vs)) ws b1.2 in
    let some = write_some b1.0.0 t.own t.is in
    let len : length (c ∷ cs) ≡ length t.own + length b1.0.1 = ap length t.text_is
    ∙ length-append t.own b1.0.1 in
    let later = writes_takes count b1.0.1 b2.0 (omega (arith, h))
    (IsBytes-after (c ∷ cs) t.own b1.0.1 t.text_is fits) b2.1 in
    subst (λ (x : List Write). AreWrites x (c ∷ cs)) (ok_is (b1.0.0 ∷ b2.0) ws b2.2)
    (t.own, b1.0.1, t.text_is, t.is, later)

writes-cons : (count : ℕ) (text : List ℕ) (w : Write) (later : List ℕ) (ws : List Write)
    → 0 < length text → next_at text ≡ Ok (w, later) → writes_at count later ≡ Ok ws
    → writes_at (suc count) text ≡ Ok (w ∷ ws)
unfolding writes_at
writes-cons count [] w later ws h one more = absurd (omega arith)
writes-cons count (c ∷ cs) w later ws h one more = rw (one, more) refl

pub writes_again : (ws : List Write) (count : ℕ) (text : List ℕ) → length text ≤ count
    → AreWrites ws text → writes_at count text ≡ Ok ws
unfolding writes_at
writes_again [] zero text h is = refl
writes_again [] (suc count) text h is = rw is refl
writes_again (w ∷ ws) zero text h (own, later, is, one, more) =
    absurd (omega (arith, ap length is, length-append own later, write_some w own one))
writes_again (w ∷ ws) (suc count) text h (own, later, is, one, more) =
    let some = write_some w own one in
    let len : length text ≡ length own + length later = ap length is ∙ length-append own later in
    let first : next_at text ≡ Ok (w, later) = ap next_at is ∙ next_again w own later one in
    writes-cons count text w later ws (omega arith) first
    (writes_again ws count later (omega arith) more)
