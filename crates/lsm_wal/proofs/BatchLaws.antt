-- What is read as a batch, as batches and as a log is spelled so, and what is spelled so is read.
use Rattle.std.proofs.Common.{◌≡◌, ℕ, zero, suc, ◌+◌, ◌-◌, ◌^◌, ◌<◌, ◌≤◌, false, cond, eqb, ltb}
use Rattle.std.proofs.Common.{List, [], ◌∷◌, ◌++◌, length, get_or, take, drop, Result, Ok, Err}
use Rattle.std.proofs.Common.{refl, sym, ap, ◌∙◌, subst, append_assoc, arith}
use Rattle.std.specs.Int.{w32, w64, to_le_bytes}
use Rattle.std.specs.Prelude.{Some, slice_get}
use Rattle.std.proofs.lemmas.Bool.{ltb-false, le-ltb, eqb-true, eq-eqb}
use Rattle.std.proofs.lemmas.Nat.{le_bytes_4, le_bytes_8, from_le_bytes-to_le_bytes_4}
use Rattle.std.proofs.lemmas.Nat.{from_le_bytes-to_le_bytes_8}
use Rattle.lsm_codec.proofs.CallerLemmas.{IsBytes, IsBytes-after}
use Rattle.lsm_batch.specs.declared.write.Write.{Write}
use Rattle.lsm_wal.specs.declared.write_log_fault.WriteLogFault.{WriteLogFault}
use Rattle.lsm_wal.specs.declared.write_log_fault.WriteLogFault.TheVariants.{BatchShort, BatchCount}
use Rattle.lsm_wal.specs.declared.write_log_fault.WriteLogFault.TheVariants.{BatchSequence}
use Rattle.lsm_wal.specs.declared.write_batch.WriteBatch.{WriteBatch}
use Rattle.lsm_wal.specs.WriteLog.{IsWriteBatch, AreBatches, after}
use Rattle.lsm_wal.specs.Reading.{writes_at, first_of, count_of, counted_at, batch_at, batches_at}
use Rattle.lsm_wal.proofs.WriteLaws.{bind_ok, guard_ok, ok_is, choose, writes_takes, writes_again}

abbrev done : {A : Type 0} → A → Result A WriteLogFault
done x = Ok x

-- ---- the header

abbrev eight : List ℕ → List ℕ
eight t = get_or t 0 0 ∷ get_or t 1 0 ∷ get_or t 2 0 ∷ get_or t 3 0 ∷ get_or t 4 0 ∷ get_or t 5 0
    ∷ get_or t 6 0 ∷ get_or t 7 0 ∷ []

abbrev four : List ℕ → List ℕ
four t = get_or t 8 0 ∷ get_or t 9 0 ∷ get_or t 10 0 ∷ get_or t 11 0 ∷ []

twelve : (t : List ℕ) → 12 ≤ length t → t ≡ eight t ++ (four t ++ drop 12 t)
twelve [] h = absurd (omega arith)
twelve (a ∷ []) h = absurd (omega arith)
twelve (a ∷ b ∷ []) h = absurd (omega arith)
twelve (a ∷ b ∷ c ∷ []) h = absurd (omega arith)
twelve (a ∷ b ∷ c ∷ d ∷ []) h = absurd (omega arith)
twelve (a ∷ b ∷ c ∷ d ∷ e ∷ []) h = absurd (omega arith)
twelve (a ∷ b ∷ c ∷ d ∷ e ∷ f ∷ []) h = absurd (omega arith)
twelve (a ∷ b ∷ c ∷ d ∷ e ∷ f ∷ g ∷ []) h = absurd (omega arith)
twelve (a ∷ b ∷ c ∷ d ∷ e ∷ f ∷ g ∷ i ∷ []) h = absurd (omega arith)
twelve (a ∷ b ∷ c ∷ d ∷ e ∷ f ∷ g ∷ i ∷ j ∷ []) h = absurd (omega arith)
twelve (a ∷ b ∷ c ∷ d ∷ e ∷ f ∷ g ∷ i ∷ j ∷ k ∷ []) h = absurd (omega arith)
twelve (a ∷ b ∷ c ∷ d ∷ e ∷ f ∷ g ∷ i ∷ j ∷ k ∷ l ∷ []) h = absurd (omega arith)
twelve (a ∷ b ∷ c ∷ d ∷ e ∷ f ∷ g ∷ i ∷ j ∷ k ∷ l ∷ m ∷ t) h = refl

eight_fits : (t : List ℕ) → IsBytes t → (i : ℕ) → get_or (eight t) i 0 < 256
eight_fits t fits zero = fits 0
eight_fits t fits (suc zero) = fits 1
eight_fits t fits (suc (suc zero)) = fits 2
eight_fits t fits (suc (suc (suc zero))) = fits 3
eight_fits t fits (suc (suc (suc (suc zero)))) = fits 4
eight_fits t fits (suc (suc (suc (suc (suc zero))))) = fits 5
eight_fits t fits (suc (suc (suc (suc (suc (suc zero)))))) = fits 6
eight_fits t fits (suc (suc (suc (suc (suc (suc (suc zero))))))) = fits 7
eight_fits t fits (suc (suc (suc (suc (suc (suc (suc (suc i)))))))) = omega arith

four_fits : (t : List ℕ) → IsBytes t → (i : ℕ) → get_or (four t) i 0 < 256
four_fits t fits zero = fits 8
four_fits t fits (suc zero) = fits 9
four_fits t fits (suc (suc zero)) = fits 10
four_fits t fits (suc (suc (suc zero))) = fits 11
four_fits t fits (suc (suc (suc (suc i)))) = omega arith

count_fits : (t : List ℕ) → IsBytes t → count_of t < 2 ^ 32
count_fits t fits = omega (arith, fits 8, fits 9, fits 10, fits 11)

-- ---- a batch

pub batch_takes : (text : List ℕ) (b : WriteBatch) → IsBytes text → batch_at text ≡ Ok b
    → IsWriteBatch text b
unfolding batch_at
batch_takes text b fits e =
    let body = drop 12 text in
    choose (IsWriteBatch text b) (ltb (length text) 12) (Err BatchShort) _ b e
    (λ t r. absurd (let bad = r in cc))
    (λ t r.
    let long = ltb-false _ _ t in
    let split = twelve text long in
    let regrouped : text ≡ (eight text ++ four text) ++ body =
    split ∙ sym (append_assoc (eight text) (four text) body) in
    let ws = bind_ok (writes_at (length body) body)
    (λ (ws : List Write). counted_at (first_of text) (count_of text) ws) b r in
    let g = guard_ok (eqb (length ws.0) (count_of text)) BatchCount
    (cond (ltb (72057594037927936 - count_of text) (first_of text)) (Err BatchSequence)
    (done (record { first = first_of text; writes = ws.0 }))) b ws.2 in
    let count = eqb-true _ _ g.0 in
    choose (IsWriteBatch text b) (ltb (72057594037927936 - count_of text) (first_of text))
    (Err BatchSequence) (done (record { first = first_of text; writes = ws.0 })) b g.1
    (λ t r. absurd (let bad = r in cc))
    (λ t r.
    let le = ltb-false _ _ t in
    let few = count_fits text fits in
    let one : to_le_bytes w64 (first_of text) ≡ eight text =
    le_bytes_8 (eight text) (first_of text) refl (eight_fits text fits) refl in
    let two : to_le_bytes w32 (count_of text) ≡ four text =
    le_bytes_4 (four text) (count_of text) refl (four_fits text fits) refl in
    let found : IsWriteBatch text (record { first = first_of text; writes = ws.0 }) = record {
      body = body;
      bytes_are = split ∙ ap (λ (x : List ℕ). x ++ (four text ++ body)) (sym one)
          ∙ ap (λ (x : List ℕ). to_le_bytes w64 (first_of text) ++ (x ++ body)) (sym two)
          ∙ ap (λ (n : ℕ). to_le_bytes w64 (first_of text) ++ (to_le_bytes w32 n ++ body))
          (sym count);
      few = omega (arith, count, few);
      fits = omega (arith, count, few, le);
      writes_are = writes_takes (length body) body ws.0 (omega arith)
          (IsBytes-after text (eight text ++ four text) body regrouped fits) ws.1;
    } in
    subst (λ (x : WriteBatch). IsWriteBatch text x)
    (ok_is (record { first = first_of text; writes = ws.0 }) b r) found))

pub batch_again : (text : List ℕ) (b : WriteBatch) → IsWriteBatch text b → batch_at text ≡ Ok b
unfolding batch_at
batch_again text b is =
    let fits = is.fits in
    let few = is.few in
    let first = from_le_bytes-to_le_bytes_8 b.first (omega (arith, fits)) in
    let count = from_le_bytes-to_le_bytes_4 (length b.writes) few in
    let whole = to_le_bytes w64 b.first ++ (to_le_bytes w32 (length b.writes) ++ is.body) in
    let first_is : first_of whole ≡ b.first = first in
    let count_is : count_of whole ≡ length b.writes = count in
    let body_is : drop 12 whole ≡ is.body = refl in
    let long : ltb (length whole) 12 ≡ false = le-ltb _ _ (omega arith) in
    let ws = writes_again b.writes (length is.body) is.body (omega arith) is.writes_are in
    let same = eq-eqb (length b.writes) (length b.writes) refl in
    let no : ltb (72057594037927936 - length b.writes) b.first ≡ false =
    le-ltb _ _ (omega (arith, fits, few)) in
    ap batch_at is.bytes_are ∙ rw (long, ws, first_is, count_is, same, no) refl

pub one_batch : (text : List ℕ) (a b : WriteBatch) → IsWriteBatch text a → IsWriteBatch text b
    → a ≡ b
one_batch text a b x y = ok_is a b (sym (batch_again text a x) ∙ batch_again text b y)

-- ---- batches

pub batches_again : (least : ℕ) (rs : List (List ℕ)) (bs : List WriteBatch) → AreBatches least rs bs
    → batches_at least rs ≡ Ok bs
unfolding batches_at
batches_again least [] [] a = refl
batches_again least [] (b ∷ bs) a = absurd a
batches_again least (r ∷ rs) [] a = absurd a
batches_again least (r ∷ rs) (b ∷ bs) a =
    let one = batch_again r b a.0 in
    let no : ltb b.first least ≡ false = le-ltb _ _ a.1 in
    let more = batches_again (b.first + length b.writes) rs bs a.2 in
    rw (one, no, more) refl

pub batches_push : (least : ℕ) (rs : List (List ℕ)) (bs : List WriteBatch) (r : List ℕ)
    (b : WriteBatch) → AreBatches least rs bs → IsWriteBatch r b → after least bs ≤ b.first
    → AreBatches least (rs ++ r ∷ []) (bs ++ b ∷ [])
batches_push least [] [] r b a is le = (is, le, tt)
batches_push least [] (c ∷ bs) r b a is le = absurd a
batches_push least (q ∷ rs) [] r b a is le = absurd a
batches_push least (q ∷ rs) (c ∷ bs) r b a is le =
    (a.0, a.1, batches_push (c.first + length c.writes) rs bs r b a.2 is le)

pub after_push : (least : ℕ) (bs : List WriteBatch) (b : WriteBatch) → after least (bs ++ b ∷ [])
    ≡ b.first + length b.writes
after_push least [] b = refl
after_push least (c ∷ bs) b = after_push (c.first + length c.writes) bs b

pub batches_take : (n least : ℕ) (rs : List (List ℕ)) (bs : List WriteBatch)
    → AreBatches least rs bs → AreBatches least (take n rs) (take n bs)
batches_take zero least rs bs a = tt
batches_take (suc n) least [] [] a = tt
batches_take (suc n) least [] (b ∷ bs) a = absurd a
batches_take (suc n) least (r ∷ rs) [] a = absurd a
batches_take (suc n) least (r ∷ rs) (b ∷ bs) a =
    (a.0, a.1, batches_take n (b.first + length b.writes) rs bs a.2)

pub same_batches : (least : ℕ) (rs : List (List ℕ)) (xs ys : List WriteBatch)
    → AreBatches least rs xs → AreBatches least rs ys → xs ≡ ys
same_batches least rs xs ys a b =
    ok_is xs ys (sym (batches_again least rs xs a) ∙ batches_again least rs ys b)

-- ---- one log behind another

pub batches_behind : (least : ℕ) (rs ss : List (List ℕ)) (bs cs : List WriteBatch)
    → AreBatches least rs bs → AreBatches (after least bs) ss cs
    → AreBatches least (rs ++ ss) (bs ++ cs)
batches_behind least [] ss [] cs a b = b
batches_behind least [] ss (c ∷ bs) cs a b = absurd a
batches_behind least (r ∷ rs) ss [] cs a b = absurd a
batches_behind least (r ∷ rs) ss (c ∷ bs) cs a b =
    (a.0, a.1, batches_behind (c.first + length c.writes) rs ss bs cs a.2 b)

pub after_behind : (least : ℕ) (bs cs : List WriteBatch)
    → after least (bs ++ cs) ≡ after (after least bs) cs
after_behind least [] cs = refl
after_behind least (b ∷ bs) cs = after_behind (b.first + length b.writes) bs cs

-- the last of them fits, and ends them
pub last_ends : (least : ℕ) (rs : List (List ℕ)) (bs : List WriteBatch) (b : WriteBatch)
    → AreBatches least rs bs → Some b ≡ slice_get bs (length bs - 1)
    → (b.first + length b.writes ≤ 2 ^ 56) × (b.first + length b.writes ≡ after least bs)
last_ends least rs [] b a is = absurd (cc is)
last_ends least [] (c ∷ bs) b a is = absurd a
last_ends least (r ∷ rs) (c ∷ []) b a is =
    let same : b ≡ c = (let z : Some b ≡ Some c = is in cc) in (
      subst (λ (x : WriteBatch). x.first + length x.writes ≤ 2 ^ 56) (sym same) a.0.fits,
      ap
          (λ (x : WriteBatch). x.first + length x.writes) same,
    )
last_ends least (r ∷ rs) (c ∷ d ∷ bs) b a is =
    let next : length (c ∷ d ∷ bs) - 1 ≡ suc (length (d ∷ bs) - 1) = omega arith in
    last_ends (c.first + length c.writes) rs (d ∷ bs) b a.2 (is ∙ ap (slice_get (c ∷ d ∷ bs)) next)
