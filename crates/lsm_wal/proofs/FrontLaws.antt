-- Fronts of a log.
use Rattle.std.proofs.Common.{◌≡◌, ◌⊎◌, ℕ, zero, suc, ◌+◌, ◌<◌, ◌≤◌, List, [], ◌∷◌, ◌++◌, length}
use Rattle.std.proofs.Common.{take, drop, Bool, false, Result, Ok, Err, refl, sym, ap, ◌∙◌, subst}
use Rattle.std.proofs.Common.{arith, inl, inr, Option, None, Some}
use Rattle.std.specs.Prelude.{IfSome}
use Rattle.std.proofs.lemmas.Bool.{cases_lt}
use Rattle.std.proofs.lemmas.List.{take_all, take-take, take-append-drop, length-append}
use Rattle.std.proofs.lemmas.List.{length-take-le}
use Rattle.lsm_manifest.proofs.CallerLemmas.{log_again as records_again}
use Rattle.lsm_manifest.specs.LogReading.{log_at}
use Rattle.lsm_wal.specs.declared.write_log_fault.WriteLogFault.{WriteLogFault}
use Rattle.lsm_wal.specs.declared.write_log_fault.WriteLogFault.TheVariants.{OutOfMemory}
use Rattle.lsm_wal.specs.declared.write_log_fault.WriteLogFault.TheVariants.{LogChecksum, LogOrder}
use Rattle.lsm_wal.specs.declared.write_log_fault.WriteLogFault.TheVariants.{LogType, BatchShort}
use Rattle.lsm_wal.specs.declared.write_log_fault.WriteLogFault.TheVariants.{WriteKind, WriteCut}
use Rattle.lsm_wal.specs.declared.write_log_fault.WriteLogFault.TheVariants.{BatchCount}
use Rattle.lsm_wal.specs.declared.write_log_fault.WriteLogFault.TheVariants.{BatchSequence}
use Rattle.lsm_wal.specs.declared.write_log_fault.WriteLogFault.TheVariants.{SequenceOrder}
use Rattle.lsm_wal.specs.declared.write_batch.WriteBatch.{WriteBatch}
use Rattle.lsm_wal.specs.Front.{IsFaultAbove, IsFront, IsLogAbove}
use Rattle.lsm_wal.specs.Reading.{log_writes_at}
use Rattle.lsm_wal.specs.View.{Fails}
use Rattle.lsm_wal.specs.WriteLog.{AreBatches, IsWriteLog, SpellsFirstBatches, after}
use Rattle.lsm_wal.specs.WriteLogs.{BeginBelow}
use Rattle.lsm_wal.proofs.BatchLaws.{batches_again}
use Rattle.lsm_wal.proofs.BatchLoop.{read_log}

abbrev pub Read : Type 0
Read = Result (List WriteBatch × ℕ) WriteLogFault

-- a fault that is no want of memory is the one that reading gives
pub told : (e : WriteLogFault) (read : Read) → Fails e read → (e ≡ OutOfMemory → ⊥) → read ≡ Err e
told OutOfMemory read is other = absurd (other refl)
told (LogChecksum o) read is other = is
told (LogOrder o) read is other = is
told (LogType o) read is other = is
told BatchShort read is other = is
told (WriteKind k) read is other = is
told WriteCut read is other = is
told BatchCount read is other = is
told BatchSequence read is other = is
told SequenceOrder read is other = is

-- ---- a log has no fault

abbrev good : List WriteBatch × ℕ → Read
good x = Ok x

abbrev bad : WriteLogFault → Read
bad e = Err e

good_is : (x y : List WriteBatch × ℕ) → good x ≡ good y → x ≡ y
good_is x y e = cc

bad_is : (e f : WriteLogFault) → bad e ≡ bad f → e ≡ f
bad_is e f is = cc

pub writes_again : (bytes : List ℕ) (bs : List WriteBatch) (rest : ℕ) → IsWriteLog bytes bs rest
    → log_writes_at bytes ≡ Ok (bs, rest)
unfolding log_writes_at
writes_again bytes bs rest a =
    read_log (log_at bytes) a.records rest bs (records_again bytes a.records rest a.log)
    (batches_again 0 a.records bs a.spelled)

same_log : (bytes : List ℕ) (xs ys : List WriteBatch) (m n : ℕ) → IsWriteLog bytes xs m
    → IsWriteLog bytes ys n → (xs ≡ ys) × (m ≡ n)
same_log bytes xs ys m n a b =
    let same = good_is (xs, m) (ys, n)
    (sym (writes_again bytes xs m a) ∙ writes_again bytes ys n b) in
    (ap (λ (x : List WriteBatch × ℕ). x.0) same, ap (λ (x : List WriteBatch × ℕ). x.1) same)

pub has_no_fault : (least : ℕ) (bytes : List ℕ) (e : WriteLogFault) (bs : List WriteBatch)
    (rest : ℕ) → IsFaultAbove least bytes e → IsLogAbove least bytes bs rest → ⊥
has_no_fault least bytes e bs rest (inl is) a =
    let no : good (bs, rest) ≡ bad e = sym (writes_again bytes bs rest a.log) ∙ is in absurd (cc no)
has_no_fault least bytes e bs rest (inr (order, (cs, m, log, below))) a =
    let same = (same_log bytes cs bs m rest log a.log).0 in
    a.above (subst (λ (xs : List WriteBatch). BeginBelow least xs) same below)

one_fault : (least : ℕ) (bytes : List ℕ) (e f : WriteLogFault) → IsFaultAbove least bytes e
    → IsFaultAbove least bytes f → e ≡ f
one_fault least bytes e f (inl x) (inl y) = bad_is e f (sym x ∙ y)
one_fault least bytes e f (inl x) (inr (order, (cs, m, log, below))) =
    let no : good (cs, m) ≡ bad e = sym (writes_again bytes cs m log) ∙ x in absurd (cc no)
one_fault least bytes e f (inr (order, (cs, m, log, below))) (inl y) =
    let no : good (cs, m) ≡ bad f = sym (writes_again bytes cs m log) ∙ y in absurd (cc no)
one_fault least bytes e f (inr x) (inr y) = x.0 ∙ sym y.0

-- ---- the halves

pub no_bytes : IsWriteLog [] [] 0
no_bytes = record {
  records = [];
  log = record {
    front = [];
    tail = [];
    text_is = refl;
    spelled = refl;
    none =
        record { count = 0; row = inl (omega arith) };
    rest_is = refl;
  };
  spelled = tt;
}

none_above : (least : ℕ) → IsLogAbove least [] [] 0
none_above least = record { log = no_bytes; above = λ below. below }

-- what has a fault has a byte
has_bytes : (least : ℕ) (bytes : List ℕ) (e : WriteLogFault) → IsFaultAbove least bytes e
    → 0 < length bytes
has_bytes least [] e is = absurd (has_no_fault least [] e [] 0 is (none_above least))
has_bytes least (b ∷ bs) e is = omega arith

-- So many bytes are a log, and so many more have a fault.
pub record Between (least : ℕ) (bytes : List ℕ) (len end rest : ℕ) (batches : List WriteBatch)
    (e : WriteLogFault) : Type 0 where
  pub log : IsLogAbove least (take len bytes) batches rest
  pub faulty : IsFaultAbove least (take end bytes) e
  pub apart : len < end
  pub within : end ≤ length bytes

pub between_first : (least : ℕ) (bytes : List ℕ) (batches : List WriteBatch) (e : WriteLogFault)
    → batches ≡ [] → IsFaultAbove least bytes e
    → Between least bytes 0 (length bytes) 0 batches e
between_first least bytes batches e none is = record {
  log = subst (λ (bs : List WriteBatch). IsLogAbove least [] bs 0) (sym none) (none_above least);
  faulty =
      subst (λ (b : List ℕ). IsFaultAbove least b e)
      (sym (take_all (length bytes) bytes (omega arith))) is;
  apart = has_bytes least bytes e is;
  within = omega arith;
}

-- ---- the longest front

abbrev pub FirstBatches : Type 0
FirstBatches = (bytes : List ℕ) (batches : List WriteBatch) (rest : ℕ)
    → IsWriteLog bytes batches rest → (n : ℕ) → SpellsFirstBatches (take n bytes) batches

below_all : (least n : ℕ) (bs : List WriteBatch) → BeginBelow least (take n bs)
    → BeginBelow least bs
below_all least zero bs h = absurd h
below_all least (suc n) [] h = absurd h
below_all least (suc n) (b ∷ bs) h = h

-- a front of a log is a log of the first of its batches
first_above : (least : ℕ) (bytes : List ℕ) (bs : List WriteBatch) (rest : ℕ)
    → IsLogAbove least bytes bs rest → (n : ℕ) → (f : SpellsFirstBatches (take n bytes) bs)
    → IsLogAbove least (take n bytes) (take f.whole bs) f.rest
first_above least bytes bs rest a n f =
    record { log = f.is; above = λ below. a.above (below_all least f.whole bs below) }

-- behind a fault there is no longer one
none_longer : FirstBatches → (least : ℕ) (bytes : List ℕ) (size : ℕ) (e : WriteLogFault)
    → IsFaultAbove least (take (suc size) bytes) e → (n : ℕ) → size < n → n ≤ length bytes
    → (bs : List WriteBatch) (m : ℕ) → IsLogAbove least (take n bytes) bs m → ⊥
none_longer law least bytes size e faulty n lt le bs m a =
    let same : take (suc size) (take n bytes) ≡ take (suc size) bytes =
    take-take (suc size) n bytes (omega arith) in
    let f = law (take n bytes) bs m a.log (suc size) in
    let first = first_above least (take n bytes) bs m a (suc size) f in
    has_no_fault least (take (suc size) bytes) e (take f.whole bs) f.rest faulty
    (subst (λ (b : List ℕ). IsLogAbove least b (take f.whole bs) f.rest) same first)

pub front_is : FirstBatches → (least : ℕ) (bytes : List ℕ) (size left rest : ℕ)
    (bs : List WriteBatch) (e : WriteLogFault) → IsLogAbove least (take size bytes) bs rest
    → size < length bytes → IsFaultAbove least (take (suc size) bytes) e
    → left + size ≡ length bytes + rest → IsFront least bytes bs left e
front_is law least bytes size left rest bs e log within next left_is = record {
  size = size;
  rest = rest;
  within = within;
  log = log;
  longest = none_longer law least bytes size e next;
  next = next;
  left_is = left_is;
}

-- what is read up to a fault, behind these
pub fronts : FirstBatches → (least : ℕ) (bytes : List ℕ) (len left rest : ℕ) (bs : List WriteBatch)
    (fault : Option WriteLogFault) → IsLogAbove least (take len bytes) bs rest
    → IfSome fault (λ _. len < length bytes)
    → IfSome fault (IsFaultAbove least (take (suc len) bytes)) → left + len ≡ length bytes + rest
    → (old now : List WriteBatch) → least ≡ after 0 old → now ≡ old ++ bs
    → IfSome fault (λ e. (xs : List WriteBatch) × IsFront (after 0 old) bytes xs left e
    × (now ≡ old ++ xs))
fronts law least bytes len left rest bs None log within next left_is old now at is = tt
fronts law least bytes len left rest bs (Some e) log within next left_is old now at is = (
  bs,
  subst (λ (n : ℕ). IsFront n bytes bs left e) at
      (front_is law least bytes len left rest bs e log within next left_is),
  is,
)

-- the rest is of the bytes
pub rest_within : (bytes : List ℕ) (bs : List WriteBatch) (rest : ℕ) → IsWriteLog bytes bs rest
    → rest ≤ length bytes
rest_within bytes bs rest a =
    let l = a.log in
    omega (arith, ap length l.text_is, length-append l.front l.tail, l.rest_is)

-- its batches may stand behind others
pub spelled_above : (least : ℕ) (rs : List (List ℕ)) (bs : List WriteBatch)
    → (BeginBelow least bs → ⊥) → AreBatches 0 rs bs → AreBatches least rs bs
spelled_above least [] [] above a = a
spelled_above least [] (b ∷ bs) above a = absurd a
spelled_above least (r ∷ rs) [] above a = absurd a
spelled_above least (r ∷ rs) (b ∷ bs) above a = elim (cases_lt b.first least) [
  | inl below ↦ absurd (above below)
  | inr le ↦ (a.0, le, a.2)
]

-- ---- laws

not_longer : (least : ℕ) (bytes : List ℕ) (xs : List WriteBatch) (m : ℕ) (e : WriteLogFault)
    → IsFront least bytes xs m e → (n : ℕ) → n ≤ length bytes → (bs : List WriteBatch) (rest : ℕ)
    → IsLogAbove least (take n bytes) bs rest → (k : ℕ) → (f : IsFront least bytes xs m e)
    → f.size ≡ k → n ≤ k
not_longer least bytes xs m e front n le bs rest a k f is = elim (cases_lt f.size n) [
  | inl lt ↦ absurd (f.longest n lt le bs rest a)
  | inr fits ↦ omega (arith, fits, is)
]

pub one_front : (least : ℕ) (bytes : List ℕ) (xs ys : List WriteBatch) (m n : ℕ)
    (e f : WriteLogFault) → IsFront least bytes xs m e → IsFront least bytes ys n f
    → (xs ≡ ys) × (m ≡ n) × (e ≡ f)
one_front least bytes xs ys m n e f a b =
    let a_within = a.within in
    let b_within = b.within in
    let up : a.size ≤ b.size =
    not_longer least bytes ys n f b a.size (omega arith) xs a.rest a.log b.size b refl in
    let down : b.size ≤ a.size =
    not_longer least bytes xs m e a b.size (omega arith) ys b.rest b.log a.size a refl in
    let size : b.size ≡ a.size = omega arith in
    let log : IsLogAbove least (take a.size bytes) ys b.rest =
    subst (λ (k : ℕ). IsLogAbove least (take k bytes) ys b.rest) size b.log in
    let next : IsFaultAbove least (take (suc a.size) bytes) f =
    subst (λ (k : ℕ). IsFaultAbove least (take (suc k) bytes) f) size b.next in
    let same = same_log (take a.size bytes) xs ys a.rest b.rest a.log.log log.log in
    let rest = same.1 in
    let a_left = a.left_is in
    let b_left = b.left_is in
    (same.0, omega arith, one_fault least (take (suc a.size) bytes) e f a.next next)

pub kept : FirstBatches → (least : ℕ) (bytes undamaged : List ℕ) (bs taken : List WriteBatch)
    (rest left : ℕ) (e : WriteLogFault) → IsLogAbove least undamaged bs rest
    → IsFront least bytes taken left e → (n : ℕ) → take n bytes ≡ take n undamaged
    → (first : SpellsFirstBatches (take n undamaged) bs)
    × ((more : List WriteBatch) × (taken ≡ take first.whole bs ++ more))
kept law least bytes undamaged bs taken rest left e a front n same =
    let first = law undamaged bs rest a.log n in
    let whole = take first.whole bs in
    let there : IsLogAbove least (take n bytes) whole first.rest =
    subst (λ (b : List ℕ). IsLogAbove least b whole first.rest) (sym same)
    (first_above least undamaged bs rest a n first) in
    let within = front.within in
    elim (cases_lt (length bytes) n) [
      | inl past ↦
          let all : take n bytes ≡ take (length bytes) bytes =
          take_all n bytes (omega arith) ∙ sym (take_all (length bytes) bytes (omega arith)) in
          absurd (front.longest (length bytes) within (omega arith) whole first.rest
          (subst (λ (b : List ℕ). IsLogAbove least b whole first.rest) all there))
      | inr le ↦
          let fits : n ≤ front.size =
          not_longer least bytes taken left e front n le whole first.rest there front.size front
          refl in
          let cut : take n (take front.size bytes) ≡ take n bytes =
          take-take n front.size bytes fits in
          let own = law (take front.size bytes) taken front.rest front.log.log n in
          let own_is : IsWriteLog (take n bytes) (take own.whole taken) own.rest =
          subst (λ (b : List ℕ). IsWriteLog b (take own.whole taken) own.rest) cut own.is in
          let equal =
          (same_log (take n bytes) (take own.whole taken) whole own.rest first.rest own_is
          there.log).0 in (
            first,
            (
              drop own.whole taken,
              sym (take-append-drop own.whole taken)
                  ∙ ap (λ (xs : List WriteBatch). xs ++ drop own.whole taken) equal,
            ),
          )
    ]
