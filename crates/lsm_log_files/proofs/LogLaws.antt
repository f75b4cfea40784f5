-- Which files are logs, and logs that are read one after another.
use Rattle.std.proofs.Common.{◌≡◌, ℕ, suc, ◌+◌, ◌<◌, ◌≤◌, List, [], ◌∷◌, ◌++◌, length, get_or, take}
use Rattle.std.proofs.Common.{drop, map, Option, None, Some, refl, sym, ap, ◌∙◌, subst, inl, inr}
use Rattle.std.proofs.Common.{arith}
use Rattle.std.specs.Prelude.{◌↔◌, MatchOption, codes, reverse, string_bytes}
use Rattle.std.specs.List.{flat_map}
use Rattle.std.specs.List.Sorted.{IsStrictlyIncreasing}
use Rattle.std.specs.Str.Parse.{digits_value}
use Rattle.std.proofs.lemmas.Grind.{flat_map-append}
use Rattle.std.proofs.lemmas.List.{append_cancel_right, append-nil, map-append, reverse-append}
use Rattle.std.proofs.lemmas.List.{take-append-drop, take_all}
use Rattle.std.proofs.lemmas.List.Elements.{All-append, All-cons, All-nil}
use Rattle.std.proofs.lemmas.List.Sums.{sum_by-append}
use Rattle.std.proofs.Math.Seq.{drop-cons, take-suc}
use Rattle.lsm_codec.specs.Lists.{Has}
use Rattle.lsm_folder.specs.Calls.{Call}
use Rattle.lsm_manifest.proofs.CallerLemmas.{has_snoc, snoc_has}
use Rattle.lsm_directory.specs.Logs.{IsFirstUnread, IsLogName, NoneUnread}
use Rattle.lsm_directory.specs.declared.folder.folder_file.FolderFile.{FolderFile}
use Rattle.lsm_wal.specs.declared.write_batch.WriteBatch.{WriteBatch}
use Rattle.lsm_log_files.specs.Logs.{AddsNumber, AreLogs, AreNumbers, AreRead, AreUnread, IsLogOf}
use Rattle.lsm_log_files.specs.Logs.{IsLogStop, IsSpelled, LogRead, ReadsNext, call_of}
use Rattle.lsm_log_files.specs.declared.source_fault.SourceFault.{SourceFault}

-- ---- which files are logs

-- a name is of the log of one number
one_number : (name : List ℕ) (n m : ℕ) → IsLogName name n → IsLogName name m → n ≡ m
one_number name n m a b =
    let digits : a.0 ≡ b.0 = append_cancel_right a.0 b.0 (codes ".log") (sym a.1 ∙ b.1) in
    sym a.2.1 ∙ ap (digits_value 10) digits ∙ b.2.1

one_log : (log prev : ℕ) (file : FolderFile) (n m : ℕ) → IsLogOf log prev file n
    → IsLogOf log prev file m → n ≡ m
one_log log prev file n m a b = one_number (string_bytes file.name) n m a.1 b.1

alone : (file f : FolderFile) (before after : List FolderFile) → file ∷ [] ≡ before ++ f ∷ after
    → file ≡ f
alone file f [] after p = ap (λ (xs : List FolderFile). get_or xs 0 file) p
alone file f (x ∷ []) after p = absurd (let l = ap length p in omega arith)
alone file f (x ∷ y ∷ xs) after p = absurd (let l = ap length p in omega arith)

number_in : (log prev : ℕ) (file : FolderFile) (n : ℕ) → IsFirstUnread log prev (file ∷ []) n
    → IsLogOf log prev file n
number_in log prev file n h =
    let same : file ≡ h.file = alone file h.file h.before h.after h.parts in
    let u = h.unread in
    let m : u.1.0 ≡ n = one_number (string_bytes h.file.name) u.1.0 n u.1.1 h.named in
    rw same (u.0, h.named, rw m at u.1.2)

-- what the first of one file says of it
pub number_says : (log prev : ℕ) (file : FolderFile) (o : Option ℕ)
    → MatchOption o (NoneUnread log prev (file ∷ [])) (IsFirstUnread log prev (file ∷ []))
    → MatchOption o ((n : ℕ) → IsLogOf log prev file n → ⊥) (λ m. IsLogOf log prev file m
    × ((n : ℕ) → IsLogOf log prev file n → n ≡ m))
number_says log prev file None h = λ n is. h file (inl refl) (is.0, (n, is.1, is.2))
number_says log prev file (Some m) h =
    let is = number_in log prev file m h in
    (is, λ n other. one_log log prev file n m other is)

-- ---- their numbers

pub numbers_none : (log prev : ℕ) → AreNumbers log prev [] []
numbers_none log prev = λ n. ((λ h. absurd h), (λ h. absurd h.1))

pub number_added : (log prev : ℕ) (file : FolderFile) (ns : List ℕ) (m : ℕ)
    → IsLogOf log prev file m → ((n : ℕ) → IsLogOf log prev file n → n ≡ m)
    → AddsNumber log prev file ns (ns ++ m ∷ [])
number_added log prev file ns m is one = λ n. (
  (λ h. elim (has_snoc ns m n h) [
    | inl k ↦ inl k
    | inr e ↦ inr (subst (IsLogOf log prev file) e is)
  ]),
  (λ h. snoc_has ns m n (elim h [ inl k ↦ inl k | inr k ↦ inr (sym (one n k)) ])),
)

pub number_not_added : (log prev : ℕ) (file : FolderFile) (ns : List ℕ)
    → ((n : ℕ) → IsLogOf log prev file n → ⊥) → AddsNumber log prev file ns ns
number_not_added log prev file ns none =
    λ n. ((λ h. inl h), (λ h. elim h [ inl k ↦ k | inr k ↦ absurd (none n k) ]))

one_taken : {X : Type 0} (xs : List X) (i : ℕ) (x : X) → i < length xs → x ≡ get_or xs i x
    → take (i + 1) xs ≡ take i xs ++ x ∷ []
one_taken xs i x lt is =
    let s : i + 1 ≡ suc i = omega arith in
    rw s (take-suc xs i x lt ∙ ap (λ y. take i xs ++ y ∷ []) (sym is))

pub numbers_more : (log prev : ℕ) (files : List FolderFile) (i : ℕ) (file : FolderFile)
    (ns ms : List ℕ) → i < length files → file ≡ get_or files i file
    → AreNumbers log prev (take i files) ns
    → AddsNumber log prev file ns ms → AreNumbers log prev (take (i + 1) files) ms
numbers_more log prev files i file ns ms lt is are adds =
    let front = take i files in
    subst (λ (fs : List FolderFile). AreNumbers log prev fs ms) (sym (one_taken files i file lt is))
    (λ n. (
      (λ h. elim ((adds n).0 h) [
        | inl k ↦ (let a = (are n).0 k in (a.0, snoc_has front file a.0 (inl a.1), a.2))
        | inr k ↦ (file, snoc_has front file file (inr refl), k)
      ]),
      (λ h. (adds n).1 (elim (has_snoc front file h.0 h.1) [
        | inl k ↦ inl ((are n).1 (h.0, k, h.2))
        | inr e ↦ inr (subst (λ (f : FolderFile). IsLogOf log prev f n) (sym e) h.2)
      ])),
    ))

pub numbers_all : (log prev : ℕ) (files : List FolderFile) (i : ℕ) (ns : List ℕ) → length files ≤ i
    → AreNumbers log prev (take i files) ns → AreNumbers log prev files ns
numbers_all log prev files i ns done are =
    subst (λ (fs : List FolderFile). AreNumbers log prev fs ns) (take_all i files done) are

pub logs_are : (log prev : ℕ) (files : List FolderFile) (ns ms : List ℕ) → IsStrictlyIncreasing ms
    → ((n : ℕ) → Has ms n ↔ Has ns n) → AreNumbers log prev files ns → AreLogs log prev files ms
logs_are log prev files ns ms up same are =
    record {
      ascending = up;
      all =
          λ n. ((λ h. (are n).0 ((same n).0 h)), (λ h. (same n).1 ((are n).1 h)));
    }

-- ---- logs that are read

pub read_none : (calls : List Call) → AreRead [] [] 0 calls calls
read_none calls = record {
  reads = [];
  numbered = refl;
  spelled = All-nil IsSpelled;
  all =
      refl;
  rests = refl;
  calls = refl;
}

read_snoc : (numbers : List ℕ) (n : ℕ) (before after : List WriteBatch) (rest sum : ℕ)
    (old mid new : List Call) → AreRead numbers before rest old mid
    → ReadsNext n before after rest sum mid new
    → AreRead (numbers ++ n ∷ []) after sum old new
read_snoc numbers n before after rest sum old mid new r x =
    let one = x.log ∷ [] in
    record {
      reads = r.reads ++ one;
      numbered = map-append (λ (l : LogRead). l.number) r.reads one
          ∙ ap (λ (ns : List ℕ). ns ++ x.log.number ∷ []) r.numbered
          ∙ ap (λ (k : ℕ). numbers ++ k ∷ []) x.numbered;
      spelled = All-append IsSpelled r.reads one r.spelled
          (All-cons IsSpelled x.log [] x.is (All-nil IsSpelled));
      all =
          x.more ∙ ap (λ (bs : List WriteBatch). bs ++ x.log.batches) r.all
          ∙ sym (flat_map-append (λ (l : LogRead). l.batches) r.reads one
          ∙ ap (λ (bs : List WriteBatch). flat_map (λ (l : LogRead). l.batches) r.reads ++ bs)
          (append-nil x.log.batches));
      rests = (let s = sum_by-append (λ (l : LogRead). l.rest) r.reads one in let a = r.rests in
          let b = x.sums in omega (arith, s, a, b));
      calls =
          x.call ∙ ap (λ (cs : List Call). call_of x.log ∷ cs) r.calls
          ∙ sym (ap (λ (cs : List Call). cs ++ old)
          (ap reverse (map-append call_of r.reads one) ∙ reverse-append (map call_of r.reads)
          (call_of x.log ∷ [])));
    }

pub read_more : (numbers : List ℕ) (i : ℕ) (before after : List WriteBatch) (rest sum : ℕ)
    (old mid new : List Call) → i < length numbers → AreRead (take i numbers) before rest old mid
    → ReadsNext (get_or numbers i 0) before after rest sum mid new
    → AreRead (take (i + 1) numbers) after sum old new
read_more numbers i before after rest sum old mid new lt r x =
    let s : i + 1 ≡ suc i = omega arith in
    let front : take (i + 1) numbers ≡ take i numbers ++ get_or numbers i 0 ∷ [] =
    rw s (take-suc numbers i 0 lt) in
    subst (λ (ns : List ℕ). AreRead ns after sum old new) (sym front)
    (read_snoc (take i numbers) (get_or numbers i 0) before after rest sum old mid new r x)

pub read_all : (numbers : List ℕ) (i : ℕ) (batches : List WriteBatch) (rest : ℕ)
    (old new : List Call) → length numbers ≤ i → AreRead (take i numbers) batches rest old new
    → AreRead numbers batches rest old new
read_all numbers i batches rest old new done r =
    subst (λ (ns : List ℕ). AreRead ns batches rest old new) (take_all i numbers done) r

pub parts_at : (numbers : List ℕ) (i : ℕ) → i < length numbers
    → numbers ≡ take i numbers ++ get_or numbers i 0 ∷ drop (i + 1) numbers
parts_at numbers i lt =
    let s : i + 1 ≡ suc i = omega arith in
    let tail : drop i numbers ≡ get_or numbers i 0 ∷ drop (i + 1) numbers =
    rw s (drop-cons numbers i 0 lt) in
    sym (take-append-drop i numbers) ∙ ap (λ (ns : List ℕ). take i numbers ++ ns) tail

-- the first of the logs were read, and this one was not
pub stops_at : (numbers : List ℕ) (i : ℕ) (batches : List WriteBatch) (rest : ℕ)
    (fault : SourceFault) (old mid new : List Call) → i < length numbers
    → AreRead (take i numbers) batches rest old mid
    → IsLogStop batches (get_or numbers i 0) fault mid new → AreUnread numbers fault old new
stops_at numbers i batches rest fault old mid new lt r stop = record {
  front = take i numbers;
  one = get_or numbers i 0;
  back = drop (i + 1) numbers;
  parts = parts_at numbers i lt;
  batches = batches;
  rest = rest;
  mid = mid;
  read = r;
  refused = stop;
}
