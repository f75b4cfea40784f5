-- Looks at a folder one after another.
use Rattle.std.proofs.Common.{
  ◌≡◌,
  ◌≢◌,
  ℕ,
  ◌+◌,
  ◌<◌,
  List,
  [],
  ◌∷◌,
  ◌++◌,
  refl,
  sym,
  ap,
  ◌∙◌,
  subst,
  append_assoc,
  append-nil,
  inl,
  inr,
  length,
  map,
  arith,
  String,
  Vec,
}
use Rattle.std.specs.Prelude.{Result, Ok, Err, IfErr, IfOk, reverse, string_bytes}
use Rattle.std.specs.Cmp.Lexicographic.{slice_cmp}
use Rattle.std.specs.List.Sorted.{IsPermutation, IsSorted}
use Rattle.std.specs.Ordering.{nat_cmp}
use Rattle.std.specs.String.{string_cmp}
use Rattle.std.proofs.lemmas.Grind.{flat_map-append}
use Rattle.std.proofs.lemmas.List.{get_or-map, length-map, map-append, reverse-append}
use Rattle.lsm_codec.specs.Lists.{Has}
use Rattle.lsm_folder.specs.Calls.{Call, listed, measured}
use Rattle.lsm_folder.specs.FolderFault.{NotNamed}
use Rattle.lsm_folder.specs.declared.folder_fault.FolderFault.{FolderFault}
use Rattle.lsm_folder.specs.declared.folder_fault.FolderFault.TheVariants as folder
use Rattle.lsm_storage.specs.FolderFault.{device_of}
use Rattle.lsm_shelf.specs.declared.shelf_fault.ShelfFault.{ShelfFault}
use Rattle.lsm_shelf.specs.declared.shelf_fault.ShelfFault.TheVariants as shelf
use Rattle.lsm_directory.specs.Logs.{AreThose}
use Rattle.lsm_directory.specs.Looking.{
  AddsLog,
  Asked,
  AsksSizes,
  EndsLikeLog,
  IsLook,
  IsSizeOrGone,
  LooksStopped,
  OnlyLooks,
  after,
  named,
  size_in,
  sized,
}
use Rattle.lsm_directory.specs.declared.folder.folder_file.FolderFile.{FolderFile}

pub looks_same : (a : List Call) → OnlyLooks a a
looks_same a = ([], refl, λ call has. absurd has)

one_look : (first call : Call) → IsLook first → Has (first ∷ []) call → IsLook call
one_look first call is (inl same) = subst IsLook same is
one_look first call is (inr none) = absurd none

pub looks_listed : (answer : Result (List (List ℕ)) FolderFault) (a b : List Call) → b ≡ listed answer ∷ a → OnlyLooks a b
looks_listed answer a b is = (listed answer ∷ [], is, λ call has. one_look (listed answer) call tt has)

pub looks_measured : (name : List ℕ) (answer : Result ℕ FolderFault) (a b : List Call) → b ≡ measured name answer ∷ a → OnlyLooks a b
looks_measured name answer a b is = (measured name answer ∷ [], is, λ call has. one_look (measured name answer) call tt has)

all_looks : (xs ys : List Call) (call : Call) → ((c : Call) → Has xs c → IsLook c) → ((c : Call) → Has ys c → IsLook c) → Has (xs ++ ys) call → IsLook call
all_looks [] ys call p q has = q call has
all_looks (x ∷ xs) ys call p q (inl same) = p call (inl same)
all_looks (x ∷ xs) ys call p q (inr has) = all_looks xs ys call (λ c h. p c (inr h)) q has

pub looks_then : (a b c : List Call) → OnlyLooks a b → OnlyLooks b c → OnlyLooks a c
looks_then a b c (first, is, all) (more, then, rest) =
    (more ++ first, then ∙ ap (λ (l : List Call). more ++ l) is ∙ sym (append_assoc more first a), λ call has. all_looks more first call rest all has)

-- ---- refusals

not_missing : (fault : FolderFault) → NotNamed fault → fault ≢ folder.Missing
not_missing folder.OutOfMemory h = λ e. cc
not_missing folder.Failed h = λ e. cc
not_missing folder.Missing h = absurd h
not_missing folder.Exists h = λ e. cc

pub list_refused : (e : ShelfFault) (fault : FolderFault) (a b : List Call) → NotNamed fault → b ≡ listed (Err fault) ∷ a → e ≡ device_of fault → LooksStopped e a b
list_refused e fault a b other is same = inr (a, fault, looks_same a, not_missing fault other, same, inl is)

pub size_refused : (e : ShelfFault) (fault : FolderFault) (name : List ℕ) (a b : List Call) → fault ≢ folder.Missing → b ≡ measured name (Err fault) ∷ a → e ≡ device_of fault → LooksStopped e a b
size_refused e fault name a b other is same = inr (a, fault, looks_same a, other, same, inr (name, is))

pub refused_later : (e : ShelfFault) (a b c : List Call) → OnlyLooks a b → LooksStopped e b c → LooksStopped e a c
refused_later e a b c looked (inl memory) = inl memory
refused_later e a b c looked (inr (before, fault, more, other, same, last)) = inr (before, fault, looks_then a b before looked more, other, same, last)

pub stopped_later : {T : Type 0} (r : Result T ShelfFault) (a b c : List Call) → OnlyLooks a b → IfErr r (λ e. LooksStopped e b c) → IfErr r (λ e. LooksStopped e a c)
stopped_later (Ok x) a b c looked h = tt
stopped_later (Err e) a b c looked h = refused_later e a b c looked h

pub memory_stopped : {T : Type 0} (r : Result T ShelfFault) (a b : List Call) → IfErr r (λ e. e ≡ shelf.OutOfMemory) → IfErr r (λ e. LooksStopped e a b)
memory_stopped (Ok x) a b h = tt
memory_stopped (Err e) a b h = inl h

-- ---- order

-- the names that were listed, in order
pub names_listed : {Z : Type 0} (r : Result (Vec (String Z) Z) ShelfFault) (names : List (List ℕ)) (a b : List Call) → b ≡ listed (Ok names) ∷ a
    → IfOk r (λ v. IsPermutation names (map string_bytes v.items))
    → IfOk r (λ v. (listing : List (List ℕ)) × (b ≡ listed (Ok listing) ∷ a) × IsPermutation listing (map string_bytes v.items))
names_listed (Ok v) names a b is same = (names, is, same)
names_listed (Err e) names a b is same = tt

-- texts in order are names in order
pub names_ascend : {Z : Type 0} (xs : List (String Z)) → IsSorted string_cmp xs → IsSorted (slice_cmp nat_cmp) (map string_bytes xs)
names_ascend {Z} [] up = λ k d low high. absurd (omega arith)
names_ascend {Z} (x ∷ xs) up = λ k d low high.
    let many : length (map (string_bytes {Z = Z}) (x ∷ xs)) ≡ length (x ∷ xs) = length-map (x ∷ xs) (string_bytes {Z = Z}) in
    let next : k + 1 < length (x ∷ xs) = omega arith in
    let this : k < length (x ∷ xs) = omega arith in
    rw (get_or-map (string_bytes {Z = Z}) (x ∷ xs) (k + 1) x d next, get_or-map (string_bytes {Z = Z}) (x ∷ xs) k x d this) (up k x low next)

-- ---- sizes

-- What was asked and told so far, where these names are left of all.
pub record SoFar (left all : List (List ℕ)) (files : List FolderFile) (old new : List Call) : Type 0 where
  pub asked : List Asked
  pub logs : (more : List (List ℕ)) → AreThose EndsLikeLog left more → AreThose EndsLikeLog all (map (λ a. a.name) asked ++ more)
  pub answers : (a : Asked) → Has asked a → IsSizeOrGone a.answer
  pub calls : new ≡ after asked old
  pub told : map named files ≡ sized asked

answers_more : (asked : List Asked) (last a : Asked) → ((b : Asked) → Has asked b → IsSizeOrGone b.answer) → IsSizeOrGone last.answer → Has (asked ++ last ∷ []) a → IsSizeOrGone a.answer
answers_more [] last a all is (inl same) = subst (λ (b : Asked). IsSizeOrGone b.answer) same is
answers_more [] last a all is (inr none) = absurd none
answers_more (x ∷ xs) last a all is (inl same) = all a (inl same)
answers_more (x ∷ xs) last a all is (inr has) = answers_more xs last a (λ b h. all b (inr h)) is has

after_more : (asked : List Asked) (last : Asked) (old : List Call) → after (asked ++ last ∷ []) old ≡ measured last.name last.answer ∷ after asked old
after_more asked last old =
    let call : Asked → Call = λ a. measured a.name a.answer in
    ap (λ (l : List Call). reverse l ++ old) (map-append call asked (last ∷ [])) ∙ ap (λ (l : List Call). l ++ old) (reverse-append (map call asked) (call last ∷ []))

sized_more : (asked : List Asked) (last : Asked) → sized (asked ++ last ∷ []) ≡ sized asked ++ size_in last.name last.answer
sized_more asked last =
    flat_map-append (λ (a : Asked). size_in a.name a.answer) asked (last ∷ []) ∙ ap (λ (l : List (List ℕ × ℕ)). sized asked ++ l) (append-nil (size_in last.name last.answer))

names_more : (asked : List Asked) (last : Asked) (more : List (List ℕ)) → map (λ (a : Asked). a.name) (asked ++ last ∷ []) ++ more ≡ map (λ (a : Asked). a.name) asked ++ last.name ∷ more
names_more [] last more = refl
names_more (x ∷ xs) last more = ap (λ (l : List (List ℕ)). x.name ∷ l) (names_more xs last more)

pub so_far_more : (left rest all : List (List ℕ)) (name : List ℕ) (before files : List FolderFile) (old mid new : List Call) → left ≡ name ∷ rest
    → SoFar left all before old mid → AddsLog name before files mid new → SoFar rest all files old new
so_far_more left rest all name before files old mid new is s (inl (other, same, quiet)) = record {
  asked = s.asked;
  logs = λ more these. s.logs more (subst (λ (l : List (List ℕ)). AreThose EndsLikeLog l more) (sym is) (inr (other, these)));
  answers = s.answers;
  calls = quiet ∙ s.calls;
  told = ap (λ (l : List FolderFile). map named l) same ∙ s.told;
}
so_far_more left rest all name before files old mid new is s (inr (log, (answer, known, asks, told))) =
    let last : Asked = record { name = name; answer = answer } in
    record {
      asked = s.asked ++ last ∷ [];
      logs = λ more these.
          subst (λ (l : List (List ℕ)). AreThose EndsLikeLog all l) (sym (names_more s.asked last more))
          (s.logs (name ∷ more) (subst (λ (l : List (List ℕ)). AreThose EndsLikeLog l (name ∷ more)) (sym is) (inl (log, (more, refl, these)))));
      answers = λ a has. answers_more s.asked last a s.answers known has;
      calls = asks ∙ ap (λ (l : List Call). measured name answer ∷ l) s.calls ∙ sym (after_more s.asked last old);
      told = told ∙ ap (λ (l : List (List ℕ × ℕ)). l ++ size_in name answer) s.told ∙ sym (sized_more s.asked last);
    }

pub one_less : {Z : Type 0} (xs ys : List (String Z)) (x : String Z) (n m : ℕ) → xs ≡ x ∷ ys → m + 1 ≡ n → length xs ≡ n → length ys ≡ m
one_less {Z} xs ys x n m is fewer all =
    let whole : length xs ≡ length (x ∷ ys) = ap length is in
    omega arith

pub none_left : {Z : Type 0} (xs : List (String Z)) (n : ℕ) → length xs ≡ n → n ≡ 0 → map string_bytes xs ≡ []
none_left {Z} [] n is none = refl
none_left {Z} (x ∷ xs) n is none = absurd (omega arith)

pub so_far_all : (left all : List (List ℕ)) (files : List FolderFile) (old new : List Call) → left ≡ [] → SoFar left all files old new → AsksSizes all files old new
so_far_all left all files old new is s = record {
  asked = s.asked;
  logs =
      subst (λ (l : List (List ℕ)). AreThose EndsLikeLog all l) (append-nil (map (λ (a : Asked). a.name) s.asked))
      (s.logs [] (subst (λ (l : List (List ℕ)). AreThose EndsLikeLog l []) (sym is) refl));
  answers = s.answers;
  calls = s.calls;
  told = s.told;
}
