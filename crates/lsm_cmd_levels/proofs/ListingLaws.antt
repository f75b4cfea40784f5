-- Files and their sizes, one after another.
use Rattle.std.proofs.Common.{◌≡◌, ℕ, ◌+◌, List, [], ◌∷◌, ◌++◌, refl, sym, ap, ◌∙◌, subst}
use Rattle.std.proofs.Common.{append-nil, inl, inr, length, map, arith, String}
use Rattle.std.specs.Prelude.{Result, Ok, Err, OnOk, reverse, string_bytes}
use Rattle.std.proofs.lemmas.Grind.{flat_map-append}
use Rattle.std.proofs.lemmas.List.{map-append, reverse-append}
use Rattle.lsm_codec.specs.Lists.{Has}
use Rattle.lsm_folder.specs.Calls.{Call, measured}
use Rattle.lsm_folder.specs.declared.folder_fault.FolderFault.{FolderFault}
use Rattle.lsm_shelf.specs.declared.shelf_fault.ShelfFault.{ShelfFault}
use Rattle.lsm_directory.specs.Looking.{Asked, after, named, size_in, sized}
use Rattle.lsm_directory.specs.declared.folder.folder_file.FolderFile.{FolderFile}
use Rattle.lsm_cmd_levels.specs.Listing.{AddsFile, AsksEach, IsAnswered, IsWithout}

-- a file without a size is not added
pub left_out : {T : Type 0} (r : Result T ShelfFault) (fault : FolderFault) (name asked looked : List ℕ) (files : List FolderFile) (old new : List Call) → asked ≡ name → looked ≡ name
    → OnOk r (IsWithout looked fault) → new ≡ measured asked (Err fault) ∷ old → OnOk r (AddsFile name files files old new)
left_out (Ok x) fault name asked looked files old new is same without noted = (
  Err fault,
  subst (λ (n : List ℕ). IsWithout n fault) same without,
  noted ∙ ap (λ (n : List ℕ). measured n (Err fault) ∷ old) is,
  sym (append-nil (map named files)),
)
left_out (Err e) fault name asked looked files old new is same without noted = tt

-- What was asked and told so far, where these names are left of all.
pub record SoFar (left all : List (List ℕ)) (files : List FolderFile) (old new : List Call) : Type 0 where
  pub asked : List Asked
  pub each : map (λ a. a.name) asked ++ left ≡ all
  pub answers : (a : Asked) → Has asked a → IsAnswered a.name a.answer
  pub calls : new ≡ after asked old
  pub told : map named files ≡ sized asked

pub so_far_none : (all : List (List ℕ)) (old : List Call) → SoFar all all [] old old
so_far_none all old = record { asked = []; each = refl; answers = λ a h. absurd h; calls = refl; told = refl }

answers_more : (asked : List Asked) (last a : Asked) → ((b : Asked) → Has asked b → IsAnswered b.name b.answer) → IsAnswered last.name last.answer → Has (asked ++ last ∷ []) a → IsAnswered a.name a.answer
answers_more [] last a all is (inl same) = subst (λ (b : Asked). IsAnswered b.name b.answer) same is
answers_more [] last a all is (inr none) = absurd none
answers_more (x ∷ xs) last a all is (inl same) = all a (inl same)
answers_more (x ∷ xs) last a all is (inr has) = answers_more xs last a (λ b h. all b (inr h)) is has

after_more : (asked : List Asked) (last : Asked) (old : List Call) → after (asked ++ last ∷ []) old ≡ measured last.name last.answer ∷ after asked old
after_more asked last old =
    let call : Asked → Call = λ a. measured a.name a.answer in
    ap (λ (l : List Call). reverse l ++ old) (map-append call asked (last ∷ [])) ∙ ap (λ (l : List Call). l ++ old) (reverse-append (map call asked) (call last ∷ []))

sized_more : (asked : List Asked) (last : Asked) → sized (asked ++ last ∷ []) ≡ sized asked ++ size_in last.name last.answer
sized_more asked last =
    flat_map-append (λ (a : Asked). size_in a.name a.answer) asked (last ∷ []) ∙ ap (λ (l : List (List ℕ × ℕ)). sized asked ++ l) (append-nil (size_in last.name last.answer))

names_more : (asked : List Asked) (last : Asked) (more : List (List ℕ)) → map (λ (a : Asked). a.name) (asked ++ last ∷ []) ++ more ≡ map (λ (a : Asked). a.name) asked ++ last.name ∷ more
names_more [] last more = refl
names_more (x ∷ xs) last more = ap (λ (l : List (List ℕ)). x.name ∷ l) (names_more xs last more)

pub so_far_more : (left rest all : List (List ℕ)) (name : List ℕ) (before files : List FolderFile) (old mid new : List Call) → left ≡ name ∷ rest
    → SoFar left all before old mid → AddsFile name before files mid new → SoFar rest all files old new
so_far_more left rest all name before files old mid new is s (answer, known, asks, told) =
    let last : Asked = record { name = name; answer = answer } in
    record {
      asked = s.asked ++ last ∷ [];
      each = names_more s.asked last rest ∙ ap (λ (l : List (List ℕ)). map (λ (a : Asked). a.name) s.asked ++ l) (sym is) ∙ s.each;
      answers = λ a has. answers_more s.asked last a s.answers known has;
      calls = asks ∙ ap (λ (l : List Call). measured name answer ∷ l) s.calls ∙ sym (after_more s.asked last old);
      told = told ∙ ap (λ (l : List (List ℕ × ℕ)). l ++ size_in name answer) s.told ∙ sym (sized_more s.asked last);
    }

pub one_less : {Z : Type 0} (xs ys : List (String Z)) (x : String Z) (n m : ℕ) → xs ≡ x ∷ ys → m + 1 ≡ n → length xs ≡ n → length ys ≡ m
one_less {Z} xs ys x n m is fewer all =
    let whole : length xs ≡ length (x ∷ ys) = ap length is in
    omega arith

pub none_left : {Z : Type 0} (xs : List (String Z)) (n : ℕ) → length xs ≡ n → n ≡ 0 → map string_bytes xs ≡ []
none_left {Z} [] n is none = refl
none_left {Z} (x ∷ xs) n is none = absurd (omega arith)

pub so_far_all : (left all : List (List ℕ)) (files : List FolderFile) (old new : List Call) → left ≡ [] → SoFar left all files old new → AsksEach all files old new
so_far_all left all files old new is s = record {
  asked = s.asked;
  each = sym (append-nil (map (λ (a : Asked). a.name) s.asked)) ∙ ap (λ (l : List (List ℕ)). map (λ (a : Asked). a.name) s.asked ++ l) (sym is) ∙ s.each;
  answers = s.answers;
  calls = s.calls;
  told = s.told;
}
