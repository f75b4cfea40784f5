-- Logs among the files of a folder.
use Rattle.std.proofs.Common.{
  ◌≡◌,
  ◌≢◌,
  ℕ,
  ◌+◌,
  ◌<◌,
  ◌≤◌,
  List,
  [],
  ◌∷◌,
  ◌++◌,
  Some,
  None,
  length,
  get_or,
  take,
  drop,
  drop-cons,
  add-one,
  refl,
  sym,
  ap,
  ◌∙◌,
  subst,
  append_assoc,
  append-nil,
  inl,
  inr,
  arith,
}
use Rattle.std.specs.Prelude.{string_bytes}
use Rattle.std.proofs.lemmas.Grind.{flat_map-append}
use Rattle.std.proofs.lemmas.List.{take-append-drop, take_all, take_more}
use Rattle.lsm_directory.specs.Logs.{
  AppendsLogs,
  AreThose,
  IsFirstUnread,
  IsLogName,
  IsReached,
  IsUnread,
  NoneUnread,
  log_lines,
}
use Rattle.lsm_directory.specs.declared.folder.folder_file.FolderFile.{FolderFile}

-- ---- one file

pub unread_empty : (log prev : ℕ) (file : FolderFile) → file.size ≡ 0 → IsUnread log prev file → ⊥
unread_empty log prev file none u = let some = u.0 in absurd (omega arith)

pub unread_none : (log prev : ℕ) (file : FolderFile) (name : List ℕ) → name ≡ string_bytes file.name → ((n : ℕ) → IsLogName name n → None ≡ Some n)
    → IsUnread log prev file → ⊥
unread_none log prev file name is none (some, (n, named, reached)) = let e = none n (subst (λ (t : List ℕ). IsLogName t n) (sym is) named) in absurd cc

pub unread_old : (log prev number : ℕ) (file : FolderFile) (name : List ℕ) → name ≡ string_bytes file.name → ((n : ℕ) → IsLogName name n → Some number ≡ Some n)
    → number < log → number ≢ prev → IsUnread log prev file → ⊥
unread_old log prev number file name is only below other (some, (n, named, inl above)) =
    let e = only n (subst (λ (t : List ℕ). IsLogName t n) (sym is) named) in
    let same : number ≡ n = cc in
    absurd (omega arith)
unread_old log prev number file name is only below other (some, (n, named, inr previous)) =
    let e = only n (subst (λ (t : List ℕ). IsLogName t n) (sym is) named) in
    let same : number ≡ n = cc in
    other (same ∙ previous)

pub unread_here : (log prev number : ℕ) (file : FolderFile) (name : List ℕ) → name ≡ string_bytes file.name → 0 < file.size → IsLogName name number
    → IsReached log prev number → IsUnread log prev file × IsLogName (string_bytes file.name) number
unread_here log prev number file name is some named reached =
    let own : IsLogName (string_bytes file.name) number = subst (λ (t : List ℕ). IsLogName t number) is named in
    ((some, (number, own, reached)), own)

pub one_log : (line : FolderFile → List ℕ) (log prev : ℕ) (file : FolderFile) (old new : List ℕ) → IsUnread log prev file → new ≡ old ++ line file → AppendsLogs line log prev (file ∷ []) old new
unfolding log_lines
one_log line log prev file old new unread is = (file ∷ [], inl (unread, ([], refl, refl)), is ∙ ap (λ (t : List ℕ). old ++ t) (sym (append-nil (line file))))

pub no_log : (line : FolderFile → List ℕ) (log prev : ℕ) (file : FolderFile) (text : List ℕ) → (IsUnread log prev file → ⊥) → AppendsLogs line log prev (file ∷ []) text text
unfolding log_lines
no_log line log prev file text other = ([], inr (other, refl), sym (append-nil text))

pub words_joined : (text before name between digits behind : List ℕ) → (text ++ (before ++ (name ++ (between ++ digits)))) ++ behind ≡ text ++ (before ++ (name ++ (between ++ (digits ++ behind))))
words_joined text before name between digits behind = simp append_assoc refl

-- ---- files

those_append : {X : Type 0} (P : X → Type 0) (xs ys zs : List X) (x : X) → AreThose P xs ys → AreThose P (x ∷ []) zs → AreThose P (xs ++ x ∷ []) (ys ++ zs)
those_append P [] ys zs x none h = subst (λ (l : List _). AreThose P (x ∷ []) (l ++ zs)) (sym none) h
those_append P (w ∷ ws) ys zs x (inl (first, (rest, parts, front))) h = inl (first, (rest ++ zs, ap (λ (l : List _). l ++ zs) parts, those_append P ws rest zs x front h))
those_append P (w ∷ ws) ys zs x (inr (other, front)) h = inr (other, those_append P ws ys zs x front h)

pub logs_none : (line : FolderFile → List ℕ) (log prev : ℕ) (text : List ℕ) → AppendsLogs line log prev [] text text
unfolding log_lines
logs_none line log prev text = ([], refl, sym (append-nil text))

lines_append : (line : FolderFile → List ℕ) (a b : List FolderFile) → log_lines line (a ++ b) ≡ log_lines line a ++ log_lines line b
unfolding log_lines
lines_append line a b = flat_map-append line a b

-- the files up to the next one
pub logs_more : (line : FolderFile → List ℕ) (log prev : ℕ) (files : List FolderFile) (i : ℕ) (file : FolderFile) (old mid new : List ℕ) → i < length files → file ≡ get_or files i file
    → AppendsLogs line log prev (take i files) old mid → AppendsLogs line log prev (file ∷ []) mid new → AppendsLogs line log prev (take (i + 1) files) old new
logs_more line log prev files i file old mid new inside is (logs, those, text) (more, next, last) =
    let one : take (i + 1) files ≡ take i files ++ file ∷ [] = take_more files i file inside ∙ ap (λ (y : FolderFile). take i files ++ y ∷ []) (sym is) in (
      logs ++ more,
      subst (λ (l : List FolderFile). AreThose (IsUnread log prev) l (logs ++ more)) (sym one) (those_append (IsUnread log prev) (take i files) logs more file those next),
      last ∙ ap (λ (t : List ℕ). t ++ log_lines line more) text ∙ append_assoc old (log_lines line logs) (log_lines line more) ∙ ap (λ (t : List ℕ). old ++ t) (sym (lines_append line logs more)),
    )

pub logs_all : (line : FolderFile → List ℕ) (log prev : ℕ) (files : List FolderFile) (i : ℕ) (old new : List ℕ) → length files ≤ i → AppendsLogs line log prev (take i files) old new → AppendsLogs line log prev files old new
logs_all line log prev files i old new all h = subst (λ (l : List FolderFile). AppendsLogs line log prev l old new) (take_all i files all) h

-- ---- the first one

none_append : (log prev : ℕ) (xs ys : List FolderFile) → NoneUnread log prev xs → NoneUnread log prev ys → NoneUnread log prev (xs ++ ys)
none_append log prev [] ys p q file has = q file has
none_append log prev (w ∷ ws) ys p q file (inl same) = p file (inl same)
none_append log prev (w ∷ ws) ys p q file (inr has) = none_append log prev ws ys (λ f h. p f (inr h)) q file has

none_one : (log prev : ℕ) (file : FolderFile) → (IsUnread log prev file → ⊥) → NoneUnread log prev (file ∷ [])
none_one log prev file other f (inl same) = λ unread. other (subst (λ (x : FolderFile). IsUnread log prev x) (sym same) unread)
none_one log prev file other f (inr has) = absurd has

-- none up to the next one
pub none_more : (log prev : ℕ) (files : List FolderFile) (i : ℕ) (file : FolderFile) → i < length files → file ≡ get_or files i file → NoneUnread log prev (take i files)
    → (IsUnread log prev file → ⊥) → NoneUnread log prev (take (i + 1) files)
none_more log prev files i file inside is none other =
    let one : take (i + 1) files ≡ take i files ++ file ∷ [] = take_more files i file inside ∙ ap (λ (y : FolderFile). take i files ++ y ∷ []) (sym is) in
    subst (λ (l : List FolderFile). NoneUnread log prev l) (sym one) (none_append log prev (take i files) (file ∷ []) none (none_one log prev file other))

cons_at : (files : List FolderFile) (i : ℕ) (d : FolderFile) → i < length files → drop i files ≡ get_or files i d ∷ drop (i + 1) files
cons_at files i d inside = simp add-one (drop-cons files i d inside)

-- and it is the first
pub first_here : (log prev : ℕ) (files : List FolderFile) (i n : ℕ) (file : FolderFile) → i < length files → file ≡ get_or files i file → NoneUnread log prev (take i files)
    → IsUnread log prev file × IsLogName (string_bytes file.name) n → IsFirstUnread log prev files n
first_here log prev files i n file inside is none here = record {
  before = take i files;
  file = file;
  after = drop (i + 1) files;
  parts = sym (take-append-drop i files) ∙ ap (λ (l : List FolderFile). take i files ++ l) (cons_at files i file inside ∙ ap (λ (y : FolderFile). y ∷ drop (i + 1) files) (sym is));
  none = none;
  unread = here.0;
  named = here.1;
}
