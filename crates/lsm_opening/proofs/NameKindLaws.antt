-- A name is of one file at most.
use Rattle.std.proofs.Common.{◌≡◌, ◌≢◌, ℕ, ◌-◌, ◌<◌, ◌==◌, Bool, true, false, List, [], ◌∷◌, ◌++◌, length, get_or, take, drop, codes, refl, sym, ap, ◌∙◌, subst, arith, length-append}
use Rattle.std.specs.Prelude.{if◌then◌else◌}
use Rattle.std.specs.Char.{digit_value}
use Rattle.std.specs.Str.Parse.{IsNumeral, digits_value}
use Rattle.std.proofs.lemmas.Bool.{eqb-true}
use Rattle.std.proofs.Math.Seq.{get_or-append_right, take-append_seam}
use Rattle.lsm_directory.specs.FileNames.{IsFileName}
use Rattle.lsm_directory.specs.declared.folder.file_kind.FileKind.{FileKind}
use Rattle.lsm_directory.specs.declared.folder.file_kind.FileKind.TheVariants.{Table, OldTable, Manifest, Temporary, Log, Current, Lock, Other}

-- ---- the one file of which a name can be: by its first character, `M` (77), and by its last one

abbrev pub last : List ℕ → ℕ
last name = get_or name (length name - 1) 0

abbrev pub before : ℕ → List ℕ → ℕ
before ending name = digits_value 10 (take (length name - ending) name)

abbrev pub by_last : ℕ → List ℕ → FileKind
by_last c name =
    if c == 98 then Table (before 4 name) else if c == 116 then OldTable (before 4 name) else if c == 112 then Temporary (before 6 name)
    else if c == 103 then Log (before 4 name) else if c == 84 then Current else Lock

abbrev pub kind_by : Bool → List ℕ → FileKind
kind_by true name = Manifest (digits_value 10 (drop 9 name))
kind_by false name = by_last (last name) name

abbrev pub kind_in : List ℕ → FileKind
kind_in name = kind_by (get_or name 0 0 == 77) name

-- ---- numbers before an ending

not_true : (b : Bool) → (b ≡ true → ⊥) → b ≡ false
not_true true other = absurd (other refl)
not_true false other = refl

-- a numeral begins with no `M`
no_first : (digits ending : List ℕ) → IsNumeral 10 digits → (get_or (digits ++ ending) 0 0 == 77) ≡ false
no_first [] ending numeral = absurd (let some = numeral.0 in omega arith)
no_first (c ∷ cs) ending numeral = not_true (c == 77) (λ t.
    (let same : c ≡ 77 = eqb-true c 77 t in
    let digit : digit_value 77 < 10 = subst (λ d. digit_value d < 10) same numeral.1.0 in
    absurd (omega arith)))

last_of : (digits ending : List ℕ) → 0 < length ending → last (digits ++ ending) ≡ last ending
last_of digits ending some =
    get_or-append_right digits ending (length (digits ++ ending) - 1) 0 (omega (arith, length-append digits ending, some))
    ∙ ap (λ i. get_or ending i 0) (omega (arith, length-append digits ending, some))

front_of : (digits ending : List ℕ) (n : ℕ) → n ≡ length ending → take (length (digits ++ ending) - n) (digits ++ ending) ≡ digits
front_of digits ending n is = ap (λ k. take k (digits ++ ending)) (omega (arith, length-append digits ending, is)) ∙ take-append_seam digits ending

-- the kind of a name that is a number and this ending
ends : (name digits ending : List ℕ) (kind : FileKind) → name ≡ digits ++ ending → IsNumeral 10 digits → 0 < length ending → by_last (last ending) name ≡ kind → kind_in name ≡ kind
ends name digits ending kind is numeral some by =
    ap (λ b. kind_by b name) (ap (λ (t : List ℕ). get_or t 0 0 == 77) is ∙ no_first digits ending numeral)
    ∙ ap (λ c. by_last c name) (ap last is ∙ last_of digits ending some) ∙ by

value : (name digits ending : List ℕ) (n size : ℕ) → name ≡ digits ++ ending → size ≡ length ending → digits_value 10 digits ≡ n → before size name ≡ n
value name digits ending n size is long spelled =
    ap (λ (t : List ℕ). digits_value 10 (take (length t - size) t)) is ∙ ap (digits_value 10) (front_of digits ending size long) ∙ spelled

pub kind_is : (name : List ℕ) (kind : FileKind) → IsFileName name kind → kind_in name ≡ kind
kind_is name (Table n) (digits, is, decimal) =
    ends name digits (codes ".ldb") (Table n) is decimal.0 (omega arith) (ap Table (value name digits (codes ".ldb") n 4 is refl decimal.1))
kind_is name (OldTable n) (digits, is, decimal) =
    ends name digits (codes ".sst") (OldTable n) is decimal.0 (omega arith) (ap OldTable (value name digits (codes ".sst") n 4 is refl decimal.1))
kind_is name (Temporary n) (digits, is, decimal) =
    ends name digits (codes ".dbtmp") (Temporary n) is decimal.0 (omega arith) (ap Temporary (value name digits (codes ".dbtmp") n 6 is refl decimal.1))
kind_is name (Log n) (digits, is, decimal) =
    ends name digits (codes ".log") (Log n) is decimal.0 (omega arith) (ap Log (value name digits (codes ".log") n 4 is refl decimal.1))
kind_is name (Manifest n) (digits, is, decimal) =
    ap kind_in is ∙ ap Manifest decimal.1
kind_is name Current is = ap kind_in is
kind_is name Lock is = ap kind_in is
kind_is name Other is = absurd is

-- ---- what a kind that was found says

known_or : (found kind : FileKind) (name : List ℕ) → (found ≢ Other → IsFileName name found) → (found ≡ Other → (other : FileKind) → IsFileName name other → ⊥) → IsFileName name kind
    → IsFileName name found
known_or (Table n) kind name known other is = known (λ e. cc)
known_or (OldTable n) kind name known other is = known (λ e. cc)
known_or (Manifest n) kind name known other is = known (λ e. cc)
known_or (Temporary n) kind name known other is = known (λ e. cc)
known_or (Log n) kind name known other is = known (λ e. cc)
known_or Current kind name known other is = known (λ e. cc)
known_or Lock kind name known other is = known (λ e. cc)
known_or Other kind name known other is = absurd (other refl kind is)

pub kind_found : (found kind : FileKind) (name : List ℕ) → (found ≢ Other → IsFileName name found) → (found ≡ Other → (other : FileKind) → IsFileName name other → ⊥) → IsFileName name kind
    → found ≡ kind
kind_found found kind name known other is = sym (kind_is name found (known_or found kind name known other is)) ∙ kind_is name kind is
