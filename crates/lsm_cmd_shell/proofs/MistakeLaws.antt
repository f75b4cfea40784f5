-- Words of a line, one after another, up to the first that is not as it is wanted.
use Rattle.std.proofs.Common.{◌≡◌, ℕ, ◌+◌, ◌-◌, ◌<◌, ◌≤◌, false, nat_lt, List, [], ◌∷◌, ◌++◌, length, get_or, drop, codes, Option, Some, None, refl, ap, ◌∙◌, append_assoc, arith, inl, inr}
use Rattle.std.specs.Prelude.{IfNone, IfSome, IsTrue, OnOk, Result, Ok, Err, is_some, ◌↔◌}
use Rattle.std.specs.Str.{bytes_eq}
use Rattle.std.proofs.lemmas.Bool.Decides.{nat_tests}
use Rattle.std.proofs.lemmas.List.{get_or-map, length-map}
use Rattle.lsm_batch.specs.declared.write.Write.{Write}
use Rattle.lsm_text.specs.BatchText.{IsWriteLine}
use Rattle.lsm_text.specs.declared.form.Form.TheVariants.{Text}
use Rattle.lsm_text.specs.declared.form.Form.{Form}
use Rattle.lsm_cmd_shell.specs.Mistakes.{IsFirstWrong, IsNoBytes, IsNoFrom, IsWrongWord, ends_by_limit}
use Rattle.lsm_cmd_shell.specs.declared.want.Want.{Want}
use Rattle.lsm_cmd_shell.specs.declared.want.Want.TheVariants.{FromBeside}
use Rattle.lsm_cmd_shell.specs.declared.mistake.Wrong.{Wrong}
use Rattle.lsm_cmd_shell.specs.declared.mistake.Wrong.TheVariants.{Missing, Extra}
use Rattle.lsm_cmd_shell.specs.declared.mistake.Mistake.{Mistake}
use Rattle.lsm_cmd_shell.specs.declared.mistake.Mistake.TheVariants.{Word as WordMistake}
use Rattle.lsm_cmd_shell.proofs.WordTexts.{Word, blank, texts}

pub no_from : (form : Form) (word : List ℕ) → ((other : Wrong) → IsNoBytes form FromBeside word other → ⊥) → (word ≡ codes "limit" → ⊥) → (wrong : Wrong) → IsNoFrom form word wrong → ⊥
no_from form word none other wrong (inl h) = none wrong h
no_from form word none other wrong (inr h) = other h.1

pub found : (word : List ℕ) (r : Option Write) → IfSome r (IsWriteLine Text word) → IfNone r ((w : Write) → IsWriteLine Text word w → ⊥) → IsTrue (is_some r) ↔ ((w : Write) × IsWriteLine Text word w)
found word (Some w) is none = (λ h. (w, is), λ h. refl)
found word None is none = (λ h. absurd (cc), λ h. absurd (none h.0 h.1))

-- texts, one behind another
pub two : (x y z a b : List ℕ) → y ≡ x ++ a → z ≡ y ++ b → z ≡ x ++ (a ++ b)
two x y z a b e h = h ∙ ap (λ (l : List ℕ). l ++ b) e ∙ append_assoc x a b

three : (x y z v a b d : List ℕ) → y ≡ x ++ a → z ≡ y ++ b → v ≡ z ++ d → v ≡ x ++ (a ++ (b ++ d))
three x y z v a b d e f g = two x y v a (b ++ d) e (two y z v b d f g)

pub four : (x y z v w a b d e : List ℕ) → y ≡ x ++ a → z ≡ y ++ b → v ≡ z ++ d → w ≡ v ++ e → w ≡ x ++ (a ++ (b ++ (d ++ e)))
four x y z v w a b d e f g h k = two x y w a (b ++ (d ++ e)) f (three y z v w b d e g h k)

pub last_of_two : {T E : Type 0} (r : Result T E) (x y z a b : List ℕ) → y ≡ x ++ a → OnOk r (z ≡ y ++ b) → OnOk r (z ≡ x ++ (a ++ b))
last_of_two (Ok t) x y z a b e h = two x y z a b e h
last_of_two (Err f) x y z a b e h = tt

pub last_of_four : {T E : Type 0} (r : Result T E) (x y z v w a b d e : List ℕ) → y ≡ x ++ a → z ≡ y ++ b → v ≡ z ++ d → OnOk r (w ≡ v ++ e) → OnOk r (w ≡ x ++ (a ++ (b ++ (d ++ e))))
last_of_four (Ok t) x y z v w a b d e f g h k = four x y z v w a b d e f g h k
last_of_four (Err i) x y z v w a b d e f g h k = tt

-- the last word but one
pub too_few : (ws : List Word) → length ws < 2 → false ≡ ends_by_limit (texts ws)
unfolding ends_by_limit
too_few [] few = refl
too_few (a ∷ []) few = refl
too_few (a ∷ b ∷ ws) few = absurd (omega (arith, few))

not_few : (n : ℕ) → 2 ≤ n → nat_lt n 2 ≡ false
not_few n h = grind (arith, nat_tests)

pub before_last : (ws : List Word) → 2 ≤ length ws → ends_by_limit (texts ws) ≡ bytes_eq (get_or ws (length ws - 2) blank).now (codes "limit")
unfolding ends_by_limit
before_last ws low =
    let count = length-map ws (λ (w : Word). w.now) in
    let many : 2 ≤ length (texts ws) = omega (arith, low, count) in
    let test : nat_lt (length (texts ws)) 2 ≡ false = not_few (length (texts ws)) many in
    let inside : length ws - 2 < length ws = omega (arith, low) in
    rw test (ap (λ (w : List ℕ). bytes_eq w (codes "limit")) (ap (λ k. get_or (texts ws) (k - 2) []) count ∙ get_or-map (λ (w : Word). w.now) ws (length ws - 2) blank [] inside))

-- the first wrong word of those that are still to be looked at is the first of all
abbrev pub Alike : Form → ℕ → List Want → List Word → List Want → List Word → Type 0
Alike form n ts ws us vs = (m : Mistake) → (IsFirstWrong form n ts (texts ws) m → IsFirstWrong form 2 us (texts vs) m) × (IsFirstWrong form 2 us (texts vs) m → IsFirstWrong form n ts (texts ws) m)

module _ (form : Form) where
  pub at_extra : (n : ℕ) (ts : List Want) (ws : List Word) → length ts < 1 → 1 ≤ length ws → IsFirstWrong form n ts (texts ws) (WordMistake n Extra)
  at_extra n [] [] few some = absurd (omega (arith, some))
  at_extra n [] (w ∷ ws) few some = refl
  at_extra n (t ∷ ts) ws few some = absurd (omega (arith, few))

  pub at_missing : (n : ℕ) (ts : List Want) (ws : List Word) (t : Want) → 1 ≤ length ts → length ws < 1 → t ≡ get_or ts 0 t → IsFirstWrong form n ts (texts ws) (WordMistake n (Missing t))
  at_missing n [] ws t some few is = absurd (omega (arith, some))
  at_missing n (u ∷ ts) [] t some few is = rw is refl
  at_missing n (u ∷ ts) (w ∷ ws) t some few is = absurd (omega (arith, few))

  pub at_wrong : (n : ℕ) (ts : List Want) (ws : List Word) (t : Want) (wrong : Wrong) → 1 ≤ length ts → 1 ≤ length ws → t ≡ get_or ts 0 t → IsWrongWord form t (get_or ws 0 blank).now wrong
      → IsFirstWrong form n ts (texts ws) (WordMistake n wrong)
  at_wrong n [] ws t wrong some more is h = absurd (omega (arith, some))
  at_wrong n (u ∷ ts) [] t wrong some more is h = absurd (omega (arith, more))
  at_wrong n (u ∷ ts) (w ∷ ws) t wrong some more is h = inl (wrong, refl, rw is at h)

  pub at_end : (n : ℕ) (ts : List Want) (ws : List Word) → length ts < 1 → length ws < 1 → (m : Mistake) → IsFirstWrong form n ts (texts ws) m → ⊥
  at_end n [] [] few none m h = h
  at_end n [] (w ∷ ws) few none m h = absurd (omega (arith, none))
  at_end n (t ∷ ts) ws few none m h = absurd (omega (arith, few))

  -- behind a word that is as it is wanted
  not_here : (n : ℕ) (t : Want) (ts : List Want) (w : Word) (ws : List Word) (m : Mistake) → ((wrong : Wrong) → IsWrongWord form t w.now wrong → ⊥) → IsFirstWrong form n (t ∷ ts) (texts (w ∷ ws)) m
      → IsFirstWrong form (n + 1) ts (texts ws) m
  not_here n t ts w ws m right (inl h) = absurd (right h.0 h.2)
  not_here n t ts w ws m right (inr h) = h.1

  pub alike_next : (n : ℕ) (ts : List Want) (ws : List Word) (us : List Want) (vs : List Word) (t : Want) → 1 ≤ length ts → 1 ≤ length ws → t ≡ get_or ts 0 t
      → ((wrong : Wrong) → IsWrongWord form t (get_or ws 0 blank).now wrong → ⊥) → Alike form n ts ws us vs → Alike form (n + 1) (drop 1 ts) (drop 1 ws) us vs
  alike_next n [] ws us vs t some more is right alike = absurd (omega (arith, some))
  alike_next n (u ∷ ts) [] us vs t some more is right alike = absurd (omega (arith, more))
  alike_next n (u ∷ ts) (w ∷ ws) us vs t some more is right alike =
      let fine : (wrong : Wrong) → IsWrongWord form u w.now wrong → ⊥ = rw is at right in
      λ m. (λ h. (alike m).0 (inr (fine, h)), λ h. not_here n u ts w ws m fine ((alike m).1 h))
