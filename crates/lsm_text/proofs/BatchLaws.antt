-- Lines of a batch, one after another.
use Rattle.std.proofs.Common.{◌≡◌, ℕ, suc, ◌+◌, ◌-◌, ◌<◌, ◌≤◌, List, [], ◌∷◌, ◌++◌, length, take, drop, get_or, refl, sym, ap, ◌∙◌, subst, add-one, drop-cons, length-drop, arith}
use Rattle.std.proofs.lemmas.List.{take_more, take_all}
use Rattle.lsm_batch.specs.declared.write.Write.{Write}
use Rattle.lsm_text.specs.EntryList.{lines_of}
use Rattle.lsm_text.specs.declared.form.Form.{Form}
use Rattle.lsm_text.specs.BatchText.{AreWriteLines, IsBatchText, IsFirstBadLine, IsWriteLine}
use Rattle.lsm_text.proofs.PartLaws.{lines_of-nil}

-- So many lines of the text were read, as this batch, and this is left of it.
pub record HasRead (form : Form) (text : List ℕ) (n : ℕ) (ws : List Write) (rest : List ℕ) : Type 0 where
  pub front : AreWriteLines form (take n (lines_of text)) ws
  pub back : drop n (lines_of text) ≡ lines_of rest
  pub few : n + length rest ≤ length text

lines_snoc : (form : Form) (ls : List (List ℕ)) (ws : List Write) (l : List ℕ) (w : Write) → AreWriteLines form ls ws → IsWriteLine form l w → AreWriteLines form (ls ++ l ∷ []) (ws ++ w ∷ [])
lines_snoc form [] [] l w h k = (k, tt)
lines_snoc form [] (x ∷ ws) l w h k = absurd h
lines_snoc form (x ∷ ls) [] l w h k = absurd h
lines_snoc form (x ∷ ls) (y ∷ ws) l w h k = (h.0, lines_snoc form ls ws l w h.1 k)

-- a list that goes on after its first n elements
pub goes_on : (ls : List (List ℕ)) (n : ℕ) (l : List ℕ) (more : List (List ℕ)) → drop n ls ≡ l ∷ more → n < length ls
goes_on ls n l more h = let len : length (drop n ls) ≡ suc (length more) = ap length h in omega (arith, length-drop n ls, len)

pub next_is : (ls : List (List ℕ)) (n : ℕ) (l : List ℕ) (more : List (List ℕ)) → drop n ls ≡ l ∷ more → (get_or ls n [] ≡ l) × (drop (n + 1) ls ≡ more)
next_is ls n l more h =
    let within = goes_on ls n l more h in
    let front : drop n ls ≡ get_or ls n [] ∷ drop (suc n) ls = drop-cons ls n [] within in
    let same : get_or ls n [] ∷ drop (suc n) ls ≡ l ∷ more = sym front ∙ h in
    let first : get_or ls n [] ≡ l = cc in
    let later : drop (suc n) ls ≡ more = cc in
    (first, ap (λ k. drop k ls) (add-one n) ∙ later)

pub read_start : (form : Form) (text : List ℕ) → HasRead form text 0 [] text
read_start form text = record { front = tt; back = refl; few = omega arith }

pub read_more : (form : Form) (text : List ℕ) (n : ℕ) (ws : List Write) (rest line after : List ℕ) (w : Write) → HasRead form text n ws rest
    → lines_of rest ≡ line ∷ lines_of after → length after < length rest → IsWriteLine form line w → HasRead form text (n + 1) (ws ++ w ∷ []) after
read_more form text n ws rest line after w r parts shorter spells =
    let ls = lines_of text in
    let left : drop n ls ≡ line ∷ lines_of after = r.back ∙ parts in
    let within = goes_on ls n line (lines_of after) left in
    let next = next_is ls n line (lines_of after) left in
    let longer : take n ls ++ line ∷ [] ≡ take (n + 1) ls = ap (λ (x : List ℕ). take n ls ++ x ∷ []) (sym next.0) ∙ sym (take_more ls n [] within) in
    record {
      front = subst (λ (xs : List (List ℕ)). AreWriteLines form xs (ws ++ w ∷ [])) longer (lines_snoc form (take n ls) ws line w r.front spells);
      back = next.1;
      few = omega (arith, r.few, shorter);
    }

pub read_all : (form : Form) (text : List ℕ) (n : ℕ) (ws : List Write) (rest : List ℕ) → HasRead form text n ws rest → length rest ≡ 0 → IsBatchText form text ws
read_all form text n ws [] r end =
    let ls = lines_of text in
    let none : length (drop n ls) ≡ 0 = ap length (r.back ∙ lines_of-nil) in
    let all : take n ls ≡ ls = take_all n ls (omega (arith, length-drop n ls, none)) in
    subst (λ (xs : List (List ℕ)). AreWriteLines form xs ws) all r.front
read_all form text n ws (c ∷ cs) r end = absurd (omega (arith, end))

pub read_bad : (form : Form) (text : List ℕ) (n i : ℕ) (ws : List Write) (rest line after : List ℕ) → HasRead form text n ws rest → i ≡ n + 1
    → lines_of rest ≡ line ∷ lines_of after → ((w : Write) → IsWriteLine form line w → ⊥) → IsFirstBadLine form text i
read_bad form text n i ws rest line after r at parts none =
    let ls = lines_of text in
    let left : drop n ls ≡ line ∷ lines_of after = r.back ∙ parts in
    let within = goes_on ls n line (lines_of after) left in
    let next = next_is ls n line (lines_of after) left in
    let place : i - 1 ≡ n = omega (arith, at) in
    record {
      from_one = omega (arith, at);
      within = omega (arith, at, within);
      good = (ws, subst (λ k. AreWriteLines form (take k ls) ws) (sym place) r.front);
      bad = λ w h. none w (subst (λ (x : List ℕ). IsWriteLine form x w) (ap (λ k. get_or ls k []) place ∙ next.0) h);
    }
