-- Lines of a script, one after another.
use Rattle.std.proofs.Common.{◌≡◌, ℕ, ◌+◌, ◌-◌, ◌<◌, ◌≤◌, List, [], ◌∷◌, ◌++◌, length, take, drop, get_or, refl, sym, ap, ◌∙◌, subst, length-drop, arith}
use Rattle.std.proofs.lemmas.List.{take_more, take_all}
use Rattle.lsm_script.specs.declared.command.Command.{Command}
use Rattle.lsm_text.specs.EntryList.{lines_of}
use Rattle.lsm_text.proofs.CallerLemmas.{lines_of-nil}
use Rattle.lsm_text.proofs.CallerLemmas.{goes_on, next_is}
use Rattle.lsm_text.specs.declared.form.Form.TheVariants.{Hex}
use Rattle.lsm_script.specs.CommandLine.{AreCommandLines, IsScript, IsFirstBadLine, IsCommandLine}

-- So many lines of the text were read, as these commands, and this is left of it.
pub record HasRead (text : List ℕ) (n : ℕ) (ws : List Command) (rest : List ℕ) : Type 0 where
  pub front : AreCommandLines (take n (lines_of text)) ws
  pub back : drop n (lines_of text) ≡ lines_of rest
  pub few : n + length rest ≤ length text

lines_snoc : (ls : List (List ℕ)) (ws : List Command) (l : List ℕ) (w : Command) → AreCommandLines ls ws → IsCommandLine Hex l w → AreCommandLines (ls ++ l ∷ []) (ws ++ w ∷ [])
lines_snoc [] [] l w h k = (k, tt)
lines_snoc [] (x ∷ ws) l w h k = absurd h
lines_snoc (x ∷ ls) [] l w h k = absurd h
lines_snoc (x ∷ ls) (y ∷ ws) l w h k = (h.0, lines_snoc ls ws l w h.1 k)

pub read_start : (text : List ℕ) → HasRead text 0 [] text
read_start text = record { front = tt; back = refl; few = omega arith }

pub read_more : (text : List ℕ) (n : ℕ) (ws : List Command) (rest line after : List ℕ) (w : Command) → HasRead text n ws rest
    → lines_of rest ≡ line ∷ lines_of after → length after < length rest → IsCommandLine Hex line w → HasRead text (n + 1) (ws ++ w ∷ []) after
read_more text n ws rest line after w r parts shorter spells =
    let ls = lines_of text in
    let left : drop n ls ≡ line ∷ lines_of after = r.back ∙ parts in
    let within = goes_on ls n line (lines_of after) left in
    let next = next_is ls n line (lines_of after) left in
    let longer : take n ls ++ line ∷ [] ≡ take (n + 1) ls = ap (λ (x : List ℕ). take n ls ++ x ∷ []) (sym next.0) ∙ sym (take_more ls n [] within) in
    record {
      front = subst (λ (xs : List (List ℕ)). AreCommandLines xs (ws ++ w ∷ [])) longer (lines_snoc (take n ls) ws line w r.front spells);
      back = next.1;
      few = omega (arith, r.few, shorter);
    }

pub read_all : (text : List ℕ) (n : ℕ) (ws : List Command) (rest : List ℕ) → HasRead text n ws rest → length rest ≡ 0 → IsScript text ws
read_all text n ws [] r end =
    let ls = lines_of text in
    let none : length (drop n ls) ≡ 0 = ap length (r.back ∙ lines_of-nil) in
    let all : take n ls ≡ ls = take_all n ls (omega (arith, length-drop n ls, none)) in
    subst (λ (xs : List (List ℕ)). AreCommandLines xs ws) all r.front
read_all text n ws (c ∷ cs) r end = absurd (omega (arith, end))

pub read_bad : (text : List ℕ) (n i : ℕ) (ws : List Command) (rest line after : List ℕ) → HasRead text n ws rest → i ≡ n + 1
    → lines_of rest ≡ line ∷ lines_of after → ((w : Command) → IsCommandLine Hex line w → ⊥) → IsFirstBadLine text i
read_bad text n i ws rest line after r at parts none =
    let ls = lines_of text in
    let left : drop n ls ≡ line ∷ lines_of after = r.back ∙ parts in
    let within = goes_on ls n line (lines_of after) left in
    let next = next_is ls n line (lines_of after) left in
    let place : i - 1 ≡ n = omega (arith, at) in
    record {
      from_one = omega (arith, at);
      within = omega (arith, at, within);
      good = (ws, subst (λ k. AreCommandLines (take k ls) ws) (sym place) r.front);
      bad = λ w h. none w (subst (λ (x : List ℕ). IsCommandLine Hex x w) (ap (λ k. get_or ls k []) place ∙ next.0) h);
    }
