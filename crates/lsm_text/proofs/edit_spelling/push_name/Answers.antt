use Rattle.std.proofs.Common.{◌≡◌, ◌++◌, ◌∷◌, [], ◌∙◌, ℕ, List, ap, codes, append_assoc}
use Rattle.lsm_text.specs.EntryPrinting.{bytes_word}
use Rattle.lsm_text.specs.ManifestPrinting.{name_line}
use Rattle.lsm_text.proofs.edit_spelling.push_name.Goals as goal

pub returns : goal.returns
unfolding name_line
returns c =
    let front : List ℕ = c.args.out.now.items in
    let word : List ℕ = codes "comparator " in
    let name : List ℕ = bytes_word c.args.name.now in
    let first : c.extend_from_slice.new.self.items ≡ front ++ word = c.in_ok-extend_from_slice.ensures.items in
    let second : c.push_bytes.new.out.items ≡ c.extend_from_slice.new.self.items ++ name = c.in_ok-push_bytes.ensures in
    let third : c.push.new.self.items ≡ c.push_bytes.new.out.items ++ (10 ∷ []) = c.in_ok-push.ensures.items in
    third ∙ ap (λ (xs : List ℕ). xs ++ (10 ∷ [])) (second ∙ ap (λ (xs : List ℕ). xs ++ name) first)
    ∙ append_assoc (front ++ word) name (10 ∷ []) ∙ append_assoc front word (name ++ (10 ∷ []))
