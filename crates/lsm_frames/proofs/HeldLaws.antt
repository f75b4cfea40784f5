-- An answer that grows.
use Rattle.std.proofs.Common.{◌≡◌, ℕ, ◌+◌, ◌*◌, ◌<◌, ◌≤◌, List, [], ◌∷◌, ◌++◌, length, drop, Option, Some, refl, sym, ap, subst, ◌∙◌, arith, slice_index_or, slice_set}
use Rattle.std.specs.Prelude.{unwrap_or, IsSome}
use Rattle.std.specs.List.{flat_map, AllByRecursion}
use Rattle.std.specs.Int.{w32, to_le_bytes}
use Rattle.std.proofs.lemmas.List.{length-append, length-drop, drop_at, flat_map_more}
use Rattle.lsm_frames.specs.declared.length.TheConstants.{MOST_ANSWER, MOST_REQUEST}
use Rattle.lsm_frames.specs.Texts.{number32, text, optional, frame}
use Rattle.lsm_frames.specs.declared.when.When.{When}
use Rattle.lsm_frames.specs.declared.level_size.LevelSize.{LevelSize}
use Rattle.lsm_frames.specs.Answers.{Pair, pair_text, size_text}
use Rattle.lsm_frames.specs.Requests.{Between, Written, Stretch, Writes, Reads, Scans, CompactsRange, FitsText, FitsWritten, when_text, written_parts, written_text, spelled}
use Rattle.lsm_frames.specs.Reading.{Read, items_in}
use Rattle.lsm_frames.specs.Held.{held, Holds}
use Rattle.lsm_frames.proofs.ByteLaws.{IsFormat}
use Rattle.lsm_frames.proofs.FieldLaws.{length-text}
use Rattle.lsm_frames.proofs.ItemLaws.{items_again}

held_after : {A : Type 0} (read : Read A) (spell : A → List ℕ) (F : A → Type 0) → IsFormat read spell F → (head : List ℕ) (skipped : ℕ) (xs : List A) → length head ≡ skipped → AllByRecursion F xs → held read skipped (head ++ flat_map spell xs) ≡ xs
unfolding held
held_after {A} read spell F format head skipped xs len fits =
    ap (λ (bytes : List ℕ). unwrap_or (items_in read bytes) []) (drop_at head (flat_map spell xs) skipped len)
    ∙ ap (λ (o : Option (List A)). unwrap_or o []) (items_again read spell F format (length (flat_map spell xs)) xs fits (omega arith))

all_more : {A : Type 0} (F : A → Type 0) (xs : List A) (x : A) → AllByRecursion F xs → F x → AllByRecursion F (xs ++ x ∷ [])
all_more F [] x fits one = (one, tt)
all_more F (y ∷ xs) x fits one = (fits.0, all_more F xs x fits.1 one)

-- nothing yet
pub holds_none : {A : Type 0} (read : Read A) (spell : A → List ℕ) (F : A → Type 0) → IsFormat read spell F → (head : List ℕ) (skipped : ℕ) (bytes : List ℕ) → length head ≡ skipped → skipped ≤ 6 → bytes ≡ head → (held read skipped bytes ≡ []) × Holds spell F head (held read skipped bytes) bytes
holds_none {A} read spell F format head skipped bytes len short e =
    let parts : bytes ≡ head ++ flat_map spell [] = e ∙ sym (simp Rattle.std.proofs.lemmas.List.append-nil) in
    let is : held read skipped bytes ≡ [] = ap (held read skipped) parts ∙ held_after read spell F format head skipped [] len tt in
    let size : length bytes ≡ length head = ap length e in
    (is, rw is (record { parts = parts; fits = tt; short = omega arith }))

-- one field more
pub holds_more : {A : Type 0} (read : Read A) (spell : A → List ℕ) (F : A → Type 0) → IsFormat read spell F → (head : List ℕ) (skipped : ℕ) (xs : List A) (x : A) (old new : List ℕ) → length head ≡ skipped → Holds spell F head xs old → F x → new ≡ old ++ spell x → length new ≤ MOST_ANSWER + 4 → (held read skipped new ≡ xs ++ x ∷ []) × Holds spell F head (held read skipped new) new
holds_more {A} read spell F format head skipped xs x old new len holds one e short =
    let parts : new ≡ head ++ flat_map spell (xs ++ x ∷ []) = e ∙ ap (λ (t : List ℕ). t ++ spell x) holds.parts ∙ flat_map_more spell head xs x in
    let all : AllByRecursion F (xs ++ x ∷ []) = all_more F xs x holds.fits one in
    let is : held read skipped new ≡ xs ++ x ∷ [] = ap (held read skipped) parts ∙ held_after read spell F format head skipped (xs ++ x ∷ []) len all in
    (is, rw is (record { parts = parts; fits = all; short = short }))

-- how long it gets
pub size_more : {A : Type 0} (spell : A → List ℕ) (F : A → Type 0) (head : List ℕ) (xs : List A) (x : A) (bytes : List ℕ) → Holds spell F head xs bytes → length head + length (flat_map spell (xs ++ x ∷ [])) ≡ length bytes + length (spell x)
size_more spell F head xs x bytes holds =
    let parts : bytes ++ spell x ≡ head ++ flat_map spell (xs ++ x ∷ []) = ap (λ (t : List ℕ). t ++ spell x) holds.parts ∙ flat_map_more spell head xs x in
    sym (length-append head (flat_map spell (xs ++ x ∷ []))) ∙ sym (ap length parts) ∙ length-append bytes (spell x)

pub size_held : {A : Type 0} (spell : A → List ℕ) (F : A → Type 0) (head : List ℕ) (xs : List A) (bytes : List ℕ) → Holds spell F head xs bytes → length bytes ≡ length head + length (flat_map spell xs)
size_held spell F head xs bytes holds = ap length holds.parts ∙ length-append head (flat_map spell xs)

-- ---- sealing

abbrev pub with_front : List ℕ → List ℕ → List ℕ
with_front four bytes = slice_set (slice_set (slice_set (slice_set bytes 0 (slice_index_or four 0 0)) 1 (slice_index_or four 1 0)) 2 (slice_index_or four 2 0)) 3 (slice_index_or four 3 0)

four_set : (a b c d : ℕ) (bytes : List ℕ) → 4 ≤ length bytes → slice_set (slice_set (slice_set (slice_set bytes 0 a) 1 b) 2 c) 3 d ≡ a ∷ b ∷ c ∷ d ∷ drop 4 bytes
four_set a b c d [] long = absurd (omega arith)
four_set a b c d (p ∷ []) long = absurd (omega arith)
four_set a b c d (p ∷ q ∷ []) long = absurd (omega arith)
four_set a b c d (p ∷ q ∷ r ∷ []) long = absurd (omega arith)
four_set a b c d (p ∷ q ∷ r ∷ s ∷ bytes) long = refl

pub sealed : (bytes four : List ℕ) (n : ℕ) → 4 ≤ length bytes → four ≡ to_le_bytes w32 n → n + 4 ≡ length bytes → with_front four bytes ≡ frame (drop 4 bytes)
unfolding text
sealed bytes four n long e len =
    let size : n ≡ length (drop 4 bytes) = omega (arith, length-drop 4 bytes) in
    let numbers : four ≡ to_le_bytes w32 (length (drop 4 bytes)) = e ∙ ap (to_le_bytes w32) size in
    rw numbers (four_set _ _ _ _ bytes long)

-- ---- how long it would get, beside what a test for room says

pub length-value : (t : List ℕ) → length (optional (Some t)) ≡ length t + 5
length-value t = omega (arith, length-text t)

pub length-pair : (p : Pair) → length (pair_text p) ≡ length p.key + length p.value + 8
length-pair p = omega (arith, length-append (text p.key) (text p.value), length-text p.key, length-text p.value)

pub length-sizes : (xs : List LevelSize) → length (flat_map size_text xs) ≡ length xs * 16
length-sizes [] = refl
length-sizes (x ∷ xs) = omega (arith, length-append (size_text x) (flat_map size_text xs), length-sizes xs)

-- what a list lends
pub lent_held : {A : Type 0} (read : Read A) (spell : A → List ℕ) (F : A → Type 0) → IsFormat read spell F → (bytes : List ℕ) → Holds spell F [] (held read 0 bytes) bytes → IsSome (items_in read bytes)
lent_held {A} read spell F format bytes holds =
    subst (λ (t : List ℕ). IsSome (items_in read t)) (sym holds.parts)
    (subst IsSome (sym (items_again read spell F format (length (flat_map spell (held read 0 bytes))) (held read 0 bytes) holds.fits (omega arith))) refl)

pub held_is : {A : Type 0} (read : Read A) (bytes : List ℕ) → unwrap_or (items_in read bytes) [] ≡ held read 0 bytes
unfolding held
held_is read bytes = refl

pub length-written : (key value : List ℕ) → length (written_parts key (Some value)) ≡ length key + length value + 9
length-written key value = omega (arith, length-append (text key) (text value), length-text key, length-text value)

-- Where no answer has room for a list's fields, no request has.
pub long_writes : (ws : List Written) (w : Written) (bytes : List ℕ) → Holds written_text FitsWritten [] ws bytes → MOST_ANSWER + 4 < length bytes + length (written_text w) → MOST_REQUEST < length (spelled (Writes (ws ++ w ∷ [])))
unfolding spelled
long_writes ws w bytes holds long = omega (arith, size_more written_text FitsWritten [] ws w bytes holds)

pub long_reads : (when : When) (ks : List (List ℕ)) (k : List ℕ) (bytes : List ℕ) → Holds text FitsText [] ks bytes → MOST_ANSWER + 4 < length bytes + length (text k) → MOST_REQUEST < length (spelled (Reads when (ks ++ k ∷ [])))
unfolding spelled
long_reads when ks k bytes holds long = omega (arith, size_more text FitsText [] ks k bytes holds, length-append (when_text when) (flat_map text (ks ++ k ∷ [])))

-- A scan is longer than each of its texts.
pub long_from : (s : Stretch) → MOST_REQUEST < length s.from → MOST_REQUEST < length (spelled (Scans s))
unfolding spelled
long_from s long =
    omega (arith, length-append (when_text s.when) (text s.from ++ (optional s.to ++ number32 s.limit)), length-append (text s.from) (optional s.to ++ number32 s.limit), length-text s.from)

pub long_to : (s : Stretch) → MOST_REQUEST < length (optional s.to) → MOST_REQUEST < length (spelled (Scans s))
unfolding spelled
long_to s long =
    omega (arith, length-append (when_text s.when) (text s.from ++ (optional s.to ++ number32 s.limit)), length-append (text s.from) (optional s.to ++ number32 s.limit), length-append (optional s.to) (number32 s.limit))

-- So is a compaction of keys.
pub long_first : (b : Between) → MOST_REQUEST < length b.from → MOST_REQUEST < length (spelled (CompactsRange b))
unfolding spelled
long_first b long = omega (arith, length-append (text b.from) (optional b.to), length-text b.from)

pub long_last : (b : Between) → MOST_REQUEST < length (optional b.to) → MOST_REQUEST < length (spelled (CompactsRange b))
unfolding spelled
long_last b long = omega (arith, length-append (text b.from) (optional b.to))
