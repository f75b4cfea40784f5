-- What a held block says of its bytes.
use Rattle.std.proofs.Common.{◌≡◌, ℕ, ◌+◌, ◌-◌, ◌≤◌, List, [], ◌∷◌, ◌++◌, length, take, drop, Option, Some, None, Result, Ok, Err, refl, sym, ap, ◌∙◌, subst, arith}
use Rattle.std.specs.List.{flat_map}
use Rattle.std.specs.Int.{w32, to_le_bytes}
use Rattle.std.proofs.lemmas.List.{take_at, drop_at, length-append}
use Rattle.lsm_codec.specs.Keys.{key_at}
use Rattle.lsm_block.specs.Fault.{is_memory}
use Rattle.lsm_codec.specs.Entries.{Entry}
use Rattle.lsm_codec.proofs.CallerLemmas.{IsBytes}
use Rattle.lsm_block.specs.declared.fault.BlockFault.{BlockFault}
use Rattle.lsm_block.specs.declared.fault.BlockFault.TheVariants.{OutOfMemory, BadRestarts, BadEntry, OutOfOrder}
use Rattle.lsm_block.specs.Block.{IsBlock, entry_of}
use Rattle.lsm_codec.specs.Gives.{Fails}
use Rattle.lsm_block.specs.Reading.{block_at, block_of, parts_at, scan, first_fault, unless, entries_of}
use Rattle.lsm_block.specs.Seeking.{readable, ArePartsOf, Steps}
use Rattle.lsm_block.specs.Standing.{StepStands}
use Rattle.lsm_block.specs.Held.{Holds, text_and_entries, text_or_none, block_in, held, or_none, Kept, last_of, Given}
use Rattle.lsm_block.proofs.KeyLaws.{kept_bytes, last-key}
use Rattle.lsm_block.proofs.EntryLaws.{some_is}
use Rattle.lsm_block.proofs.RestartLaws.{tail_again, length-spelled}
use Rattle.lsm_block.proofs.BlockLaws.{tail_of_block, block_takes, block_again, one_block}
use Rattle.lsm_block.proofs.SeekLaws.{reads_all}

abbrev words_of : {bytes : List ℕ} {es : List Entry} → IsBlock bytes es → List ℕ
words_of b = flat_map (to_le_bytes w32) (0 ∷ b.restarts)

abbrev count_of : {bytes : List ℕ} {es : List Entry} → IsBlock bytes es → List ℕ
count_of b = to_le_bytes w32 (length b.restarts + 1)

-- a block that is held, whose text is this long
pub holds_entries : (bytes : List ℕ) (n : ℕ) (es : List Entry) → Holds bytes n es → (text_and_entries (take n bytes)).entries ≡ es
holds_entries bytes n es h =
    let b = h.block in
    let t : take n bytes ≡ b.text = ap (take n) b.bytes_are ∙ take_at b.text (words_of b ++ count_of b) n (sym h.text_len_is) in
    rw t (reads_all es (length b.text) 0 [] b.text b.starts b.spelled (omega arith))

pub holds_itself : (bytes : List ℕ) (n : ℕ) (es : List Entry) → Holds bytes n es → Holds bytes n (text_and_entries (take n bytes)).entries
holds_itself bytes n es h = subst (λ (xs : List Entry). Holds bytes n xs) (sym (holds_entries bytes n es h)) h

pub record Sizes (bytes : List ℕ) (n : ℕ) : Type 0 where
  pub within : n ≤ length bytes
  pub tail : 8 ≤ length (drop n bytes)

pub sizes : (bytes : List ℕ) (n : ℕ) (es : List Entry) → Holds bytes n es → Sizes bytes n
sizes bytes n es h =
    let b = h.block in
    let tail : drop n bytes ≡ words_of b ++ count_of b = ap (drop n) b.bytes_are ∙ drop_at b.text (words_of b ++ count_of b) n (sym h.text_len_is) in
    let long = ap (λ (xs : List ℕ). length xs) b.bytes_are ∙ length-append b.text (words_of b ++ count_of b) in
    let parts = length-append (words_of b) (count_of b) in
    let words = length-spelled (0 ∷ b.restarts) in
    let four : length (count_of b) ≡ 4 = refl in
    let tail_len = ap (λ (xs : List ℕ). length xs) tail in
    record { within = omega (arith, long, h.text_len_is); tail = omega (arith, tail_len, parts, words, four) }

pub holds_parts : (bytes : List ℕ) (n : ℕ) (es : List Entry) → Holds bytes n es → ArePartsOf (take n bytes) (take (length (drop n bytes) - 4) (drop n bytes)) es
holds_parts bytes n es h =
    let b = h.block in
    let t : take n bytes ≡ b.text = ap (take n) b.bytes_are ∙ take_at b.text (words_of b ++ count_of b) n (sym h.text_len_is) in
    let tail : drop n bytes ≡ words_of b ++ count_of b = ap (drop n) b.bytes_are ∙ drop_at b.text (words_of b ++ count_of b) n (sym h.text_len_is) in
    let four : length (count_of b) ≡ 4 = refl in
    let k : length (words_of b) ≡ length (words_of b ++ count_of b) - 4 = omega (arith, length-append (words_of b) (count_of b), four) in
    let w : take (length (words_of b ++ count_of b) - 4) (words_of b ++ count_of b) ≡ words_of b = take_at (words_of b) (count_of b) (length (words_of b ++ count_of b) - 4) k in
    let p : ArePartsOf b.text (words_of b) es = record { starts = b.starts; restarts = b.restarts; spelled = b.spelled; ascends = b.ascends; rises = b.rises; fits = b.fits; offsets_are = refl } in
    rw (t, tail, w) p

-- ---- what a check says

pub fails_is : {Y : Type 0} (f : BlockFault) (read : Result Y BlockFault) → read ≡ Err f → Fails is_memory f read
fails_is OutOfMemory read e = tt
fails_is BadRestarts read e = e
fails_is (BadEntry o) read e = e
fails_is (OutOfOrder o) read e = e

pub no_parts : (bytes : List ℕ) → parts_at bytes ≡ None → block_at bytes ≡ Err BadRestarts
unfolding block_at
no_parts bytes e = ap block_of e

abbrev pub is_ok : List Entry → Result (List Entry) BlockFault
is_ok es = Ok es

abbrev is_err : BlockFault → Result (List Entry) BlockFault
is_err f = Err f

pub fault_found : (bytes text rs : List ℕ) (f : BlockFault) → parts_at bytes ≡ Some (text, rs) → Some f ≡ first_fault (scan (length text) (length text) [] text) rs → block_at bytes ≡ is_err f
unfolding block_at
fault_found bytes text rs f p e =
    ap block_of p ∙ ap (λ (o : Option BlockFault). unless o (entries_of (scan (length text) (length text) [] text).placed)) (sym e)

pub no_fault : (bytes text rs : List ℕ) → parts_at bytes ≡ Some (text, rs) → None ≡ first_fault (scan (length text) (length text) [] text) rs
    → block_at bytes ≡ is_ok (entries_of (scan (length text) (length text) [] text).placed)
unfolding block_at
no_fault bytes text rs p e =
    ap block_of p ∙ ap (λ (o : Option BlockFault). unless o (entries_of (scan (length text) (length text) [] text).placed)) (sym e)

-- A block without a fault is held.
pub checked : (bytes text rs : List ℕ) → IsBytes bytes → parts_at bytes ≡ Some (text, rs) → None ≡ first_fault (scan (length text) (length text) [] text) rs
    → Holds bytes (length text) (text_and_entries (take (length text) bytes)).entries
checked bytes text rs fits p e =
    let es = entries_of (scan (length text) (length text) [] text).placed in
    let b = block_takes bytes es fits (no_fault bytes text rs p e) in
    let same = some_is (text, rs) (b.text, 0 ∷ b.restarts) (sym p ∙ tail_again bytes b.text (0 ∷ b.restarts) (tail_of_block bytes es b)) in
    holds_itself bytes (length text) es (record { block = b; text_len_is = ap (λ (q : List ℕ × List ℕ). length q.0) same })

-- what was read of it is what is held
pub checked_entries : (bytes text rs : List ℕ) → IsBytes bytes → parts_at bytes ≡ Some (text, rs) → None ≡ first_fault (scan (length text) (length text) [] text) rs
    → entries_of (scan (length text) (length text) [] text).placed ≡ (text_and_entries (take (length text) bytes)).entries
checked_entries bytes text rs fits p e =
    ap or_none (sym (no_fault bytes text rs p e) ∙ block_again bytes (text_and_entries (take (length text) bytes)).entries (checked bytes text rs fits p e).block)

-- what a held block is read as
pub held_at : (bytes : List ℕ) (n : ℕ) (es : List Entry) → Holds bytes n es → block_at bytes ≡ is_ok es
held_at bytes n es h = block_again bytes es h.block

pub held_is : (bytes : List ℕ) (es : List Entry) → block_at bytes ≡ is_ok es → held bytes ≡ es
unfolding held
held_is bytes es e = ap or_none e

-- a fault of what is a block
pub still_fails : (f : BlockFault) (bytes : List ℕ) (es : List Entry) → IsBlock bytes es → Fails is_memory f (block_at bytes) → Fails is_memory f (is_ok es)
still_fails f bytes es b h = subst (λ (read : Result (List Entry) BlockFault). Fails is_memory f read) (block_again bytes es b) h

-- the same entries, where a block is held
pub same_entries : (bytes : List ℕ) (n : ℕ) (es fs : List Entry) → Holds bytes n es → IsBlock bytes fs → is_ok fs ≡ is_ok es
same_entries bytes n es fs h b = ap (λ (xs : List Entry). is_ok xs) (one_block bytes fs es b h.block)

-- what a step of the code is, as contracts see it
pub given_steps : (text before before' : List ℕ) (offset offset' : ℕ) (r : Option (List ℕ)) → Kept (last_of before) before → Kept (last_of before') before' → Steps text offset before offset' before' r → StepStands text offset before offset' before' r
    → Given (text_and_entries text) (record { offset = offset; last = last_of before }) (record { offset = offset'; last = last_of before' }) r
given_steps text before before' offset offset' None k k' s t =
    let old = ap (λ (b : List ℕ). readable (length text) b (drop offset text)) (kept_bytes (last_of before) before k) in
    let new = ap (λ (b : List ℕ). readable (length text) b (drop offset' text)) (kept_bytes (last_of before') before' k') in
    (sym old ∙ s.0, sym new ∙ s.1, ap last_of t.1)
given_steps text before before' offset offset' (Some value) k k' s t =
    let old = ap (λ (b : List ℕ). readable (length text) b (drop offset text)) (kept_bytes (last_of before) before k) in
    let new = ap (λ (b : List ℕ). readable (length text) b (drop offset' text)) (kept_bytes (last_of before') before' k') in
    (key_at before', last-key before' s.0, sym old ∙ s.1 ∙ ap (λ (es : List Entry). entry_of (key_at before') value ∷ es) new)

-- a block whose text was found
pub holds_found : (bytes text rs : List ℕ) (es : List Entry) → IsBlock bytes es → parts_at bytes ≡ Some (text, rs) → Holds bytes (length text) es
holds_found bytes text rs es b p =
    let same = some_is (text, rs) (b.text, 0 ∷ b.restarts) (sym p ∙ tail_again bytes b.text (0 ∷ b.restarts) (tail_of_block bytes es b)) in
    record { block = b; text_len_is = ap (λ (q : List ℕ × List ℕ). length q.0) same }

pub some_parts : (bytes : List ℕ) (es : List Entry) → IsBlock bytes es → None ≡ parts_at bytes → ⊥
some_parts bytes es b e = let bad = e ∙ tail_again bytes b.text (0 ∷ b.restarts) (tail_of_block bytes es b) in absurd cc

-- the text that was found is the front of the block
front_is : (bytes text rs : List ℕ) (es : List Entry) → IsBlock bytes es → parts_at bytes ≡ Some (text, rs) → take (length text) bytes ≡ text
front_is bytes text rs es b p =
    let same = some_is (text, rs) (b.text, 0 ∷ b.restarts) (sym p ∙ tail_again bytes b.text (0 ∷ b.restarts) (tail_of_block bytes es b)) in
    let is : text ≡ b.text = ap (λ (q : List ℕ × List ℕ). q.0) same in
    ap (λ (t : List ℕ). take (length t) bytes) is ∙ ap (take (length b.text)) b.bytes_are ∙ take_at b.text (words_of b ++ count_of b) (length b.text) refl ∙ sym is

pub found_block : (bytes text rs : List ℕ) (es : List Entry) → IsBlock bytes es → parts_at bytes ≡ Some (text, rs) → text_and_entries (take (length text) bytes) ≡ block_in bytes
unfolding block_in
found_block bytes text rs es b p =
    ap text_and_entries (front_is bytes text rs es b p) ∙ ap (λ (o : Option (List ℕ × List ℕ)). text_and_entries (text_or_none o)) (sym p)

-- a block that is held is that of its bytes
pub held_block : (bytes : List ℕ) (n : ℕ) (es : List Entry) → Holds bytes n es → text_and_entries (take n bytes) ≡ block_in bytes
held_block bytes n es h =
    ap (λ (m : ℕ). text_and_entries (take m bytes)) h.text_len_is
    ∙ found_block bytes h.block.text (0 ∷ h.block.restarts) es h.block (tail_again bytes h.block.text (0 ∷ h.block.restarts) (tail_of_block bytes es h.block))
