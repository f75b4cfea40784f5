-- A text spells one list of commands at most.
use Rattle.std.proofs.Common.{◌≡◌, ℕ, List, [], ◌∷◌, codes, get_or, drop, Some, None, refl, sym, ap, ◌∙◌, subst}
use Rattle.std.specs.Prelude.{if◌then◌else◌}
use Rattle.std.specs.Str.{bytes_eq}
use Rattle.std.specs.Str.Parse.{digits_value}
use Rattle.lsm_batch.specs.declared.write.Write.{Write}
use Rattle.lsm_text.specs.EntryList.{lines_of}
use Rattle.lsm_text.specs.declared.form.Form.{Form}
use Rattle.lsm_text.specs.declared.form.Form.TheVariants.{Hex}
use Rattle.lsm_text.specs.Spelling.{IsWord}
use Rattle.lsm_text.proofs.CallerLemmas.{word_one}
use Rattle.lsm_script.specs.declared.command.Command.{Command}
use Rattle.lsm_script.specs.declared.command.Command.TheVariants.{Ingest, Get, Snapshot, Release, Reserve, ReserveRange, Merge, Install, Cancel, Pin, Unpin, Collect, List as Listing}
use Rattle.lsm_text.specs.BatchText.{AreWriteLines}
use Rattle.lsm_text.proofs.CallerLemmas.{lines_one}
use Rattle.lsm_script.specs.CommandLine.{AreCommandLines, IsCommand, IsNumbered, IsScript, most}
use Rattle.lsm_text.specs.Numbers.{IsNumberWord}
use Rattle.lsm_script.specs.Words.{words_of}

-- ---- words say what kind of command they ask for

-- what a command names beside its kind
record Parts : Type 0 where
  writes : List Write
  key : List ℕ
  to : List ℕ
  level : ℕ
  number : ℕ

abbrev of_number : ℕ → Parts
of_number n = record { writes = []; key = []; to = []; level = 0; number = n }

abbrev of_bare : Parts
of_bare = of_number 0

abbrev parts_of : Command → Parts
parts_of (Ingest writes) = record { writes = writes; key = []; to = []; level = 0; number = 0 }
parts_of (Get key None) = record { writes = []; key = key; to = []; level = 0; number = 0 }
parts_of (Get key (Some id)) = record { writes = []; key = key; to = []; level = 0; number = id }
parts_of Snapshot = of_bare
parts_of (Release id) = of_number id
parts_of Reserve = of_bare
parts_of (ReserveRange level from to) = record { writes = []; key = from; to = to; level = level; number = 0 }
parts_of (Merge ticket) = of_number ticket
parts_of (Install ticket) = of_number ticket
parts_of (Cancel ticket) = of_number ticket
parts_of Pin = of_bare
parts_of (Unpin id) = of_number id
parts_of Collect = of_bare
parts_of Listing = of_bare

-- the command of the same kind that names these
abbrev with_parts : Command → Parts → Command
with_parts (Ingest writes) p = Ingest p.writes
with_parts (Get key None) p = Get p.key None
with_parts (Get key (Some id)) p = Get p.key (Some p.number)
with_parts Snapshot p = Snapshot
with_parts (Release id) p = Release p.number
with_parts Reserve p = Reserve
with_parts (ReserveRange level from to) p = ReserveRange p.level p.key p.to
with_parts (Merge ticket) p = Merge p.number
with_parts (Install ticket) p = Install p.number
with_parts (Cancel ticket) p = Cancel p.number
with_parts Pin p = Pin
with_parts (Unpin id) p = Unpin p.number
with_parts Collect p = Collect
with_parts Listing p = Listing

abbrev get_kind : List (List ℕ) → Command
get_kind [] = Listing
get_kind (k ∷ []) = Get [] None
get_kind (k ∷ i ∷ ws) = Get [] (Some 0)

abbrev reserve_kind : List (List ℕ) → Command
reserve_kind [] = Reserve
reserve_kind (l ∷ ws) = ReserveRange 0 [] []

-- by the first word and the number of words; `list` stands for all others
abbrev kind_of : List (List ℕ) → Command
kind_of [] = Listing
kind_of (name ∷ ws) =
    if bytes_eq name (codes "ingest") then Ingest []
    else if bytes_eq name (codes "get") then get_kind ws
    else if bytes_eq name (codes "snapshot") then Snapshot
    else if bytes_eq name (codes "release") then Release 0
    else if bytes_eq name (codes "reserve") then reserve_kind ws
    else if bytes_eq name (codes "merge") then Merge 0
    else if bytes_eq name (codes "install") then Install 0
    else if bytes_eq name (codes "cancel") then Cancel 0
    else if bytes_eq name (codes "pin") then Pin
    else if bytes_eq name (codes "unpin") then Unpin 0
    else if bytes_eq name (codes "collect") then Collect
    else Listing

kind_is : (f : Form) (ws : List (List ℕ)) (c : Command) → IsCommand f ws c → c ≡ with_parts (kind_of ws) (parts_of c)
kind_is f ws (Ingest writes) h = rw (h.1) refl
kind_is f ws (Get key None) h = rw (h.1) refl
kind_is f ws (Get key (Some id)) h = rw (h.2) refl
kind_is f ws Snapshot h = rw h refl
kind_is f ws (Release id) h = rw (h.1) refl
kind_is f ws Reserve h = rw h refl
kind_is f ws (ReserveRange level from to) h = rw (h.3) refl
kind_is f ws (Merge ticket) h = rw (h.1) refl
kind_is f ws (Install ticket) h = rw (h.1) refl
kind_is f ws (Cancel ticket) h = rw (h.1) refl
kind_is f ws Pin h = rw h refl
kind_is f ws (Unpin id) h = rw (h.1) refl
kind_is f ws Collect h = rw h refl
kind_is f ws Listing h = rw h refl

-- ---- words spell one of a kind at most

-- a place in words has one word
word_at : (i : ℕ) (ws us vs : List (List ℕ)) → ws ≡ us → ws ≡ vs → get_or us i [] ≡ get_or vs i []
word_at i ws us vs h k = ap (λ (xs : List (List ℕ)). get_or xs i []) (sym h ∙ k)

key_one : (f : Form) (v w a b : List ℕ) → v ≡ w → IsWord f v a → IsWord f w b → a ≡ b
key_one f v w a b e h k = word_one f w a b (subst (λ (x : List ℕ). IsWord f x a) e h) k

number_one : (m : ℕ) (v w : List ℕ) (a b : ℕ) → v ≡ w → IsNumberWord m v a → IsNumberWord m w b → a ≡ b
number_one m v w a b e h k = sym h.value ∙ ap (digits_value 10) e ∙ k.value

numbered_one : (name : List ℕ) (m : ℕ) (ws : List (List ℕ)) (a b : ℕ) → IsNumbered name m ws a → IsNumbered name m ws b → a ≡ b
numbered_one name m ws a b h k = number_one m h.0 k.0 a b (word_at 1 ws (name ∷ h.0 ∷ []) (name ∷ k.0 ∷ []) h.1 k.1) h.2 k.2

ingest_one : (f : Form) (ws : List (List ℕ)) (a b : List Write) → IsCommand f ws (Ingest a) → IsCommand f ws (Ingest b) → a ≡ b
ingest_one f ws a b h k =
    let same : h.0 ≡ k.0 = ap (λ (xs : List (List ℕ)). drop 1 xs) (sym h.1 ∙ k.1) in
    lines_one f k.0 a b (subst (λ (ls : List (List ℕ)). AreWriteLines f ls a) same h.2) k.2

get_one : (f : Form) (ws : List (List ℕ)) (a b : List ℕ) → IsCommand f ws (Get a None) → IsCommand f ws (Get b None) → a ≡ b
get_one f ws a b h k = key_one f h.0 k.0 a b (word_at 1 ws (codes "get" ∷ h.0 ∷ []) (codes "get" ∷ k.0 ∷ []) h.1 k.1) h.2 k.2

get_at_one : (f : Form) (ws : List (List ℕ)) (a b : List ℕ) (m n : ℕ) → IsCommand f ws (Get a (Some m)) → IsCommand f ws (Get b (Some n)) → (a ≡ b) × (m ≡ n)
get_at_one f ws a b m n h k =
    let us = codes "get" ∷ h.0 ∷ h.1 ∷ [] in
    let vs = codes "get" ∷ k.0 ∷ k.1 ∷ [] in
    (key_one f h.0 k.0 a b (word_at 1 ws us vs h.2 k.2) h.3 k.3, number_one most h.1 k.1 m n (word_at 2 ws us vs h.2 k.2) h.4 k.4)

range_one : (f : Form) (ws : List (List ℕ)) (l m : ℕ) (a b x y : List ℕ) → IsCommand f ws (ReserveRange l a x) → IsCommand f ws (ReserveRange m b y)
    → (l ≡ m) × (a ≡ b) × (x ≡ y)
range_one f ws l m a b x y h k =
    let us = codes "reserve" ∷ h.0 ∷ h.1 ∷ h.2 ∷ [] in
    let vs = codes "reserve" ∷ k.0 ∷ k.1 ∷ k.2 ∷ [] in (
      number_one 255 h.0 k.0 l m (word_at 1 ws us vs h.3 k.3) h.4 k.4,
      key_one f h.1 k.1 a b (word_at 2 ws us vs h.3 k.3) h.5 k.5,
      key_one f h.2 k.2 x y (word_at 3 ws us vs h.3 k.3) h.6 k.6,
    )

one_of_kind : (f : Form) (kind : Command) (ws : List (List ℕ)) (p q : Parts) → IsCommand f ws (with_parts kind p) → IsCommand f ws (with_parts kind q)
    → with_parts kind p ≡ with_parts kind q
one_of_kind f (Ingest writes) ws p q h k = ap Ingest (ingest_one f ws p.writes q.writes h k)
one_of_kind f (Get key None) ws p q h k = ap (λ (x : List ℕ). Get x None) (get_one f ws p.key q.key h k)
one_of_kind f (Get key (Some id)) ws p q h k =
    let same = get_at_one f ws p.key q.key p.number q.number h k in
    λ i. Get (same.0 i) (Some (same.1 i))
one_of_kind f Snapshot ws p q h k = refl
one_of_kind f (Release id) ws p q h k = ap Release (numbered_one (codes "release") most ws p.number q.number h k)
one_of_kind f Reserve ws p q h k = refl
one_of_kind f (ReserveRange level from to) ws p q h k =
    let same = range_one f ws p.level q.level p.key q.key p.to q.to h k in
    λ i. ReserveRange (same.0 i) (same.1 i) (same.2 i)
one_of_kind f (Merge ticket) ws p q h k = ap Merge (numbered_one (codes "merge") most ws p.number q.number h k)
one_of_kind f (Install ticket) ws p q h k = ap Install (numbered_one (codes "install") most ws p.number q.number h k)
one_of_kind f (Cancel ticket) ws p q h k = ap Cancel (numbered_one (codes "cancel") most ws p.number q.number h k)
one_of_kind f Pin ws p q h k = refl
one_of_kind f (Unpin id) ws p q h k = ap Unpin (numbered_one (codes "unpin") 4294967295 ws p.number q.number h k)
one_of_kind f Collect ws p q h k = refl
one_of_kind f Listing ws p q h k = refl

command_one : (f : Form) (ws : List (List ℕ)) (c d : Command) → IsCommand f ws c → IsCommand f ws d → c ≡ d
command_one f ws c d h k =
    let left = kind_is f ws c h in
    let right = kind_is f ws d k in
    let same = one_of_kind f (kind_of ws) ws (parts_of c) (parts_of d) (subst (λ (x : Command). IsCommand f ws x) left h) (subst (λ (x : Command). IsCommand f ws x) right k) in
    left ∙ same ∙ sym right

-- ---- line by line

commands_one : (ls : List (List ℕ)) (a b : List Command) → AreCommandLines ls a → AreCommandLines ls b → a ≡ b
commands_one [] [] [] h k = refl
commands_one [] [] (d ∷ b) h k = absurd k
commands_one [] (c ∷ a) b h k = absurd h
commands_one (l ∷ ls) [] b h k = absurd h
commands_one (l ∷ ls) (c ∷ a) [] h k = absurd k
commands_one (l ∷ ls) (c ∷ a) (d ∷ b) h k =
    ap (λ (x : Command). x ∷ a) (command_one Hex (words_of l) c d h.0 k.0) ∙ ap (λ (xs : List Command). d ∷ xs) (commands_one ls a b h.1 k.1)

pub script_one : (text : List ℕ) (a b : List Command) → IsScript text a → IsScript text b → a ≡ b
script_one text a b h k = commands_one (lines_of text) a b h k
