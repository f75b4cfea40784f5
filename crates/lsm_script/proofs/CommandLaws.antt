-- What words ask for, by their number and their first one.
use Rattle.std.proofs.Common.{◌≡◌, ◌≢◌, ℕ, ◌+◌, ◌-◌, ◌<◌, ◌≤◌, List, [], ◌∷◌, ◌++◌, length, get_or, take, drop, codes, Option, Some, None, sym, ap, ◌∙◌, subst, arith}
use Rattle.std.specs.Prelude.{IfNone, IfSome}
use Rattle.std.proofs.lemmas.List.{take_more, take_all, length-map, length-drop, get_or-map}
use Rattle.lsm_batch.specs.declared.write.Write.{Write}
use Rattle.lsm_script.specs.declared.command.Command.{Command}
use Rattle.lsm_script.specs.declared.command.Command.TheVariants.{Ingest, Get, Snapshot, Release, Reserve, ReserveRange, Merge, Install, Cancel, Pin, Unpin, Collect, List as Listing}
use Rattle.lsm_text.specs.declared.form.Form.{Form}
use Rattle.lsm_text.specs.BatchText.{AreWriteLines, IsWriteLine}
use Rattle.lsm_script.specs.CommandLine.{HasNumber, IsBare, IsCommand, IsNumbered}
use Rattle.lsm_text.specs.Numbers.{IsNumberWord}
use Rattle.lsm_script.proofs.WordLaws.{Word, blank, more_texts, texts, two_texts}

-- ---- a name and a number

pub numbered_some : (ws : List Word) (name : List ℕ) (m : ℕ) (r : Option ℕ) → 2 ≤ length ws → length ws < 3 → (get_or ws 0 blank).now ≡ name
    → IfSome r (IsNumberWord m (get_or ws 1 blank).now) → IfSome r (IsNumbered name m (texts ws))
numbered_some ws name m None low high e h = tt
numbered_some ws name m (Some n) low high e h =
    ((get_or ws 1 blank).now, two_texts ws low high ∙ ap (λ (x : List ℕ). x ∷ (get_or ws 1 blank).now ∷ []) e, h)

pub other_name : (ws : List Word) (name : List ℕ) (m n : ℕ) → 2 ≤ length ws → length ws < 3 → (get_or ws 0 blank).now ≢ name → IsNumbered name m (texts ws) n → ⊥
other_name ws name m n low high other h =
    let same : (get_or ws 0 blank).now ∷ (get_or ws 1 blank).now ∷ [] ≡ name ∷ h.0 ∷ [] = sym (two_texts ws low high) ∙ h.1 in
    other (ap (λ (xs : List (List ℕ)). get_or xs 0 []) same)

-- ---- no command at all

pub no_numbered : (f : Form) (ws : List (List ℕ)) → ((n : ℕ) → IsCommand f ws (Release n) → ⊥) → ((n : ℕ) → IsCommand f ws (Merge n) → ⊥)
    → ((n : ℕ) → IsCommand f ws (Install n) → ⊥) → ((n : ℕ) → IsCommand f ws (Cancel n) → ⊥) → ((n : ℕ) → IsCommand f ws (Unpin n) → ⊥)
    → (c : Command) → HasNumber c → IsCommand f ws c → ⊥
no_numbered f ws a b d e g (Ingest writes) h k = h
no_numbered f ws a b d e g (Get key at) h k = h
no_numbered f ws a b d e g Snapshot h k = h
no_numbered f ws a b d e g (Release n) h k = a n k
no_numbered f ws a b d e g Reserve h k = h
no_numbered f ws a b d e g (ReserveRange level from to) h k = h
no_numbered f ws a b d e g (Merge n) h k = b n k
no_numbered f ws a b d e g (Install n) h k = d n k
no_numbered f ws a b d e g (Cancel n) h k = e n k
no_numbered f ws a b d e g Pin h k = h
no_numbered f ws a b d e g (Unpin n) h k = g n k
no_numbered f ws a b d e g Collect h k = h
no_numbered f ws a b d e g Listing h k = h

pub no_command : (f : Form) (ws : List (List ℕ)) → ((c : Command) → IsBare c → IsCommand f ws c → ⊥) → ((c : Command) → HasNumber c → IsCommand f ws c → ⊥)
    → ((key : List ℕ) → IsCommand f ws (Get key None) → ⊥) → ((key : List ℕ) (id : ℕ) → IsCommand f ws (Get key (Some id)) → ⊥)
    → ((level : ℕ) (from to : List ℕ) → IsCommand f ws (ReserveRange level from to) → ⊥) → ((writes : List Write) → IsCommand f ws (Ingest writes) → ⊥)
    → (c : Command) → IsCommand f ws c → ⊥
no_command f ws bare numbered get at range ingest (Ingest writes) k = ingest writes k
no_command f ws bare numbered get at range ingest (Get key None) k = get key k
no_command f ws bare numbered get at range ingest (Get key (Some id)) k = at key id k
no_command f ws bare numbered get at range ingest Snapshot k = bare Snapshot tt k
no_command f ws bare numbered get at range ingest (Release n) k = numbered (Release n) tt k
no_command f ws bare numbered get at range ingest Reserve k = bare Reserve tt k
no_command f ws bare numbered get at range ingest (ReserveRange level from to) k = range level from to k
no_command f ws bare numbered get at range ingest (Merge n) k = numbered (Merge n) tt k
no_command f ws bare numbered get at range ingest (Install n) k = numbered (Install n) tt k
no_command f ws bare numbered get at range ingest (Cancel n) k = numbered (Cancel n) tt k
no_command f ws bare numbered get at range ingest Pin k = bare Pin tt k
no_command f ws bare numbered get at range ingest (Unpin n) k = numbered (Unpin n) tt k
no_command f ws bare numbered get at range ingest Collect k = bare Collect tt k
no_command f ws bare numbered get at range ingest Listing k = bare Listing tt k

-- the last look, at a batch
pub last_look : {E : Type 0} (f : Form) (ws : List (List ℕ)) (r : Rattle.std.specs.Prelude.Result (Option Command) E) → ((c : Command) → IsBare c → IsCommand f ws c → ⊥)
    → ((c : Command) → HasNumber c → IsCommand f ws c → ⊥)
    → ((key : List ℕ) → IsCommand f ws (Get key None) → ⊥) → ((key : List ℕ) (id : ℕ) → IsCommand f ws (Get key (Some id)) → ⊥)
    → ((level : ℕ) (from to : List ℕ) → IsCommand f ws (ReserveRange level from to) → ⊥)
    → Rattle.std.specs.Prelude.IfOk r (λ o. IfNone o ((writes : List Write) → IsCommand f ws (Ingest writes) → ⊥))
    → Rattle.std.specs.Prelude.IfOk r (λ o. IfNone o ((c : Command) → IsCommand f ws c → ⊥))
last_look f ws (Rattle.std.specs.Prelude.Ok None) bare numbered get at range ingest = no_command f ws bare numbered get at range ingest
last_look f ws (Rattle.std.specs.Prelude.Ok (Some c)) bare numbered get at range ingest = tt
last_look f ws (Rattle.std.specs.Prelude.Err e) bare numbered get at range ingest = tt

-- ---- batches

-- the words behind the first one
pub later_words : {X : Type 0} (xs : List X) → take (length xs - 1) (drop 1 xs) ≡ drop 1 xs
later_words xs = take_all (length xs - 1) (drop 1 xs) (omega (arith, length-drop 1 xs))

pub ingest_some : (f : Form) (ws keys : List Word) (batch : List Write) → 1 ≤ length ws → (get_or ws 0 blank).now ≡ codes "ingest" → AreWriteLines f (texts keys) batch
    → keys ≡ drop 1 ws → IsCommand f (texts ws) (Ingest batch)
ingest_some f ws keys batch low name h same =
    (texts keys, more_texts ws low ∙ ap (λ (x : List ℕ). x ∷ texts (drop 1 ws)) name ∙ ap (λ (k : List Word). codes "ingest" ∷ texts k) (sym same), h)

lines_snoc : (f : Form) (ls : List (List ℕ)) (ws : List Write) (l : List ℕ) (w : Write) → AreWriteLines f ls ws → IsWriteLine f l w → AreWriteLines f (ls ++ l ∷ []) (ws ++ w ∷ [])
lines_snoc f [] [] l w h k = (k, tt)
lines_snoc f [] (x ∷ ws) l w h k = absurd h
lines_snoc f (x ∷ ls) [] l w h k = absurd h
lines_snoc f (x ∷ ls) (y ∷ ws) l w h k = (h.0, lines_snoc f ls ws l w h.1 k)

text_at : (words : List Word) (i : ℕ) → i < length words → get_or (texts words) i [] ≡ (get_or words i blank).now
text_at words i h = get_or-map (λ (w : Word). w.now) words i blank [] h

pub writes_more : (f : Form) (words : List Word) (i : ℕ) (ws : List Write) (w : Write) → i < length words → AreWriteLines f (take i (texts words)) ws
    → IsWriteLine f (get_or words i blank).now w → AreWriteLines f (take (i + 1) (texts words)) (ws ++ w ∷ [])
writes_more f words i ws w inside h spells =
    let within : i < length (texts words) = omega (arith, inside, length-map words (λ (x : Word). x.now)) in
    let longer : take i (texts words) ++ (get_or words i blank).now ∷ [] ≡ take (i + 1) (texts words) =
    ap (λ (l : List ℕ). take i (texts words) ++ (l ∷ [])) (sym (text_at words i inside)) ∙ sym (take_more (texts words) i [] within) in
    subst (λ (ls : List (List ℕ)). AreWriteLines f ls (ws ++ w ∷ [])) longer (lines_snoc f (take i (texts words)) ws (get_or words i blank).now w h spells)

pub writes_all : (f : Form) (words : List Word) (i : ℕ) (ws : List Write) → length words ≤ i → AreWriteLines f (take i (texts words)) ws → AreWriteLines f (texts words) ws
writes_all f words i ws end h =
    let over : length (texts words) ≤ i = omega (arith, end, length-map words (λ (x : Word). x.now)) in
    subst (λ (ls : List (List ℕ)). AreWriteLines f ls ws) (take_all i (texts words) over) h

-- one line spells no write
no_line : (f : Form) (ls : List (List ℕ)) (i : ℕ) (ws : List Write) → i < length ls → AreWriteLines f ls ws → (w : Write) × IsWriteLine f (get_or ls i []) w
no_line f [] i ws inside h = absurd (omega (arith, inside))
no_line f (l ∷ ls) i [] inside h = absurd h
no_line f (l ∷ ls) Rattle.std.specs.Prelude.zero (w ∷ ws) inside h = (w, h.0)
no_line f (l ∷ ls) (Rattle.std.specs.Prelude.suc i) (w ∷ ws) inside h = no_line f ls i ws (omega (arith, inside)) h.1

pub no_batch : (f : Form) (words : List Word) (i : ℕ) (ws : List Write) → i < length words → ((w : Write) → IsWriteLine f (get_or words i blank).now w → ⊥)
    → AreWriteLines f (texts words) ws → ⊥
no_batch f words i ws inside bad h =
    let within : i < length (texts words) = omega (arith, inside, length-map words (λ (x : Word). x.now)) in
    let found = no_line f (texts words) i ws within h in
    bad found.0 (subst (λ (l : List ℕ). IsWriteLine f l found.0) (text_at words i inside) found.1)
