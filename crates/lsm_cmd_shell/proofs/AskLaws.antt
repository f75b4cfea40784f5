-- What a line asks for, look by look.
use Rattle.std.proofs.Common.{◌≡◌, ℕ, List, codes, Option, Some, None, sym, subst, inl, inr}
use Rattle.std.specs.Prelude.{IfNone, IfOk, IfSome, Result, Ok, Err}
use Rattle.lsm_batch.specs.declared.write.Write.{Write}
use Rattle.lsm_text.specs.declared.form.Form.{Form}
use Rattle.lsm_requests.specs.declared.key_bounds.KeyBounds.{KeyBounds}
use Rattle.lsm_script.specs.CommandLine.{IsCommandLine}
use Rattle.lsm_script.specs.Words.{words_of}
use Rattle.lsm_script.specs.declared.command.Command.{Command}
use Rattle.lsm_cmd_shell.specs.Asks.{IsAsk, IsBare, IsDelete, IsOneWrite, IsOther, IsPut, IsScanWords}
use Rattle.lsm_cmd_shell.specs.declared.ask.Ask.{Ask}
use Rattle.lsm_cmd_shell.specs.declared.ask.Ask.TheVariants.{Do, Put, Scan, Begin, Commit, Abort, Compact, Stats, Help}

-- ---- one write

pub delete_writes : {E : Type 0} (form : Form) (words : List (List ℕ)) (r : Result (Option Write) E) → IfOk r (λ o. IfSome o (IsDelete form words)) → IfOk r (λ o. IfSome o (IsOneWrite form words))
delete_writes form words (Ok None) h = tt
delete_writes form words (Ok (Some w)) h = inr h
delete_writes form words (Err e) h = tt

no_write : (form : Form) (words : List (List ℕ)) → ((w : Write) → IsPut form words w → ⊥) → ((w : Write) → IsDelete form words w → ⊥) → (w : Write) → IsOneWrite form words w → ⊥
no_write form words put delete w (inl h) = put w h
no_write form words put delete w (inr h) = delete w h

pub none_writes : {E : Type 0} (form : Form) (words : List (List ℕ)) (r : Result (Option Write) E) → ((w : Write) → IsPut form words w → ⊥)
    → IfOk r (λ o. IfNone o ((w : Write) → IsDelete form words w → ⊥)) → IfOk r (λ o. IfNone o ((w : Write) → IsOneWrite form words w → ⊥))
none_writes form words (Ok None) put h = no_write form words put h
none_writes form words (Ok (Some w)) put h = tt
none_writes form words (Err e) put h = tt

-- ---- any line

pub no_other : (form : Form) (line : List ℕ) (words : List (List ℕ)) → words ≡ words_of line → ((w : Write) → IsOneWrite form words w → ⊥) → ((b : KeyBounds) (n : Option ℕ) → IsScanWords form words b n → ⊥)
    → (a : Ask) → IsOther form line a → ⊥
no_other form line words e write scan (Do c) h = h
no_other form line words e write scan (Put w) h = write w (subst (λ (ws : List (List ℕ)). IsOneWrite form ws w) (sym e) h)
no_other form line words e write scan (Scan b n) h = scan b n (subst (λ (ws : List (List ℕ)). IsScanWords form ws b n) (sym e) h)
no_other form line words e write scan Begin h = h
no_other form line words e write scan Commit h = h
no_other form line words e write scan Abort h = h
no_other form line words e write scan Compact h = h
no_other form line words e write scan Stats h = h
no_other form line words e write scan Help h = h

pub no_bare : (line : List ℕ) → (line ≡ codes "begin" → ⊥) → (line ≡ codes "commit" → ⊥) → (line ≡ codes "abort" → ⊥) → (line ≡ codes "compact" → ⊥) → (line ≡ codes "stats" → ⊥) → (line ≡ codes "help" → ⊥)
    → (form : Form) (a : Ask) → IsBare a → IsAsk form line a → ⊥
no_bare line begin commit abort compact stats help form (Do c) b h = b
no_bare line begin commit abort compact stats help form (Put w) b h = b
no_bare line begin commit abort compact stats help form (Scan k n) b h = b
no_bare line begin commit abort compact stats help form Begin b h = begin h
no_bare line begin commit abort compact stats help form Commit b h = commit h
no_bare line begin commit abort compact stats help form Abort b h = abort h
no_bare line begin commit abort compact stats help form Compact b h = compact h
no_bare line begin commit abort compact stats help form Stats b h = stats h
no_bare line begin commit abort compact stats help form Help b h = help h

no_ask : (form : Form) (line : List ℕ) → ((a : Ask) → IsBare a → IsAsk form line a → ⊥) → ((c : Command) → IsCommandLine form line c → ⊥) → ((a : Ask) → IsOther form line a → ⊥) → (a : Ask) → IsAsk form line a → ⊥
no_ask form line bare command other (Do c) h = command c h
no_ask form line bare command other (Put w) h = other (Put w) h
no_ask form line bare command other (Scan b n) h = other (Scan b n) h
no_ask form line bare command other Begin h = bare Begin tt h
no_ask form line bare command other Commit h = bare Commit tt h
no_ask form line bare command other Abort h = bare Abort tt h
no_ask form line bare command other Compact h = bare Compact tt h
no_ask form line bare command other Stats h = bare Stats tt h
no_ask form line bare command other Help h = bare Help tt h

-- an ask that several words spell
other_asks : (form : Form) (line : List ℕ) (a : Ask) → IsOther form line a → IsAsk form line a
other_asks form line (Do c) h = absurd h
other_asks form line (Put w) h = h
other_asks form line (Scan b n) h = h
other_asks form line Begin h = absurd h
other_asks form line Commit h = absurd h
other_asks form line Abort h = absurd h
other_asks form line Compact h = absurd h
other_asks form line Stats h = absurd h
other_asks form line Help h = absurd h

pub last_asks : {E : Type 0} (form : Form) (line : List ℕ) (r : Result (Option Ask) E) → IfOk r (λ o. IfSome o (IsOther form line)) → IfOk r (λ o. IfSome o (IsAsk form line))
last_asks form line (Ok None) h = tt
last_asks form line (Ok (Some a)) h = other_asks form line a h
last_asks form line (Err e) h = tt

pub last_look : {E : Type 0} (form : Form) (line : List ℕ) (r : Result (Option Ask) E) → ((a : Ask) → IsBare a → IsAsk form line a → ⊥) → ((c : Command) → IsCommandLine form line c → ⊥)
    → IfOk r (λ o. IfNone o ((a : Ask) → IsOther form line a → ⊥)) → IfOk r (λ o. IfNone o ((a : Ask) → IsAsk form line a → ⊥))
last_look form line (Ok None) bare command other = no_ask form line bare command other
last_look form line (Ok (Some a)) bare command other = tt
last_look form line (Err e) bare command other = tt
