-- The commands that a conversation did, by its lines (this project's rule).
use Rattle.std.specs.Prelude.{◌≡◌, ◌⊎◌, ⊤, List, [], ◌∷◌, ◌++◌, All, Option, Some, None, ℕ}
use Rattle.lsm_batch.specs.declared.write.Write.{Write}
use Rattle.lsm_lines.specs.LastWrites.{KeepsLast}
use Rattle.lsm_text.specs.declared.form.Form.{Form}
use Rattle.lsm_script.specs.declared.command.Command.{Command}
use Rattle.lsm_script.specs.declared.command.Command.TheVariants.{Ingest, Reserve, Merge, Install}
use Rattle.lsm_script.specs.declared.command.Command.TheVariants.{Cancel, Collect}
use Rattle.lsm_cmd_shell.specs.Asks.{IsAsk}
use Rattle.lsm_cmd_shell.specs.declared.ask.Ask.{Ask}
use Rattle.lsm_cmd_shell.specs.declared.ask.Ask.TheVariants.{Do, Put, Begin, Commit, Abort, Compact}

-- a command of a compaction
abbrev pub IsUpkeep : Command → Type 0
IsUpkeep Reserve = ⊤
IsUpkeep (Merge ticket) = ⊤
IsUpkeep (Install ticket) = ⊤
IsUpkeep (Cancel ticket) = ⊤
IsUpkeep Collect = ⊤
IsUpkeep command = ⊥

-- What an ask does: its commands, and what it makes of the writes of the batch that is begun.
-- Outside of a batch `put` and `delete` are a batch of one write; in it they are one more write.
-- `commit` brings in the last write of each key.
abbrev pub Makes : Ask → (old new : Option (List Write)) → List Command → Type 0
Makes (Do c) old new cs = (cs ≡ c ∷ []) × (new ≡ old)
Makes (Put w) None new cs = (cs ≡ Ingest (w ∷ []) ∷ []) × (new ≡ None)
Makes (Put w) (Some ws) new cs = (cs ≡ []) × (new ≡ Some (ws ++ w ∷ []))
Makes Begin old new cs = (cs ≡ []) × (old ≡ None) × (new ≡ Some [])
Makes Commit None new cs = ⊥
Makes Commit (Some ws) new cs =
    (new ≡ None) × ((cs ≡ []) ⊎ ((batch : List Write) × KeepsLast ws batch
    × (cs ≡ Ingest batch ∷ [])))
Makes Abort old new cs = (cs ≡ []) × (new ≡ None)
Makes Compact old new cs = All IsUpkeep cs × (new ≡ old)
Makes ask old new cs = (cs ≡ []) × (new ≡ old)

-- the line did what it asks for, or nothing
abbrev pub IsDone : Form → List ℕ → (old new : Option (List Write)) → List Command → Type 0
IsDone form line old new cs = ((cs ≡ []) × (new ≡ old))
    ⊎ ((a : Ask) × IsAsk form line a × Makes a old new cs)

-- Lines did these commands, in their order, where the writes of this batch were begun before them.
abbrev pub AreDone : Form → Option (List Write) → List (List ℕ) → List Command → Type 0
AreDone form begun [] commands = commands ≡ []
AreDone form begun (line ∷ lines) commands =
    (now : Option (List Write)) × (front : List Command) × (back : List Command)
    × (commands ≡ front ++ back) × IsDone form line begun now front
    × AreDone form now lines back
