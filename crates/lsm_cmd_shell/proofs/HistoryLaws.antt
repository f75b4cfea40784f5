-- The commands of a conversation.
use Rattle.std.proofs.Common.{◌≡◌, ◌∙◌, ℕ, zero, suc, List, [], ◌∷◌, ◌++◌, Option, Some, None, refl, ap, subst, inl, inr}
use Rattle.std.specs.Prelude.{◌⊎◌, All}
use Rattle.std.proofs.lemmas.List.Elements.{All-append, All-cons, All-nil}
use Rattle.lsm_batch.specs.declared.write.Write.{Write}
use Rattle.lsm_shelf.specs.Told.{Told}
use Rattle.lsm_text.specs.declared.form.Form.{Form}
use Rattle.lsm_script.specs.Scripts.{AreSteps}
use Rattle.lsm_script.specs.Steps.{IsLaterStep, IsStep, Stage}
use Rattle.lsm_script.specs.declared.command.Command.{Command}
use Rattle.lsm_script.specs.declared.command.Command.TheVariants.{Ingest, Reserve, Merge, Install, Cancel, Collect}
use Rattle.lsm_script.specs.declared.command_fault.CommandFault.{CommandFault}
use Rattle.lsm_script.specs.declared.reply.Reply.{Reply}
use Rattle.lsm_script.specs.declared.reply.Reply.TheVariants.{Refused}
use Rattle.lsm_cmd_shell.specs.Asked.{AreDone, IsDone, IsUpkeep, Makes}
use Rattle.lsm_cmd_shell.specs.Asks.{IsAsk}
use Rattle.lsm_cmd_shell.specs.Batching.{IsAbort, IsBegin, IsCommitReply, IsPutReply, Standing}
use Rattle.lsm_cmd_shell.specs.Rounds.{AreRounds, Ends, IsCompacted, IsFinished, IsRefusedRound, IsRound, IsUncompacted, IsUnfinished, NoneIsDue}
use Rattle.lsm_cmd_shell.specs.Said.{Said}
use Rattle.lsm_cmd_shell.specs.Talk.{AreReplied, IsCompactReply, IsReplied, Obeys, Obeyed, Bad, Long, Spent}
use Rattle.lsm_cmd_shell.specs.declared.ask.Ask.{Ask}
use Rattle.lsm_cmd_shell.specs.declared.ask.Ask.TheVariants.{Do, Put, Scan, Begin, Commit, Abort, Compact, Stats, Help}

-- ---- steps

-- The steps lead there, but for what the shelf was told behind the last one.
abbrev pub Leads : Type 0 → List Command → List Reply → Stage → Stage → Type 0
Leads honest cs rs s t = (u : Stage) × AreSteps (IsLaterStep honest) cs rs s u × (t ≡ record u { told = t.told })

-- whatever the shelf was told before the first one
retold : (honest : Type 0) (cs : List Command) (rs : List Reply) (s : Stage) (told : Told) (t : Stage) → Leads honest cs rs (record s { told = told }) t → Leads honest cs rs s t
retold honest [] [] s told t (u, same, e) = (s, refl, subst (λ (x : Stage). t ≡ record x { told = t.told }) same e)
retold honest [] (r ∷ rs) s told t (u, steps, e) = absurd steps
retold honest (c ∷ cs) [] s told t (u, steps, e) = absurd steps
retold honest (c ∷ cs) (r ∷ rs) s told t (u, steps, e) = (u, steps, e)

-- no step
no_step : (honest : Type 0) (s t : Stage) → t ≡ s → Leads honest [] [] s t
no_step honest s t same = (s, refl, subst (λ (x : Stage). t ≡ record x { told = t.told }) same refl)

one_step : (honest : Type 0) (c : Command) (r : Reply) (s t : Stage) → IsStep honest c r s t → Leads honest (c ∷ []) (r ∷ []) s t
one_step honest c r s t step = (t, (t, (s.told, step), refl), refl)

steps_then : (honest : Type 0) (cs : List Command) (rs : List Reply) (ds : List Command) (qs : List Reply) (s m t : Stage) → AreSteps (IsLaterStep honest) cs rs s m → Leads honest ds qs m t
    → Leads honest (cs ++ ds) (rs ++ qs) s t
steps_then honest [] [] ds qs s m t same k = subst (λ (x : Stage). Leads honest ds qs x t) same k
steps_then honest [] (r ∷ rs) ds qs s m t steps k = absurd steps
steps_then honest (c ∷ cs) [] ds qs s m t steps k = absurd steps
steps_then honest (c ∷ cs) (r ∷ rs) ds qs s m t (mid, step, steps) k =
    let later = steps_then honest cs rs ds qs mid m t steps k in
    (later.0, (mid, step, later.1), later.2)

leads_then : (honest : Type 0) (cs : List Command) (rs : List Reply) (ds : List Command) (qs : List Reply) (s m t : Stage) → Leads honest cs rs s m → Leads honest ds qs m t
    → Leads honest (cs ++ ds) (rs ++ qs) s t
leads_then honest cs rs ds qs s m t (u, steps, e) k = steps_then honest cs rs ds qs s u t steps (retold honest ds qs u m.told t (subst (λ (x : Stage). Leads honest ds qs x t) e k))

-- ---- compactions

-- commands of compactions lead there
abbrev pub Keeps : Type 0 → Stage → Stage → Type 0
Keeps honest s t = (cs : List Command) × (rs : List Reply) × All IsUpkeep cs × Leads honest cs rs s t

keeps_none : (honest : Type 0) (s t : Stage) → t ≡ s → Keeps honest s t
keeps_none honest s t same = ([], [], All-nil IsUpkeep, no_step honest s t same)

keeps_one : (honest : Type 0) (c : Command) (r : Reply) (s t : Stage) → IsUpkeep c → IsStep honest c r s t → Keeps honest s t
keeps_one honest c r s t upkeep step = (c ∷ [], r ∷ [], All-cons IsUpkeep c [] upkeep (All-nil IsUpkeep), one_step honest c r s t step)

keeps_then : (honest : Type 0) (s m t : Stage) → Keeps honest s m → Keeps honest m t → Keeps honest s t
keeps_then honest s m t (cs, rs, all, leads) (ds, qs, more, later) = (cs ++ ds, rs ++ qs, All-append IsUpkeep cs ds all more, leads_then honest cs rs ds qs s m t leads later)

finished : (honest : Type 0) (ticket : ℕ) (s t : Stage) → IsFinished honest ticket s t → Keeps honest s t
finished honest ticket s t (m, (a, merged, well), (b, installed, none)) = keeps_then honest s m t (keeps_one honest (Merge ticket) a s m tt merged) (keeps_one honest (Install ticket) b m t tt installed)

unfinished : (honest : Type 0) (ticket : ℕ) (e : CommandFault) (s t : Stage) → IsUnfinished honest ticket e s t → Keeps honest s t
unfinished honest ticket e s t (inl refused) = keeps_one honest (Merge ticket) (Refused e) s t tt refused
unfinished honest ticket e s t (inr (m, (a, merged, well), refused)) =
    keeps_then honest s m t (keeps_one honest (Merge ticket) a s m tt merged) (keeps_one honest (Install ticket) (Refused e) m t tt refused)

round : (honest : Type 0) (s t : Stage) → IsRound honest s t → Keeps honest s t
round honest s t (ticket, m, (r, reserved, named), done) = keeps_then honest s m t (keeps_one honest Reserve r s m tt reserved) (finished honest ticket m t done)

refused_round : (honest : Type 0) (e : CommandFault) (s t : Stage) → IsRefusedRound honest e s t → Keeps honest s t
refused_round honest e s t (inl refused) = keeps_one honest Reserve (Refused e) s t tt refused
refused_round honest e s t (inr (ticket, m, (r, reserved, named), (k, q, not, cancelled))) =
    keeps_then honest s m t (keeps_one honest Reserve r s m tt reserved) (keeps_then honest m k t (unfinished honest ticket e m k not) (keeps_one honest (Cancel ticket) q k t tt cancelled))

rounds : (honest : Type 0) (n : ℕ) (s t : Stage) → AreRounds honest n s t → Keeps honest s t
rounds honest zero s t same = keeps_none honest s t same
rounds honest (suc n) s t (m, before, last) = keeps_then honest s m t (rounds honest n s m before) (round honest m t last)

none_due : (honest : Type 0) (s t : Stage) → NoneIsDue honest s t → Keeps honest s t
none_due honest s t (r, step, well, none) = keeps_one honest Reserve r s t tt step

compacted : (honest : Type 0) (n : ℕ) (s t : Stage) → IsCompacted honest n s t → Keeps honest s t
compacted honest n s t h =
    keeps_then honest s h.last t (rounds honest n s h.last h.rounds)
    (keeps_then honest h.last h.idle t (none_due honest h.last h.idle h.none) (keeps_one honest Collect h.collected.0 h.idle t tt h.collected.1))

ends : (honest : Type 0) (n : ℕ) (e : CommandFault) (s t : Stage) → Ends honest n e s t → Keeps honest s t
ends honest n e s t (inl refused) = refused_round honest e s t refused
ends honest n e s t (inr (inl (m, none, refused))) = keeps_then honest s m t (none_due honest s m none) (keeps_one honest Collect (Refused e) m t tt refused)
ends honest n e s t (inr (inr (many, spent, same))) = keeps_none honest s t same

uncompacted : (honest : Type 0) (e : CommandFault) (s t : Stage) → IsUncompacted honest e s t → Keeps honest s t
uncompacted honest e s t h = keeps_then honest s h.last t (rounds honest h.count s h.last h.rounds) (ends honest h.count e h.last t h.ends)

compact_reply : (honest : Type 0) (form : Form) (said : Said) (s t : Stage) → IsCompactReply honest form said s t → Keeps honest s t
compact_reply honest form said s t (inl (n, done, says)) = compacted honest n s t done
compact_reply honest form said s t (inr (e, not, says)) = uncompacted honest e s t not

-- ---- one line

-- nothing, or what is asked for
abbrev pub MakesOrNot : Ask → (old new : Option (List Write)) → List Command → Type 0
MakesOrNot a old new cs = ((cs ≡ []) × (new ≡ old)) ⊎ Makes a old new cs

abbrev pub Did : Type 0 → Ask → Option (List Write) → Option (List Write) → Stage → Stage → Type 0
Did honest a old new s t = (cs : List Command) × (rs : List Reply) × MakesOrNot a old new cs × Leads honest cs rs s t

put_did : (honest : Type 0) (form : Form) (w : Write) (old : Option (List Write)) (said : Said) (s t : Standing) → IsPutReply honest form w old said s t → Did honest (Put w) old t.begun s.stage t.stage
put_did honest form w None said s t (none, inl (batch, r, is, step, says)) =
    (Ingest batch ∷ [], r ∷ [], inr (ap (λ (ws : List Write). Ingest ws ∷ []) is, none), one_step honest (Ingest batch) r s.stage t.stage step)
put_did honest form w None said s t (none, inr (spent, same)) = ([], [], inl (refl, none), no_step honest s.stage t.stage same)
put_did honest form w (Some ws) said s t (same, (new, is, inl (put, says))) = ([], [], inr (refl, is ∙ ap Some put), no_step honest s.stage t.stage same)
put_did honest form w (Some ws) said s t (same, (new, is, inr (kept, says))) = ([], [], inl (refl, is ∙ ap Some kept), no_step honest s.stage t.stage same)

begin_did : (honest : Type 0) (old new : Option (List Write)) (said : Said) (s t : Stage) → t ≡ s → IsBegin old new said → Did honest Begin old new s t
begin_did honest None new said s t same (is, says) = ([], [], inr (refl, refl, is), no_step honest s t same)
begin_did honest (Some ws) new said s t same (is, says) = ([], [], inl (refl, is), no_step honest s t same)

abort_did : (honest : Type 0) (old new : Option (List Write)) (said : Said) (s t : Stage) → t ≡ s → IsAbort old new said → Did honest Abort old new s t
abort_did honest None new said s t same (is, says) = ([], [], inl (refl, is), no_step honest s t same)
abort_did honest (Some ws) new said s t same (is, says) = ([], [], inr (refl, is), no_step honest s t same)

commit_did : (honest : Type 0) (form : Form) (old : Option (List Write)) (said : Said) (s t : Standing) → IsCommitReply honest form old said s t → Did honest Commit old t.begun s.stage t.stage
commit_did honest form None said s t (none, says, same) = ([], [], inl (refl, none), no_step honest s.stage t.stage same)
commit_did honest form (Some ws) said s t (none, inl (batch, r, is, step, says)) =
    (Ingest batch ∷ [], r ∷ [], inr (none, inr (batch, is, refl)), one_step honest (Ingest batch) r s.stage t.stage step)
commit_did honest form (Some ws) said s t (none, inr (spent, same)) = ([], [], inr (none, inl refl), no_step honest s.stage t.stage same)

stood : (honest : Type 0) (a : Ask) (s t : Standing) → t ≡ s → Did honest a s.begun t.begun s.stage t.stage
stood honest a s t same = ([], [], inl (refl, ap (λ (x : Standing). x.begun) same), no_step honest s.stage t.stage (ap (λ (x : Standing). x.stage) same))

did : (honest : Type 0) (form : Form) (a : Ask) (said : Said) (s t : Standing) → Obeys honest form a said s t → Did honest a s.begun t.begun s.stage t.stage
did honest form (Do c) said s t (same, (r, step, says)) = (c ∷ [], r ∷ [], inr (refl, same), one_step honest c r s.stage t.stage step)
did honest form (Put w) said s t h = put_did honest form w s.begun said s t h
did honest form (Scan b n) said s t (same, scan) = ([], [], inl (refl, same), (s.stage, refl, scan.same))
did honest form Begin said s t (same, h) = begin_did honest s.begun t.begun said s.stage t.stage same h
did honest form Commit said s t h = commit_did honest form s.begun said s t h
did honest form Abort said s t (same, h) = abort_did honest s.begun t.begun said s.stage t.stage same h
did honest form Compact said s t (same, h) =
    let keeps = compact_reply honest form said s.stage t.stage h in
    (keeps.0, keeps.1, inr (keeps.2, same), keeps.3)
did honest form Stats said s t (same, h) = stood honest Stats s t same
did honest form Help said s t (same, h) = stood honest Help s t same

abbrev pub LineDid : Type 0 → Form → List ℕ → Standing → Standing → Type 0
LineDid honest form line s t = (cs : List Command) × (rs : List Reply) × IsDone form line s.begun t.begun cs × Leads honest cs rs s.stage t.stage

as_asked : (honest : Type 0) (form : Form) (line : List ℕ) (a : Ask) (s t : Standing) → IsAsk form line a → Did honest a s.begun t.begun s.stage t.stage → LineDid honest form line s t
as_asked honest form line a s t ask (cs, rs, inl none, leads) = (cs, rs, inl none, leads)
as_asked honest form line a s t ask (cs, rs, inr makes, leads) = (cs, rs, inr (a, ask, makes), leads)

nothing_done : (honest : Type 0) (form : Form) (line : List ℕ) (s t : Standing) → t ≡ s → LineDid honest form line s t
nothing_done honest form line s t same = ([], [], inl (refl, ap (λ (x : Standing). x.begun) same), no_step honest s.stage t.stage (ap (λ (x : Standing). x.stage) same))

pub one_line : (honest : Type 0) (form : Form) (line : List ℕ) (said : Said) (s t : Standing) → IsReplied honest form line said s t → LineDid honest form line s t
one_line honest form line said s t (Obeyed a ask h) = as_asked honest form line a s t ask (did honest form a said s t h)
one_line honest form line said s t (Bad none other e same) = nothing_done honest form line s t same
one_line honest form line said s t (Long over e same) = nothing_done honest form line s t same
one_line honest form line said s t (Spent e same) = nothing_done honest form line s t same

-- ---- line after line

abbrev pub Found : Type 0 → Form → List (List ℕ) → Standing → Standing → Type 0
Found honest form lines s t = (cs : List Command) × (rs : List Reply) × AreDone form s.begun lines cs × Leads honest cs rs s.stage t.stage

pub replied_steps : (honest : Type 0) (form : Form) (lines : List (List ℕ)) (said : List Said) (s t : Standing) → AreReplied honest form lines said s t → Found honest form lines s t
replied_steps honest form [] [] s t h = ([], [], refl, no_step honest s.stage t.stage (ap (λ (x : Standing). x.stage) h))
replied_steps honest form [] (x ∷ said) s t h = absurd h
replied_steps honest form (line ∷ lines) [] s t h = absurd h
replied_steps honest form (line ∷ lines) (x ∷ said) s t h =
    let one = one_line honest form line x s h.0 h.1 in
    let later = replied_steps honest form lines said h.0 t h.2 in
    (one.0 ++ later.0, one.1 ++ later.1, (h.0.begun, one.0, later.0, refl, one.2, later.2), leads_then honest one.0 one.1 later.0 later.1 s.stage h.0.stage t.stage one.3 later.3)
