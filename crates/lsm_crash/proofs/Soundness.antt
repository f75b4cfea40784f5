-- The version of each state in a run is sound where that of the first one is.
use Rattle.std.proofs.Common.{◌≡◌, ℕ, suc, ◌^◌, ◌<◌, List, [], ◌∷◌, length, sym, ◌∙◌, ap, subst, inl, inr}
use Rattle.atomic_table.specs.Seated.{TableId}
use Rattle.lsm_codec.specs.Lists.{Has}
use Rattle.lsm_codec.proofs.CallerLemmas.{has_flat}
use Rattle.lsm_shelf.specs.Asked.{Asked}
use Rattle.lsm_table.specs.Registry.{Table}
use Rattle.lsm_model.specs.Files.{File}
use Rattle.lsm_version.specs.Versions.{IsSound, IsWhole, Levels, files, level_in}
use Rattle.lsm_journal.specs.Difference.{Difference, changed_by}
use Rattle.lsm_state.specs.Held.{Held}
use Rattle.lsm_state.specs.Installing.{added_at}
use Rattle.lsm_state.specs.Ingesting.{coming_in, last_of}
use Rattle.lsm_crash.specs.Disk.{Disk}
use Rattle.lsm_crash.specs.Known.{IsSettled, World}
use Rattle.lsm_crash.specs.States.{IsWorldOf}
use Rattle.lsm_crash.specs.Database.{Answered, Asks, Builds, Collect, Deed, Gather, Ingest, Install, IsReady, IsState, Looks, Refused, Turn, Turns, Works}
use Rattle.lsm_crash.proofs.Refusals.{gather_stays, ingest_stays, install_stays}
use Rattle.lsm_crash.proofs.Turning.{turn_keeps}
use Rattle.lsm_crash.proofs.Worlds.{TablesChange, from_either}

pair_table : (a b : ℕ × Table) → a ≡ b → a.1 ≡ b.1
pair_table a b e = ap (λ (p : ℕ × Table). p.1) e

added_of : (level n : ℕ) (ts : List Table) (t : Table) → Has (added_at level ts) (n, t) → Has ts t
added_of level n [] t h = absurd h
added_of level n (u ∷ ts) t (inl e) = inl (pair_table (level, u) (n, t) e)
added_of level n (u ∷ ts) t (inr h) = inr (added_of level n ts t h)

-- each record of the version stands for a table
abbrev pub WholeTables : Levels → Type 0
WholeTables v = (level : ℕ) (t : Table) → Has (level_in v.tables level) t → IsWhole t

pub sound_state : (honest : Type 0) (board : TableId) (h : Held) → honest → IsState honest board h → WholeTables h.slots.version → IsSound h.slots.version
sound_state honest board h fair l whole = record {
  lawful = (l.0.law.meaning fair).lawful;
  tables = whole;
  reached = λ F e a b. (l.0.law.meaning fair).reached e (has_flat (λ (G : File). G.entries) (files h.slots.version) F e a b);
}

module _ (law : TablesChange) (honest : Type 0) (board : TableId) (fair : honest) where
  -- tables that come are whole
  changed_whole : (d : Difference) (u v w : Levels) → length u.tables ≡ 7 → length w.tables ≡ 7 → u ≡ v → w ≡ changed_by d u → WholeTables v → ((level : ℕ) (t : Table) → Has d.added (level, t) → IsWhole t) → WholeTables w
  changed_whole d u v w seven seven' same is whole come level t h =
      elim (from_either law d u level t seven (ap (λ (x : Levels). length x.tables) (sym is) ∙ seven') (subst (λ (x : Levels). Has (level_in x.tables level) t) is h)) [
        | inl k ↦ whole level t (subst (λ (x : Levels). Has (level_in x.tables level) t) same k)
        | inr k ↦ come level t k
      ]

  same_whole : (v w : Levels) → w ≡ v → WholeTables v → WholeTables w
  same_whole v w same whole = subst WholeTables (sym same) whole

  pub deed_whole : (old new : Held) (deed : Deed) (asks : List Asked) (w : World) → IsState honest board old → IsState honest board new → Asks honest old new deed asks → IsReady honest deed w → WholeTables old.slots.version → WholeTables new.slots.version
  deed_whole old new (Ingest ws r) asks w lo ln a ready whole =
      let i = a.3 in
      changed_whole (coming_in i.table (last_of old ws)) i.slots.version old.slots.version new.slots.version (ap (λ (x : Levels). length x.tables) i.sought.looked.version ∙ lo.0.journaled.1.own.seven) ln.0.journaled.1.own.seven i.sought.looked.version i.changes.published.version_is whole
      (λ level t h. elim h [ inl e ↦ subst IsWhole (pair_table (0, i.table) (level, t) e) i.is_table.whole | inr none ↦ absurd none ])
  deed_whole old new (Install done) asks w lo ln a ready whole =
      let i = a.3 in
      changed_whole i.change i.slots.version old.slots.version new.slots.version (ap (λ (x : Levels). length x.tables) i.sought.looked.version ∙ lo.0.journaled.1.own.seven) ln.0.journaled.1.own.seven i.sought.looked.version i.changes.published.version_is whole
      (λ level t h. ready.3.whole fair t (added_of (suc done.work.level) level done.outputs t (subst (λ (xs : List (ℕ × Table)). Has xs (level, t)) i.its.added h)))
  deed_whole old new (Gather number) asks w lo ln a ready whole =
      let i = a.2 in
      changed_whole i.change i.slots.version old.slots.version new.slots.version (ap (λ (x : Levels). length x.tables) i.sought.looked.version ∙ lo.0.journaled.1.own.seven) ln.0.journaled.1.own.seven i.sought.looked.version i.changes.published.version_is whole
      (λ level t h. elim (subst (λ (xs : List (ℕ × Table)). Has xs (level, t)) i.its.added h) [ inl e ↦ subst IsWhole (pair_table (0, i.table) (level, t) e) i.is_table.whole | inr none ↦ absurd none ])
  deed_whole old new (Collect removed) asks w lo ln a ready whole = same_whole old.slots.version new.slots.version a.3.looked.version whole

  turn_whole : (old new : Held) (turn : Turn) (w u : World) (d e : Disk) → IsState honest board old → IsState honest board new → old.next < 2 ^ 64 → Turns honest board old new turn w u d e → WholeTables old.slots.version → WholeTables new.slots.version
  turn_whole old new (Answered deed) w u d e lo ln small h whole = deed_whole old new deed h.1 w lo ln h.2 h.3 whole
  turn_whole old new (Refused (Ingest ws r)) w u d e lo ln small h whole = same_whole old.slots.version new.slots.version (ingest_stays old new ws h.2.0 h.2.1 h.2.2 h.2.3 small h.3).version whole
  turn_whole old new (Refused (Install done)) w u d e lo ln small h whole = same_whole old.slots.version new.slots.version (install_stays old new done h.2.0 h.2.1 h.2.2 h.2.3 small h.3).version whole
  turn_whole old new (Refused (Gather number)) w u d e lo ln small h whole = same_whole old.slots.version new.slots.version (gather_stays honest old new h.2.0 h.2.1 h.2.2 h.2.3 small h.3).version whole
  turn_whole old new (Refused (Collect removed)) w u d e lo ln small h whole = elim h.2.4 [
    | inl halted ↦ subst (λ (x : Held). WholeTables x.slots.version) (sym halted.2) whole
    | inr early ↦ same_whole old.slots.version new.slots.version early.1.looked.version whole
  ]
  turn_whole old new (Builds number image) w u d e lo ln small h whole = subst (λ (x : Held). WholeTables x.slots.version) (sym h.0) whole
  turn_whole old new Looks w u d e lo ln small h whole = same_whole old.slots.version new.slots.version h.0.version whole

  pub works_whole : (turns : List Turn) (old new : Held) (w u : World) (d e : Disk) → IsState honest board old → IsSettled d w → IsWorldOf old w → Works honest board old new turns w u d e → WholeTables old.slots.version → WholeTables new.slots.version
  works_whole [] old new w u d e lo i o h whole = subst (λ (x : Held). WholeTables x.slots.version) (sym h.0) whole
  works_whole (turn ∷ turns) old new w u d e lo i o h whole =
      let r = turn_keeps law honest board old h.0 turn w h.1 d h.2 lo h.3 i o h.4 in
      works_whole turns h.0 new h.1 u h.2 e h.3 r.0 r.1 h.6 (turn_whole old h.0 turn w h.1 d h.2 lo h.3 o.fits h.4 whole)
