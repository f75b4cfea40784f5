-- What one edit more makes of the version that edits come to.
use Rattle.std.proofs.Common.{◌≡◌, ℕ, ◌≤◌, ◌↔◌, List, [], ◌∷◌, ◌++◌, Some, None, get_or, sym, ◌∙◌, ap, inl, inr, ◌⊎◌}
use Rattle.std.specs.Prelude.{unwrap_or}
use Rattle.std.specs.Option.{option_or}
use Rattle.lsm_codec.specs.Lists.{Has}
use Rattle.lsm_manifest.specs.EditFit.{Change}
use Rattle.lsm_manifest.specs.FileOrder.{TableFile}
use Rattle.lsm_manifest.specs.Replay.{IsInnocent, deletion_of, last_log, last_next, last_prev_log, last_sequence, pointer_in}
use Rattle.lsm_manifest.specs.WholeEdit.{placed_at}
use Rattle.lsm_manifest.proofs.CallerLemmas.{innocent_push, last_by-push, snoc_stands, stands_snoc}
use Rattle.lsm_version.specs.Versions.{Levels}
use Rattle.lsm_journal.specs.Recorded.{ComesTo, IsFileAt, IsStanding}

-- The edit turns the version v into w: it is innocent, it has all numbers, and its files and pointers are the change.
pub record Turns (edits : List Change) (e : Change) (v w : Levels) (log prev_log next : ℕ) : Type 0 where
  pub innocent : IsInnocent edits e
  pub files : (level : ℕ) (file : TableFile) → IsFileAt w level file ↔ ((IsFileAt v level file × (Has e.deleted (deletion_of (placed_at level file)) → ⊥)) ⊎ Has e.added (placed_at level file))
  pub pointers : (level : ℕ) → level ≤ 6 → get_or w.pointers level None ≡ option_or (pointer_in level e.pointers) (get_or v.pointers level None)
  pub log_is : e.log ≡ Some log
  pub prev_log_is : e.prev_log ≡ Some prev_log
  pub next_is : e.next ≡ Some next
  pub last_is : e.last ≡ Some w.last

-- one edit more, and the version that it makes
pub comes_more : (edits : List Change) (e : Change) (v w : Levels) (log prev_log next : ℕ) → IsStanding edits v → Turns edits e v w log prev_log next
    → ComesTo (edits ++ e ∷ []) w log prev_log next
comes_more edits e v w log prev_log next c t = record {
  standing = record {
    innocent = innocent_push edits e c.innocent t.innocent;
    files = λ level file. (
      λ h. snoc_stands edits e (placed_at level file) (elim ((t.files level file).0 h) [ inl s ↦ inl ((c.files level file).0 s.0, s.1) | inr k ↦ inr k ]),
      λ h. (t.files level file).1 (elim (stands_snoc edits e (placed_at level file) h) [ inl s ↦ inl ((c.files level file).1 s.0, s.1) | inr k ↦ inr k ]),
    );
    pointers = λ level low. t.pointers level low ∙ (ap (option_or (pointer_in level e.pointers)) (c.pointers level low) ∙ sym (last_by-push (λ (x : Change). pointer_in level x.pointers) edits e));
  };
  log_is = last_by-push (λ (x : Change). x.log) edits e ∙ ap (λ o. option_or o (last_log edits)) t.log_is;
  prev_log_is = ap (λ o. unwrap_or o 0) (last_by-push (λ (x : Change). x.prev_log) edits e ∙ ap (λ o. option_or o (last_prev_log edits)) t.prev_log_is);
  next_is = last_by-push (λ (x : Change). x.next) edits e ∙ ap (λ o. option_or o (last_next edits)) t.next_is;
  last_is = last_by-push (λ (x : Change). x.last) edits e ∙ ap (λ o. option_or o (last_sequence edits)) t.last_is;
}
