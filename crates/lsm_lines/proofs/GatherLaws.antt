-- Lines that are taken, and their writes.
use Rattle.std.proofs.Common.{◌≡◌, ℕ, Bool, IsFalse, List, [], ◌∷◌, ◌++◌, Option, Some, None, refl}
use Rattle.std.proofs.Common.{sym, ap, ◌∙◌, subst, append_assoc, append-nil, inl, inr}
use Rattle.lsm_text.specs.EntryList.{lines_of}
use Rattle.lsm_batch.specs.Batches.{IsTooLarge}
use Rattle.lsm_batch.specs.declared.write.Write.{Write}
use Rattle.lsm_lines.specs.Lines.{SpellWrites, SpellsWrite}
use Rattle.lsm_lines.specs.declared.line_form.LineForm.{LineForm}
use Rattle.lsm_lines.specs.Reading.{BeginsWith, IsNextHeld, IsWhole, Lined, TakesLine, TakesWhole}
use Rattle.lsm_lines.specs.declared.line_reader.HeldLine.TheVariants as held
use Rattle.lsm_lines.specs.Gathering.{AreEnded, Pending, Reads, Stops, StopsBy, TakesLines}
use Rattle.lsm_lines.specs.Filling.{Fills, IsNoWrite}
use Rattle.lsm_lines.specs.declared.write_line_fault.WriteLineFault.{WriteLineFault}
use Rattle.lsm_lines.specs.declared.write_line_fault.WriteLineFault.TheVariants.{BadLine, LongLine}
use Rattle.lsm_lines.specs.declared.write_line_fault.WriteLineFault.TheVariants.{LargeWrite}
use Rattle.lsm_lines.specs.declared.write_line_fault.WriteLineFault.TheVariants.{NoNewline, Read}
use Rattle.lsm_lines.specs.declared.write_line_fault.WriteLineFault.TheVariants.{OutOfMemory}

-- ---- the first line of what is left

pub takes_begins : (line : List ℕ) (old new : Option (List ℕ)) → TakesLine line old new
    → BeginsWith line old
takes_begins line None new t = tt
takes_begins line (Some xs) None t = absurd t
takes_begins line (Some xs) (Some ys) t = (lines_of ys, t)

pub stops_at : (form : LineForm) (last : Bool) (line : List ℕ) (old new : Option (List ℕ))
    (fault : WriteLineFault) → TakesLine line old new → IsNoWrite form line fault
    → Stops form last old fault
stops_at form last line old new (BadLine place) t none = (line, takes_begins line old new t, none)
stops_at form last line old new OutOfMemory t none = tt
stops_at form last line old new LongLine t none = absurd none
stops_at form last line old new LargeWrite t none = absurd none
stops_at form last line old new NoNewline t none = absurd none
stops_at form last line old new Read t none = absurd none

pub stops_unended : (form : LineForm) (last : Bool) (old new : Lined) → IsFalse last
    → IsNextHeld old new held.Last → Stops form last old.left NoNewline
stops_unended form last old new not i =
    (not, (new.line, takes_begins new.line old.left new.left i.1, i.2))

pub stops_long : (form : LineForm) (last : Bool) (old new : Lined) → IsNextHeld old new held.TooLong
    → Stops form last old.left LongLine
stops_long form last old new i = (i.0, i.2, i.1)

-- ---- lines, one after another

pub takes_none : (old : Option (List ℕ)) → TakesLines [] old old
takes_none None = tt
takes_none (Some xs) = refl

pub takes_more : (lines : List (List ℕ)) (line : List ℕ) (old mid new : Option (List ℕ))
    → TakesLines lines old mid → TakesLine line mid new → TakesLines (lines ++ line ∷ []) old new
takes_more lines line None mid new t one = tt
takes_more lines line (Some xs) None new t one = absurd t
takes_more lines line (Some xs) (Some ys) None t one = absurd one
takes_more lines line (Some xs) (Some ys) (Some zs) t one =
    t ∙ ap (λ (ls : List (List ℕ)). lines ++ ls) one
    ∙ sym (append_assoc lines (line ∷ []) (lines_of zs))

spelled_more : (form : LineForm) (ls : List (List ℕ)) (ws : List Write) (l : List ℕ) (w : Write)
    → SpellWrites form ls ws → SpellsWrite form l w
    → SpellWrites form (ls ++ l ∷ []) (ws ++ w ∷ [])
spelled_more form [] [] l w h k = (k, tt)
spelled_more form [] (x ∷ ws) l w h k = absurd h
spelled_more form (x ∷ ls) [] l w h k = absurd h
spelled_more form (x ∷ ls) (y ∷ ws) l w h k = (h.0, spelled_more form ls ws l w h.1 k)

pub reads_none : (form : LineForm) (old : Option (List ℕ)) → Reads form old old []
reads_none form old = record { lines = []; taken = takes_none old; spelled = tt }

pub reads_more : (form : LineForm) (old mid new : Option (List ℕ)) (ws : List Write) (line : List ℕ)
    (w : Write) → Reads form old mid ws → TakesLine line mid new → SpellsWrite form line w
    → Reads form old new (ws ++ w ∷ [])
reads_more form old mid new ws line w r t spells = record {
  lines = r.lines ++ line ∷ [];
  taken = takes_more r.lines line old mid new r.taken t;
  spelled = spelled_more form r.lines ws line w r.spelled spells;
}

-- ---- texts that end with a newline

whole_then : (a b : List ℕ) → IsWhole a → IsWhole b → IsWhole (a ++ b)
whole_then a b x (inl none) = subst IsWhole (sym (ap (λ (l : List ℕ). a ++ l) none ∙ append-nil a))
    x
whole_then a b x (inr y) =
    inr (a ++ y.0, ap (λ (l : List ℕ). a ++ l) y.1 ∙ sym (append_assoc a y.0 (10 ∷ [])))

pub whole_none : (old : Option (List ℕ)) → TakesWhole old old
whole_none None = tt
whole_none (Some xs) = ([], refl, inl refl)

pub whole_more : (old mid new : Option (List ℕ)) → TakesWhole old mid → TakesWhole mid new
    → TakesWhole old new
whole_more None mid new t u = tt
whole_more (Some xs) None new t u = absurd t
whole_more (Some xs) (Some ys) None t u = absurd u
whole_more (Some xs) (Some ys) (Some zs) t u = (
  t.0 ++ u.0,
  t.1 ∙ ap (λ (l : List ℕ). t.0 ++ l) u.1 ∙ sym (append_assoc t.0 u.0 zs),
  whole_then
      t.0 u.0 t.2 u.2,
)

pub ended_none : (last : Bool) (old : Option (List ℕ)) → AreEnded last old old
ended_none last old h = whole_none old

pub ended_more : (last : Bool) (old mid new : Option (List ℕ)) → AreEnded last old mid
    → AreEnded last mid new → AreEnded last old new
ended_more last old mid new e f h = whole_more old mid new (e h) (f h)

-- ---- a buffer that is filled

pub fills_none : (form : LineForm) (last : Bool) (old : Option (List ℕ)) (before : List Write)
    → Fills form last old old before before
fills_none form last old before =
    record {
      writes = [];
      reads = reads_none form old;
      ended = ended_none last old;
      put =
          sym (append-nil before);
    }

pub fills_more : (form : LineForm) (last : Bool) (old mid new : Option (List ℕ))
    (before after : List Write) (line : List ℕ) (w : Write) → Fills form last old mid before after
    → TakesLine line mid new
    → SpellsWrite form line w → AreEnded last mid new
    → Fills form last old new before (after ++ w ∷ [])
fills_more form last old mid new before after line w f t spells ended = record {
  writes = f.writes ++ w ∷ [];
  ended = ended_more last old mid new f.ended ended;
  reads = reads_more form old mid new f.writes line w f.reads t spells;
  put = ap (λ (l : List Write). l ++ w ∷ []) f.put ∙ append_assoc before f.writes (w ∷ []);
}

-- the write of the next line would pass a limit
pub fills_over : (form : LineForm) (last : Bool) (old mid new : Option (List ℕ))
    (before after after' : List Write) (line : List ℕ) (w back : Write)
    → Fills form last old mid before after
    → TakesLine line mid new → SpellsWrite form line w → AreEnded last mid new → after' ≡ after
    → back ≡ w → IsTooLarge (after ++ w ∷ [])
    → Fills form last old new before (after' ++ back ∷ []) × IsTooLarge (after' ++ back ∷ [])
fills_over form last old mid new before after after' line w back f t spells ended same its large =
    let longer : after ++ w ∷ [] ≡ after' ++ back ∷ [] =
    ap (λ (l : List Write). l ++ w ∷ []) (sym same) ∙ ap (λ (v : Write). after' ++ v ∷ [])
    (sym its) in (
      subst (λ (l : List Write). Fills form last old new before l) longer
          (fills_more form last old mid new before after line w f t spells ended),
      subst IsTooLarge
          longer large,
    )

-- ---- what is gathered of what was to come

pub gathered : (form : LineForm) (last : Bool) (old new : Option (List ℕ))
    (before kept later after : List Write) → before ≡ kept
    → Fills form last old new before (after ++ later)
    → (writes : List Write) × Reads form old new writes × (kept ++ writes ≡ after ++ later)
    × AreEnded last old new
gathered form last old new before kept later after same f =
    (f.writes, f.reads, sym (f.put ∙ ap (λ (l : List Write). l ++ f.writes) same), f.ended)

pub gathered_all : (form : LineForm) (last : Bool) (old new : Option (List ℕ))
    (before kept after : List Write) → before ≡ kept → Fills form last old new before after
    → (writes : List Write) × Reads form old new writes × (kept ++ writes ≡ after ++ [])
    × AreEnded last old new
gathered_all form last old new before kept after same f = (
  f.writes,
  f.reads,
  sym
      (append-nil after ∙ f.put ∙ ap (λ (l : List Write). l ++ f.writes) same),
  f.ended,
)

pub gathered_none : (form : LineForm) (last : Bool) (old : Option (List ℕ))
    (kept after : List Write) → after ≡ []
    → (writes : List Write) × Reads form old old writes × (kept ++ writes ≡ after ++ kept)
    × AreEnded last old old
gathered_none form last old kept after none = (
  [],
  reads_none form old,
  append-nil kept ∙ ap (λ (l : List Write). l ++ kept) (sym none),
  ended_none last old,
)

pub stopped : (old : Pending) (ws before : List Write) (left : Option (List ℕ))
    (fault : WriteLineFault) → before ≡ old.held → Fills old.form old.last old.left left before ws
    → Stops old.form old.last left fault → StopsBy old ws fault
stopped old ws before left (BadLine place) same f s =
    (left, gathered_all old.form old.last old.left left before old.held ws same f, s)
stopped old ws before left LongLine same f s =
    (left, gathered_all old.form old.last old.left left before old.held ws same f, s)
stopped old ws before left LargeWrite same f s =
    (left, gathered_all old.form old.last old.left left before old.held ws same f, s)
stopped old ws before left NoNewline same f s =
    (left, gathered_all old.form old.last old.left left before old.held ws same f, s)
stopped old ws before left Read same f s =
    (left, gathered_all old.form old.last old.left left before old.held ws same f, s)
stopped old ws before left OutOfMemory same f s =
    (left, [], gathered_all old.form old.last old.left left before old.held ws same f)

-- the same, as the reader's fields give it
pub stopped_of : (v old : Pending) → v ≡ old
    → (ws before : List Write) (left : Option (List ℕ)) (fault : WriteLineFault) → before ≡ v.held
    → Fills v.form v.last v.left left before ws
    → Stops v.form v.last left fault → StopsBy old ws fault
stopped_of v old is ws before left fault same f s =
    subst (λ (p : Pending). StopsBy p ws fault) is (stopped v ws before left fault same f s)
