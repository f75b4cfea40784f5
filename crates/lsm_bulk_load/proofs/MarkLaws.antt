-- How far a store is.
use Rattle.std.proofs.Common.{◌≡◌, ℕ, suc, ◌+◌, List, [], ◌∷◌, ◌++◌, length, refl, sym, ap, ◌∙◌, subst, length-append, inl, inr, arith}
use Rattle.std.proofs.Math.Logic.{∥∥₁_elim, ∥∥₁_map}
use Rattle.std.proofs.Props.{props}
use Rattle.lsm_codec.specs.Entries.{Entry}
use Rattle.lsm_history.specs.History.{IsLater}
use Rattle.lsm_model.specs.Plain.{Plain}
use Rattle.lsm_shelf.specs.Asked.{Asked}
use Rattle.lsm_shelf.specs.Told.{Told}
use Rattle.lsm_shelf.specs.declared.shelf_fault.ShelfFault.{ShelfFault}
use Rattle.lsm_batch.specs.Batches.{entries_from}
use Rattle.lsm_batch.specs.declared.write.Write.{Write}
use Rattle.lsm_version.specs.Changes.{changed}
use Rattle.lsm_version.specs.Versions.{Levels}
use Rattle.lsm_state.specs.Held.{Held}
use Rattle.lsm_state.specs.Ingesting.{Ingests}
use Rattle.lsm_state.specs.declared.ingest.Ingested.{Ingested}
use Rattle.lsm_state.specs.declared.state_fault.StateFault.{StateFault}
use Rattle.lsm_store.specs.Background.{BringsIn, IsBroughtIn, IsKeptByIngest, IsKeptOut}
use Rattle.lsm_store.specs.Compacting.{IsKeptByCompaction, IsSeated}
use Rattle.lsm_bulk_load.specs.Coming.{ComesNext}
use Rattle.lsm_bulk_load.specs.Keeping.{IsKeptByLearning, IsKeptSince, IsLearnt, IsTaken}
use Rattle.lsm_bulk_load.specs.Marks.{IsBehind, IsEven, Marked, marked_in}

-- ---- lists

entries_length : (n : ℕ) (ws : List Write) → length (entries_from n ws) ≡ length ws
entries_length n [] = refl
entries_length n (w ∷ ws) = ap suc (entries_length (suc n) ws)

-- two lists of one length that end the same list
pub same_tails : {A : Type 0} (a b x y : List A) → a ++ x ≡ b ++ y → length x ≡ length y → (a ≡ b) × (x ≡ y)
same_tails [] [] x y e n = (refl, e)
same_tails [] (d ∷ b) x y e n = absurd (omega (arith, n, ap length e, length-append b y))
same_tails (c ∷ a) [] x y e n = absurd (omega (arith, n, ap length e, length-append a x))
same_tails {A} (c ∷ a) (d ∷ b) x y e n =
    let whole : c ∷ (a ++ x) ≡ d ∷ (b ++ y) = e in
    let head : c ≡ d = cc in
    let tail : a ++ x ≡ b ++ y = cc in
    let rest = same_tails a b x y tail n in
    (ap (λ (z : A). z ∷ a) head ∙ ap (λ (l : List A). d ∷ l) rest.0, rest.1)

none_in : {A : Type 0} (a : List A) → length a ≡ 0 → a ≡ []
none_in [] e = refl
none_in (c ∷ a) e = absurd (omega (arith, e))

-- ---- marks

abbrev mark_of : List Entry → ℕ → Marked
mark_of es n = record { history = es; last = n }

pub same_marked : (a b : Marked) → a.history ≡ b.history → a.last ≡ b.last → a ≡ b
same_marked a b history last = ap (λ (es : List Entry). mark_of es a.last) history ∙ ap (λ (n : ℕ). mark_of b.history n) last

-- a state whose sequences say that nothing came in since is just as far as the mark
pub at_mark : (found now mark : Marked) → IsEven found now → IsEven found mark → now.last ≡ mark.last → IsLater now.history mark.history → now ≡ mark
at_mark found now mark even even_mark last later =
    let count : length now.history ≡ length later.0 + length mark.history = ap length later.1 ∙ length-append later.0 mark.history in
    let none : later.0 ≡ [] = none_in later.0 (omega (arith, count, even, even_mark, last)) in
    same_marked now mark (later.1 ∙ ap (λ (es : List Entry). es ++ mark.history) none) last

-- the batch that came in is all that came in since the mark
pub next_is : (found mark now was : Marked) (ws : List Write) (came : Ingested) (after : List Entry) → IsEven found was → came.first ≡ suc was.last → came.last ≡ was.last + length ws
    → after ≡ entries_from (suc was.last) ws ++ was.history → IsBehind found mark came after now → ComesNext ws mark now
next_is found mark now was ws came after even first last grown b =
    let entries = entries_from (suc was.last) ws in
    let same_last : was.last ≡ mark.last = omega (arith, first, b.first) in
    let now_last : now.last ≡ mark.last + length ws = omega (arith, b.last, last, same_last) in
    let counts : length was.history ≡ length mark.history = omega (arith, even, b.even_before, same_last) in
    let more = b.later_too in
    let after_count : length after ≡ length ws + length was.history = ap length grown ∙ length-append entries was.history ∙ ap (λ n. n + length was.history) (entries_length (suc was.last) ws) in
    let now_count : length now.history ≡ length more.0 + length after = ap length more.1 ∙ length-append more.0 after in
    let none : more.0 ≡ [] = none_in more.0 (omega (arith, now_count, after_count, b.even, even, now_last, same_last)) in
    let whole : now.history ≡ entries ++ was.history = more.1 ∙ ap (λ (es : List Entry). es ++ after) none ∙ grown in
    let parts = same_tails b.later.0 entries mark.history was.history (sym b.later.1 ∙ whole) (sym counts) in
    record {
      history = b.later.1 ∙ ap (λ (es : List Entry). es ++ mark.history) parts.0 ∙ ap (λ n. entries_from (suc n) ws ++ mark.history) same_last;
      last = now_last;
    }

-- ---- what the lock keeps

pub even_first : (found : Marked) → IsEven found found
even_first found = refl

pub even_out : (keeps : Held → Type 0) (found : Marked) (h : Held) → ∥ IsKeptSince keeps found h ∥₁ → IsEven found (marked_in h)
even_out keeps found h t = ∥∥₁_elim t (Prim.hlevel props) (λ k. k.1)

pub fact_out : (keeps : Held → Type 0) (found : Marked) (h : Held) → ∥ IsKeptSince keeps found h ∥₁ → ∥ keeps h ∥₁
fact_out keeps found h t = ∥∥₁_map t (λ k. k.0)

even_seated : (found : Marked) (was is : Held) → found ≡ marked_in was → IsSeated was is → IsEven found (marked_in is)
even_seated found was is at seated =
    subst (λ (h : Held). IsEven found (marked_in h)) (sym seated.1) (subst (λ (m : Marked). IsEven found m) at (even_first found))

pub kept_seated : (keeps : Held → Type 0) (found : Marked) (was is : Held) → found ≡ marked_in was → ((h : Held) → IsTaken was h → keeps h) → IsSeated was is → IsKeptSince keeps found is
kept_seated keeps found was is at first seated =
    (first is (inr seated), even_seated found was is at seated)

pub kept_compacting : (Honest : Type 0) (keeps : Held → Type 0) (found : Marked) → IsKeptByCompaction Honest keeps → IsKeptByCompaction Honest (IsKeptSince keeps found)
kept_compacting Honest keeps found kept was is step k = (kept was is step k.0, omega (arith, k.1, ap length step.found.history, step.found.last))

pub kept_learning : (keeps : Held → Type 0) (found : Marked) (was is : Held) → IsKeptByLearning keeps → IsLearnt was is → IsKeptSince keeps found was → IsKeptSince keeps found is
kept_learning keeps found was is kept learnt k = (kept was is learnt k.0, subst (λ (m : Marked). IsEven found m) (sym (ap marked_in learnt)) k.1)

-- a batch that came in at one taking of the lock, and then the mark behind it
pub came_next : (keeps : Held → Type 0) (found mark now : Marked) (ws : List Write) (r : Ingested × List Entry) (t u : Told) → IsBroughtIn (IsKeptSince keeps found) ws r t u
    → IsBehind found mark r.0 r.1 now → ComesNext ws mark now
came_next keeps found mark now ws r t u b behind =
    next_is found mark now (marked_in b.0) ws r.0 r.1 (even_out keeps found b.0 b.2) b.3.ingests.first b.3.ingests.last (b.4 ∙ b.3.history) behind

-- the last sequence after an ingest
pub ingested_last : (old new : Held) (ws : List Write) (r : Ingested) (was is : Told) → Ingests old new ws r was is → new.slots.version.last ≡ old.slots.version.last + length ws
unfolding changed
ingested_last old new ws r was is i = ap (λ (v : Levels). v.last) i.changes.published.version_is

even_in : (found : Marked) (was is : Held) (ws : List Write) (r : Ingested) (t u : Told) → BringsIn was is ws r t u → IsEven found (marked_in was) → IsEven found (marked_in is)
even_in found was is ws r t u b even =
    let entries = entries_from (suc was.slots.version.last) ws in
    let count : length is.history ≡ length ws + length was.history =
    ap length b.history ∙ length-append entries was.history ∙ ap (λ n. n + length was.history) (entries_length (suc was.slots.version.last) ws) in
    omega (arith, even, count, ingested_last was is ws r t u b.ingests)

even_stays : (found : Marked) (was is : Held) → is.history ≡ was.history → is.slots.version.last ≡ was.slots.version.last → IsEven found (marked_in was) → IsEven found (marked_in is)
even_stays found was is history last even = omega (arith, even, ap length history, last)

pub even_ingest : (Refused : Asked → ShelfFault → Type 0) (found : Marked) (ws : List Write) → IsKeptByIngest Refused ws (λ h. IsEven found (marked_in h))
even_ingest Refused found ws was is (inl b) even = even_in found was is ws b.0 b.1 b.2 b.3 even
even_ingest Refused found ws was is (inr k) even = even_stays found was is k.3.history (ap (λ (s : Plain). s.last) k.3.event.2) even

pub kept_ingest : (Refused : Asked → ShelfFault → Type 0) (keeps : Held → Type 0) (found : Marked) (ws : List Write) → IsKeptByIngest Refused ws keeps → IsKeptByIngest Refused ws (IsKeptSince keeps found)
kept_ingest Refused keeps found ws kept was is step k = (kept was is step k.0, even_ingest Refused found ws was is step k.1)

-- a batch that came in at one taking of the lock, where more held of the state than is told
pub brought_in : (keeps : Held → Type 0) (found : Marked) (ws : List Write) (r : Ingested × List Entry) (t u : Told) → IsBroughtIn (IsKeptSince keeps found) ws r t u → IsBroughtIn keeps ws r t u
brought_in keeps found ws r t u b = (b.0, b.1, fact_out keeps found b.0 b.2, b.3, b.4)

-- a batch that was refused at one taking of the lock
pub kept_out : (Refused : Asked → ShelfFault → Type 0) (keeps : Held → Type 0) (found : Marked) (ws : List Write) (e : StateFault) (t u : Told) → IsKeptOut Refused (IsKeptSince keeps found) ws e t u
    → IsKeptOut Refused keeps ws e t u
kept_out Refused keeps found ws e t u k = (k.0, k.1, fact_out keeps found k.0 k.2, k.3)
