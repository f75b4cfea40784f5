-- The tickets for which numbers are asked.
use Rattle.std.proofs.Common.{◌≡◌, ℕ, List, [], ◌∷◌, ◌++◌, sym, ◌∙◌, ap, inl, inr, append_assoc}
use Rattle.lsm_codec.proofs.CallerLemmas.{has_cases}
use Rattle.lsm_block.specs.declared.build_fault.BuildFault.{BuildFault}
use Rattle.lsm_block.specs.declared.build_fault.BuildFault.TheVariants as build
use Rattle.lsm_merge.specs.declared.merge_fault.MergeFault.{MergeFault}
use Rattle.lsm_merge.specs.declared.merge_fault.MergeFault.TheVariants.{OutOfMemory, ReadFailed, PutFailed, UnknownTicket, NumbersSpent}
use Rattle.lsm_merge.specs.Causes.{AnswersOf, AsksFor, NamesTicket}
use Rattle.lsm_merge.specs.Inputs.{IsOfReading}
use Rattle.lsm_merge.specs.MergeFault.{of_build}

pub asks_none : (ticket : ℕ) (old new : List ℕ) → new ≡ old → AsksFor ticket old new
asks_none ticket old new e = record { more = []; grown = e; each = λ t h. absurd h }

pub asks_once : (ticket : ℕ) (old new : List ℕ) → new ≡ ticket ∷ old → AsksFor ticket old new
asks_once ticket old new e = record { more = ticket ∷ []; grown = e; each = λ t h. elim h [ inl same ↦ sym same | inr none ↦ absurd none ] }

pub asks_then : (ticket : ℕ) (a b c : List ℕ) → AsksFor ticket a b → AsksFor ticket b c → AsksFor ticket a c
asks_then ticket a b c p q = record {
  more = q.more ++ p.more;
  grown = q.grown ∙ ap (λ (l : List ℕ). q.more ++ l) p.grown ∙ sym (append_assoc q.more p.more a);
  each = λ t h. elim (has_cases q.more p.more t h) [ inl k ↦ q.each t k | inr k ↦ p.each t k ];
}

pub names_of_build : (n : ℕ) (f : BuildFault) (ticket : ℕ) → NamesTicket (of_build n f) ticket
names_of_build n build.OutOfMemory ticket = tt
names_of_build n build.TooLarge ticket = tt

pub names_reading : (e : MergeFault) (ticket : ℕ) → IsOfReading e → NamesTicket e ticket
names_reading OutOfMemory ticket k = tt
names_reading (ReadFailed n f) ticket k = tt
names_reading (PutFailed n f) ticket k = tt
names_reading (UnknownTicket t) ticket k = absurd k
names_reading NumbersSpent ticket k = tt

-- a refusal that was none of the source's
pub names_put : (e : MergeFault) (ticket : ℕ) → ((answers : List ℕ) → AnswersOf e answers answers) → NamesTicket e ticket
names_put OutOfMemory ticket h = tt
names_put (ReadFailed n f) ticket h = tt
names_put (PutFailed n f) ticket h = tt
names_put (UnknownTicket t) ticket h = absurd (let none : [] ≡ 45 ∷ [] = h [] in cc none)
names_put NumbersSpent ticket h = tt
