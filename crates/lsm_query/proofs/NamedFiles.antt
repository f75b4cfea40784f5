-- The files that are named where tables could not be read together.
use Rattle.std.proofs.Common.{◌≡◌, ℕ, List, [], ◌∷◌, ◌++◌, map, Option, Some, None, refl, sym, ◌∙◌, ap, subst, inl, inr, append-nil}
use Rattle.std.specs.List.{flat_map}
use Rattle.std.proofs.lemmas.Grind.{flat_map-append}
use Rattle.lsm_codec.specs.Lists.{Has}
use Rattle.lsm_codec.proofs.CallerLemmas.{has_cases}
use Rattle.lsm_table.specs.Registry.{Table}
use Rattle.lsm_table.specs.declared.read_fault.ReadFault.{ReadFault}
use Rattle.lsm_iterators.specs.Runs.{Left, files_at}
use Rattle.lsm_query.specs.Unread.{NamesOne}
use Rattle.lsm_query.specs.Runs.{AddsNamed, AreNamed, IsNumberIn, IsNumberOf}
use Rattle.lsm_version.specs.Versions.{level_in}

-- ---- one file

pub names_as : (P Q : ℕ → Type 0) (file : Option ℕ) (fault : ReadFault) → ((n : ℕ) → P n → Q n) → NamesOne P file fault → NamesOne Q file fault
names_as P Q None fault on h = h
names_as P Q (Some n) fault on h = on n h

pub number_of : (ts : List Table) (n : ℕ) → Has (map (λ t. t.number) ts) n → IsNumberOf ts n
number_of [] n h = absurd h
number_of (t ∷ ts) n (inl e) = (t, inl refl, e)
number_of (t ∷ ts) n (inr h) = (let r = number_of ts n h in (r.0, inr r.1, r.2))

pub number_within : (ts us : List Table) (n : ℕ) → ((t : Table) → Has us t → Has ts t) → Has (map (λ t. t.number) us) n → IsNumberOf ts n
number_within ts us n part h = (let r = number_of us n h in (r.0, part r.0 r.1, r.2))

-- ---- several

pub none_named : (P : ℕ → Type 0) → AreNamed P []
none_named P f h = absurd h

named_at : (depth : ℕ) (ns : List ℕ) (f : ℕ × ℕ) → Has (files_at depth ns) f → Has ns f.1
named_at depth [] f h = absurd h
named_at depth (n ∷ ns) f (inl e) = inl (ap (λ (g : ℕ × ℕ). g.1) e)
named_at depth (n ∷ ns) f (inr h) = inr (named_at depth ns f h)

pub files_pushed : (old new : List Left) (r : Left) → new ≡ old ++ r ∷ [] → flat_map (λ (l : Left). l.files) new ≡ flat_map (λ (l : Left). l.files) old ++ r.files
files_pushed old new r e =
    ap (flat_map (λ (l : Left). l.files)) e ∙ flat_map-append (λ (l : Left). l.files) old (r ∷ []) ∙ ap (λ (fs : List (ℕ × ℕ)). flat_map (λ (l : Left). l.files) old ++ fs) (append-nil r.files)

-- tables more as one run
pub files_more : (ts us : List Table) (depth : ℕ) (old new : List Left) (r : Left) → new ≡ old ++ r ∷ [] → r.files ≡ files_at depth (map (λ t. t.number) us) → ((t : Table) → Has us t → Has ts t)
    → AddsNamed (IsNumberOf ts) (flat_map (λ (l : Left). l.files) old) (flat_map (λ (l : Left). l.files) new)
files_more ts us depth old new r grown files part f h =
    elim (has_cases (flat_map (λ (l : Left). l.files) old) r.files f (subst (λ (l : List (ℕ × ℕ)). Has l f) (files_pushed old new r grown) h)) [
      | inl k ↦ inl k
      | inr k ↦ inr (number_within ts us f.1 part (named_at depth (map (λ t. t.number) us) f (subst (λ (l : List (ℕ × ℕ)). Has l f) files k)))
    ]

pub named_more : (P Q : ℕ → Type 0) (old new : List (ℕ × ℕ)) → ((n : ℕ) → Q n → P n) → AddsNamed Q old new → AreNamed P old → AreNamed P new
named_more P Q old new on add before f h = elim (add f h) [ inl k ↦ before f k | inr k ↦ on f.1 k ]

-- a table alone is one of the level's
pub one_within : (ts : List Table) (t u : Table) → u ≡ t → Has ts t → (n : ℕ) → IsNumberOf (u ∷ []) n → IsNumberOf ts n
one_within ts t u same h n (v, inl e, is) = (t, h, ap (λ (x : Table). x.number) (sym same ∙ e) ∙ is)
one_within ts t u same h n (v, inr none, is) = absurd none

pub named_in : (levels : List (List Table)) (n : ℕ) (ts : List Table) (number : ℕ) → level_in levels n ≡ ts → IsNumberOf ts number → IsNumberIn levels number
named_in levels n ts number is h = (n, subst (λ (us : List Table). IsNumberOf us number) (sym is) h)
