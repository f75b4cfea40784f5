-- Reservations of live jobs.
use Rattle.std.proofs.Common.{◌≡◌, ℕ, suc, map, List, [], ◌∷◌, ◌++◌, refl, sym, ◌∙◌, ap, inl, inr}
use Rattle.std.proofs.lemmas.List.{map-append}
use Rattle.lsm_codec.specs.Lists.{Has}
use Rattle.lsm_table.specs.Registry.{Table}
use Rattle.lsm_model.specs.Files.{File}
use Rattle.lsm_version.specs.Versions.{files_of}
use Rattle.lsm_picker.specs.Reservations.{Reserved, reserved_of}
use Rattle.lsm_merge.specs.Work.{Work, job_of}
use Rattle.lsm_live.specs.Booked.{Booked}
use Rattle.lsm_live.specs.Reserving.{reserved_jobs}

level_numbers : (level : ℕ) (ts : List Table) → map (λ (F : File). F.number) (files_of level ts) ≡ map (λ (t : Table). t.number) ts
level_numbers level [] = refl
level_numbers level (t ∷ ts) = ap (λ (ns : List ℕ). t.number ∷ ns) (level_numbers level ts)

pub input_numbers : (w : Work) → map (λ (t : Table). t.number) w.upper ++ map (λ (t : Table). t.number) w.lower ≡ map (λ (F : File). F.number) (job_of w).inputs
input_numbers w = sym (
    map-append (λ (F : File). F.number) (files_of w.level w.upper) (files_of (suc w.level) w.lower)
    ∙ (ap (λ (ns : List ℕ). ns ++ map (λ (F : File). F.number) (files_of (suc w.level) w.lower)) (level_numbers w.level w.upper)
    ∙ ap (λ (ns : List ℕ). map (λ (t : Table). t.number) w.upper ++ ns) (level_numbers (suc w.level) w.lower))
    )

-- a live job has a reservation, and each reservation is a live job's
pub reserved_has : (live : List Booked) (b : Booked) → Has live b → Has (reserved_jobs live) (reserved_of (job_of b.work))
reserved_has [] b h = absurd h
reserved_has (c ∷ live) b (inl e) = inl (ap (λ (x : Booked). reserved_of (job_of x.work)) e)
reserved_has (c ∷ live) b (inr h) = inr (reserved_has live b h)

abbrev pub reserved : ℕ → ℕ → List ℕ → List ℕ → List ℕ → Reserved
reserved t l ns k m = record { ticket = t; level = l; inputs = ns; low = k; high = m }

pub reserved_is : (w : Work) (ticket level : ℕ) (inputs low high : List ℕ) → ticket ≡ w.ticket → level ≡ w.level → inputs ≡ map (λ (F : File). F.number) (job_of w).inputs → low ≡ w.low → high ≡ w.high
    → reserved ticket level inputs low high ≡ reserved_of (job_of w)
reserved_is w ticket level inputs low high a b c d e =
    ap (λ n. reserved n level inputs low high) a
    ∙ (ap (λ n. reserved w.ticket n inputs low high) b
    ∙ (ap (λ ns. reserved w.ticket w.level ns low high) c
    ∙ (ap (λ k. reserved w.ticket w.level (map (λ (F : File). F.number) (job_of w).inputs) k high) d
    ∙ ap (λ k. reserved w.ticket w.level (map (λ (F : File). F.number) (job_of w).inputs) w.low k) e)))
