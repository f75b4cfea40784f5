-- Calls of a shelf one after another.
use Rattle.std.proofs.Common.{◌≡◌, ℕ, ◌+◌, refl, sym, ◌∙◌, arith, subst}
use Rattle.lsm_shelf.specs.Refusals.{IsWantOr}
use Rattle.lsm_shelf.specs.Told.{Place, Told, Becomes, Counted, Forked, IsUntoldFork, fork_at}
use Rattle.lsm_shelf.specs.Told.{forking}
use Rattle.lsm_shelf.specs.declared.shelf_fault.ShelfFault.{ShelfFault}
use Rattle.lsm_shelf.specs.declared.shelf_fault.ShelfFault.TheVariants as why

-- no call
pub becomes_same : (t : Told) → Becomes t t
becomes_same t = record { place = refl; faults = omega arith; misses = omega arith; puts = refl; gone = refl; listed = refl; manifest = refl; sent = refl; found = refl; starts = refl; written = refl; forks = refl; made = refl }

pub becomes_then : (a b c : Told) → Becomes a b → Becomes b c → Becomes a c
becomes_then a b c p q = record {
  place = q.place ∙ p.place;
  faults = (let x = p.faults in let y = q.faults in omega arith);
  misses = (let x = p.misses in let y = q.misses in omega arith);
  puts = q.puts ∙ p.puts;
  gone = q.gone ∙ p.gone;
  listed = q.listed ∙ p.listed;
  manifest = q.manifest ∙ p.manifest;
  sent = q.sent ∙ p.sent;
  found = q.found ∙ p.found;
  starts = q.starts ∙ p.starts;
  written = q.written ∙ p.written;
  forks = q.forks ∙ p.forks;
  made = q.made ∙ p.made;
}

pub place_then : (a b : Told) → Becomes a b → b.place ≡ a.place
place_then a b p = p.place

-- a refusal after other calls
pub counted_later : (e : ShelfFault) (a b c : Told) → Becomes a b → Counted e b c → Counted e a c
counted_later why.OutOfMemory a b c p q = tt
counted_later why.Device a b c p q = let x = p.faults in omega arith
counted_later why.Missing a b c p q = let x = p.misses in omega arith
counted_later (why.Taken n) a b c p q = let x = p.misses in omega arith

-- a refusal before other calls
pub counted_before : (e : ShelfFault) (a b c : Told) → Counted e a b → Becomes b c → Counted e a c
counted_before why.OutOfMemory a b c p q = tt
counted_before why.Device a b c p q = let x = q.faults in omega arith
counted_before why.Missing a b c p q = let x = q.misses in omega arith
counted_before (why.Taken n) a b c p q = let x = q.misses in omega arith

-- ---- forks

pub forked_none : (t : Told) → Forked t t
forked_none t = (0, record { place = refl; faults = omega arith; misses = omega arith; puts = refl; gone = refl; listed = refl; manifest = refl; sent = refl; found = refl; starts = refl; written = refl; forks = omega arith; made = refl })

-- one fork
pub forked_once : (a b : Told) → Becomes (forking 1 a) b → Forked a b
forked_once a b p = (1, p)

-- other calls give none
pub forked_same : (a b : Told) → Becomes a b → Forked a b
forked_same a b p = (0, record { place = p.place; faults = p.faults; misses = p.misses; puts = p.puts; gone = p.gone; listed = p.listed; manifest = p.manifest; sent = p.sent; found = p.found; starts = p.starts; written = p.written; forks = (let x = p.forks in omega arith); made = p.made })

pub forked_then : (a b c : Told) → Forked a b → Forked b c → Forked a c
forked_then a b c p q = (
  p.0 + q.0,
  record {
    place = q.1.place ∙ p.1.place;
    faults = (let x = p.1.faults in let y = q.1.faults in omega arith);
    misses = (let x = p.1.misses in let y = q.1.misses in omega arith);
    puts = q.1.puts ∙ p.1.puts;
    gone = q.1.gone ∙ p.1.gone;
    listed = q.1.listed ∙ p.1.listed;
    manifest = q.1.manifest ∙ p.1.manifest;
    sent = q.1.sent ∙ p.1.sent;
    found = q.1.found ∙ p.1.found;
    starts = q.1.starts ∙ p.1.starts;
    written = q.1.written ∙ p.1.written;
    forks = (let x = p.1.forks in let y = q.1.forks in omega arith);
    made = q.1.made ∙ p.1.made;
  },
)

pub forked_place : (a b : Told) → Forked a b → b.place ≡ a.place
forked_place a b p = p.1.place

-- a fork of this number is one
pub untold_of : (t : Told) (p : Place) (number : ℕ) → t ≡ fork_at p number → IsUntoldFork t
untold_of t p number e = subst IsUntoldFork (sym e) refl

-- a refusal after forks
pub counted_after_forks : (e : ShelfFault) (a b c : Told) → Forked a b → Counted e b c → Counted e a c
counted_after_forks why.OutOfMemory a b c p q = tt
counted_after_forks why.Device a b c p q = let x = p.1.faults in omega arith
counted_after_forks why.Missing a b c p q = let x = p.1.misses in omega arith
counted_after_forks (why.Taken n) a b c p q = let x = p.1.misses in omega arith

-- a refusal of this kind, told as it is
pub want_or : (Refused : ShelfFault → Type 0) (e : ShelfFault) → Refused e → IsWantOr Refused e
want_or Refused why.OutOfMemory r = tt
want_or Refused why.Device r = r
want_or Refused why.Missing r = r
want_or Refused (why.Taken n) r = r

-- a refusal of a kind that is another kind's too
pub want_more : (Refused More : ShelfFault → Type 0) → ((f : ShelfFault) → Refused f → More f) → (e : ShelfFault) → IsWantOr Refused e → IsWantOr More e
want_more Refused More each why.OutOfMemory w = tt
want_more Refused More each why.Device w = each why.Device w
want_more Refused More each why.Missing w = each why.Missing w
want_more Refused More each (why.Taken n) w = each (why.Taken n) w
