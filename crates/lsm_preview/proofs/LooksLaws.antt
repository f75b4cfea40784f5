-- What a shelf was told that only reads.
use Rattle.std.proofs.Common.{◌≡◌, ◌∙◌, ℕ, List, refl, inl, inr}
use Rattle.lsm_shelf.specs.Told.{Becomes, Told, listing}
use Rattle.lsm_log_files.specs.Source.{ReadsManifest}
use Rattle.lsm_preview.specs.Tables.{OnlyLooks}

pub looks_none : (t : Told) → OnlyLooks t t
looks_none t = record {
  place = refl;
  puts = refl;
  gone = refl;
  starts = refl;
  written = refl;
  forks = refl;
  made = refl;
}

pub looks_then : (a b c : Told) → OnlyLooks a b → OnlyLooks b c → OnlyLooks a c
looks_then a b c p q = record {
  place = q.place ∙ p.place;
  puts = q.puts ∙ p.puts;
  gone = q.gone ∙ p.gone;
  starts = q.starts ∙ p.starts;
  written = q.written ∙ p.written;
  forks = q.forks ∙ p.forks;
  made = q.made ∙ p.made;
}

pub becomes_looks : (a b : Told) → Becomes a b → OnlyLooks a b
becomes_looks a b h = record {
  place = h.place;
  puts = h.puts;
  gone = h.gone;
  starts = h.starts;
  written = h.written;
  forks = h.forks;
  made = h.made;
}

pub listing_looks : (numbers : List ℕ) (a b : Told) → Becomes (listing numbers a) b
    → OnlyLooks a b
listing_looks numbers a b h = record {
  place = h.place;
  puts = h.puts;
  gone = h.gone;
  starts = h.starts;
  written = h.written;
  forks = h.forks;
  made = h.made;
}

pub reading_looks : (a b : Told) → ReadsManifest a b → OnlyLooks a b
reading_looks a b (inl h) = becomes_looks a b h
reading_looks a b (inr (number, bytes, h)) = record {
  place = h.place;
  puts = h.puts;
  gone = h.gone;
  starts = h.starts;
  written = h.written;
  forks = h.forks;
  made = h.made;
}
